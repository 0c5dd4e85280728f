-- The machine stops, with what the recursion gives; and each step keeps the walk's invariant.
use mathlib.Core.Path.{◌≡◌, refl, ap, sym, ◌∙◌, subst}
use mathlib.Core.Bool.{Bool, true, false, cond}
use mathlib.Core.List.{List, [], ◌∷◌}
use Prim.Native.Nat.{ℕ, zero, suc, ◌+◌, ◌*◌, ◌≤◌, ◌<◌}
use native.Mathlib.Nat.{mul-le-mul_right}
use native.Mathlib.Omega.{arith}
use Rattle.arena.specs.References.{node_in}
use Rattle.arena.specs.Nodes.{PauliNode, Identity, Single, Product, Malformed, node_at}
use Rattle.arena.specs.Walk.{fine, bind, update, State, combine, eval}
use Rattle.arena.specs.Code.Machine.{Spot, spot, step_product, step_node, step_unless, step_top, run_path}
use Rattle.arena.specs.Code.WalkWords.{Trail, Wanted, sum, edge, edges, none, Inv}
use Rattle.arena.proofs.Walk.Outcomes.{update_same, update_other, Post, post-bind, bind-fine, bind-cong, lend-then}
use Rattle.arena.proofs.DecodedNodes.{Fits, node_fits}
use Rattle.arena.proofs.Walk.Sums.{sum-change}
use Rattle.arena.proofs.Walk.Uses.{edge_same}
use Rattle.arena.proofs.Walk.Invariant.{owes}
use Rattle.arena.proofs.Walk.Evaluates.{Good, combine-post, blank_good, single_good}
use Rattle.arena.proofs.Walk.MachineSteps.{resume, combine-done, eval-done, resume-step}

-- ---- paths

-- how many nodes are not done
abbrev pub undone : ℕ → State → ℕ
undone count s = sum count (λ j. cond (s.done j) 0 1)

abbrev pub top_of : List ℕ → ℕ
top_of [] = 0
top_of (i ∷ p) = suc i

-- what falls at each step: nodes not done, and then the top
abbrev pub left : ℕ → State → List ℕ → ℕ
left count s p = undone count s * suc count + top_of p

trail_keep : (count : ℕ) (s t : State) (lo : ℕ) (p : List ℕ) → ((j : ℕ) → lo ≤ j → t.done j ≡ s.done j)
    → Trail count s lo p → Trail count t lo p
trail_keep count s t lo [] h r = tt
trail_keep count s t lo (i ∷ p) h r = (r.0, r.1, h i r.0 ∙ r.2, trail_keep count s t (suc i) p (λ j l. h j (omega (arith, r.0))) r.3)

trail_low : (count : ℕ) (s : State) (lo : ℕ) (p : List ℕ) → Trail count s lo p → Trail count s 0 p
trail_low count s lo [] r = tt
trail_low count s lo (i ∷ p) r = (omega arith, r.1, r.2, r.3)

trail_top : (count : ℕ) (s : State) (lo : ℕ) (p : List ℕ) → Trail count s lo p → top_of p ≤ count
trail_top count s lo [] r = omega arith
trail_top count s lo (i ∷ p) r = r.1

undone-mark : (count : ℕ) (s t : State) (i : ℕ) → i < count → s.done i ≡ false → t.done ≡ update s.done i true
    → undone count s ≡ suc (undone count t)
undone-mark count s t i l d e = omega (arith, change, before, after)
  where
    f : ℕ → ℕ
    f j = cond (s.done j) 0 1

    g : ℕ → ℕ
    g j = cond (t.done j) 0 1

    change : sum count f + g i ≡ sum count g + f i
    change = sum-change count f g i l (λ j ne. ap (λ b. cond b 0 1) (sym (ap (λ f. f j) e ∙ update_other s.done i true j ne)))

    before : f i ≡ 1
    before = ap (λ b. cond b 0 1) d

    after : g i ≡ 0
    after = ap (λ b. cond b 0 1) (ap (λ f. f i) e ∙ update_same s.done i true)

-- ---- the bound

-- the path is still a trail, and less is left
pub record Stepped (count : ℕ) (before : ℕ) (q : Spot) : Type 0 where
  pub trail : Trail count q.state 0 q.path
  pub fewer : left count q.state q.path < before

module _ (limit room n count : ℕ) (node : ℕ → PauliNode) (fits : (i : ℕ) → Fits n i (node i)) where
  popped : (i lo : ℕ) (p : List ℕ) (s t : State) → Trail count s lo (i ∷ p) → t.done ≡ update s.done i true
      → Stepped count (left count s (i ∷ p)) (spot p t)
  popped i lo p s t r e = record {
    trail = trail_low count t (suc i) p
        (trail_keep count s t (suc i) p (λ j l. ap (λ f. f j) e ∙ update_other s.done i true j (λ q. omega arith)) r.3);
    fewer = rw (undone-mark count s t i r.1 r.2 e) (omega (arith, trail_top count s (suc i) p r.3));
  }

  pushed : (i j lo : ℕ) (p : List ℕ) (s : State) → Trail count s lo (i ∷ p) → j < i → s.done j ≡ false
      → Stepped count (left count s (i ∷ p)) (spot (j ∷ i ∷ p) s)
  pushed i j lo p s r h d = record { trail = (omega arith, omega (arith, r.1), d, (h, r.1, r.2, r.3)); fewer = omega arith }

  pub step_trail : (i lo : ℕ) (p : List ℕ) (s : State) → Trail count s lo (i ∷ p)
      → Post (step_top limit room node i p s) (Stepped count (left count s (i ∷ p)))
  step_trail i lo p s r = unless (s.done i) refl
    where
      Q : Spot → Type 0
      Q = Stepped count (left count s (i ∷ p))

      by_product : (l h : ℕ) → node_in l < i → node_in h < i → (a b : Bool) → s.done (node_in l) ≡ a → s.done (node_in h) ≡ b
          → Post (step_product limit room a b l h i p s) Q
      by_product l h hl hr false b dl dr = pushed i (node_in l) lo p s r hl dl
      by_product l h hl hr true false dl dr = pushed i (node_in h) lo p s r hr dr
      by_product l h hl hr true true dl dr =
          post-bind (combine limit room l h i s) _ _ Q (combine-done limit room l h i s) (λ t e. popped i lo p s t r e)

      by-node : (nd : PauliNode) → Fits n i nd → Post (step_node limit room nd i p s) Q
      by-node Identity fit = popped i lo p s _ r refl
      by-node (Single q a) fit = lend-then room 1 s _ Q (λ h. popped i lo p s _ r refl)
      by-node (Product l h) fit = by_product l h fit.0 fit.1 (s.done (node_in l)) (s.done (node_in h)) refl refl
      by-node Malformed fit = popped i lo p s _ r refl

      unless : (b : Bool) → s.done i ≡ b → Post (step_unless limit room b (node i) i p s) Q
      unless true d = let z : ◌≡◌ {A = ℕ} 0 1 = cc r.2 in absurd (omega arith)
      unless false d = by-node (node i) (fits i)

  -- enough steps give what resuming gives
  pub run_is : (k : ℕ) (p : List ℕ) (s : State) → Trail count s 0 p → left count s p ≤ k
      → run_path limit room node k p s ≡ resume limit room node count p s
  run_is zero [] s r h = refl
  run_is zero (i ∷ p) s r h = absurd (omega arith)
  run_is (suc k) [] s r h = refl
  run_is (suc k) (i ∷ p) s r h =
      bind-cong (step_top limit room node i p s) _ _ (Stepped count (left count s (i ∷ p))) (step_trail i 0 p s r)
      (λ q g. run_is k q.path q.state g.trail (omega (arith, g.fewer)))
      ∙ sym (resume-step limit room n node fits count i p s r.1)

  -- a root that is not done, alone on the path
  pub run-eval : (i : ℕ) (s : State) → i < count → s.done i ≡ false
      → run_path limit room node (left count s (i ∷ [])) (i ∷ []) s ≡ eval limit room node count i s
  run-eval i s h d = run_is (left count s (i ∷ [])) (i ∷ []) s (omega arith, h, d, tt) (omega arith) ∙ bind-fine (eval limit room node count i s)

pub undone-few : (count : ℕ) (s : State) → undone count s ≤ count
undone-few zero s = omega arith
undone-few (suc count) s = go (s.done count) (undone-few count s)
  where
    go : (b : Bool) → undone count s ≤ count → undone count s + cond b 0 1 ≤ suc count
    go true h = omega arith
    go false h = omega arith

-- as many steps as always serve
pub run_enough : (limit room n count : ℕ) (node : ℕ → PauliNode) → ((i : ℕ) → Fits n i (node i)) → (k i : ℕ) (s : State) → i < count → suc count * suc count ≤ k
    → run_path limit room node k (i ∷ []) s ≡ eval limit room node count i s
run_enough limit room n count node fits k i s h enough = go (s.done i) refl k enough
  where
    go : (b : Bool) → s.done i ≡ b → (k : ℕ) → suc count * suc count ≤ k → run_path limit room node k (i ∷ []) s ≡ eval limit room node count i s
    go true d zero e = absurd (omega arith)
    go true d (suc k) e = ap (λ b. bind (step_unless limit room b (node i) i [] s) (λ q. run_path limit room node k q.path q.state)) d
        ∙ stops k ∙ sym (eval-done limit room node count i s d)
      where
        stops : (k : ℕ) → run_path limit room node k [] s ≡ fine s
        stops zero = refl
        stops (suc k) = refl
    go false d k e =
        let few : undone count s * suc count ≤ count * suc count = mul-le-mul_right (suc count) (undone-few count s) in
        run_is limit room n count node fits k (i ∷ []) s (omega arith, h, d, tt) (omega arith) ∙ bind-fine (eval limit room node count i s)

-- the machine does what the recursion does, within (count + 1)² steps
pub machine_evaluates : (limit room n count : ℕ) (words : List ℕ) (k i : ℕ) (s : State) → i < count → suc count * suc count ≤ k
    → run_path limit room (node_at n words) k (i ∷ []) s ≡ eval limit room (node_at n words) count i s
machine_evaluates limit room n count words = run_enough limit room n count (node_at n words) (node_fits n words)

-- ---- the invariant, step by step

wanted_keep : (count : ℕ) (s t : State) (lo : ℕ) (p : List ℕ) → ((j : ℕ) → lo ≤ j → t.uses j ≡ s.uses j)
    → Trail count s lo p → Wanted s p → Wanted t p
wanted_keep count s t lo [] h r w = tt
wanted_keep count s t lo (i ∷ p) h r w =
    (omega (arith, h i r.0, w.0), wanted_keep count s t (suc i) p (λ j l. h j (omega (arith, r.0))) r.3 w.1)

module _ (limit room n count : ℕ) (node : ℕ → PauliNode) (fits : (i : ℕ) → Fits n i (node i)) (total rest : ℕ → ℕ) where
  abbrev pub Sound : Spot → Type 0
  Sound q = Inv limit room n count node total rest none 0 q.state × Wanted q.state q.path

  -- a step keeps the walk's invariant, also where it computes: the values that it takes stand
  pub step_inv : (i lo : ℕ) (p : List ℕ) (s : State) → Trail count s lo (i ∷ p) → Wanted s (i ∷ p)
      → Inv limit room n count node total rest none 0 s → Post (step_top limit room node i p s) Sound
  step_inv i lo p s r w inv = unless (s.done i) refl
    where
      computed : (t : State) → Good limit room n count node fits total rest i s t → Sound (spot p t)
      computed t g = (g.0, wanted_keep count s t (suc i) p (λ j l. g.1.uses_from j (omega arith)) r.3 w.1)

      owe : (l h : ℕ) → node i ≡ Product l h → s.done i ≡ false → (j : ℕ) → edge l j + edge h j ≤ s.uses j
      owe l h e d j = subst (λ nd. edges nd j ≤ s.uses j) e (owes limit room n count node total rest s i r.1 d w.0 inv j)

      by_product : (l h : ℕ) → node i ≡ Product l h → node_in l < i → node_in h < i → s.done i ≡ false
          → (a b : Bool) → s.done (node_in l) ≡ a → s.done (node_in h) ≡ b
          → Post (step_product limit room a b l h i p s) Sound
      by_product l h e hl hr d false b dl dr = (inv, (omega (arith, owe l h e d (node_in l), edge_same l), w))
      by_product l h e hl hr d true false dl dr = (inv, (omega (arith, owe l h e d (node_in h), edge_same h), w))
      by_product l h e hl hr d true true dl dr =
          post-bind (combine limit room l h i s) _ _ Sound
          (combine-post limit room n count node fits total rest i l h s r.1 hl hr e d w.0 dl dr inv) (λ t g. computed t g)

      by-node : s.done i ≡ false → (nd : PauliNode) → node i ≡ nd → Fits n i nd → Post (step_node limit room nd i p s) Sound
      by-node d Identity e fit = computed _ (blank_good limit room n count node fits total rest i Identity s r.1 d w.0 e refl (λ j. refl) inv)
      by-node d (Single q a) e fit = lend-then room 1 s _ Sound (λ within.
          computed _ (single_good limit room n count node fits total rest i q a s within r.1 d w.0 e fit inv))
      by-node d (Product l h) e fit = by_product l h e fit.0 fit.1 d (s.done (node_in l)) (s.done (node_in h)) refl refl
      by-node d Malformed e fit = computed _ (blank_good limit room n count node fits total rest i Malformed s r.1 d w.0 e refl (λ j. refl) inv)

      unless : (b : Bool) → s.done i ≡ b → Post (step_unless limit room b (node i) i p s) Sound
      unless true d = let z : ◌≡◌ {A = ℕ} 0 1 = cc r.2 in absurd (omega arith)
      unless false d = by-node d (node i) refl (fits i)
