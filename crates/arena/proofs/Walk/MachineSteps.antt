-- A step of the machine does not change what the recursion makes of the path.
use mathlib.Core.Path.{◌≡◌, refl, ap, ap₂, sym, ◌∙◌, fun_ext}
use mathlib.Core.Bool.{Bool, true, false}
use mathlib.Core.List.{List, [], ◌∷◌}
use Prim.Native.Nat.{ℕ, zero, suc, ◌<◌, min}
use native.Mathlib.Nat.{not-suc-le-zero}
use native.Mathlib.Omega.{arith}
use lib.Dec.{eqb}
use Rattle.arena.specs.References.{node_in, phase_in}
use Rattle.arena.specs.Nodes.{PauliNode, Identity, Single, Product, Malformed}
use Rattle.arena.specs.Sparse.{Sparse, one, turned, size}
use Rattle.arena.specs.Walk.{Out, fine, refused, bind, update, State, worked, lend, less, finish, take_as, take_use, combine, eval_node, eval_unless, eval}
use Rattle.arena.specs.Code.Machine.{Spot, spot, step_product, step_node, step_unless, step_top}
use Rattle.arena.proofs.Walk.Outcomes.{update_same, update_other, update-keeps, Post, post-bind, post_map, bind_assoc, bind-cong, charge-then, lend-then}
use Rattle.arena.proofs.DecodedNodes.{Fits}

module _ (limit room : ℕ) where
  -- what is left to do, by the recursion: every node of the path in turn
  abbrev pub resume : (ℕ → PauliNode) → ℕ → List ℕ → State → Out State
  resume node depth [] s = fine s
  resume node depth (i ∷ p) s = bind (eval limit room node depth i s) (λ s. resume node depth p s)

-- only node i was marked among those from i on, and nothing was unmarked
pub record Marks (i : ℕ) (s t : State) : Type 0 where
  pub marked : t.done i ≡ true
  pub later : (j : ℕ) → i < j → t.done j ≡ s.done j
  pub still : (j : ℕ) → s.done j ≡ true → t.done j ≡ true

marks_trans : (l i : ℕ) (s t u : State) → l < i → Marks l s t → Marks i t u → Marks i s u
marks_trans l i s t u h a b = record {
  marked = b.marked;
  later = λ j lj. b.later j lj ∙ a.later j (omega arith);
  still = λ j d. b.still j (a.still j d);
}

marks_done : (i : ℕ) (s t : State) → t.done ≡ update s.done i true → Marks i s t
marks_done i s t e = record {
  marked = ap (λ f. f i) e ∙ update_same s.done i true;
  later = λ j l. ap (λ f. f j) e ∙ update_other s.done i true j (λ q. omega arith);
  still = λ j h. ap (λ f. f j) e ∙ update-keeps s.done i j h;
}

module _ (limit room : ℕ) where
  take_done : (w : ℕ) (s : State) → Post (take_use limit room w s) (λ a. a.state.done ≡ s.done)
  take_done w s = go (eqb (s.uses (node_in w)) 1)
    where
      v : Sparse
      v = turned (phase_in w) (s.value (node_in w))

      go : (b : Bool) → Post (take_as limit room b v (less (node_in w) s)) (λ a. a.state.done ≡ s.done)
      go true = refl
      go false = charge-then limit (size v) (less (node_in w) s) _ _ (λ h.
          lend-then room (size v) (worked (size v) (less (node_in w) s)) _ _ (λ h. refl))

  -- computing a product marks it, and nothing else
  pub combine-done : (l r i : ℕ) (s : State) → Post (combine limit room l r i s) (λ t. t.done ≡ update s.done i true)
  combine-done l r i s =
      post-bind (take_use limit room l s) _ _ _ (take_done l s) (λ a ea.
      post-bind (take_use limit room r a.state) _ _ _ (take_done r a.state) (λ b eb.
      charge-then limit (min (size a.value) (size b.value)) b.state _ _ (λ h. ap (λ f. update f i true) (eb ∙ ea))))

  -- a node that is done is left alone
  pub eval-done : (node : ℕ → PauliNode) (f i : ℕ) (s : State) → s.done i ≡ true → eval limit room node f i s ≡ fine s
  eval-done node zero i s d = refl
  eval-done node (suc f) i s d = ap (λ b. eval_unless limit room b (node i) (λ j t. eval limit room node f j t) i s) d

module _ (limit room n : ℕ) (node : ℕ → PauliNode) (fits : (i : ℕ) → Fits n i (node i)) where
  -- the depth does not matter, once it is above the node
  pub eval-depth : (f g i : ℕ) (s : State) → i < f → i < g → eval limit room node f i s ≡ eval limit room node g i s
  eval-depth zero g i s hf hg = absurd (not-suc-le-zero hf)
  eval-depth (suc f) zero i s hf hg = absurd (not-suc-le-zero hg)
  eval-depth (suc f) (suc g) i s hf hg = unless (s.done i) (λ j t h. eval-depth f g j t (omega arith) (omega arith))
    where
      rec : ℕ → ℕ → State → Out State
      rec d j t = eval limit room node d j t

      by-node : (nd : PauliNode) → Fits n i nd → ((j : ℕ) (t : State) → j < i → rec f j t ≡ rec g j t)
          → eval_node limit room nd (rec f) i s ≡ eval_node limit room nd (rec g) i s
      by-node Identity fit ih = refl
      by-node (Single q a) fit ih = refl
      by-node (Product l r) fit ih = ap₂ bind (ih (node_in l) s fit.0)
          (fun_ext (λ t. ap (λ x. bind x (λ u. combine limit room l r i u)) (ih (node_in r) t fit.1)))
      by-node Malformed fit ih = refl

      unless : (b : Bool) → ((j : ℕ) (t : State) → j < i → rec f j t ≡ rec g j t)
          → eval_unless limit room b (node i) (rec f) i s ≡ eval_unless limit room b (node i) (rec g) i s
      unless true ih = refl
      unless false ih = by-node (node i) (fits i) ih

  pub eval-marks : (f i : ℕ) (s : State) → i < f → Post (eval limit room node f i s) (Marks i s)
  eval-marks zero i s h = absurd (not-suc-le-zero h)
  eval-marks (suc f) i s h = unless (s.done i) refl (λ j t l. eval-marks f j t (omega arith))
    where
      rec : ℕ → State → Out State
      rec j t = eval limit room node f j t

      by-node : (nd : PauliNode) → Fits n i nd → ((j : ℕ) (t : State) → j < i → Post (rec j t) (Marks j t))
          → Post (eval_node limit room nd rec i s) (Marks i s)
      by-node Identity fit ih = marks_done i s _ refl
      by-node (Single q a) fit ih = lend-then room 1 s _ _ (λ h. marks_done i s _ refl)
      by-node (Product l r) fit ih =
          post-bind (rec (node_in l) s) _ _ _ (ih (node_in l) s fit.0) (λ t mt.
          post-bind (rec (node_in r) t) _ _ _ (ih (node_in r) t fit.1) (λ u mu.
          post_map (combine limit room l r i u) _ _ (combine-done limit room l r i u) (λ v e.
          marks_trans (node_in l) i s t v fit.0 mt (marks_trans (node_in r) i t u v fit.1 mu (marks_done i u v e)))))
      by-node Malformed fit ih = marks_done i s _ refl

      unless : (b : Bool) → s.done i ≡ b → ((j : ℕ) (t : State) → j < i → Post (rec j t) (Marks j t))
          → Post (eval_unless limit room b (node i) rec i s) (Marks i s)
      unless true d ih = record { marked = d; later = λ j l. refl; still = λ j e. e }
      unless false d ih = by-node (node i) (fits i) ih

  -- ---- one step does not change what resuming gives

  abbrev pub onward : ℕ → Out Spot → Out State
  onward depth x = bind x (λ q. resume limit room node depth q.path q.state)

  pub resume-step : (depth i : ℕ) (p : List ℕ) (s : State) → i < depth
      → resume limit room node depth (i ∷ p) s ≡ onward depth (step_top limit room node i p s)
  resume-step zero i p s h = absurd (not-suc-le-zero h)
  resume-step (suc f) i p s h = unless (s.done i) refl
    where
      rec : ℕ → State → Out State
      rec j t = eval limit room node f j t

      rest : State → Out State
      rest t = resume limit room node (suc f) p t

      -- a value computed and the node popped
      popped : (x : Out State) (g : State → State)
          → bind (bind x (λ t. fine (g t))) rest ≡ onward (suc f) (bind x (λ t. fine (spot p (g t))))
      popped (fine t) g = refl
      popped (refused e) g = refl

      popped-as : (x : Out State) → bind x rest ≡ onward (suc f) (bind x (λ t. fine (spot p t)))
      popped-as (fine t) = refl
      popped-as (refused e) = refl

      -- the right child, after the left one; then the product
      then : ℕ → ℕ → State → Out State
      then l r u = bind (rec (node_in r) u) (λ v. combine limit room l r i v)

      -- node i, a product, evaluated in a state in which it is not done
      again : (l r : ℕ) (t : State) → node i ≡ Product l r → t.done i ≡ false
          → eval limit room node (suc f) i t ≡ bind (rec (node_in l) t) (then l r)
      again l r t e d = ap₂ (λ b nd. eval_unless limit room b nd rec i t) d e

      by_product : (l r : ℕ) → node i ≡ Product l r → s.done i ≡ false → node_in l < i → node_in r < i
          → (a b : Bool) → s.done (node_in l) ≡ a → s.done (node_in r) ≡ b
          → bind (bind (rec (node_in l) s) (then l r)) rest ≡ onward (suc f) (step_product limit room a b l r i p s)
      by_product l r e d hl hr false b dl dr =
          bind_assoc (rec (node_in l) s) _ rest
          ∙ bind-cong (rec (node_in l) s) _ (λ t. bind (eval limit room node (suc f) i t) rest) (Marks (node_in l) s)
          (eval-marks f (node_in l) s (omega arith))
          (λ t m. ap (λ x. bind x rest) (sym (again l r t e (m.later i hl ∙ d)
          ∙ ap (λ x. bind x (then l r)) (eval-done limit room node f (node_in l) t m.marked))))
          ∙ ap (λ x. bind x (λ t. bind (eval limit room node (suc f) i t) rest)) (eval-depth f (suc f) (node_in l) s (omega arith) (omega arith))
      by_product l r e d hl hr true false dl dr =
          ap (λ x. bind (bind x (then l r)) rest) (eval-done limit room node f (node_in l) s dl)
          ∙ bind_assoc (rec (node_in r) s) _ rest
          ∙ bind-cong (rec (node_in r) s) _ (λ t. bind (eval limit room node (suc f) i t) rest) (Marks (node_in r) s)
          (eval-marks f (node_in r) s (omega arith))
          (λ t m. ap (λ x. bind x rest) (sym (again l r t e (m.later i hr ∙ d)
          ∙ ap (λ x. bind x (then l r)) (eval-done limit room node f (node_in l) t (m.still (node_in l) dl))
          ∙ ap (λ x. bind x (λ v. combine limit room l r i v)) (eval-done limit room node f (node_in r) t m.marked))))
          ∙ ap (λ x. bind x (λ t. bind (eval limit room node (suc f) i t) rest)) (eval-depth f (suc f) (node_in r) s (omega arith) (omega arith))
      by_product l r e d hl hr true true dl dr =
          ap (λ x. bind (bind x (then l r)) rest) (eval-done limit room node f (node_in l) s dl)
          ∙ ap (λ x. bind (bind x (λ v. combine limit room l r i v)) rest) (eval-done limit room node f (node_in r) s dr)
          ∙ popped-as (combine limit room l r i s)

      by-node : s.done i ≡ false → (nd : PauliNode) → node i ≡ nd → Fits n i nd
          → bind (eval_node limit room nd rec i s) rest ≡ onward (suc f) (step_node limit room nd i p s)
      by-node d Identity e fit = refl
      by-node d (Single q a) e fit = popped (lend room 1 s) (λ t. finish i (one q a) 1 t)
      by-node d (Product l r) e fit = by_product l r e d fit.0 fit.1 (s.done (node_in l)) (s.done (node_in r)) refl refl
      by-node d Malformed e fit = refl

      unless : (b : Bool) → s.done i ≡ b
          → bind (eval_unless limit room b (node i) rec i s) rest ≡ onward (suc f) (step_unless limit room b (node i) i p s)
      unless true d = refl
      unless false d = by-node d (node i) refl (fits i)
