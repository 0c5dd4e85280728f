-- The axes of operations visited: each shown, given to a visitor, and released.
use mathlib.Core.Path.{◌≡◌, refl, ap, sym, ◌∙◌, subst}
use mathlib.Core.List.{List, [], ◌∷◌, ◌++◌, append_assoc, append-nil}
use Prim.Native.Nat.{ℕ, ◌+◌, ◌-◌, ◌%◌, ◌≤◌, ◌<◌}
use native.Mathlib.Omega.{arith}
use lib.ListN.{length, length-append}
use Rattle.pauli.specs.Letters.{phase_number}
use Rattle.pauli.proofs.Numbers.{phase_number-small}
use Rattle.arena.specs.Errors.{PbcError}
use Rattle.arena.specs.References.{node_in, phase_in}
use Rattle.arena.specs.Nodes.{node_at}
use Rattle.arena.specs.Store.{Header}
use Rattle.arena.specs.Sparse.{Sparse, turned}
use Rattle.arena.specs.Walk.{Out, fine, refused, bind, State, Walked, release, show_roots}
use Rattle.arena.specs.Readers.{Weighed, words_of}
use Rattle.arena.specs.Expansion.{op_at}
use Rattle.arena.specs.Code.Results.{Ledger, Value, Agrees, Says}
use Rattle.arena.specs.Code.WalkWords.{Rooted}
use Rattle.arena.specs.Code.Roots.{Rootable, start_of, Begun, show_root, RootShown, Released, weighed_at, axes_of, Resting, Weighing, visited, RootVisited, AxesVisited}
use Rattle.arena.proofs.Walk.Outcomes.{bind_assoc}
use Rattle.arena.proofs.Steps.Saying.{said-fine, said-refused, says-fine, says-refused}
use Rattle.arena.proofs.Steps.Roots.{show_first, same_walk}
use Rattle.arena.proofs.Steps.Weights.{axes_from, bind-same, rest_axes, rest_all, seen, to-release, axes_are, axis_rooted, axis_rested}

-- one value more
pub visited_more : {V : Type 0} (step : V → ℕ → Sparse → V) (v : V) (from : ℕ) (xs : List Sparse) (x : Sparse)
    → visited step v from (xs ++ (x ∷ [])) ≡ step (visited step v from xs) (from + length xs) x
visited_more step v from [] x = ap (λ (i : ℕ). step v i x) (omega arith)
visited_more step v from (y ∷ xs) x = visited_more step (step v from y) (from + 1) xs x ∙ ap (λ (i : ℕ). step (visited step (step v from y) (from + 1) xs) i x) (omega arith)

agrees-map : {A B : Type 0} (x : Out A) (y : Out B) (R S : A → B → Type 0) → Agrees x y R → ((a : A) (b : B) → R a b → S a b) → Agrees x y S
agrees-map (fine a) (fine b) R S h f = f a b h
agrees-map (fine a) (refused e) R S h f = absurd h
agrees-map (refused e) (fine b) R S h f = absurd h
agrees-map (refused e) (refused q) R S h f = h

-- what is said, said otherwise
pub says-map : {A B : Type 0} {x : Out A} {y : Out B} {R : A → B → Type 0} (S : A → B → Type 0) → Says x y R → ((a : A) (b : B) → R a b → S a b) → Says x y S
says-map {x = x} {y = y} {R = R} S o f = record { says = agrees-map x y R S o.says f }

-- ---- an axis shown, visited and released

module _ (w : ℕ) {words l p : List ℕ} {count limit : ℕ} {left : Ledger} (g : Rooted words l p count limit (node_in w) left) {l₁ p₁ : List ℕ} {y : Out (Value × Ledger)}
    (o : Says (show_root limit g.at.room (node_at g.at.n words) count (node_in w) g.at.s) y (RootShown w g l₁ p₁)) where
  module _ {v : Value} {rest : Ledger} (z : y ≡ fine (v, rest)) where
    abbrev pub shown : Sparse
    shown = turned (phase_in w) ((seen w g o z).0.value (node_in w))

    pub shown-phase : v.phase % 4 ≡ phase_number shown.phase
    shown-phase = omega (arith, (seen w g o z).2.value.phase_is, phase_number-small shown.phase)

    pub root_visited : {V : Type 0} (step : V → ℕ → Sparse → V) (index : ℕ) {was now : V} {l₂ p₂ : List ℕ} {after : Ledger} → now ≡ step was index shown
        → Released (to-release w g o z) l₂ p₂ after
        → Says (show_root limit g.at.room (node_at g.at.n words) count (node_in w) g.at.s) (fine after) (RootVisited step index w g was now l₂ p₂)
    root_visited step index e r = says-fine (seen w g o z).1 (record {
      who = r.who;
      rep = r.rep;
      inv = (seen w g o z).2.inv;
      done_is = (seen w g o z).2.done_is;
      visitor_is = e;
    })

-- what is said of a root visited, of a root among the same nodes, under the same limit
pub visited_at : {V : Type 0} {step : V → ℕ → Sparse → V} {was now : V} {ws words l p l' p' : List ℕ} {m count k limit index w : ℕ} {left : Ledger} {o : Out Ledger}
    → ws ≡ words → m ≡ count → k ≡ limit
    → ((g : Rooted ws l p m k (node_in w) left) → Says (show_root k g.at.room (node_at g.at.n ws) m (node_in w) g.at.s) o (RootVisited step index w g was now l' p'))
    → (g : Rooted words l p count limit (node_in w) left) → Says (show_root limit g.at.room (node_at g.at.n words) count (node_in w) g.at.s) o (RootVisited step index w g was now l' p')
visited_at {step = step} {was} {now} {l = l} {p} {l'} {p'} {index = index} {w} {left} {o} =
    same_walk (λ us n j. (g : Rooted us l p n j (node_in w) left) → Says (show_root j g.at.room (node_at g.at.n us) n (node_in w) g.at.s) o (RootVisited step index w g was now l' p'))

-- ---- axis after axis

-- what was shown before comes first
abbrev after : List Sparse → Walked → Out Walked
after done r = fine (record { shown = done ++ r.shown; state = r.state })

after_none : (x : Out Walked) → x ≡ bind x (after [])
after_none (fine r) = refl
after_none (refused e) = refl

module _ {V : Type 0} (step : V → ℕ → Sparse → V) (Fits : V → ℕ → Type 0) {h : Header} {words ops was pool : List ℕ} {limit : ℕ} {left₀ : Ledger}
    (g : Weighing h words ops was pool limit left₀) (first : V) where
  abbrev pub shows : List ℕ → State → Out Walked
  shows ws s = show_roots limit g.room (node_at h.qubits words) h.nodes ws s

  -- the first i axes are visited
  pub record VisitAt (now : V) (l p : List ℕ) (left : Ledger) (i : ℕ) : Type 0 where
    pub s : State
    pub done : List Sparse
    pub upto : i ≤ h.operations
    pub long : length l ≡ length was
    pub pool_long : length p ≡ length pool
    pub done_long : length done ≡ i
    pub visitor_is : now ≡ visited step first 0 done
    pub fits : (j : ℕ) → j < h.operations → Fits now j
    pub rest : Resting h words l p (rest_axes h ops i) limit g.room s left
    pub same : show_roots limit g.room (node_at h.qubits words) h.nodes (words_of (axes_of h ops)) g.s
        ≡ bind (show_roots limit g.room (node_at h.qubits words) h.nodes (words_of (rest_axes h ops i)) s) (after done)

  pub visit_begin : ((j : ℕ) → j < h.operations → Fits first j) → VisitAt first was pool left₀ 0
  visit_begin fits = record {
    s = g.s;
    done = [];
    upto = omega arith;
    long = refl;
    pool_long = refl;
    done_long = refl;
    visitor_is = refl;
    fits = fits;
    rest = subst (λ (xs : List Weighed). Resting h words was pool xs limit g.room g.s left₀) (rest_all h ops) g.rest;
    same = after_none (shows (words_of (axes_of h ops)) g.s) ∙ ap (λ (xs : List Weighed). bind (shows (words_of xs) g.s) (after [])) (rest_all h ops);
  }

  module _ {now : V} {l p : List ℕ} {left : Ledger} {i : ℕ} (a : VisitAt now l p left i) where
    pub visit_end : h.operations ≤ i → Says (show_roots limit g.room (node_at h.qubits words) h.nodes (words_of (axes_of h ops)) g.s) (fine left.work) (AxesVisited step h.operations first now)
    visit_end le =
        let e : h.operations - i ≡ 0 = omega arith in
        says-fine (a.same ∙ ap (λ (m : ℕ). bind (shows (words_of (axes_from (op_at h ops) i m)) a.s) (after a.done)) e) (record {
          work_is = a.rest.rep.work_is;
          many = ap length (append-nil a.done) ∙ omega (arith, a.done_long, a.upto);
          visitor_is = a.visitor_is ∙ ap (λ (xs : List Sparse). visited step first 0 xs) (sym (append-nil a.done));
        })

    module _ {w : ℕ} (lt : i < h.operations) (w-is : w ≡ (weighed_at h ops i).word) where
      abbrev consed : State → Walked → Out Walked
      consed t r = fine (record { shown = turned (phase_in w) (t.value (node_in w)) ∷ r.shown; state = r.state })

      abbrev later : State → Out Walked
      later t = bind (shows (words_of (rest_axes h ops (i + 1))) (release (node_in w) t)) (consed t)

      next : shows (words_of (axes_of h ops)) g.s
          ≡ bind (show_root limit g.room (node_at h.qubits words) h.nodes (node_in w) a.s) (λ t. bind (later t) (after a.done))
      next = a.same ∙ ap (λ (ws : List ℕ). bind (shows ws a.s) (after a.done)) (axes_are g a.rest lt w-is)
          ∙ ap (λ o. bind o (after a.done)) (show_first limit g.room (node_at h.qubits words) h.nodes w (words_of (rest_axes h ops (i + 1))) a.s)
          ∙ bind_assoc (show_root limit g.room (node_at h.qubits words) h.nodes (node_in w) a.s) later (after a.done)

      later-after : (t : State) → bind (later t) (after a.done)
          ≡ bind (shows (words_of (rest_axes h ops (i + 1))) (release (node_in w) t)) (after (a.done ++ (turned (phase_in w) (t.value (node_in w)) ∷ [])))
      later-after t =
          bind_assoc (shows (words_of (rest_axes h ops (i + 1))) (release (node_in w) t)) (consed t) (after a.done)
          ∙ bind-same (shows (words_of (rest_axes h ops (i + 1))) (release (node_in w) t)) _ _
          (λ r. ap (λ (xs : List Sparse). fine (record { shown = xs; state = r.state })) (sym (append_assoc a.done (turned (phase_in w) (t.value (node_in w)) ∷ []) r.shown)))

      module _ {now₁ : V} {l₁ p₁ : List ℕ} {z : Out Ledger}
          (o : Says (show_root limit g.room (node_at h.qubits words) h.nodes (node_in w) a.s) z (RootVisited step i w (axis_rooted g a.rest lt w-is) now now₁ l₁ p₁)) where
        pub visit-refused : {B : Type 0} {S : Walked → B → Type 0} {e : PbcError} → z ≡ refused e
            → Says (show_roots limit g.room (node_at h.qubits words) h.nodes (words_of (axes_of h ops)) g.s) (refused e) S
        visit-refused q = says-refused (next ∙ ap (λ r. bind r (λ t. bind (later t) (after a.done))) (said-refused o q))

        pub visit_turn : {left₁ : Ledger} → z ≡ fine left₁ → ((j : ℕ) → Fits now j → Fits now₁ j) → length l₁ ≡ length was → length p₁ ≡ length pool
            → VisitAt now₁ l₁ p₁ left₁ (i + 1)
        visit_turn e keeps long pool-long =
            let r = said-fine o e in
            let t = r.0 in
            let x = turned (phase_in w) (t.value (node_in w)) in
            let place : i ≡ 0 + length a.done = omega (arith, a.done_long) in
            record {
              s = release (node_in w) t;
              done = a.done ++ (x ∷ []);
              upto = omega arith;
              long = long;
              pool_long = pool-long;
              done_long = length-append a.done (x ∷ []) ∙ omega (arith, a.done_long);
              visitor_is = r.2.visitor_is ∙ ap (λ (u : V). step u i x) a.visitor_is ∙ ap (λ (j : ℕ). step (visited step first 0 a.done) j x) place
                  ∙ sym (visited_more step first 0 a.done x);
              fits = λ j lj. keeps j (a.fits j lj);
              rest = axis_rested g a.rest lt w-is r.2.rep r.2.inv r.2.done_is;
              same = next ∙ ap (λ q. bind q (λ t. bind (later t) (after a.done))) r.1 ∙ later-after t;
            }

-- what is said of a walk begun among as many nodes
pub begun_for : {words l l' p' : List ℕ} {m count roots limit room : ℕ} {o : Out Ledger} → m ≡ count
    → ((g : Rootable words l m roots) → Says (start_of limit (node_at g.n words) m g.ws) o (Begun g limit room l' p'))
    → (g : Rootable words l count roots) → Says (start_of limit (node_at g.n words) count g.ws) o (Begun g limit room l' p')
begun_for {words} {l} {l'} {p'} {roots = roots} {limit} {room} {o} =
    subst (λ (k : ℕ). (g : Rootable words l k roots) → Says (start_of limit (node_at g.n words) k g.ws) o (Begun g limit room l' p'))

-- what is said of the same words under the same limit
pub all_visited_at : {V : Type 0} {step : V → ℕ → Sparse → V} {was now : V} {h : Header} {ws words ops l p : List ℕ} {k limit : ℕ} {left : Ledger} {o : Out ℕ} → ws ≡ words → k ≡ limit
    → ((g : Weighing h ws ops l p k left) → Says (show_roots k g.room (node_at h.qubits ws) h.nodes (words_of (axes_of h ops)) g.s) o (AxesVisited step h.operations was now))
    → (g : Weighing h words ops l p limit left) → Says (show_roots limit g.room (node_at h.qubits words) h.nodes (words_of (axes_of h ops)) g.s) o (AxesVisited step h.operations was now)
all_visited_at {step = step} {was} {now} {h} {ops = ops} {l} {p} {left = left} {o} e f =
    same_walk {count = 0} (λ us n j. (g : Weighing h us ops l p j left) → Says (show_roots j g.room (node_at h.qubits us) h.nodes (words_of (axes_of h ops)) g.s) o (AxesVisited step h.operations was now)) e refl f
