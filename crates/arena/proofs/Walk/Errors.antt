-- For what a walk is refused, and a refusal of the checks read from the end of their chain.
use mathlib.Core.Path.{◌≡◌, refl, ap, sym, ◌∙◌}
use mathlib.Core.Logic.{◌≢◌, ◌⊎◌, inl, inr}
use mathlib.Core.Bool.{Bool, true, false, cond}
use mathlib.Core.List.{List, [], ◌∷◌}
use Prim.Native.Nat.{ℕ, zero, suc, ◌+◌, min}
use native.Mathlib.Omega.{arith}
use lib.Dec.{leb, eqb}
use lib.ListN.{length}
use Rattle.arena.specs.Errors.{PbcError, BadStore, ExpansionLimit, NoPool, refusal_in, Checked, Fine, Wrong, ◌⟫◌⇒◌}
use Rattle.arena.specs.References.{node_in, phase_in}
use Rattle.arena.specs.Nodes.{PauliNode, Identity, Single, Product, Malformed, node_at}
use Rattle.arena.specs.Sparse.{Sparse, turned, size}
use Rattle.arena.specs.Walk.{Out, fine, refused, bind, State, worked, lent, charge, lend, less, take_as, take_use, combine, eval_node, eval_unless, eval, release, show_roots, walk_nodes, root_uses, scan, walk_begin, walk}

zero-is_one : ◌≡◌ {A = ℕ} 0 1 → ⊥
zero-is_one z = omega arith

-- ---- a walk is refused above its limit or above the room, and for nothing else

abbrev pub Limited : {A : Type 0} → Out A → Type 0
Limited (fine a) = Unit {0}
Limited (refused e) = (e ≡ ExpansionLimit) ⊎ (e ≡ NoPool)

pub limited-bind : {A B : Type 0} (x : Out A) (k : A → Out B) → Limited x → ((a : A) → Limited (k a)) → Limited (bind x k)
limited-bind (fine a) k l h = h a
limited-bind (refused e) k l h = l

limited-charge : (limit amount : ℕ) (s : State) → Limited (charge limit amount s)
limited-charge limit amount s = go (leb (s.work + amount) limit)
  where
    go : (b : Bool) → Limited (cond b (fine (worked amount s)) (refused ExpansionLimit))
    go true = tt
    go false = inl refl

module _ (limit room : ℕ) where
  limited-lend : (k : ℕ) (s : State) → Limited (lend room k s)
  limited-lend k s = go (leb (s.held + k) room)
    where
      go : (b : Bool) → Limited (cond b (fine (lent k s)) (refused NoPool))
      go true = tt
      go false = inr refl

  limited_take : (b : Bool) (v : Sparse) (s : State) → Limited (take_as limit room b v s)
  limited_take true v s = tt
  limited_take false v s = limited-bind (charge limit (size v) s) _ (limited-charge limit (size v) s) (λ t. limited-bind (lend room (size v) t) _ (limited-lend (size v) t) (λ u. tt))

  limited_use : (w : ℕ) (s : State) → Limited (take_use limit room w s)
  limited_use w s = limited_take (eqb (s.uses (node_in w)) 1) (turned (phase_in w) (s.value (node_in w))) (less (node_in w) s)

  limited-combine : (l r i : ℕ) (s : State) → Limited (combine limit room l r i s)
  limited-combine l r i s =
      limited-bind (take_use limit room l s) _ (limited_use l s) (λ a.
      limited-bind (take_use limit room r a.state) _ (limited_use r a.state) (λ b.
      limited-bind (charge limit (min (size a.value) (size b.value)) b.state) _ (limited-charge limit (min (size a.value) (size b.value)) b.state) (λ t. tt)))

  limited_node : (nd : PauliNode) (rec : ℕ → State → Out State) → ((j : ℕ) (t : State) → Limited (rec j t)) → (i : ℕ) (s : State) → Limited (eval_node limit room nd rec i s)
  limited_node Identity rec h i s = tt
  limited_node (Single q a) rec h i s = limited-bind (lend room 1 s) _ (limited-lend 1 s) (λ t. tt)
  limited_node (Product l r) rec h i s =
      limited-bind (rec (node_in l) s) _ (h (node_in l) s) (λ t. limited-bind (rec (node_in r) t) _ (h (node_in r) t) (λ u. limited-combine l r i u))
  limited_node Malformed rec h i s = tt

  limited_unless : (b : Bool) (nd : PauliNode) (rec : ℕ → State → Out State) → ((j : ℕ) (t : State) → Limited (rec j t)) → (i : ℕ) (s : State)
      → Limited (eval_unless limit room b nd rec i s)
  limited_unless true nd rec h i s = tt
  limited_unless false nd rec h i s = limited_node nd rec h i s

  limited-eval : (node : ℕ → PauliNode) (f i : ℕ) (s : State) → Limited (eval limit room node f i s)
  limited-eval node zero i s = tt
  limited-eval node (suc f) i s = limited_unless (s.done i) (node i) (λ j t. eval limit room node f j t) (λ j t. limited-eval node f j t) i s

  limited_show : (node : ℕ → PauliNode) (depth : ℕ) (ws : List ℕ) (s : State) → Limited (show_roots limit room node depth ws s)
  limited_show node depth [] s = tt
  limited_show node depth (w ∷ ws) s =
      limited-bind (eval limit room node depth (node_in w) s) _ (limited-eval node depth (node_in w) s) (λ t.
      limited-bind (charge limit (size (t.value (node_in w))) t) _ (limited-charge limit (size (t.value (node_in w))) t) (λ u.
      limited-bind (show_roots limit room node depth ws (release (node_in w) u)) _ (limited_show node depth ws (release (node_in w) u)) (λ r. tt)))

  limited_nodes : (node : ℕ → PauliNode) (count : ℕ) (roots : List ℕ) → Limited (walk_nodes limit room node count roots)
  limited_nodes node count roots =
      let c = scan node count (root_uses roots) in
      limited-bind (charge limit (length roots + c.reached) (walk_begin c)) _ (limited-charge limit (length roots + c.reached) (walk_begin c)) (λ s. limited_show node count roots s)

  pub limited-walk : (n count : ℕ) (words roots : List ℕ) → Limited (walk limit room n count words roots)
  unfolding walk
  limited-walk n count words roots = limited-bind (walk_nodes limit room (node_at n words) count roots) _ (limited_nodes (node_at n words) count roots) (λ r. tt)

pub errors_differ : (e f : PbcError) → (refusal_in e).number ≢ (refusal_in f).number → e ≢ f
errors_differ e f ne p = ne (ap (λ x. (refusal_in x).number) p)

pub bad_limit : BadStore ≢ ExpansionLimit
bad_limit = errors_differ BadStore ExpansionLimit (λ q. omega arith)

pub bad_pool : BadStore ≢ NoPool
bad_pool = errors_differ BadStore NoPool (λ q. omega arith)

-- an error that is neither is not the walk's
pub limited_not : {A : Type 0} (o : Out A) (e : PbcError) → Limited o → e ≢ ExpansionLimit → e ≢ NoPool → o ≢ refused e
limited_not (fine a) e l p q = λ r. let z : ◌≡◌ {A = ℕ} 0 1 = cc in zero-is_one z
limited_not (refused d) e (inl r) p q = λ s. p (let x : d ≡ e = cc in sym x ∙ r)
limited_not (refused d) e (inr r) p q = λ s. q (let x : d ≡ e = cc in sym x ∙ r)

-- ---- a refusal of the checks, read from the end of the chain

never-fine : (e : PbcError) → Fine ≢ Wrong e
never-fine e p = let z : ◌≡◌ {A = ℕ} 0 1 = cc in zero-is_one z

pub refused-before : (c : Checked) (b : Bool) (e f : PbcError) → e ≢ f → (c ⟫ b ⇒ e) ≡ Wrong f → c ≡ Wrong f
unfolding ◌⟫◌⇒◌
refused-before Fine true e f ne p = absurd (ne (cc))
refused-before Fine false e f ne p = p
refused-before (Wrong x) b e f ne p = p

pub test_failed : (b : Bool) (e f : PbcError) → (Fine ⟫ b ⇒ e) ≡ Wrong f → b ≡ true
unfolding ◌⟫◌⇒◌
test_failed true e f p = refl
test_failed false e f p = absurd (never-fine f p)

pub test_error : (b : Bool) (e f : PbcError) → e ≢ f → (Fine ⟫ b ⇒ e) ≢ Wrong f
test_error b e f ne p = never-fine f (refused-before Fine b e f ne p)
