-- kept: claims, which Theorems.antt takes from here as a module
-- Which refusals a walk gives: with limit and room enough it has one answer; otherwise it has that answer, or no room, or its whole work is above the limit.
use mathlib.Core.Path.{◌≡◌, refl, ap, sym, ◌∙◌, subst}
use mathlib.Core.Logic.{◌⊎◌, inl, inr}
use mathlib.Core.Bool.{Bool, true, false, cond}
use mathlib.Core.List.{List, [], ◌∷◌}
use Prim.Native.Nat.{ℕ, zero, suc, ◌+◌, ◌≤◌, ◌<◌, min, max}
use native.Mathlib.Omega.{arith}
use borrow.Author.Tests.{leb-true, leb-false}
use lib.Dec.{leb, eqb}
use lib.ListN.{length}
use Rattle.arena.specs.Errors.{PbcError, ExpansionLimit, NoPool}
use Rattle.arena.specs.References.{node_in, phase_in}
use Rattle.arena.specs.Nodes.{PauliNode, Identity, Single, Product, Malformed, node_at}
use Rattle.arena.specs.Sparse.{Sparse, empty, one, turned, size, multiply}
use Rattle.arena.specs.Walk.{Named, Out, fine, refused, bind, State, worked, lent, less, finish, give_back, release, charge, lend, Taken, take_as, take_use, combine, eval_node, eval_unless, eval, Walked, show_roots, walk_nodes, root_uses, Counted, scan, walk_begin, Answer, answer_of, walk}
use Rattle.arena.specs.Charges.{work_of}
use Rattle.arena.proofs.Walk.Totals.{walk-work, walk-within}

-- a is answered, and there was room; or there is not; or the limit is below a's work
abbrev Verdict : {A : Type 0} → (A → ℕ) → (need limit room : ℕ) → Out A → A → Type 0
Verdict work need limit room (fine b) a = (b ≡ a) × (need ≤ room)
Verdict work need limit room (refused e) a = ((e ≡ NoPool) × (room < need)) ⊎ ((e ≡ ExpansionLimit) × (limit < work a))

-- x, of a limit and a room: with enough of both it has one answer, whose work is not below what was there before
record Tells {A : Type 0} (work : A → ℕ) (before : ℕ) (x : ℕ → ℕ → Out A) : Type 0 where
  answer : A
  grows : before ≤ work answer
  need : ℕ
  accepts : (limit room : ℕ) → work answer ≤ limit → need ≤ room → x limit room ≡ fine answer
  otherwise : (limit room : ℕ) → Verdict work need limit room (x limit room) answer

tells-fine : {A : Type 0} (work : A → ℕ) (before : ℕ) (a : A) → before ≤ work a → Tells work before (λ limit room. fine a)
tells-fine work before a h = record { answer = a; grows = h; need = 0; accepts = λ limit room l r. refl; otherwise = λ limit room. (refl, omega arith) }

tells-bind : {A B : Type 0} (wa : A → ℕ) (wb : B → ℕ) (before : ℕ) (x : ℕ → ℕ → Out A) (k : ℕ → ℕ → A → Out B)
    → Tells wa before x → ((a : A) → Tells wb (wa a) (λ limit room. k limit room a)) → Tells wb before (λ limit room. bind (x limit room) (k limit room))
tells-bind {A} {B} wa wb before x k t next = record {
  answer = u.answer;
  grows = omega (arith, t.grows, u.grows);
  need = max t.need u.need;
  accepts = λ limit room l r.
      ap (λ o. bind o (k limit room)) (t.accepts limit room (omega (arith, u.grows)) (omega arith)) ∙ u.accepts limit room l (omega arith);
  otherwise = λ limit room. go limit room (x limit room) (t.otherwise limit room);
}
  where
    u : Tells wb (wa t.answer) (λ limit room. k limit room t.answer)
    u = next t.answer

    more : (limit room : ℕ) (o : Out B) → t.need ≤ room → Verdict wb u.need limit room o u.answer → Verdict wb (max t.need u.need) limit room o u.answer
    more limit room (fine b) r v = (v.0, omega (arith, v.1))
    more limit room (refused e) r (inl q) = inl (q.0, omega (arith, q.1))
    more limit room (refused e) r (inr q) = inr q

    go : (limit room : ℕ) (o : Out A) → Verdict wa t.need limit room o t.answer → Verdict wb (max t.need u.need) limit room (bind o (k limit room)) u.answer
    go limit room (fine a) v = more limit room (k limit room a) v.1
        (subst (λ c. Verdict wb u.need limit room (k limit room c) u.answer) (sym v.0) (u.otherwise limit room))
    go limit room (refused e) (inl q) = inl (q.0, omega (arith, q.1))
    go limit room (refused e) (inr q) = inr (q.0, omega (arith, q.1, u.grows))

abbrev work_in : State → ℕ
work_in s = s.work

charge-tells : (amount : ℕ) (s : State) → Tells work_in s.work (λ limit room. charge limit amount s)
charge-tells amount s = record {
  answer = worked amount s;
  grows = omega arith;
  need = 0;
  accepts = λ limit room l r. enough limit l (leb (s.work + amount) limit) refl;
  otherwise = λ limit room. go limit room (leb (s.work + amount) limit) refl;
}
  where
    enough : (limit : ℕ) → s.work + amount ≤ limit → (b : Bool) → leb (s.work + amount) limit ≡ b
        → cond b (fine (worked amount s)) (refused ExpansionLimit) ≡ fine (worked amount s)
    enough limit l true e = refl
    enough limit l false e = absurd (omega (arith, leb-false (s.work + amount) limit e))

    go : (limit room : ℕ) (b : Bool) → leb (s.work + amount) limit ≡ b
        → Verdict work_in 0 limit room (cond b (fine (worked amount s)) (refused ExpansionLimit)) (worked amount s)
    go limit room true e = (refl, omega arith)
    go limit room false e = inr (refl, leb-false (s.work + amount) limit e)

lend-tells : (k : ℕ) (s : State) → Tells work_in s.work (λ limit room. lend room k s)
lend-tells k s = record {
  answer = lent k s;
  grows = omega arith;
  need = s.held + k;
  accepts = λ limit room l r. enough room r (leb (s.held + k) room) refl;
  otherwise = λ limit room. go limit room (leb (s.held + k) room) refl;
}
  where
    enough : (room : ℕ) → s.held + k ≤ room → (b : Bool) → leb (s.held + k) room ≡ b → cond b (fine (lent k s)) (refused NoPool) ≡ fine (lent k s)
    enough room r true e = refl
    enough room r false e = absurd (omega (arith, leb-false (s.held + k) room e))

    go : (limit room : ℕ) (b : Bool) → leb (s.held + k) room ≡ b → Verdict work_in (s.held + k) limit room (cond b (fine (lent k s)) (refused NoPool)) (lent k s)
    go limit room true e = (refl, leb-true (s.held + k) room e)
    go limit room false e = inl (refl, leb-false (s.held + k) room e)

-- ---- a use taken, a product

abbrev work_taken : Taken → ℕ
work_taken a = a.state.work

abbrev taken : Sparse → State → Taken
taken v s = record { value = v; state = s }

take_tells : (w : ℕ) (s : State) → Tells work_taken s.work (λ limit room. take_use limit room w s)
take_tells w s = go (eqb (s.uses (node_in w)) 1)
  where
    v : Sparse
    v = turned (phase_in w) (s.value (node_in w))

    go : (b : Bool) → Tells work_taken s.work (λ limit room. take_as limit room b v (less (node_in w) s))
    go true = tells-fine work_taken s.work (taken v (less (node_in w) s)) (omega arith)
    go false =
        tells-bind work_in work_taken s.work (λ limit room. charge limit (size v) (less (node_in w) s))
        (λ limit room t. bind (lend room (size v) t) (λ u. fine (taken v u))) (charge-tells (size v) (less (node_in w) s)) (λ t.
        tells-bind work_in work_taken t.work (λ limit room. lend room (size v) t) (λ limit room u. fine (taken v u)) (lend-tells (size v) t) (λ u.
        tells-fine work_taken u.work (taken v u) (omega arith)))

combine-tells : (l r i : ℕ) (s : State) → Tells work_in s.work (λ limit room. combine limit room l r i s)
combine-tells l r i s =
    tells-bind work_taken work_in s.work (λ limit room. take_use limit room l s) (λ limit room a. second limit room a) (take_tells l s) (λ a.
    tells-bind work_taken work_in a.state.work (λ limit room. take_use limit room r a.state) (λ limit room b. third limit a b) (take_tells r a.state) (λ b.
    tells-bind work_in work_in b.state.work (λ limit room. charge limit (min (size a.value) (size b.value)) b.state) (λ limit room t. fine (made a b t))
    (charge-tells (min (size a.value) (size b.value)) b.state) (λ t.
    tells-fine work_in t.work (made a b t) (omega arith))))
  where
    made : Taken → Taken → State → State
    made a b t = finish i (multiply a.value b.value) (size a.value + size b.value) t

    third : ℕ → Taken → Taken → Out State
    third limit a b = bind (charge limit (min (size a.value) (size b.value)) b.state) (λ t. fine (made a b t))

    second : ℕ → ℕ → Taken → Out State
    second limit room a = bind (take_use limit room r a.state) (λ b. third limit a b)

-- ---- nodes and roots

module _ (node : ℕ → PauliNode) where
  eval-tells : (f i : ℕ) (s : State) → Tells work_in s.work (λ limit room. eval limit room node f i s)
  eval-tells zero i s = tells-fine work_in s.work s (omega arith)
  eval-tells (suc f) i s = unless (s.done i) (λ j t. eval-tells f j t)
    where
      Ih : Type 0
      Ih = (j : ℕ) (t : State) → Tells work_in t.work (λ limit room. eval limit room node f j t)

      by-node : (nd : PauliNode) → Ih → Tells work_in s.work (λ limit room. eval_node limit room nd (λ j t. eval limit room node f j t) i s)
      by-node Identity ih = tells-fine work_in s.work (finish i empty 0 s) (omega arith)
      by-node (Single q a) ih =
          tells-bind work_in work_in s.work (λ limit room. lend room 1 s) (λ limit room t. fine (finish i (one q a) 1 t)) (lend-tells 1 s) (λ t.
          tells-fine work_in t.work (finish i (one q a) 1 t) (omega arith))
      by-node (Product l r) ih =
          tells-bind work_in work_in s.work (λ limit room. eval limit room node f (node_in l) s)
          (λ limit room t. bind (eval limit room node f (node_in r) t) (λ u. combine limit room l r i u)) (ih (node_in l) s) (λ t.
          tells-bind work_in work_in t.work (λ limit room. eval limit room node f (node_in r) t) (λ limit room u. combine limit room l r i u) (ih (node_in r) t) (λ u.
          combine-tells l r i u))
      by-node Malformed ih = tells-fine work_in s.work (finish i empty 0 s) (omega arith)

      unless : (b : Bool) → Ih → Tells work_in s.work (λ limit room. eval_unless limit room b (node i) (λ j t. eval limit room node f j t) i s)
      unless true ih = tells-fine work_in s.work s (omega arith)
      unless false ih = by-node (node i) ih

  abbrev work_walked : Walked → ℕ
  work_walked r = r.state.work

  release-work : (j : ℕ) (s : State) → (release j s).work ≡ s.work
  release-work j s = go (eqb (s.uses j) 1)
    where
      go : (b : Bool) → (cond b (give_back (size (s.value j)) (less j s)) (less j s)).work ≡ s.work
      go true = refl
      go false = refl

  show_tells : (depth : ℕ) (ws : List ℕ) (s : State) → Tells work_walked s.work (λ limit room. show_roots limit room node depth ws s)
  show_tells depth [] s = tells-fine work_walked s.work (record { shown = []; state = s }) (omega arith)
  show_tells depth (w ∷ ws) s =
      tells-bind work_in work_walked s.work (λ limit room. eval limit room node depth (node_in w) s) (λ limit room t. charged limit room t) (eval-tells depth (node_in w) s) (λ t.
      tells-bind work_in work_walked t.work (λ limit room. charge limit (size (t.value (node_in w))) t) (λ limit room u. others limit room u)
      (charge-tells (size (t.value (node_in w))) t) (λ u.
      subst (λ k. Tells work_walked k (λ limit room. others limit room u)) (release-work (node_in w) u)
      (tells-bind work_walked work_walked (release (node_in w) u).work (λ limit room. show_roots limit room node depth ws (release (node_in w) u)) (λ limit room r. fine (both u r))
      (show_tells depth ws (release (node_in w) u)) (λ r.
      tells-fine work_walked r.state.work (both u r) (omega arith)))))
    where
      both : State → Walked → Walked
      both u r = record { shown = turned (phase_in w) (u.value (node_in w)) ∷ r.shown; state = r.state }

      others : ℕ → ℕ → State → Out Walked
      others limit room u = bind (show_roots limit room node depth ws (release (node_in w) u)) (λ r. fine (both u r))

      charged : ℕ → ℕ → State → Out Walked
      charged limit room t = bind (charge limit (size (t.value (node_in w))) t) (λ u. others limit room u)

abbrev work_answered : Answer → ℕ
work_answered a = a.work

walk-tells : (n count : ℕ) (words roots : List ℕ) → Tells work_answered 0 (λ limit room. walk limit room n count words roots)
unfolding walk
walk-tells n count words roots =
    tells-bind (work_walked node) work_answered 0 (λ limit room. walk_nodes limit room node count roots) (λ limit room r. fine (answer_of r))
    (tells-bind work_in (work_walked node) 0 (λ limit room. charge limit (length roots + counted.reached) (walk_begin counted))
    (λ limit room s. show_roots limit room node count roots s) (charge-tells (length roots + counted.reached) (walk_begin counted)) (λ s. show_tells node count roots s))
    (λ r. tells-fine work_answered r.state.work (answer_of r) (omega arith))
  where
    node : ℕ → PauliNode
    node = node_at n words

    counted : Counted
    counted = scan node count (root_uses roots)

-- a walk needs the work of its charges and some room, and is accepted exactly where it has both; a refusal says which it lacks
pub walk-decided : (n count : ℕ) (words roots : List ℕ) → Named count roots → (need : ℕ) × ((limit room : ℕ)
    → (work_of n count words roots ≤ limit → need ≤ room → (a : Answer) × (walk limit room n count words roots ≡ fine a))
    × ((a : Answer) → walk limit room n count words roots ≡ fine a → (work_of n count words roots ≤ limit) × (need ≤ room))
    × ((e : PbcError) → walk limit room n count words roots ≡ refused e
    → ((e ≡ NoPool) × (room < need)) ⊎ ((e ≡ ExpansionLimit) × (limit < work_of n count words roots))))
walk-decided n count words roots h = (t.need, λ limit room. (accepted limit room, within limit room, refusals limit room))
  where
    t : Tells work_answered 0 (λ limit room. walk limit room n count words roots)
    t = walk-tells n count words roots

    work-is : t.answer.work ≡ work_of n count words roots
    work-is = walk-work t.answer.work t.need n count words roots t.answer h (t.accepts t.answer.work t.need (omega arith) (omega arith))

    accepted : (limit room : ℕ) → work_of n count words roots ≤ limit → t.need ≤ room → (a : Answer) × (walk limit room n count words roots ≡ fine a)
    accepted limit room l r = (t.answer, t.accepts limit room (omega (arith, work-is)) r)

    within : (limit room : ℕ) (a : Answer) → walk limit room n count words roots ≡ fine a → (work_of n count words roots ≤ limit) × (t.need ≤ room)
    within limit room a e = (
      omega (arith, walk-work limit room n count words roots a h e, walk-within limit room n count words roots a h e),
      (subst (λ o. Verdict work_answered t.need limit room o t.answer) e (t.otherwise limit room)).1,
    )

    refusals : (limit room : ℕ) (e : PbcError) → walk limit room n count words roots ≡ refused e
        → ((e ≡ NoPool) × (room < t.need)) ⊎ ((e ≡ ExpansionLimit) × (limit < work_of n count words roots))
    refusals limit room e q = go (subst (λ o. Verdict work_answered t.need limit room o t.answer) q (t.otherwise limit room))
      where
        go : ((e ≡ NoPool) × (room < t.need)) ⊎ ((e ≡ ExpansionLimit) × (limit < t.answer.work))
            → ((e ≡ NoPool) × (room < t.need)) ⊎ ((e ≡ ExpansionLimit) × (limit < work_of n count words roots))
        go (inl p) = inl p
        go (inr p) = inr (p.0, omega (arith, p.1, work-is))
