-- kept: nothing else states these laws of charges, scans and roots, so they may not go
-- What the walk's loops need: charges in parts, the scan node by node, the roots in turn, and a root by the machine.
use mathlib.Core.Path.{◌≡◌, refl, ap}
use mathlib.Core.Bool.{Bool, true, false, cond}
use mathlib.Core.List.{List, [], ◌∷◌, ◌++◌, append_assoc}
use Prim.Native.Nat.{ℕ, zero, suc, ◌+◌, ◌<◌}
use native.Mathlib.Nat.{not-suc-le-zero}
use native.Mathlib.Omega.{arith}
use borrow.Author.Tests.{leb-false, lt-leb}
use lib.Dec.{leb}
use Rattle.arena.specs.Errors.{ExpansionLimit}
use Rattle.arena.specs.References.{node_in, phase_in}
use Rattle.arena.specs.Nodes.{PauliNode}
use Rattle.arena.specs.Sparse.{Sparse, turned, size}
use Rattle.arena.specs.Walk.{Out, fine, refused, bind, State, child_uses, one_more, scan_node, scan, worked, charge, release, Walked, eval, show_roots}
use Rattle.arena.specs.Code.Machine.{run_path}
use Rattle.arena.proofs.DecodedNodes.{Fits}
use Rattle.arena.proofs.Walk.MachineRuns.{left, run-eval}

-- ---- charging in two parts is charging the sum

pub charge-parts : (limit a b : ℕ) (s : State) → bind (charge limit a s) (λ t. charge limit b t) ≡ charge limit (a + b) s
charge-parts limit a b s = go (leb (s.work + a) limit) refl
  where
    sums : s.work + a + b ≡ s.work + (a + b)
    sums = omega arith

    go : (c : Bool) → leb (s.work + a) limit ≡ c
        → bind (cond c (fine (worked a s)) (refused ExpansionLimit)) (λ t. charge limit b t) ≡ charge limit (a + b) s
    go true e = rw (← sums)
    go false e = rw (lt-leb (s.work + (a + b)) limit (omega (arith, leb-false (s.work + a) limit e)))

-- ---- the falling scan, one node at a time

pub scan-unused : (node : ℕ → PauliNode) (k : ℕ) (u : ℕ → ℕ) → u k ≡ 0 → scan node (suc k) u ≡ scan node k u
scan-unused node k u e = ap (λ m. scan_node m (node k) (λ v. scan node k v) u) e

pub scan-used : (node : ℕ → PauliNode) (k m : ℕ) (u : ℕ → ℕ) → u k ≡ suc m → scan node (suc k) u ≡ one_more (scan node k (child_uses (node k) u))
scan-used node k m u e = ap (λ m. scan_node m (node k) (λ v. scan node k v) u) e

-- ---- the loop over the roots: vs is shown so far

abbrev pub before : List Sparse → Walked → Walked
before vs r = record { shown = vs ++ r.shown; state = r.state }

-- the roots ws are still to be shown
abbrev pub go_on : ℕ → ℕ → (ℕ → PauliNode) → ℕ → List Sparse → List ℕ → State → Out Walked
go_on limit room node depth vs ws s = bind (show_roots limit room node depth ws s) (λ r. fine (before vs r))

pub root_step : (limit room : ℕ) (node : ℕ → PauliNode) (depth : ℕ) (vs : List Sparse) (w : ℕ) (ws : List ℕ) (s : State)
    → go_on limit room node depth vs (w ∷ ws) s
    ≡ bind (eval limit room node depth (node_in w) s) (λ t.
    bind (charge limit (size (t.value (node_in w))) t) (λ t.
    go_on limit room node depth (vs ++ (turned (phase_in w) (t.value (node_in w)) ∷ [])) ws (release (node_in w) t)))
root_step limit room node depth vs w ws s = go (eval limit room node depth (node_in w) s)
  where
    value : State → Sparse
    value t = turned (phase_in w) (t.value (node_in w))

    rest : State → Out Walked
    rest t = bind (show_roots limit room node depth ws (release (node_in w) t)) (λ r. fine (record { shown = value t ∷ r.shown; state = r.state }))

    next : State → Out Walked
    next t = go_on limit room node depth (vs ++ (value t ∷ [])) ws (release (node_in w) t)

    more : (x : Out Walked) (v : Sparse)
        → bind (bind x (λ r. fine (record { shown = v ∷ r.shown; state = r.state }))) (λ r. fine (before vs r))
        ≡ bind x (λ r. fine (before (vs ++ (v ∷ [])) r))
    more (fine r) v = rw append_assoc
    more (refused e) v = refl

    paid : (x : Out State) → bind (bind x rest) (λ r. fine (before vs r)) ≡ bind x next
    paid (fine t) = more (show_roots limit room node depth ws (release (node_in w) t)) (value t)
    paid (refused e) = refl

    go : (x : Out State) → bind (bind x (λ t. bind (charge limit (size (t.value (node_in w))) t) rest)) (λ r. fine (before vs r))
        ≡ bind x (λ t. bind (charge limit (size (t.value (node_in w))) t) next)
    go (fine t) = paid (charge limit (size (t.value (node_in w))) t)
    go (refused e) = refl

-- ---- a root, by the machine

-- nothing to do for a root that is done
abbrev pub root_run : ℕ → ℕ → ℕ → (ℕ → PauliNode) → Bool → ℕ → State → Out State
root_run limit room count node true i s = fine s
root_run limit room count node false i s = run_path limit room node (left count s (i ∷ [])) (i ∷ []) s

pub root_run_lem : (limit room n count : ℕ) (node : ℕ → PauliNode) → ((i : ℕ) → Fits n i (node i)) → (i : ℕ) (s : State) → i < count
    → root_run limit room count node (s.done i) i s ≡ eval limit room node count i s
root_run_lem limit room n count node fits i s h = go (s.done i) refl count h
  where
    go : (b : Bool) → s.done i ≡ b → (count : ℕ) → i < count → root_run limit room count node b i s ≡ eval limit room node count i s
    go b d zero h = absurd (not-suc-le-zero h)
    go true d (suc f) h = rw d
    go false d (suc f) h = run-eval limit room n (suc f) node fits i s h d
