-- kept: claims, which Theorems.antt takes from here as a module
-- Whether two factors commute: what the answer of expand, and the phase of a product of two sparse ones, say of it.
use mathlib.Core.Path.{◌≡◌, refl, ap, sym, ◌∙◌, subst}
use mathlib.Core.Logic.Iff
use mathlib.Core.Logic.{◌≢◌, ◌↔◌}
use mathlib.Core.Bool.{Bool, true, not}
use mathlib.Core.List.{List}
use Prim.Native.Nat.{ℕ, ◌%◌}
use native.Mathlib.Omega.{arith}
use Rattle.pauli.specs.Letters.{real, phase_number}
use Rattle.pauli.specs.Rows.{◌★◌, anticommute, anti_places}
use Rattle.pauli.proofs.Rows.{commute_iff_even, commute_iff_yes}
use Rattle.pauli.proofs.Litinski.{real-phases}
use Rattle.arena.specs.Types.{Phase, One, PlusI, MinusOne, MinusI}
use Rattle.arena.specs.References.{PauliRef, node_in}
use Rattle.arena.specs.Nodes.{PauliNode, Identity, Single, Product, Malformed, node_at, image, factors_commute}
use Rattle.arena.specs.Store.{Header}
use Rattle.arena.specs.Sparse.{Sparse, merge, dense}
use Rattle.arena.specs.Walk.{Out, fine, refused}
use Rattle.arena.specs.Readers.{Expanded}
use Rattle.arena.proofs.Made.{made_same}
use Rattle.arena.specs.Expansion.{ExpansionParts, ExpansionMade, expansion_of, expand_step}
use Rattle.arena.specs.PoolSteps.{Operands, Merged}
use Rattle.arena.specs.Code.WalkWords.{Ordered}
use Rattle.arena.proofs.SparseProducts.{merge-phase}
use Rattle.arena.proofs.Walk.Readers.{zero-is_one, expand_judges}

-- ---- the two factors of a node

factors_iff : (n k : ℕ) (words : List ℕ) (x : PauliNode) (a b : ℕ) → x ≡ Product a b
    → (factors_commute n k words x ≡ true) ↔ (image n k words a ★ image n k words b ≡ image n k words b ★ image n k words a)
unfolding factors_commute
factors_iff n k words x a b e = rw e (commute_iff_yes (image n k words a) (image n k words b))

no_factors : (n k : ℕ) (words : List ℕ) (x : PauliNode) → ((a b : ℕ) → x ≢ Product a b) → factors_commute n k words x ≡ true
unfolding factors_commute
no_factors n k words Identity h = refl
no_factors n k words (Single q a) h = refl
no_factors n k words (Product a b) h = absurd (h a b refl)
no_factors n k words Malformed h = refl

module _ (h : Header) (nodes letters scratch pool : List ℕ) (r : PauliRef) (cells : ℕ) (phase : Phase) (work : ℕ) (commute : Bool)
    (e : expansion_of (expand_step h nodes letters scratch pool r cells).answer ≡ ExpansionMade phase work commute) where
  abbrev root : PauliNode
  root = node_at h.qubits nodes (node_in r.word)

  judged : commute ≡ factors_commute h.qubits h.nodes nodes root
  judged = go (expand_step h nodes letters scratch pool r cells).answer refl e
    where
      go : (y : Out Expanded) → (expand_step h nodes letters scratch pool r cells).answer ≡ y → expansion_of y ≡ ExpansionMade phase work commute
          → commute ≡ factors_commute h.qubits h.nodes nodes root
      go (fine x) q e = let same : x.commute ≡ commute = ap (λ (p : ExpansionParts). p.commute) (made_same e) in sym same ∙ expand_judges h nodes letters scratch pool r cells x q
      go (refused k) q e = let z : ◌≡◌ {A = ℕ} 0 1 = cc in absurd (zero-is_one z)

  pub expand_commutes : (a b : ℕ) → node_at h.qubits nodes (node_in r.word) ≡ Product a b
      → (commute ≡ true) ↔ (image h.qubits h.nodes nodes a ★ image h.qubits h.nodes nodes b ≡ image h.qubits h.nodes nodes b ★ image h.qubits h.nodes nodes a)
  expand_commutes a b p = rw judged (factors_iff h.qubits h.nodes nodes root a b p)

  pub expand_even : (a b : ℕ) → node_at h.qubits nodes (node_in r.word) ≡ Product a b
      → (commute ≡ true) ↔ (anti_places (image h.qubits h.nodes nodes a).letters (image h.qubits h.nodes nodes b).letters % 2 ≡ 0)
  expand_even a b p = Iff.trans (expand_commutes a b p) (commute_iff_even (image h.qubits h.nodes nodes a) (image h.qubits h.nodes nodes b))

  pub expand_no_product : ((a b : ℕ) → node_at h.qubits nodes (node_in r.word) ≢ Product a b) → commute ≡ true
  expand_no_product p = judged ∙ no_factors h.qubits h.nodes nodes root p

-- ---- two sparse products

pub merge-commutes : (n : ℕ) (u v : Sparse) → Ordered n u → Ordered n v
    → (real (merge u.factors v.factors).phase ≡ true) ↔ (dense n u ★ dense n v ≡ dense n v ★ dense n u)
merge-commutes n u v ru rv =
    let same : real (merge u.factors v.factors).phase ≡ not (anticommute (dense n u) (dense n v)) =
    ap real (merge-phase n u v ru rv) ∙ real-phases (dense n u).letters (dense n v).letters in
    subst (λ (b : Bool). (b ≡ true) ↔ (dense n u ★ dense n v ≡ dense n v ★ dense n u)) (sym same) (commute_iff_yes (dense n u) (dense n v))

pub merge-even : (n : ℕ) (u v : Sparse) → Ordered n u → Ordered n v
    → (real (merge u.factors v.factors).phase ≡ true) ↔ (anti_places (dense n u).letters (dense n v).letters % 2 ≡ 0)
merge-even n u v ru rv = Iff.trans (merge-commutes n u v ru rv) (commute_iff_even (dense n u) (dense n v))

even-real : (p : Phase) → (phase_number p % 2 ≡ 0) ↔ (real p ≡ true)
even-real One = (λ e. refl, λ e. refl)
even-real PlusI = (λ e. let z : ◌≡◌ {A = ℕ} 1 0 = e in absurd (omega arith), λ e. let z : ◌≡◌ {A = ℕ} 0 1 = cc in absurd (zero-is_one z))
even-real MinusOne = (λ e. refl, λ e. refl)
even-real MinusI = (λ e. let z : ◌≡◌ {A = ℕ} 1 0 = e in absurd (omega arith), λ e. let z : ◌≡◌ {A = ℕ} 0 1 = cc in absurd (zero-is_one z))

pub merged_commutes : (n : ℕ) (u v : Sparse) {p p' : List ℕ} {free a na b nb head count phase free' : ℕ} (g : Operands p free a na b nb)
    → Ordered n u → Ordered n v → g.fa ≡ u.factors → g.fb ≡ v.factors → Merged g p' head count phase free'
    → (phase % 2 ≡ 0) ↔ (dense n u ★ dense n v ≡ dense n v ★ dense n u)
merged_commutes n u v {phase = phase} g ru rv ea eb m =
    let same : phase ≡ phase_number (merge u.factors v.factors).phase = rw (← ea, ← eb) m.phase_is in
    subst (λ (k : ℕ). (k % 2 ≡ 0) ↔ (dense n u ★ dense n v ≡ dense n v ★ dense n u)) (sym same)
    (Iff.trans (even-real (merge u.factors v.factors).phase) (merge-commutes n u v ru rv))
