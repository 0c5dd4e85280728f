-- What expand, hermitian_axis, the two weight reports and expand_axes make of a walk; the checks before it are not here.
use Rattle.std.specs.Prelude.{Bool, true, false, cond, List, [], ◌∷◌, map, ℕ, ◌-◌, max, leb}
use Rattle.pauli.specs.Letters.{real}
use Rattle.pauli.specs.Rows.{Row}
use Rattle.arena.specs.Errors.{ExpansionLimit, NonHermitianAxis}
use Rattle.arena.specs.References.{node_in}
use Rattle.arena.specs.Nodes.{node_at, factors_commute}
use Rattle.arena.specs.Operations.{AxisKind, NoKind, Pi8, Clifford, Measurement}
use Rattle.arena.specs.Sparse.{Sparse, empty, size, dense}
use Rattle.arena.specs.Walk.{Out, fine, refused, bind, Answer, walk}

abbrev pub first_of : List Sparse → Sparse
first_of [] = empty
first_of (v ∷ vs) = v

-- ---- expand: one root, as a row, and whether the two factors of its node commute

pub record Expanded : Type 0 where
  pub row : Row
  pub work : ℕ
  pub commute : Bool

abbrev pub expanded_of : (n count : ℕ) → (words : List ℕ) → (w : ℕ) → Answer → Expanded
expanded_of n count words w a =
    record { row = dense n (first_of a.shown); work = a.work; commute = factors_commute n count words (node_at n words (node_in w)) }

-- the n cells of the row are set aside from the limit, and are no work
unfoldable pub expand_walk : (cells room n count : ℕ) → (words : List ℕ) → (w : ℕ) → Out Expanded
expand_walk cells room n count words w = cond (leb n cells)
    (bind (walk (cells - n) room n count words (w ∷ [])) (λ a. fine (expanded_of n count words w a)))
    (refused ExpansionLimit)

-- ---- hermitian_axis: one root, whose phase is 1 or -1; the work

unfoldable pub hermitian_walk : (limit room n count : ℕ) → (words : List ℕ) → (w : ℕ) → Out ℕ
hermitian_walk limit room n count words w =
    bind (walk limit room n count words (w ∷ [])) (λ a. cond (real (first_of a.shown).phase) (fine a.work) (refused NonHermitianAxis))

-- ---- the weight reports: the axis of each operation is a root

-- an operation's axis, and its kind
pub record Weighed : Type 0 where
  pub word : ℕ
  pub kind : AxisKind

pub record Weights : Type 0 where
  pub non_clifford : ℕ
  pub clifford : ℕ

abbrev pub counts_non_clifford : AxisKind → Bool
counts_non_clifford NoKind = false
counts_non_clifford Pi8 = true
counts_non_clifford Clifford = false
counts_non_clifford Measurement = true

-- zeros: whether an angle of 0, which has no kind, counts as Clifford (the first report), or not at all (E3 of document 02)
abbrev pub counts_clifford : (zeros : Bool) → AxisKind → Bool
counts_clifford zeros NoKind = zeros
counts_clifford zeros Pi8 = false
counts_clifford zeros Clifford = true
counts_clifford zeros Measurement = false

-- the larger of the two, where the weight counts
abbrev pub raised : Bool → (weight most : ℕ) → ℕ
raised counts weight most = cond counts (max weight most) most

abbrev pub weigh : (zeros : Bool) → AxisKind → ℕ → Weights → Weights
weigh zeros kind k m = record { non_clifford = raised (counts_non_clifford kind) k m.non_clifford; clifford = raised (counts_clifford zeros kind) k m.clifford }

-- the largest of those that count, 0 where there is none
abbrev pub largest : (zeros : Bool) → List Weighed → List ℕ → Weights
largest zeros [] ks = record { non_clifford = 0; clifford = 0 }
largest zeros (x ∷ xs) [] = record { non_clifford = 0; clifford = 0 }
largest zeros (x ∷ xs) (k ∷ ks) = weigh zeros x.kind k (largest zeros xs ks)

pub record Report : Type 0 where
  pub weights : Weights
  pub work : ℕ

abbrev pub words_of : List Weighed → List ℕ
words_of xs = map (λ x. x.word) xs

unfoldable pub report_walk : (zeros : Bool) → (limit room n count : ℕ) → (words : List ℕ) → (axes : List Weighed) → Out Report
report_walk zeros limit room n count words axes =
    bind (walk limit room n count words (words_of axes)) (λ a. fine (record { weights = largest zeros axes (map size a.shown); work = a.work }))

-- ---- expand_axes: the roots as rows, in the same walk

pub record Axes : Type 0 where
  pub rows : List Row
  pub work : ℕ

unfoldable pub axes_walk : (limit room n count : ℕ) → (words roots : List ℕ) → Out Axes
axes_walk limit room n count words roots =
    bind (walk limit room n count words roots) (λ a. fine (record { rows = map (dense n) a.shown; work = a.work }))
