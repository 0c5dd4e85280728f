-- The walk and its readers, computed: circuits C, D, F, I and L of document 01, and where each refusal falls.
use mathlib.Core.Path.{◌≡◌, refl}
use mathlib.Core.Bool.{true, false}
use mathlib.Core.List.{List, [], ◌∷◌, ◌++◌}
use Prim.Native.Nat.{ℕ}
use lib.ListN.{replicate}
use Rattle.pauli.specs.Letters.{power}
use Rattle.arena.specs.Types.{I, X, Y, Z, One, MinusOne, MinusI}
use Rattle.arena.specs.Errors.{BadStore, NoScratch, ExpansionLimit, NoPool, NonHermitianAxis, ◌⟫◌⇒◌}
use Rattle.arena.specs.Nodes.{decode, node_at, values, image, factors_commute}
use Rattle.arena.specs.Sparse.{factor, dense}
use Rattle.arena.specs.Walk.{Out, fine, refused, bind, Answer, walk}
use Rattle.arena.specs.Operations.{Pi8, source_of, decode_op, axis_kind}
use Rattle.arena.specs.Store.{Header, breaks_limit, exceeds_nodes, exceeds_operations, foreign, unknown}
use Rattle.arena.specs.Readers.{Weighed, Report, expand_walk, hermitian_walk, report_walk, axes_walk}
use Rattle.arena.specs.Expansion.{WalkStep, op_at, report_check, report_step, AxesStep, axes_check, axes_step, expanded_axes_of, AxesMade}

abbrev work_of : Out Answer → Out ℕ
work_of o = bind o (λ a. fine a.work)

-- C and L: one qubit, node 3 = X Z
c_words : List ℕ
c_words = 0 ∷ 0 ∷ 5 ∷ 0 ∷ 13 ∷ 0 ∷ 18 ∷ 8 ∷ []

c-image : image 1 4 c_words 15 ≡ record { letters = Y ∷ []; phase = MinusOne }
unfolding image values node_at decode power c_words
c-image = refl

c_passes : walk 6 9 1 4 c_words (15 ∷ []) ≡ fine (record { shown = record { phase = MinusOne; factors = factor 0 Y ∷ [] } ∷ []; work = 6 })
unfolding walk node_at decode power c_words
c_passes = refl

c_stops : walk 5 9 1 4 c_words (15 ∷ []) ≡ refused ExpansionLimit
unfolding walk node_at decode power c_words
c_stops = refl

c_expands : expand_walk 7 9 1 4 c_words 15 ≡ fine (record { row = record { letters = Y ∷ []; phase = MinusOne }; work = 6; commute = false })
unfolding expand_walk walk node_at decode power dense factors_commute image values c_words
c_expands = refl

c_lacks_cells : expand_walk 6 9 1 4 c_words 15 ≡ refused ExpansionLimit
unfolding expand_walk walk node_at decode power dense c_words
c_lacks_cells = refl

l_passes : walk 6 9 1 4 c_words (12 ∷ []) ≡ fine (record { shown = record { phase = MinusI; factors = factor 0 Y ∷ [] } ∷ []; work = 6 })
unfolding walk node_at decode power c_words
l_passes = refl

l_stops : walk 5 9 1 4 c_words (12 ∷ []) ≡ refused ExpansionLimit
unfolding walk node_at decode power c_words
l_stops = refl

l_not_hermitian : hermitian_walk 6 9 1 4 c_words 12 ≡ refused NonHermitianAxis
unfolding hermitian_walk walk node_at decode power c_words
l_not_hermitian = refl

l_stops_before : hermitian_walk 5 9 1 4 c_words 12 ≡ refused ExpansionLimit
unfolding hermitian_walk walk node_at decode power c_words
l_stops_before = refl

-- D: two qubits, node 5 = X₀ X₁ and node 6 = Z₀ Z₁
d_words : List ℕ
d_words = 0 ∷ 0 ∷ 5 ∷ 0 ∷ 13 ∷ 0 ∷ 5 ∷ 1 ∷ 13 ∷ 1 ∷ 18 ∷ 12 ∷ 34 ∷ 16 ∷ []

d-image : image 2 7 d_words 24 ≡ record { letters = Z ∷ Z ∷ []; phase = One }
unfolding image values node_at decode power d_words
d-image = refl

d_passes : walk 7 2 2 7 d_words (24 ∷ []) ≡ fine (record { shown = record { phase = One; factors = factor 0 Z ∷ factor 1 Z ∷ [] } ∷ []; work = 7 })
unfolding walk node_at decode power d_words
d_passes = refl

-- F: three qubits, nodes 7 to 10 = Z₀ Z₁, Z₀ X₂, Z₁ X₂, Z₀ Z₁ X₂
f_words : List ℕ
f_words = 0 ∷ 0 ∷ 5 ∷ 0 ∷ 13 ∷ 0 ∷ 5 ∷ 1 ∷ 13 ∷ 1 ∷ 5 ∷ 2 ∷ 13 ∷ 2 ∷ 34 ∷ 16 ∷ 34 ∷ 20 ∷ 66 ∷ 20 ∷ 114 ∷ 20 ∷ []

f_roots : List ℕ
f_roots = 8 ∷ 16 ∷ 20 ∷ 28 ∷ 32 ∷ 36 ∷ 40 ∷ []

f-image : image 3 11 f_words 40 ≡ record { letters = Z ∷ Z ∷ X ∷ []; phase = One }
unfolding image values node_at decode power f_words
f-image = refl

f_passes : work_of (walk 34 6 3 11 f_words f_roots) ≡ fine 34
unfolding walk node_at decode power f_words f_roots
f_passes = refl

f_stops : walk 33 6 3 11 f_words f_roots ≡ refused ExpansionLimit
unfolding walk node_at decode power f_words f_roots
f_stops = refl

f_needs_room : walk 34 5 3 11 f_words f_roots ≡ refused NoPool
unfolding walk node_at decode power f_words f_roots
f_needs_room = refl

f_axis : ℕ → Weighed
f_axis w = record { word = w; kind = Pi8 }

f_report : report_walk true 34 6 3 11 f_words (f_axis 8 ∷ f_axis 16 ∷ f_axis 20 ∷ f_axis 28 ∷ f_axis 32 ∷ f_axis 36 ∷ f_axis 40 ∷ [])
    ≡ fine (record { weights = record { non_clifford = 3; clifford = 0 }; work = 34 })
unfolding report_walk walk node_at decode power f_words f_axis
f_report = refl

-- no operations
no_report : report_walk true 0 0 3 11 f_words [] ≡ fine (record { weights = record { non_clifford = 0; clifford = 0 }; work = 0 })
unfolding report_walk walk node_at decode power f_words
no_report = refl

-- I: the identity
i_passes : work_of (walk 2 0 2 7 d_words (0 ∷ [])) ≡ fine 2
unfolding walk node_at decode power d_words
i_passes = refl

i_stops : walk 1 0 2 7 d_words (0 ∷ []) ≡ refused ExpansionLimit
unfolding walk node_at decode power d_words
i_stops = refl

i_expands : expand_walk 4 0 2 7 d_words 0 ≡ fine (record { row = record { letters = I ∷ I ∷ []; phase = One }; work = 2; commute = true })
unfolding expand_walk walk node_at decode power dense factors_commute d_words
i_expands = refl

i_lacks_cells : expand_walk 3 0 2 7 d_words 0 ≡ refused ExpansionLimit
unfolding expand_walk walk node_at decode power dense d_words
i_lacks_cells = refl

-- ---- which refusal comes first

-- X₀ X₁: the limit, before anything is lent
limit_first : walk 3 1 2 6 d_words (20 ∷ []) ≡ refused ExpansionLimit
unfolding walk node_at decode power d_words
limit_first = refl

-- (X₀ Z₁) (X₀ Z₁) by two nodes: the room falls short at a copy that the limit allows
twice_words : List ℕ
twice_words = 0 ∷ 0 ∷ 5 ∷ 0 ∷ 13 ∷ 0 ∷ 5 ∷ 1 ∷ 13 ∷ 1 ∷ 18 ∷ 16 ∷ 18 ∷ 16 ∷ 82 ∷ 24 ∷ []

room_falls_short : walk 7 2 2 8 twice_words (28 ∷ []) ≡ refused NoPool
unfolding walk node_at decode power twice_words
room_falls_short = refl

-- X X: an earlier use copies, the last moves
square_words : List ℕ
square_words = 0 ∷ 0 ∷ 5 ∷ 0 ∷ 13 ∷ 0 ∷ 18 ∷ 4 ∷ []

square_passes : work_of (walk 5 2 1 4 square_words (12 ∷ [])) ≡ fine 5
unfolding walk node_at decode power square_words
square_passes = refl

square_needs_room : walk 5 1 1 4 square_words (12 ∷ []) ≡ refused NoPool
unfolding walk node_at decode power square_words
square_needs_room = refl

-- ---- the whole report of F: the operations of its ccx, seven records, scratch for eleven nodes

f_header : Header
f_header = record { qubits = 3; cbits = 0; owner = 5; nodes = 11; operations = 7; measurements = 0 }

f_operations : List ℕ
f_operations =
    4 ∷ 8 ∷ 0 ∷ 0 ∷ 0 ∷ 4 ∷ 16 ∷ 0 ∷ 0 ∷ 0 ∷ 4 ∷ 20 ∷ 0 ∷ 0 ∷ 0 ∷ 28 ∷ 28 ∷ 0 ∷ 0 ∷ 0 ∷ 28 ∷ 32 ∷ 0 ∷ 0 ∷ 0 ∷ 28 ∷ 36 ∷ 0 ∷ 0 ∷ 0 ∷ 4 ∷ 40 ∷ 0 ∷ 0 ∷ 0 ∷ []

f_reported : (limit pool : ℕ) → WalkStep Report
f_reported limit pool = report_step f_header f_words f_operations (replicate 45 7) (replicate pool 7) limit

f_report_step : f_reported 34 21
    ≡ record { answer = fine (record { weights = record { non_clifford = 3; clifford = 0 }; work = 34 }); scratch = replicate 44 0 ++ 7 ∷ []; pool = replicate 21 0 }
unfolding f_reported report_step report_check breaks_limit exceeds_nodes exceeds_operations foreign unknown op_at decode_op source_of axis_kind report_walk walk node_at decode power f_header f_operations f_words ◌⟫◌⇒◌
f_report_step = refl

-- one less of either: refused, and both are zero all the same
f_report_limit : f_reported 33 21 ≡ record { answer = refused ExpansionLimit; scratch = replicate 44 0 ++ 7 ∷ []; pool = replicate 21 0 }
unfolding f_reported report_step report_check breaks_limit exceeds_nodes exceeds_operations foreign unknown op_at decode_op source_of axis_kind report_walk walk node_at decode power f_header f_operations f_words ◌⟫◌⇒◌
f_report_limit = refl

f_report_pool : f_reported 34 20 ≡ record { answer = refused NoPool; scratch = replicate 44 0 ++ 7 ∷ []; pool = replicate 18 0 ++ 7 ∷ 7 ∷ [] }
unfolding f_reported report_step report_check breaks_limit exceeds_nodes exceeds_operations foreign unknown op_at decode_op source_of axis_kind report_walk walk node_at decode power f_header f_operations f_words ◌⟫◌⇒◌
f_report_pool = refl

-- ---- the axes of F as rows: Z₀, Z₁, X₂, Z₀ Z₁, Z₀ X₂, Z₁ X₂, Z₀ Z₁ X₂, in 28 bytes

f_expanded : (limit pool rows : ℕ) → AxesStep
f_expanded limit pool rows = axes_step f_header f_words f_operations (replicate rows 7) (replicate 45 7) (replicate pool 7) limit

f_axes_work : expanded_axes_of (f_expanded 34 21 29).answer ≡ AxesMade 34
unfolding f_expanded axes_step axes_check breaks_limit exceeds_nodes exceeds_operations foreign unknown op_at decode_op source_of axes_walk walk node_at decode power dense f_header f_operations f_words ◌⟫◌⇒◌
f_axes_work = refl

f_axes_rows : (f_expanded 34 21 29).rows
    ≡ 3 ∷ 0 ∷ 0 ∷ 0 ∷ 0 ∷ 3 ∷ 0 ∷ 0 ∷ 0 ∷ 0 ∷ 1 ∷ 0 ∷ 3 ∷ 3 ∷ 0 ∷ 0 ∷ 3 ∷ 0 ∷ 1 ∷ 0 ∷ 0 ∷ 3 ∷ 1 ∷ 0 ∷ 3 ∷ 3 ∷ 1 ∷ 0 ∷ 7 ∷ []
unfolding f_expanded axes_step axes_check breaks_limit exceeds_nodes exceeds_operations foreign unknown op_at decode_op source_of axes_walk walk node_at decode power dense f_header f_operations f_words ◌⟫◌⇒◌
f_axes_rows = refl

-- one less of limit or pool: refused, the rows are zero, and so are scratch and pool
f_axes_limit : f_expanded 33 21 29 ≡ record { answer = refused ExpansionLimit; rows = replicate 28 0 ++ 7 ∷ []; scratch = replicate 44 0 ++ 7 ∷ []; pool = replicate 21 0 }
unfolding f_expanded axes_step axes_check breaks_limit exceeds_nodes exceeds_operations foreign unknown op_at decode_op source_of axes_walk walk node_at decode power dense f_header f_operations f_words ◌⟫◌⇒◌
f_axes_limit = refl

f_axes_pool : f_expanded 34 20 29
    ≡ record { answer = refused NoPool; rows = replicate 28 0 ++ 7 ∷ []; scratch = replicate 44 0 ++ 7 ∷ []; pool = replicate 18 0 ++ 7 ∷ 7 ∷ [] }
unfolding f_expanded axes_step axes_check breaks_limit exceeds_nodes exceeds_operations foreign unknown op_at decode_op source_of axes_walk walk node_at decode power dense f_header f_operations f_words ◌⟫◌⇒◌
f_axes_pool = refl

-- a byte too few, or scratch for ten nodes: refused, and nothing is touched
f_axes_short : f_expanded 34 21 27 ≡ record { answer = refused NoScratch; rows = replicate 27 7; scratch = replicate 45 7; pool = replicate 21 7 }
unfolding f_expanded axes_step axes_check breaks_limit exceeds_nodes exceeds_operations foreign unknown op_at decode_op source_of axes_walk walk node_at decode power dense f_header f_operations f_words ◌⟫◌⇒◌
f_axes_short = refl

f_axes_scratch : axes_step f_header f_words f_operations (replicate 28 7) (replicate 43 7) [] 34 ≡ record { answer = refused NoScratch; rows = replicate 28 7; scratch = replicate 43 7; pool = [] }
unfolding axes_step axes_check breaks_limit exceeds_nodes exceeds_operations foreign unknown op_at decode_op source_of axes_walk walk node_at decode power dense f_header f_operations f_words ◌⟫◌⇒◌
f_axes_scratch = refl

-- an operation word too few comes first
f_axes_bad : axes_step f_header f_words [] [] [] [] 34 ≡ record { answer = refused BadStore; rows = []; scratch = []; pool = [] }
unfolding axes_step axes_check breaks_limit exceeds_nodes exceeds_operations foreign unknown op_at decode_op source_of axes_walk walk node_at decode power dense f_header f_words ◌⟫◌⇒◌
f_axes_bad = refl

-- C and L as axes: Y with the phases -1 and -i
c_axes_rows : (axes_step (record { qubits = 1; cbits = 0; owner = 5; nodes = 4; operations = 2; measurements = 0 }) c_words (4 ∷ 15 ∷ 0 ∷ 0 ∷ 0 ∷ 4 ∷ 12 ∷ 0 ∷ 0 ∷ 0 ∷ [])
    (replicate 4 7) (replicate 16 7) (replicate 9 7) 20).rows ≡ 2 ∷ 2 ∷ 2 ∷ 3 ∷ []
unfolding axes_step axes_check breaks_limit exceeds_nodes exceeds_operations foreign unknown op_at decode_op source_of axes_walk walk node_at decode power dense c_words ◌⟫◌⇒◌
c_axes_rows = refl
