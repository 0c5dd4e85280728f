-- What each function that reads a circuit returns, and what it leaves in the slices lent. The header and the nodes are only read.
use Rattle.std.specs.Prelude.{Bool, cond, List, ℕ, length, Ok, Err}
use Rattle.pauli.specs.Letters.{phase_number}
use Rattle.arena.specs.Walk.{Out}
use Rattle.arena.specs.Expansion.{ExpandStep, WalkStep, AxesStep, expansion_of, hermitian_of, max_weights_of, expanded_axes_of, expand_step, hermitian_step, report_step, kind_report_step, axes_step}
use Rattle.exports.specs.Types.{Expansion, HermitianAxis, MaxAxisWeights, ExpandedAxes}
use Rattle.exports.specs.Words.{header_in, handle_in, too_short, Reply, Values, Refused, Returned, replied}

-- ---- replies: phase, work and 1 if the two factors commute; word and work; two weights and work; the work

unfoldable pub expanded_reply : Expansion → Reply
expanded_reply (Ok made) = Values (phase_number made.phase) made.work (cond made.commute 1 0)
expanded_reply (Err e) = Refused e

unfoldable pub hermitian_reply : HermitianAxis → Reply
hermitian_reply (Ok made) = Values made.axis.0.word made.work 0
hermitian_reply (Err e) = Refused e

unfoldable pub weights_reply : MaxAxisWeights → Reply
weights_reply (Ok made) = Values made.non_clifford made.clifford made.work
weights_reply (Err e) = Refused e

unfoldable pub axes_reply : ExpandedAxes → Reply
axes_reply (Ok work) = Values work 0 0
axes_reply (Err e) = Refused e

-- ---- expand

-- the words that it may write
pub record ExpandLent : Type 0 where
  pub letters : List ℕ
  pub scratch : List ℕ
  pub pool : List ℕ

abbrev pub expand_words : (letters scratch pool : List ℕ) → ExpandLent
expand_words letters scratch pool = record { letters = letters; scratch = scratch; pool = pool }

abbrev pub expanded_with : (letters scratch pool answer : List ℕ) → (short : Bool) → ExpandStep → Returned ExpandLent
expanded_with letters scratch pool answer short step =
    replied short answer (expand_words letters scratch pool) (expanded_reply (expansion_of step.answer))
    (expand_words step.letters step.scratch step.pool)

unfoldable pub expand_call : (header nodes letters scratch pool : List ℕ) → (owner word cells : ℕ) → (answer : List ℕ) → Returned ExpandLent
expand_call header nodes letters scratch pool owner word cells answer =
    expanded_with letters scratch pool answer (too_short (length header) (length answer))
    (expand_step (header_in header) nodes letters scratch pool (handle_in owner word) cells)

-- ---- hermitian_axis and the weight reports

pub record WalkLent : Type 0 where
  pub scratch : List ℕ
  pub pool : List ℕ

abbrev pub walk_words : (scratch pool : List ℕ) → WalkLent
walk_words scratch pool = record { scratch = scratch; pool = pool }

abbrev pub walked_with : {A : Type 0} → (scratch pool answer : List ℕ) → (short : Bool) → (Out A → Reply) → WalkStep A → Returned WalkLent
walked_with scratch pool answer short reply step =
    replied short answer (walk_words scratch pool) (reply step.answer) (walk_words step.scratch step.pool)

unfoldable pub hermitian_call : (header nodes scratch pool : List ℕ) → (owner word limit : ℕ) → (answer : List ℕ) → Returned WalkLent
hermitian_call header nodes scratch pool owner word limit answer =
    walked_with scratch pool answer (too_short (length header) (length answer)) (λ o. hermitian_reply (hermitian_of (handle_in owner word) o))
    (hermitian_step (header_in header) nodes scratch pool (handle_in owner word) limit)

unfoldable pub weights_call : (header nodes operations scratch pool : List ℕ) → (limit : ℕ) → (answer : List ℕ) → Returned WalkLent
weights_call header nodes operations scratch pool limit answer =
    walked_with scratch pool answer (too_short (length header) (length answer)) (λ o. weights_reply (max_weights_of o))
    (report_step (header_in header) nodes operations scratch pool limit)

unfoldable pub kind_weights_call : (header nodes operations scratch pool : List ℕ) → (limit : ℕ) → (answer : List ℕ) → Returned WalkLent
kind_weights_call header nodes operations scratch pool limit answer =
    walked_with scratch pool answer (too_short (length header) (length answer)) (λ o. weights_reply (max_weights_of o))
    (kind_report_step (header_in header) nodes operations scratch pool limit)

-- ---- expand_axes

pub record AxesLent : Type 0 where
  pub rows : List ℕ
  pub scratch : List ℕ
  pub pool : List ℕ

abbrev pub axes_words : (rows scratch pool : List ℕ) → AxesLent
axes_words rows scratch pool = record { rows = rows; scratch = scratch; pool = pool }

abbrev pub axes_with : (rows scratch pool answer : List ℕ) → (short : Bool) → AxesStep → Returned AxesLent
axes_with rows scratch pool answer short step =
    replied short answer (axes_words rows scratch pool) (axes_reply (expanded_axes_of step.answer))
    (axes_words step.rows step.scratch step.pool)

unfoldable pub expand_axes_call : (header nodes operations rows scratch pool : List ℕ) → (limit : ℕ) → (answer : List ℕ) → Returned AxesLent
expand_axes_call header nodes operations rows scratch pool limit answer =
    axes_with rows scratch pool answer (too_short (length header) (length answer))
    (axes_step (header_in header) nodes operations rows scratch pool limit)
