-- Later calls as words, six a call; and what a conversion and such calls leave.
use Rattle.std.specs.Prelude.{List, [], ◌∷◌, ◌++◌, ℕ, zero, suc, ◌+◌, ◌*◌, ◌/◌, ◌%◌, length, get_or, Result, Ok, Err}
use Rattle.pauli.specs.Letters.{pauli_of}
use Rattle.pauli.specs.Angle.{angle_of}
use Rattle.arena.specs.References.{axis_of}
use Rattle.arena.specs.Operations.{meas_id, target_of}
use Rattle.convert.specs.Types.{Header, PbcError, PauliRef, PauliAxis}
use Rattle.convert.specs.Conversion.{Input, Converted, ConvertedMade, ConvertedRefused, ConvertStep, convert_step, convert_of}
use Rattle.convert.specs.Later.{circuit_of, LaterCall, call_frame, call_single, call_product, call_rotate, call_measure, call_conditional, laters}
use Rattle.convert.specs.declared.later.Call.TheVariants.{the_data as Call, Frame, Single, Product, Rotate, Measure, ConditionalRotate}

-- the words of a call
pub record CallWords : Type 0 where
  pub kind : ℕ
  pub a : ℕ
  pub b : ℕ
  pub c : ℕ
  pub d : ℕ
  pub e : ℕ

-- a 32-bit argument
abbrev pub low : ℕ → ℕ
low w = w % 4294967296

abbrev pub ref_in : ℕ → ℕ → PauliRef
ref_in owner w = record { owner = owner; word = low w }

abbrev pub axis_in : ℕ → ℕ → PauliAxis
axis_in owner w = axis_of (ref_in owner w)

-- the call by its kind: 0 frame gate, 1 single, 2 product, 3 rotate, 4 measure, then conditional_rotate
abbrev pub call_as : ℕ → CallWords → LaterCall
call_as zero w = call_frame (low w.a) (low w.b) (low w.c)
call_as (suc zero) w = call_single (low w.a) (pauli_of (w.b % 4))
call_as (suc (suc zero)) w = call_product (ref_in w.a w.b) (ref_in w.c w.d)
call_as (suc (suc (suc zero))) w = call_rotate (axis_in w.a w.b) (angle_of w.c)
call_as (suc (suc (suc (suc zero)))) w = call_measure (axis_in w.a w.b) (target_of (low w.c))
call_as (suc (suc (suc (suc (suc k))))) w = call_conditional (axis_in w.a w.b) (angle_of w.c) (meas_id w.d (low w.e))

unfoldable pub call_in : CallWords → LaterCall
call_in w = call_as w.kind w

-- a call as the code has it
abbrev pub called : Call → LaterCall
called (Frame k a b) = call_frame k a b
called (Single q p) = call_single q p
called (Product l r) = call_product l r
called (Rotate x k) = call_rotate x k
called (Measure x t) = call_measure x t
called (ConditionalRotate x k m) = call_conditional x k m

-- the header of an answer that has more, or the one before where it refuses
abbrev pub header_or : {A : Type 0} → Result (Header × A) PbcError → Header → Header
header_or (Ok x) h = x.0
header_or (Err e) h = h

-- the words of call i
abbrev pub call_words : (kind a b c d e : ℕ) → CallWords
call_words kind a b c d e = record { kind = kind; a = a; b = b; c = c; d = d; e = e }

unfoldable pub words_at : List ℕ → ℕ → CallWords
words_at ws i =
    call_words (get_or ws (6 * i + 0) 0) (get_or ws (6 * i + 1) 0) (get_or ws (6 * i + 2) 0) (get_or ws (6 * i + 3) 0) (get_or ws (6 * i + 4) 0) (get_or ws (6 * i + 5) 0)

-- the first k calls, and all; fewer than six words at the end call nothing
unfoldable pub calls_to : List ℕ → ℕ → List LaterCall
calls_to ws zero = []
calls_to ws (suc k) = calls_to ws k ++ call_in (words_at ws k) ∷ []

unfoldable pub calls_in : List ℕ → List LaterCall
calls_in ws = calls_to ws (length ws / 6)

-- a conversion, and where it answers a header the calls
abbrev pub run_as : Converted → List ℕ → ConvertStep → ConvertStep
run_as (ConvertedMade h) ws s =
    let c = laters (calls_in ws) (circuit_of h s.nodes s.operations s.frame) in
    convert_of (ConvertedMade c.header) c.nodes c.operations c.frame s.planes
run_as (ConvertedRefused e) ws s = s

unfoldable pub run_step : Input → List ℕ → ConvertStep
run_step x ws = run_as (convert_step x).answer ws (convert_step x)
