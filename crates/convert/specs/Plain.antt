-- The conversion in letters and phases: no node, no word.
use Rattle.std.specs.Prelude.{Bool, true, false, cond, ◌||◌, List, [], ◌∷◌, ◌++◌, map, ℕ, suc, ltb}
use Rattle.pauli.specs.Rows.{Row, ◌★◌, weight}
use Rattle.pauli.specs.Gates.{Gate}
use Rattle.pauli.specs.Table.{start, step, x_row, z_row}
use Rattle.pauli.specs.Rotations.{Rotation, written}
use Rattle.pauli.specs.Doubly.{Term, seven_rows}
use Rattle.convert.specs.Types.{One, Target, Bit}
use Rattle.convert.specs.Records.{Cap, NoCap, AtMost, Elementary, clifford, el_t, el_tdg, el_ccx, el_ccz, el_measure, Placed, placed, From, from, map_from}

pub data Operation : Type 0 where
  rotate_by : ℕ → Row → Operation  -- angle, axis
  measure_of : Row → ℕ → Target → Operation  -- axis, number, classical bit
  conditional_by : ℕ → Row → ℕ → Operation  -- angle, axis, number
  malformed : Operation

-- the table, the Clifford gates since the last flush, what is written and for which gate record, and the measurements given
pub record Plain : Type 0 where
  pub table : List Row
  pub pending : List (Placed Gate)
  pub operations : List (From Operation)
  pub given : ℕ

abbrev pub plain_of : List Row → List (Placed Gate) → List (From Operation) → ℕ → Plain
plain_of t gs os m = record { table = t; pending = gs; operations = os; given = m }

unfoldable pub plain_begin : ℕ → Plain
plain_begin n = plain_of (start n) [] [] 0

-- ---- the seven rows of ccx and ccz

-- the product of those of a, b and d that are marked
abbrev pub along_as : Bool → Bool → Bool → Row → Row → Row → Row
along_as true true true a b d = a ★ b ★ d
along_as true true false a b d = a ★ b
along_as true false true a b d = a ★ d
along_as true false false a b d = a
along_as false true true a b d = b ★ d
along_as false true false a b d = b
along_as false false true a b d = d
along_as false false false a b d = record { letters = []; phase = One }

abbrev pub along : Row → Row → Row → Term → Row
along a b d t = along_as t.a t.b t.d a b d

-- the seven products, and the rotations along them
abbrev pub seven : Row → Row → Row → List Row
seven a b d = map (along a b d) seven_rows

abbrev pub rotate_seven : Row → Row → Row → List Operation
rotate_seven a b d = map (λ t. rotate_by t.angle (along a b d t)) seven_rows

-- ---- when a flush comes

-- some row has more letters other than I than the cap
abbrev pub any_above : ℕ → List Row → Bool
any_above cap [] = false
any_above cap (P ∷ Ps) = ltb cap (weight P.letters) || any_above cap Ps

-- what is tested before an elementary gate
unfoldable pub tested : ℕ → List Row → Elementary → List Row
tested n t (clifford g) = []
tested n t (el_t q) = z_row n t q ∷ []
tested n t (el_tdg q) = z_row n t q ∷ []
tested n t (el_ccx a b d) = seven (z_row n t a) (z_row n t b) (x_row n t d)
tested n t (el_ccz a b d) = seven (z_row n t a) (z_row n t b) (z_row n t d)
tested n t (el_measure q k) = z_row n t q ∷ []

unfoldable pub exceeds : ℕ → Cap → List Row → Elementary → Bool
exceeds n NoCap t e = false
exceeds n (AtMost cap) t e = any_above cap (tested n t e)

-- ---- the conversion; what a flush writes for pending gates of n qubits is its first argument

abbrev pub Flush : Type 0
Flush = ℕ → List (Placed Gate) → List (From Rotation)

-- the rotations of each pending gate, in order, name that gate's record
unfoldable pub flush_from : Flush
flush_from n [] = []
flush_from n (g ∷ gs) = map (from g.index) (written n g.gate) ++ flush_from n gs

abbrev pub as_rotation : Rotation → Operation
as_rotation r = rotate_by r.angle r.axis

-- the pending gates are written in order on identity images, then the table starts again
unfoldable pub flushed : Flush → ℕ → Plain → Plain
flushed flush n p = plain_of (start n) [] (p.operations ++ map (map_from as_rotation) (flush n p.pending)) p.given

-- operations of record i
abbrev pub adds : ℕ → Plain → List Operation → Plain
adds i p os = plain_of p.table p.pending (p.operations ++ map (from i) os) p.given

-- an elementary gate that is part j of record i
unfoldable pub perform_as : ℕ → ℕ → ℕ → Elementary → Plain → Plain
perform_as n i j (clifford g) p = plain_of (step n g p.table) (p.pending ++ placed i j g ∷ []) p.operations p.given
perform_as n i j (el_t q) p = adds i p (rotate_by 1 (z_row n p.table q) ∷ [])
perform_as n i j (el_tdg q) p = adds i p (rotate_by 7 (z_row n p.table q) ∷ [])
perform_as n i j (el_ccx a b d) p = adds i p (rotate_seven (z_row n p.table a) (z_row n p.table b) (x_row n p.table d))
perform_as n i j (el_ccz a b d) p = adds i p (rotate_seven (z_row n p.table a) (z_row n p.table b) (z_row n p.table d))
perform_as n i j (el_measure q k) p =
    plain_of p.table p.pending (p.operations ++ from i (measure_of (z_row n p.table q) p.given (Bit k)) ∷ []) (suc p.given)

abbrev pub perform : ℕ → Placed Elementary → Plain → Plain
perform n e p = perform_as n e.index e.part e.gate p

unfoldable pub plain_step : Flush → ℕ → Cap → Placed Elementary → Plain → Plain
plain_step flush n cap e p = perform n e (cond (exceeds n cap p.table e.gate) (flushed flush n p) p)

unfoldable pub plain_run : Flush → ℕ → Cap → List (Placed Elementary) → Plain → Plain
plain_run flush n cap [] p = p
plain_run flush n cap (e ∷ es) p = plain_run flush n cap es (plain_step flush n cap e p)

-- ---- document 01's plain table alone: rows, and nothing else

unfoldable pub rows_after : ℕ → Elementary → List Row → List Row
rows_after n (clifford g) t = step n g t
rows_after n (el_t q) t = t
rows_after n (el_tdg q) t = t
rows_after n (el_ccx a b d) t = t
rows_after n (el_ccz a b d) t = t
rows_after n (el_measure q k) t = t

-- where a tested row or product exceeds the cap, all rows first return to the start
unfoldable pub table_run : ℕ → Cap → List Elementary → List Row → List Row
table_run n cap [] t = t
table_run n cap (e ∷ es) t = table_run n cap es (rows_after n e (cond (exceeds n cap t e) (start n) t))
