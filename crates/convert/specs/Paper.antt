-- The conversion by the papers alone: no table. An axis is U† P U for the Clifford gates U since the last flush.
use Rattle.std.specs.Prelude.{Bool, false, cond, List, [], ◌∷◌, ◌++◌, map, ℕ, suc}
use Rattle.pauli.specs.Rows.{Row, single}
use Rattle.pauli.specs.Gates.{Gate, back}
use Rattle.pauli.specs.Doubly.{seven_rows}
use Rattle.convert.specs.Types.{X, Z, Target, Bit}
use Rattle.convert.specs.Records.{Cap, NoCap, AtMost, Elementary, clifford, el_t, el_tdg, el_ccx, el_ccz, el_measure, Placed, placed, bare, From, from, map_from}
use Rattle.convert.specs.Plain.{Operation, rotate_by, measure_of, seven, any_above, Flush, as_rotation}

-- the Clifford gates since the last flush, the operations with the gate records that they are of, and the measurements given
pub record Paper : Type 0 where
  pub since : List (Placed Gate)
  pub operations : List (From Operation)
  pub given : ℕ

-- the Pauli products that a gate turns about or measures
unfoldable pub gate_products : ℕ → Elementary → List Row
gate_products n (clifford g) = []
gate_products n (el_t q) = single n q Z ∷ []
gate_products n (el_tdg q) = single n q Z ∷ []
gate_products n (el_ccx a b d) = seven (single n a Z) (single n b Z) (single n d X)
gate_products n (el_ccz a b d) = seven (single n a Z) (single n b Z) (single n d Z)
gate_products n (el_measure q k) = single n q Z ∷ []

-- those products, seen through the gates gs before it
unfoldable pub axes : ℕ → List Gate → Elementary → List Row
axes n gs e = map (back gs) (gate_products n e)

unfoldable pub too_heavy : ℕ → Cap → List Gate → Elementary → Bool
too_heavy n NoCap gs e = false
too_heavy n (AtMost cap) gs e = any_above cap (axes n gs e)

-- the angles of the seven rows
abbrev pub seven_angles : List ℕ
seven_angles = map (λ t. t.angle) seven_rows

abbrev pub rotate_all : List ℕ → List Row → List Operation
rotate_all [] Ps = []
rotate_all (k ∷ ks) [] = []
rotate_all (k ∷ ks) (P ∷ Ps) = rotate_by k P ∷ rotate_all ks Ps

abbrev pub measure_first : ℕ → Target → List Row → List Operation
measure_first m b [] = []
measure_first m b (P ∷ Ps) = measure_of P m b ∷ []

-- what a gate writes, after the gates gs and m measurements
unfoldable pub writes : ℕ → List Gate → ℕ → Elementary → List Operation
writes n gs m (clifford g) = []
writes n gs m (el_t q) = rotate_all (1 ∷ []) (axes n gs (el_t q))
writes n gs m (el_tdg q) = rotate_all (7 ∷ []) (axes n gs (el_tdg q))
writes n gs m (el_ccx a b d) = rotate_all seven_angles (axes n gs (el_ccx a b d))
writes n gs m (el_ccz a b d) = rotate_all seven_angles (axes n gs (el_ccz a b d))
writes n gs m (el_measure q k) = measure_first m (Bit k) (axes n gs (el_measure q k))

-- operations of record i
abbrev pub paper_adds : ℕ → Paper → List Operation → Paper
paper_adds i p os = record { since = p.since; operations = p.operations ++ map (from i) os; given = p.given }

-- a gate that is part j of record i
unfoldable pub paper_perform : ℕ → ℕ → ℕ → Elementary → Paper → Paper
paper_perform n i j (clifford g) p = record { since = p.since ++ placed i j g ∷ []; operations = p.operations; given = p.given }
paper_perform n i j (el_t q) p = paper_adds i p (writes n (bare p.since) p.given (el_t q))
paper_perform n i j (el_tdg q) p = paper_adds i p (writes n (bare p.since) p.given (el_tdg q))
paper_perform n i j (el_ccx a b d) p = paper_adds i p (writes n (bare p.since) p.given (el_ccx a b d))
paper_perform n i j (el_ccz a b d) p = paper_adds i p (writes n (bare p.since) p.given (el_ccz a b d))
paper_perform n i j (el_measure q k) p = record {
  since = p.since;
  operations = p.operations ++ map (from i) (writes n (bare p.since) p.given (el_measure q k));
  given = suc p.given;
}

abbrev pub paper_flushed : Flush → ℕ → Paper → Paper
paper_flushed flush n p = record { since = []; operations = p.operations ++ map (map_from as_rotation) (flush n p.since); given = p.given }

unfoldable pub paper_step : Flush → ℕ → Cap → Placed Elementary → Paper → Paper
paper_step flush n cap e p = paper_perform n e.index e.part e.gate (cond (too_heavy n cap (bare p.since) e.gate) (paper_flushed flush n p) p)

unfoldable pub paper_run : Flush → ℕ → Cap → List (Placed Elementary) → Paper → Paper
paper_run flush n cap [] p = p
paper_run flush n cap (e ∷ es) p = paper_run flush n cap es (paper_step flush n cap e p)

abbrev pub paper_begin : Paper
paper_begin = record { since = []; operations = []; given = 0 }
