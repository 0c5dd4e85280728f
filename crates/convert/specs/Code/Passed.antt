-- That a list passed the checks has one proof at most, so it may be a ghost field.
use Rattle.std.specs.Prelude.{List, [], ◌∷◌, ℕ}
use mathlib.Core.HLevel.{×_prop}
use denote.Struct.Props as logic
use Rattle.pauli.specs.Gates.{Gate, Valid, gate_h, gate_x, gate_z, gate_s, gate_sdg, gate_cnot, gate_cz}
use Rattle.convert.specs.Records.{Elementary, clifford, el_t, el_tdg, el_ccx, el_ccz, el_measure, Proper, AllProper}

valid-prop : (n : ℕ) (g : Gate) → IsProp (Valid n g)
valid-prop n (gate_h q) = Prim.hlevel logic.props
valid-prop n (gate_x q) = Prim.hlevel logic.props
valid-prop n (gate_z q) = Prim.hlevel logic.props
valid-prop n (gate_s q) = Prim.hlevel logic.props
valid-prop n (gate_sdg q) = Prim.hlevel logic.props
valid-prop n (gate_cnot c t) = Prim.hlevel logic.props
valid-prop n (gate_cz c t) = Prim.hlevel logic.props

proper-prop : (n m : ℕ) (e : Elementary) → IsProp (Proper n m e)
proper-prop n m (clifford g) = valid-prop n g
proper-prop n m (el_t q) = Prim.hlevel logic.props
proper-prop n m (el_tdg q) = Prim.hlevel logic.props
proper-prop n m (el_ccx a b d) = Prim.hlevel logic.props
proper-prop n m (el_ccz a b d) = Prim.hlevel logic.props
proper-prop n m (el_measure q k) = Prim.hlevel logic.props

pub AllProper-prop : (n m : ℕ) (es : List Elementary) → IsProp (AllProper n m es)
AllProper-prop n m [] = Prim.hlevel logic.props
AllProper-prop n m (e ∷ es) = ×_prop (proper-prop n m e) (AllProper-prop n m es)

pub ruleset props = (AllProper-prop, logic.props)
