-- Worked examples, computed: circuits C, D, H and M of document 01 on the plain level, and some of the two papers' own.
use mathlib.Core.Path.{◌≡◌, refl}
use mathlib.Core.List.{List, [], ◌∷◌}
use Prim.Native.Nat.{◌-◌, ◌^◌}
use lib.IntN.{pos, negsuc}
use Rattle.pauli.specs.Letters.{Pauli, I, X, Y, Z, Phase, One, PlusI, MinusOne, MinusI}
use Rattle.pauli.specs.Angle.{remainder8}
use Rattle.pauli.specs.Rows.{Row, ◌★◌, single}
use Rattle.pauli.specs.Gates.{Gate, gate_h, gate_x, gate_z, gate_s, gate_sdg, gate_cnot, gate_cz, conj, back, forward}
use Rattle.pauli.specs.Rotations.{rotate, flush, rotations}
use Rattle.pauli.specs.Table.{start, step, run, table, z_row}

abbrev row : Phase → List Pauli → Row
row p us = record { letters = us; phase = p }

-- C: after s, h the z row is -Y
circuit_c : z_row 1 (table 1 (gate_s 0 ∷ gate_h 0 ∷ [])) 0 ≡ row MinusOne (Y ∷ [])
unfolding table run step start
circuit_c = refl

-- D: after cnot 0 1 the z row of qubit 1 is ZZ
circuit_d : z_row 2 (table 2 (gate_cnot 0 1 ∷ [])) 1 ≡ row One (Z ∷ Z ∷ [])
unfolding table run step start
circuit_d = refl

-- M: after y, that is z, x, the z row is -Z
circuit_m : z_row 1 (table 1 (gate_z 0 ∷ gate_x 0 ∷ [])) 0 ≡ row MinusOne (Z ∷ [])
unfolding table run step start
circuit_m = refl

-- H: -1, 8 and the least 64-bit number
circuit_h₁ : remainder8 (negsuc 0) ≡ 7
circuit_h₁ = refl

circuit_h₂ : remainder8 (pos 8) ≡ 0
circuit_h₂ = refl

circuit_h₃ : remainder8 (negsuc (2 ^ 63 - 1)) ≡ 0
circuit_h₃ = refl

-- XY = iZ, and ZYX = -i
x_times_y : single 1 0 X ★ single 1 0 Y ≡ row PlusI (Z ∷ [])
x_times_y = refl

z_y_x : single 1 0 Z ★ single 1 0 Y ★ single 1 0 X ≡ row MinusI (I ∷ [])
z_y_x = refl

-- Aaronson and Gottesman: h and cnot take the stabilizers ZI and IZ of |00⟩ to those of the Bell pair, XX and ZZ
bell_x : forward (gate_h 0 ∷ gate_cnot 0 1 ∷ []) (single 2 0 Z) ≡ row One (X ∷ X ∷ [])
unfolding forward conj
bell_x = refl

bell_z : forward (gate_h 0 ∷ gate_cnot 0 1 ∷ []) (single 2 1 Z) ≡ row One (Z ∷ Z ∷ [])
unfolding forward conj
bell_z = refl

-- Litinski: a quarter turn along X moved behind a rotation along Z leaves one along i X Z = Y
x_past_z : rotate 6 (single 1 0 X) (single 1 0 Z) ≡ row One (Y ∷ [])
x_past_z = refl

gates : List Gate
gates = gate_h 0 ∷ gate_cnot 0 1 ∷ gate_s 1 ∷ gate_cz 1 2 ∷ gate_h 2 ∷ gate_sdg 0 ∷ gate_cnot 2 0 ∷ gate_x 1 ∷ gate_s 2 ∷ gate_h 1 ∷ gate_cz 0 2 ∷ gate_z 2 ∷ []

-- a row of a longer circuit is U† P U, and its flush turns a row as U P U† does
longer-row : z_row 3 (table 3 gates) 2 ≡ back gates (single 3 2 Z)
unfolding table run step start gates back conj
longer-row = refl

longer-flush : rotations (flush 3 gates) (single 3 1 X) ≡ forward gates (single 3 1 X)
unfolding flush gates forward conj
longer-flush = refl
