-- kept: claims, which Theorems.antt takes from here as a module
-- The seven rows of ccx and ccz are the doubly controlled gate: one test over the eight sign patterns.
use mathlib.Core.Path.{◌≡◌}
use mathlib.Core.Bool.{Bool, cond, ◌&&◌}
use Prim.Native.Nat.{◌+◌, ◌%◌}
use Rattle.pauli.specs.Doubly.{seven_rows, all_turned_by}
use Rattle.pauli.proofs.Finite.{truths, number, law₃}

pub doubly_controlled : (x y z : Bool) → all_turned_by seven_rows x y z ≡ (7 + cond (x && (y && z)) 8 0) % 16
doubly_controlled = law₃ truths number _ _ tt
