-- Angles (document 01): k stands for the rotation exp(-i k π/8 P), and k counts modulo 8.
use Rattle.std.specs.Prelude.{ℕ, ◌-◌, ◌%◌, ℤ, pos, negsuc}
pub use Rattle.pauli.specs.declared.angle.PauliAngle.{PauliAngle}

-- the Euclidean remainder by 8; `negsuc n` is -(n + 1)
abbrev pub remainder8 : ℤ → ℕ
remainder8 (pos n) = n % 8
remainder8 (negsuc n) = 7 - n % 8

-- the angle of so many eighths
abbrev pub angle_of : ℕ → PauliAngle
angle_of k = record { 0 = k % 8 }

-- the eighths of an angle. The field is private and `new` keeps it below 8; whatever it holds, it counts modulo 8.
abbrev pub eighths_of : PauliAngle → ℕ
eighths_of a = a.0 % 8
