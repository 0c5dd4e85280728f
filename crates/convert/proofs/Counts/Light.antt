-- No row weighs more than n: under a cap of n or more there is no flush.
use mathlib.Core.Path.{◌≡◌, refl}
use mathlib.Core.Bool.{Bool, true, false}
use mathlib.Core.List.{List, [], ◌∷◌}
use Prim.Native.Nat.{ℕ, suc, ◌+◌, ◌≤◌}
use native.Mathlib.Omega.{arith}
use lib.ListN.{length}
use borrow.Author.Tests.{le-ltb}
use Rattle.pauli.specs.Rows.{Row, Width, ◌★◌, tally, present, weight}
use Rattle.pauli.specs.Table.{x_row, z_row}
use Rattle.pauli.proofs.Rows.{width-★}
use Rattle.convert.specs.Types.{Pauli}
use Rattle.convert.specs.Records.{AtMost, Elementary, clifford, el_t, el_tdg, el_ccx, el_ccz, el_measure}
use Rattle.convert.specs.Plain.{seven, any_above, tested, exceeds}
use Rattle.convert.specs.Code.RawPlanes.{Wide}
use Rattle.convert.specs.Code.Raw.{any_exceeds}

tally-most : (b : Bool) (k m : ℕ) → k ≤ m → tally b k ≤ suc m
tally-most true k m h = omega arith
tally-most false k m h = omega arith

weight-most : (u : List Pauli) → weight u ≤ length u
weight-most [] = omega arith
weight-most (a ∷ u) = tally-most (present a) (weight u) (length u) (weight-most u)

abbrev Widths : ℕ → List Row → Type 0
Widths n [] = Unit {0}
Widths n (P ∷ Ps) = Width n P × Widths n Ps

light_rows : (n m : ℕ) (Ps : List Row) → n ≤ m → Widths n Ps → any_above m Ps ≡ false
light_rows n m [] h w = refl
light_rows n m (P ∷ Ps) h w = rw (le-ltb m (weight P.letters) (omega (arith, h, w.0, weight-most P.letters))) (light_rows n m Ps h w.1)

seven-wide : (n : ℕ) (A B D : Row) → Width n A → Width n B → Width n D → Widths n (seven A B D)
seven-wide n A B D a b d =
    let ab = width-★ n A B a b in
    (a, (b, (d, (ab, (width-★ n A D a d, (width-★ n B D b d, (width-★ n (A ★ B) D ab d, tt)))))))

tested-wide : (n : ℕ) (t : List Row) (e : Elementary) → Wide n t → Widths n (tested n t e)
unfolding tested
tested-wide n t (clifford g) w = tt
tested-wide n t (el_t q) w = (w.widths (n + q), tt)
tested-wide n t (el_tdg q) w = (w.widths (n + q), tt)
tested-wide n t (el_ccx a b d) w = seven-wide n (z_row n t a) (z_row n t b) (x_row n t d) (w.widths (n + a)) (w.widths (n + b)) (w.widths d)
tested-wide n t (el_ccz a b d) w = seven-wide n (z_row n t a) (z_row n t b) (z_row n t d) (w.widths (n + a)) (w.widths (n + b)) (w.widths (n + d))
tested-wide n t (el_measure q k) w = (w.widths (n + q), tt)

pub no_flush : (n m : ℕ) (t : List Row) (es : List Elementary) → n ≤ m → Wide n t → any_exceeds n (AtMost m) t es ≡ false
unfolding exceeds
no_flush n m t [] h w = refl
no_flush n m t (e ∷ es) h w = rw (light_rows n m (tested n t e) h (tested-wide n t e w)) (no_flush n m t es h w)
