-- When the products that a gate turns about or measures are within the cap: where the test says so, and where no gate is pending.
use mathlib.Core.Path.{◌≡◌, refl}
use mathlib.Core.Bool.{Bool, true, false, ◌&&◌}
use mathlib.Core.List.{List, [], ◌∷◌, append-nil}
use Prim.Native.Nat.{ℕ, suc, ◌≤◌, ◌<◌}
use native.Mathlib.Omega.{arith}
use borrow.Author.Tests.{ltb-false, leb-false, eqb-false, le-leb}
use lib.Dec.{ltb, leb, eqb}
use Rattle.pauli.specs.Rows.{Row, ◌★◌, single, weight}
use Rattle.pauli.specs.Gates.{back}
use Rattle.pauli.proofs.Weight.{weight-products, weight-single}
use Rattle.arena.proofs.Accepted.{left_false, right-false}
use Rattle.convert.specs.Types.{Pauli, X, Z}
use Rattle.convert.specs.Records.{GateKind, KindH, KindX, KindZ, KindS, KindSdg, KindT, KindTdg, KindCnot, KindCz, KindCcx, KindCcz, KindMeasure, KindY, KindSx, KindSwap, KindCy, Unsupported, AtMost, Record, kind_of, Elementary, clifford, el_t, el_tdg, el_ccx, el_ccz, el_measure, is_narrow, thirteen_of, fifteen_of, parts_of, lower_as, lower, lower_parts, lower_in, placed_from, lower_from, bare}
use Rattle.convert.specs.Plain.{any_above, seven}
use Rattle.convert.specs.Paper.{axes}
use Rattle.convert.specs.Paper as paper
use Rattle.convert.specs.Conversion.{is_doubly}
use Rattle.convert.specs.Sources.{All}
use Rattle.convert.specs.Routing.{Within}
use Rattle.convert.proofs.Meaning.Words.{map-append}
use Rattle.convert.proofs.Accepted.{bare-placed}
use Rattle.convert.proofs.Meaning.Sources.{all_append}
use Rattle.convert.proofs.Counts.Parts.{Split, whole, ccx, ccz, split}

abbrev UpTo : ℕ → List Row → Type 0
UpTo cap Ps = All (Within (AtMost cap)) Ps

pub not_above : (cap : ℕ) (Ps : List Row) → any_above cap Ps ≡ false → UpTo cap Ps
not_above cap [] e = tt
not_above cap (P ∷ Ps) e = (ltb-false _ _ (left_false (ltb cap (weight P.letters)) _ e), not_above cap Ps (right-false (ltb cap (weight P.letters)) _ e))

seven-light : (cap n a b d : ℕ) (l : Pauli) → 3 ≤ cap → UpTo cap (seven (single n a Z) (single n b Z) (single n d l))
seven-light cap n a b d l h = (one a Z, (one b Z, (one d l, (two a b Z Z, (two a d Z l, (two b d Z l, (three, tt)))))))
  where
    one : (q : ℕ) (x : Pauli) → weight (single n q x).letters ≤ cap
    one q x = omega (arith, weight-single n q x)

    pair : (q r : ℕ) (x y : Pauli) → weight (single n q x ★ single n r y).letters ≤ 2
    pair q r x y = omega (arith, weight-products (single n q x).letters (single n r y).letters, weight-single n q x, weight-single n r y)

    two : (q r : ℕ) (x y : Pauli) → weight (single n q x ★ single n r y).letters ≤ cap
    two q r x y = omega (arith, pair q r x y)

    three : weight (single n a Z ★ single n b Z ★ single n d l).letters ≤ cap
    three = omega (arith, weight-products (single n a Z ★ single n b Z).letters (single n d l).letters, pair a b Z Z, weight-single n d l)

-- ---- a cap that serves

-- the cap bears the products of a gate where no gate is pending
abbrev pub Borne : ℕ → Elementary → Type 0
Borne cap (clifford g) = Unit {0}
Borne cap (el_t q) = 0 < cap
Borne cap (el_tdg q) = 0 < cap
Borne cap (el_ccx a b d) = 2 < cap
Borne cap (el_ccz a b d) = 2 < cap
Borne cap (el_measure q k) = 0 < cap

abbrev pub AllBorne : ℕ → List Elementary → Type 0
AllBorne cap es = All (Borne cap) es

pub axes-light : (cap n : ℕ) (e : Elementary) → Borne cap e → UpTo cap (axes n [] e)
unfolding axes paper.gate_products back
axes-light cap n (clifford g) h = tt
axes-light cap n (el_t q) h = (omega (arith, weight-single n q Z), tt)
axes-light cap n (el_tdg q) h = (omega (arith, weight-single n q Z), tt)
axes-light cap n (el_ccx a b d) h = seven-light cap n a b d X h
axes-light cap n (el_ccz a b d) h = seven-light cap n a b d Z h
axes-light cap n (el_measure q k) h = (omega (arith, weight-single n q Z), tt)

-- ---- records under a cap that is not too small

and-true : (a : Bool) → (a && true) ≡ false → a ≡ false
and-true true e = e
and-true false e = refl

pub positive : (cap : ℕ) → eqb cap 0 ≡ false → 0 < cap
positive cap e = let ne : cap ≡ 0 → ⊥ = eqb-false cap 0 e in omega arith

borne-lower : (cap : ℕ) (k : GateKind) (a b c : ℕ) → 0 < cap → (leb cap 2 && is_doubly k) ≡ false → AllBorne cap (lower_as k a b c)
unfolding lower_as
borne-lower cap KindH a b c h e = (tt, tt)
borne-lower cap KindX a b c h e = (tt, tt)
borne-lower cap KindZ a b c h e = (tt, tt)
borne-lower cap KindS a b c h e = (tt, tt)
borne-lower cap KindSdg a b c h e = (tt, tt)
borne-lower cap KindT a b c h e = (h, tt)
borne-lower cap KindTdg a b c h e = (h, tt)
borne-lower cap KindCnot a b c h e = (tt, tt)
borne-lower cap KindCz a b c h e = (tt, tt)
borne-lower cap KindCcx a b c h e = (leb-false cap 2 (and-true (leb cap 2) e), tt)
borne-lower cap KindCcz a b c h e = (leb-false cap 2 (and-true (leb cap 2) e), tt)
borne-lower cap KindMeasure a b c h e = (h, tt)
borne-lower cap KindY a b c h e = (tt, (tt, tt))
borne-lower cap KindSx a b c h e = (tt, (tt, (tt, tt)))
borne-lower cap KindSwap a b c h e = (tt, (tt, (tt, tt)))
borne-lower cap KindCy a b c h e = (tt, (tt, (tt, tt)))
borne-lower cap Unsupported a b c h e = tt

-- ccx and ccz stand whole only under a cap of 3 and more
borne_thirteen : (cap a b d : ℕ) → 0 < cap → AllBorne cap (lower_parts (thirteen_of a b d))
unfolding lower lower_as kind_of
borne_thirteen cap a b d h = (tt, (h, (tt, (h, (tt, (h, (tt, (h, (h, (tt, (h, (h, (tt, tt)))))))))))))

borne_fifteen : (cap a b d : ℕ) → 0 < cap → AllBorne cap (lower_parts (fifteen_of a b d))
unfolding lower lower_as kind_of
borne_fifteen cap a b d h = (tt, (tt, (h, (tt, (h, (tt, (h, (tt, (h, (h, (tt, (h, (h, (tt, (tt, tt)))))))))))))))

borne-whole : (cap : ℕ) (r : Record) → 0 < cap → (leb cap 2 && is_doubly (kind_of r.kind)) ≡ false → AllBorne cap (lower r)
unfolding lower
borne-whole cap r h d = borne-lower cap (kind_of r.kind) r.a r.b r.c h d

borne_in : (cap : ℕ) (r : Record) → 0 < cap → AllBorne cap (lower_in (is_narrow (AtMost cap)) r)
unfolding lower_in
borne_in cap r h = go (split (is_narrow (AtMost cap)) r)
  where
    go : Split (is_narrow (AtMost cap)) r → AllBorne cap (lower_parts (parts_of (is_narrow (AtMost cap)) r))
    go (whole e d) = rw (e, append-nil (lower r)) (borne-whole cap r h (rw (le-leb 1 cap h) at d))
    go (ccx t k e) = rw e (borne_fifteen cap r.a r.b r.c h)
    go (ccz t k e) = rw e (borne_thirteen cap r.a r.b r.c h)

pub borne_records : (cap i : ℕ) (rs : List Record) → 0 < cap → AllBorne cap (bare (lower_from (is_narrow (AtMost cap)) i rs))
unfolding lower_from
borne_records cap i [] h = tt
borne_records cap i (r ∷ rs) h =
    let narrow = is_narrow (AtMost cap) in
    rw (map-append _ (placed_from i 0 (lower_in narrow r)) (lower_from narrow (suc i) rs), bare-placed i 0 (lower_in narrow r))
    (all_append (Borne cap) (lower_in narrow r) (bare (lower_from narrow (suc i) rs)) (borne_in cap r h) (borne_records cap (suc i) rs h))
