-- When a flush comes, and what it makes of the planes.
use mathlib.Core.Path.{◌≡◌, refl, sym, ap, ◌∙◌}
use mathlib.Core.Bool.{Bool, true, false, cond}
use mathlib.Core.List.{List, [], ◌∷◌, ◌++◌}
use Prim.Native.Nat.{ℕ, zero, suc, ◌+◌, ◌*◌, ◌≤◌}
use lib.ListN.{length, get_or, drop, length-append, length-replicate}
use lib.Seq.{drop_at}
use Rattle.pauli.specs.Rows.{Row, identity, Width}
use Rattle.pauli.specs.Gates.{Gate, AllValid}
use Rattle.pauli.specs.Table.{start, column, run}
use Rattle.pauli.proofs.Short.{width-single}
use Rattle.convert.specs.Types.{Pauli, X, Z}
use Rattle.convert.specs.Records.{GateKind, KindH, KindX, KindZ, KindS, KindSdg, KindT, KindTdg, KindCnot, KindCz, KindCcx, KindCcz, KindMeasure, KindY, KindSx, KindSwap, KindCy, Unsupported, Cap, NoCap, AtMost, Elementary, lower_as, AllProper}
use Rattle.convert.specs.Plain.{exceeds}
use Rattle.convert.specs.Planes.{part_words, packed}
use Rattle.convert.specs.Code.RawPlanes.{Wide, plane_run}
use Rattle.convert.specs.Code.Raw.{tests_of, any_exceeds, is_capped, refreshed, record_gates, planes_for, Decided}
use Rattle.arena.specs.Builder.{overlay}
use Rattle.convert.proofs.Packed.Words.{packed-length}
use Rattle.convert.proofs.Packed.Tables.{plane-run, plane_again, plane_reset_lem}
use Rattle.convert.proofs.Packed.Tests.{light}

-- without a cap there is no flush
pub never : (n : ℕ) (t : List Row) (es : List Elementary) → false ≡ any_exceeds n NoCap t es
unfolding exceeds
never n t [] = refl
never n t (e ∷ es) = never n t es

-- ---- tables of the start are wide

widths-column : (n : ℕ) (a : Pauli) (q k : ℕ) (rs : List Row) → ((i : ℕ) → Width n (get_or rs i (identity n))) → (i : ℕ) → Width n (get_or (column n a q k ++ rs) i (identity n))
widths-column n a q zero rs w i = w i
widths-column n a q (suc k) rs w zero = width-single n q a
widths-column n a q (suc k) rs w (suc i) = widths-column n a (suc q) k rs w i

widths_end : (n : ℕ) (a : Pauli) (q k : ℕ) (i : ℕ) → Width n (get_or (column n a q k) i (identity n))
widths_end n a q zero i = length-replicate n _
widths_end n a q (suc k) zero = width-single n q a
widths_end n a q (suc k) (suc i) = widths_end n a (suc q) k i

length-column : (n : ℕ) (a : Pauli) (q k : ℕ) → length (column n a q k) ≡ k
length-column n a q zero = refl
length-column n a q (suc k) = ap suc (length-column n a (suc q) k)

pub wide-start : (n : ℕ) → Wide n (start n)
unfolding start
wide-start n = record {
  rows = rw (length-append, length-column n X 0 n, length-column n Z 0 n);
  widths = widths-column n X 0 n (column n Z 0 n) (widths_end n Z 0 n);
}

-- ---- one record

pub valid_of : (n : ℕ) (k : GateKind) (a b d : ℕ) → AllProper n (b + 1) (lower_as k a b d) → AllValid n (record_gates k a b)
unfolding lower_as record_gates
valid_of n KindH a b d w = w
valid_of n KindX a b d w = w
valid_of n KindZ a b d w = w
valid_of n KindS a b d w = w
valid_of n KindSdg a b d w = w
valid_of n KindT a b d w = tt
valid_of n KindTdg a b d w = tt
valid_of n KindCnot a b d w = w
valid_of n KindCz a b d w = w
valid_of n KindCcx a b d w = tt
valid_of n KindCcz a b d w = tt
valid_of n KindMeasure a b d w = tt
valid_of n KindY a b d w = w
valid_of n KindSx a b d w = w
valid_of n KindSwap a b d w = w
valid_of n KindCy a b d w = w
valid_of n Unsupported a b d w = w

-- a record that is tested has no frame gates
no_gates : (k : GateKind) (a b : ℕ) → (tests_of k ≡ 0 → ⊥) → record_gates k a b ≡ []
unfolding tests_of record_gates lower_as
no_gates KindH a b e = absurd (e refl)
no_gates KindX a b e = absurd (e refl)
no_gates KindZ a b e = absurd (e refl)
no_gates KindS a b e = absurd (e refl)
no_gates KindSdg a b e = absurd (e refl)
no_gates KindT a b e = refl
no_gates KindTdg a b e = refl
no_gates KindCnot a b e = absurd (e refl)
no_gates KindCz a b e = absurd (e refl)
no_gates KindCcx a b e = refl
no_gates KindCcz a b e = refl
no_gates KindMeasure a b e = refl
no_gates KindY a b e = absurd (e refl)
no_gates KindSx a b e = absurd (e refl)
no_gates KindSwap a b e = absurd (e refl)
no_gates KindCy a b e = absurd (e refl)
no_gates Unsupported a b e = absurd (e refl)

plane_one : (n : ℕ) (f : Bool) (gs : List Gate) (t : List Row) (rest : List ℕ) → Wide n t → AllValid n gs
    → plane_run (part_words n) gs (refreshed f n (part_words n) (packed n t ++ rest)) ≡ packed n (run n gs (cond f (start n) t)) ++ rest
plane_one n true gs t rest w v = rw (plane_again n t rest) (plane-run n gs (start n) rest (wide-start n) v)
plane_one n false gs t rest w v = plane-run n gs t rest w v

same_rest : (n : ℕ) (t u : List Row) (ps : List ℕ) → packed n u ++ drop (length (packed n t)) ps ≡ overlay (packed n u) ps
same_rest n t u ps = rw (packed-length n t, packed-length n u)

decided_by : (n l most : ℕ) (k : GateKind) (a b d : ℕ) (ps : List ℕ) (f : Bool) (ps' : List ℕ) → l ≡ part_words n → AllProper n (b + 1) (lower_as k a b d)
    → ((t : List Row) (rest : List ℕ) → Wide n t → ps ≡ packed n t ++ rest → f ≡ any_exceeds n (AtMost most) t (lower_as k a b d))
    → ps' ≡ plane_run l (record_gates k a b) (refreshed f n l ps)
    → Decided n (AtMost most) k a b d ps f ps'
decided_by n l most k a b d ps f ps' el w flag planes = record {
  same = λ t ps₀ wd at. (
    flag t (drop (length (packed n t)) ps₀) wd at,
    planes ∙ rw (at, el) (plane_one n f (record_gates k a b) t (drop (length (packed n t)) ps₀) wd (valid_of n k a b d w) ∙ same_rest n t (run n (record_gates k a b) (cond f (start n) t)) ps₀),
  );
}

pub decided_untested : (n l most : ℕ) (k : GateKind) (a b d : ℕ) (ps ps' : List ℕ) → l ≡ part_words n → AllProper n (b + 1) (lower_as k a b d) → tests_of k ≡ 0
    → ps' ≡ plane_run l (record_gates k a b) ps → Decided n (AtMost most) k a b d ps false ps'
decided_untested n l most k a b d ps ps' el w e planes = decided_by n l most k a b d ps false ps' el w (λ t rest wd at. light n most t k a b d e) planes

pub run-tested : (l : ℕ) (k : GateKind) (a b : ℕ) (ps : List ℕ) → (tests_of k ≡ 0 → ⊥) → ps ≡ plane_run l (record_gates k a b) ps
unfolding plane_run
run-tested l k a b ps e = rw (no_gates k a b e)

pub decided_tested : (n l most : ℕ) (k : GateKind) (a b d : ℕ) (ps : List ℕ) (f : Bool) (ps' : List ℕ) → l ≡ part_words n → AllProper n (b + 1) (lower_as k a b d) → (tests_of k ≡ 0 → ⊥)
    → ((t : List Row) (rest : List ℕ) → Wide n t → ps ≡ packed n t ++ rest → f ≡ any_exceeds n (AtMost most) t (lower_as k a b d)) → ps' ≡ refreshed f n l ps
    → Decided n (AtMost most) k a b d ps f ps'
decided_tested n l most k a b d ps f ps' el w e flag planes = decided_by n l most k a b d ps f ps' el w flag (planes ∙ run-tested l k a b (refreshed f n l ps) e)

pub decided_uncapped : (n : ℕ) (k : GateKind) (a b d : ℕ) (ps : List ℕ) → Decided n NoCap k a b d ps false ps
decided_uncapped n k a b d ps = record { same = λ t ps₀ wd at. (never n t (lower_as k a b d), at) }

pub prepared : (n l : ℕ) (cap : Cap) (ps ps' : List ℕ) → l ≡ part_words n → (is_capped cap ≡ true → (n + n) * (l + l) ≤ length ps) → ps' ≡ refreshed (is_capped cap) n l ps
    → ps' ≡ planes_for cap n (start n) ps
prepared n l NoCap ps ps' el room e = e
prepared n l (AtMost most) ps ps' el room e =
    let h = rw el at (room refl) in
    e ∙ rw (el, packed-length n (start n)) (plane_reset_lem n ps h)

-- planes written over once more
pub planes_over : (cap : Cap) (n : ℕ) (t u : List Row) (ps ps' : List ℕ) → ps' ≡ planes_for cap n u ps → planes_for cap n t ps' ≡ planes_for cap n t ps
planes_over NoCap n t u ps ps' e = e
planes_over (AtMost most) n t u ps ps' e =
    rw e (ap (λ (l : List ℕ). packed n t ++ l) (drop_at (packed n u) (drop (length (packed n u)) ps) (length (packed n t)) (packed-length n u ∙ sym (packed-length n t)) ∙ ap (λ (m : ℕ). drop m ps) (packed-length n u ∙ sym (packed-length n t))))
