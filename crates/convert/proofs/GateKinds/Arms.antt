-- Arms of a match that name several kinds, or the rest: an answer that is right at each of an arm's numbers is right for every kind that takes it.
use mathlib.Core.Path.{◌≡◌, refl, sym, ap, subst, ◌∙◌}
use mathlib.Core.Logic.{inl, inr}
use mathlib.Core.List.{List, [], ◌∷◌, map}
use native.Mathlib.Omega.{arith}
use Prim.Native.Nat.{ℕ, ◌+◌}
use lib.ListN.{get_or, drop}
use types.Run.{OneOf}
use denote.Enum.Declared.{tag_of}
use Rattle.convert.specs.contracts.gate.GateKind.{the_type}
use Rattle.convert.specs.Records.{GateKind, KindH, KindX, KindZ, KindS, KindSdg, KindT, KindTdg, KindCnot, KindCz, KindCcx, KindCcz, KindMeasure, KindY, KindSx, KindSwap, KindCy, Unsupported, lower_as}
use Rattle.convert.specs.Code.Raw.{record_gates, tests_of, measures_of, Writing, put_record}

-- the kinds as they are declared
abbrev pub kind_at : ℕ → GateKind
kind_at j =
    get_or (KindH ∷ KindX ∷ KindZ ∷ KindS ∷ KindSdg ∷ KindT ∷ KindTdg ∷ KindCnot ∷ KindCz ∷ KindCcx ∷ KindCcz ∷ KindMeasure ∷ KindY ∷ KindSx ∷ KindSwap ∷ KindCy ∷ []) j Unsupported

at_tag : (k : GateKind) → kind_at (tag_of the_type k) ≡ k
at_tag KindH = refl
at_tag KindX = refl
at_tag KindZ = refl
at_tag KindS = refl
at_tag KindSdg = refl
at_tag KindT = refl
at_tag KindTdg = refl
at_tag KindCnot = refl
at_tag KindCz = refl
at_tag KindCcx = refl
at_tag KindCcz = refl
at_tag KindMeasure = refl
at_tag KindY = refl
at_tag KindSx = refl
at_tag KindSwap = refl
at_tag KindCy = refl
at_tag Unsupported = refl

-- f answers v at each of these
abbrev pub Right : {A : Type 0} → (GateKind → A) → A → List ℕ → Type 0
Right f v js = map (λ (j : ℕ). f (kind_at j)) js ≡ map (λ (j : ℕ). v) js

at_key : {A : Type 0} (f : GateKind → A) (v : A) (j : ℕ) (js : List ℕ) → Right f v (j ∷ js) → (k : GateKind) → tag_of the_type k ≡ j → v ≡ f k
at_key f v j js e k o = sym (ap (λ l. get_or l 0 v) e) ∙ ap (λ (i : ℕ). f (kind_at i)) (sym o) ∙ ap f (at_tag k)

pub arm : {A : Type 0} (f : GateKind → A) (v : A) (js : List ℕ) → Right f v js → (k : GateKind) → OneOf js (tag_of the_type k) → v ≡ f k
arm f v [] e k o = absurd o
arm f v (j ∷ []) e k o = at_key f v j [] e k o
arm f v (j ∷ i ∷ js) e k (inl o) = at_key f v j (i ∷ js) e k o
arm f v (j ∷ i ∷ js) e k (inr o) = arm f v (i ∷ js) (ap (drop 1) e) k o

-- what holds at each of an arm's numbers holds for every kind that takes it
abbrev pub Each : (GateKind → Type 0) → List ℕ → Type 0
Each P [] = Unit {0}
Each P (j ∷ js) = P (kind_at j) × Each P js

pub each : (P : GateKind → Type 0) (js : List ℕ) → Each P js → (k : GateKind) → OneOf js (tag_of the_type k) → P k
each P [] h k o = absurd o
each P (j ∷ []) h k o = subst P (ap kind_at (sym o) ∙ at_tag k) h.0
each P (j ∷ i ∷ js) h k (inl o) = subst P (ap kind_at (sym o) ∙ at_tag k) h.0
each P (j ∷ i ∷ js) h k (inr o) = each P (i ∷ js) h.1 k o

-- ---- the kinds for which a dispatch does nothing

pub no_gates : (k : GateKind) (a b : ℕ) → OneOf (5 ∷ 6 ∷ 9 ∷ 10 ∷ 11 ∷ 16 ∷ []) (tag_of the_type k) → record_gates k a b ≡ []
unfolding record_gates lower_as
no_gates k a b o = sym (arm (λ (k : GateKind). record_gates k a b) [] (5 ∷ 6 ∷ 9 ∷ 10 ∷ 11 ∷ 16 ∷ []) refl k o)

pub no_record : (n given i : ℕ) (k : GateKind) (a b d : ℕ) (fs : List ℕ) (s : Writing) → OneOf (0 ∷ 1 ∷ 2 ∷ 3 ∷ 4 ∷ 7 ∷ 8 ∷ 12 ∷ 13 ∷ 14 ∷ 15 ∷ 16 ∷ []) (tag_of the_type k) → s ≡ put_record n given i k a b d fs s
unfolding put_record
no_record n given i k a b d fs s o = arm (λ (k : GateKind). put_record n given i k a b d fs s) s (0 ∷ 1 ∷ 2 ∷ 3 ∷ 4 ∷ 7 ∷ 8 ∷ 12 ∷ 13 ∷ 14 ∷ 15 ∷ 16 ∷ []) refl k o

pub not_tested : (k : GateKind) → OneOf (0 ∷ 1 ∷ 2 ∷ 3 ∷ 4 ∷ 7 ∷ 8 ∷ 12 ∷ 13 ∷ 14 ∷ 15 ∷ 16 ∷ []) (tag_of the_type k) → tests_of k ≡ 0
unfolding tests_of lower_as
not_tested k o = sym (arm tests_of 0 (0 ∷ 1 ∷ 2 ∷ 3 ∷ 4 ∷ 7 ∷ 8 ∷ 12 ∷ 13 ∷ 14 ∷ 15 ∷ 16 ∷ []) refl k o)

pub none_given : (k : GateKind) (given : ℕ) → OneOf (0 ∷ 1 ∷ 2 ∷ 3 ∷ 4 ∷ 7 ∷ 8 ∷ 12 ∷ 13 ∷ 14 ∷ 15 ∷ 16 ∷ []) (tag_of the_type k) → given ≡ given + measures_of k
none_given k given o =
    let none : 0 ≡ measures_of k = arm measures_of 0 (0 ∷ 1 ∷ 2 ∷ 3 ∷ 4 ∷ 7 ∷ 8 ∷ 12 ∷ 13 ∷ 14 ∷ 15 ∷ 16 ∷ []) refl k o in
    omega (arith, none)
