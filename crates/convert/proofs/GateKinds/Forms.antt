-- A form is a word for each kind of gate, whose bits say what its record lowers to; and what a test of the bits says of the kind.
-- kept: laws, and the definitions under them, that docs named when the design pass began; the code matches kinds and has no forms.
use mathlib.Core.Path.{◌≡◌, refl, sym, ap, ◌∙◌}
use mathlib.Core.Bool.{Bool, true, false, not, ◌||◌}
use mathlib.Core.Logic.{inl, inr}
use mathlib.Core.List.{List, [], ◌∷◌, map}
use Prim.Native.Nat.{ℕ, ◌+◌, ◌*◌}
use Rattle.pauli.specs.Gates.{gate_h, gate_x, gate_z, gate_s, gate_sdg, gate_cnot, gate_cz}
use lib.Bits.{bit_and}
use lib.Dec.{eqb}
use lib.ListN.{get_or}
use types.Run.{OneOf}
use denote.Enum.Declared.{tag_of}
use borrow.Author.Tests.{eqb-true, ne_eqb, not-false}
use Rattle.convert.specs.contracts.gate.GateKind.{the_type}
use Rattle.convert.specs.Records.{GateKind, KindH, KindX, KindZ, KindS, KindSdg, KindT, KindTdg, KindCnot, KindCz, KindCcx, KindCcz, KindMeasure, KindY, KindSx, KindSwap, KindCy, Unsupported, lower_as, Elementary, clifford, el_t, el_tdg, el_ccx, el_ccz, el_measure}
use Rattle.convert.specs.Frame.{member}
use Rattle.convert.proofs.GateKinds.Checks.{refuted}

-- the first word of what an elementary gate writes alone
abbrev pub first_word_of : Elementary → ℕ
first_word_of (clifford g) = 0
first_word_of (el_t q) = 4
first_word_of (el_tdg q) = 28
first_word_of (el_ccx a b d) = 0
first_word_of (el_ccz a b d) = 0
first_word_of (el_measure q k) = 1

-- the bit by which an elementary gate is known
abbrev pub bit_of : Elementary → ℕ
bit_of (clifford (gate_h q)) = 1
bit_of (clifford (gate_x q)) = 2
bit_of (clifford (gate_z q)) = 4
bit_of (clifford (gate_s q)) = 8
bit_of (clifford (gate_sdg q)) = 16
bit_of (clifford (gate_cnot c t)) = 256
bit_of (clifford (gate_cz c t)) = 512
bit_of (el_t q) = 32
bit_of (el_tdg q) = 32
bit_of (el_ccx a b d) = 1024
bit_of (el_ccz a b d) = 2048
bit_of (el_measure q k) = 4096

-- one gate has its bit, and above 32 bits the first word that it writes alone; several, or none, have a bit of their own
abbrev pub form_by : List Elementary → ℕ
form_by [] = 32768
form_by (e ∷ []) = bit_of e + 4294967296 * first_word_of e
form_by (e ∷ f ∷ es) = 32768

-- the form of a kind follows from its lowering
unfoldable pub form_of : GateKind → ℕ
form_of kind = form_by (lower_as kind 0 0 0)

-- the kinds as they are declared
abbrev listed : List GateKind
listed =
    KindH ∷ KindX ∷ KindZ ∷ KindS ∷ KindSdg ∷ KindT ∷ KindTdg ∷ KindCnot ∷ KindCz ∷ KindCcx ∷ KindCcz ∷ KindMeasure ∷ KindY ∷ KindSx ∷ KindSwap ∷ KindCy ∷ Unsupported ∷ []

-- what agrees at each of them agrees
same_at : {A : Type 0} (f g : GateKind → A) → map f listed ≡ map g listed → (k : GateKind) → f k ≡ g k
same_at f g e KindH = ap (λ l. get_or l 0 (f KindH)) e
same_at f g e KindX = ap (λ l. get_or l 1 (f KindX)) e
same_at f g e KindZ = ap (λ l. get_or l 2 (f KindZ)) e
same_at f g e KindS = ap (λ l. get_or l 3 (f KindS)) e
same_at f g e KindSdg = ap (λ l. get_or l 4 (f KindSdg)) e
same_at f g e KindT = ap (λ l. get_or l 5 (f KindT)) e
same_at f g e KindTdg = ap (λ l. get_or l 6 (f KindTdg)) e
same_at f g e KindCnot = ap (λ l. get_or l 7 (f KindCnot)) e
same_at f g e KindCz = ap (λ l. get_or l 8 (f KindCz)) e
same_at f g e KindCcx = ap (λ l. get_or l 9 (f KindCcx)) e
same_at f g e KindCcz = ap (λ l. get_or l 10 (f KindCcz)) e
same_at f g e KindMeasure = ap (λ l. get_or l 11 (f KindMeasure)) e
same_at f g e KindY = ap (λ l. get_or l 12 (f KindY)) e
same_at f g e KindSx = ap (λ l. get_or l 13 (f KindSx)) e
same_at f g e KindSwap = ap (λ l. get_or l 14 (f KindSwap)) e
same_at f g e KindCy = ap (λ l. get_or l 15 (f KindCy)) e
same_at f g e Unsupported = ap (λ l. get_or l 16 (f Unsupported)) e

one_of : (js : List ℕ) (t : ℕ) → member t js ≡ true → OneOf js t
one_of [] t e = refuted e
one_of (j ∷ []) t e = go (eqb t j) refl e
  where
    go : (b : Bool) → eqb t j ≡ b → (b || false) ≡ true → t ≡ j
    go true q e = eqb-true t j q
    go false q e = refuted e
one_of (j ∷ i ∷ js) t e = go (eqb t j) refl e (one_of (i ∷ js) t)
  where
    go : (b : Bool) → eqb t j ≡ b → (b || member t (i ∷ js)) ≡ true → (member t (i ∷ js) ≡ true → OneOf (i ∷ js) t) → OneOf (j ∷ i ∷ js) t
    go true q e later = inl (eqb-true t j q)
    go false q e later = inr (later e)

-- whether these bits are empty
abbrev pub empty : ℕ → GateKind → Bool
empty m k = eqb (bit_and (form_of k) m) 0

-- a form with one of these bits is of a kind with one of these numbers
has_bit : (m : ℕ) (js : List ℕ) → map (empty m) listed ≡ map (λ (k : GateKind). not (member (tag_of the_type k) js)) listed
    → (k : GateKind) (form : ℕ) → form ≡ form_of k → (bit_and form m ≡ 0 → ⊥) → OneOf js (tag_of the_type k)
has_bit m js t k form e h =
    one_of js (tag_of the_type k)
    (not-false (member (tag_of the_type k) js) (sym (same_at (empty m) (λ (k : GateKind). not (member (tag_of the_type k) js)) t k) ∙ ne_eqb (bit_and (form_of k) m) 0 (rw (← e) h)))
