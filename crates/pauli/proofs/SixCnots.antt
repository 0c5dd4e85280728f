-- The six cnots among the thirteen gates of ccz (E4 of document 02): the z rows that its t and tdg meet between them, and the table that they leave.
-- Two cnots onto one target commute, so that each is undone by its second time.
use mathlib.Core.Path.{◌≡◌, refl, ap, ap₂, sym, ◌∙◌}
use mathlib.Core.Logic.{◌≢◌, Ne-symm}
use mathlib.Core.List.{List, [], ◌∷◌}
use Prim.Native.Nat.{ℕ, zero, suc, ◌<◌}
use lib.ListN.{length, get_or, set, take}
use lib.Seq.{set-set, set_comm, get_or-set_same, get_or-set_other, lt-length-set}
use Rattle.pauli.specs.Letters.{Pauli, I, Z, ◌⊕◌}
use Rattle.pauli.specs.Rows.{Row, Width, on, ◌★◌, single}
use Rattle.pauli.specs.Gates.{Image₂, act₂, rule_cnot, Gate, gate_cnot, Valid, AllValid, conj, back}
use Rattle.pauli.specs.Table.{z_row, table}
use Rattle.pauli.specs.SixCnots.{six_cnots, z_after, SevenMet}
use Rattle.pauli.proofs.Finite.{letters, letter, phase, law₃, ⊕-assoc}
use Rattle.pauli.proofs.Rows.{row_eq, assoc, width-★}
use Rattle.pauli.proofs.Local.{in_row}
use Rattle.pauli.proofs.Conj.{hom-conj, hom-back, conj-undo}
use Rattle.pauli.proofs.Short.{width-single, single-pair, pair-single, pair_of, act₂-pair, act₂-other}
use Rattle.pauli.proofs.Table.{table-rows}
use Rattle.pauli.proofs.MoreGates.{z_after_lem, table-left}

-- ---- what cnot makes of one letter Z

module _ (n c u : ℕ) (v : Valid n (gate_cnot c u)) where
  cnot_target : conj (gate_cnot c u) (single n u Z) ≡ single n c Z ★ single n u Z
  unfolding conj
  cnot_target =
      ap (act₂ rule_cnot c u) (pair-single n c u Z v.0) ∙ act₂-pair rule_cnot n c u I Z v.0 v.1 v.2
      ∙ sym (pair_of n c u Z Z v.0 v.1 v.2)

  cnot_control : conj (gate_cnot c u) (single n c Z) ≡ single n c Z
  unfolding conj
  cnot_control =
      ap (act₂ rule_cnot c u) (single-pair n c u Z v.1 v.2) ∙ act₂-pair rule_cnot n c u Z I v.0 v.1 v.2
      ∙ sym (single-pair n c u Z v.1 v.2)

  cnot_elsewhere : (j : ℕ) → j ≢ c → j ≢ u → conj (gate_cnot c u) (single n j Z) ≡ single n j Z
  unfolding conj
  cnot_elsewhere j nc nu = act₂-other rule_cnot refl n c u j Z v.0 v.1 nc nu

-- ---- two cnots onto one target commute

-- a letter rule of two qubits at work on a and d after b and d; x, y and z are the letters on a, b and d
module _ (f : Pauli → Pauli → Image₂) (a b d : ℕ) (ab : a ≢ b) (ad : a ≢ d) (P : Row) (hd : d < length P.letters) where
  abbrev one_target : Pauli → Pauli → Pauli → Row
  one_target x y z = record {
    letters = set (set (set P.letters b (f y z).first) a (f x (f y z).second).first) d (f x (f y z).second).second;
    phase = (f x (f y z).second).sign ⊕ (f y z).sign ⊕ P.phase;
  }

  act₂-one_target : act₂ f a d (act₂ f b d P) ≡ one_target (on P a) (on P b) (on P d)
  act₂-one_target = rw (at_a, at-d) (row_eq (sets _ _) (rw ⊕-assoc))
    where
      u : List Pauli
      u = P.letters

      B : Pauli
      B = (f (on P b) (on P d)).first

      D : Pauli
      D = (f (on P b) (on P d)).second

      at_a : get_or (set (set u b B) d D) a I ≡ on P a
      at_a = get_or-set_other (set u b B) d a D I ad ∙ get_or-set_other u b a B I ab

      at-d : get_or (set (set u b B) d D) d I ≡ D
      at-d = get_or-set_same (set u b B) d D I (lt-length-set u b B hd)

      sets : (A D' : Pauli) → set (set (set (set u b B) d D) a A) d D' ≡ set (set (set u b B) a A) d D'
      sets A D' = rw (set_comm (set u b B) d a D A (Ne-symm ad), set-set (set (set u b B) a A) d D D')

-- of cnot: what a control gets does not depend on the other one, and target and sign are the same in either order
control_alone : (x y z : Pauli) → (rule_cnot x (rule_cnot y z).second).first ≡ (rule_cnot x z).first
control_alone = law₃ letters letter _ _ tt

target_either : (x y z : Pauli) → (rule_cnot x (rule_cnot y z).second).second ≡ (rule_cnot y (rule_cnot x z).second).second
target_either = law₃ letters letter _ _ tt

sign_either : (x y z : Pauli) → (rule_cnot x (rule_cnot y z).second).sign ⊕ (rule_cnot y z).sign ≡ (rule_cnot y (rule_cnot x z).second).sign ⊕ (rule_cnot x z).sign
sign_either = law₃ letters phase _ _ tt

pub cnots_commute : (n a b d : ℕ) (P : Row) → d < n → a ≢ b → a ≢ d → b ≢ d → Width n P
    → conj (gate_cnot a d) (conj (gate_cnot b d) P) ≡ conj (gate_cnot b d) (conj (gate_cnot a d) P)
unfolding conj
cnots_commute n a b d P hd ab ad bd w =
    act₂-one_target rule_cnot a b d ab ad P (in_row P w hd)
    ∙ row_eq
    ((λ i. set (set (set P.letters b (sym (control_alone y x z) i)) a (control_alone x y z i)) d (target_either x y z i))
    ∙ ap (λ l. set l d (rule_cnot y (rule_cnot x z).second).second) (set_comm P.letters b a _ _ (Ne-symm ab)))
    (ap (λ p. p ⊕ P.phase) (sign_either x y z))
    ∙ sym (act₂-one_target rule_cnot b a d (Ne-symm ab) bd P (in_row P w hd))
  where
    x : Pauli
    x = on P a

    y : Pauli
    y = on P b

    z : Pauli
    z = on P d

-- ---- the six cnots

valid-take : (n k : ℕ) (gs : List Gate) → AllValid n gs → AllValid n (take k gs)
valid-take n zero gs v = tt
valid-take n (suc k) [] v = tt
valid-take n (suc k) (g ∷ gs) v = (v.0, valid-take n k gs v.1)

module _ (n a b d : ℕ) (ha : a < n) (hb : b < n) (hd : d < n) (ab : a ≢ b) (ad : a ≢ d) (bd : b ≢ d) where
  vab : Valid n (gate_cnot a b)
  vab = (ha, hb, ab)

  vad : Valid n (gate_cnot a d)
  vad = (ha, hd, ad)

  vbd : Valid n (gate_cnot b d)
  vbd = (hb, hd, bd)

  valid : AllValid n (six_cnots a b d)
  valid = (vbd, (vad, (vbd, (vad, (vab, (vab, tt))))))

  abbrev by_ab : Row → Row
  by_ab = conj (gate_cnot a b)

  abbrev by_ad : Row → Row
  by_ad = conj (gate_cnot a d)

  abbrev by_bd : Row → Row
  by_bd = conj (gate_cnot b d)

  width_ab : (P : Row) → Width n P → Width n (by_ab P)
  width_ab = (hom-conj n (gate_cnot a b) vab).width

  width_ad : (P : Row) → Width n P → Width n (by_ad P)
  width_ad = (hom-conj n (gate_cnot a d) vad).width

  -- U† P U for the first two, three, four, five and all six gates: the last of them is at work first
  two_cnots : by_bd (by_ad (single n d Z)) ≡ single n a Z ★ single n b Z ★ single n d Z
  two_cnots =
      ap by_bd (cnot_target n a d vad)
      ∙ (hom-conj n (gate_cnot b d) vbd).times (single n a Z) (single n d Z) (width-single n a Z) (width-single n d Z)
      ∙ ap₂ ◌★◌ (cnot_elsewhere n b d vbd a ab ad) (cnot_target n b d vbd)
      ∙ sym (assoc (single n a Z) (single n b Z) (single n d Z))

  three_cnots : (P : Row) → Width n P → by_bd (by_ad (by_bd P)) ≡ by_ad P
  three_cnots P w = ap by_bd (cnots_commute n a b d P hd ab ad bd w) ∙ conj-undo n (gate_cnot b d) (by_ad P) vbd (width_ad P w)

  four_cnots : (P : Row) → Width n P → by_bd (by_ad (by_bd (by_ad P))) ≡ P
  four_cnots P w = three_cnots (by_ad P) (width_ad P w) ∙ conj-undo n (gate_cnot a d) P vad w

  five_cnots : (P : Row) → Width n P → by_bd (by_ad (by_bd (by_ad (by_ab P)))) ≡ by_ab P
  five_cnots P w = four_cnots (by_ab P) (width_ab P w)

  all_six : (P : Row) → Width n P → back (six_cnots a b d) P ≡ P
  unfolding back
  all_six P w = five_cnots (by_ab P) (width_ab P w) ∙ conj-undo n (gate_cnot a b) P vab w

  module _ (gs : List Gate) (v : AllValid n gs) where
    abbrev t : List Row
    t = table n gs

    of_one : (p : ℕ) → p < n → back gs (single n p Z) ≡ z_row n t p
    of_one p hp = sym ((table-rows n gs v).at_z p hp)

    of_two : (p q : ℕ) → p < n → q < n → back gs (single n p Z ★ single n q Z) ≡ z_row n t p ★ z_row n t q
    of_two p q hp hq = (hom-back n gs v).times _ _ (width-single n p Z) (width-single n q Z) ∙ ap₂ ◌★◌ (of_one p hp) (of_one q hq)

    of_three : back gs (single n a Z ★ single n b Z ★ single n d Z) ≡ z_row n t a ★ z_row n t b ★ z_row n t d
    of_three =
        (hom-back n gs v).times _ _ (width-★ n (single n a Z) (single n b Z) (width-single n a Z) (width-single n b Z)) (width-single n d Z)
        ∙ ap₂ ◌★◌ (of_two a b ha hb) (of_one d hd)

    -- the z row of q after the first k, where they take its Z to P
    met : (k q : ℕ) → q < n → (P : Row) → back (take k (six_cnots a b d)) (single n q Z) ≡ P → z_after n a b d t k q ≡ back gs P
    met k = z_after_lem n gs v (take k (six_cnots a b d)) (valid-take n k (six_cnots a b d) valid)

    pub seven_met : SevenMet n a b d t
    unfolding back
    seven_met = record {
      row_bd = met 1 d hd _ (cnot_target n b d vbd) ∙ of_two b d hb hd;
      row_abd = met 2 d hd _ two_cnots ∙ of_three;
      row_ad = met 3 d hd _ (three_cnots (single n d Z) (width-single n d Z) ∙ cnot_target n a d vad) ∙ of_two a d ha hd;
      row_b = met 4 b hb _ (four_cnots (single n b Z) (width-single n b Z)) ∙ of_one b hb;
      row_d = met 4 d hd _ (four_cnots (single n d Z) (width-single n d Z)) ∙ of_one d hd;
      row_a = met 5 a ha _ (five_cnots (single n a Z) (width-single n a Z) ∙ cnot_control n a b vab) ∙ of_one a ha;
      row_ab = met 5 b hb _ (five_cnots (single n b Z) (width-single n b Z) ∙ cnot_target n a b vab) ∙ of_two a b ha hb;
      table_same = table-left n gs v (six_cnots a b d) valid all_six;
    }
