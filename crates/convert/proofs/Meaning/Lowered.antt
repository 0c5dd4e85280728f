-- The lowered gates of y, sx, swap and cy act by conjugation as these gates.
use mathlib.Core.Path.{◌≡◌, refl, ap, ◌∙◌}
use mathlib.Core.Logic.{◌≢◌, Ne-symm}
use Prim.Native.Nat.{ℕ, ◌<◌}
use lib.ListN.{length}
use Rattle.pauli.specs.Rows.{Row, Width}
use Rattle.pauli.specs.Gates.{Image₂, act₁, act₂, rule_h, rule_s, rule_x, rule_z, rule_sdg, rule_cnot, gate_x, gate_z, gate_s, gate_sdg, gate_cnot, conj, forward}
use lib.Seq.{set_comm}
use Rattle.pauli.proofs.Rows.{row_eq}
use Rattle.pauli.proofs.Local.{in_row, then₁, then₂, on_second, act₁-then, act₂-then, act₁-second, act₁-alike, act₂-alike}
use Rattle.pauli.proofs.Conj.{conj-direct, hom-conj}
use Rattle.convert.specs.Types.{Pauli}
use Rattle.convert.specs.Records.{KindY, KindSx, KindSwap, KindCy, lower_as}
use Rattle.convert.specs.Lowering.{rule_y, rule_sx, rule_swap, rule_cy, lowered_acts}

module _ (n q : ℕ) (P : Row) (hq : q < n) (w : Width n P) where
  in_q : q < length P.letters
  in_q = in_row P w hq

  pub y_acts : (b : ℕ) → lowered_acts KindY q b P ≡ act₁ rule_y q P
  unfolding lower_as forward
  y_acts b =
      conj-direct n (gate_x q) (conj (gate_z q) P) hq ((hom-conj n (gate_z q) hq).width P w)
      ∙ ap (act₁ rule_x q) (conj-direct n (gate_z q) P hq w)
      ∙ act₁-then rule_z rule_x q P in_q ∙ act₁-alike (then₁ rule_z rule_x) rule_y tt q P

  pub sx_acts : (b : ℕ) → lowered_acts KindSx q b P ≡ act₁ rule_sx q P
  unfolding lower_as forward conj
  sx_acts b =
      ap (act₁ rule_h q) (act₁-then rule_h rule_s q P in_q)
      ∙ act₁-then (then₁ rule_h rule_s) rule_h q P in_q ∙ act₁-alike (then₁ (then₁ rule_h rule_s) rule_h) rule_sx tt q P

-- a rule of two letters with its qubits in the other order
abbrev turned : (Pauli → Pauli → Image₂) → Pauli → Pauli → Image₂
turned f a b = record { first = (f b a).second; second = (f b a).first; sign = (f b a).sign }

act₂-turned : (f : Pauli → Pauli → Image₂) (c t : ℕ) (P : Row) → c ≢ t → act₂ f t c P ≡ act₂ (turned f) c t P
act₂-turned f c t P ne = row_eq (set_comm P.letters t c _ _ (Ne-symm ne)) refl

cy_rules : (c t : ℕ) (P : Row) → c < length P.letters → t < length P.letters → c ≢ t
    → conj (gate_s t) (conj (gate_cnot c t) (act₂ (on_second rule_sdg) c t P)) ≡ act₂ rule_cy c t P
unfolding conj
cy_rules c t P hc ht ne =
    ap (act₁ rule_s t) (act₂-then (on_second rule_sdg) rule_cnot c t P hc ht ne)
    ∙ act₁-second rule_s c t (act₂ (then₂ (on_second rule_sdg) rule_cnot) c t P)
    ∙ act₂-then (then₂ (on_second rule_sdg) rule_cnot) (on_second rule_s) c t P hc ht ne
    ∙ act₂-alike (then₂ (then₂ (on_second rule_sdg) rule_cnot) (on_second rule_s)) rule_cy tt c t P

module _ (n c t : ℕ) (P : Row) (hc : c < n) (ht : t < n) (ne : c ≢ t) (w : Width n P) where
  in_c : c < length P.letters
  in_c = in_row P w hc

  in_t : t < length P.letters
  in_t = in_row P w ht

  pub swap_acts : lowered_acts KindSwap c t P ≡ act₂ rule_swap c t P
  unfolding lower_as forward conj
  swap_acts =
      ap (act₂ rule_cnot c t) (act₂-turned rule_cnot c t (act₂ rule_cnot c t P) ne ∙ act₂-then rule_cnot (turned rule_cnot) c t P in_c in_t ne)
      ∙ act₂-then (then₂ rule_cnot (turned rule_cnot)) rule_cnot c t P in_c in_t ne
      ∙ act₂-alike (then₂ (then₂ rule_cnot (turned rule_cnot)) rule_cnot) rule_swap tt c t P

  pub cy_acts : lowered_acts KindCy c t P ≡ act₂ rule_cy c t P
  unfolding lower_as forward
  cy_acts =
      ap (λ Q. conj (gate_s t) (conj (gate_cnot c t) Q)) (conj-direct n (gate_sdg t) P ht w ∙ act₁-second rule_sdg c t P)
      ∙ cy_rules c t P in_c in_t ne
