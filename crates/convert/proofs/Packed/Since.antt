-- Restoring the images of the qubits that some records touch: as a restart of all planes, where the others are as at the start.
use mathlib.Core.Path.{◌≡◌, refl, sym, ap, ◌∙◌}
use mathlib.Core.Bool.{Bool, true, false, cond}
use mathlib.Core.Logic.{◌≢◌, ◌⊎◌, inl, inr, ⊎_elim}
use mathlib.Core.List.{List, [], ◌∷◌}
use Prim.Native.Nat.{ℕ, zero, suc, ◌+◌, ◌*◌, ◌-◌, ◌/◌, ◌%◌, ◌^◌, ◌<◌, ◌≤◌}
use native.Mathlib.Nat.{suc-mul, mul-add, add-mul, le_refl}
use native.Mathlib.Omega.{arith}
use lib.ListN.{length, get_or, set, length-set}
use lib.Seq.{get_or-set_other, ext_get_or}
use Rattle.pauli.specs.Gates.{Gate, gate_h, gate_x, gate_z, gate_s, gate_sdg, gate_cnot, gate_cz}
use Rattle.pauli.specs.Table.{start}
use Rattle.convert.specs.Records.{GateKind, KindH, KindX, KindZ, KindS, KindSdg, KindT, KindTdg, KindCnot, KindCz, KindCcx, KindCcz, KindMeasure, KindY, KindSx, KindSwap, KindCy, Unsupported, Cap, NoCap, AtMost, lower_as}
use Rattle.convert.specs.Planes.{part_words}
use Rattle.convert.specs.Code.RawPlanes.{clear_to, mark_at, mark_to, plane_step, plane_run, plane_reset, qubit_words, Restored, Untouched, Since}
use Rattle.convert.specs.Code.Raw.{record_gates, is_capped, refreshed, planes_for}
use Rattle.convert.proofs.Packed.Words.{below, same_or_not, split_place, outside, row_ends, xor-out, xor-length, swap_out, swap-length, clear_in, clear_first, clear_out, clear-length, mark-length}
use Rattle.convert.proofs.GateKinds.Checks.{refuted}
use Rattle.convert.proofs.Packed.Tables.{plane_again}

-- ---- places

pub qubit_place : (l q : ℕ) → q * qubit_words l ≡ (q + q) * (l + l)
qubit_place l q = mul-add q (l + l) (l + l) ∙ sym (add-mul q q (l + l))

-- the words of qubit q lie outside those of another
module _ (l x q j : ℕ) (h : j < qubit_words l) (ne : q ≢ x) where
  apart : (q * qubit_words l + j < (x + x) * (l + l)) ⊎ ((x + x) * (l + l) + qubit_words l ≤ q * qubit_words l + j)
  apart =
      let e = qubit_place l x in
      ⊎_elim
      (λ (lo : q * qubit_words l + j < x * qubit_words l). inl (omega arith))
      (λ (hi : x * qubit_words l + qubit_words l ≤ q * qubit_words l + j). inr (omega arith))
      (outside (qubit_words l) x q j h ne)

  apart_x : (q * qubit_words l + j < (x + x) * (l + l)) ⊎ ((x + x) * (l + l) + (l + l) ≤ q * qubit_words l + j)
  apart_x = ⊎_elim
      (λ (lo : q * qubit_words l + j < (x + x) * (l + l)). inl lo)
      (λ (hi : (x + x) * (l + l) + qubit_words l ≤ q * qubit_words l + j). inr (omega arith))
      apart

  apart_z : (q * qubit_words l + j < suc (x + x) * (l + l)) ⊎ (suc (x + x) * (l + l) + (l + l) ≤ q * qubit_words l + j)
  apart_z =
      let e = suc-mul (x + x) (l + l) in
      ⊎_elim
      (λ (lo : q * qubit_words l + j < (x + x) * (l + l)). inl (omega arith))
      (λ (hi : (x + x) * (l + l) + qubit_words l ≤ q * qubit_words l + j). inr (omega arith))
      apart

pub qubit_room : (n l q m : ℕ) → q < n → (n + n) * (l + l) ≤ m → (q + q) * (l + l) + qubit_words l ≤ m
qubit_room n l q m h r = omega (arith, row_ends (qubit_words l) q n h, qubit_place l n, qubit_place l q)

-- ---- marks

stored_same : (us vs : List ℕ) (i m v : ℕ) → length us ≡ length vs → get_or us m 0 ≡ get_or vs m 0 → get_or (set us i v) m 0 ≡ get_or (set vs i v) m 0
stored_same [] [] i m v len e = refl
stored_same [] (y ∷ vs) i m v len e = absurd (omega arith)
stored_same (x ∷ us) [] i m v len e = absurd (omega arith)
stored_same (x ∷ us) (y ∷ vs) zero zero v len e = refl
stored_same (x ∷ us) (y ∷ vs) zero (suc m) v len e = e
stored_same (x ∷ us) (y ∷ vs) (suc i) zero v len e = e
stored_same (x ∷ us) (y ∷ vs) (suc i) (suc m) v len e = stored_same us vs i m v (omega arith) e

mark_same : (us vs : List ℕ) (l q m : ℕ) → length us ≡ length vs → get_or us m 0 ≡ get_or vs m 0 → get_or (mark_at us l q) m 0 ≡ get_or (mark_at vs l q) m 0
mark_same us vs l q m len e =
    let x = (q + q) * (l + l) + q / 64 in
    let v = 2 ^ (q % 64) in
    let lu = length-set us x v in
    let lv = length-set vs x v in
    stored_same (set us x v) (set vs x v) (suc (q + q) * (l + l) + (l + q / 64)) m v (omega arith) (stored_same us vs x m v len e)

mark_out : (p : List ℕ) (l q m : ℕ) → q / 64 < l → (m < (q + q) * (l + l)) ⊎ ((q + q) * (l + l) + qubit_words l ≤ m) → get_or (mark_at p l q) m 0 ≡ get_or p m 0
mark_out p l q m h out =
    let x = (q + q) * (l + l) + q / 64 in
    let z = suc (q + q) * (l + l) + (l + q / 64) in
    let v = 2 ^ (q % 64) in
    let e = suc-mul (q + q) (l + l) in
    get_or-set_other (set p x v) z m v 0 (λ (at : m ≡ z). ⊎_elim (λ (lo : m < (q + q) * (l + l)). omega arith) (λ (hi : (q + q) * (l + l) + qubit_words l ≤ m). omega arith) out)
    ∙ get_or-set_other p x m v 0 (λ (at : m ≡ x). ⊎_elim (λ (lo : m < (q + q) * (l + l)). omega arith) (λ (hi : (q + q) * (l + l) + qubit_words l ≤ m). omega arith) out)

marks_before : (p : List ℕ) (l q k j : ℕ) → k ≤ q → q / 64 < l → j < qubit_words l → get_or (mark_to p l k) (q * qubit_words l + j) 0 ≡ get_or p (q * qubit_words l + j) 0
unfolding mark_to
marks_before p l q zero j h w hj = refl
marks_before p l q (suc k) j h w hj =
    mark_out (mark_to p l k) l k (q * qubit_words l + j) (omega arith) (apart l k q j hj (λ e. omega arith)) ∙ marks_before p l q k j (omega arith) w hj

marks_at : (p : List ℕ) (l q k j : ℕ) → q < k → (k + 63) / 64 ≤ l → j < qubit_words l → get_or (mark_to p l k) (q * qubit_words l + j) 0 ≡ get_or (mark_at p l q) (q * qubit_words l + j) 0
unfolding mark_to
marks_at p l q zero j h w hj = absurd (omega arith)
marks_at p l q (suc k) j h w hj = ⊎_elim
    (λ (lo : q < k). mark_out (mark_to p l k) l k (q * qubit_words l + j) (omega arith) (apart l k q j hj (λ e. omega arith)) ∙ marks_at p l q k j lo (omega arith) hj)
    (λ (hi : k ≤ q). let e : q ≡ k = omega arith in rw e (mark_same (mark_to p l k) p l k (k * qubit_words l + j) (mark-length p l k) (marks_before p l k k j (le_refl k) (omega arith) hj)))
    (below q k)

marks_past : (p : List ℕ) (l n k m : ℕ) → k ≤ n → (n + 63) / 64 ≤ l → n * qubit_words l ≤ m → get_or (mark_to p l k) m 0 ≡ get_or p m 0
unfolding mark_to
marks_past p l n zero m h w past = refl
marks_past p l n (suc k) m h w past =
    let e = row_ends (qubit_words l) k n (omega arith) in
    let f = qubit_place l k in
    mark_out (mark_to p l k) l k m (omega arith) (inr (omega arith)) ∙ marks_past p l n k m (omega arith) w past

-- ---- a restart, word by word

pub reset-length : (n l : ℕ) (p : List ℕ) → length (plane_reset n l p) ≡ length p
unfolding plane_reset
reset-length n l p = mark-length (clear_to p 0 ((n + n) * (l + l))) l n ∙ clear-length p 0 ((n + n) * (l + l))

module _ (n l : ℕ) (wide : (n + 63) / 64 ≤ l) (p : List ℕ) (room : (n + n) * (l + l) ≤ length p) where
  reset_past : (m : ℕ) → n * qubit_words l ≤ m → get_or (plane_reset n l p) m 0 ≡ get_or p m 0
  unfolding plane_reset
  reset_past m h =
      let e = qubit_place l n in
      marks_past (clear_to p 0 ((n + n) * (l + l))) l n n m (le_refl n) wide h ∙ clear_out p 0 ((n + n) * (l + l)) m (inr (omega arith))

  module _ (q j : ℕ) (hq : q < n) (hj : j < qubit_words l) where
    -- the words of qubit q: as in any list of this length that is 0 there, with the qubit's marks
    reset_at : (us : List ℕ) → length us ≡ length p → get_or us (q * qubit_words l + j) 0 ≡ 0
        → get_or (plane_reset n l p) (q * qubit_words l + j) 0 ≡ get_or (mark_at us l q) (q * qubit_words l + j) 0
    unfolding plane_reset
    reset_at us len z =
        let K = (n + n) * (l + l) in
        let e = row_ends (qubit_words l) q n hq in
        let f = qubit_place l n in
        marks_at (clear_to p 0 K) l q n j hq wide hj
        ∙ mark_same (clear_to p 0 K) us l q (q * qubit_words l + j) (clear-length p 0 K ∙ sym len) (clear_first p K (q * qubit_words l + j) (omega arith) room ∙ sym z)

    -- they do not depend on what was there
    reset_same : (p' : List ℕ) → length p' ≡ length p → get_or (plane_reset n l p) (q * qubit_words l + j) 0 ≡ get_or (plane_reset n l p') (q * qubit_words l + j) 0
    unfolding plane_reset
    reset_same p' len =
        let K = (n + n) * (l + l) in
        let e = row_ends (qubit_words l) q n hq in
        let f = qubit_place l n in
        reset_at (clear_to p' 0 K) (clear-length p' 0 K ∙ len) (clear_first p' K (q * qubit_words l + j) (omega arith) (omega arith))
        ∙ sym (marks_at (clear_to p' 0 K) l q n j hq wide hj)

-- ---- one qubit restored

pub restored_one : (n l q : ℕ) (p p' : List ℕ) → (n + 63) / 64 ≤ l → (n + n) * (l + l) ≤ length p → q < n → p' ≡ mark_at (clear_to p ((q + q) * (l + l)) (qubit_words l)) l q
    → Restored n l q p p'
restored_one n l q p p' wide room hq e =
    let first = (q + q) * (l + l) in
    let s = qubit_words l in
    let us = clear_to p first s in
    let ends = row_ends s q n hq in
    let at_n = qubit_place l n in
    let at-q = qubit_place l q in
    let x = first + q / 64 in
    let v = 2 ^ (q % 64) in
    record {
      size = ap length e ∙ length-set (set us x v) (suc (q + q) * (l + l) + (l + q / 64)) v ∙ length-set us x v ∙ clear-length p first s;
      inside = λ j h hj. ap (λ (w : List ℕ). get_or w (q * s + j) 0) e
          ∙ sym (reset_at n l wide p room q j hq hj us (clear-length p first s) (ap (λ (m : ℕ). get_or us (m + j) 0) at-q ∙ clear_in p first s j hj (omega arith)));
      others = λ a j ne hj. ap (λ (w : List ℕ). get_or w (a * s + j) 0) e ∙ mark_out us l q (a * s + j) (omega arith) (apart l q a j hj ne)
          ∙ clear_out p first s (a * s + j) (apart l q a j hj ne);
      past = λ m hm. ap (λ (w : List ℕ). get_or w m 0) e ∙ mark_out us l q m (omega arith) (inr (omega arith)) ∙ clear_out p first s m (inr (omega arith));
    }

-- ---- the qubits of some records restored

untouched_more : (gs : List ℕ) (first i q : ℕ) → first ≤ i → Untouched gs first (i - first) q → q ≢ get_or gs (4 * i + 1) 0 → q ≢ get_or gs (4 * i + 2) 0 → Untouched gs first (i + 1 - first) q
untouched_more gs first i q le un n₁ n₂ k h = ⊎_elim
    (λ (lo : k < i - first). un k lo)
    (λ (hi : i - first ≤ k). let e : first + k ≡ i = omega arith in rw e (n₁, n₂))
    (below k (i - first))

-- a qubit's words are as at the start, or as they were and no record touches it
pub record Mended (n l : ℕ) (p gs : List ℕ) (first count : ℕ) (p' : List ℕ) : Type 0 where
  pub size : length p' ≡ length p
  pub each : (q j : ℕ) → q < n → j < qubit_words l → (get_or p' (q * qubit_words l + j) 0 ≡ get_or (plane_reset n l p) (q * qubit_words l + j) 0)
      ⊎ ((get_or p' (q * qubit_words l + j) 0 ≡ get_or p (q * qubit_words l + j) 0) × Untouched gs first count q)
  pub past : (m : ℕ) → n * qubit_words l ≤ m → get_or p' m 0 ≡ get_or p m 0

pub mended_none : (n l : ℕ) (p gs : List ℕ) (first count : ℕ) → count ≡ 0 → Mended n l p gs first count p
mended_none n l p gs first count none = record { size = refl; each = λ q j hq hj. inr (refl, λ k h. absurd (omega arith)); past = λ m h. refl }

module _ (n l : ℕ) (wide : (n + 63) / 64 ≤ l) (p gs : List ℕ) (room : (n + n) * (l + l) ≤ length p) (first : ℕ) where
  -- those of record i too
  pub mended_more : (i : ℕ) (p₁ p₂ p₃ : List ℕ) → first ≤ i → Mended n l p gs first (i - first) p₁ → Restored n l (get_or gs (4 * i + 1) 0) p₁ p₂
      → Restored n l (get_or gs (4 * i + 2) 0) p₂ p₃ → Mended n l p gs first (i + 1 - first) p₃
  mended_more i p₁ p₂ p₃ le at r₁ r₂ =
      let a = get_or gs (4 * i + 1) 0 in
      let b = get_or gs (4 * i + 2) 0 in
      let len₁ = at.size in
      let len₂ = r₁.size in
      record {
        size = r₂.size ∙ r₁.size ∙ at.size;
        each = λ q j hq hj. ⊎_elim
            (λ (e : q ≡ b). inl (back p₂ p₃ b r₂ (len₂ ∙ len₁) q j hq hj e))
            (λ (no : q ≢ b). ⊎_elim
            (λ (e : q ≡ a). inl (r₂.others q j no hj ∙ back p₁ p₂ a r₁ len₁ q j hq hj e))
            (λ (nor : q ≢ a). ⊎_elim
            (λ (e : get_or p₁ (q * qubit_words l + j) 0 ≡ get_or (plane_reset n l p) (q * qubit_words l + j) 0). inl (r₂.others q j no hj ∙ r₁.others q j nor hj ∙ e))
            (λ (e : (get_or p₁ (q * qubit_words l + j) 0 ≡ get_or p (q * qubit_words l + j) 0) × Untouched gs first (i - first) q).
            inr (r₂.others q j no hj ∙ r₁.others q j nor hj ∙ e.0, untouched_more gs first i q le e.1 nor no))
            (at.each q j hq hj))
            (same_or_not q a))
            (same_or_not q b);
        past = λ m h. r₂.past m h ∙ r₁.past m h ∙ at.past m h;
      }
    where
      -- restored from other words of the same number
      back : (u v : List ℕ) (x : ℕ) → Restored n l x u v → length u ≡ length p → (q j : ℕ) → q < n → j < qubit_words l → q ≡ x
          → get_or v (q * qubit_words l + j) 0 ≡ get_or (plane_reset n l p) (q * qubit_words l + j) 0
      back u v x r len q j hq hj e =
          ap (λ (y : ℕ). get_or v (y * qubit_words l + j) 0) e ∙ r.inside j (rw (← e) hq) hj ∙ ap (λ (y : ℕ). get_or (plane_reset n l u) (y * qubit_words l + j) 0) (sym e)
          ∙ sym (reset_same n l wide p room q j hq hj u len)

  pub mended_all : (count : ℕ) (p' : List ℕ) → 0 < l → Mended n l p gs first count p' → Since n l p gs first count → p' ≡ plane_reset n l p
  mended_all count p' pos at since = ext_get_or 0 p' (plane_reset n l p) (at.size ∙ sym (reset-length n l p)) (λ m h. ⊎_elim
      (λ (lo : m < n * qubit_words l).
      let sp = split_place n (qubit_words l) m (omega arith) lo in
      rw (← sp.2) (here (m / qubit_words l) (m % qubit_words l) sp.0 sp.1))
      (λ (hi : n * qubit_words l ≤ m). at.past m hi ∙ sym (reset_past n l wide p room m hi))
      (below m (n * qubit_words l)))
    where
      here : (q j : ℕ) → q < n → j < qubit_words l → get_or p' (q * qubit_words l + j) 0 ≡ get_or (plane_reset n l p) (q * qubit_words l + j) 0
      here q j hq hj = ⊎_elim
          (λ (e : get_or p' (q * qubit_words l + j) 0 ≡ get_or (plane_reset n l p) (q * qubit_words l + j) 0). e)
          (λ (e : (get_or p' (q * qubit_words l + j) 0 ≡ get_or p (q * qubit_words l + j) 0) × Untouched gs first count q). e.0 ∙ since.same q j hq hj e.1)
          (at.each q j hq hj)

-- ---- what a record leaves alone

-- q is no qubit of the gate
abbrev Off : ℕ → Gate → Type 0
Off q (gate_h x) = q ≢ x
Off q (gate_x x) = q ≢ x
Off q (gate_z x) = q ≢ x
Off q (gate_s x) = q ≢ x
Off q (gate_sdg x) = q ≢ x
Off q (gate_cnot c t) = (q ≢ c) × (q ≢ t)
Off q (gate_cz c t) = (q ≢ c) × (q ≢ t)

abbrev AllOff : ℕ → List Gate → Type 0
AllOff q [] = Unit
AllOff q (g ∷ gs) = Off q g × AllOff q gs

step_off : (l q j : ℕ) (g : Gate) (p : List ℕ) → j < qubit_words l → Off q g → get_or (plane_step l g p) (q * qubit_words l + j) 0 ≡ get_or p (q * qubit_words l + j) 0
unfolding plane_step
step_off l q j (gate_h x) p h ne = swap_out p _ _ (l + l) (q * qubit_words l + j) (apart_x l x q j h ne) (apart_z l x q j h ne)
step_off l q j (gate_x x) p h ne = refl
step_off l q j (gate_z x) p h ne = refl
step_off l q j (gate_s x) p h ne = xor-out p _ _ (l + l) (q * qubit_words l + j) (apart_x l x q j h ne)
step_off l q j (gate_sdg x) p h ne = xor-out p _ _ (l + l) (q * qubit_words l + j) (apart_x l x q j h ne)
step_off l q j (gate_cnot c t) p h ne = xor-out _ _ _ (l + l) (q * qubit_words l + j) (apart_z l t q j h ne.1) ∙ xor-out p _ _ (l + l) (q * qubit_words l + j) (apart_x l c q j h ne.0)
step_off l q j (gate_cz c t) p h ne = xor-out _ _ _ (l + l) (q * qubit_words l + j) (apart_x l t q j h ne.1) ∙ xor-out p _ _ (l + l) (q * qubit_words l + j) (apart_x l c q j h ne.0)

run_off : (l q j : ℕ) (gs : List Gate) (p : List ℕ) → j < qubit_words l → AllOff q gs → get_or (plane_run l gs p) (q * qubit_words l + j) 0 ≡ get_or p (q * qubit_words l + j) 0
unfolding plane_run
run_off l q j [] p h ne = refl
run_off l q j (g ∷ gs) p h ne = run_off l q j gs (plane_step l g p) h ne.1 ∙ step_off l q j g p h ne.0

step-length : (l : ℕ) (g : Gate) (p : List ℕ) → length (plane_step l g p) ≡ length p
unfolding plane_step
step-length l (gate_h x) p = swap-length p _ _ (l + l)
step-length l (gate_x x) p = refl
step-length l (gate_z x) p = refl
step-length l (gate_s x) p = xor-length p _ _ (l + l)
step-length l (gate_sdg x) p = xor-length p _ _ (l + l)
step-length l (gate_cnot c t) p = xor-length _ _ _ (l + l) ∙ xor-length p _ _ (l + l)
step-length l (gate_cz c t) p = xor-length _ _ _ (l + l) ∙ xor-length p _ _ (l + l)

run_length : (l : ℕ) (gs : List Gate) (p : List ℕ) → length (plane_run l gs p) ≡ length p
unfolding plane_run
run_length l [] p = refl
run_length l (g ∷ gs) p = run_length l gs (plane_step l g p) ∙ step-length l g p

record_off : (k : GateKind) (a b q : ℕ) → q ≢ a → q ≢ b → AllOff q (record_gates k a b)
unfolding record_gates lower_as
record_off KindH a b q na nb = (na, tt)
record_off KindX a b q na nb = (na, tt)
record_off KindZ a b q na nb = (na, tt)
record_off KindS a b q na nb = (na, tt)
record_off KindSdg a b q na nb = (na, tt)
record_off KindT a b q na nb = tt
record_off KindTdg a b q na nb = tt
record_off KindCnot a b q na nb = ((na, nb), tt)
record_off KindCz a b q na nb = ((na, nb), tt)
record_off KindCcx a b q na nb = tt
record_off KindCcz a b q na nb = tt
record_off KindMeasure a b q na nb = tt
record_off KindY a b q na nb = (na, (na, tt))
record_off KindSx a b q na nb = (na, (na, (na, tt)))
record_off KindSwap a b q na nb = ((na, nb), ((nb, na), ((na, nb), tt)))
record_off KindCy a b q na nb = (nb, ((na, nb), (nb, tt)))
record_off Unsupported a b q na nb = tt

-- ---- one record more

module _ (n l : ℕ) (wide : (n + 63) / 64 ≤ l) (gs : List ℕ) (k : GateKind) (to : ℕ) where
  abbrev gates_i : List Gate
  gates_i = record_gates k (get_or gs (4 * to + 1) 0) (get_or gs (4 * to + 2) 0)

  since_run : (p : List ℕ) (first : ℕ) → (n + n) * (l + l) ≤ length p → first ≤ to → Since n l p gs first (to - first) → Since n l (plane_run l gates_i p) gs first (to + 1 - first)
  since_run p first room le since = record {
    same = λ q j hq hj un.
        let y : first + (to - first) ≡ to = omega arith in
        let ne = rw y at (un (to - first) (omega arith)) in
        run_off l q j gates_i p hj (record_off k _ _ q ne.0 ne.1) ∙ since.same q j hq hj (λ i hi. un i (omega arith))
        ∙ reset_same n l wide p room q j hq hj (plane_run l gates_i p) (run_length l gates_i p);
  }

  -- after a flush, or without one
  since_next : (f : Bool) (p : List ℕ) (first : ℕ) → (n + n) * (l + l) ≤ length p → first ≤ to → Since n l p gs first (to - first)
      → Since n l (plane_run l gates_i (refreshed f n l p)) gs (cond f to first) (to + 1 - cond f to first)
  since_next true p first room le since =
      let len = reset-length n l p in
      since_run (plane_reset n l p) to (omega arith) (le_refl to) (record { same = λ q j hq hj un. reset_same n l wide p room q j hq hj (plane_reset n l p) len })
  since_next false p first room le since = since_run p first room le since

  -- the same, where a and b are the operands of record `to` and p' the planes after it
  pub since_more : (f : Bool) (a b first : ℕ) (p p' : List ℕ) → (n + n) * (l + l) ≤ length p → first ≤ to → a ≡ get_or gs (4 * to + 1) 0 → b ≡ get_or gs (4 * to + 2) 0
      → Since n l p gs first (to - first) → p' ≡ plane_run l (record_gates k a b) (refreshed f n l p) → Since n l p' gs (cond f to first) (to + 1 - cond f to first)
  since_more f a b first p p' room le ea eb since e = rw (e, ea, eb) (since_next f p first room le since)

-- planes of the start
pub since-start : (n : ℕ) (cap : Cap) (ps gs : List ℕ) (first count : ℕ) → ps ≡ planes_for cap n (start n) ps → is_capped cap ≡ true → Since n (part_words n) ps gs first count
since-start n NoCap ps gs first count e on = refuted on
since-start n (AtMost most) ps gs first count e on =
    let again : plane_reset n (part_words n) ps ≡ ps = ap (plane_reset n (part_words n)) e ∙ plane_again n (start n) _ ∙ sym e in
    record { same = λ q j hq hj un. ap (λ (w : List ℕ). get_or w (q * qubit_words (part_words n) + j) 0) (sym again) }
