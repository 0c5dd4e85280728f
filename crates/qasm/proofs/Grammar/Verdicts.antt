-- One reading or one place for every text, and the call's answer by them.
use mathlib.Core.Path.{◌≡◌, refl, ap, sym, ◌∙◌}
use mathlib.Core.Bool.{true, false}
use mathlib.Core.List.{List}
use Prim.Native.Nat.{ℕ, ◌*◌, ◌/◌, ◌≤◌, ◌<◌}
use native.Mathlib.Omega.{arith}
use lib.Dec.{ltb}
use lib.ListN.{length}
use borrow.Author.Tests.{lt-ltb, le-ltb}
use Rattle.arena.specs.Errors.{refusal_of, refusal_in}
use Rattle.qasm.specs.Types.{BadText, NoGateRoom}
use Rattle.qasm.specs.Text.{Record}
use Rattle.qasm.specs.Reading.{Read, program, bad_text, reading}
use Rattle.qasm.specs.Answers.{answer_of, left_in}
use Rattle.qasm.specs.Claims.{OneReading, OnePlace, Decided, read, refused, Answers}
use Rattle.qasm.proofs.Grammar.Readings

-- ---- one reading, or one place

same_qubits : (n m n₁ m₁ : ℕ) (gs hs : List Record) → program n m gs ≡ program n₁ m₁ hs → n ≡ n₁
same_qubits n m n₁ m₁ gs hs e = cc

same_bits : (n m n₁ m₁ : ℕ) (gs hs : List Record) → program n m gs ≡ program n₁ m₁ hs → m ≡ m₁
same_bits n m n₁ m₁ gs hs e = cc

same_gates : (n m n₁ m₁ : ℕ) (gs hs : List Record) → program n m gs ≡ program n₁ m₁ hs → gs ≡ hs
same_gates n m n₁ m₁ gs hs e = cc

same_place : (j k : ℕ) → bad_text j ≡ bad_text k → j ≡ k
same_place j k e = cc

not_both : (n m : ℕ) (gs : List Record) (k : ℕ) → program n m gs ≡ bad_text k → ⊥
not_both n m gs k e = let z : ◌≡◌ {A = ℕ} 0 1 = cc in omega arith

one-reading : (text : List ℕ) (n m : ℕ) (gs : List Record) → reading text ≡ program n m gs → OneReading text n m gs
one-reading text n m gs e = record {
  says = Readings.sound text n m gs e;
  alone = λ n₁ m₁ hs s. let k = sym (Readings.complete text n₁ m₁ hs s) ∙ e in (same_qubits n₁ m₁ n m hs gs k, (same_bits n₁ m₁ n m hs gs k, same_gates n₁ m₁ n m hs gs k));
  goes_on = λ k s. not_both n m gs k (sym e ∙ Readings.refused text k s);
}

one_place : (text : List ℕ) (k : ℕ) → reading text ≡ bad_text k → OnePlace text k
one_place text k e = record {
  stops = Readings.refuses text k e;
  alone = λ j s. same_place j k (sym (Readings.refused text j s) ∙ e);
  says_nothing = λ n m gs s. not_both n m gs k (sym (Readings.complete text n m gs s) ∙ e);
}

pub decided : (text : List ℕ) → Decided text
decided text = go (reading text) refl
  where
    go : (x : Read) → reading text ≡ x → Decided text
    go (program n m gs) e = read (one-reading text n m gs e)
    go (bad_text k) e = refused (one_place text k e)

-- ---- the call

short_room : (room k : ℕ) → room < 4 * k → ltb (room / 4) k ≡ true
short_room room k h = lt-ltb (room / 4) k (omega arith)

wide_room : (room k : ℕ) → 4 * k ≤ room → ltb (room / 4) k ≡ false
wide_room room k h = le-ltb (room / 4) k (omega arith)

pub answers : (text words : List ℕ) → Answers text words (answer_of (reading text) (length words)) (left_in (reading text) words)
unfolding answer_of left_in
answers text words = record {
  bad = λ k s. (ap (λ z. answer_of z (length words)) (Readings.refused text k s), ap (λ z. left_in z words) (Readings.refused text k s));
  full = λ n m gs s h. (
    rw (Readings.complete text n m gs s, short_room (length words) (length gs) h) refl,
    rw (
      Readings.complete text n m gs s,
      short_room
          (length words) (length gs) h,
    ) refl,
  );
  whole = λ n m gs s h. (
    rw (Readings.complete text n m gs s, wide_room (length words) (length gs) h) refl,
    rw (
      Readings.complete text n m gs s,
      wide_room
          (length words) (length gs) h,
    ) refl,
  );
}

-- ---- the refusals' numbers

pub bad_text_refusal : (place : ℕ) → refusal_in (BadText place) ≡ refusal_of 20 0 place
bad_text_refusal place = refl

pub no_gate_room_refusal : refusal_in NoGateRoom ≡ refusal_of 21 0 0
no_gate_room_refusal = refl
