-- Tokens one by one: signs, words and numbers that are laid are read, and what was read was laid.
use mathlib.Core.Path.{◌≡◌, refl, ap, ap₂, sym, ◌∙◌, subst}
use mathlib.Core.Bool.{Bool, true, false, cond}
use mathlib.Core.List.{List, [], ◌∷◌, ◌++◌}
use Prim.Native.Nat.{ℕ, ◌≤◌, ◌<◌}
use native.Mathlib.Omega.{arith}
use lib.Dec.{eqb, leb}
use lib.ListN.{length}
use native.Mathlib.Nat.{le_trans}
use borrow.Author.Tests.{eqb-true, ne_eqb, eq-eqb, leb-true}
use Rattle.qasm.specs.Bytes.{white, letter, digit, word_byte, lower_case, between, begins, every}
use Rattle.qasm.specs.Tokens.{slashed, solid, Blank, decimal_by}
use Rattle.qasm.specs.Reading.{got, failed, done, blank, prefix, taken, left, word_from, take_sign, take_word, value_of, plain_number, number_from, take_number}
use Rattle.qasm.proofs.Truth.{and_left, and_right, or_elim}
use Rattle.qasm.proofs.Grammar.Decimals.{decimal_digits, decimal_value, decimal_some, plain_decimal, plain_is_decimal}
use Rattle.qasm.proofs.Grammar.Blanks.{blank_skip, solid-skip, Past, to_end, to_token, past}

pub every_taken : (f : ℕ → Bool) (t : List ℕ) → every f (taken f t) ≡ true
every_taken f [] = refl
every_taken f (b ∷ r) = go (f b) refl (every_taken f r)
  where
    go : (t : Bool) → f b ≡ t → every f (taken f r) ≡ true → every f (cond t (b ∷ taken f r) []) ≡ true
    go true e k = rw (e, k)
    go false e k = refl

-- what the reader looks at, past a blank that is laid before something solid
pub looks : (text here : List ℕ) → Blank text here → solid here ≡ true → blank text ≡ here
unfolding blank
looks text here b s = blank_skip b ∙ solid-skip here s

-- and the other way: what it looks at, if anything, is past a blank
pub saw : (text : List ℕ) (b : ℕ) (r : List ℕ) → blank text ≡ b ∷ r → Blank text (b ∷ r) × (solid (b ∷ r) ≡ true)
unfolding blank
saw text b r e = go (past text)
  where
    none : [] ≡ b ∷ r → ⊥
    none e = let z : ◌≡◌ {A = ℕ} 0 1 = cc in omega arith

    go : Past text → Blank text (b ∷ r) × (solid (b ∷ r) ≡ true)
    go (to_end k s) = absurd (none (sym s ∙ e))
    go (to_token k s) = (subst (λ z. Blank text z) e k, subst (λ z. solid z ≡ true) e s)

-- ---- signs

prefix-spelled : (s after : List ℕ) → prefix s (s ++ after) ≡ got done after
prefix-spelled [] after = refl
prefix-spelled (b ∷ s) after = rw (eq-eqb b b refl) (prefix-spelled s after)

spelled-prefix : (s t after : List ℕ) → prefix s t ≡ got done after → t ≡ s ++ after
spelled-prefix [] t after e = inner t after e
  where
    inner : (t after : List ℕ) → got done t ≡ got done after → t ≡ after
    inner t after e = cc
spelled-prefix (b ∷ s) [] after e = absurd (never e)
  where
    never : failed ≡ got done after → ⊥
    never e = let z : ◌≡◌ {A = ℕ} 0 1 = cc in omega arith
spelled-prefix (b ∷ s) (d ∷ t) after e = go (eqb d b) refl e (λ k. spelled-prefix s t after k)
  where
    never : failed ≡ got done after → ⊥
    never e = let z : ◌≡◌ {A = ℕ} 0 1 = cc in omega arith

    go : (x : Bool) → eqb d b ≡ x → cond x (prefix s t) failed ≡ got done after → (prefix s t ≡ got done after → t ≡ s ++ after) → d ∷ t ≡ b ∷ (s ++ after)
    go true p q f = ap₂ (λ m n. m ∷ n) (eqb-true d b p) (f q)
    go false p q f = absurd (never q)

pub sign_complete : (s text here after : List ℕ) → Blank text here → here ≡ s ++ after → solid (s ++ after) ≡ true → take_sign s text ≡ got done after
unfolding take_sign
sign_complete s text here after b e k = ap (prefix s) (looks text here b (ap solid e ∙ k) ∙ e) ∙ prefix-spelled s after

pub sign_sound : (b : ℕ) (s text after : List ℕ) → take_sign (b ∷ s) text ≡ got done after → Blank text (b ∷ (s ++ after))
unfolding take_sign
sign_sound b s text after e = (saw text b (s ++ after) (spelled-prefix (b ∷ s) (blank text) after e)).0

-- ---- words

taken-spelled : (f : ℕ → Bool) (w after : List ℕ) → every f w ≡ true → begins f after ≡ false → taken f (w ++ after) ≡ w
taken-spelled f [] [] e k = refl
taken-spelled f [] (b ∷ r) e k = rw k
taken-spelled f (b ∷ w) after e k = rw (and_left (f b) (every f w) e) (ap (λ z. b ∷ z) (taken-spelled f w after (and_right (f b) (every f w) e) k))

left-spelled : (f : ℕ → Bool) (w after : List ℕ) → every f w ≡ true → begins f after ≡ false → left f (w ++ after) ≡ after
left-spelled f [] [] e k = refl
left-spelled f [] (b ∷ r) e k = rw k
left-spelled f (b ∷ w) after e k = rw (and_left (f b) (every f w) e) (left-spelled f w after (and_right (f b) (every f w) e) k)

pub split-taken : (f : ℕ → Bool) (t : List ℕ) → t ≡ taken f t ++ left f t
split-taken f [] = refl
split-taken f (b ∷ r) = go (f b) (split-taken f r)
  where
    go : (x : Bool) → r ≡ taken f r ++ left f r → b ∷ r ≡ cond x (b ∷ taken f r) [] ++ cond x (left f r) (b ∷ r)
    go true e = ap (λ z. b ∷ z) e
    go false e = refl

pub left-stops : (f : ℕ → Bool) (t : List ℕ) → begins f (left f t) ≡ false
left-stops f [] = refl
left-stops f (b ∷ r) = go (f b) refl (left-stops f r)
  where
    go : (x : Bool) → f b ≡ x → begins f (left f r) ≡ false → begins f (cond x (left f r) (b ∷ r)) ≡ false
    go true e k = k
    go false e k = e

solid-letter : (b : ℕ) (r : List ℕ) → letter b ≡ true → solid (b ∷ r) ≡ true
solid-letter b r e = rw (white-not, slash-not)
  where
    low : 65 ≤ b
    low = or_elim (lower_case b) (between 65 90 b) e (λ k. omega (arith, leb-true 97 b (and_left (leb 97 b) (leb b 122) k))) (λ k. leb-true 65 b (and_left (leb 65 b) (leb b 90) k))

    other : (n : ℕ) → n < 65 → eqb b n ≡ false
    other n h = ne_eqb b n (λ e. below h e)
      where
        below : n < 65 → b ≡ n → ⊥
        below h e = omega (arith, low)

    white-not : white b ≡ false
    white-not = rw (other 32 (omega arith), other 9 (omega arith), other 13 (omega arith), other 10 (omega arith))

    slash-not : slashed (b ∷ r) ≡ false
    slash-not = rw (other 47 (omega arith))

pub word_complete : (b : ℕ) (w text here after : List ℕ) → letter b ≡ true → every word_byte (b ∷ w) ≡ true → Blank text here → here ≡ (b ∷ w) ++ after → begins word_byte after ≡ false
    → take_word text ≡ got (b ∷ w) after
unfolding take_word
word_complete b w text here after l e k h s = ap word_from (looks text here k (ap solid h ∙ solid-letter b (w ++ after) l) ∙ h) ∙ pick (letter b) l
    ∙ ap₂ got (taken-spelled word_byte (b ∷ w) after e s) (left-spelled word_byte (b ∷ w) after e s)
  where
    pick : (t : Bool) → t ≡ true → cond t (got (taken word_byte (b ∷ (w ++ after))) (left word_byte (b ∷ (w ++ after)))) failed ≡ got (taken word_byte (b ∷ (w ++ after)))
        (left word_byte (b ∷ (w ++ after)))
    pick t x = rw x

-- a word, spelled before what is left
pub record Worded (text w after : List ℕ) : Type 0 where
  pub laid : Blank text (w ++ after)
  pub first : begins letter w ≡ true
  pub bytes : every word_byte w ≡ true
  pub stops : begins word_byte after ≡ false

pub word_sound : (text w after : List ℕ) → take_word text ≡ got w after → Worded text w after
unfolding take_word
word_sound text w after e = go (blank text) refl
  where
    never : failed ≡ got w after → ⊥
    never e = let z : ◌≡◌ {A = ℕ} 0 1 = cc in omega arith

    same_word : (u v : List ℕ) → got u v ≡ got w after → u ≡ w
    same_word u v e = cc

    same_left : (u v : List ℕ) → got u v ≡ got w after → v ≡ after
    same_left u v e = cc

    letter-first : (b : ℕ) (r : List ℕ) → letter b ≡ true → begins letter (taken word_byte (b ∷ r)) ≡ true
    letter-first b r l = rw (l, l)

    read : (b : ℕ) (r : List ℕ) → blank text ≡ b ∷ r → (x : Bool) → letter b ≡ x → cond x (got (taken word_byte (b ∷ r)) (left word_byte (b ∷ r))) failed ≡ got w after → Worded text w after
    read b r k false l f = absurd (never f)
    read b r k true l f = record {
      laid = subst (λ z. Blank text z) (split-taken word_byte (b ∷ r)
          ∙ ap₂ (λ u v. u ++ v) (same_word (taken word_byte (b ∷ r)) (left word_byte (b ∷ r)) f) (same_left (taken word_byte (b ∷ r)) (left word_byte (b ∷ r)) f)) (saw text b r k).0;
      first = ap (begins letter) (sym (same_word (taken word_byte (b ∷ r)) (left word_byte (b ∷ r)) f)) ∙ letter-first b r l;
      bytes = ap (every word_byte) (sym (same_word (taken word_byte (b ∷ r)) (left word_byte (b ∷ r)) f)) ∙ every_taken word_byte (b ∷ r);
      stops = ap (begins word_byte) (sym (same_left (taken word_byte (b ∷ r)) (left word_byte (b ∷ r)) f)) ∙ left-stops word_byte (b ∷ r);
    }

    go : (t : List ℕ) → blank text ≡ t → Worded text w after
    go [] k = absurd (never (ap word_from (sym k) ∙ e))
    go (b ∷ r) k = read b r k (letter b) refl (ap word_from (sym k) ∙ e)

-- ---- numbers

solid-digits : (ds after : List ℕ) → every digit ds ≡ true → 1 ≤ length ds → solid (ds ++ after) ≡ true
solid-digits [] after e h = absurd (omega arith)
solid-digits (b ∷ ds) after e h = rw (white-not, slash-not)
  where
    low : 48 ≤ b
    low = leb-true 48 b (and_left (leb 48 b) (leb b 57) (and_left (digit b) (every digit ds) e))

    other : (n : ℕ) → n < 48 → eqb b n ≡ false
    other n h = ne_eqb b n (λ e. below h e)
      where
        below : n < 48 → b ≡ n → ⊥
        below h e = omega (arith, low)

    white-not : white b ≡ false
    white-not = rw (other 32 (omega arith), other 9 (omega arith), other 13 (omega arith), other 10 (omega arith))

    slash-not : slashed (b ∷ (ds ++ after)) ≡ false
    slash-not = rw (other 47 (omega arith))

pub number_complete : (v : ℕ) (text here after : List ℕ) → v < 4294967296 → Blank text here → here ≡ decimal_by 10 v ++ after → begins digit after ≡ false → take_number text ≡ got v after
unfolding take_number
number_complete v text here after h k e s = ap number_from (looks text here k (ap solid e ∙ solid-digits (decimal_by 10 v) after (decimal_digits 10 v) (decimal_some v)) ∙ e)
    ∙ read (taken digit (decimal_by 10 v ++ after)) (left digit (decimal_by 10 v ++ after)) (taken-spelled digit (decimal_by 10 v) after (decimal_digits 10 v) s)
    (left-spelled digit (decimal_by 10 v) after (decimal_digits 10 v) s)
  where
    read : (u w : List ℕ) → u ≡ decimal_by 10 v → w ≡ after → cond (plain_number u) (got (value_of 0 u) w) failed ≡ got v after
    read u w p q = rw (p, q, plain_decimal v h, decimal_value 10 v (le_trans h (omega arith)))

pub record Numbered (text : List ℕ) (v : ℕ) (after : List ℕ) : Type 0 where
  pub laid : Blank text (decimal_by 10 v ++ after)
  pub fits : v < 4294967296
  pub stops : begins digit after ≡ false

pub number_sound : (text : List ℕ) (v : ℕ) (after : List ℕ) → take_number text ≡ got v after → Numbered text v after
unfolding take_number
number_sound text v after e = go (blank text) refl
  where
    never : failed ≡ got v after → ⊥
    never e = let z : ◌≡◌ {A = ℕ} 0 1 = cc in omega arith

    same-value : (u : ℕ) (w : List ℕ) → got u w ≡ got v after → u ≡ v
    same-value u w e = cc

    same_left : (u : ℕ) (w : List ℕ) → got u w ≡ got v after → w ≡ after
    same_left u w e = cc

    read : (b : ℕ) (r : List ℕ) → blank text ≡ b ∷ r → (x : Bool) → plain_number (taken digit (b ∷ r)) ≡ x
        → cond x (got (value_of 0 (taken digit (b ∷ r))) (left digit (b ∷ r))) failed ≡ got v after → Numbered text v after
    read b r k false l f = absurd (never f)
    read b r k true l f = record {
      laid = subst (λ z. Blank text z) (split-taken digit (b ∷ r) ∙ ap₂ (λ x y. x ++ y) (sym (plain_is_decimal (taken digit (b ∷ r)) (every_taken digit (b ∷ r)) l).0
          ∙ ap (decimal_by 10) (same-value (value_of 0 (taken digit (b ∷ r))) (left digit (b ∷ r)) f)) (same_left (value_of 0 (taken digit (b ∷ r))) (left digit
          (b ∷ r)) f)) (saw text b r k).0;
      fits = subst (λ z. z < 4294967296) (same-value (value_of 0 (taken digit (b ∷ r))) (left digit (b ∷ r)) f) (plain_is_decimal (taken digit (b ∷ r)) (every_taken digit (b ∷ r)) l).1;
      stops = ap (begins digit) (sym (same_left (value_of 0 (taken digit (b ∷ r))) (left digit (b ∷ r)) f)) ∙ left-stops digit (b ∷ r);
    }

    go : (t : List ℕ) → blank text ≡ t → Numbered text v after
    go [] k = absurd (never (ap number_from (sym k) ∙ e))
    go (b ∷ r) k = read b r k (plain_number (taken digit (b ∷ r))) refl (ap number_from (sym k) ∙ e)
