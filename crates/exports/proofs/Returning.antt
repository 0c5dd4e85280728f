-- What a function for C returns and leaves, from what it has written.
-- kept: laws that docs/PROVING.md named when the design pass began; the check finds what functions need of them.
use mathlib.Core.Path.{◌≡◌}
use mathlib.Core.List.{List}
use Prim.Native.Nat.{ℕ}
use Rattle.exports.specs.Words.{Reply, number_in, header_left, answer_left, returned}
use Rattle.exports.specs.Exports.{headed, lent_words}
use Rattle.exports.specs.Readers.{walk_words, expand_words, axes_words}

pub replied_is : {B : Type 0} {said reply : Reply} {number : ℕ} {written : List ℕ} {left words : B} (answer : List ℕ)
    → said ≡ reply
    → number ≡ number_in said
    → written ≡ answer_left said answer
    → left ≡ words
    → returned number written left ≡ returned (number_in reply) (answer_left reply answer) words
replied_is answer e n a w = rw (n, a, w, e)

-- a call that gives a header
pub exported_is : {B : Type 0} {said reply : Reply} {number : ℕ} {new written : List ℕ} {left words : B} (header answer : List ℕ)
    → said ≡ reply
    → number ≡ number_in said
    → new ≡ header_left said header
    → written ≡ answer_left said answer
    → left ≡ words
    → returned number written (headed new left) ≡ returned (number_in reply) (answer_left reply answer) (headed (header_left reply header) words)
exported_is header answer e n h a w = rw (n, h, a, w, e)

-- ---- words of several slices

module _ {a b a' b' : List ℕ} where
  pub same_lent : a ≡ a' → b ≡ b' → lent_words a b ≡ lent_words a' b'
  same_lent p q = rw (p, q)

  pub same_walk : a ≡ a' → b ≡ b' → walk_words a b ≡ walk_words a' b'
  same_walk p q = rw (p, q)

  pub same_expand : {c c' : List ℕ} → a ≡ a' → b ≡ b' → c ≡ c' → expand_words a b c ≡ expand_words a' b' c'
  same_expand p q r = rw (p, q, r)

  pub same_axes : {c c' : List ℕ} → a ≡ a' → b ≡ b' → c ≡ c' → axes_words a b c ≡ axes_words a' b' c'
  same_axes p q r = rw (p, q, r)
