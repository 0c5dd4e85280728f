-- Blanks by runs of one class: white space, and what a comment's line has.
use mathlib.Core.Path.{◌≡◌, refl, ap, sym, ◌∙◌}
use mathlib.Core.Bool.{Bool, true, false, cond, not}
use mathlib.Core.List.{List, [], ◌∷◌}
use Prim.Native.Nat.{ℕ}
use lib.Dec.{eqb}
use lib.ListN.{length}
use Rattle.std.proofs.Common.{true≢false, ◌≤◌, ◌<◌, arith}
use borrow.Author.Tests.{eqb-true}
use Rattle.qasm.specs.Bytes.{white, begins}
use Rattle.qasm.specs.Tokens.{slashed, no_line_feed}
use Rattle.qasm.specs.Reading.{skip, left}
use Rattle.qasm.proofs.Truth.{and_left}

pub left_shorter : (f : ℕ → Bool) (t : List ℕ) → length (left f t) ≤ length t
left_shorter f [] = omega arith
left_shorter f (b ∷ r) = go (f b) (left_shorter f r)
  where
    go : (x : Bool) → length (left f r) ≤ length r → length (cond x (left f r) (b ∷ r)) ≤ length (b ∷ r)
    go true h = omega (arith, h)
    go false h = omega arith

pub skip_white : (t : List ℕ) → skip false t ≡ skip false (left white t)
skip_white [] = refl
skip_white (b ∷ r) = go (white b) refl (skip_white r)
  where
    go : (x : Bool) → white b ≡ x → skip false r ≡ skip false (left white r) → skip false (b ∷ r) ≡ skip false (cond x (left white r) (b ∷ r))
    go true e h = rw (e) h
    go false e h = refl

pub skip_line : (t : List ℕ) → skip true t ≡ skip false (left no_line_feed t)
skip_line [] = refl
skip_line (b ∷ r) = go (eqb b 10) refl (skip_line r)
  where
    go : (x : Bool) → eqb b 10 ≡ x → skip true r ≡ skip false (left no_line_feed r) → cond x (skip false r) (skip true r) ≡ skip false (cond (not x) (left no_line_feed r) (b ∷ r))
    go true e h = sym (ap (λ z. skip false (z ∷ r)) (eqb-true b 10 e))
    go false e h = h

pub left_again : (f : ℕ → Bool) (t : List ℕ) → left f (left f t) ≡ left f t
left_again f [] = refl
left_again f (b ∷ r) = go (f b) refl (left_again f r)
  where
    go : (x : Bool) → f b ≡ x → left f (left f r) ≡ left f r → left f (cond x (left f r) (b ∷ r)) ≡ cond x (left f r) (b ∷ r)
    go true e h = h
    go false e h = rw e

-- past a comment: its line, and the white space after it
pub past_comment : (t line_feed after : List ℕ) → slashed t ≡ true → line_feed ≡ left no_line_feed t → after ≡ left white line_feed → skip false t ≡ skip false after
past_comment t line_feed after s l w = in_comment t s ∙ skip_line t ∙ ap (skip false) (sym l) ∙ skip_white line_feed ∙ ap (skip false) (sym w)
  where
    in_comment : (t : List ℕ) → slashed t ≡ true → skip false t ≡ skip true t
    in_comment [] e = absurd (true≢false (sym e))
    in_comment (b ∷ r) e = slash b r (eqb-true b 47 (and_left (eqb b 47) (begins (λ a. eqb a 47) r) e)) e
      where
        slash : (b : ℕ) (r : List ℕ) → b ≡ 47 → slashed (b ∷ r) ≡ true → skip false (b ∷ r) ≡ skip true (b ∷ r)
        slash b r k e = rw (k) (rw (rw (k) at e) refl)

-- a comment's line is some bytes at least
pub line_shorter : (t : List ℕ) → slashed t ≡ true → length (left no_line_feed t) < length t
line_shorter [] e = absurd (true≢false (sym e))
line_shorter (b ∷ r) e = rw (eqb-true b 47 (and_left (eqb b 47) (begins (λ a. eqb a 47) r) e)) (omega (arith, left_shorter no_line_feed r))

-- neither white space nor a comment begins here
pub no_blank : (t : List ℕ) → left white t ≡ t → slashed t ≡ false → skip false t ≡ t
no_blank [] w e = refl
no_blank (b ∷ r) w e = go (white b) refl (λ h. omega (arith, left_shorter white r, ap length h))
  where
    go : (x : Bool) → white b ≡ x → (left white r ≡ b ∷ r → ⊥) → skip false (b ∷ r) ≡ b ∷ r
    go true k f = absurd (f (sym (rw (k) refl) ∙ w))
    go false k f = rw (k, e)
