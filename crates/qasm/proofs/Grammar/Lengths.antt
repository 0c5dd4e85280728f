-- Blanks twice are blanks once, and what is laid gets shorter.
use mathlib.Core.Path.{◌≡◌, ap, sym, ◌∙◌}
use mathlib.Core.Bool.{false}
use mathlib.Core.List.{List, ◌∷◌, ◌++◌}
use Prim.Native.Nat.{ℕ, suc, ◌+◌, ◌≤◌, ◌<◌}
use native.Mathlib.Nat.{le_refl}
use native.Mathlib.Omega.{arith}
use lib.ListN.{length, length-append}
use Rattle.qasm.specs.Tokens.{Blank, empty, space, comment, Token, spelled, Laid, nothing, next}
use Rattle.qasm.specs.Reading.{blank, skip, word_from, take_word, take_this, take_gate, take_version, take_include, take_register}
use Rattle.qasm.proofs.Grammar.Blanks.{Past, to_end, to_token, past, solid-skip}

pub blank-twice : (text : List ℕ) → blank (blank text) ≡ blank text
unfolding blank
blank-twice text = go (past text)
  where
    go : Past text → skip false (skip false text) ≡ skip false text
    go (to_end k s) = ap (skip false) s ∙ sym s
    go (to_token k s) = solid-skip (skip false text) s

pub word_blank : (text : List ℕ) → take_word (blank text) ≡ take_word text
unfolding take_word
word_blank text = ap word_from (blank-twice text)

pub this-blank : (w text : List ℕ) → take_this w (blank text) ≡ take_this w text
unfolding take_this
this-blank w text = rw (word_blank text)

pub gate-blank : (q c text : List ℕ) → take_gate q c (blank text) ≡ take_gate q c text
unfolding take_gate
gate-blank q c text = rw (word_blank text)

pub version-blank : (text : List ℕ) → take_version (blank text) ≡ take_version text
unfolding take_version
version-blank text = rw (this-blank _ text)

pub include-blank : (text : List ℕ) → take_include (blank text) ≡ take_include text
unfolding take_include
include-blank text = rw (this-blank _ text)

pub register-blank : (kw other text : List ℕ) → take_register kw other (blank text) ≡ take_register kw other text
unfolding take_register
register-blank kw other text = rw (this-blank kw text)

pub blank-shorter : {text rest : List ℕ} → Blank text rest → length rest ≤ length text
blank-shorter {rest = rest} empty = le_refl (length rest)
blank-shorter (space {text = text} {rest = rest} e k) = up (blank-shorter k)
  where
    up : length rest ≤ length text → length rest ≤ suc (length text)
    up h = omega arith
blank-shorter (comment {text = text} {after = after} {rest = rest} c e t k) = up (blank-shorter k) (ap length t) (length-append c (10 ∷ after))
  where
    up : length rest ≤ length after → length text ≡ suc (suc (length (c ++ (10 ∷ after)))) → length (c ++ (10 ∷ after)) ≡ length c + suc (length after) → length rest ≤ length text
    up h a b = omega arith

pub laid_shorter : {ts : List Token} {text rest : List ℕ} → Laid ts text rest → length rest ≤ length text
laid_shorter {rest = rest} nothing = le_refl (length rest)
laid_shorter (next {t = t} {text = text} {here = here} {after = after} {rest = rest} b e r l) = up (blank-shorter b) (ap length e) (length-append (spelled t) after) (laid_shorter l)
  where
    up : length here ≤ length text → length here ≡ length (spelled t ++ after) → length (spelled t ++ after) ≡ length (spelled t) + length after
        → length rest ≤ length after → length rest ≤ length text
    up a b c d = omega arith

pub laid_strictly : {ts : List Token} {text rest : List ℕ} (t : Token) → 1 ≤ length (spelled t) → Laid (t ∷ ts) text rest → length rest < length text
laid_strictly t h (next {text = text} {here = here} {after = after} {rest = rest} b e r l) = up (blank-shorter b) (ap length e) (length-append (spelled t) after) (laid_shorter l)
  where
    up : length here ≤ length text → length here ≡ length (spelled t ++ after) → length (spelled t ++ after) ≡ length (spelled t) + length after
        → length rest ≤ length after → length rest < length text
    up a b c d = omega arith
