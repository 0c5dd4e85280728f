-- What the grammar calls blank is what the reader goes past.
use mathlib.Core.Path.{◌≡◌, refl, ap, sym, ◌∙◌, subst}
use mathlib.Core.Bool.{Bool, true, false, ◌&&◌, not}
use mathlib.Core.List.{List, [], ◌∷◌, ◌++◌}
use Prim.Native.Nat.{ℕ}
use lib.Dec.{eqb}
use borrow.Author.Tests.{not-true, eqb-true, eqb-false, ne_eqb}
use Rattle.qasm.specs.Bytes.{white, every}
use Rattle.qasm.specs.Tokens.{slashed, no_line_feed, solid, Blank, empty, space, comment, Ends, closed, unclosed}
use Rattle.qasm.specs.Reading.{skip}
use Rattle.qasm.proofs.Truth.{and_left, and_right}

pub in_line : (b : ℕ) (r : List ℕ) → (b ≡ 10 → ⊥) → skip true (b ∷ r) ≡ skip true r
in_line b r ne = rw (ne_eqb b 10 ne)

pub at_space : (b : ℕ) (r : List ℕ) → white b ≡ true → skip false (b ∷ r) ≡ skip false r
at_space b r e = rw e

pub at_token : (b : ℕ) (r : List ℕ) → white b ≡ false → slashed (b ∷ r) ≡ false → skip false (b ∷ r) ≡ b ∷ r
at_token b r e s = rw (e, s)

-- ---- past a blank that is laid

line-run : (c after : List ℕ) → every no_line_feed c ≡ true → skip true (c ++ (10 ∷ after)) ≡ skip false after
line-run [] after e = refl
line-run (b ∷ c) after e = in_line b (c ++ (10 ∷ after)) (eqb-false b 10 (not-true (eqb b 10) (and_left (not (eqb b 10)) (every no_line_feed c) e)))
    ∙ line-run c after (and_right (not (eqb b 10)) (every no_line_feed c) e)

line-last : (c : List ℕ) → every no_line_feed c ≡ true → skip true c ≡ []
line-last [] e = refl
line-last (b ∷ c) e = in_line b c (eqb-false b 10 (not-true (eqb b 10) (and_left (not (eqb b 10)) (every no_line_feed c) e))) ∙ line-last c (and_right (not (eqb b 10)) (every no_line_feed c) e)

pub blank_skip : {text rest : List ℕ} → Blank text rest → skip false text ≡ skip false rest
blank_skip empty = refl
blank_skip (space {b = b} {text = text} e k) = at_space b text e ∙ blank_skip k
blank_skip (comment {after = after} c e t k) = ap (skip false) t ∙ line-run c after e ∙ blank_skip k

pub solid-skip : (text : List ℕ) → solid text ≡ true → skip false text ≡ text
solid-skip [] e = refl
solid-skip (b ∷ r) e = at_token b r (not-true (white b) (and_left (not (white b)) (not (slashed (b ∷ r))) e)) (not-true (slashed (b ∷ r)) (and_right (not (white b))
    (not (slashed (b ∷ r))) e))

pub ends-skip : {text : List ℕ} → Ends text → skip false text ≡ []
ends-skip (closed k) = blank_skip k
ends-skip (unclosed c k t e) = blank_skip k ∙ ap (skip false) t ∙ line-last c e

-- ---- what was gone past is blank

pub data Past : List ℕ → Type 0 where
  to_end : {text : List ℕ} → Ends text → skip false text ≡ [] → Past text
  to_token : {text : List ℕ} → Blank text (skip false text) → solid (skip false text) ≡ true → Past text

pub data InLine : List ℕ → Type 0 where
  line : {text : List ℕ} (c after : List ℕ) → every no_line_feed c ≡ true → text ≡ c ++ (10 ∷ after) → skip true text ≡ skip false after → Past after → InLine text
  last : {text : List ℕ} → every no_line_feed text ≡ true → skip true text ≡ [] → InLine text

longer : (b : ℕ) (r : List ℕ) → (b ≡ 10 → ⊥) → InLine r → InLine (b ∷ r)
longer b r ne (line c after e t s p) = line (b ∷ c) after (rw (ne_eqb b 10 ne) e) (ap (λ z. b ∷ z) t) (in_line b r ne ∙ s) p
longer b r ne (last e s) = last {text = b ∷ r} (rw (ne_eqb b 10 ne) e) (in_line b r ne ∙ s)

spaced : (b : ℕ) (r : List ℕ) → white b ≡ true → Past r → Past (b ∷ r)
spaced b r w (to_end (closed k) s) = to_end (closed (space w k)) (at_space b r w ∙ s)
spaced b r w (to_end (unclosed c k t e) s) = to_end (unclosed c (space w k) t e) (at_space b r w ∙ s)
spaced b r w (to_token k s) = to_token (subst (λ z. Blank (b ∷ r) z) (sym (at_space b r w)) (space w k)) (ap solid (at_space b r w) ∙ s)

-- a text that begins with two slashes, by what the line after them is
commented : (r : List ℕ) → white 47 ≡ false → InLine r → Past (47 ∷ 47 ∷ r)
commented r w (line c after e t s (to_end (closed k) f)) = to_end (closed (comment c e (ap (λ z. 47 ∷ 47 ∷ z) t) k)) (s ∙ f)
commented r w (line c after e t s (to_end (unclosed d k u f) g)) = to_end (unclosed d (comment c e (ap (λ z. 47 ∷ 47 ∷ z) t) k) u f) (s ∙ g)
commented r w (line c after e t s (to_token k f)) = to_token (subst (λ z. Blank (47 ∷ 47 ∷ r) z) (sym s) (comment c e (ap (λ z. 47 ∷ 47 ∷ z) t) k)) (ap solid s ∙ f)
commented r w (last e s) = to_end (unclosed r empty refl e) s

inside : (b : ℕ) (r : List ℕ) → InLine r → Past r → InLine (b ∷ r)
inside b r i p = go (eqb b 10) refl
  where
    go : (t : Bool) → eqb b 10 ≡ t → InLine (b ∷ r)
    go true e = line [] r refl (ap (λ z. z ∷ r) (eqb-true b 10 e)) (ap (λ z. skip true (z ∷ r)) (eqb-true b 10 e)) p
    go false e = longer b r (eqb-false b 10 e) i

token : (b : ℕ) (r : List ℕ) → white b ≡ false → slashed (b ∷ r) ≡ false → Past (b ∷ r)
token b r w s = to_token (subst (λ z. Blank (b ∷ r) z) (sym (at_token b r w s)) empty) (ap solid (at_token b r w s) ∙ both-not)
  where
    both-not : not (white b) && not (slashed (b ∷ r)) ≡ true
    both-not = rw (w, s)

outside : (b d : ℕ) (r : List ℕ) → Past (d ∷ r) → InLine r → Past (b ∷ d ∷ r)
outside b d r p i = go (white b) (slashed (b ∷ d ∷ r)) refl refl
  where
    go : (w s : Bool) → white b ≡ w → slashed (b ∷ d ∷ r) ≡ s → Past (b ∷ d ∷ r)
    go true s e f = spaced b (d ∷ r) e p
    go false false e f = token b (d ∷ r) e f
    go false true e f = subst (λ z. Past (z ∷ d ∷ r)) (sym (eqb-true b 47 (and_left (eqb b 47) (eqb d 47) f))) (subst (λ z. Past (47 ∷ z ∷ r)) (sym (eqb-true d 47
        (and_right (eqb b 47) (eqb d 47) f))) (commented r refl i))

outside_one : (b : ℕ) → Past (b ∷ [])
outside_one b = go (white b) refl
  where
    single : (t : Bool) → t && false ≡ false
    single true = refl
    single false = refl

    go : (w : Bool) → white b ≡ w → Past (b ∷ [])
    go true e = spaced b [] e (to_end (closed empty) refl)
    go false e = token b [] e (single (eqb b 47))

both : (text : List ℕ) → Past text × InLine text
both [] = (to_end (closed empty) refl, last refl refl)
both (b ∷ []) = (outside_one b, inside b [] (last refl refl) (to_end (closed empty) refl))
both (b ∷ d ∷ r) = (outside b d r (both (d ∷ r)).0 (both r).1, inside b (d ∷ r) (both (d ∷ r)).1 (both (d ∷ r)).0)

pub past : (text : List ℕ) → Past text
past text = (both text).0
