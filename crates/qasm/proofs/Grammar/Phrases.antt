-- Tokens one after another: signs, words, numbers and indices, both ways.
use mathlib.Core.Path.{◌≡◌, refl, ap, ap₂, sym, ◌∙◌}
use mathlib.Core.Bool.{Bool, true, false, cond}
use mathlib.Core.List.{List, [], ◌∷◌, ◌++◌}
use Prim.Native.Nat.{ℕ, ◌<◌}
use native.Mathlib.Omega.{arith}
use lib.Dec.{eqb}
use borrow.Author.Tests.{eqb-true, eq-eqb}
use Rattle.qasm.specs.Bytes.{letter, word_byte, every, same_bytes}
use Rattle.qasm.specs.Tokens.{solid, Token, word, number, sign, Laid, next}
use Rattle.qasm.specs.Names.{opening, closing, semicolon, version, word_openqasm}
use Rattle.qasm.specs.Text.{bit}
use Rattle.qasm.specs.Reading.{Try, got, failed, done, and_then, take_sign, take_word, take_number, take_this, take_index, take_bit, take_version}
use Rattle.qasm.proofs.Truth.{and_left, and_right}
use Rattle.qasm.proofs.Tries.{then-got, then-failed}
use Rattle.qasm.proofs.Grammar.Tokens.{sign_complete, sign_sound, word_complete, word_sound, number_complete, number_sound}

-- ---- what is laid is read

pub record Took {A : Type 0} (P : List ℕ → Try A) (a : A) (ts : List Token) (text rest : List ℕ) : Type 0 where
  pub after : List ℕ
  pub reads : P text ≡ got a after
  pub laid : Laid ts after rest

pub took_then : {A B : Type 0} {P : List ℕ → Try A} {a : A} {b : B} {ts us : List Token} {text rest : List ℕ} (K : A → List ℕ → Try B)
    → Took P a ts text rest → ((after : List ℕ) → Laid ts after rest → Took (K a) b us after rest) → Took (λ t. and_then (P t) K) b us text rest
took_then {a = a} K t f = record {
  after = (f t.after t.laid).after;
  reads = ap (λ z. and_then z K) t.reads ∙ then-got a t.after K
      ∙ (f t.after t.laid).reads;
  laid = (f t.after t.laid).laid;
}

pub took-sign : (b : ℕ) (s : List ℕ) (ts : List Token) (text rest : List ℕ) → ((x : List ℕ) → solid ((b ∷ s) ++ x) ≡ true) → Laid (sign (b ∷ s) ∷ ts) text rest
    → Took (take_sign (b ∷ s)) done ts text rest
took-sign b s ts text rest k (next {here = here} {after = after} bl e r l) = record { after = after; reads = sign_complete (b ∷ s) text here after bl e (k after); laid = l }

pub took_number : (v : ℕ) (ts : List Token) (text rest : List ℕ) → v < 4294967296 → Laid (number v ∷ ts) text rest → Took take_number v ts text rest
took_number v ts text rest h (next {here = here} {after = after} bl e r l) = record { after = after; reads = number_complete v text here after h bl e r; laid = l }

pub took-word : (b : ℕ) (w : List ℕ) (ts : List Token) (text rest : List ℕ) → letter b ≡ true → every word_byte (b ∷ w) ≡ true → Laid (word (b ∷ w) ∷ ts) text rest
    → Took take_word (b ∷ w) ts text rest
took-word b w ts text rest h k (next {here = here} {after = after} bl e r l) = record { after = after; reads = word_complete b w text here after h k bl e r; laid = l }

pub same_self : (w : List ℕ) → same_bytes w w ≡ true
same_self [] = refl
same_self (b ∷ w) = rw (eq-eqb b b refl) (same_self w)

pub took_this : (b : ℕ) (w : List ℕ) (ts : List Token) (text rest : List ℕ) → letter b ≡ true → every word_byte (b ∷ w) ≡ true → Laid (word (b ∷ w) ∷ ts) text rest
    → Took (take_this (b ∷ w)) done ts text rest
unfolding take_this
took_this b w ts text rest h k l = took_then (λ v r. cond (same_bytes v (b ∷ w)) (got done r) failed) (took-word b w ts text rest h k l)
    (λ after m. record { after = after; reads = pick (same_bytes (b ∷ w) (b ∷ w)) (same_self (b ∷ w)) after; laid = m })
  where
    pick : (x : Bool) → x ≡ true → (t : List ℕ) → cond x (got done t) failed ≡ got done t
    pick x e t = rw e

pub took_index : (v : ℕ) (ts : List Token) (text rest : List ℕ) → v < 4294967296 → Laid (opening ∷ number v ∷ closing ∷ ts) text rest → Took take_index v ts text rest
unfolding take_index
took_index v ts text rest h l = took_then (λ u r. and_then (take_number r) (λ v r. and_then (take_sign (93 ∷ []) r) (λ u r. got v r))) (took-sign 91 []
    (number v ∷ closing ∷ ts) text rest (λ x. refl) l)
    (λ t m. took_then (λ v r. and_then (take_sign (93 ∷ []) r) (λ u r. got v r)) (took_number v (closing ∷ ts) t rest h m)
    (λ t m. took_then (λ u r. got v r) (took-sign 93 [] ts t rest (λ x. refl) m)
    (λ t m. record { after = t; reads = refl; laid = m })))

pub took-bit : (b : ℕ) (w : List ℕ) (v : ℕ) (ts : List Token) (text rest : List ℕ) → letter b ≡ true → every word_byte (b ∷ w) ≡ true → v < 4294967296
    → Laid (bit (b ∷ w) v ts) text rest → Took (take_bit (b ∷ w)) v ts text rest
unfolding take_bit
took-bit b w v ts text rest h k f l = took_then (λ u r. take_index r) (took_this b w (opening ∷ number v ∷ closing ∷ ts) text rest h k l) (λ t m. took_index v ts t rest f m)

pub took-version : (ts : List Token) (text rest : List ℕ) → Laid (word word_openqasm ∷ version ∷ semicolon ∷ ts) text rest → Took take_version done ts text rest
unfolding take_version
took-version ts text rest l = took_then (λ u r. and_then (take_sign (50 ∷ 46 ∷ 48 ∷ []) r) (λ u r. take_sign (59 ∷ []) r)) (took_this 79
    (80 ∷ 69 ∷ 78 ∷ 81 ∷ 65 ∷ 83 ∷ 77 ∷ []) (version ∷ semicolon ∷ ts) text rest refl refl l)
    (λ t m. took_then (λ u r. take_sign (59 ∷ []) r) (took-sign 50 (46 ∷ 48 ∷ []) (semicolon ∷ ts) t rest (λ x. refl) m)
    (λ t m. took-sign 59 [] ts t rest (λ x. refl) m))

-- ---- what was read was laid

pub record Through {A B : Type 0} (x : Try A) (K : A → List ℕ → Try B) (b : B) (after : List ℕ) : Type 0 where
  pub value : A
  pub mid : List ℕ
  pub first : x ≡ got value mid
  pub second : K value mid ≡ got b after

pub through : {A B : Type 0} (x : Try A) (K : A → List ℕ → Try B) (b : B) (after : List ℕ) → and_then x K ≡ got b after → Through x K b after
through (got a t) K b after e = record { value = a; mid = t; first = refl; second = sym (then-got a t K) ∙ e }
through failed K b after e = absurd (never b after (sym (then-failed K) ∙ e))
  where
    never : {B : Type 0} (b : B) (after : List ℕ) → failed ≡ got b after → ⊥
    never b after e = let z : ◌≡◌ {A = ℕ} 0 1 = cc in omega arith

pub laid-sign : (b : ℕ) (s : List ℕ) (ts : List Token) (text after rest : List ℕ) → take_sign (b ∷ s) text ≡ got done after → Laid ts after rest → Laid (sign (b ∷ s) ∷ ts) text rest
laid-sign b s ts text after rest e l = next (sign_sound b s text after e) refl refl l

pub laid-number : (v : ℕ) (ts : List Token) (text after rest : List ℕ) → take_number text ≡ got v after → Laid ts after rest → Laid (number v ∷ ts) text rest
laid-number v ts text after rest e l = next (number_sound text v after e).laid refl (number_sound text v after e).stops l

pub laid_word : (w : List ℕ) (ts : List Token) (text after rest : List ℕ) → take_word text ≡ got w after → Laid ts after rest → Laid (word w ∷ ts) text rest
laid_word w ts text after rest e l = next (word_sound text w after e).laid refl (word_sound text w after e).stops l

pub same_is : (v w : List ℕ) → same_bytes v w ≡ true → v ≡ w
same_is [] [] e = refl
same_is [] (b ∷ w) e = absurd (let z : ◌≡◌ {A = ℕ} 0 1 = cc in omega arith)
same_is (a ∷ v) [] e = absurd (let z : ◌≡◌ {A = ℕ} 0 1 = cc in omega arith)
same_is (a ∷ v) (b ∷ w) e = ap₂ (λ x y. x ∷ y) (eqb-true a b (and_left (eqb a b) (same_bytes v w) e)) (same_is v w (and_right (eqb a b) (same_bytes v w) e))

pub laid_this : (w : List ℕ) (ts : List Token) (text after rest : List ℕ) → take_this w text ≡ got done after → Laid ts after rest → Laid (word w ∷ ts) text rest
unfolding take_this
laid_this w ts text after rest e l = go (through (take_word text) (λ v r. cond (same_bytes v w) (got done r) failed) done after e)
  where
    never : failed ≡ got done after → ⊥
    never e = let z : ◌≡◌ {A = ℕ} 0 1 = cc in omega arith

    inner : (t : List ℕ) → got done t ≡ got done after → t ≡ after
    inner t e = cc

    pick : (v t : List ℕ) → take_word text ≡ got v t → (x : Bool) → same_bytes v w ≡ x → cond x (got done t) failed ≡ got done after → Laid (word w ∷ ts) text rest
    pick v t f true s k = laid_word w ts text after rest (f ∙ ap₂ got (same_is v w s) (inner t k)) l
    pick v t f false s k = absurd (never k)

    go : Through (take_word text) (λ v r. cond (same_bytes v w) (got done r) failed) done after → Laid (word w ∷ ts) text rest
    go p = pick p.value p.mid p.first (same_bytes p.value w) refl p.second
