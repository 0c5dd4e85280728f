-- Registers, the statements before them, and gates by name, both ways.
use mathlib.Core.Path.{◌≡◌, refl, ap, ◌∙◌, subst}
use mathlib.Core.Bool.{Bool, true, false, cond, ◌&&◌, not}
use mathlib.Core.List.{List, [], ◌∷◌, map}
use Prim.Native.Nat.{ℕ, zero, suc, ◌≤◌, ◌<◌}
use native.Mathlib.Omega.{arith}
use lib.Dec.{leb}
use lib.ListN.{length, get_or}
use borrow.Author.Tests.{not-true, leb-true, le-leb}
use Rattle.qasm.specs.Bytes.{letter, lower_case, word_byte, begins, every, same_bytes, among}
use Rattle.qasm.specs.Tokens.{Token, word, number, sign, Laid}
use Rattle.qasm.specs.Names.{is_name, opening, closing, semicolon, version, library, Named, gate_names, reserved, word_openqasm, word_include}
use Rattle.qasm.specs.Text.{Record, bit}
use Rattle.qasm.specs.Reading.{got, failed, done, and_then, take_sign, take_word, take_this, take_index, take_version, take_include, operands_by, by_name, gate_by, Register, register, sized, take_declared, take_register}
use Rattle.qasm.proofs.Tries.{only}
use Rattle.qasm.proofs.Truth.{and_left, and_right}
use Rattle.qasm.proofs.Grammar.Phrases.{Took, took_then, took-sign, took_index, same_is, Through, through, laid-sign, laid_word, laid_this}
use Rattle.qasm.proofs.Grammar.Operands.{Spelt, spelt_this, spelt-word, laid_index, Signed, signed}

-- ---- names

begins-letter : (w : List ℕ) → begins lower_case w ≡ true → begins letter w ≡ true
begins-letter [] e = e
begins-letter (b ∷ w) e = rw e

name_rest : (w : List ℕ) → is_name w ≡ true → begins lower_case w && every word_byte w ≡ true
name_rest w e = and_left (begins lower_case w && every word_byte w) (not (among w (map (λ g. g.name) gate_names))) (and_left
    (begins lower_case w && every word_byte w && not (among w (map (λ g. g.name) gate_names))) (not (among w reserved)) e)

pub name_spelt : (w : List ℕ) → is_name w ≡ true → Spelt w
name_spelt w e = record {
  first = begins-letter w (and_left (begins lower_case w) (every word_byte w) (name_rest w e));
  bytes = and_right (begins lower_case w)
      (every word_byte w) (name_rest w e);
}

-- ---- registers

pub took-register : (kw other w : List ℕ) (n : ℕ) (ts : List Token) (text rest : List ℕ) → Spelt kw → is_name w ≡ true → same_bytes w other ≡ false → n < 4294967296 → 1 ≤ n
    → Laid (word kw ∷ bit w n (semicolon ∷ ts)) text rest → Took (take_register kw other) (register w n) ts text rest
unfolding take_register
took-register kw other w n ts text rest s nm ot f h l = took_then (λ u r. and_then (take_word r) (λ w r. take_declared w (not (same_bytes w other)) r)) (spelt_this kw
    (bit w n (semicolon ∷ ts)) text rest s l)
    (λ t m. took_then (λ w r. take_declared w (not (same_bytes w other)) r) (spelt-word w (opening ∷ number n ∷ closing ∷ semicolon ∷ ts) t rest (name_spelt w nm) m)
    (λ t m. opened (is_name w && not (same_bytes w other)) (fine (is_name w) (same_bytes w other) nm ot) t (took_then (λ v r. sized w v r) (took_index n (semicolon ∷ ts) t rest f m)
    (λ t m. closed (leb 1 n) (le-leb 1 n h) t (took_then (λ u r. got (register w n) r) (took-sign 59 [] ts t rest (λ x. refl) m) (λ t m. record { after = t; reads = refl; laid = m }))))))
  where
    fine : (x y : Bool) → x ≡ true → y ≡ false → x && not y ≡ true
    fine x y p q = rw (p, q)

    opened : (x : Bool) → x ≡ true → (t : List ℕ) → Took (λ z. and_then (take_index z) (λ v r. sized w v r)) (register w n) ts t rest
        → Took (λ z. cond x (and_then (take_index z) (λ v r. sized w v r)) failed) (register w n) ts t rest
    opened x e t k = rw e k

    closed : (x : Bool) → x ≡ true → (t : List ℕ) → Took (λ z. and_then (take_sign (59 ∷ []) z) (λ u r. got (register w n) r)) (register w n) ts t rest
        → Took (λ z. cond x (and_then (take_sign (59 ∷ []) z) (λ u r. got (register w n) r)) failed) (register w n) ts t rest
    closed x e t k = rw e k

-- ---- the header's two lines

opener : (kw : List ℕ) (b : ℕ) (s : List ℕ) (ts : List Token) (text after rest : List ℕ)
    → and_then (take_this kw text) (λ u r. and_then (take_sign (b ∷ s) r) (λ u r. take_sign (59 ∷ []) r)) ≡ got done after → Laid ts after rest
    → Laid (word kw ∷ sign (b ∷ s) ∷ semicolon ∷ ts) text rest
opener kw b s ts text after rest e l = one (through (take_this kw text) (λ u r. and_then (take_sign (b ∷ s) r) (λ u r. take_sign (59 ∷ []) r)) done after e)
  where
    two : (t : List ℕ) → take_this kw text ≡ got done t → Signed (b ∷ s) t (λ r. take_sign (59 ∷ []) r) done after → Laid (word kw ∷ sign (b ∷ s) ∷ semicolon ∷ ts) text rest
    two t a p = laid_this kw (sign (b ∷ s) ∷ semicolon ∷ ts) text t rest a (laid-sign b s (semicolon ∷ ts) t p.mid rest p.first (laid-sign 59 [] ts p.mid after rest p.second l))

    one : Through (take_this kw text) (λ u r. and_then (take_sign (b ∷ s) r) (λ u r. take_sign (59 ∷ []) r)) done after → Laid (word kw ∷ sign (b ∷ s) ∷ semicolon ∷ ts) text rest
    one p = two p.mid (p.first ∙ ap (λ u. got u p.mid) (only p.value)) (signed (b ∷ s) p.mid (λ r. take_sign (59 ∷ []) r) done after p.second)

pub laid-version : (ts : List Token) (text after rest : List ℕ) → take_version text ≡ got done after → Laid ts after rest → Laid (word word_openqasm ∷ version ∷ semicolon ∷ ts) text rest
unfolding take_version
laid-version ts text after rest e l = opener word_openqasm 50 (46 ∷ 48 ∷ []) ts text after rest e l

pub laid_include : (ts : List Token) (text after rest : List ℕ) → take_include text ≡ got done after → Laid ts after rest → Laid (word word_include ∷ library ∷ semicolon ∷ ts) text rest
unfolding take_include
laid_include ts text after rest e l = opener word_include 34 (113 ∷ 101 ∷ 108 ∷ 105 ∷ 98 ∷ 49 ∷ 46 ∷ 105 ∷ 110 ∷ 99 ∷ 34 ∷ []) ts text after rest e l

-- ---- gates by name

-- a name of the table, and what follows it
pub record Found (gs : List Named) (w q t : List ℕ) (r : Record) (after : List ℕ) : Type 0 where
  pub at : ℕ
  pub g : Named
  pub is : get_or gs at g ≡ g
  pub below : at < length gs
  pub name : w ≡ g.name
  pub reads : operands_by g.qubits q g.kind t ≡ got r after

pub found : (gs : List Named) (w q t : List ℕ) (r : Record) (after : List ℕ) → by_name gs w q t ≡ got r after → Found gs w q t r after
found [] w q t r after e = absurd (never e)
  where
    never : failed ≡ got r after → ⊥
    never e = let z : ◌≡◌ {A = ℕ} 0 1 = cc in omega arith
found (g ∷ gs) w q t r after e = go (same_bytes w g.name) refl e (λ k. found gs w q t r after k)
  where
    later : Found gs w q t r after → Found (g ∷ gs) w q t r after
    later f = record { at = suc f.at; g = f.g; is = f.is; below = more f.below; name = f.name; reads = f.reads }
      where
        more : f.at < length gs → suc f.at < suc (length gs)
        more h = omega arith

    go : (x : Bool) → same_bytes w g.name ≡ x → cond x (operands_by g.qubits q g.kind t) (by_name gs w q t) ≡ got r after → (by_name gs w q t ≡ got r after
        → Found gs w q t r after) → Found (g ∷ gs) w q t r after
    go true s k f = record { at = 0; g = g; is = refl; below = omega arith; name = same_is w g.name s; reads = k }
    go false s k f = later (f k)

-- and the other way, over the whole table
pub record Good (g : Named) : Type 0 where
  pub spelt : Spelt g.name
  pub reads : (q c t : List ℕ) → gate_by q c g.name t ≡ operands_by g.qubits q g.kind t

abbrev Each : (Named → Type 0) → List Named → Type 0
Each P [] = Unit {0}
Each P (g ∷ gs) = P g × Each P gs

each_at : (gs : List Named) (k : ℕ) (d : Named) → Each Good gs → k < length gs → Good (get_or gs k d)
each_at [] k d e h = absurd (omega arith)
each_at (g ∷ gs) zero d e h = e.0
each_at (g ∷ gs) (suc k) d e h = each_at gs k d e.1 (omega arith)

good : (g : Named) → begins letter g.name ≡ true → every word_byte g.name ≡ true → ((q c t : List ℕ) → gate_by q c g.name t ≡ operands_by g.qubits q g.kind t) → Good g
good g a b r = record { spelt = record { first = a; bytes = b }; reads = r }

infixr 5 ◌also◌
◌also◌ : {P Q : Type 0} → P → Q → P × Q
p also q = (p, q)

-- every name of the table is a word, and leads to its own operands
all_good : Each Good gate_names
unfolding gate_by
all_good =
    good _ refl refl (λ q c t. refl) also good _ refl refl (λ q c t. refl)
    also good _ refl refl (λ q c t. refl) also good _ refl refl (λ q c t. refl)
    also good _ refl refl (λ q c t. refl) also good _ refl refl (λ q c t. refl)
    also good _ refl refl (λ q c t. refl) also good _ refl refl (λ q c t. refl)
    also good _ refl refl (λ q c t. refl) also good _ refl refl (λ q c t. refl)
    also good _ refl refl (λ q c t. refl) also good _ refl refl (λ q c t. refl)
    also tt

pub gate_good : (k : ℕ) (g : Named) → get_or gate_names k g ≡ g → k < 12 → Good g
gate_good k g e h = subst Good e (each_at gate_names k g all_good h)

-- what was read of a register was laid
pub record Declared (kw other : List ℕ) (x : Register) (text after : List ℕ) : Type 0 where
  pub named : is_name x.name ≡ true
  pub apart : same_bytes x.name other ≡ false
  pub fits : x.size < 4294967296
  pub some : 1 ≤ x.size
  pub tokens : (ts : List Token) (rest : List ℕ) → Laid ts after rest → Laid (word kw ∷ bit x.name x.size (semicolon ∷ ts)) text rest

module _ (kw other : List ℕ) (x : Register) (text after : List ℕ) where
  never : failed ≡ got x after → ⊥
  never e = let z : ◌≡◌ {A = ℕ} 0 1 = cc in omega arith

  is_it : (y : Register) (t : List ℕ) → got y t ≡ got x after → y ≡ x
  is_it y t e = cc

  is_left : (y : Register) (t : List ℕ) → got y t ≡ got x after → t ≡ after
  is_left y t e = cc

  module _ (t : List ℕ) (a : take_this kw text ≡ got done t) (w z : List ℕ) (b : take_word t ≡ got w z) (good : is_name w && not (same_bytes w other) ≡ true) where
    four : (v : ℕ) (y : List ℕ) → take_index z ≡ got v y → leb 1 v ≡ true → Signed (59 ∷ []) y (λ r. got (register w v) r) x after → Declared kw other x text after
    four v y d h p = subst (λ r. Declared kw other r text after) (is_it (register w v) p.mid p.second) (record {
      named = and_left (is_name w) (not (same_bytes w other)) good;
      apart = not-true (same_bytes w other) (and_right (is_name w) (not (same_bytes w other)) good);
      fits = (laid_index v z y d).fits;
      some = leb-true 1 v h;
      tokens = λ ts rest l. laid_this kw (bit w v (semicolon ∷ ts)) text t rest a (laid_word w (opening ∷ number v ∷ closing ∷ semicolon ∷ ts) t z rest b
          ((laid_index v z y d).tokens (semicolon ∷ ts) rest (laid-sign 59 [] ts y after rest (p.first ∙ ap (got done) (is_left (register w v) p.mid p.second)) l)));
    })

    three : (v : ℕ) (y : List ℕ) → take_index z ≡ got v y → (h : Bool) → leb 1 v ≡ h
        → cond h (and_then (take_sign (59 ∷ []) y) (λ u r. got (register w v) r)) failed ≡ got x after → Declared kw other x text after
    three v y d true h e = four v y d h (signed (59 ∷ []) y (λ r. got (register w v) r) x after e)
    three v y d false h e = absurd (never e)

    two : and_then (take_index z) (λ v r. sized w v r) ≡ got x after → Declared kw other x text after
    two e = go (through (take_index z) (λ v r. sized w v r) x after e)
      where
        go : Through (take_index z) (λ v r. sized w v r) x after → Declared kw other x text after
        go p = three p.value p.mid p.first (leb 1 p.value) refl p.second

  one : (t : List ℕ) → take_this kw text ≡ got done t → (w z : List ℕ) → take_word t ≡ got w z → (y : Bool) → is_name w && not (same_bytes w other) ≡ y
      → cond y (and_then (take_index z) (λ v r. sized w v r)) failed ≡ got x after → Declared kw other x text after
  one t a w z b true k e = two t a w z b k e
  one t a w z b false k e = absurd (never e)

  pub laid-register : take_register kw other text ≡ got x after → Declared kw other x text after
  unfolding take_register
  laid-register e = first (through (take_this kw text) (λ u r. and_then (take_word r) (λ w r. take_declared w (not (same_bytes w other)) r)) x after e)
    where
      second : (t : List ℕ) → take_this kw text ≡ got done t → Through (take_word t) (λ w r. take_declared w (not (same_bytes w other)) r) x after → Declared kw other x text after
      second t a p = one t a p.value p.mid p.first (is_name p.value && not (same_bytes p.value other)) refl p.second

      first : Through (take_this kw text) (λ u r. and_then (take_word r) (λ w r. take_declared w (not (same_bytes w other)) r)) x after → Declared kw other x text after
      first p = second p.mid (p.first ∙ ap (λ u. got u p.mid) (only p.value)) (through (take_word p.mid) (λ w r. take_declared w (not (same_bytes w other)) r) x after p.second)
