-- Bits, the include, and the operands of gates, both ways.
use mathlib.Core.Path.{◌≡◌, refl, ap, ◌∙◌}
use mathlib.Core.Bool.{true, false}
use mathlib.Core.List.{List, [], ◌∷◌}
use Prim.Native.Nat.{ℕ, ◌<◌}
use native.Mathlib.Omega.{arith}
use Rattle.qasm.specs.Bytes.{letter, word_byte, begins, every}
use Rattle.qasm.specs.Tokens.{Token, word, number, sign, Laid}
use Rattle.qasm.specs.Names.{opening, closing, semicolon, comma, arrow, library, word_include}
use Rattle.qasm.specs.Text.{Record, record_of, bit}
use Rattle.qasm.specs.Reading.{Try, got, done, and_then, take_sign, take_word, take_number, take_this, take_index, take_bit, take_include, take_end, take_one, take_two, take_three, take_measure}
use Rattle.qasm.proofs.Tries.{got-value, got-left, only}
use Rattle.qasm.proofs.Grammar.Tokens.{number_sound}
use Rattle.qasm.proofs.Grammar.Phrases.{Took, took_then, took-sign, took-word, took_this, took_index, Through, through, laid-sign, laid-number, laid_this}

-- ---- what is laid is read

-- a word that begins with a letter
pub record Spelt (w : List ℕ) : Type 0 where
  pub first : begins letter w ≡ true
  pub bytes : every word_byte w ≡ true

pub spelt_this : (w : List ℕ) (ts : List Token) (text rest : List ℕ) → Spelt w → Laid (word w ∷ ts) text rest → Took (take_this w) done ts text rest
spelt_this [] ts text rest s l = absurd (no s.first)
  where
    no : false ≡ true → ⊥
    no e = let z : ◌≡◌ {A = ℕ} 0 1 = cc in omega arith
spelt_this (b ∷ w) ts text rest s l = took_this b w ts text rest s.first s.bytes l

pub spelt-word : (w : List ℕ) (ts : List Token) (text rest : List ℕ) → Spelt w → Laid (word w ∷ ts) text rest → Took take_word w ts text rest
spelt-word [] ts text rest s l = absurd (no s.first)
  where
    no : false ≡ true → ⊥
    no e = let z : ◌≡◌ {A = ℕ} 0 1 = cc in omega arith
spelt-word (b ∷ w) ts text rest s l = took-word b w ts text rest s.first s.bytes l

pub spelt-bit : (w : List ℕ) (v : ℕ) (ts : List Token) (text rest : List ℕ) → Spelt w → v < 4294967296 → Laid (bit w v ts) text rest → Took (take_bit w) v ts text rest
unfolding take_bit
spelt-bit w v ts text rest s f l = took_then (λ u r. take_index r) (spelt_this w (opening ∷ number v ∷ closing ∷ ts) text rest s l) (λ t m. took_index v ts t rest f m)

pub took_include : (ts : List Token) (text rest : List ℕ) → Laid (word word_include ∷ library ∷ semicolon ∷ ts) text rest → Took take_include done ts text rest
unfolding take_include
took_include ts text rest l = took_then _ (spelt_this word_include (library ∷ semicolon ∷ ts) text rest (record { first = refl; bytes = refl }) l)
    (λ t m. took_then _ (took-sign 34 (113 ∷ 101 ∷ 108 ∷ 105 ∷ 98 ∷ 49 ∷ 46 ∷ 105 ∷ 110 ∷ 99 ∷ 34 ∷ []) (semicolon ∷ ts) t rest (λ x. refl) m)
    (λ t m. took-sign 59 [] ts t rest (λ x. refl) m))

pub took_end : (g : Record) (ts : List Token) (text rest : List ℕ) → Laid (semicolon ∷ ts) text rest → Took (take_end g) g ts text rest
unfolding take_end
took_end g ts text rest l = took_then (λ u r. got g r) (took-sign 59 [] ts text rest (λ x. refl) l) (λ t m. record { after = t; reads = refl; laid = m })

module _ (q : List ℕ) (s : Spelt q) (ts : List Token) (text rest : List ℕ) where
  pub took_one : (k i : ℕ) → i < 4294967296 → Laid (bit q i (semicolon ∷ ts)) text rest → Took (take_one q k) (record_of k i 0 0) ts text rest
  unfolding take_one
  took_one k i f l = took_then (λ i r. take_end (record_of k i 0 0) r) (spelt-bit q i (semicolon ∷ ts) text rest s f l) (λ t m. took_end (record_of k i 0 0) ts t rest m)

  pub took_two : (k i j : ℕ) → i < 4294967296 → j < 4294967296 → Laid (bit q i (comma ∷ bit q j (semicolon ∷ ts))) text rest → Took (take_two q k) (record_of k i j 0) ts text rest
  unfolding take_two
  took_two k i j f g l = took_then (λ i r. and_then (take_sign (44 ∷ []) r) (λ u r. and_then (take_bit q r) (λ j r. take_end (record_of k i j 0) r))) (spelt-bit q i
      (comma ∷ bit q j (semicolon ∷ ts)) text rest s f l)
      (λ t m. took_then (λ u r. and_then (take_bit q r) (λ j r. take_end (record_of k i j 0) r)) (took-sign 44 [] (bit q j (semicolon ∷ ts)) t rest (λ x. refl) m)
      (λ t m. took_then (λ j r. take_end (record_of k i j 0) r) (spelt-bit q j (semicolon ∷ ts) t rest s g m)
      (λ t m. took_end (record_of k i j 0) ts t rest m)))

  pub took_three : (k i j l : ℕ) → i < 4294967296 → j < 4294967296 → l < 4294967296 → Laid (bit q i (comma ∷ bit q j (comma ∷ bit q l (semicolon ∷ ts)))) text rest
      → Took (take_three q k) (record_of k i j l) ts text rest
  unfolding take_three
  took_three k i j l f g h d = took_then (λ i r. and_then (take_sign (44 ∷ []) r) (λ u r. and_then (take_bit q r) (λ j r. and_then (take_sign (44 ∷ []) r) (λ u r. and_then
      (take_bit q r) (λ l r. take_end (record_of k i j l) r))))) (spelt-bit q i (comma ∷ bit q j (comma ∷ bit q l (semicolon ∷ ts))) text rest s f d)
      (λ t m. took_then (λ u r. and_then (take_bit q r) (λ j r. and_then (take_sign (44 ∷ []) r) (λ u r. and_then (take_bit q r) (λ l r. take_end (record_of k i j l) r))))
      (took-sign 44 [] (bit q j (comma ∷ bit q l (semicolon ∷ ts))) t rest (λ x. refl) m)
      (λ t m. took_then (λ j r. and_then (take_sign (44 ∷ []) r) (λ u r. and_then (take_bit q r) (λ l r. take_end (record_of k i j l) r))) (spelt-bit q j (comma ∷ bit q l
      (semicolon ∷ ts)) t rest s g m)
      (λ t m. took_then (λ u r. and_then (take_bit q r) (λ l r. take_end (record_of k i j l) r)) (took-sign 44 [] (bit q l (semicolon ∷ ts)) t rest (λ x. refl) m)
      (λ t m. took_then (λ l r. take_end (record_of k i j l) r) (spelt-bit q l (semicolon ∷ ts) t rest s h m)
      (λ t m. took_end (record_of k i j l) ts t rest m)))))

  pub took_measure : (c : List ℕ) → Spelt c → (i j : ℕ) → i < 4294967296 → j < 4294967296 → Laid (bit q i (arrow ∷ bit c j (semicolon ∷ ts))) text rest
      → Took (take_measure q c) (record_of 12 i j 0) ts text rest
  unfolding take_measure
  took_measure c z i j f g l = took_then (λ i r. and_then (take_sign (45 ∷ 62 ∷ []) r) (λ u r. and_then (take_bit c r) (λ j r. take_end (record_of 12 i j 0) r)))
      (spelt-bit q i (arrow ∷ bit c j (semicolon ∷ ts)) text rest s f l)
      (λ t m. took_then (λ u r. and_then (take_bit c r) (λ j r. take_end (record_of 12 i j 0) r)) (took-sign 45 (62 ∷ []) (bit c j (semicolon ∷ ts)) t rest (λ x. refl) m)
      (λ t m. took_then (λ j r. take_end (record_of 12 i j 0) r) (spelt-bit c j (semicolon ∷ ts) t rest z g m)
      (λ t m. took_end (record_of 12 i j 0) ts t rest m)))

-- ---- what was read was laid

-- past a sign
pub record Signed {B : Type 0} (s text : List ℕ) (K : List ℕ → Try B) (b : B) (after : List ℕ) : Type 0 where
  pub mid : List ℕ
  pub first : take_sign s text ≡ got done mid
  pub second : K mid ≡ got b after

pub signed : {B : Type 0} (s text : List ℕ) (K : List ℕ → Try B) (b : B) (after : List ℕ) → and_then (take_sign s text) (λ u r. K r) ≡ got b after → Signed s text K b after
signed s text K b after e = go (through (take_sign s text) (λ u r. K r) b after e)
  where
    go : Through (take_sign s text) (λ u r. K r) b after → Signed s text K b after
    go p = record { mid = p.mid; first = p.first ∙ ap (λ u. got u p.mid) (only p.value); second = p.second }

pub record Indexed (v : ℕ) (text after : List ℕ) : Type 0 where
  pub fits : v < 4294967296
  pub tokens : (ts : List Token) (rest : List ℕ) → Laid ts after rest → Laid (opening ∷ number v ∷ closing ∷ ts) text rest

pub laid_index : (v : ℕ) (text after : List ℕ) → take_index text ≡ got v after → Indexed v text after
unfolding take_index
laid_index v text after e = one (signed (91 ∷ []) text (λ r. and_then (take_number r) (λ v r. and_then (take_sign (93 ∷ []) r) (λ u r. got v r))) v after e)
  where
    three : (t : List ℕ) → take_sign (91 ∷ []) text ≡ got done t → (x : ℕ) (z : List ℕ) → take_number t ≡ got x z → Signed (93 ∷ []) z (λ r. got x r) v after → Indexed v text after
    three t a x z b p = record {
      fits = (number_sound t v z (b ∙ ap (λ n. got n z) (got-value x v p.mid after p.second))).fits;
      tokens = λ ts rest l. laid-sign 91 [] (number v ∷ closing ∷ ts) text t rest a (laid-number v (closing ∷ ts) t z rest (b
          ∙ ap (λ n. got n z) (got-value x v p.mid after p.second)) (laid-sign 93 [] ts z after rest (p.first ∙ ap (got done) (got-left x v p.mid after p.second)) l));
    }

    two : (t : List ℕ) → take_sign (91 ∷ []) text ≡ got done t → Through (take_number t) (λ v r. and_then (take_sign (93 ∷ []) r) (λ u r. got v r)) v after → Indexed v text after
    two t a p = three t a p.value p.mid p.first (signed (93 ∷ []) p.mid (λ r. got p.value r) v after p.second)

    one : Signed (91 ∷ []) text (λ r. and_then (take_number r) (λ v r. and_then (take_sign (93 ∷ []) r) (λ u r. got v r))) v after → Indexed v text after
    one p = two p.mid p.first (through (take_number p.mid) (λ v r. and_then (take_sign (93 ∷ []) r) (λ u r. got v r)) v after p.second)

pub record Bits (w : List ℕ) (v : ℕ) (text after : List ℕ) : Type 0 where
  pub fits : v < 4294967296
  pub tokens : (ts : List Token) (rest : List ℕ) → Laid ts after rest → Laid (bit w v ts) text rest

pub laid-bit : (w : List ℕ) (v : ℕ) (text after : List ℕ) → take_bit w text ≡ got v after → Bits w v text after
unfolding take_bit
laid-bit w v text after e = go (through (take_this w text) (λ u r. take_index r) v after e)
  where
    go : Through (take_this w text) (λ u r. take_index r) v after → Bits w v text after
    go p = record {
      fits = (laid_index v p.mid after p.second).fits;
      tokens = λ ts rest l. laid_this w (opening ∷ number v ∷ closing ∷ ts) text p.mid rest (p.first
          ∙ ap (λ u. got u p.mid) (only p.value)) ((laid_index v p.mid after p.second).tokens ts rest l);
    }

pub record Ended (g h : Record) (text after : List ℕ) : Type 0 where
  pub same : g ≡ h
  pub tokens : (ts : List Token) (rest : List ℕ) → Laid ts after rest → Laid (semicolon ∷ ts) text rest

pub laid_end : (g h : Record) (text after : List ℕ) → take_end g text ≡ got h after → Ended g h text after
unfolding take_end
laid_end g h text after e = go (signed (59 ∷ []) text (λ r. got g r) h after e)
  where
    go : Signed (59 ∷ []) text (λ r. got g r) h after → Ended g h text after
    go p = record {
      same = got-value g h p.mid after p.second;
      tokens = λ ts rest l. laid-sign 59 [] ts text after rest (p.first
          ∙ ap (got done) (got-left g h p.mid after p.second)) l;
    }

pub record One (q : List ℕ) (k : ℕ) (g : Record) (text after : List ℕ) : Type 0 where
  pub i : ℕ
  pub fits : i < 4294967296
  pub is : record_of k i 0 0 ≡ g
  pub tokens : (ts : List Token) (rest : List ℕ) → Laid ts after rest → Laid (bit q i (semicolon ∷ ts)) text rest

pub laid_one : (q : List ℕ) (k : ℕ) (g : Record) (text after : List ℕ) → take_one q k text ≡ got g after → One q k g text after
unfolding take_one
laid_one q k g text after e = go (through (take_bit q text) (λ i r. take_end (record_of k i 0 0) r) g after e)
  where
    go : Through (take_bit q text) (λ i r. take_end (record_of k i 0 0) r) g after → One q k g text after
    go p = record {
      i = p.value;
      fits = (laid-bit q p.value text p.mid p.first).fits;
      is = (laid_end (record_of k p.value 0 0) g p.mid after p.second).same;
      tokens = λ ts rest l. (laid-bit q p.value text p.mid p.first).tokens (semicolon ∷ ts) rest ((laid_end (record_of k p.value 0 0) g p.mid after
          p.second).tokens ts rest l);
    }

-- a bit of a register, past a sign
pub record Next (q : List ℕ) (sg : List ℕ) (k : ℕ → List ℕ → Try Record) (g : Record) (text after : List ℕ) : Type 0 where
  pub j : ℕ
  pub mid : List ℕ
  pub fits : j < 4294967296
  pub more : k j mid ≡ got g after
  pub tokens : (ts : List Token) (rest : List ℕ) → Laid ts mid rest → Laid (sign sg ∷ bit q j ts) text rest

pub laid_next : (q : List ℕ) (b : ℕ) (s : List ℕ) (K : ℕ → List ℕ → Try Record) (g : Record) (text after : List ℕ)
    → and_then (take_sign (b ∷ s) text) (λ u r. and_then (take_bit q r) K) ≡ got g after → Next q (b ∷ s) K g text after
laid_next q b s K g text after e = one (signed (b ∷ s) text (λ r. and_then (take_bit q r) K) g after e)
  where
    two : (t : List ℕ) → take_sign (b ∷ s) text ≡ got done t → Through (take_bit q t) K g after → Next q (b ∷ s) K g text after
    two t a p = record {
      j = p.value;
      mid = p.mid;
      fits = (laid-bit q p.value t p.mid p.first).fits;
      more = p.second;
      tokens = λ ts rest l. laid-sign b s (bit q p.value ts) text t rest a ((laid-bit q p.value t p.mid p.first).tokens ts rest l);
    }

    one : Signed (b ∷ s) text (λ r. and_then (take_bit q r) K) g after → Next q (b ∷ s) K g text after
    one p = two p.mid p.first (through (take_bit q p.mid) K g after p.second)

pub record Two (q c sg : List ℕ) (k : ℕ) (g : Record) (text after : List ℕ) : Type 0 where
  pub i : ℕ
  pub j : ℕ
  pub fits : i < 4294967296
  pub fits₂ : j < 4294967296
  pub is : record_of k i j 0 ≡ g
  pub tokens : (ts : List Token) (rest : List ℕ) → Laid ts after rest → Laid (bit q i (sign sg ∷ bit c j (semicolon ∷ ts))) text rest

pair : (q c : List ℕ) (b : ℕ) (s : List ℕ) (k : ℕ) (g : Record) (text after : List ℕ)
    → and_then (take_bit q text) (λ i r. and_then (take_sign (b ∷ s) r) (λ u r. and_then (take_bit c r) (λ j r. take_end (record_of k i j 0) r))) ≡ got g after → Two q c (b ∷ s) k g text after
pair q c b s k g text after e = one (through (take_bit q text) (λ i r. and_then (take_sign (b ∷ s) r) (λ u r. and_then (take_bit c r) (λ j r. take_end (record_of k i j 0) r))) g after e)
  where
    two : (i : ℕ) (t : List ℕ) → take_bit q text ≡ got i t → Next c (b ∷ s) (λ j r. take_end (record_of k i j 0) r) g t after → Two q c (b ∷ s) k g text after
    two i t a n = record {
      i = i;
      j = n.j;
      fits = (laid-bit q i text t a).fits;
      fits₂ = n.fits;
      is = (laid_end (record_of k i n.j 0) g n.mid after n.more).same;
      tokens = λ ts rest l. (laid-bit q i text t a).tokens (sign (b ∷ s) ∷ bit c n.j (semicolon ∷ ts)) rest (n.tokens (semicolon ∷ ts) rest ((laid_end (record_of k i
          n.j 0) g n.mid after n.more).tokens ts rest l));
    }

    one : Through (take_bit q text) (λ i r. and_then (take_sign (b ∷ s) r) (λ u r. and_then (take_bit c r) (λ j r. take_end (record_of k i j 0) r))) g after → Two q c (b ∷ s) k g text after
    one p = two p.value p.mid p.first (laid_next c b s (λ j r. take_end (record_of k p.value j 0) r) g p.mid after p.second)

pub laid_two : (q : List ℕ) (k : ℕ) (g : Record) (text after : List ℕ) → take_two q k text ≡ got g after → Two q q (44 ∷ []) k g text after
unfolding take_two
laid_two q k g text after e = pair q q 44 [] k g text after e

pub laid_measure : (q c : List ℕ) (g : Record) (text after : List ℕ) → take_measure q c text ≡ got g after → Two q c (45 ∷ 62 ∷ []) 12 g text after
unfolding take_measure
laid_measure q c g text after e = pair q c 45 (62 ∷ []) 12 g text after e

pub record Three (q : List ℕ) (k : ℕ) (g : Record) (text after : List ℕ) : Type 0 where
  pub i : ℕ
  pub j : ℕ
  pub l : ℕ
  pub fits : i < 4294967296
  pub fits₂ : j < 4294967296
  pub fits₃ : l < 4294967296
  pub is : record_of k i j l ≡ g
  pub tokens : (ts : List Token) (rest : List ℕ) → Laid ts after rest → Laid (bit q i (comma ∷ bit q j (comma ∷ bit q l (semicolon ∷ ts)))) text rest

pub laid_three : (q : List ℕ) (k : ℕ) (g : Record) (text after : List ℕ) → take_three q k text ≡ got g after → Three q k g text after
unfolding take_three
laid_three q k g text after e = one (through (take_bit q text) (λ i r. and_then (take_sign (44 ∷ []) r) (λ u r. and_then (take_bit q r) (λ j r. and_then (take_sign
    (44 ∷ []) r) (λ u r. and_then (take_bit q r) (λ l r. take_end (record_of k i j l) r))))) g after e)
  where
    three : (i : ℕ) (t : List ℕ) → take_bit q text ≡ got i t → (n : Next q (44 ∷ []) (λ j r. and_then (take_sign (44 ∷ []) r) (λ u r. and_then (take_bit q r) (λ l r. take_end
        (record_of k i j l) r))) g t after) → Next q (44 ∷ []) (λ l r. take_end (record_of k i n.j l) r) g n.mid after → Three q k g text after
    three i t a n m = record {
      i = i;
      j = n.j;
      l = m.j;
      fits = (laid-bit q i text t a).fits;
      fits₂ = n.fits;
      fits₃ = m.fits;
      is = (laid_end (record_of k i n.j m.j) g m.mid after m.more).same;
      tokens = λ ts rest d. (laid-bit q i text t a).tokens (comma ∷ bit q n.j (comma ∷ bit q m.j (semicolon ∷ ts))) rest (n.tokens (comma ∷ bit q m.j
          (semicolon ∷ ts)) rest (m.tokens (semicolon ∷ ts) rest ((laid_end (record_of k i n.j m.j) g m.mid after m.more).tokens ts rest d)));
    }

    two : (i : ℕ) (t : List ℕ) → take_bit q text ≡ got i t → Next q (44 ∷ []) (λ j r. and_then (take_sign (44 ∷ []) r) (λ u r. and_then (take_bit q r) (λ l r. take_end
        (record_of k i j l) r))) g t after → Three q k g text after
    two i t a n = three i t a n (laid_next q 44 [] (λ l r. take_end (record_of k i n.j l) r) g n.mid after n.more)

    one : Through (take_bit q text) (λ i r. and_then (take_sign (44 ∷ []) r) (λ u r. and_then (take_bit q r) (λ j r. and_then (take_sign (44 ∷ []) r) (λ u r. and_then
        (take_bit q r) (λ l r. take_end (record_of k i j l) r))))) g after → Three q k g text after
    one p = two p.value p.mid p.first (laid_next q 44 [] (λ j r. and_then (take_sign (44 ∷ []) r) (λ u r. and_then (take_bit q r) (λ l r. take_end (record_of k
        p.value j l) r))) g p.mid after p.second)
