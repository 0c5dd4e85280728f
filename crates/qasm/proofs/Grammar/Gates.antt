-- Gates: each statement that is laid is the gate that the reader takes, and the other way.
use mathlib.Core.Path.{◌≡◌, refl, ap, ◌∙◌, subst}
use mathlib.Core.Bool.{Bool, true, false, cond}
use mathlib.Core.List.{List, [], ◌∷◌}
use Prim.Native.Nat.{ℕ, ◌<◌}
use native.Mathlib.Omega.{arith}
use lib.Dec.{eqb}
use lib.ListN.{get_or}
use borrow.Author.Tests.{eqb-true}
use Rattle.qasm.specs.Bytes.{same_bytes}
use Rattle.qasm.specs.Tokens.{Token, word, Laid, nothing}
use Rattle.qasm.specs.Names.{semicolon, comma, arrow, Named, gate_names, word_measure}
use Rattle.qasm.specs.Text.{Record, record_of, bit, Stage, at_gates, Statement, measure_line, one_line, two_line, three_line}
use Rattle.qasm.specs.Reading.{Try, got, failed, and_then, take_word, take_one, take_two, take_three, take_measure, operands_by, by_name, gate_by, take_gate}
use Rattle.qasm.proofs.Tries.{ended, then-got}
use Rattle.qasm.proofs.Grammar.Phrases.{Took, same_is, Through, through, laid_word}
use Rattle.qasm.proofs.Grammar.Operands.{Spelt, spelt-word, took_one, took_two, took_three, took_measure, laid_one, One, laid_two, laid_measure, Two, laid_three, Three}
use Rattle.qasm.proofs.Grammar.Names.{gate_good, Found, found}

-- ---- what was read was laid: a gate

pub record Said (q : List ℕ) (n : ℕ) (c : List ℕ) (m : ℕ) (g : Record) (text after : List ℕ) : Type 0 where
  pub tokens : List Token
  pub statement : Statement (at_gates q n c m) tokens (at_gates q n c m) (g ∷ [])
  pub laid : Laid tokens text after

module _ (q : List ℕ) (n : ℕ) (c : List ℕ) (m : ℕ) (g : Record) (text after : List ℕ) where
  said_one : (w t : List ℕ) → take_word text ≡ got w t → (k : ℕ) (h : Named) → get_or gate_names k h ≡ h → k < 12 → w ≡ h.name → h.qubits ≡ 1 → One q h.kind g t after
      → Said q n c m g text after
  said_one w t a k h e b nm x o = record {
    tokens = word h.name ∷ bit q o.i (semicolon ∷ []);
    statement = subst (λ z. Statement (at_gates q n c m) (word h.name ∷ bit q o.i (semicolon ∷ [])) (at_gates q n c m) (z ∷ [])) o.is (one_line q c n m o.i k h e b x o.fits);
    laid = laid_word h.name (bit q o.i (semicolon ∷ [])) text t after (a ∙ ap (λ z. got z t) nm) (o.tokens [] after nothing);
  }

  said_two : (w t : List ℕ) → take_word text ≡ got w t → (k : ℕ) (h : Named) → get_or gate_names k h ≡ h → k < 12 → w ≡ h.name → h.qubits ≡ 2
      → Two q q (44 ∷ []) h.kind g t after → Said q n c m g text after
  said_two w t a k h e b nm x o = record {
    tokens = word h.name ∷ bit q o.i (comma ∷ bit q o.j (semicolon ∷ []));
    statement = subst (λ z. Statement (at_gates q n c m) (word h.name ∷ bit q o.i (comma ∷ bit q o.j (semicolon ∷ []))) (at_gates q n c m) (z ∷ [])) o.is
        (two_line q c n m o.i o.j k h e b x o.fits o.fits₂);
    laid = laid_word h.name (bit q o.i (comma ∷ bit q o.j (semicolon ∷ []))) text t after (a ∙ ap (λ z. got z t) nm) (o.tokens [] after nothing);
  }

  said_three : (w t : List ℕ) → take_word text ≡ got w t → (k : ℕ) (h : Named) → get_or gate_names k h ≡ h → k < 12 → w ≡ h.name → h.qubits ≡ 3
      → Three q h.kind g t after → Said q n c m g text after
  said_three w t a k h e b nm x o = record {
    tokens = word h.name ∷ bit q o.i (comma ∷ bit q o.j (comma ∷ bit q o.l (semicolon ∷ [])));
    statement = subst (λ z. Statement (at_gates q n c m) (word h.name ∷ bit q o.i (comma ∷ bit q o.j (comma ∷ bit q o.l (semicolon ∷ [])))) (at_gates q n c m)
        (z ∷ [])) o.is (three_line q c n m o.i o.j o.l k h e b x o.fits o.fits₂ o.fits₃);
    laid = laid_word h.name (bit q o.i (comma ∷ bit q o.j (comma ∷ bit q o.l (semicolon ∷ [])))) text t after (a ∙ ap (λ z. got z t) nm) (o.tokens [] after nothing);
  }

  said_measure : (w t : List ℕ) → take_word text ≡ got w t → w ≡ word_measure → Two q c (45 ∷ 62 ∷ []) 12 g t after → Said q n c m g text after
  said_measure w t a nm o = record {
    tokens = word word_measure ∷ bit q o.i (arrow ∷ bit c o.j (semicolon ∷ []));
    statement = subst (λ z. Statement (at_gates q n c m) (word word_measure ∷ bit q o.i (arrow ∷ bit c o.j (semicolon ∷ []))) (at_gates q n c m) (z ∷ [])) o.is
        (measure_line q c n m o.i o.j o.fits o.fits₂);
    laid = laid_word word_measure (bit q o.i (arrow ∷ bit c o.j (semicolon ∷ []))) text t after (a ∙ ap (λ z. got z t) nm) (o.tokens [] after nothing);
  }

  never : failed ≡ got g after → ⊥
  never e = let z : ◌≡◌ {A = ℕ} 0 1 = cc in omega arith

  said_named : (w t : List ℕ) → take_word text ≡ got w t → Found gate_names w q t g after → Said q n c m g text after
  said_named w t a f = go (eqb f.g.qubits 1) (eqb f.g.qubits 2) (eqb f.g.qubits 3) refl refl refl f.reads
    where
      go : (x y z : Bool) → eqb f.g.qubits 1 ≡ x → eqb f.g.qubits 2 ≡ y → eqb f.g.qubits 3 ≡ z
          → cond x (take_one q f.g.kind t) (cond y (take_two q f.g.kind t) (cond z (take_three q f.g.kind t) failed)) ≡ got g after → Said q n c m g text after
      go true y z e₁ e₂ e₃ r = said_one w t a f.at f.g f.is f.below f.name (eqb-true f.g.qubits 1 e₁) (laid_one q f.g.kind g t after r)
      go false true z e₁ e₂ e₃ r = said_two w t a f.at f.g f.is f.below f.name (eqb-true f.g.qubits 2 e₂) (laid_two q f.g.kind g t after r)
      go false false true e₁ e₂ e₃ r = said_three w t a f.at f.g f.is f.below f.name (eqb-true f.g.qubits 3 e₃) (laid_three q f.g.kind g t after r)
      go false false false e₁ e₂ e₃ r = absurd (never r)

  -- every gate that the reader takes is a statement that is laid
  pub gate_sound : take_gate q c text ≡ got g after → Said q n c m g text after
  unfolding take_gate gate_by
  gate_sound e = one (through (take_word text) (λ w r. gate_by q c w r) g after e)
    where
      pick : (w t : List ℕ) → take_word text ≡ got w t → (x : Bool) → same_bytes w word_measure ≡ x → cond x (take_measure q c t) (by_name gate_names w q t) ≡ got g after
          → Said q n c m g text after
      pick w t a true s r = said_measure w t a (same_is w word_measure s) (laid_measure q c g t after r)
      pick w t a false s r = said_named w t a (found gate_names w q t g after r)

      one : Through (take_word text) (λ w r. gate_by q c w r) g after → Said q n c m g text after
      one p = pick p.value p.mid p.first (same_bytes p.value word_measure) refl p.second

-- ---- what is laid is read: a gate

pub record Taken (q c : List ℕ) (gs : List Record) (text rest : List ℕ) : Type 0 where
  pub g : Record
  pub alone : gs ≡ g ∷ []
  pub reads : take_gate q c text ≡ got g rest

module _ (q c : List ℕ) (text rest : List ℕ) (P : List ℕ → Try Record) where
  taken : (w : List ℕ) (ts : List Token) (g : Record) → Spelt w → ((t : List ℕ) → gate_by q c w t ≡ P t) → Laid (word w ∷ ts) text rest → ((t : List ℕ) → Laid ts t rest
      → Took P g [] t rest) → take_gate q c text ≡ got g rest
  unfolding take_gate
  taken w ts g s e l f = ap (λ z. and_then z (λ w r. gate_by q c w r)) a.reads ∙ then-got w a.after (λ w r. gate_by q c w r) ∙ e a.after ∙ b.reads
      ∙ ap (got g) (ended b.after rest b.laid)
    where
      a : Took take_word w ts text rest
      a = spelt-word w ts text rest s l

      b : Took P g [] a.after rest
      b = f a.after a.laid

-- every statement that is laid among the gates is the gate that the reader takes
pub gate_complete : (q c : List ℕ) (n m : ℕ) (s : Stage) (ts : List Token) (gs : List Record) (text rest : List ℕ) → Spelt q → Spelt c
    → Statement (at_gates q n c m) ts s gs → Laid ts text rest → Taken q c gs text rest
unfolding gate_by
gate_complete q c n m s ts gs text rest sq sc (measure_line _ _ _ _ i j f h) l = record {
  g = record_of 12 i j 0;
  alone = refl;
  reads = taken q c text rest (take_measure q c) word_measure (bit q i (arrow ∷ bit c j (semicolon ∷ []))) (record_of 12 i j 0) (record { first = refl; bytes = refl })
      (λ t. refl) l (λ t d. took_measure q sq [] t rest c sc i j f h d);
}
gate_complete q c n m s ts gs text rest sq sc (one_line _ _ _ _ i k g e b x f) l = record {
  g = record_of g.kind i 0 0;
  alone = refl;
  reads = taken q c text rest (take_one q g.kind) g.name (bit q i (semicolon ∷ [])) (record_of g.kind i 0 0) (gate_good k g e b).spelt
      (λ t. (gate_good k g e b).reads q c t ∙ ap (λ z. operands_by z q g.kind t) x) l (λ t d. took_one q sq [] t rest g.kind i f d);
}
gate_complete q c n m s ts gs text rest sq sc (two_line _ _ _ _ i j k g e b x f h) l = record {
  g = record_of g.kind i j 0;
  alone = refl;
  reads = taken q c text rest (take_two q g.kind) g.name (bit q i (comma ∷ bit q j (semicolon ∷ []))) (record_of g.kind i j 0) (gate_good k g e b).spelt
      (λ t. (gate_good k g e b).reads q c t ∙ ap (λ z. operands_by z q g.kind t) x) l (λ t d. took_two q sq [] t rest g.kind i j f h d);
}
gate_complete q c n m s ts gs text rest sq sc (three_line _ _ _ _ i j o k g e b x f h r) l = record {
  g = record_of g.kind i j o;
  alone = refl;
  reads = taken q c text rest (take_three q g.kind) g.name (bit q i (comma ∷ bit q j (comma ∷ bit q o (semicolon ∷ [])))) (record_of g.kind i j o)
      (gate_good k g e b).spelt (λ t. (gate_good k g e b).reads q c t ∙ ap (λ z. operands_by z q g.kind t) x) l (λ t d. took_three q sq [] t rest g.kind i j o f h r d);
}
