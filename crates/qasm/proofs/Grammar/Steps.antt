-- One statement at each stage: the reader takes it exactly if the grammar lays it, and it takes a byte at least.
use mathlib.Core.Path.{◌≡◌, refl, ap, sym, ◌∙◌, subst}
use mathlib.Core.Logic.{◌≢◌}
use mathlib.Core.Bool.{Bool, true, false}
use mathlib.Core.List.{List, [], ◌∷◌}
use Prim.Native.Nat.{ℕ, ◌≤◌, ◌<◌}
use native.Mathlib.Omega.{arith}
use lib.ListN.{length}
use Rattle.qasm.specs.Bytes.{same_bytes}
use Rattle.qasm.specs.Tokens.{Token, word, Laid, nothing}
use Rattle.qasm.specs.Names.{is_name, word_openqasm, word_include, word_qreg, word_creg, word_measure}
use Rattle.qasm.specs.Text.{Record, Stage, at_version, at_include, at_qreg, at_creg, at_gates, Statement, version_line, include_line, qreg_line, creg_line, measure_line, one_line, two_line, three_line}
use Rattle.qasm.specs.Reading.{Try, got, done, and_then, blank, take_version, take_include, take_register, take_gate, register}
use Rattle.qasm.proofs.Tries.{got-value, got-left, only, ended, then-got}
use Rattle.qasm.proofs.Grammar.Phrases.{Took, took-version, same_is, same_self, Through, through}
use Rattle.qasm.proofs.Grammar.Operands.{Spelt, took_include}
use Rattle.qasm.proofs.Grammar.Names.{took-register, name_spelt, gate_good, laid-version, laid_include, laid-register}
use Rattle.qasm.proofs.Grammar.Gates.{gate_sound, Taken, gate_complete}
use Rattle.qasm.proofs.Grammar.Lengths.{gate-blank, version-blank, include-blank, register-blank, laid_strictly}

-- the stage after a statement, and the gates that it makes
pub record Onward : Type 0 where
  pub stage : Stage
  pub made : List Record

abbrev pub onward : Stage → List Record → Onward
onward s gs = record { stage = s; made = gs }

unfoldable pub step_at : Stage → List ℕ → Try Onward
step_at at_version text = and_then (take_version text) (λ u r. got (onward at_include []) r)
step_at at_include text = and_then (take_include text) (λ u r. got (onward at_qreg []) r)
step_at at_qreg text = and_then (take_register word_qreg [] text) (λ q r. got (onward (at_creg q.name q.size) []) r)
step_at (at_creg q n) text = and_then (take_register word_creg q text) (λ c r. got (onward (at_gates q n c.name c.size) []) r)
step_at (at_gates q n c m) text = and_then (take_gate q c text) (λ g r. got (onward (at_gates q n c m) (g ∷ [])) r)

-- ---- what was taken was laid

pub record Stepped (s : Stage) (text : List ℕ) (o : Onward) (after : List ℕ) : Type 0 where
  pub tokens : List Token
  pub statement : Statement s tokens o.stage o.made
  pub laid : Laid tokens text after

apart : (c q : List ℕ) → same_bytes c q ≡ false → c ≢ q
apart c q e f = clash (sym (same_self c) ∙ ap (λ z. same_bytes c z) f ∙ e)
  where
    clash : true ≡ false → ⊥
    clash k = let z : ◌≡◌ {A = ℕ} 0 1 = cc in omega arith

-- what one statement's reading leads to, by the reading alone
stepped : {A : Type 0} (s : Stage) (text : List ℕ) (o : Onward) (after : List ℕ) (x : Try A) (S : A → Onward) → and_then x (λ a r. got (S a) r) ≡ got o after
    → ((a : A) (t : List ℕ) → x ≡ got a t → Stepped s text (S a) t) → Stepped s text o after
stepped s text o after x S e f = go (through x (λ a r. got (S a) r) o after e)
  where
    go : Through x (λ a r. got (S a) r) o after → Stepped s text o after
    go p = subst (λ z. Stepped s text z after) (got-value (S p.value) o p.mid after p.second)
        (subst (λ t. Stepped s text (S p.value) t) (got-left (S p.value) o p.mid after p.second) (f p.value p.mid p.first))

pub step_sound : (s : Stage) (text : List ℕ) (o : Onward) (after : List ℕ) → step_at s text ≡ got o after → Stepped s text o after
unfolding step_at
step_sound at_version text o after e = stepped at_version text o after (take_version text) (λ u. onward at_include []) e
    (λ u t k. record { tokens = _; statement = version_line; laid = laid-version [] text t t (k ∙ ap (λ z. got z t) (only u)) nothing })
step_sound at_include text o after e = stepped at_include text o after (take_include text) (λ u. onward at_qreg []) e
    (λ u t k. record { tokens = _; statement = include_line; laid = laid_include [] text t t (k ∙ ap (λ z. got z t) (only u)) nothing })
step_sound at_qreg text o after e = stepped at_qreg text o after (take_register word_qreg [] text) (λ q. onward (at_creg q.name q.size) []) e
    (λ q t k. let D = laid-register word_qreg [] q text t k in
    record { tokens = _; statement = qreg_line q.name q.size D.named D.fits D.some; laid = D.tokens [] t nothing })
step_sound (at_creg q n) text o after e = stepped (at_creg q n) text o after (take_register word_creg q text) (λ c. onward (at_gates q n c.name c.size) []) e
    (λ c t k. let D = laid-register word_creg q c text t k in
    record { tokens = _; statement = creg_line q c.name n c.size D.named (apart c.name q D.apart) D.fits D.some; laid = D.tokens [] t nothing })
step_sound (at_gates q n c m) text o after e = stepped (at_gates q n c m) text o after (take_gate q c text) (λ g. onward (at_gates q n c m) (g ∷ [])) e
    (λ g t k. let G = gate_sound q n c m g text t k in
    record { tokens = G.tokens; statement = G.statement; laid = G.laid })

-- ---- what is laid is taken, where the names are words

abbrev pub Ready : Stage → Type 0
Ready at_version = Unit {0}
Ready at_include = Unit {0}
Ready at_qreg = Unit {0}
Ready (at_creg q n) = Spelt q
Ready (at_gates q n c m) = Spelt q × Spelt c

took_all : {A : Type 0} (P : List ℕ → Try A) (a : A) (text rest : List ℕ) → Took P a [] text rest → P text ≡ got a rest
took_all P a text rest t = t.reads ∙ ap (got a) (ended t.after rest t.laid)

other : (c q : List ℕ) → c ≢ q → same_bytes c q ≡ false
other c q ne = go (same_bytes c q) refl
  where
    go : (x : Bool) → same_bytes c q ≡ x → x ≡ false
    go true e = absurd (ne (same_is c q e))
    go false e = refl

step_on : {A : Type 0} (x : Try A) (a : A) (t : List ℕ) (S : A → Onward) → x ≡ got a t → and_then x (λ a r. got (S a) r) ≡ got (S a) t
step_on x a t S e = ap (λ z. and_then z (λ a r. got (S a) r)) e ∙ then-got a t (λ a r. got (S a) r)

gate_step : (q : List ℕ) (n : ℕ) (c : List ℕ) (m : ℕ) (text rest : List ℕ) (gs : List Record) → Taken q c gs text rest
    → and_then (take_gate q c text) (λ g r. got (onward (at_gates q n c m) (g ∷ [])) r) ≡ got (onward (at_gates q n c m) gs) rest
gate_step q n c m text rest gs T = step_on (take_gate q c text) T.g rest (λ g. onward (at_gates q n c m) (g ∷ [])) T.reads
    ∙ ap (λ z. got (onward (at_gates q n c m) z) rest) (sym T.alone)

pub step_complete : (s : Stage) (ts : List Token) (s₁ : Stage) (gs : List Record) (text rest : List ℕ) → Ready s → Statement s ts s₁ gs → Laid ts text rest
    → step_at s text ≡ got (onward s₁ gs) rest
unfolding step_at
step_complete _ ts _ _ text rest k version_line l = step_on (take_version text) done rest (λ u. onward at_include []) (took_all take_version done text rest (took-version [] text rest l))
step_complete _ ts _ _ text rest k include_line l = step_on (take_include text) done rest (λ u. onward at_qreg []) (took_all take_include done text rest (took_include [] text rest l))
step_complete _ ts _ _ text rest k (qreg_line q n e f h) l = step_on (take_register word_qreg [] text) (register q n) rest (λ q. onward (at_creg q.name q.size) [])
    (took_all (take_register word_qreg []) (register q n) text rest (took-register word_qreg [] q n [] text rest (record { first = refl; bytes = refl }) e (unnamed q e) f h l))
  where
    unnamed : (w : List ℕ) → is_name w ≡ true → same_bytes w [] ≡ false
    unnamed [] e = sym e
    unnamed (b ∷ w) e = refl
step_complete _ ts _ _ text rest k (creg_line q c n m e ne f h) l = step_on (take_register word_creg q text) (register c m) rest (λ c. onward (at_gates q n c.name c.size) [])
    (took_all (take_register word_creg q) (register c m) text rest (took-register word_creg q c m [] text rest (record { first = refl; bytes = refl }) e (other c q ne) f h l))
step_complete _ ts _ _ text rest k (measure_line q c n m i j f h) l = gate_step q n c m text rest _ (gate_complete q c n m (at_gates q n c m) ts _ text rest k.0 k.1
    (measure_line q c n m i j f h) l)
step_complete _ ts _ _ text rest k (one_line q c n m i j g e b x f) l = gate_step q n c m text rest _ (gate_complete q c n m (at_gates q n c m) ts _ text rest k.0
    k.1 (one_line q c n m i j g e b x f) l)
step_complete _ ts _ _ text rest k (two_line q c n m i o j g e b x f h) l = gate_step q n c m text rest _ (gate_complete q c n m (at_gates q n c m) ts _ text rest k.0
    k.1 (two_line q c n m i o j g e b x f h) l)
step_complete _ ts _ _ text rest k (three_line q c n m i o p j g e b x f h r) l = gate_step q n c m text rest _ (gate_complete q c n m (at_gates q n c m) ts _ text rest
    k.0 k.1 (three_line q c n m i o p j g e b x f h r) l)

pub ready_on : (s : Stage) (ts : List Token) (s₁ : Stage) (gs : List Record) → Ready s → Statement s ts s₁ gs → Ready s₁
ready_on _ ts _ _ k version_line = tt
ready_on _ ts _ _ k include_line = tt
ready_on _ ts _ _ k (qreg_line q n e f h) = name_spelt q e
ready_on _ ts _ _ k (creg_line q c n m e ne f h) = (k, name_spelt c e)
ready_on _ ts _ _ k (measure_line q c n m i j f h) = k
ready_on _ ts _ _ k (one_line q c n m i j g e b x f) = k
ready_on _ ts _ _ k (two_line q c n m i o j g e b x f h) = k
ready_on _ ts _ _ k (three_line q c n m i o p j g e b x f h r) = k

-- ---- a statement takes a byte at least, and blanks before it change nothing

spelt_some : (w : List ℕ) → Spelt w → 1 ≤ length w
spelt_some [] s = absurd (no s.first)
  where
    no : false ≡ true → ⊥
    no e = let z : ◌≡◌ {A = ℕ} 0 1 = cc in omega arith
spelt_some (b ∷ w) s = omega arith

statement_shorter : (s : Stage) (ts : List Token) (s₁ : Stage) (gs : List Record) (text rest : List ℕ) → Statement s ts s₁ gs → Laid ts text rest → length rest < length text
statement_shorter _ ts _ _ text rest version_line l = laid_strictly (word word_openqasm) (omega arith) l
statement_shorter _ ts _ _ text rest include_line l = laid_strictly (word word_include) (omega arith) l
statement_shorter _ ts _ _ text rest (qreg_line q n e f h) l = laid_strictly (word word_qreg) (omega arith) l
statement_shorter _ ts _ _ text rest (creg_line q c n m e ne f h) l = laid_strictly (word word_creg) (omega arith) l
statement_shorter _ ts _ _ text rest (measure_line q c n m i j f h) l = laid_strictly (word word_measure) (omega arith) l
statement_shorter _ ts _ _ text rest (one_line q c n m i j g e b x f) l = laid_strictly (word g.name) (spelt_some g.name (gate_good j g e b).spelt) l
statement_shorter _ ts _ _ text rest (two_line q c n m i o j g e b x f h) l = laid_strictly (word g.name) (spelt_some g.name (gate_good j g e b).spelt) l
statement_shorter _ ts _ _ text rest (three_line q c n m i o p j g e b x f h r) l = laid_strictly (word g.name) (spelt_some g.name (gate_good j g e b).spelt) l

pub step_shorter : (s : Stage) (text : List ℕ) (o : Onward) (after : List ℕ) → step_at s text ≡ got o after → length after < length text
step_shorter s text o after e = go (step_sound s text o after e)
  where
    go : Stepped s text o after → length after < length text
    go p = statement_shorter s p.tokens o.stage o.made text after p.statement p.laid

pub step-blank : (s : Stage) (text : List ℕ) → step_at s (blank text) ≡ step_at s text
unfolding step_at
step-blank at_version text = rw (version-blank text)
step-blank at_include text = rw (include-blank text)
step-blank at_qreg text = rw (register-blank word_qreg [] text)
step-blank (at_creg q n) text = rw (register-blank word_creg q text)
step-blank (at_gates q n c m) text = rw (gate-blank q c text)
