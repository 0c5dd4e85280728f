-- The reader's answer is what the text says, and its refusal is where the text stops: both ways.
use mathlib.Core.Path.{◌≡◌, refl, ap, sym, ◌∙◌, subst}
use mathlib.Core.Bool.{true, false}
use mathlib.Core.List.{List, [], ◌∷◌, ◌++◌, append_assoc, append-nil}
use Prim.Native.Nat.{ℕ, zero, suc, ◌+◌, ◌-◌, ◌≤◌, ◌<◌}
use native.Mathlib.Nat.{le_trans, le_refl}
use native.Mathlib.Omega.{arith}
use lib.ListN.{length}
use Rattle.qasm.specs.Tokens.{solid, Blank, Ends}
use Rattle.qasm.specs.Text.{Record, Stage, at_version, at_include, at_qreg, at_creg, at_gates, before_gates, Statements, none_more, one_more, Says, NoStatement, Stops, outside, short}
use Rattle.qasm.specs.Reading.{Read, program, bad_text, Try, got, failed, blank, reading}
use Rattle.qasm.proofs.Grammar.Blanks.{Past, to_end, to_token, past, ends-skip}
use Rattle.qasm.proofs.Grammar.Tokens.{saw, looks}
use Rattle.qasm.proofs.Grammar.Lengths.{blank-shorter, laid_shorter}
use Rattle.qasm.proofs.Grammar.Steps.{Onward, onward, step_at, Stepped, step_sound, Ready, step_complete, ready_on, step_shorter, step-blank}
use Rattle.qasm.proofs.Grammar.Stages.{read_at, read_from, prepend, prepend-none, read_on, read-bad, read_short, read_end}

ends-blank : (text : List ℕ) → Ends text → blank text ≡ []
unfolding blank
ends-blank text e = ends-skip e

blank-ends : (text : List ℕ) → blank text ≡ [] → Ends text
unfolding blank
blank-ends text e = go (past text)
  where
    no : solid [] ≡ true → ⊥
    no e = let z : ◌≡◌ {A = ℕ} 0 1 = cc in omega arith

    go : Past text → Ends text
    go (to_end k s) = k
    go (to_token k s) = absurd (no (subst (λ z. solid z ≡ true) e s))

-- ---- from the reader to the text

-- what is left of a text from a stage says all of it
record Whole (s : Stage) (text : List ℕ) (n m : ℕ) (gs : List Record) : Type 0 where
  pub q : List ℕ
  pub c : List ℕ
  pub end : List ℕ
  pub read : Statements s text (at_gates q n c m) end gs
  pub rest : Ends end

-- or stops
data Halts (all : ℕ) (s : Stage) (text : List ℕ) (place : ℕ) : Type 0 where
  at_token : {stage : Stage} {after rest : List ℕ} {gates : List Record}
      → Statements s text stage after gates → Blank after rest → solid rest ≡ true → NoStatement stage rest → place + length rest ≡ all → Halts all s text place
  at_end : {stage : Stage} {after : List ℕ} {gates : List Record}
      → Statements s text stage after gates → Ends after → before_gates stage ≡ true → place ≡ all → Halts all s text place

abbrev Told : ℕ → Stage → List ℕ → Read → Type 0
Told all s text (program n m gs) = Whole s text n m gs
Told all s text (bad_text k) = Halts all s text k

told-short : (all : ℕ) (s : Stage) (text : List ℕ) → before_gates s ≡ true → blank text ≡ [] → Told all s text (read_at all s text)
told-short all s text b e = subst (Told all s text) (sym (read_short all s text b e)) (at_end none_more (blank-ends text e) b refl)

told_end : (all : ℕ) (s : Stage) (text : List ℕ) → blank text ≡ [] → Told all s text (read_at all s text)
told_end all at_version text e = told-short all at_version text refl e
told_end all at_include text e = told-short all at_include text refl e
told_end all at_qreg text e = told-short all at_qreg text refl e
told_end all (at_creg q n) text e = told-short all (at_creg q n) text refl e
told_end all (at_gates q n c m) text e = subst (Told all (at_gates q n c m) text) (sym (read_end all q n c m text e))
    (record { q = q; c = c; end = text; read = none_more; rest = blank-ends text e })

told_on : (all : ℕ) (s : Stage) (text : List ℕ) (o : Onward) (after : List ℕ) → Stepped s text o after → (x : Read) → Told all o.stage after x → Told all s text (prepend o.made x)
told_on all s text o after p (program n m gs) t = record { q = t.q; c = t.c; end = t.end; read = one_more p.statement p.laid t.read refl; rest = t.rest }
told_on all s text o after p (bad_text k) (at_token r b d n e) = at_token (one_more p.statement p.laid r refl) b d n e
told_on all s text o after p (bad_text k) (at_end r e b f) = at_end (one_more p.statement p.laid r refl) e b f

-- a statement that is laid past blanks is taken
laid_taken : (s : Stage) (text here : List ℕ) → Ready s → blank text ≡ here → step_at s text ≡ failed → NoStatement s here
laid_taken s text here k e f ts s₁ gs left a l = clash (sym (step_complete s ts s₁ gs here left k a l) ∙ ap (step_at s) (sym e) ∙ step-blank s text ∙ f)
  where
    clash : got (onward s₁ gs) left ≡ failed → ⊥
    clash e = let z : ◌≡◌ {A = ℕ} 0 1 = cc in omega arith

told_bad : (all : ℕ) (s : Stage) (text : List ℕ) (b : ℕ) (r : List ℕ) → Ready s → length text ≤ all → blank text ≡ b ∷ r → step_at s text ≡ failed → Told all s text (read_at all s text)
told_bad all s text b r k h e f = subst (Told all s text) (sym (read-bad all s text b r h e f)) (at_token none_more (saw text b r e).0 (saw text b r e).1
    (laid_taken s text (b ∷ r) k e f) (place (blank-shorter (saw text b r e).0)))
  where
    place : length (b ∷ r) ≤ length text → all - length (b ∷ r) + length (b ∷ r) ≡ all
    place l = omega arith

blank_none : blank [] ≡ []
unfolding blank
blank_none = refl

-- whatever is answered at a stage is so
told : (f all : ℕ) (s : Stage) (text : List ℕ) → length text ≤ f → length text ≤ all → Ready s → Told all s text (read_at all s text)
told zero all s [] h k d = told_end all s [] blank_none
told zero all s (b ∷ r) h k d = absurd (omega arith)
told (suc f) all s text h k d = go (blank text) (step_at s text) refl refl (λ z t a b c. told f all z t a b c)
  where
    less : (t : List ℕ) → length t < length text → length t ≤ f
    less t x = omega arith

    fewer : (t : List ℕ) → length t < length text → length t ≤ all
    fewer t x = omega arith

    go : (t : List ℕ) (x : Try Onward) → blank text ≡ t → step_at s text ≡ x → ((z : Stage) (t : List ℕ) → length t ≤ f → length t ≤ all → Ready z
        → Told all z t (read_at all z t)) → Told all s text (read_at all s text)
    go [] x e y i = told_end all s text e
    go (b ∷ r) failed e y i = told_bad all s text b r d k e y
    go (b ∷ r) (got o after) e y i = subst (Told all s text) (sym (read_on all s text o after k y)) (told_on all s text o after P (read_at all o.stage after) (i
        o.stage after (less after (step_shorter s text o after y)) (fewer after (step_shorter s text o after y)) (ready_on s P.tokens o.stage o.made d P.statement)))
      where
        P : Stepped s text o after
        P = step_sound s text o after y

told_text : (text : List ℕ) → Told (length text) at_version text (reading text)
told_text text = subst (Told (length text) at_version text) (sym (read_from text)) (told (length text) (length text) at_version text (le_refl (length text)) (le_refl (length text)) tt)

pub sound : (text : List ℕ) (n m : ℕ) (gs : List Record) → reading text ≡ program n m gs → Says text n m gs
sound text n m gs e = go (subst (Told (length text) at_version text) e (told_text text))
  where
    go : Whole at_version text n m gs → Says text n m gs
    go w = record { q = w.q; c = w.c; end = w.end; read = w.read; rest = w.rest }

pub refuses : (text : List ℕ) (k : ℕ) → reading text ≡ bad_text k → Stops text k
refuses text k e = go (subst (Told (length text) at_version text) e (told_text text))
  where
    go : Halts (length text) at_version text k → Stops text k
    go (at_token r b s n p) = outside r b s n p
    go (at_end r e b p) = short r e b p

-- ---- from the text to the reader

record Followed (all : ℕ) (s : Stage) (text : List ℕ) (s₁ : Stage) (rest : List ℕ) (gs : List Record) : Type 0 where
  pub reads : read_at all s text ≡ prepend gs (read_at all s₁ rest)
  pub ready : Ready s₁
  pub within : length rest ≤ all

prepend-both : (gs hs : List Record) (x : Read) → prepend gs (prepend hs x) ≡ prepend (gs ++ hs) x
prepend-both gs hs (program n m ks) = ap (program n m) (sym (append_assoc gs hs ks))
prepend-both gs hs (bad_text k) = refl

follow : (all : ℕ) (s : Stage) (text : List ℕ) (s₁ : Stage) (rest : List ℕ) (gs : List Record) → length text ≤ all → Ready s → Statements s text s₁ rest gs → Followed all s text s₁ rest gs
follow all s text _ _ _ h k none_more = record { reads = sym (prepend-none (read_at all s text)); ready = k; within = h }
follow all s text s₂ rest all-gates h k (one_more {s₁ = s₁} {ts = ts} {mid = mid} {gs = gs} {hs = hs} a l r e) = go (follow all s₁ mid s₂ rest hs (le_trans
    (laid_shorter l) h) (ready_on s ts s₁ gs k a) r)
  where
    go : Followed all s₁ mid s₂ rest hs → Followed all s text s₂ rest all-gates
    go F = record {
      reads = read_on all s text (onward s₁ gs) mid h (step_complete s ts s₁ gs text mid k a l) ∙ ap (prepend gs) F.reads ∙ prepend-both gs hs (read_at all s₂ rest)
          ∙ ap (λ z. prepend z (read_at all s₂ rest)) (sym e);
      ready = F.ready;
      within = F.within;
    }

follow_text : (text : List ℕ) (s : Stage) (rest : List ℕ) (gs : List Record) → Statements at_version text s rest gs → Followed (length text) at_version text s rest gs
follow_text text s rest gs r = follow (length text) at_version text s rest gs (le_refl (length text)) tt r

pub complete : (text : List ℕ) (n m : ℕ) (gs : List Record) → Says text n m gs → reading text ≡ program n m gs
complete text n m gs w = read_from text ∙ (follow_text text (at_gates w.q n w.c m) w.end gs w.read).reads
    ∙ ap (prepend gs) (read_end (length text) w.q n w.c m w.end (ends-blank w.end w.rest)) ∙ ap (program n m) (append-nil gs)

-- no statement begins here, so none is taken
none_taken : (s : Stage) (after rest : List ℕ) → blank after ≡ rest → NoStatement s rest → step_at s after ≡ failed
none_taken s after rest e n = go (step_at s after) refl
  where
    go : (x : Try Onward) → step_at s after ≡ x → step_at s after ≡ failed
    go failed k = k
    go (got o t) k = absurd (no (step_sound s rest o t (ap (step_at s) (sym e) ∙ step-blank s after ∙ k)))
      where
        no : Stepped s rest o t → ⊥
        no p = n p.tokens o.stage o.made t p.statement p.laid

stopped : (all : ℕ) (s : Stage) (after rest : List ℕ) (k : ℕ) → length after ≤ all → blank after ≡ rest → solid rest ≡ true → NoStatement s rest
    → k + length rest ≡ all → read_at all s after ≡ bad_text k
stopped all s after [] k h e d n p = absurd (no d)
  where
    no : false ≡ true → ⊥
    no d = let z : ◌≡◌ {A = ℕ} 0 1 = cc in omega arith
stopped all s after (b ∷ r) k h e d n p = read-bad all s after b r h e (none_taken s after (b ∷ r) e n) ∙ ap bad_text (place (length (b ∷ r)) p)
  where
    place : (l : ℕ) → k + l ≡ all → all - l ≡ k
    place l p = omega arith

pub refused : (text : List ℕ) (k : ℕ) → Stops text k → reading text ≡ bad_text k
refused text k (outside {stage = s} {after = after} {rest = rest} {gates = gs} r b d n p) = go (follow_text text s after gs r)
  where
    go : Followed (length text) at_version text s after gs → reading text ≡ bad_text k
    go F = read_from text ∙ F.reads ∙ ap (prepend gs) (stopped (length text) s after rest k F.within (looks after rest b d) d n p)
refused text k (short {stage = s} {after = after} {gates = gs} r e b p) = read_from text ∙ (follow_text text s after gs r).reads
    ∙ ap (prepend gs) (read_short (length text) s after b (ends-blank after e)) ∙ ap bad_text (sym p)
