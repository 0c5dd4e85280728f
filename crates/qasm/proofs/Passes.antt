-- Both passes over the gates: how many there are, and the words of their records.
use mathlib.Core.Path.{◌≡◌, refl, ap, ap₂, sym, ◌∙◌, subst}
use mathlib.Core.Bool.{cond}
use mathlib.Core.List.{List, [], ◌∷◌, ◌++◌}
use Prim.Native.Nat.{ℕ, zero, suc, ◌+◌, ◌-◌, ◌*◌, ◌/◌, ◌≤◌, ◌<◌}
use native.Mathlib.Nat.{zero-add, add-zero}
use native.Mathlib.Omega.{arith}
use native.Mathlib.Numerals.{add-one}
use lib.ListN.{length, drop, take, get_or}
use lib.Seq.{drop-cons, take-suc, take_at, drop-append-add, drop-drop, sets, sets-eq}
use Rattle.std.proofs.Common.{Result, Ok, Err}
use Rattle.qasm.specs.Text.{Record, record_of, at_version, at_include, at_qreg, at_creg, at_gates}
use Rattle.qasm.specs.Reading.{Try, got, failed, blank, take_gate, and_then, Gates, gates, bad, more, gates_by, gates_from, is_empty, finish, Done, Register, take_version, take_include, take_register}
use Rattle.qasm.specs.Types.{BadText, NoGateRoom}
use Rattle.qasm.specs.Names.{word_qreg, word_creg}
use Rattle.qasm.specs.Answers.{words_of, program_of, answer_of, left_in}
use borrow.Author.Tests.{lt-ltb, le-ltb}
use Rattle.qasm.specs.Code.Rest.{tallied}
use Rattle.qasm.proofs.Tries.{then-got}
use Rattle.qasm.proofs.Grammar.Lengths.{gate-blank}
use Rattle.qasm.proofs.Grammar.Steps.{step_shorter, step_at, onward}

-- a gate takes a byte at least
pub gate_shorter : (q c text : List ℕ) (g : Record) (after : List ℕ) → take_gate q c text ≡ got g after → length after < length text
unfolding step_at
gate_shorter q c text g after e = step_shorter (at_gates q 0 c 0) text (record { stage = at_gates q 0 c 0; made = g ∷ [] }) after (step e)
  where
    step : take_gate q c text ≡ got g after → step_at (at_gates q 0 c 0) text ≡ got (record { stage = at_gates q 0 c 0; made = g ∷ [] }) after
    step e = ap (λ z. and_then z (λ g r. got (record { stage = at_gates q 0 c 0; made = g ∷ [] }) r)) e ∙ then-got g after _

-- so many gates before
abbrev pub shifted : ℕ → Result ℕ ℕ → Result ℕ ℕ
shifted n (Ok m) = Ok (n + m)
shifted n (Err k) = Err k

pub count_start : (x : Result ℕ ℕ) → x ≡ shifted 0 x
count_start (Ok m) = ap Ok (sym (zero-add m))
count_start (Err k) = refl

pub gates_end : (f : ℕ) (q c text : List ℕ) → length (blank text) ≡ 0 → gates_from f q c text ≡ gates []
gates_end zero q c text e = refl
gates_end (suc f) q c text e = go (blank text) e
  where
    go : (here : List ℕ) → length here ≡ 0 → cond (is_empty here) (gates []) (gates_by (take_gate q c here) (λ r. gates_from f q c r) (length here)) ≡ gates []
    go [] e = refl
    go (b ∷ r) e = absurd (omega arith)

pub gates_some : (f : ℕ) (q c text : List ℕ) → 0 < length (blank text) → 0 < f
    → gates_from f q c text ≡ gates_by (take_gate q c (blank text)) (λ r. gates_from (f - 1) q c r) (length (blank text))
gates_some zero q c text h k = absurd (omega arith)
gates_some (suc f) q c text h k = go (blank text) h ∙ ap (λ n. gates_by (take_gate q c (blank text)) (λ r. gates_from n q c r) (length (blank text))) (pred f)
  where
    pred : (f : ℕ) → f ≡ suc f - 1
    pred f = omega arith

    go : (here : List ℕ) → 0 < length here
        → cond (is_empty here) (gates []) (gates_by (take_gate q c here) (λ r. gates_from f q c r) (length here)) ≡ gates_by (take_gate q c here) (λ r. gates_from f q c r) (length here)
    go [] h = absurd (omega arith)
    go (b ∷ r) h = refl

pub shifted_more : (n : ℕ) (g : Record) (x : Gates) → shifted n (tallied (more g x)) ≡ shifted (n + 1) (tallied x)
shifted_more n g (gates gs) = ap Ok (shift n (length gs))
  where
    shift : (n m : ℕ) → n + suc m ≡ n + 1 + m
    shift n m = omega arith
shifted_more n g (bad k) = refl

-- one gate further
pub counted : {x : Result ℕ ℕ} (q c rest here after : List ℕ) (n f : ℕ) (g : Record) → n + length rest ≤ f → length here ≤ length rest → 0 < length here → here ≡ blank rest
    → take_gate q c here ≡ got g after → x ≡ shifted n (tallied (gates_from (f - n) q c rest)) → x ≡ shifted (n + 1) (tallied (gates_from (f - (n + 1)) q c after))
counted q c rest here after n f g room small some same taken so_far = so_far ∙ ap (λ z. shifted n (tallied z)) step ∙ shifted_more n g (gates_from (f - n - 1) q c after)
    ∙ ap (λ m. shifted (n + 1) (tallied (gates_from m q c after))) less
  where
    less : f - n - 1 ≡ f - (n + 1)
    less = omega arith

    step : gates_from (f - n) q c rest ≡ more g (gates_from (f - n - 1) q c after)
    step = gates_some (f - n) q c rest (rw (← same) some) (omega arith)
        ∙ ap (λ z. gates_by (take_gate q c z) (λ r. gates_from (f - n - 1) q c r) (length z)) (sym same)
        ∙ ap (λ z. gates_by z (λ r. gates_from (f - n - 1) q c r) (length here)) taken

-- the first statement outside
pub counted_bad : {x : Result ℕ ℕ} (q c rest here : List ℕ) (n f : ℕ) → n + length rest ≤ f → length here ≤ length rest → 0 < length here → here ≡ blank rest
    → take_gate q c here ≡ failed → x ≡ shifted n (tallied (gates_from (f - n) q c rest)) → x ≡ Err (length here)
counted_bad q c rest here n f room small some same taken so_far = so_far ∙ ap (λ z. shifted n (tallied z)) step
  where
    step : gates_from (f - n) q c rest ≡ bad (length here)
    step = gates_some (f - n) q c rest (rw (← same) some) (omega arith)
        ∙ ap (λ z. gates_by (take_gate q c z) (λ r. gates_from (f - n - 1) q c r) (length z)) (sym same)
        ∙ ap (λ z. gates_by z (λ r. gates_from (f - n - 1) q c r) (length here)) taken

pub counted_all : {x : Result ℕ ℕ} (q c rest : List ℕ) (n f : ℕ) → length (blank rest) ≡ 0 → x ≡ shifted n (tallied (gates_from (f - n) q c rest)) → x ≡ Ok n
counted_all q c rest n f e so_far = so_far ∙ ap (λ z. shifted n (tallied z)) (gates_end (f - n) q c rest e) ∙ ap Ok (add-zero n)

-- ---- pass two

none_is_some : (g : Record) (gs : List Record) → gates [] ≡ gates (g ∷ gs) → ⊥
none_is_some g gs e = let z : ◌≡◌ {A = ℕ} 0 1 = cc in omega arith

bad_is_some : (k : ℕ) (gs : List Record) → bad k ≡ gates gs → ⊥
bad_is_some k gs e = let z : ◌≡◌ {A = ℕ} 0 1 = cc in omega arith

more_inv : (g : Record) (x : Gates) (g₀ : Record) (gs : List Record) → more g x ≡ gates (g₀ ∷ gs) → (g ≡ g₀) × (x ≡ gates gs)
more_inv g (gates hs) g₀ gs e = (cc, cc)
more_inv g (bad k) g₀ gs e = absurd (bad_is_some k (g₀ ∷ gs) e)

-- what was read is the first gate, and the others are left
abbrev pub First : ℕ → List ℕ → List ℕ → Record → List Record → Try Record → Type 0
First f q c g₀ gs failed = ⊥
First f q c g₀ gs (got g after) = (g ≡ g₀) × (gates_from (f - 1) q c after ≡ gates gs)

pub first_gate : (f : ℕ) (q c rest : List ℕ) (g₀ : Record) (gs : List Record) → gates_from f q c rest ≡ gates (g₀ ∷ gs) → First f q c g₀ gs (take_gate q c rest)
first_gate zero q c rest g₀ gs e = absurd (none_is_some g₀ gs e)
first_gate (suc f) q c rest g₀ gs e = go (blank rest) (gate-blank q c rest) e
  where
    pred : (f : ℕ) → f ≡ suc f - 1
    pred f = omega arith

    step : (n : ℕ) (x : Try Record) → gates_by x (λ r. gates_from f q c r) n ≡ gates (g₀ ∷ gs) → First (suc f) q c g₀ gs x
    step n failed e = bad_is_some n (g₀ ∷ gs) e
    step n (got g t) e = ((more_inv g (gates_from f q c t) g₀ gs e).0, ap (λ n. gates_from n q c t) (sym (pred f)) ∙ (more_inv g (gates_from f q c t) g₀ gs e).1)

    go : (here : List ℕ) → take_gate q c here ≡ take_gate q c rest
        → cond (is_empty here) (gates []) (gates_by (take_gate q c here) (λ r. gates_from f q c r) (length here)) ≡ gates (g₀ ∷ gs) → First (suc f) q c g₀ gs (take_gate q c rest)
    go [] s e = absurd (none_is_some g₀ gs e)
    go (b ∷ r) s e = step (length (b ∷ r)) (take_gate q c rest) (ap (λ z. gates_by z (λ r. gates_from f q c r) (length (b ∷ r))) (sym s) ∙ e)

-- ---- words

words_append : (gs : List Record) (g : Record) → words_of (gs ++ (g ∷ [])) ≡ words_of gs ++ (g.kind ∷ g.a ∷ g.b ∷ g.c ∷ [])
words_append [] g = refl
words_append (h ∷ gs) g = ap (λ z. h.kind ∷ h.a ∷ h.b ∷ h.c ∷ z) (words_append gs g)

words-length : (gs : List Record) → length (words_of gs) ≡ 4 * length gs
words-length [] = refl
words-length (g ∷ gs) = ap (λ n. suc (suc (suc (suc n)))) (words-length gs) ∙ four-more (length gs)
  where
    four-more : (n : ℕ) → suc (suc (suc (suc (4 * n)))) ≡ 4 * suc n
    four-more n = omega arith

abbrev pub no_record : Record
no_record = record_of 0 0 0 0

-- as far as the records i
abbrev pub Written : List Record → ℕ → List ℕ → List ℕ → Type 0
Written gs i ws₀ ws = ws ≡ words_of (take i gs) ++ drop (4 * i) ws₀

pub written_none : (gs : List Record) (ws : List ℕ) → Written gs 0 ws ws
written_none gs ws = refl

length_taken : (i : ℕ) (gs : List Record) → i ≤ length gs → length (take i gs) ≡ i
length_taken zero gs h = refl
length_taken (suc i) [] h = absurd (omega arith)
length_taken (suc i) (g ∷ gs) h = ap suc (length_taken i gs (omega arith))

module _ (gs : List Record) (i k : ℕ) (ws₀ ws : List ℕ) (g : Record) (h : i < length gs) (same : g ≡ get_or gs i no_record) (room : k + 4 ≤ length ws) (at : k ≡ 4 * i)
    (w : Written gs i ws₀ ws) where
  before-length : length (words_of (take i gs)) ≡ 4 * i
  before-length = words-length (take i gs) ∙ ap (λ n. 4 * n) (length_taken i gs (omega arith))

  rest : drop (k + 4) ws ≡ drop (4 * (i + 1)) ws₀
  rest = ap (drop (k + 4)) w ∙ ap (λ n. drop n (words_of (take i gs) ++ drop (4 * i) ws₀)) (ap (λ n. n + 4) (at ∙ sym before-length))
      ∙ drop-append-add (words_of (take i gs)) (drop (4 * i) ws₀) 4 ∙ drop-drop 4 (4 * i) ws₀ ∙ ap (λ n. drop n ws₀) (next i)
    where
      next : (i : ℕ) → 4 * i + 4 ≡ 4 * (i + 1)
      next i = omega arith

  front : take k ws ≡ words_of (take i gs)
  front = ap (take k) w ∙ take_at (words_of (take i gs)) (drop (4 * i) ws₀) k (before-length ∙ sym at)

  grown : words_of (take (i + 1) gs) ≡ words_of (take i gs) ++ (g.kind ∷ g.a ∷ g.b ∷ g.c ∷ [])
  grown = ap (λ z. words_of (take z gs)) (add-one i) ∙ ap words_of (take-suc gs i no_record h) ∙ words_append (take i gs) (get_or gs i no_record)
      ∙ ap (λ g. words_of (take i gs) ++ (g.kind ∷ g.a ∷ g.b ∷ g.c ∷ [])) (sym same)

  pub written_on : Written gs (i + 1) ws₀ (sets ws k (g.kind ∷ g.a ∷ g.b ∷ g.c ∷ []))
  written_on = sets-eq (g.kind ∷ g.a ∷ g.b ∷ g.c ∷ []) ws k room ∙ ap₂ (λ x y. x ++ (g.kind ∷ g.a ∷ g.b ∷ g.c ∷ []) ++ y) front rest
      ∙ ap (λ z. z ++ drop (4 * (i + 1)) ws₀) (sym grown)

pub written_all : (gs : List Record) (i n : ℕ) (ws₀ ws : List ℕ) → length gs ≡ n → i ≡ n → Written gs i ws₀ ws → ws ≡ words_of gs ++ drop (4 * n) ws₀
written_all gs i n ws₀ ws e f w = w ∙ ap₂ (λ x y. words_of x ++ drop (4 * y) ws₀) (ap (λ z. take z gs) (f ∙ sym e) ∙ whole gs) f
  where
    whole : (gs : List Record) → take (length gs) gs ≡ gs
    whole [] = refl
    whole (g ∷ gs) = ap (λ z. g ∷ z) (whole gs)

-- where the first gates are written, the next is the one that is read
pub no_gate : (q c rest : List ℕ) (f i : ℕ) (gs : List Record) → i < length gs → gates_from (f - i) q c rest ≡ gates (drop i gs) → take_gate q c rest ≡ failed → ⊥
no_gate q c rest f i gs h e k = subst (First (f - i) q c (get_or gs i no_record) (drop (suc i) gs)) k
    (first_gate (f - i) q c rest (get_or gs i no_record) (drop (suc i) gs) (e ∙ ap gates (drop-cons gs i no_record h)))

pub next_gate : (q c rest after : List ℕ) (f i : ℕ) (g : Record) (gs : List Record) → i < length gs → gates_from (f - i) q c rest ≡ gates (drop i gs) → take_gate q c rest ≡ got g after
    → (g ≡ get_or gs i no_record) × (gates_from (f - (i + 1)) q c after ≡ gates (drop (i + 1) gs))
next_gate q c rest after f i g gs h e k = (first.0, ap (λ n. gates_from n q c after) less ∙ first.1 ∙ ap (λ z. gates (drop z gs)) (sym (add-one i)))
  where
    first : (g ≡ get_or gs i no_record) × (gates_from (f - i - 1) q c after ≡ gates (drop (suc i) gs))
    first = subst (First (f - i) q c (get_or gs i no_record) (drop (suc i) gs)) k
        (first_gate (f - i) q c rest (get_or gs i no_record) (drop (suc i) gs) (e ∙ ap gates (drop-cons gs i no_record h)))

    less : f - (i + 1) ≡ f - i - 1
    less = omega arith

-- ---- the answer

err_ok : (k n : ℕ) → ◌≡◌ {A = Result ℕ ℕ} (Err k) (Ok n) → ⊥
err_ok k n e = let z : ◌≡◌ {A = ℕ} 0 1 = cc in omega arith

err_err : (k j : ℕ) → ◌≡◌ {A = Result ℕ ℕ} (Err k) (Err j) → k ≡ j
err_err k j e = cc

ok_ok : (k j : ℕ) → ◌≡◌ {A = Result ℕ ℕ} (Ok k) (Ok j) → k ≡ j
ok_ok k j e = cc

module _ (all n m : ℕ) where
  pub bad_value : (x : Gates) (k room : ℕ) → Err k ≡ tallied x → Err (BadText (all - k)) ≡ answer_of (finish all n m x) room
  unfolding answer_of
  bad_value (gates gs) k room e = absurd (err_ok k (length gs) e)
  bad_value (bad j) k room e = ap (λ z. Err (BadText (all - z))) (err_err k j e)

  pub bad_words : (x : Gates) (k : ℕ) (ws : List ℕ) → Err k ≡ tallied x → ws ≡ left_in (finish all n m x) ws
  unfolding left_in
  bad_words (gates gs) k ws e = absurd (err_ok k (length gs) e)
  bad_words (bad j) k ws e = refl

  pub full_value : (x : Gates) (count room : ℕ) → Ok count ≡ tallied x → room / 4 < count → Err NoGateRoom ≡ answer_of (finish all n m x) room
  unfolding answer_of
  full_value (gates gs) count room e h = rw (← ok_ok count (length gs) e, lt-ltb (room / 4) count h)
  full_value (bad j) count room e h = absurd (err_ok j count (sym e))

  pub full_words : (x : Gates) (count : ℕ) (ws : List ℕ) → Ok count ≡ tallied x → length ws / 4 < count → ws ≡ left_in (finish all n m x) ws
  unfolding left_in
  full_words (gates gs) count ws e h = rw (← ok_ok count (length gs) e, lt-ltb (length ws / 4) count h)
  full_words (bad j) count ws e h = absurd (err_ok j count (sym e))

  pub whole_value : (x : Gates) (count room : ℕ) → Ok count ≡ tallied x → count ≤ room / 4 → Ok (program_of count n m) ≡ answer_of (finish all n m x) room
  unfolding answer_of
  whole_value (gates gs) count room e h = rw (← ok_ok count (length gs) e, le-ltb (room / 4) count h)
  whole_value (bad j) count room e h = absurd (err_ok j count (sym e))

  pub whole_words : (x : Gates) (count : ℕ) (ws after : List ℕ) → Ok count ≡ tallied x → count ≤ length ws / 4
      → ((gs : List Record) → x ≡ gates gs → length gs ≡ count → after ≡ words_of gs ++ drop (4 * count) ws) → after ≡ left_in (finish all n m x) ws
  unfolding left_in
  whole_words (gates gs) count ws after e h f = rw (← ok_ok count (length gs) e, le-ltb (length ws / 4) count h) (f gs refl (sym (ok_ok count (length gs) e)))
  whole_words (bad j) count ws after e h f = absurd (err_ok j count (sym e))

-- ---- each statement takes a byte at least

pub version_shorter : (text after : List ℕ) (u : Done) → take_version text ≡ got u after → length after < length text
unfolding step_at
version_shorter text after u e = step_shorter at_version text (onward at_include []) after (ap (λ z. and_then z (λ u r. got (onward at_include []) r)) e ∙ then-got u after _)

pub include_shorter : (text after : List ℕ) (u : Done) → take_include text ≡ got u after → length after < length text
unfolding step_at
include_shorter text after u e = step_shorter at_include text (onward at_qreg []) after (ap (λ z. and_then z (λ u r. got (onward at_qreg []) r)) e ∙ then-got u after _)

pub qreg_shorter : (text after : List ℕ) (q : Register) → take_register word_qreg [] text ≡ got q after → length after < length text
unfolding step_at
qreg_shorter text after q e = step_shorter at_qreg text (onward (at_creg q.name q.size) []) after (ap (λ z. and_then z (λ q r. got (onward (at_creg q.name q.size) []) r)) e ∙ then-got q after _)

pub creg_shorter : (text other after : List ℕ) (c : Register) → take_register word_creg other text ≡ got c after → length after < length text
unfolding step_at
creg_shorter text other after c e = step_shorter (at_creg other 0) text (onward (at_gates other 0 c.name c.size) []) after
    (ap (λ z. and_then z (λ c r. got (onward (at_gates other 0 c.name c.size) []) r)) e ∙ then-got c after _)
