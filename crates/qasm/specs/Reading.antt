-- The reader as a function on what is left of the text. The contract of `read_qasm` cites it, and Claims ties it to the texts.
use Rattle.std.specs.Prelude.{Bool, true, false, cond, ◌&&◌, ◌||◌, not, List, [], ◌∷◌, ℕ, zero, suc, ◌+◌, ◌*◌, ◌-◌, leb, eqb, length}
use Rattle.qasm.specs.Bytes.{white, letter, digit, word_byte, begins, same_bytes}
use Rattle.qasm.specs.Tokens.{slashed, spelled}
use Rattle.qasm.specs.Names.{semicolon, opening, closing, comma, arrow, version, library, word_openqasm, word_include, word_qreg, word_creg, word_measure, Named, gate_names, is_name}
use Rattle.qasm.specs.Text.{Record, record_of}

-- past blanks; within a comment or not
abbrev pub skip : Bool → List ℕ → List ℕ
skip false [] = []
skip false (b ∷ r) = cond (white b) (skip false r) (cond (slashed (b ∷ r)) (skip true r) (b ∷ r))
skip true [] = []
skip true (b ∷ r) = cond (eqb b 10) (skip false r) (skip true r)

unfoldable pub blank : List ℕ → List ℕ
blank text = skip false text

-- what was read, and what is left
pub data Try (A : Type 0) : Type 0 where
  got : A → List ℕ → Try A
  failed : Try A

-- nothing but what is left
pub data Done : Type 0 where
  done : Done

unfoldable pub and_then : {A B : Type 0} → Try A → (A → List ℕ → Try B) → Try B
and_then (got a r) k = k a r
and_then failed k = failed

-- as long as the bytes pass
abbrev pub taken : (ℕ → Bool) → List ℕ → List ℕ
taken f [] = []
taken f (b ∷ r) = cond (f b) (b ∷ taken f r) []

-- and what is left then
abbrev pub left : (ℕ → Bool) → List ℕ → List ℕ
left f [] = []
left f (b ∷ r) = cond (f b) (left f r) (b ∷ r)

-- these bytes, as they stand
abbrev pub prefix : List ℕ → List ℕ → Try Done
prefix [] r = got done r
prefix (s ∷ ss) [] = failed
prefix (s ∷ ss) (b ∷ r) = cond (eqb b s) (prefix ss r) failed

-- ---- tokens, past blanks

unfoldable pub take_sign : List ℕ → List ℕ → Try Done
take_sign s text = prefix s (blank text)

abbrev pub word_from : List ℕ → Try (List ℕ)
word_from text = cond (begins letter text) (got (taken word_byte text) (left word_byte text)) failed

-- begun by a letter, over all letters, digits and underscores that follow
unfoldable pub take_word : List ℕ → Try (List ℕ)
take_word text = word_from (blank text)

-- the value of digits, after a value before them
abbrev pub value_of : ℕ → List ℕ → ℕ
value_of v [] = v
value_of v (d ∷ ds) = value_of (10 * v + (d - 48)) ds

-- of one to ten digits, without leading zeros, below 2^32
abbrev pub plain_number : List ℕ → Bool
plain_number ds = leb 1 (length ds) && leb (length ds) 10 && (eqb (length ds) 1 || not (begins (λ a. eqb a 48) ds)) && leb (value_of 0 ds) 4294967295

abbrev pub number_from : List ℕ → Try ℕ
number_from text = cond (plain_number (taken digit text)) (got (value_of 0 (taken digit text)) (left digit text)) failed

unfoldable pub take_number : List ℕ → Try ℕ
take_number text = number_from (blank text)

-- this word
unfoldable pub take_this : List ℕ → List ℕ → Try Done
take_this w text = and_then (take_word text) (λ v r. cond (same_bytes v w) (got done r) failed)

-- a number in brackets
unfoldable pub take_index : List ℕ → Try ℕ
take_index text = and_then (take_sign (spelled opening) text) (λ u r. and_then (take_number r) (λ v r. and_then (take_sign (spelled closing) r) (λ u r. got v r)))

-- a bit of the register of this name
unfoldable pub take_bit : List ℕ → List ℕ → Try ℕ
take_bit name text = and_then (take_this name text) (λ u r. take_index r)

-- ---- statements

pub record Register : Type 0 where
  pub name : List ℕ
  pub size : ℕ

abbrev pub register : List ℕ → ℕ → Register
register w v = record { name = w; size = v }

-- a register of at least one bit, to the end of its statement
abbrev pub sized : List ℕ → ℕ → List ℕ → Try Register
sized w v text = cond (leb 1 v) (and_then (take_sign (spelled semicolon) text) (λ u r. got (register w v) r)) failed

-- past a name that may be taken
abbrev pub take_declared : List ℕ → Bool → List ℕ → Try Register
take_declared w free text = cond (is_name w && free) (and_then (take_index text) (λ v r. sized w v r)) failed

-- with a name that differs from another (`[]`: from none)
unfoldable pub take_register : List ℕ → List ℕ → List ℕ → Try Register
take_register keyword other text = and_then (take_this keyword text) (λ u r. and_then (take_word r) (λ w r. take_declared w (not (same_bytes w other)) r))

unfoldable pub take_version : List ℕ → Try Done
take_version text = and_then (take_this word_openqasm text) (λ u r. and_then (take_sign (spelled version) r) (λ u r. take_sign (spelled semicolon) r))

unfoldable pub take_include : List ℕ → Try Done
take_include text = and_then (take_this word_include text) (λ u r. and_then (take_sign (spelled library) r) (λ u r. take_sign (spelled semicolon) r))

-- the semicolon
unfoldable pub take_end : Record → List ℕ → Try Record
take_end g text = and_then (take_sign (spelled semicolon) text) (λ u r. got g r)

-- the operands of a gate on one qubit, on two, on three; of a measurement
unfoldable pub take_one : List ℕ → ℕ → List ℕ → Try Record
take_one q k text = and_then (take_bit q text) (λ i r. take_end (record_of k i 0 0) r)

unfoldable pub take_two : List ℕ → ℕ → List ℕ → Try Record
take_two q k text = and_then (take_bit q text) (λ i r. and_then (take_sign (spelled comma) r) (λ u r. and_then (take_bit q r) (λ j r. take_end (record_of k i j 0) r)))

unfoldable pub take_three : List ℕ → ℕ → List ℕ → Try Record
take_three q k text = and_then (take_bit q text) (λ i r. and_then (take_sign (spelled comma) r) (λ u r. and_then (take_bit q r) (λ j r.
    and_then (take_sign (spelled comma) r) (λ u r. and_then (take_bit q r) (λ l r. take_end (record_of k i j l) r)))))

unfoldable pub take_measure : List ℕ → List ℕ → List ℕ → Try Record
take_measure q c text = and_then (take_bit q text) (λ i r. and_then (take_sign (spelled arrow) r) (λ u r. and_then (take_bit c r) (λ j r. take_end (record_of 12 i j 0) r)))

abbrev pub operands_by : ℕ → List ℕ → ℕ → List ℕ → Try Record
operands_by n q k text = cond (eqb n 1) (take_one q k text) (cond (eqb n 2) (take_two q k text) (cond (eqb n 3) (take_three q k text) failed))

-- the operands by the name of the gate
abbrev pub by_name : List Named → List ℕ → List ℕ → List ℕ → Try Record
by_name [] w q text = failed
by_name (g ∷ gs) w q text = cond (same_bytes w g.name) (operands_by g.qubits q g.kind text) (by_name gs w q text)

-- what follows this word
unfoldable pub gate_by : List ℕ → List ℕ → List ℕ → List ℕ → Try Record
gate_by q c w text = cond (same_bytes w word_measure) (take_measure q c text) (by_name gate_names w q text)

unfoldable pub take_gate : List ℕ → List ℕ → List ℕ → Try Record
take_gate q c text = and_then (take_word text) (λ w r. gate_by q c w r)

-- ---- the gates: all to the end, or how many bytes are left at the first statement outside

pub data Gates : Type 0 where
  gates : List Record → Gates
  bad : ℕ → Gates

abbrev pub more : Record → Gates → Gates
more g (gates gs) = gates (g ∷ gs)
more g (bad k) = bad k

abbrev pub is_empty : List ℕ → Bool
is_empty [] = true
is_empty (b ∷ r) = false

abbrev pub gates_by : Try Record → (List ℕ → Gates) → ℕ → Gates
gates_by (got g r) next here = more g (next r)
gates_by failed next here = bad here

-- each gate takes a byte at least, so the text's length bounds their number
abbrev pub gates_from : ℕ → List ℕ → List ℕ → List ℕ → Gates
gates_from zero q c text = gates []
gates_from (suc f) q c text = cond (is_empty (blank text)) (gates []) (gates_by (take_gate q c (blank text)) (λ r. gates_from f q c r) (length (blank text)))

-- ---- the text; `all` is its length, so that a place is what is left taken from it

-- what the reader answers: sizes and gates, or a place
pub data Read : Type 0 where
  program : (qubits bits : ℕ) → List Record → Read
  bad_text : (place : ℕ) → Read

-- on, or refused here
abbrev pub or_place : {A : Type 0} → ℕ → List ℕ → Try A → (A → List ℕ → Read) → Read
or_place all text (got a r) k = k a r
or_place all text failed k = bad_text (all - length text)

abbrev pub finish : ℕ → ℕ → ℕ → Gates → Read
finish all n m (gates gs) = program n m gs
finish all n m (bad k) = bad_text (all - k)

unfoldable pub from_gates : ℕ → Register → Register → List ℕ → Read
from_gates all q c text = finish all q.size c.size (gates_from all q.name c.name text)

unfoldable pub from_creg : ℕ → Register → List ℕ → Read
from_creg all q text = or_place all (blank text) (take_register word_creg q.name (blank text)) (λ c r. from_gates all q c r)

unfoldable pub from_qreg : ℕ → List ℕ → Read
from_qreg all text = or_place all (blank text) (take_register word_qreg [] (blank text)) (λ q r. from_creg all q r)

unfoldable pub from_include : ℕ → List ℕ → Read
from_include all text = or_place all (blank text) (take_include (blank text)) (λ u r. from_qreg all r)

unfoldable pub reading : List ℕ → Read
reading text = or_place (length text) (blank text) (take_version (blank text)) (λ u r. from_include (length text) r)
