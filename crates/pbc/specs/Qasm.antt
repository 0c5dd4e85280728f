-- The command `qasm`: how a line's hex digits are kept in its words, the text that a line holds, and what is answered.
use Rattle.std.specs.Prelude.{◌≡◌, ℕ, zero, suc, ◌+◌, ◌-◌, ◌*◌, ◌/◌, ◌%◌, ◌<◌, ◌≤◌, Bool, cond, ◌&&◌, List, [], ◌∷◌, ◌++◌, length, take, drop, ◌==◌, nat_le, nat_lt, slice_index, slice_index_or, slice_set, Option, Some, None, Result, Ok, Err}
use Rattle.qasm.specs.Reading.{reading}
use Rattle.qasm.specs.declared.program.Program.{Program}
use Rattle.qasm.specs.Answers.{answer_of, left_in}
use Rattle.pbc.specs.Names.{name_bytes, is_name}
use Rattle.pbc.specs.Buffers.{copied}
use Rattle.pbc.specs.State.{CommandState, LineReply, Bad, Gates, says_of, refused_of}
use Rattle.pbc.specs.Lines.{Line, Token, Hex, spoilt_line, between_line, has_numbers}
use Rattle.qasm.specs.Types.{PbcError}

-- ---- hex digits and bytes

-- 0 to 9 and a to f
unfoldable pub digit_of : ℕ → Option ℕ
digit_of b = cond (nat_lt b 48) None (cond (nat_le b 57) (Some (b - 48)) (cond (nat_lt b 97) None (cond (nat_le b 102) (Some (b - 87)) None)))

abbrev pub byte_of : (high low : ℕ) → ℕ
byte_of high low = 16 * (high % 16) + low % 16

-- ---- four bytes a word, the first the least

-- a word with a byte at one of its places; those after it become 0
unfoldable pub word_with : (place word byte : ℕ) → ℕ
word_with p w b =
    cond (p == 0) b (cond (p == 1) (w % 256 + 256 * b) (cond (p == 2) (w % 65536 + 65536 * b) (w % 16777216 + 16777216 * b)))

unfoldable pub byte_at : (place word : ℕ) → ℕ
byte_at p w = cond (p == 0) (w % 256) (cond (p == 1) (w / 256 % 256) (cond (p == 2) (w / 65536 % 256) (w / 16777216)))

-- ---- the bytes of a text, from word 1 on

unfoldable pub packed_byte : List ℕ → (k byte : ℕ) → List ℕ
packed_byte ws k b = slice_set ws (1 + k / 4) (word_with (k % 4) (slice_index ws (1 + k / 4)) b)

unfoldable pub byte_in : List ℕ → ℕ → ℕ
byte_in ws k = byte_at (k % 4) (slice_index ws (1 + k / 4))

-- the first n bytes
unfoldable pub text_in : List ℕ → ℕ → List ℕ
text_in ws zero = []
text_in ws (suc n) = text_in ws n ++ byte_in ws n ∷ []

-- ---- while the line is read

-- hex digit k, after another: the second of a byte stores it
unfoldable pub packed_digit : List ℕ → (k before digit : ℕ) → List ℕ
packed_digit ws k before digit = cond (k % 2 == 1) (packed_byte ws (k / 2) (byte_of before digit)) ws

-- the command `qasm`
unfoldable pub has_text : Line → Bool
has_text l = is_name (name_bytes l.name) (113 ∷ 97 ∷ 115 ∷ 109 ∷ [])

-- after `qasm` and a number
unfoldable pub awaits_hex : Line → Bool
awaits_hex l = (has_text l && l.numbers == 1) && l.digits == 0

-- one digit more is read as a part of the text
abbrev pub digit_line : Line → ℕ → Line
digit_line l digit = record l { token = Hex digit; digits = l.digits + 1 }

abbrev pub last_digit : Token → ℕ
last_digit (Hex digit) = digit
last_digit t = 0

-- what is no hex digit spoils the line, and so does a digit after those of 1,048,576 bytes
abbrev pub line_with : Line → Option ℕ → Line
line_with l None = spoilt_line l
line_with l (Some digit) = cond (nat_lt l.digits 2097152) (digit_line l digit) (spoilt_line l)

unfoldable pub hex_line : Line → ℕ → Line
hex_line l byte = line_with l (digit_of byte)

abbrev pub words_with : Line → Option ℕ → List ℕ → List ℕ
words_with l None ws = ws
words_with l (Some digit) ws = cond (nat_lt l.digits 2097152) (packed_digit ws l.digits (last_digit l.token) digit) ws

unfoldable pub hex_words : Line → ℕ → List ℕ → List ℕ
hex_words l byte ws = words_with l (digit_of byte) ws

-- two digits a byte
unfoldable pub hex_ended : Line → Line
hex_ended l = cond (l.digits % 2 == 1) (spoilt_line l) (between_line l)

-- ---- the answer

-- one number, at most 262,148, and a text of at most 1,048,576 bytes
unfoldable pub text_fits : Line → List ℕ → Bool
text_fits l ws = (has_numbers l 1 && nat_le l.digits 2097152) && nat_le (slice_index ws 0) 262148

abbrev pub text_of : Line → List ℕ → List ℕ
text_of l ws = text_in ws (l.digits / 2)

abbrev pub read_line : CommandState → Result Program PbcError → LineReply
read_line s (Ok p) = says_of s (Gates p.qubits p.cbits p.gates)
read_line s (Err e) = refused_of s e

pub record TextRead : Type 0 where
  pub reply : LineReply
  pub words : List ℕ
  pub letters : List ℕ

abbrev pub text_read : LineReply → (words letters : List ℕ) → TextRead
text_read r ws letters = record { reply = r; words = ws; letters = letters }

-- the text stands in the letters, and what is read of it in the first words of the line
abbrev pub text_command : CommandState → (text : List ℕ) (room : ℕ) (ws letters : List ℕ) → TextRead
text_command s text room ws letters = text_read
    (read_line s (answer_of (reading text) room)) (left_in (reading text) (take room ws) ++ drop room ws) (copied text letters)

unfoldable pub qasm_command : CommandState → Line → (ws letters : List ℕ) → TextRead
qasm_command s l ws letters = cond (text_fits l ws) (text_command s (text_of l ws) (slice_index ws 0) ws letters) (text_read (says_of s Bad) ws letters)

-- ---- claimed, and proved in proofs/TextKept.antt: a line that reads the hex digits of a text holds the text

abbrev pub hex_digit : ℕ → ℕ
hex_digit d = cond (nat_lt d 10) (48 + d) (87 + d)

-- two digits a byte, the higher first
abbrev pub hex_of : List ℕ → List ℕ
hex_of [] = []
hex_of (b ∷ bs) = hex_digit (b / 16) ∷ hex_digit (b % 16) ∷ hex_of bs

pub record Hexed : Type 0 where
  pub line : Line
  pub words : List ℕ

-- after these bytes of its text
unfoldable pub hexed : Line → (ws bytes : List ℕ) → Hexed
hexed l ws [] = record { line = l; words = ws }
hexed l ws (b ∷ bs) = hexed (hex_line l b) (hex_words l b ws) bs

pub record Holds (text : List ℕ) (l : Line) (ws : List ℕ) (h : Hexed) : Type 0 where
  pub good : h.line.bad ≡ l.bad
  pub room : slice_index_or h.words 0 0 ≡ slice_index ws 0
  pub kept : text_of h.line h.words ≡ text

abbrev pub TextKept : Type 0
TextKept = (text ws : List ℕ) (l : Line) → l.digits ≡ 0 → ((i : ℕ) → slice_index text i < 256) → length text ≤ 1048576 → 262145 ≤ length ws
    → Holds text l ws (hexed l ws (hex_of text))
