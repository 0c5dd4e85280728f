-- Tokens and the blanks between them, as a text is laid out. Nothing here reads: each says what stands between a text and what is left of it.
use Rattle.std.specs.Prelude.{◌≡◌, Bool, true, false, cond, ◌&&◌, not, List, [], ◌∷◌, ◌++◌, ℕ, zero, suc, ◌+◌, ◌/◌, ◌%◌, ltb, eqb}
use Rattle.qasm.specs.Bytes.{white, digit, word_byte, every, begins}

-- begun by two slashes
abbrev pub slashed : List ℕ → Bool
slashed [] = false
slashed (b ∷ r) = eqb b 47 && begins (λ a. eqb a 47) r

abbrev pub no_line_feed : ℕ → Bool
no_line_feed b = not (eqb b 10)

-- a text, and what is left of it past blanks: white space, and comments to the end of their line
pub data Blank : List ℕ → List ℕ → Type 0 where
  empty : {rest : List ℕ} → Blank rest rest
  space : {b : ℕ} {text rest : List ℕ} → white b ≡ true → Blank text rest → Blank (b ∷ text) rest
  comment : {text after rest : List ℕ} (c : List ℕ) → every no_line_feed c ≡ true → text ≡ 47 ∷ 47 ∷ (c ++ 10 ∷ after) → Blank after rest → Blank text rest

-- blank to its end, where a comment may lack its line feed
pub data Ends : List ℕ → Type 0 where
  closed : {text : List ℕ} → Blank text [] → Ends text
  unclosed : {text after : List ℕ} (c : List ℕ) → Blank text after → after ≡ 47 ∷ 47 ∷ c → every no_line_feed c ≡ true → Ends text

-- begun by neither white space nor a comment
abbrev pub solid : List ℕ → Bool
solid [] = false
solid (b ∷ r) = not (white b) && not (slashed (b ∷ r))

-- a word, a number, or bytes as they stand
pub data Token : Type 0 where
  word : List ℕ → Token
  number : ℕ → Token
  sign : List ℕ → Token

-- decimal, without leading zeros; ten digits are enough
abbrev pub decimal_by : ℕ → ℕ → List ℕ
decimal_by zero v = []
decimal_by (suc f) v = cond (ltb v 10) ((48 + v) ∷ []) (decimal_by f (v / 10) ++ (48 + v % 10) ∷ [])

abbrev pub spelled : Token → List ℕ
spelled (word w) = w
spelled (number v) = decimal_by 10 v
spelled (sign s) = s

-- a word or a number would run on: its bytes are all that follow
abbrev pub runs_on : Token → List ℕ → Bool
runs_on (word w) rest = begins word_byte rest
runs_on (number v) rest = begins digit rest
runs_on (sign s) rest = false

-- a text, and what is left of it past these tokens, each with blanks before it
pub data Laid : List Token → List ℕ → List ℕ → Type 0 where
  nothing : {rest : List ℕ} → Laid [] rest rest
  next : {t : Token} {ts : List Token} {text here after rest : List ℕ}
      → Blank text here → here ≡ spelled t ++ after → runs_on t after ≡ false → Laid ts after rest → Laid (t ∷ ts) text rest
