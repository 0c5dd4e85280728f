-- The texts of the subset: statements in their order, what a text says, and where it stops.
use Rattle.std.specs.Prelude.{◌≡◌, ◌≢◌, Bool, true, false, List, [], ◌∷◌, ◌++◌, ℕ, ◌+◌, ◌≤◌, ◌<◌, length, get_or}
use Rattle.qasm.specs.Tokens.{Blank, Ends, solid, Token, Laid, word, number}
use Rattle.qasm.specs.Names.{semicolon, opening, closing, comma, arrow, version, library, word_openqasm, word_include, word_qreg, word_creg, word_measure, Named, gate_names, is_name}

-- a gate record: the number of its kind and three words
pub record Record : Type 0 where
  pub kind : ℕ
  pub a : ℕ
  pub b : ℕ
  pub c : ℕ

abbrev pub record_of : ℕ → ℕ → ℕ → ℕ → Record
record_of k a b c = record { kind = k; a = a; b = b; c = c }

-- what has been read: nothing, the version, the include, the qreg, the creg
pub data Stage : Type 0 where
  at_version at_include at_qreg : Stage
  at_creg : (q : List ℕ) (qubits : ℕ) → Stage
  at_gates : (q : List ℕ) (qubits : ℕ) (c : List ℕ) (bits : ℕ) → Stage

-- a bit of a register, or a register with its size: the name, then a number in brackets
abbrev pub bit : List ℕ → ℕ → List Token → List Token
bit name i ts = word name ∷ opening ∷ number i ∷ closing ∷ ts

-- up to 4,294,967,295
abbrev pub Fits : ℕ → Type 0
Fits v = v < 4294967296

-- a statement at a stage, the stage after it, and the gates that it makes; g is the name at place k of the table
pub data Statement : Stage → List Token → Stage → List Record → Type 0 where
  version_line : Statement at_version (word word_openqasm ∷ version ∷ semicolon ∷ []) at_include []
  include_line : Statement at_include (word word_include ∷ library ∷ semicolon ∷ []) at_qreg []
  qreg_line : (q : List ℕ) (n : ℕ) → is_name q ≡ true → Fits n → 1 ≤ n
      → Statement at_qreg (word word_qreg ∷ bit q n (semicolon ∷ [])) (at_creg q n) []
  creg_line : (q c : List ℕ) (n m : ℕ) → is_name c ≡ true → c ≢ q → Fits m → 1 ≤ m
      → Statement (at_creg q n) (word word_creg ∷ bit c m (semicolon ∷ [])) (at_gates q n c m) []
  measure_line : (q c : List ℕ) (n m i j : ℕ) → Fits i → Fits j
      → Statement (at_gates q n c m) (word word_measure ∷ bit q i (arrow ∷ bit c j (semicolon ∷ []))) (at_gates q n c m) (record_of 12 i j 0 ∷ [])
  one_line : (q c : List ℕ) (n m i k : ℕ) (g : Named) → get_or gate_names k g ≡ g → k < 12 → g.qubits ≡ 1 → Fits i
      → Statement (at_gates q n c m) (word g.name ∷ bit q i (semicolon ∷ [])) (at_gates q n c m) (record_of g.kind i 0 0 ∷ [])
  two_line : (q c : List ℕ) (n m i j k : ℕ) (g : Named) → get_or gate_names k g ≡ g → k < 12 → g.qubits ≡ 2 → Fits i → Fits j
      → Statement (at_gates q n c m) (word g.name ∷ bit q i (comma ∷ bit q j (semicolon ∷ []))) (at_gates q n c m) (record_of g.kind i j 0 ∷ [])
  three_line : (q c : List ℕ) (n m i j l k : ℕ) (g : Named) → get_or gate_names k g ≡ g → k < 12 → g.qubits ≡ 3 → Fits i → Fits j → Fits l
      → Statement (at_gates q n c m) (word g.name ∷ bit q i (comma ∷ bit q j (comma ∷ bit q l (semicolon ∷ [])))) (at_gates q n c m) (record_of g.kind i j l ∷ [])

-- whole statements, from a stage and a text to a stage and what is left
pub data Statements : Stage → List ℕ → Stage → List ℕ → List Record → Type 0 where
  none_more : {s : Stage} {rest : List ℕ} → Statements s rest s rest []
  one_more : {s s₁ s₂ : Stage} {ts : List Token} {text mid rest : List ℕ} {gs hs all : List Record}
      → Statement s ts s₁ gs → Laid ts text mid → Statements s₁ mid s₂ rest hs → all ≡ gs ++ hs → Statements s text s₂ rest all

-- the text is of the subset: these sizes, these gates
pub record Says (text : List ℕ) (qubits bits : ℕ) (gates : List Record) : Type 0 where
  pub q : List ℕ
  pub c : List ℕ
  pub end : List ℕ
  pub read : Statements at_version text (at_gates q qubits c bits) end gates
  pub rest : Ends end

abbrev pub before_gates : Stage → Bool
before_gates at_version = true
before_gates at_include = true
before_gates at_qreg = true
before_gates (at_creg q n) = true
before_gates (at_gates q n c m) = false

-- no statement of this stage begins the text
abbrev pub NoStatement : Stage → List ℕ → Type 0
NoStatement stage text = (ts : List Token) (s : Stage) (gs : List Record) (left : List ℕ) → Statement stage ts s gs → Laid ts text left → ⊥

-- the text is of the subset up to this place, where a statement outside begins, or it ends there before the gates
pub data Stops (text : List ℕ) (place : ℕ) : Type 0 where
  outside : {stage : Stage} {after rest : List ℕ} {gates : List Record}
      → Statements at_version text stage after gates → Blank after rest → solid rest ≡ true → NoStatement stage rest → place + length rest ≡ length text → Stops text place
  short : {stage : Stage} {after : List ℕ} {gates : List Record}
      → Statements at_version text stage after gates → Ends after → before_gates stage ≡ true → place ≡ length text → Stops text place
