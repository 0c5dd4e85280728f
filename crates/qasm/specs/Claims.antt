-- What is claimed of the reader: it answers what the text says, and refuses at the place where the text stops, and so decides every text in one way.
use Rattle.std.specs.Prelude.{◌≡◌, List, ◌++◌, ℕ, ◌*◌, ◌≤◌, ◌<◌, length, drop, Result, Ok, Err}
use Rattle.qasm.specs.Types.{PbcError, BadText, NoGateRoom}
use Rattle.qasm.specs.Text.{Record, Says, Stops}
use Rattle.qasm.specs.Reading.{Read, program, bad_text}
use Rattle.qasm.specs.Answers.{Program, program_of, words_of}

-- sizes and gates exactly if the text says them, a place exactly if the text stops there
pub record Exact (reading : List ℕ → Read) : Type 0 where
  -- what is answered, the text says
  pub sound : (text : List ℕ) (qubits bits : ℕ) (gs : List Record) → reading text ≡ program qubits bits gs → Says text qubits bits gs
  -- what the text says, is answered
  pub complete : (text : List ℕ) (qubits bits : ℕ) (gs : List Record) → Says text qubits bits gs → reading text ≡ program qubits bits gs
  -- where it is refused, the text stops
  pub refuses : (text : List ℕ) (place : ℕ) → reading text ≡ bad_text place → Stops text place
  -- where the text stops, it is refused
  pub refused : (text : List ℕ) (place : ℕ) → Stops text place → reading text ≡ bad_text place

-- the text says this, nothing else, and does not stop
pub record OneReading (text : List ℕ) (qubits bits : ℕ) (gs : List Record) : Type 0 where
  pub says : Says text qubits bits gs
  pub alone : (n m : ℕ) (hs : List Record) → Says text n m hs → (n ≡ qubits) × ((m ≡ bits) × (hs ≡ gs))
  pub goes_on : (place : ℕ) → Stops text place → ⊥

-- the text stops at this place, at no other, and says nothing
pub record OnePlace (text : List ℕ) (place : ℕ) : Type 0 where
  pub stops : Stops text place
  pub alone : (k : ℕ) → Stops text k → k ≡ place
  pub says_nothing : (qubits bits : ℕ) (gs : List Record) → Says text qubits bits gs → ⊥

pub data Decided (text : List ℕ) : Type 0 where
  read : {qubits bits : ℕ} {gs : List Record} → OneReading text qubits bits gs → Decided text
  refused : {place : ℕ} → OnePlace text place → Decided text

-- the answer to a text with these words lent, and the words after: by what the text says and where it stops alone
pub record Answers (text words : List ℕ) (answer : Result Program PbcError) (after : List ℕ) : Type 0 where
  pub bad : (place : ℕ) → Stops text place → (answer ≡ Err (BadText place)) × (after ≡ words)
  pub full : (qubits bits : ℕ) (gs : List Record) → Says text qubits bits gs → length words < 4 * length gs → (answer ≡ Err NoGateRoom) × (after ≡ words)
  pub whole : (qubits bits : ℕ) (gs : List Record) → Says text qubits bits gs → 4 * length gs ≤ length words
      → (answer ≡ Ok (program_of (length gs) qubits bits)) × (after ≡ words_of gs ++ drop (4 * length gs) words)
