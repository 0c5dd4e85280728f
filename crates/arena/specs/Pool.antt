-- The pool (document 01, "Factor pool and work"): record r is the three words at 3r, next, qubit and letter; a next of 0 ends a chain.
-- Who holds a record is a function `who`, which no code holds:
-- `loose` is a record between two holders, `spare n` the n-th record of the free list, counted from its end, and `held t q` the record of the chain t for the qubit q.
-- So two chains of different tags share no record, a chain never meets itself, since its qubits rise, and the free list never, since its places fall.
use Rattle.std.specs.Prelude.{◌≡◌, List, [], ◌∷◌, ℕ, zero, suc, ◌+◌, ◌*◌, ◌≤◌, ◌<◌, length, get_or, ◌≢◌}
use Rattle.pauli.specs.Letters.{pauli_number}
use Rattle.arena.specs.Types.{I}
use Rattle.arena.specs.Sparse.{Factor}

pub data Owner : Type 0 where
  loose : Owner
  spare : ℕ → Owner
  held : ℕ → ℕ → Owner

abbrev pub Who : Type 0
Who = ℕ → Owner

abbrev pub next_at : List ℕ → ℕ → ℕ
next_at p r = get_or p (3 * r) 0

abbrev pub qubit_at : List ℕ → ℕ → ℕ
qubit_at p r = get_or p (3 * r + 1) 0

abbrev pub letter_at : List ℕ → ℕ → ℕ
letter_at p r = get_or p (3 * r + 2) 0

-- r is a record that can be lent
pub record Lendable (p : List ℕ) (r : ℕ) : Type 0 where
  pub pos : 0 < r
  pub low : r < 65536
  pub room : 3 * r + 2 < length p

-- the record r is the chain t's, and holds the factor f
pub record Holds (p : List ℕ) (who : Who) (t : ℕ) (f : Factor) (r : ℕ) : Type 0 where
  pub counted : Lendable p r
  pub mine : who r ≡ held t f.qubit
  pub qubit_is : qubit_at p r ≡ f.qubit
  pub letter_is : letter_at p r ≡ pauli_number f.pauli
  pub some_letter : f.pauli ≢ I

-- from h on the chain t has the factors fs, whose qubits rise from lo on
abbrev pub Chain : List ℕ → Who → ℕ → ℕ → ℕ → List Factor → Type 0
Chain p who t lo h [] = h ≡ 0
Chain p who t lo h (f ∷ fs) = Holds p who t f h × (lo ≤ f.qubit) × Chain p who t (suc f.qubit) (next_at p h) fs

-- from h on the free list has n records
abbrev pub Free : List ℕ → Who → ℕ → ℕ → Type 0
Free p who h zero = h ≡ 0
Free p who h (suc n) = Lendable p h × (who h ≡ spare (suc n)) × Free p who (next_at p h) n
