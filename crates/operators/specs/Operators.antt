-- Rows of n qubits as operators: any ring in which they are read as elements, with an eighth root of one and a half. The matrices of size 2ⁿ are one (Model).
-- The product law is asked of rows of n letters only: no finite matrices have it for rows of every width.
use Rattle.std.specs.Prelude.{◌≡◌, ℕ, zero, suc}
use Rattle.pauli.specs.Rows.{Row, Width, ◌★◌, scaled, identity}
use Rattle.operators.specs.Types.{PlusI, MinusOne}

pub record Operators (n : ℕ) : Type 1 where
  pub Op : Type 0
  pub none : Op
  pub one : Op
  pub root : Op
  pub half : Op
  pub plus : Op → Op → Op
  pub times : Op → Op → Op
  pub read : Row → Op
  pub plus_assoc : (a b c : Op) → plus (plus a b) c ≡ plus a (plus b c)
  pub plus_comm : (a b : Op) → plus a b ≡ plus b a
  pub plus_none : (a : Op) → plus a none ≡ a
  pub times_assoc : (a b c : Op) → times (times a b) c ≡ times a (times b c)
  pub one_left : (a : Op) → times one a ≡ a
  pub one_right : (a : Op) → times a one ≡ a
  pub none_left : (a : Op) → times none a ≡ none
  pub none_right : (a : Op) → times a none ≡ none
  pub from_left : (a b c : Op) → times a (plus b c) ≡ plus (times a b) (times a c)
  pub from_right : (a b c : Op) → times (plus a b) c ≡ plus (times a c) (times b c)
  pub root_central : (a : Op) → times a root ≡ times root a
  pub half_central : (a : Op) → times a half ≡ times half a
  pub halves : plus half half ≡ one
  -- rows: the product, I, i and -1
  pub read_times : (P Q : Row) → Width n P → Width n Q → read (P ★ Q) ≡ times (read P) (read Q)
  pub read_identity : read (identity n) ≡ one
  pub read_i : (P : Row) → read (scaled PlusI P) ≡ times root (times root (read P))
  pub read_minus : (P : Row) → plus (read P) (read (scaled MinusOne P)) ≡ none

-- powers of the root
abbrev pub root_to : {n : ℕ} (O : Operators n) → ℕ → O.Op
root_to O zero = O.one
root_to O (suc k) = O.times O.root (root_to O k)

-- the projections to the eigenvalues +1 and -1 of a row
abbrev pub on_plus : {n : ℕ} (O : Operators n) → Row → O.Op
on_plus O P = O.times O.half (O.plus O.one (O.read P))

abbrev pub on_minus : {n : ℕ} (O : Operators n) → Row → O.Op
on_minus O P = O.times O.half (O.plus O.one (O.read (scaled MinusOne P)))

-- exp(-i k π/8 P) up to a phase, for any k: 1 where P is +1, the k-th power of the eighth root where it is -1
unfoldable pub turn : {n : ℕ} (O : Operators n) → ℕ → Row → O.Op
turn O k P = O.plus (on_plus O P) (O.times (root_to O k) (on_minus O P))
