-- Matrices of size 2ⁿ as what they do to amplitudes: an operator takes the amplitudes of all strings of n bits to new ones, and is linear.
use Rattle.std.specs.Prelude.{◌≡◌, Bool, true, false, not, cond, ◌&&◌, List, [], ◌∷◌, ℕ, zero, suc}
use Rattle.std.specs.Bool.{beq}
use Rattle.pauli.specs.Letters.{◌⊕◌}
use Rattle.operators.specs.Types.{Phase, One, PlusI, MinusOne, MinusI, Pauli, I, X, Y, Z}

-- what amplitudes can do: add up, be multiplied by the root, and be halved. The fourth power of the root is -1.
pub record Scalars : Type 1 where
  pub R : Type 0
  pub set : IsSet R
  pub none : R
  pub plus : R → R → R
  pub root : R → R
  pub half : R → R
  pub plus_assoc : (a b c : R) → plus (plus a b) c ≡ plus a (plus b c)
  pub plus_comm : (a b : R) → plus a b ≡ plus b a
  pub plus_none : (a : R) → plus a none ≡ a
  pub root_plus : (a b : R) → root (plus a b) ≡ plus (root a) (root b)
  pub half_plus : (a b : R) → half (plus a b) ≡ plus (half a) (half b)
  pub root_none : root none ≡ none
  pub half_none : half none ≡ none
  pub root_half : (a : R) → root (half a) ≡ half (root a)
  pub halves : (a : R) → plus (half a) (half a) ≡ a
  pub minus : (a : R) → plus a (root (root (root (root a)))) ≡ none

-- strings of n bits, and their amplitudes
abbrev pub BitString : ℕ → Type 0
BitString zero = Unit {0}
BitString (suc n) = Bool × BitString n

abbrev pub Amplitudes : Scalars → ℕ → Type 0
Amplitudes S n = BitString n → S.R

-- a linear operator
pub record Linear (S : Scalars) (n : ℕ) : Type 0 where
  pub act : Amplitudes S n → Amplitudes S n
  pub adds : (u v : Amplitudes S n) (s : BitString n) → act (λ t. S.plus (u t) (v t)) s ≡ S.plus (act u s) (act v s)
  pub roots : (v : Amplitudes S n) (s : BitString n) → act (λ t. S.root (v t)) s ≡ S.root (act v s)
  pub halves : (v : Amplitudes S n) (s : BitString n) → act (λ t. S.half (v t)) s ≡ S.half (act v s)

-- a phase times an amplitude: i is the root twice
abbrev pub phased : (S : Scalars) → Phase → S.R → S.R
phased S One r = r
phased S PlusI r = S.root (S.root r)
phased S MinusOne r = S.root (S.root (S.root (S.root r)))
phased S MinusI r = S.root (S.root (S.root (S.root (S.root (S.root r)))))

-- the Pauli matrices: the row of bit b has one entry, in the column flip_by a b, and it is entry_of a b
abbrev pub flip_by : Pauli → Bool → Bool
flip_by I b = b
flip_by X b = not b
flip_by Y b = not b
flip_by Z b = b

abbrev pub entry_of : Pauli → Bool → Phase
entry_of I b = One
entry_of X b = One
entry_of Y true = PlusI
entry_of Y false = MinusI
entry_of Z true = MinusOne
entry_of Z false = One

-- their Kronecker products
abbrev pub flip_all : (n : ℕ) → List Pauli → BitString n → BitString n
flip_all zero us s = s
flip_all (suc n) [] s = s
flip_all (suc n) (a ∷ us) s = (flip_by a s.0, flip_all n us s.1)

abbrev pub entry_all : (n : ℕ) → List Pauli → BitString n → Phase
entry_all zero us s = One
entry_all (suc n) [] s = One
entry_all (suc n) (a ∷ us) s = entry_of a s.0 ⊕ entry_all n us s.1

-- ---- single bits

abbrev pub bit_at : (n q : ℕ) → BitString n → Bool
bit_at zero q s = false
bit_at (suc n) zero s = s.0
bit_at (suc n) (suc q) s = bit_at n q s.1

abbrev pub change_at : (n q : ℕ) → (Bool → Bool) → BitString n → BitString n
change_at zero q f s = s
change_at (suc n) zero f s = (f s.0, s.1)
change_at (suc n) (suc q) f s = (s.0, change_at n q f s.1)

abbrev pub flip_at : (n q : ℕ) → BitString n → BitString n
flip_at n q s = change_at n q not s

abbrev pub same_bits : (n : ℕ) → BitString n → BitString n → Bool
same_bits zero s t = true
same_bits (suc n) s t = beq s.0 t.0 && same_bits n s.1 t.1

-- -1 where a bit is 1
abbrev pub sign_of : Bool → Phase
sign_of true = MinusOne
sign_of false = One

-- r / √2
abbrev pub over_root_two : (S : Scalars) → S.R → S.R
over_root_two S r = S.half (S.plus (S.root r) (S.root (S.root (S.root (S.root (S.root (S.root (S.root r))))))))

-- ---- basis states

-- |t⟩, where `one` is the scalar 1
abbrev pub ket : (S : Scalars) → S.R → (n : ℕ) → BitString n → Amplitudes S n
ket S one n t = λ s. cond (same_bits n s t) one S.none
