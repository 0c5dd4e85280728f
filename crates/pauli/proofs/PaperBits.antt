-- kept: claims, which Theorems.antt takes from here as a module
-- Conjugation by h, s and cnot is what Aaronson and Gottesman's rules do to the bits of a row, and the phase of a product is their g.
use mathlib.Core.Path.{◌≡◌, refl, ap, ap₂, sym, ◌∙◌}
use mathlib.Core.Logic.{◌≢◌, Ne-symm}
use mathlib.Core.Bool.{Bool, true, false, ◌&&◌, ◌||◌, false≢true}
use mathlib.Core.List.{List, [], ◌∷◌, map}
use Prim.Native.Nat.{ℕ, zero, suc}
use lib.ListN.{get_or, set, get_or-map}
use lib.Seq.{set-get_or, get_or-set_other}
use Rattle.pauli.specs.Letters.{Pauli, I, Phase, One, PlusI, MinusOne, MinusI, ◌⊕◌, ◌·◌, phase_of, real}
use Rattle.pauli.specs.Rows.{Row, on, present}
use Rattle.pauli.specs.Gates.{rule_h, rule_s, rule_cnot, gate_h, gate_s, gate_cnot, conj}
use Rattle.pauli.specs.Bits.{◌xor◌, x_bit, z_bit, r_bit, BitRow, bits, bit, bit_h, bit_s, bit_cnot, g}
use Rattle.pauli.proofs.Finite.{letters, turns, truth, phase, law₁, law₂}

bits-eq : {R S : BitRow} → R.x ≡ S.x → R.z ≡ S.z → R.r ≡ S.r → R ≡ S
bits-eq x z r = λ i. record { x = x i; z = z i; r = r i }

map-set : (f : Pauli → Bool) (u : List Pauli) (q : ℕ) (a : Pauli) → map f (set u q a) ≡ set (map f u) q (f a)
map-set f [] q a = refl
map-set f (b ∷ u) zero a = refl
map-set f (b ∷ u) (suc q) a = ap (λ l. f b ∷ l) (map-set f u q a)

bit-x : (P : Row) (q : ℕ) → bit (bits P).x q ≡ x_bit (on P q)
bit-x P q = get_or-map x_bit P.letters q I

bit-z : (P : Row) (q : ℕ) → bit (bits P).z q ≡ z_bit (on P q)
bit-z P q = get_or-map z_bit P.letters q I

-- a sign turns the bit r
r_bit-⊕ : (s p : Phase) → real s ≡ true → r_bit (s ⊕ p) ≡ (r_bit p xor r_bit s)
r_bit-⊕ One p e = law₁ turns truth (λ p. r_bit p) (λ p. r_bit p xor false) tt p
r_bit-⊕ PlusI p e = absurd (false≢true e)
r_bit-⊕ MinusOne p e = law₁ turns truth (λ p. r_bit (MinusOne ⊕ p)) (λ p. r_bit p xor true) tt p
r_bit-⊕ MinusI p e = absurd (false≢true e)

-- what becomes of a column where a rule rewrites it, and where it leaves it
written-bit : (f : Pauli → Bool) (u : List Pauli) (q : ℕ) (a : Pauli) (b : Bool) → f a ≡ b → map f (set u q a) ≡ set (map f u) q b
written-bit f u q a b e = map-set f u q a ∙ ap (set (map f u) q) e

kept-bit : (f : Pauli → Bool) (u : List Pauli) (q : ℕ) (a : Pauli) → f I ≡ false → f a ≡ f (get_or u q I) → map f (set u q a) ≡ map f u
kept-bit f u q a d e =
    written-bit f u q a (get_or (map f u) q false) (e ∙ sym (get_or-map f u q I) ∙ ap (get_or (map f u) q) d) ∙ set-get_or (map f u) q false

pub bits-h : (q : ℕ) (P : Row) → bits (conj (gate_h q) P) ≡ bit_h q (bits P)
unfolding conj
bits-h q P = bits-eq
    (written-bit x_bit P.letters q _ _ (law₁ letters truth (λ a. x_bit (rule_h a).letter) z_bit tt (on P q) ∙ sym (bit-z P q)))
    (written-bit z_bit P.letters q _ _ (law₁ letters truth (λ a. z_bit (rule_h a).letter) x_bit tt (on P q) ∙ sym (bit-x P q)))
    (r_bit-⊕ (rule_h (on P q)).sign P.phase (law₁ letters truth (λ a. real (rule_h a).sign) (λ a. true) tt (on P q))
    ∙ ap (λ b. r_bit P.phase xor b) (law₁ letters truth (λ a. r_bit (rule_h a).sign) (λ a. x_bit a && z_bit a) tt (on P q) ∙ sym (ap₂ ◌&&◌ (bit-x P q) (bit-z P q))))

pub bits-s : (q : ℕ) (P : Row) → bits (conj (gate_s q) P) ≡ bit_s q (bits P)
unfolding conj
bits-s q P = bits-eq
    (kept-bit x_bit P.letters q _ refl (law₁ letters truth (λ a. x_bit (rule_s a).letter) x_bit tt (on P q)))
    (written-bit z_bit P.letters q _ _ (law₁ letters truth (λ a. z_bit (rule_s a).letter) (λ a. z_bit a xor x_bit a) tt (on P q) ∙ sym (ap₂ ◌xor◌ (bit-z P q) (bit-x P q))))
    (r_bit-⊕ (rule_s (on P q)).sign P.phase (law₁ letters truth (λ a. real (rule_s a).sign) (λ a. true) tt (on P q))
    ∙ ap (λ b. r_bit P.phase xor b) (law₁ letters truth (λ a. r_bit (rule_s a).sign) (λ a. x_bit a && z_bit a) tt (on P q) ∙ sym (ap₂ ◌&&◌ (bit-x P q) (bit-z P q))))

pub bits-cnot : (a b : ℕ) (P : Row) → a ≢ b → bits (conj (gate_cnot a b) P) ≡ bit_cnot a b (bits P)
unfolding conj
bits-cnot a b P ne = bits-eq
    (written-bit x_bit (set u a (rule_cnot k l).first) b _ _ (law₂ letters truth (λ k l. x_bit (rule_cnot k l).second) (λ k l. x_bit l xor x_bit k) tt k l ∙ sym (ap₂ ◌xor◌ (bit-x P b) (bit-x P a)))
    ∙ ap (λ m. set m b (bit (bits P).x b xor bit (bits P).x a)) (kept-bit x_bit u a _ refl (law₂ letters truth (λ k l. x_bit (rule_cnot k l).first) (λ k l. x_bit k) tt k l)))
    (kept-bit z_bit (set u a (rule_cnot k l).first) b _ refl (law₂ letters truth (λ k l. z_bit (rule_cnot k l).second) (λ k l. z_bit l) tt k l ∙ sym (ap z_bit (get_or-set_other u a b _ I (Ne-symm ne))))
    ∙ written-bit z_bit u a _ _ (law₂ letters truth (λ k l. z_bit (rule_cnot k l).first) (λ k l. z_bit k xor z_bit l) tt k l ∙ sym (ap₂ ◌xor◌ (bit-z P a) (bit-z P b))))
    (r_bit-⊕ (rule_cnot k l).sign P.phase (law₂ letters truth (λ k l. real (rule_cnot k l).sign) (λ k l. true) tt k l)
    ∙ ap (λ b. r_bit P.phase xor b) (law₂ letters truth (λ k l. r_bit (rule_cnot k l).sign) (λ k l. x_bit k && (z_bit l && (x_bit l xor z_bit k xor true))) tt k l
    ∙ sym (rw (bit-x P a, bit-z P b, bit-x P b, bit-z P a))))
  where
    u : List Pauli
    u = P.letters

    k : Pauli
    k = on P a

    l : Pauli
    l = on P b

pub phase_of-g : (a b : Pauli) → phase_of a b ≡ g (x_bit a) (z_bit a) (x_bit b) (z_bit b)
phase_of-g = law₂ letters phase _ _ tt

pub x_bit-· : (a b : Pauli) → x_bit (a · b) ≡ (x_bit a xor x_bit b)
x_bit-· = law₂ letters truth _ _ tt

pub z_bit-· : (a b : Pauli) → z_bit (a · b) ≡ (z_bit a xor z_bit b)
z_bit-· = law₂ letters truth _ _ tt

-- a letter other than I has one of the two bits
pub present-bits : (a : Pauli) → present a ≡ (x_bit a || z_bit a)
present-bits = law₁ letters truth _ _ tt
