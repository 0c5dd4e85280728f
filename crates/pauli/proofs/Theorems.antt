-- What is proved of the mathematics, in the words of specs/ alone. Numbers as in the list of README.md, "What is proved".
use mathlib.Core.Path.{◌≡◌, refl}
use mathlib.Core.Logic.{◌↔◌, ◌≢◌}
use mathlib.Core.Bool.{Bool, true, cond, ◌&&◌, ◌||◌}
use mathlib.Core.List.{List, map}
use Prim.Native.Nat.{ℕ, ◌+◌, ◌/◌, ◌<◌, ◌≤◌, ◌%◌}
use lib.ListN.{length, get_or}
use lib.IntN.{ℤ, pos, ◌+ℤ◌, ◌*ℤ◌}
use Rattle.pauli.specs.Letters.{Pauli, One, PlusI, MinusOne, MinusI, ◌·◌, phase_of, real}
use Rattle.pauli.specs.Angle.{remainder8}
use Rattle.pauli.specs.Rows.{Row, Width, ◌★◌, scaled, identity, present, weight, anti_places, anticommute, minus_if}
use Rattle.pauli.specs.Gates.{Gate, gate_h, gate_s, gate_cnot, Valid, AllValid, conj, inverse, direct, back, forward}
use Rattle.pauli.specs.Bits.{◌xor◌, x_bit, z_bit, bits, bit_h, bit_s, bit_cnot, g}
use Rattle.pauli.specs.Rotations.{rotate, written, flush, rotations, Each, quarter_first, quarter_last, SameSum}
use Rattle.pauli.specs.Doubly.{seven_rows, all_turned_by}
use Rattle.pauli.specs.Table.{start, table, product_over}
use Rattle.pauli.specs.SixCnots.{SevenMet}
use Rattle.pauli.proofs.Rows
use Rattle.pauli.proofs.Conj
use Rattle.pauli.proofs.PaperBits
use Rattle.pauli.proofs.Table
use Rattle.pauli.proofs.Independent
use Rattle.pauli.proofs.Quarters
use Rattle.pauli.proofs.Litinski
use Rattle.pauli.proofs.Weight
use Rattle.pauli.proofs.Toffoli
use Rattle.pauli.proofs.SixCnots.{seven_met}
use Rattle.pauli.proofs.Remainder

-- ---- 1. the product of rows

pub associative : (P Q R : Row) → P ★ Q ★ R ≡ P ★ (Q ★ R)
associative = Rows.assoc

pub identity-left : (n : ℕ) (P : Row) → Width n P → identity n ★ P ≡ P
identity-left = Rows.identity-left

pub identity-right : (n : ℕ) (P : Row) → Width n P → P ★ identity n ≡ P
identity-right = Rows.identity-right

-- two rows commute exactly if an even number of places hold two different letters other than I
pub commute_iff_even : (P Q : Row) → (P ★ Q ≡ Q ★ P) ↔ (anti_places P.letters Q.letters % 2 ≡ 0)
commute_iff_even = Rows.commute_iff_even

-- and otherwise exchange with a sign
pub exchange : (P Q : Row) → P ★ Q ≡ scaled (minus_if (anticommute P Q)) (Q ★ P)
exchange = Rows.exchange

-- the phase of a product of letters is the paper's g
pub product_phase : (a b : Pauli) → phase_of a b ≡ g (x_bit a) (z_bit a) (x_bit b) (z_bit b)
product_phase = PaperBits.phase_of-g

-- the bits of a product are the exclusive or of the bits, and a letter other than I has one of the two
pub product_x : (a b : Pauli) → x_bit (a · b) ≡ (x_bit a xor x_bit b)
product_x = PaperBits.x_bit-·

pub product_z : (a b : Pauli) → z_bit (a · b) ≡ (z_bit a xor z_bit b)
product_z = PaperBits.z_bit-·

pub present-x_or_z : (a : Pauli) → present a ≡ (x_bit a || z_bit a)
present-x_or_z = PaperBits.present-bits

-- ---- 2. conjugation by a gate

-- x, z, sdg and cz, made of h, s and cnot, have these direct rules
pub direct-rule : (n : ℕ) (g : Gate) (P : Row) → Valid n g → Width n P → conj g P ≡ direct g P
direct-rule = Conj.conj-direct

pub conj-homomorphism : (n : ℕ) (g : Gate) (P Q : Row) → Valid n g → Width n P → Width n Q → conj g (P ★ Q) ≡ conj g P ★ conj g Q
conj-homomorphism n g P Q v = (Conj.hom-conj n g v).times P Q

-- a phase of +1 or -1 stays one, and any other stays another
pub conj-real : (n : ℕ) (g : Gate) (P : Row) → Valid n g → Width n P → real (conj g P).phase ≡ real P.phase
conj-real n g P v = (Conj.hom-conj n g v).signs P

pub conj-inverse : (n : ℕ) (g : Gate) (P : Row) → Valid n g → Width n P → conj g (conj (inverse g) P) ≡ P
conj-inverse = Conj.conj-undo

pub forward-back : (n : ℕ) (gs : List Gate) (P : Row) → AllValid n gs → Width n P → forward gs (back gs P) ≡ P
forward-back = Conj.forward-back

pub back-forward : (n : ℕ) (gs : List Gate) (P : Row) → AllValid n gs → Width n P → back gs (forward gs P) ≡ P
back-forward = Conj.back-forward

-- the letter rules are the paper's rules on the columns x, z and r
pub paper_h : (q : ℕ) (P : Row) → bits (conj (gate_h q) P) ≡ bit_h q (bits P)
paper_h = PaperBits.bits-h

pub paper_s : (q : ℕ) (P : Row) → bits (conj (gate_s q) P) ≡ bit_s q (bits P)
paper_s = PaperBits.bits-s

pub paper_cnot : (a b : ℕ) (P : Row) → a ≢ b → bits (conj (gate_cnot a b) P) ≡ bit_cnot a b (bits P)
paper_cnot = PaperBits.bits-cnot

-- ---- 3. each table row is U† P U for the X or Z of its place

pub table-is-back : (n : ℕ) (gs : List Gate) → AllValid n gs → table n gs ≡ map (back gs) (start n)
table-is-back = Table.table-map

-- ---- 4. each row's phase is +1 or -1

pub table-real : (n : ℕ) (gs : List Gate) → AllValid n gs → (i : ℕ) → i < n + n → real (get_or (table n gs) i (identity n)).phase ≡ true
table-real = Independent.table-real

-- ---- 5. products over two different sets of places differ in letters

pub independent : (n : ℕ) (gs : List Gate) → AllValid n gs → (us vs : List Bool) → length us ≡ n + n → length vs ≡ n + n → us ≢ vs
    → (product_over n us (table n gs)).letters ≢ (product_over n vs (table n gs)).letters
independent = Independent.independent

-- ---- 6. what a flush writes acts as U Q U†, the first rotation first, on every row; and it is light

pub written-as_gate : (n : ℕ) (g : Gate) (Q : Row) → Valid n g → Width n Q → rotations (written n g) Q ≡ conj g Q
written-as_gate = Quarters.written-conj

pub flush-as_gates : (n : ℕ) (gs : List Gate) (Q : Row) → AllValid n gs → Width n Q → rotations (flush n gs) Q ≡ forward gs Q
flush-as_gates = Quarters.flush-forward

pub flush-light : (n : ℕ) (gs : List Gate) → AllValid n gs
    → Each (λ r. (weight r.axis.letters ≤ 2) × (r.axis.phase ≡ One) × (r.angle % 2 ≡ 0)) (flush n gs)
flush-light = Weight.flush-light

-- ---- 7. rotations, along a row of sign +1 or -1

-- by 2, 4 and 6 eighths: -i P Q, -Q and i P Q where P and Q anticommute, else Q
pub rotate-2 : (P Q : Row) → rotate 2 P Q ≡ cond (anticommute P Q) (scaled MinusI (P ★ Q)) Q
rotate-2 P Q = refl

pub rotate-4 : (n : ℕ) (P : Row) → Width n P → real P.phase ≡ true → (Q : Row) → Width n Q → rotate 4 P Q ≡ cond (anticommute P Q) (scaled MinusOne Q) Q
rotate-4 = Litinski.half

pub rotate-6 : (n : ℕ) (P : Row) → Width n P → real P.phase ≡ true → (Q : Row) → Width n Q → rotate 6 P Q ≡ cond (anticommute P Q) (scaled PlusI (P ★ Q)) Q
rotate-6 = Litinski.three_quarters

pub rotate-8 : (n : ℕ) (P : Row) → Width n P → real P.phase ≡ true → (Q : Row) → Width n Q → rotate 8 P Q ≡ Q
rotate-8 = Litinski.full

-- `rotate` is of even numbers of eighths, so these ask for one; for any number see `turn-carried` and `turns_exchanged` in operators
pub rotation_homomorphism : (n : ℕ) (P : Row) → Width n P → real P.phase ≡ true → (k : ℕ) → k % 2 ≡ 0 → (Q R : Row) → Width n Q → Width n R
    → rotate k P (Q ★ R) ≡ rotate k P Q ★ rotate k P R
rotation_homomorphism n P w r k even = (Litinski.hom-quarters n P w r (k / 2)).times

-- gates carry a rotation along P to the rotation by the same angle along U† P U
pub rotation_carried : (n : ℕ) (gs : List Gate) → AllValid n gs → (k : ℕ) → k % 2 ≡ 0 → (P Q : Row) → Width n P → real P.phase ≡ true → Width n Q
    → back gs (rotate k P Q) ≡ rotate k (back gs P) (back gs Q)
rotation_carried n gs v k even = Litinski.carries-quarters n (back gs) (Conj.hom-back n gs v) (k / 2)

-- so does a quarter turn
pub exchange_of-rotations : (n : ℕ) (P : Row) → Width n P → real P.phase ≡ true → (k : ℕ) → k % 2 ≡ 0 → (Q R : Row) → Width n Q → real Q.phase ≡ true → Width n R
    → rotate 2 P (rotate k Q R) ≡ rotate k (rotate 2 P Q) (rotate 2 P R)
exchange_of-rotations n P w r k even = Litinski.carries-quarters n (rotate 2 P) (Litinski.hom-quarter n P w r) (k / 2)

-- Litinski's exchange, for an angle of any size: a quarter turn along P moves behind the rotation along Q, whose axis becomes rotate 6 P Q, that is Q or i P Q
pub quarter_behind : (n : ℕ) (P : Row) → Width n P → real P.phase ≡ true → (Q : Row) → Width n Q → SameSum (quarter_first P Q) (quarter_last P (rotate 6 P Q))
quarter_behind = Litinski.exchange-back

-- and before it, where the axis becomes Q or -i P Q
pub quarter_before : (n : ℕ) (P : Row) → Width n P → real P.phase ≡ true → (Q : Row) → Width n Q → SameSum (quarter_last P Q) (quarter_first P (rotate 2 P Q))
quarter_before = Litinski.exchange-any_angle

-- ---- 8. the seven rows of ccx and ccz: up to the global phase of 7 eighths of π, a half turn where all three are -1, and nothing elsewhere

pub doubly_controlled : (x y z : Bool) → all_turned_by seven_rows x y z ≡ (7 + cond (x && (y && z)) 8 0) % 16
doubly_controlled = Toffoli.doubly_controlled

-- and the six cnots that ccz is written with under a cap of 1 or 2: between them the z rows are the seven products in another order, and the table stays
pub six_cnots : (n : ℕ) (gs : List Gate) → AllValid n gs → (a b d : ℕ) → a < n → b < n → d < n → a ≢ b → a ≢ d → b ≢ d → SevenMet n a b d (table n gs)
six_cnots n gs v a b d ha hb hd ab ad bd = seven_met n a b d ha hb hd ab ad bd gs v

-- ---- angles: the remainder is below 8 and a multiple of 8 away

pub remainder_below-8 : (z : ℤ) → remainder8 z < 8
remainder_below-8 = Remainder.below-8

pub remainder_multiple : (z : ℤ) → (k : ℤ) × (k *ℤ pos 8 +ℤ pos (remainder8 z) ≡ z)
remainder_multiple = Remainder.multiple_of-8
