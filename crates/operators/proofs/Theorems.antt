-- What is proved of the conversion as operators, in the words of specs/.
use mathlib.Core.Path.{◌≡◌, refl, ap}
use mathlib.Core.Logic.{◌≢◌}
use mathlib.Core.Bool.{Bool, true, cond, ◌&&◌, beq}
use mathlib.Core.List.{List, ◌++◌}
use mathlib.Core.Quot.{mk}
use Prim.Native.Nat.{ℕ, ◌+◌, ◌%◌, ◌<◌}
use lib.ListN.{get_or}
use Rattle.pauli.specs.Letters.{real, ◌⊕◌}
use Rattle.pauli.specs.Bits.{◌xor◌}
use Rattle.pauli.specs.Rows.{Row, Width, identity, single}
use Rattle.pauli.specs.Gates.{Gate, AllValid, forward, back}
use Rattle.pauli.specs.Table.{start}
use Rattle.pauli.specs.Rotations.{rotate}
use Rattle.convert.specs.Records.{records}
use Rattle.convert.specs.Conversion.{Input, limits, convert_check}
use Rattle.convert.specs.Later.{converted, LaterCall, laters, AllCarried}
use Rattle.convert.specs.Statement.{frame_images, end_gates}
use Rattle.convert.specs.Sources.{All}
use Rattle.operators.specs.Types.{One, PlusI, MinusI, Z, Fine}
use Rattle.operators.specs.Operators.{Operators, root_to, turn}
use Rattle.operators.specs.Textbook.{seen, x_of, y_of, z_of, if_one, hadamard_of, sx_of, swap_of, gates_operator}
use Rattle.operators.specs.Whole.{sourced_of, operations_of, Whole}
use Rattle.operators.specs.After.{pushed, by_hand, RoutedUnlessByHand, After, AfterWords}
use Rattle.operators.specs.Bits.{record_bits, operation_bits}
use Rattle.operators.specs.Model.{Scalars, BitString, Amplitudes, Linear, phased, flip_all, entry_all, bit_at, flip_at, sign_of, over_root_two, ket}
use Rattle.operators.specs.Dyadic.{Halved, plus_halved, root_halved, half_halved}
use Rattle.operators.proofs.Ring
use Rattle.operators.proofs.Carried
use Rattle.operators.proofs.Lowered
use Rattle.operators.proofs.Whole
use Rattle.operators.proofs.After
use Rattle.operators.proofs.Words
use Rattle.operators.proofs.Bits
use Rattle.operators.proofs.Model.{matrices}
use Rattle.operators.proofs.Dyadic.{dyadic, telling}
use Rattle.operators.proofs.Faithful
use Rattle.operators.proofs.Acts
use Rattle.operators.proofs.Kets

-- ---- an accepted conversion is its circuit, whatever the outcomes and the operators

pub whole : (x : Input) → convert_check limits x ≡ Fine → (O : Operators x.qubits) (outcome : ℕ → Bool) → Whole x O outcome
whole = Whole.whole

-- its measurements write to the bits of the circuit's measurements, in their order
pub bits : (x : Input) → convert_check limits x ≡ Fine → operation_bits (operations_of (converted x)) ≡ record_bits (records x.gates)
bits = Bits.bits

-- ---- and so it is with any later calls

pub after : (x : Input) → convert_check limits x ≡ Fine → (cs : List LaterCall) (O : Operators x.qubits) (outcome : ℕ → Bool) → After x cs O outcome
after = After.after

-- the words that are left read as the conversion's operations and then one for each accepted push, along the image that its word had
pub read_after : (x : Input) → convert_check limits x ≡ Fine → (cs : List LaterCall) → AllCarried cs (converted x)
    → operations_of (laters cs (converted x)) ≡ operations_of (converted x) ++ pushed cs (converted x)
read_after = Words.read-after

-- with the gate record that each names: those pushed are by hand (document 02, E2)
pub sources_after : (x : Input) → convert_check limits x ≡ Fine → (cs : List LaterCall) → AllCarried cs (converted x)
    → sourced_of (laters cs (converted x)) ≡ sourced_of (converted x) ++ by_hand (pushed cs (converted x))
sources_after = Words.sources-after

-- whatever is called later, each operation that names a gate record is as the conversion's cap guarantees; only those by hand may be heavier (document 02, E6)
pub routed_after : (x : Input) → convert_check limits x ≡ Fine → (cs : List LaterCall) → AllCarried cs (converted x)
    → All (RoutedUnlessByHand x.cap) (sourced_of (laters cs (converted x)))
routed_after = Words.routed-after

pub after_words : (x : Input) → convert_check limits x ≡ Fine → (cs : List LaterCall) → AllCarried cs (converted x) → (O : Operators x.qubits) (outcome : ℕ → Bool) → AfterWords x cs O outcome
after_words = Words.after-words

-- an operation pushed along the image of a place acts at the circuit's end along the place's own X or Z
pub place_own : (x : Input) → convert_check limits x ≡ Fine → (cs : List LaterCall) (j : ℕ) → j < x.qubits + x.qubits
    → forward (end_gates x cs) (get_or (frame_images (laters cs (converted x))) j (identity x.qubits)) ≡ get_or (start x.qubits) j (identity x.qubits)
place_own = After.place_own

-- ---- rotations by any number of eighths

-- the rules of conjugation are conjugation by the gates of a textbook
pub row_carried : {n : ℕ} (O : Operators n) (gs : List Gate) → AllValid n gs → (P : Row) → Width n P → O.times (O.read P) (gates_operator O gs) ≡ O.times (gates_operator O gs) (O.read (back gs P))
row_carried = Carried.row_past

-- gates carry a rotation along P, by any angle, to the rotation by the same angle along U† P U
pub turn-carried : {n : ℕ} (O : Operators n) (gs : List Gate) → AllValid n gs → (k : ℕ) (P : Row) → Width n P
    → O.times (turn O k P) (gates_operator O gs) ≡ O.times (gates_operator O gs) (turn O k (back gs P))
turn-carried = Carried.turn-past

-- an even k: `rotate` is conjugation by the rotation
pub rotate-conjugates : {n : ℕ} (O : Operators n) (P : Row) → Width n P → real P.phase ≡ true → (k : ℕ) → k % 2 ≡ 0 → (Q : Row) → Width n Q
    → O.times (O.read (rotate k P Q)) (turn O k P) ≡ O.times (turn O k P) (O.read Q)
rotate-conjugates = Ring.rotate-carried

-- Litinski's exchange: quarter turns along P, j being even, carry a rotation along Q, by any angle, to that along Q turned
pub turns_exchanged : {n : ℕ} (O : Operators n) (P : Row) → Width n P → real P.phase ≡ true → (j : ℕ) → j % 2 ≡ 0 → (k : ℕ) (Q : Row) → Width n Q
    → O.times (turn O k (rotate j P Q)) (turn O j P) ≡ O.times (turn O j P) (turn O k Q)
turns_exchanged = Carried.turns-exchange

-- ---- the matrices of size 2ⁿ are such operators: linear maps, which act so

module _ (S : Scalars) (n : ℕ) (v : Amplitudes S n) (s : BitString n) where
  pub none_acts : (matrices S n).none.act v s ≡ S.none
  none_acts = refl

  pub one_acts : (matrices S n).one.act v s ≡ v s
  one_acts = refl

  pub root_acts : (matrices S n).root.act v s ≡ S.root (v s)
  root_acts = refl

  pub half_acts : (matrices S n).half.act v s ≡ S.half (v s)
  half_acts = refl

  pub plus_acts : (a b : Linear S n) → ((matrices S n).plus a b).act v s ≡ S.plus (a.act v s) (b.act v s)
  plus_acts a b = refl

  pub times_acts : (a b : Linear S n) → ((matrices S n).times a b).act v s ≡ a.act (b.act v) s
  times_acts a b = refl

  pub row_acts : (P : Row) → ((matrices S n).read P).act v s ≡ phased S (P.phase ⊕ entry_all n P.letters s) (v (flip_all n P.letters s))
  row_acts P = refl

-- the scalars Z[½, ω] are such
module _ (a b : Halved) where
  pub dyadic-plus : dyadic.plus (mk a) (mk b) ≡ mk (plus_halved a b)
  dyadic-plus = refl

  pub dyadic-root : dyadic.root (mk a) ≡ mk (root_halved a)
  dyadic-root = refl

  pub dyadic-half : dyadic.half (mk a) ≡ mk (half_halved a)
  dyadic-half = refl

-- 1 / √2 twice is a half
pub root_two : (S : Scalars) (r : S.R) → over_root_two S (over_root_two S r) ≡ S.half r
root_two S r = ap (λ o. o.act (λ s. r) tt) (Lowered.half_root_twice (matrices S 0) (matrices S 0).one)

-- different rows are different matrices
pub rows_apart : (n : ℕ) (P Q : Row) → Width n P → Width n Q → (matrices dyadic n).read P ≡ (matrices dyadic n).read Q → P ≡ Q
rows_apart = Faithful.faithful dyadic telling

-- the claims, there
pub whole_as-matrices : (x : Input) → convert_check limits x ≡ Fine → (outcome : ℕ → Bool) → Whole x (matrices dyadic x.qubits) outcome
whole_as-matrices x e outcome = whole x e (matrices dyadic x.qubits) outcome

pub after_as-matrices : (x : Input) → convert_check limits x ≡ Fine → (cs : List LaterCall) (outcome : ℕ → Bool) → After x cs (matrices dyadic x.qubits) outcome
after_as-matrices x e cs outcome = after x e cs (matrices dyadic x.qubits) outcome

pub after_words_as-matrices : (x : Input) → convert_check limits x ≡ Fine → (cs : List LaterCall) → AllCarried cs (converted x) → (outcome : ℕ → Bool)
    → AfterWords x cs (matrices dyadic x.qubits) outcome
after_words_as-matrices x e cs h outcome = after_words x e cs h (matrices dyadic x.qubits) outcome

-- ---- what the gates do to amplitudes, on any qubits of n

-- t acts where the bit is 1, so s, sdg, t, tdg, cnot, cz, ccx, ccz and cy are what their names say
pub if_acts : (S : Scalars) (n q : ℕ) → q < n → (t : Linear S n) (v : Amplitudes S n) (s : BitString n) → (if_one (matrices S n) q t).act v s ≡ cond (bit_at n q s) (t.act v s) (v s)
if_acts = Acts.if_acts

-- an outcome keeps the strings with that bit
pub outcome_acts : (S : Scalars) (n q : ℕ) → q < n → (x : Bool) (v : Amplitudes S n) (s : BitString n)
    → (seen (matrices S n) x (single n q Z)).act v s ≡ cond (beq (bit_at n q s) x) (v s) S.none
outcome_acts = Acts.outcome_acts

-- ---- what the gates do to the basis states |t⟩, `one` being the scalar 1

module _ (S : Scalars) (one : S.R) (n : ℕ) where
  pub h-ket : (q : ℕ) → q < n → (t s : BitString n)
      → (hadamard_of (matrices S n) q).act (ket S one n t) s ≡ over_root_two S (S.plus (ket S one n (flip_at n q t) s) (phased S (sign_of (bit_at n q t)) (ket S one n t s)))
  h-ket = Kets.h-ket S one n

  pub x-ket : (q : ℕ) → q < n → (t s : BitString n) → (x_of (matrices S n) q).act (ket S one n t) s ≡ ket S one n (flip_at n q t) s
  x-ket = Kets.x-ket S one n

  pub y-ket : (q : ℕ) → q < n → (t s : BitString n) → (y_of (matrices S n) q).act (ket S one n t) s ≡ phased S (cond (bit_at n q t) MinusI PlusI) (ket S one n (flip_at n q t) s)
  y-ket = Kets.y-ket S one n

  pub z-ket : (q : ℕ) → q < n → (t s : BitString n) → (z_of (matrices S n) q).act (ket S one n t) s ≡ phased S (sign_of (bit_at n q t)) (ket S one n t s)
  z-ket = Kets.z-ket S one n

  -- k = 2, 6, 1, 7: s, sdg, t, tdg
  pub root-ket : (k q : ℕ) → q < n → (t s : BitString n)
      → (if_one (matrices S n) q (root_to (matrices S n) k)).act (ket S one n t) s ≡ cond (bit_at n q t) ((root_to (matrices S n) k).act (ket S one n t) s) (ket S one n t s)
  root-ket = Kets.root-ket S one n

  -- ((1 + i) |t⟩ + (1 - i) |t flipped⟩) / 2
  pub sx-ket : (q : ℕ) → q < n → (t s : BitString n) → (sx_of (matrices S n) q).act (ket S one n t) s
      ≡ S.half (S.plus (S.plus (ket S one n t s) (phased S PlusI (ket S one n t s))) (S.plus (ket S one n (flip_at n q t) s) (phased S MinusI (ket S one n (flip_at n q t) s))))
  sx-ket = Kets.sx-ket S one n

  pub outcome-ket : (q : ℕ) → q < n → (x : Bool) (t s : BitString n)
      → (seen (matrices S n) x (single n q Z)).act (ket S one n t) s ≡ cond (beq (bit_at n q t) x) (ket S one n t s) S.none
  outcome-ket = Kets.outcome-ket S one n

  module _ (a b : ℕ) (ha : a < n) (hb : b < n) (ab : a ≢ b) (t s : BitString n) where
    pub cnot-ket : (if_one (matrices S n) a (x_of (matrices S n) b)).act (ket S one n t) s ≡ ket S one n (cond (bit_at n a t) (flip_at n b t) t) s
    cnot-ket = Kets.cnot-ket S one n a b ha hb ab t s

    pub cz-ket : (if_one (matrices S n) a (z_of (matrices S n) b)).act (ket S one n t) s ≡ phased S (cond (bit_at n a t) (sign_of (bit_at n b t)) One) (ket S one n t s)
    cz-ket = Kets.cz-ket S one n a b ha hb ab t s

    pub cy-ket : (if_one (matrices S n) a (y_of (matrices S n) b)).act (ket S one n t) s
        ≡ phased S (cond (bit_at n a t) (cond (bit_at n b t) MinusI PlusI) One) (ket S one n (cond (bit_at n a t) (flip_at n b t) t) s)
    cy-ket = Kets.cy-ket S one n a b ha hb ab t s

    -- both bits are flipped where they differ
    pub swap-ket : (swap_of (matrices S n) a b).act (ket S one n t) s ≡ ket S one n (cond (bit_at n a t xor bit_at n b t) (flip_at n a (flip_at n b t)) t) s
    swap-ket = Kets.swap-ket S one n a b ha hb ab t s

    module _ (c : ℕ) (hc : c < n) (ac : a ≢ c) (bc : b ≢ c) where
      pub ccx-ket : (if_one (matrices S n) a (if_one (matrices S n) b (x_of (matrices S n) c))).act (ket S one n t) s ≡ ket S one n (cond (bit_at n a t && bit_at n b t) (flip_at n c t) t) s
      ccx-ket = Kets.ccx-ket S one n a b c ha hb hc ab ac bc t s

      pub ccz-ket : (if_one (matrices S n) a (if_one (matrices S n) b (z_of (matrices S n) c))).act (ket S one n t) s
          ≡ phased S (cond (bit_at n a t && bit_at n b t) (sign_of (bit_at n c t)) One) (ket S one n t s)
      ccz-ket = Kets.ccz-ket S one n a b c ha hb hc ab ac bc t s
