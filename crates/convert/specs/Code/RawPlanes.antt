-- What the loops over plane words do, word by word.
use Rattle.std.specs.Prelude.{◌≡◌, Bool, ◌||◌, ◌≢◌, List, [], ◌∷◌, ℕ, zero, suc, ◌+◌, ◌*◌, ◌/◌, ◌%◌, ◌^◌, ◌<◌, ◌≤◌, ltb, length, get_or, set}
use Rattle.std.specs.Int.Bits.{bit_xor, bit_or}
use Rattle.std.specs.Int.Count.{ones}
use Rattle.pauli.specs.Rows.{Row, identity, Width}
use Rattle.pauli.specs.Gates.{Gate, gate_h, gate_x, gate_z, gate_s, gate_sdg, gate_cnot, gate_cz}

-- the first k words at t, each xored with the one at s
unfoldable pub xor_to : List ℕ → ℕ → ℕ → ℕ → List ℕ
xor_to p t s zero = p
xor_to p t s (suc k) = set (xor_to p t s k) (t + k) (bit_xor (get_or (xor_to p t s k) (t + k) 0) (get_or (xor_to p t s k) (s + k) 0))

-- the first k words at a and at b change places
unfoldable pub swap_to : List ℕ → ℕ → ℕ → ℕ → List ℕ
swap_to p a b zero = p
swap_to p a b (suc k) = set (set (swap_to p a b k) (a + k) (get_or (swap_to p a b k) (b + k) 0)) (b + k) (get_or (swap_to p a b k) (a + k) 0)

-- the k words from `first` on are 0
unfoldable pub clear_to : List ℕ → ℕ → ℕ → List ℕ
clear_to p first zero = p
clear_to p first (suc k) = set (clear_to p first k) (first + k) 0

-- the bits of qubit q in the two images of qubit q
abbrev pub mark_at : List ℕ → ℕ → ℕ → List ℕ
mark_at p l q = set (set p ((q + q) * (l + l) + q / 64) (2 ^ (q % 64))) (suc (q + q) * (l + l) + (l + q / 64)) (2 ^ (q % 64))

-- the same for each qubit below k
unfoldable pub mark_to : List ℕ → ℕ → ℕ → List ℕ
mark_to p l zero = p
mark_to p l (suc q) = mark_at (mark_to p l q) l q

-- a word, if it is picked
abbrev pub picked : ℕ → ℕ → ℕ
picked zero w = 0
picked (suc u) w = w

-- the exclusive-or of the picked words at k of three images
abbrev pub joined : List ℕ → ℕ → ℕ → ℕ → ℕ → ℕ → ℕ → ℕ → ℕ
joined p ua ub ud a b d k = bit_xor (bit_xor (picked ua (get_or p (a + k) 0)) (picked ub (get_or p (b + k) 0))) (picked ud (get_or p (d + k) 0))

-- the ones of (x or z), over the first k words of the parts
unfoldable pub weight_to : List ℕ → ℕ → ℕ → ℕ → ℕ → ℕ → ℕ → ℕ → ℕ → ℕ
weight_to p l ua ub ud a b d zero = 0
weight_to p l ua ub ud a b d (suc k) = weight_to p l ua ub ud a b d k + ones (bit_or (joined p ua ub ud a b d k) (joined p ua ub ud a b d (l + k)))

-- the exclusive-or of the words of the first k images of a list, at a place of theirs
unfoldable pub joint_to : List ℕ → ℕ → ℕ → List ℕ → ℕ → ℕ
joint_to p s at is zero = 0
joint_to p s at is (suc k) = bit_xor (joint_to p s at is k) (get_or p (get_or is k 0 * s + at) 0)

-- the weight of the product of a list of images, over the first k words of the parts
unfoldable pub product_to : List ℕ → ℕ → List ℕ → ℕ → ℕ
product_to p l is zero = 0
product_to p l is (suc k) = product_to p l is k + ones (bit_or (joint_to p (l + l) k is (length is)) (joint_to p (l + l) (l + k) is (length is)))

-- the or of the words at k of three images
abbrev pub any_of : List ℕ → ℕ → ℕ → ℕ → ℕ → ℕ
any_of p a b d k = bit_or (bit_or (get_or p (a + k) 0) (get_or p (b + k) 0)) (get_or p (d + k) 0)

-- the ones of (x or z) of any of three images, over the first k words of the parts
unfoldable pub union_to : List ℕ → ℕ → ℕ → ℕ → ℕ → ℕ → ℕ
union_to p l a b d zero = 0
union_to p l a b d (suc k) = union_to p l a b d k + ones (bit_or (any_of p a b d k) (any_of p a b d (l + k)))

-- what a frame gate does to the planes, word by word
unfoldable pub plane_step : ℕ → Gate → List ℕ → List ℕ
plane_step l (gate_h q) p = swap_to p ((q + q) * (l + l)) (suc (q + q) * (l + l)) (l + l)
plane_step l (gate_x q) p = p
plane_step l (gate_z q) p = p
plane_step l (gate_s q) p = xor_to p ((q + q) * (l + l)) (suc (q + q) * (l + l)) (l + l)
plane_step l (gate_sdg q) p = xor_to p ((q + q) * (l + l)) (suc (q + q) * (l + l)) (l + l)
plane_step l (gate_cnot c t) p = xor_to (xor_to p ((c + c) * (l + l)) ((t + t) * (l + l)) (l + l)) (suc (t + t) * (l + l)) (suc (c + c) * (l + l)) (l + l)
plane_step l (gate_cz c t) p = xor_to (xor_to p ((c + c) * (l + l)) (suc (t + t) * (l + l)) (l + l)) ((t + t) * (l + l)) (suc (c + c) * (l + l)) (l + l)

unfoldable pub plane_run : ℕ → List Gate → List ℕ → List ℕ
plane_run l [] p = p
plane_run l (g ∷ gs) p = plane_run l gs (plane_step l g p)

-- all planes as at the start
unfoldable pub plane_reset : ℕ → ℕ → List ℕ → List ℕ
plane_reset n l p = mark_to (clear_to p 0 ((n + n) * (l + l))) l n

-- the words of a qubit's two images
abbrev pub qubit_words : ℕ → ℕ
qubit_words l = (l + l) + (l + l)

-- the images of qubit q, if it is below n, are as at the start; all other words stay
pub record Restored (n l q : ℕ) (p p' : List ℕ) : Type 0 where
  pub size : length p' ≡ length p
  pub inside : (j : ℕ) → q < n → j < qubit_words l → get_or p' (q * qubit_words l + j) 0 ≡ get_or (plane_reset n l p) (q * qubit_words l + j) 0
  pub others : (a j : ℕ) → a ≢ q → j < qubit_words l → get_or p' (a * qubit_words l + j) 0 ≡ get_or p (a * qubit_words l + j) 0
  pub past : (m : ℕ) → n * qubit_words l ≤ m → get_or p' m 0 ≡ get_or p m 0

-- none of `count` records from `first` on has q as its operand 1 or 2
abbrev pub Untouched : List ℕ → ℕ → ℕ → ℕ → Type 0
Untouched gs first count q = (k : ℕ) → k < count → (q ≢ get_or gs (4 * (first + k) + 1) 0) × (q ≢ get_or gs (4 * (first + k) + 2) 0)

-- the images of qubits that these records leave alone are as at the start
pub record Since (n l : ℕ) (p gs : List ℕ) (first count : ℕ) : Type 0 where
  pub same : (q j : ℕ) → q < n → j < qubit_words l → Untouched gs first count q → get_or p (q * qubit_words l + j) 0 ≡ get_or (plane_reset n l p) (q * qubit_words l + j) 0

-- a table of n qubits: 2n rows of n letters
pub record Wide (n : ℕ) (t : List Row) : Type 0 where
  pub rows : length t ≡ n + n
  pub widths : (i : ℕ) → Width n (get_or t i (identity n))

-- the seven tests, word by word
abbrev pub seven_above : List ℕ → ℕ → ℕ → ℕ → ℕ → ℕ → Bool
seven_above p l cap a b d =
    ltb cap (weight_to p l 1 0 0 a b d l) || (ltb cap (weight_to p l 0 1 0 a b d l) || (ltb cap (weight_to p l 0 0 1 a b d l)
    || (ltb cap (weight_to p l 1 1 0 a b d l) || (ltb cap (weight_to p l 1 0 1 a b d l) || (ltb cap (weight_to p l 0 1 1 a b d l)
    || ltb cap (weight_to p l 1 1 1 a b d l))))))
