-- Packed planes: what exclusive-or, exchange and counting do to them.
use mathlib.Core.Path.{◌≡◌, refl, sym, ap, ◌∙◌}
use mathlib.Core.Bool.{Bool, true, false, cond}
use mathlib.Core.Logic.{◌≢◌, ◌⊎◌, inl, inr, ⊎_elim}
use mathlib.Core.List.{List, [], ◌∷◌, ◌++◌}
use Prim.Native.Nat.{ℕ, zero, suc, ◌+◌, ◌*◌, ◌-◌, ◌/◌, ◌%◌, ◌^◌, ◌<◌, ◌≤◌, max}
use native.Mathlib.Nat.{suc-mul, zero-mul, mul-le-mul_right, div-add-mod', mod-lt, add-zero, zero-add, add_comm, pow-suc, mul_assoc, mod-eq_of_lt, div-eq_of_lt, mul-mod_left, le_refl, lt_of_lt_of_le, lt_of_mul-lt-mul_right}
use native.Mathlib.Omega.{arith}
use native.Mathlib.Numerals.{add-one}
use lib.ListN.{length, get_or, set, drop, replicate, length-append, length-set, length-drop, length-replicate, get_or-append}
use lib.Seq.{get_or-drop, get_or-append-add, get_or-set_same, get_or-set_other, ext_get_or}
use lib.Bits.{bit_xor, bit_or, differ, xor_step, xor_mod, xor_shr, xor_zero_l, xor_zero_r, or_mod, or_shr, or_step}
use lib.Pow.{shr_lt, pow_pos, pow_mono, pow-lt, pow-add, shl-shr}
use lib.Count.{ones, ones_cat, ones_step}
use Rattle.pauli.specs.Letters.{◌·◌}
use Rattle.pauli.specs.Rows.{Row, products, identity, single, tally, present, weight}
use Rattle.pauli.specs.Bits.{x_bit, z_bit, ◌xor◌}
use Rattle.pauli.specs.Table.{x_row, z_row}
use Rattle.convert.specs.Types.{Pauli, I, X, Y, Z}
use Rattle.convert.specs.Planes.{mask, digits, part_words, row_words, rows_words, images, packed}
use Rattle.convert.specs.Code.RawPlanes.{xor_to, swap_to, clear_to, mark_to, picked, joined, weight_to}

abbrev pub picked_letters : ℕ → List Pauli → List Pauli
picked_letters zero us = []
picked_letters (suc u) us = us

-- the letters of the product of the picked rows
abbrev pub chosen : ℕ → ℕ → ℕ → Row → Row → Row → List Pauli
chosen ua ub ud A B D = products (products (picked_letters ua A.letters) (picked_letters ub B.letters)) (picked_letters ud D.letters)

pub below : (a b : ℕ) → (a < b) ⊎ (b ≤ a)
below a zero = inr (omega arith)
below zero (suc b) = inl (omega arith)
below (suc a) (suc b) = ⊎_elim (λ h. inl (omega arith)) (λ h. inr (omega arith)) (below a b)

pub digits-length : (l m : ℕ) → length (digits l m) ≡ l
unfolding digits
digits-length zero m = refl
digits-length (suc l) m = ap suc (digits-length l (m / 2 ^ 64))

-- word by word
digits-xor : (l a b j : ℕ) → get_or (digits l (bit_xor a b)) j 0 ≡ bit_xor (get_or (digits l a) j 0) (get_or (digits l b) j 0)
unfolding digits
digits-xor zero a b j = refl
digits-xor (suc l) a b zero = xor_mod a b 64
digits-xor (suc l) a b (suc j) = rw (xor_shr a b 64) (digits-xor l (a / 2 ^ 64) (b / 2 ^ 64) j)

-- ---- masks

half : (b : Bool) (m : ℕ) → tally b (2 * m) / 2 ≡ m
half true m = omega arith
half false m = omega arith

low : (b : Bool) (m : ℕ) → tally b (2 * m) % 2 ≡ tally b 0
low true m = omega arith
low false m = omega arith

tally-differ : (a b : Bool) (m : ℕ) → tally (a xor b) (2 * m) ≡ m * 2 + differ (tally a 0) (tally b 0)
tally-differ true true m = omega arith
tally-differ true false m = omega arith
tally-differ false true m = omega arith
tally-differ false false m = omega arith

module _ (f : Pauli → Bool) (hom : (a b : Pauli) → f (a · b) ≡ (f a xor f b)) where
  mask-products : (us vs : List Pauli) → mask f (products us vs) ≡ bit_xor (mask f us) (mask f vs)
  unfolding mask
  mask-products [] vs = sym (xor_zero_l (mask f vs))
  mask-products (a ∷ us) [] = sym (xor_zero_r (tally (f a) (2 * mask f us)))
  mask-products (a ∷ us) (b ∷ vs) =
      rw (xor_step (tally (f a) (2 * mask f us)) (tally (f b) (2 * mask f vs)), half, half, low, low, hom a b, mask-products us vs)
      (tally-differ (f a) (f b) (bit_xor (mask f us) (mask f vs)))

hom_x : (a b : Pauli) → x_bit (a · b) ≡ (x_bit a xor x_bit b)
hom_x I b = refl
hom_x X I = refl
hom_x X X = refl
hom_x X Y = refl
hom_x X Z = refl
hom_x Y I = refl
hom_x Y X = refl
hom_x Y Y = refl
hom_x Y Z = refl
hom_x Z I = refl
hom_x Z X = refl
hom_x Z Y = refl
hom_x Z Z = refl

hom_z : (a b : Pauli) → z_bit (a · b) ≡ (z_bit a xor z_bit b)
hom_z I b = refl
hom_z X I = refl
hom_z X X = refl
hom_z X Y = refl
hom_z X Z = refl
hom_z Y I = refl
hom_z Y X = refl
hom_z Y Y = refl
hom_z Y Z = refl
hom_z Z I = refl
hom_z Z X = refl
hom_z Z Y = refl
hom_z Z Z = refl

pub x-products : (us vs : List Pauli) → mask x_bit (products us vs) ≡ bit_xor (mask x_bit us) (mask x_bit vs)
x-products us vs = mask-products x_bit hom_x us vs

pub z-products : (us vs : List Pauli) → mask z_bit (products us vs) ≡ bit_xor (mask z_bit us) (mask z_bit vs)
z-products us vs = mask-products z_bit hom_z us vs

-- ---- rows

pub row-length : (l : ℕ) (P : Row) → length (row_words l P) ≡ l + l
unfolding row_words
row-length l P = rw (length-append, digits-length, digits-length)

-- the two parts, word by word
row_x : (l : ℕ) (P : Row) (j : ℕ) → j < l → get_or (row_words l P) j 0 ≡ get_or (digits l (mask x_bit P.letters)) j 0
unfolding row_words
row_x l P j h =
    let e = digits-length l (mask x_bit P.letters) in
    get_or-append (digits l (mask x_bit P.letters)) (digits l (mask z_bit P.letters)) 0 j (omega arith)

row_z : (l : ℕ) (P : Row) (j : ℕ) → get_or (row_words l P) (l + j) 0 ≡ get_or (digits l (mask z_bit P.letters)) j 0
unfolding row_words
row_z l P j =
    let e = digits-length l (mask x_bit P.letters) in
    let g = get_or-append-add (digits l (mask x_bit P.letters)) (digits l (mask z_bit P.letters)) j 0 in
    rw e at g

-- the words of a row with the letters of a product
pub row-products : (l : ℕ) (P Q R : Row) → R.letters ≡ products P.letters Q.letters → (j : ℕ) → j < l + l
    → get_or (row_words l R) j 0 ≡ bit_xor (get_or (row_words l P) j 0) (get_or (row_words l Q) j 0)
row-products l P Q R e j h = ⊎_elim
    (λ (lo : j < l). rw (row_x l R j lo, row_x l P j lo, row_x l Q j lo, e, x-products) (digits-xor l (mask x_bit P.letters) (mask x_bit Q.letters) j))
    (λ (hi : l ≤ j).
    let k = j - l in
    let s : j ≡ l + k = omega arith in
    rw (s, row_z l R k, row_z l P k, row_z l Q k, e, z-products) (digits-xor l (mask z_bit P.letters) (mask z_bit Q.letters) k))
    (below j l)

-- ---- the words of many rows

pub rows-length : (l : ℕ) (Ps : List Row) → length (rows_words l Ps) ≡ length Ps * (l + l)
unfolding rows_words
rows-length l [] = omega arith
rows-length l (P ∷ Ps) = rw (length-append, row-length l P, rows-length l Ps, suc-mul) (omega arith)

pub rows_at : (l : ℕ) (Ps : List Row) (d : Row) (i j : ℕ) → i < length Ps → j < l + l
    → get_or (rows_words l Ps) (i * (l + l) + j) 0 ≡ get_or (row_words l (get_or Ps i d)) j 0
unfolding rows_words
rows_at l [] d i j hi hj = omega arith
rows_at l (P ∷ Ps) d zero j hi hj =
    let e = row-length l P in
    let z : 0 * (l + l) + j ≡ j = omega (arith, zero-mul (l + l)) in
    rw z (get_or-append (row_words l P) (rows_words l Ps) 0 j (omega arith))
rows_at l (P ∷ Ps) d (suc i) j hi hj =
    let e = row-length l P in
    let s : suc i * (l + l) + j ≡ length (row_words l P) + (i * (l + l) + j) = omega (arith, suc-mul i (l + l)) in
    rw (s, get_or-append-add (row_words l P) (rows_words l Ps) (i * (l + l) + j) 0) (rows_at l Ps d i j (omega arith) hj)

-- ---- images

pub images-length : (n : ℕ) (t : List Row) (q k : ℕ) → length (images n t q k) ≡ k + k
unfolding images
images-length n t q zero = refl
images-length n t q (suc k) = omega (arith, images-length n t (suc q) k)

pub image_x : (n : ℕ) (t : List Row) (p k q : ℕ) (d : Row) → q < k → get_or (images n t p k) (q + q) d ≡ x_row n t (p + q)
unfolding images
image_x n t p zero q d h = absurd (omega arith)
image_x n t p (suc k) zero d h = rw add-zero
image_x n t p (suc k) (suc q) d h =
    let e : suc q + suc q ≡ suc (suc (q + q)) = omega arith in
    let f : suc p + q ≡ p + suc q = omega arith in
    ap (λ (m : ℕ). get_or (images n t p (suc k)) m d) e ∙ image_x n t (suc p) k q d (omega arith) ∙ ap (λ (m : ℕ). x_row n t m) f

pub image_z : (n : ℕ) (t : List Row) (p k q : ℕ) (d : Row) → q < k → get_or (images n t p k) (suc (q + q)) d ≡ z_row n t (p + q)
unfolding images
image_z n t p zero q d h = absurd (omega arith)
image_z n t p (suc k) zero d h = rw add-zero
image_z n t p (suc k) (suc q) d h =
    let e : suc (suc q + suc q) ≡ suc (suc (suc (q + q))) = omega arith in
    let f : suc p + q ≡ p + suc q = omega arith in
    ap (λ (m : ℕ). get_or (images n t p (suc k)) m d) e ∙ image_z n t (suc p) k q d (omega arith) ∙ ap (λ (m : ℕ). z_row n t m) f

pub first_x : (n : ℕ) (t : List Row) (q : ℕ) → q < n → get_or (images n t 0 n) (q + q) (identity n) ≡ x_row n t q
first_x n t q h = image_x n t 0 n q (identity n) h ∙ ap (λ (m : ℕ). x_row n t m) (zero-add q)

pub first_z : (n : ℕ) (t : List Row) (q : ℕ) → q < n → get_or (images n t 0 n) (suc (q + q)) (identity n) ≡ z_row n t q
first_z n t q h = image_z n t 0 n q (identity n) h ∙ ap (λ (m : ℕ). z_row n t m) (zero-add q)

-- ---- the loops, word by word

pub xor-out : (p : List ℕ) (t s k m : ℕ) → (m < t) ⊎ (t + k ≤ m) → get_or (xor_to p t s k) m 0 ≡ get_or p m 0
unfolding xor_to
xor-out p t s zero m h = refl
xor-out p t s (suc k) m h =
    get_or-set_other (xor_to p t s k) (t + k) m (bit_xor (get_or (xor_to p t s k) (t + k) 0) (get_or (xor_to p t s k) (s + k) 0)) 0
    (λ e. ⊎_elim (λ (a : m < t). omega arith) (λ (b : t + suc k ≤ m). omega arith) h)
    ∙ xor-out p t s k m (⊎_elim (λ (a : m < t). inl a) (λ (b : t + suc k ≤ m). inr (omega arith)) h)

pub xor-length : (p : List ℕ) (t s k : ℕ) → length (xor_to p t s k) ≡ length p
unfolding xor_to
xor-length p t s zero = refl
xor-length p t s (suc k) = rw (length-set, xor-length p t s k)

xor-in : (p : List ℕ) (t s k j : ℕ) → t + k ≤ length p → (s + k ≤ t) ⊎ (t + k ≤ s) → j < k
    → get_or (xor_to p t s k) (t + j) 0 ≡ bit_xor (get_or p (t + j) 0) (get_or p (s + j) 0)
unfolding xor_to
xor-in p t s zero j fits apart h = omega arith
xor-in p t s (suc k) j fits apart h =
    let v = bit_xor (get_or (xor_to p t s k) (t + k) 0) (get_or (xor_to p t s k) (s + k) 0) in
    let len = xor-length p t s k in
    let less : (s + k ≤ t) ⊎ (t + k ≤ s) = ⊎_elim (λ (a : s + suc k ≤ t). inl (omega arith)) (λ (b : t + suc k ≤ s). inr (omega arith)) apart in
    ⊎_elim
    (λ (lo : j < k).
    get_or-set_other (xor_to p t s k) (t + k) (t + j) v 0 (λ e. omega arith)
    ∙ xor-in p t s k j (omega arith) less lo)
    (λ (hi : k ≤ j).
    let e : j ≡ k = omega arith in
    rw (
      e,
      get_or-set_same (xor_to p t s k) (t + k) v 0 (omega arith),
      xor-out p t s k (t + k) (inr (omega arith)),
      xor-out p t s k (s + k) (⊎_elim (λ (a : s + suc k ≤ t). inl (omega arith)) (λ (b : t + suc k ≤ s). inr (omega arith)) apart),
    ))
    (below j k)

pub swap_out : (p : List ℕ) (a b k m : ℕ) → (m < a) ⊎ (a + k ≤ m) → (m < b) ⊎ (b + k ≤ m) → get_or (swap_to p a b k) m 0 ≡ get_or p m 0
unfolding swap_to
swap_out p a b zero m h g = refl
swap_out p a b (suc k) m h g =
    get_or-set_other (set (swap_to p a b k) (a + k) (get_or (swap_to p a b k) (b + k) 0)) (b + k) m (get_or (swap_to p a b k) (a + k) 0) 0
    (λ e. ⊎_elim (λ (x : m < b). omega arith) (λ (y : b + suc k ≤ m). omega arith) g)
    ∙ get_or-set_other (swap_to p a b k) (a + k) m (get_or (swap_to p a b k) (b + k) 0) 0
    (λ e. ⊎_elim (λ (x : m < a). omega arith) (λ (y : a + suc k ≤ m). omega arith) h)
    ∙ swap_out p a b k m
    (⊎_elim (λ (x : m < a). inl x) (λ (y : a + suc k ≤ m). inr (omega arith)) h)
    (⊎_elim (λ (x : m < b). inl x) (λ (y : b + suc k ≤ m). inr (omega arith)) g)

pub swap-length : (p : List ℕ) (a b k : ℕ) → length (swap_to p a b k) ≡ length p
unfolding swap_to
swap-length p a b zero = refl
swap-length p a b (suc k) = rw (length-set, length-set, swap-length p a b k)

-- a below b
swap_in : (p : List ℕ) (a b k j : ℕ) → a + k ≤ b → b + k ≤ length p → j < k
    → (get_or (swap_to p a b k) (a + j) 0 ≡ get_or p (b + j) 0) × (get_or (swap_to p a b k) (b + j) 0 ≡ get_or p (a + j) 0)
unfolding swap_to
swap_in p a b zero j apart fits h = omega arith
swap_in p a b (suc k) j apart fits h =
    let w = swap_to p a b k in
    let len = swap-length p a b k in
    let x = get_or w (b + k) 0 in
    let y = get_or w (a + k) 0 in
    let len₂ = length-set w (a + k) x in
    ⊎_elim
    (λ (lo : j < k).
    let r = swap_in p a b k j (omega arith) (omega arith) lo in (
      get_or-set_other (set w (a + k) x) (b + k) (a + j) y 0 (λ e. omega arith) ∙ get_or-set_other w (a + k) (a + j) x 0 (λ e. omega arith) ∙ r.0,
      get_or-set_other (set w (a + k) x) (b + k) (b + j) y 0 (λ e. omega arith) ∙ get_or-set_other w (a + k) (b + j) x 0 (λ e. omega arith) ∙ r.1,
    ))
    (λ (hi : k ≤ j).
    let e : j ≡ k = omega arith in
    rw e (
      get_or-set_other (set w (a + k) x) (b + k) (a + k) y 0 (λ e. omega arith) ∙ get_or-set_same w (a + k) x 0 (omega arith)
          ∙ swap_out p a b k (b + k) (inr (omega arith)) (inr (omega arith)),
      get_or-set_same (set w (a + k) x) (b + k) y 0 (omega arith) ∙ swap_out p a b k (a + k) (inr (omega arith)) (inl (omega arith)),
    ))
    (below j k)

-- ---- the loops on packed rows

-- a place of the words of rows is a place in one row
pub split_place : (k s m : ℕ) → 0 < s → m < k * s → (m / s < k) × (m % s < s) × (m / s * s + m % s ≡ m)
split_place k s m pos h = (lt_of_mul-lt-mul_right s (omega (arith, div-add-mod' m s)), mod-lt m pos, div-add-mod' m s)

-- places of another row lie outside
pub outside : (s i a b : ℕ) → b < s → a ≢ i → (a * s + b < i * s) ⊎ (i * s + s ≤ a * s + b)
outside s i a b h ne = ⊎_elim
    (λ (lo : a < i). inl (omega (arith, suc-mul a s, mul-le-mul_right s (the_le a i lo))))
    (λ (hi : i ≤ a). ⊎_elim
    (λ (up : i < a). inr (omega (arith, suc-mul i s, mul-le-mul_right s (the_le i a up))))
    (λ (e : a ≤ i). absurd (ne (omega arith)))
    (below i a))
    (below a i)
  where
    the_le : (x y : ℕ) → x < y → suc x ≤ y
    the_le x y h = omega arith

apart_rows : (s i j : ℕ) → i ≢ j → (j * s + s ≤ i * s) ⊎ (i * s + s ≤ j * s)
apart_rows s i j ne = ⊎_elim
    (λ (lo : i < j). inr (omega (arith, suc-mul i s, mul-le-mul_right s (the_le i j lo))))
    (λ (hi : j ≤ i). ⊎_elim
    (λ (up : j < i). inl (omega (arith, suc-mul j s, mul-le-mul_right s (the_le j i up))))
    (λ (e : i ≤ j). absurd (ne (omega arith)))
    (below j i))
    (below i j)
  where
    the_le : (x y : ℕ) → x < y → suc x ≤ y
    the_le x y h = omega arith

pub row_ends : (s i k : ℕ) → i < k → i * s + s ≤ k * s
row_ends s i k h = omega (arith, suc-mul i s, mul-le-mul_right s (the_le i k h))
  where
    the_le : (x y : ℕ) → x < y → suc x ≤ y
    the_le x y h = omega arith

pub same_or_not : (a b : ℕ) → (a ≡ b) ⊎ (a ≢ b)
same_or_not a b = ⊎_elim
    (λ (lo : a < b). inr (λ e. omega arith))
    (λ (hi : b ≤ a). ⊎_elim (λ (up : b < a). inr (λ e. omega arith)) (λ (e : a ≤ b). inl (omega arith)) (below b a))
    (below a b)

-- two lists of words that agree on the rows' words and past them
by_rows : (l : ℕ) (d : Row) (Qs : List Row) (rest w : List ℕ) → 0 < l → length w ≡ length Qs * (l + l) + length rest
    → ((a b : ℕ) → a < length Qs → b < l + l → get_or w (a * (l + l) + b) 0 ≡ get_or (row_words l (get_or Qs a d)) b 0)
    → ((m : ℕ) → get_or w (length Qs * (l + l) + m) 0 ≡ get_or rest m 0)
    → w ≡ rows_words l Qs ++ rest
by_rows l d Qs rest w pos len inside past = ext_get_or 0 w (rows_words l Qs ++ rest) (rw (length-append, rows-length l Qs) len) (λ m h. ⊎_elim
    (λ (lo : m < length Qs * (l + l)).
    let sp = split_place (length Qs) (l + l) m (omega arith) lo in
    let e = rows-length l Qs in
    rw (get_or-append (rows_words l Qs) rest 0 m (omega arith))
    (rw (← sp.2) (inside (m / (l + l)) (m % (l + l)) sp.0 sp.1 ∙ sym (rows_at l Qs d (m / (l + l)) (m % (l + l)) sp.0 sp.1))))
    (λ (hi : length Qs * (l + l) ≤ m).
    let k = m - length Qs * (l + l) in
    let e = rows-length l Qs in
    let s : m ≡ length Qs * (l + l) + k = omega arith in
    let g : get_or (rows_words l Qs ++ rest) (length (rows_words l Qs) + k) 0 ≡ get_or rest k 0 = get_or-append-add (rows_words l Qs) rest k 0 in
    let s₂ : m ≡ length (rows_words l Qs) + k = omega arith in
    ap (λ (x : ℕ). get_or w x 0) s ∙ past k ∙ sym g ∙ ap (λ (x : ℕ). get_or (rows_words l Qs ++ rest) x 0) (sym s₂))
    (below m (length Qs * (l + l))))

module _ (l : ℕ) (d : Row) (Ps : List Row) (rest : List ℕ) (pos : 0 < l) where
  whole_length : length (rows_words l Ps ++ rest) ≡ length Ps * (l + l) + length rest
  whole_length = rw (length-append, rows-length l Ps)

  at_row : (a b : ℕ) → a < length Ps → b < l + l → get_or (rows_words l Ps ++ rest) (a * (l + l) + b) 0 ≡ get_or (row_words l (get_or Ps a d)) b 0
  at_row a b ha hb =
      let e = rows-length l Ps in
      let r = row_ends (l + l) a (length Ps) ha in
      get_or-append (rows_words l Ps) rest 0 (a * (l + l) + b) (omega arith) ∙ rows_at l Ps d a b ha hb

  at_rest : (m : ℕ) → get_or (rows_words l Ps ++ rest) (length Ps * (l + l) + m) 0 ≡ get_or rest m 0
  at_rest m = rw (← rows-length l Ps) (get_or-append-add (rows_words l Ps) rest m 0)

  pub rows-xor : (i j : ℕ) (R : Row) → i < length Ps → j < length Ps → i ≢ j → R.letters ≡ products (get_or Ps i d).letters (get_or Ps j d).letters
      → xor_to (rows_words l Ps ++ rest) (i * (l + l)) (j * (l + l)) (l + l) ≡ rows_words l (set Ps i R) ++ rest
  rows-xor i j R hi hj ne same =
      let s = l + l in
      let w = rows_words l Ps ++ rest in
      let len = length-set Ps i R in
      let wl = whole_length in
      let ends = row_ends s i (length Ps) hi in
      let apart = apart_rows s i j ne in
      by_rows l d (set Ps i R) rest (xor_to w (i * s) (j * s) s) pos (rw (len, xor-length w (i * s) (j * s) s) wl)
      (λ a b ha hb. ⊎_elim
      (λ (e : a ≡ i). rw (e, xor-in w (i * s) (j * s) s b (omega arith) apart hb, at_row i b hi hb, at_row j b hj hb, get_or-set_same Ps i R d hi)
      (sym (row-products l (get_or Ps i d) (get_or Ps j d) R same b hb)))
      (λ (no : a ≢ i). rw (xor-out w (i * s) (j * s) s (a * s + b) (outside s i a b hb no), at_row a b (omega arith) hb, get_or-set_other Ps i a R d no))
      (same_or_not a i))
      (λ m. rw len (xor-out w (i * s) (j * s) s (length Ps * s + m) (inr (omega arith)) ∙ at_rest m))

  pub rows_swap : (i j : ℕ) → i < j → j < length Ps
      → swap_to (rows_words l Ps ++ rest) (i * (l + l)) (j * (l + l)) (l + l) ≡ rows_words l (set (set Ps i (get_or Ps j d)) j (get_or Ps i d)) ++ rest
  rows_swap i j lt hj =
      let s = l + l in
      let w = rows_words l Ps ++ rest in
      let A = get_or Ps j d in
      let B = get_or Ps i d in
      let hi : i < length Ps = omega arith in
      let len : length (set (set Ps i A) j B) ≡ length Ps = length-set (set Ps i A) j B ∙ length-set Ps i A in
      let len₁ = length-set Ps i A in
      let wl = whole_length in
      let ends = row_ends s j (length Ps) hj in
      let apart = row_ends s i j lt in
      by_rows l d (set (set Ps i A) j B) rest (swap_to w (i * s) (j * s) s) pos (rw (len, swap-length w (i * s) (j * s) s) wl)
      (λ a b ha hb. ⊎_elim
      (λ (e : a ≡ i). rw (e, get_or-set_other (set Ps i A) j i B d (λ x. omega arith), get_or-set_same Ps i A d hi)
      ((swap_in w (i * s) (j * s) s b apart (omega arith) hb).0 ∙ at_row j b hj hb))
      (λ (no : a ≢ i). ⊎_elim
      (λ (e : a ≡ j). rw (e, get_or-set_same (set Ps i A) j B d (omega arith))
      ((swap_in w (i * s) (j * s) s b apart (omega arith) hb).1 ∙ at_row i b hi hb))
      (λ (nj : a ≢ j). rw (
        get_or-set_other (set Ps i A) j a B d nj,
        get_or-set_other Ps i a A d no,
        swap_out w (i * s) (j * s) s (a * s + b) (outside s i a b hb no) (outside s j a b hb nj),
      ) (at_row a b (omega arith) hb))
      (same_or_not a j))
      (same_or_not a i))
      (λ m. rw len (swap_out w (i * s) (j * s) s (length Ps * s + m) (inr (omega arith)) (inr (omega arith)) ∙ at_rest m))

-- ---- the images of a table after a row is replaced

pub halves : (m : ℕ) → (m ≡ m / 2 + m / 2) ⊎ (m ≡ suc (m / 2 + m / 2))
halves m = ⊎_elim (λ (lo : m % 2 < 1). inl (omega arith)) (λ (hi : 1 ≤ m % 2). inr (omega arith)) (below (m % 2) 1)

-- two lists of images that agree at each x and each z
pub by-images : (d : Row) (n : ℕ) (us vs : List Row) → length us ≡ n + n → length vs ≡ n + n
    → ((q : ℕ) → q < n → get_or us (q + q) d ≡ get_or vs (q + q) d) → ((q : ℕ) → q < n → get_or us (suc (q + q)) d ≡ get_or vs (suc (q + q)) d) → us ≡ vs
by-images d n us vs lu lv xs zs = ext_get_or d us vs (lu ∙ sym lv) (λ m h. ⊎_elim
    (λ (e : m ≡ m / 2 + m / 2). rw e (xs (m / 2) (omega arith)))
    (λ (e : m ≡ suc (m / 2 + m / 2)). rw e (zs (m / 2) (omega arith)))
    (halves m))

module _ (n : ℕ) (t : List Row) (P : Row) (q : ℕ) (wide : length t ≡ n + n) (hq : q < n) where
  pub images-set_x : images n (set t q P) 0 n ≡ set (images n t 0 n) (q + q) P
  images-set_x =
      let d = identity n in
      let us = images n t 0 n in
      let len = images-length n t 0 n in
      by-images d n (images n (set t q P) 0 n) (set us (q + q) P) (images-length n (set t q P) 0 n) (length-set us (q + q) P ∙ len)
      (λ a ha. first_x n (set t q P) a ha ∙ ⊎_elim
      (λ (e : a ≡ q). rw (e, get_or-set_same t q P d (omega arith), get_or-set_same us (q + q) P d (omega arith)))
      (λ (no : a ≢ q). get_or-set_other t q a P d no ∙ sym (first_x n t a ha) ∙ sym (get_or-set_other us (q + q) (a + a) P d (λ e. no (omega arith))))
      (same_or_not a q))
      (λ a ha. first_z n (set t q P) a ha ∙ get_or-set_other t q (n + a) P d (λ e. omega arith)
      ∙ sym (first_z n t a ha) ∙ sym (get_or-set_other us (q + q) (suc (a + a)) P d (λ e. omega arith)))

  pub images-set_z : images n (set t (n + q) P) 0 n ≡ set (images n t 0 n) (suc (q + q)) P
  images-set_z =
      let d = identity n in
      let us = images n t 0 n in
      let len = images-length n t 0 n in
      by-images d n (images n (set t (n + q) P) 0 n) (set us (suc (q + q)) P) (images-length n (set t (n + q) P) 0 n) (length-set us (suc (q + q)) P ∙ len)
      (λ a ha. first_x n (set t (n + q) P) a ha ∙ get_or-set_other t (n + q) a P d (λ e. omega arith)
      ∙ sym (first_x n t a ha) ∙ sym (get_or-set_other us (suc (q + q)) (a + a) P d (λ e. omega arith)))
      (λ a ha. first_z n (set t (n + q) P) a ha ∙ ⊎_elim
      (λ (e : a ≡ q). rw (e, get_or-set_same t (n + q) P d (omega arith), get_or-set_same us (suc (q + q)) P d (omega arith)))
      (λ (no : a ≢ q). get_or-set_other t (n + q) (n + a) P d (λ e. no (omega arith)) ∙ sym (first_z n t a ha)
      ∙ sym (get_or-set_other us (suc (q + q)) (suc (a + a)) P d (λ e. no (omega arith))))
      (same_or_not a q))

-- ---- a table's planes

part_pos : (n : ℕ) → 0 < part_words n
part_pos n = omega arith

pub packed-length : (n : ℕ) (t : List Row) → length (packed n t) ≡ (n + n) * (part_words n + part_words n)
unfolding packed
packed-length n t = rw (rows-length (part_words n) (images n t 0 n), images-length n t 0 n)

-- the words at the places of image i hold those of image j besides: x rows, then z rows
module _ (n : ℕ) (t : List Row) (rest : List ℕ) (wide : length t ≡ n + n) where
  abbrev stride_of : ℕ
  stride_of = part_words n + part_words n

  pub xor-xx : (c b : ℕ) (R : Row) → c < n → b < n → c ≢ b → R.letters ≡ products (x_row n t c).letters (x_row n t b).letters
      → xor_to (packed n t ++ rest) ((c + c) * stride_of) ((b + b) * stride_of) stride_of ≡ packed n (set t c R) ++ rest
  unfolding packed
  xor-xx c b R hc hb ne e =
      let len = images-length n t 0 n in
      rw (images-set_x n t R c wide hc)
      (rows-xor (part_words n) (identity n) (images n t 0 n) rest (part_pos n) (c + c) (b + b) R (omega arith) (omega arith) (λ x. ne (omega arith))
      (rw (first_x n t c hc, first_x n t b hb) e))

  pub xor-xz : (c b : ℕ) (R : Row) → c < n → b < n → R.letters ≡ products (x_row n t c).letters (z_row n t b).letters
      → xor_to (packed n t ++ rest) ((c + c) * stride_of) (suc (b + b) * stride_of) stride_of ≡ packed n (set t c R) ++ rest
  unfolding packed
  xor-xz c b R hc hb e =
      let len = images-length n t 0 n in
      rw (images-set_x n t R c wide hc)
      (rows-xor (part_words n) (identity n) (images n t 0 n) rest (part_pos n) (c + c) (suc (b + b)) R (omega arith) (omega arith) (λ x. omega arith)
      (rw (first_x n t c hc, first_z n t b hb) e))

  pub xor-zz : (c b : ℕ) (R : Row) → c < n → b < n → c ≢ b → R.letters ≡ products (z_row n t c).letters (z_row n t b).letters
      → xor_to (packed n t ++ rest) (suc (c + c) * stride_of) (suc (b + b) * stride_of) stride_of ≡ packed n (set t (n + c) R) ++ rest
  unfolding packed
  xor-zz c b R hc hb ne e =
      let len = images-length n t 0 n in
      rw (images-set_z n t R c wide hc)
      (rows-xor (part_words n) (identity n) (images n t 0 n) rest (part_pos n) (suc (c + c)) (suc (b + b)) R (omega arith) (omega arith) (λ x. ne (omega arith))
      (rw (first_z n t c hc, first_z n t b hb) e))

  pub swap_xz : (q : ℕ) → q < n
      → swap_to (packed n t ++ rest) ((q + q) * stride_of) (suc (q + q) * stride_of) stride_of ≡ packed n (set (set t q (z_row n t q)) (n + q) (x_row n t q)) ++ rest
  unfolding packed
  swap_xz q hq =
      let len = images-length n t 0 n in
      let s = rows_swap (part_words n) (identity n) (images n t 0 n) rest (part_pos n) (q + q) (suc (q + q)) (omega arith) (omega arith) in
      let s₂ = rw (first_x n t q hq, first_z n t q hq) at s in
      rw (images-set_z n (set t q (z_row n t q)) (x_row n t q) q (length-set t q (z_row n t q) ∙ wide) hq, images-set_x n t (z_row n t q) q wide hq) s₂

-- ---- weights

digits-or : (l a b j : ℕ) → get_or (digits l (bit_or a b)) j 0 ≡ bit_or (get_or (digits l a) j 0) (get_or (digits l b) j 0)
unfolding digits
digits-or zero a b j = refl
digits-or (suc l) a b zero = or_mod a b 64
digits-or (suc l) a b (suc j) = rw (or_shr a b 64) (digits-or l (a / 2 ^ 64) (b / 2 ^ 64) j)

digits-zero : (l j : ℕ) → get_or (digits l 0) j 0 ≡ 0
unfolding digits
digits-zero zero j = refl
digits-zero (suc l) zero = refl
digits-zero (suc l) (suc j) = digits-zero l j

-- the ones of the first k words
ones_to : List ℕ → ℕ → ℕ
ones_to ws zero = 0
ones_to ws (suc k) = ones_to ws k + ones (get_or ws k 0)

ones-cons : (w : ℕ) (ws : List ℕ) (k : ℕ) → ones_to (w ∷ ws) (suc k) ≡ ones w + ones_to ws k
unfolding ones_to
ones-cons w ws zero = omega arith
ones-cons w ws (suc k) = omega (arith, ones-cons w ws k)

ones-zero : ones 0 ≡ 0
unfolding ones lib.Count.ones_in
ones-zero = refl

ones-words : (l m : ℕ) → m < 2 ^ (64 * l) → ones_to (digits l m) l ≡ ones m
unfolding digits ones_to
ones-words zero m h = let z : m ≡ 0 = omega arith in rw (z, ones-zero)
ones-words (suc l) m h =
    let e : 64 * suc l ≡ 64 * l + 64 = omega arith in
    let h₂ : m < 2 ^ (64 * l + 64) = rw e at h in
    ones-cons (m % 2 ^ 64) (digits l (m / 2 ^ 64)) l
    ∙ ap (λ (x : ℕ). ones (m % 2 ^ 64) + x) (ones-words l (m / 2 ^ 64) (shr_lt (64 * l) 64 h₂))
    ∙ add_comm (ones (m % 2 ^ 64)) (ones (m / 2 ^ 64))
    ∙ sym (ones_cat 64 (m / 2 ^ 64) (m % 2 ^ 64) (mod-lt m (pow_pos 64)))
    ∙ ap ones (div-add-mod' m (2 ^ 64))

tally-less : (b : Bool) (m k : ℕ) → m < k → tally b (2 * m) < k * 2
tally-less true m k h = omega arith
tally-less false m k h = omega arith

mask_lt : (f : Pauli → Bool) (us : List Pauli) → mask f us < 2 ^ length us
unfolding mask
mask_lt f [] = omega arith
mask_lt f (a ∷ us) = rw (pow-suc 2 (length us)) (tally-less (f a) (mask f us) (2 ^ length us) (mask_lt f us))

tally-max : (a : Pauli) (m : ℕ) → m * 2 + max (tally (x_bit a) 0) (tally (z_bit a) 0) ≡ tally (present a) (2 * m)
tally-max I m = omega arith
tally-max X m = omega arith
tally-max Y m = omega arith
tally-max Z m = omega arith

-- (x or z), all bits at once
both : (us : List Pauli) → bit_or (mask x_bit us) (mask z_bit us) ≡ mask present us
unfolding mask
both [] = refl
both (a ∷ us) =
    let m = mask x_bit us in
    let k = mask z_bit us in
    or_step (tally (x_bit a) (2 * m)) (tally (z_bit a) (2 * k))
    ∙ rw (half (x_bit a) m, half (z_bit a) k, low (x_bit a) m, low (z_bit a) k, both us) (tally-max a (mask present us))

tally-ones : (b : Bool) (k : ℕ) → tally b 0 + k ≡ tally b k
tally-ones true k = omega arith
tally-ones false k = omega arith

ones-letters : (us : List Pauli) → ones (mask present us) ≡ weight us
unfolding mask
ones-letters [] = ones-zero
ones-letters (a ∷ us) =
    ones_step (tally (present a) (2 * mask present us))
    ∙ rw (half (present a) (mask present us), low (present a) (mask present us), ones-letters us) (tally-ones (present a) (weight us))

-- a picked word is a word of the picked letters
pick_word : (f : Pauli → Bool) (l u : ℕ) (us : List Pauli) (j : ℕ) → picked u (get_or (digits l (mask f us)) j 0) ≡ get_or (digits l (mask f (picked_letters u us))) j 0
unfolding mask
pick_word f l zero us j = sym (digits-zero l j)
pick_word f l (suc u) us j = refl

module _ (l : ℕ) (d : Row) (Ps : List Row) (rest : List ℕ) (pos : 0 < l) (ua ub ud i j k : ℕ) (hi : i < length Ps) (hj : j < length Ps) (hk : k < length Ps) where
  joined-x : (m : ℕ) → m < l → joined (rows_words l Ps ++ rest) ua ub ud (i * (l + l)) (j * (l + l)) (k * (l + l)) m
      ≡ get_or (digits l (mask x_bit (chosen ua ub ud (get_or Ps i d) (get_or Ps j d) (get_or Ps k d)))) m 0
  joined-x m h =
      rw (
        at_row l d Ps rest pos i m hi (omega arith),
        at_row l d Ps rest pos j m hj (omega arith),
        at_row l d Ps rest pos k m hk (omega arith),
        row_x l (get_or Ps i d) m h,
        row_x l (get_or Ps j d) m h,
        row_x l (get_or Ps k d) m h,
        x-products (products (picked_letters ua (get_or Ps i d).letters) (picked_letters ub (get_or Ps j d).letters)) (picked_letters ud (get_or Ps k d).letters),
        x-products (picked_letters ua (get_or Ps i d).letters) (picked_letters ub (get_or Ps j d).letters),
        digits-xor,
        digits-xor,
        pick_word x_bit l ua (get_or Ps i d).letters m,
        pick_word x_bit l ub (get_or Ps j d).letters m,
        pick_word x_bit l ud (get_or Ps k d).letters m,
      )

  joined-z : (m : ℕ) → m < l → joined (rows_words l Ps ++ rest) ua ub ud (i * (l + l)) (j * (l + l)) (k * (l + l)) (l + m)
      ≡ get_or (digits l (mask z_bit (chosen ua ub ud (get_or Ps i d) (get_or Ps j d) (get_or Ps k d)))) m 0
  joined-z m h =
      rw (
        at_row l d Ps rest pos i (l + m) hi (omega arith),
        at_row l d Ps rest pos j (l + m) hj (omega arith),
        at_row l d Ps rest pos k (l + m) hk (omega arith),
        row_z l (get_or Ps i d) m,
        row_z l (get_or Ps j d) m,
        row_z l (get_or Ps k d) m,
        z-products (products (picked_letters ua (get_or Ps i d).letters) (picked_letters ub (get_or Ps j d).letters)) (picked_letters ud (get_or Ps k d).letters),
        z-products (picked_letters ua (get_or Ps i d).letters) (picked_letters ub (get_or Ps j d).letters),
        digits-xor,
        digits-xor,
        pick_word z_bit l ua (get_or Ps i d).letters m,
        pick_word z_bit l ub (get_or Ps j d).letters m,
        pick_word z_bit l ud (get_or Ps k d).letters m,
      )

  weight-sum : (m : ℕ) → m ≤ l → weight_to (rows_words l Ps ++ rest) l ua ub ud (i * (l + l)) (j * (l + l)) (k * (l + l)) m
      ≡ ones_to (digits l (mask present (chosen ua ub ud (get_or Ps i d) (get_or Ps j d) (get_or Ps k d)))) m
  unfolding weight_to ones_to
  weight-sum zero h = refl
  weight-sum (suc m) h =
      rw (joined-x m (omega arith), joined-z m (omega arith), weight-sum m (omega arith), ← digits-or, both)

  pub rows-weight : length (chosen ua ub ud (get_or Ps i d) (get_or Ps j d) (get_or Ps k d)) ≤ 64 * l
      → weight_to (rows_words l Ps ++ rest) l ua ub ud (i * (l + l)) (j * (l + l)) (k * (l + l)) l
      ≡ weight (chosen ua ub ud (get_or Ps i d) (get_or Ps j d) (get_or Ps k d))
  rows-weight h =
      let us = chosen ua ub ud (get_or Ps i d) (get_or Ps j d) (get_or Ps k d) in
      weight-sum l (le_refl l) ∙ ones-words l (mask present us) (lt_of_lt_of_le (mask_lt present us) (pow_mono h)) ∙ ones-letters us

pub pick_some : (u w : ℕ) → (u ≡ 0 → ⊥) → w ≡ picked u w
pick_some zero w ne = absurd (ne refl)
pick_some (suc u) w ne = refl

-- ---- one word more

pub weight-more : (p : List ℕ) (l ua ub ud a b d k : ℕ)
    → weight_to p l ua ub ud a b d (k + 1) ≡ weight_to p l ua ub ud a b d k + ones (bit_or (joined p ua ub ud a b d k) (joined p ua ub ud a b d (l + k)))
unfolding weight_to
weight-more p l ua ub ud a b d k = rw add-one

-- of one image
pub one_more : (p : List ℕ) (l a k : ℕ) → weight_to p l 1 0 0 a a a (k + 1) ≡ weight_to p l 1 0 0 a a a k + ones (bit_or (get_or p (a + k) 0) (get_or p (a + (l + k)) 0))
one_more p l a k =
    weight-more p l 1 0 0 a a a k
    ∙ rw (xor_zero_r (bit_xor (get_or p (a + k) 0) 0), xor_zero_r (get_or p (a + k) 0), xor_zero_r (bit_xor (get_or p (a + (l + k)) 0) 0), xor_zero_r (get_or p (a + (l + k)) 0))

-- ---- room

pub room_x : (n l q m : ℕ) → q < n → (n + n) * (l + l) ≤ m → (q + q) * (l + l) + (l + l) ≤ m
room_x n l q m h r = let e = row_ends (l + l) (q + q) (n + n) (omega arith) in omega arith

pub room_z : (n l q m : ℕ) → q < n → (n + n) * (l + l) ≤ m → (q + q + 1) * (l + l) + (l + l) ≤ m
room_z n l q m h r = let e = row_ends (l + l) (q + q + 1) (n + n) (omega arith) in omega arith

-- of the z image or the x image, as z says
pub room_zx : (z : Bool) (n l q m : ℕ) → q < n → (n + n) * (l + l) ≤ m → cond z (q + q + 1) (q + q) * (l + l) + (l + l) ≤ m
room_zx true = room_z
room_zx false = room_x

pub room_xz : (z : Bool) (n l q m : ℕ) → q < n → (n + n) * (l + l) ≤ m → cond z (q + q) (q + q + 1) * (l + l) + (l + l) ≤ m
room_xz true = room_x
room_xz false = room_z

pub clear-length : (p : List ℕ) (first k : ℕ) → length (clear_to p first k) ≡ length p
unfolding clear_to
clear-length p first zero = refl
clear-length p first (suc k) = rw (length-set, clear-length p first k)

pub mark-length : (p : List ℕ) (l k : ℕ) → length (mark_to p l k) ≡ length p
unfolding mark_to
mark-length p l zero = refl
mark-length p l (suc k) = rw (length-set, length-set, mark-length p l k)

-- ---- all planes as at the start

pub clear_in : (p : List ℕ) (first k j : ℕ) → j < k → first + k ≤ length p → get_or (clear_to p first k) (first + j) 0 ≡ 0
unfolding clear_to
clear_in p first zero j h r = absurd (omega arith)
clear_in p first (suc k) j h r = ⊎_elim
    (λ (lo : j < k). get_or-set_other (clear_to p first k) (first + k) (first + j) 0 0 (λ e. omega arith) ∙ clear_in p first k j lo (omega arith))
    (λ (hi : k ≤ j). let e : j ≡ k = omega arith in let len = clear-length p first k in rw (e, get_or-set_same (clear_to p first k) (first + k) 0 0 (omega arith)))
    (below j k)

pub clear_first : (p : List ℕ) (k m : ℕ) → m < k → k ≤ length p → get_or (clear_to p 0 k) m 0 ≡ 0
clear_first p k m h r = ap (λ (x : ℕ). get_or (clear_to p 0 k) x 0) (sym (zero-add m)) ∙ clear_in p 0 k m h (omega arith)

pub clear_out : (p : List ℕ) (first k m : ℕ) → (m < first) ⊎ (first + k ≤ m) → get_or (clear_to p first k) m 0 ≡ get_or p m 0
unfolding clear_to
clear_out p first zero m h = refl
clear_out p first (suc k) m h =
    get_or-set_other (clear_to p first k) (first + k) m 0 0 (λ e. ⊎_elim (λ (a : m < first). omega arith) (λ (b : first + suc k ≤ m). omega arith) h)
    ∙ clear_out p first k m (⊎_elim (λ (a : m < first). inl a) (λ (b : first + suc k ≤ m). inr (omega arith)) h)

mask-blank : (f : Pauli → Bool) → f I ≡ false → (n : ℕ) → mask f (replicate n I) ≡ 0
unfolding mask
mask-blank f z zero = refl
mask-blank f z (suc n) = rw (z, mask-blank f z n) refl

row_blank : (l n b : ℕ) → b < l + l → get_or (row_words l (identity n)) b 0 ≡ 0
row_blank l n b h = ⊎_elim
    (λ (lo : b < l). row_x l (identity n) b lo ∙ rw (mask-blank x_bit refl n) (digits-zero l b))
    (λ (hi : l ≤ b). let k = b - l in let e : b ≡ l + k = omega arith in rw e (row_z l (identity n) k ∙ rw (mask-blank z_bit refl n) (digits-zero l k)))
    (below b l)

get_or_rep : (k i : ℕ) (P : Row) → get_or (replicate k P) i P ≡ P
get_or_rep zero i P = refl
get_or_rep (suc k) zero P = refl
get_or_rep (suc k) (suc i) P = get_or_rep k i P

-- cleared words are those of rows of I
pub cleared : (n l : ℕ) (p : List ℕ) → 0 < l → (n + n) * (l + l) ≤ length p
    → clear_to p 0 ((n + n) * (l + l)) ≡ rows_words l (replicate (n + n) (identity n)) ++ drop ((n + n) * (l + l)) p
cleared n l p pos fits =
    let K = (n + n) * (l + l) in
    let Ps = replicate (n + n) (identity n) in
    let len : length Ps ≡ n + n = length-replicate (n + n) (identity n) in
    by_rows l (identity n) Ps (drop K p) (clear_to p 0 K) pos (rw (clear-length p 0 K, length-drop, len) (omega arith))
    (λ a b ha hb.
    let e = row_ends (l + l) a (n + n) (omega arith) in
    clear_first p K (a * (l + l) + b) (omega arith) fits ∙ sym (ap (λ (P : Row). get_or (row_words l P) b 0) (get_or_rep (n + n) a (identity n)) ∙ row_blank l n b hb))
    (λ m. rw (len, clear_out p 0 K (K + m) (inr (omega arith)), get_or-drop))

tally-once : (b : Bool) → tally b 0 ≡ tally b 0 * 1
tally-once true = refl
tally-once false = refl

mask_one : (f : Pauli → Bool) → f I ≡ false → (n q : ℕ) (a : Pauli) → q < n → mask f (set (replicate n I) q a) ≡ tally (f a) 0 * 2 ^ q
unfolding mask
mask_one f z zero q a h = absurd (omega arith)
mask_one f z (suc n) zero a h = rw (mask-blank f z n) (tally-once (f a))
mask_one f z (suc n) (suc q) a h = rw (z, mask_one f z n q a (omega arith), pow-suc 2 q) (omega (arith, mul_assoc (tally (f a) 0) (2 ^ q) 2))

digits-bit : (l q j : ℕ) → q / 64 < l → get_or (digits l (2 ^ q)) j 0 ≡ get_or (set (digits l 0) (q / 64) (2 ^ (q % 64))) j 0
unfolding digits
digits-bit zero q j h = absurd (omega arith)
digits-bit (suc l) q j h = ⊎_elim
    (λ (lo : q < 64).
    let d0 : q / 64 ≡ 0 = omega arith in
    let m0 : q % 64 ≡ q = omega arith in
    first_word l q j lo ∙ ap (λ (x : ℕ). get_or (set (digits (suc l) 0) 0 (2 ^ x)) j 0) (sym m0)
    ∙ ap (λ (x : ℕ). get_or (set (digits (suc l) 0) x (2 ^ (q % 64))) j 0) (sym d0))
    (λ (hi : 64 ≤ q).
    let k = q - 64 in
    let e : q ≡ k + 64 = omega arith in
    let d1 : q / 64 ≡ suc (k / 64) = omega arith in
    let m1 : q % 64 ≡ k % 64 = omega arith in
    ap (λ (x : ℕ). get_or (digits (suc l) (2 ^ x)) j 0) e ∙ later-word l k j (λ i. digits-bit l k i (omega arith))
    ∙ ap (λ (x : ℕ). get_or (set (digits (suc l) 0) (suc (k / 64)) (2 ^ x)) j 0) (sym m1)
    ∙ ap (λ (x : ℕ). get_or (set (digits (suc l) 0) x (2 ^ (q % 64))) j 0) (sym d1))
    (below q 64)
  where
    first_word : (l q j : ℕ) → q < 64 → get_or (2 ^ q % 2 ^ 64 ∷ digits l (2 ^ q / 2 ^ 64)) j 0 ≡ get_or (2 ^ q ∷ digits l 0) j 0
    first_word l q j lo = rw (mod-eq_of_lt (pow-lt lo), div-eq_of_lt (pow-lt lo))

    later-word : (l k j : ℕ) → ((i : ℕ) → get_or (digits l (2 ^ k)) i 0 ≡ get_or (set (digits l 0) (k / 64) (2 ^ (k % 64))) i 0)
        → get_or (2 ^ (k + 64) % 2 ^ 64 ∷ digits l (2 ^ (k + 64) / 2 ^ 64)) j 0 ≡ get_or (0 ∷ set (digits l 0) (k / 64) (2 ^ (k % 64))) j 0
    later-word l k j ih =
        let hi : 2 ^ (k + 64) / 2 ^ 64 ≡ 2 ^ k = rw (pow-add 2 k 64) (shl-shr (2 ^ k) 64) in
        let lo : 2 ^ (k + 64) % 2 ^ 64 ≡ 0 = rw (pow-add 2 k 64) (mul-mod_left (2 ^ k) (2 ^ 64)) in
        rw (hi, lo) (go j)
      where
        go : (j : ℕ) → get_or (0 ∷ digits l (2 ^ k)) j 0 ≡ get_or (0 ∷ set (digits l 0) (k / 64) (2 ^ (k % 64))) j 0
        go zero = refl
        go (suc j) = ih j

-- storing a word in a row of I makes it a row with one letter
module _ (l : ℕ) (n : ℕ) (Ps : List Row) (rest : List ℕ) (pos : 0 < l) (q : ℕ) (hq : q < n) (hw : q / 64 < l) where
  -- the row at i, and the place in it
  pub one_word : (i o : ℕ) (R : Row) → i < length Ps → o < l + l
      → ((b : ℕ) → b < l + l → get_or (row_words l R) b 0 ≡ get_or (set (row_words l (get_or Ps i (identity n))) o (2 ^ (q % 64))) b 0)
      → set (rows_words l Ps ++ rest) (i * (l + l) + o) (2 ^ (q % 64)) ≡ rows_words l (set Ps i R) ++ rest
  one_word i o R hi ho same =
      let s = l + l in
      let w = rows_words l Ps ++ rest in
      let d = identity n in
      let v = 2 ^ (q % 64) in
      let len = length-set Ps i R in
      let wl = whole_length l d Ps rest pos in
      let ends = row_ends s i (length Ps) hi in
      let rl = row-length l (get_or Ps i d) in
      by_rows l d (set Ps i R) rest (set w (i * s + o) v) pos (rw (len, length-set w (i * s + o) v) wl)
      (λ a b ha hb. ⊎_elim
      (λ (e : a ≡ i). rw (e, get_or-set_same Ps i R d hi, same b hb) (⊎_elim
      (λ (x : b ≡ o). rw (x, get_or-set_same w (i * s + o) v 0 (omega arith), get_or-set_same (row_words l (get_or Ps i d)) o v 0 (omega arith)))
      (λ (ne : b ≢ o). get_or-set_other w (i * s + o) (i * s + b) v 0 (λ x. ne (omega arith)) ∙ at_row l d Ps rest pos i b hi hb
      ∙ sym (get_or-set_other (row_words l (get_or Ps i d)) o b v 0 ne))
      (same_or_not b o)))
      (λ (ne : a ≢ i). get_or-set_other w (i * s + o) (a * s + b) v 0 (λ x. ⊎_elim (λ (u : a * s + b < i * s). omega arith) (λ (u : i * s + s ≤ a * s + b). omega arith) (outside s i a b hb ne))
      ∙ at_row l d Ps rest pos a b (omega arith) hb ∙ ap (λ (P : Row). get_or (row_words l P) b 0) (sym (get_or-set_other Ps i a R d ne)))
      (same_or_not a i))
      (λ m. rw len (get_or-set_other w (i * s + o) (length Ps * s + m) v 0 (λ x. omega arith) ∙ at_rest l d Ps rest pos m))

  -- X
  pub row_of_x : (b : ℕ) → b < l + l → get_or (row_words l (single n q X)) b 0 ≡ get_or (set (row_words l (identity n)) (q / 64) (2 ^ (q % 64))) b 0
  row_of_x b hb =
      let v = 2 ^ (q % 64) in
      let dl = digits-length l 0 in
      let rl = row-length l (identity n) in
      let mx : mask x_bit (set (replicate n I) q X) ≡ 2 ^ q = mask_one x_bit refl n q X hq ∙ omega arith in
      let mz : mask z_bit (set (replicate n I) q X) ≡ 0 = mask_one z_bit refl n q X hq ∙ omega (arith, zero-mul (2 ^ q)) in
      ⊎_elim
      (λ (lo : b < l). row_x l (single n q X) b lo ∙ rw (mx, digits-bit l q b hw) (⊎_elim
      (λ (e : b ≡ q / 64). rw (e, get_or-set_same (digits l 0) (q / 64) v 0 (omega arith), get_or-set_same (row_words l (identity n)) (q / 64) v 0 (omega arith)))
      (λ (ne : b ≢ q / 64). get_or-set_other (digits l 0) (q / 64) b v 0 ne ∙ digits-zero l b ∙ sym (get_or-set_other (row_words l (identity n)) (q / 64) b v 0 ne ∙ row_blank l n b hb))
      (same_or_not b (q / 64))))
      (λ (hi : l ≤ b).
      let k = b - l in
      let e : b ≡ l + k = omega arith in
      let z₁ : get_or (row_words l (single n q X)) (l + k) 0 ≡ 0 = row_z l (single n q X) k ∙ rw mz (digits-zero l k) in
      let z₂ : get_or (set (row_words l (identity n)) (q / 64) v) (l + k) 0 ≡ 0 = get_or-set_other (row_words l (identity n)) (q / 64) (l + k) v 0 (λ x. omega arith) ∙ row_blank l n (l + k) (omega arith) in
      rw e (z₁ ∙ sym z₂))
      (below b l)

  -- Z
  pub row_of_z : (b : ℕ) → b < l + l → get_or (row_words l (single n q Z)) b 0 ≡ get_or (set (row_words l (identity n)) (l + q / 64) (2 ^ (q % 64))) b 0
  row_of_z b hb =
      let v = 2 ^ (q % 64) in
      let dl = digits-length l 0 in
      let rl = row-length l (identity n) in
      let mx : mask x_bit (set (replicate n I) q Z) ≡ 0 = mask_one x_bit refl n q Z hq ∙ omega (arith, zero-mul (2 ^ q)) in
      let mz : mask z_bit (set (replicate n I) q Z) ≡ 2 ^ q = mask_one z_bit refl n q Z hq ∙ omega arith in
      ⊎_elim
      (λ (lo : b < l).
      row_x l (single n q Z) b lo ∙ rw mx (digits-zero l b) ∙ sym (get_or-set_other (row_words l (identity n)) (l + q / 64) b v 0 (λ x. omega arith) ∙ row_blank l n b hb))
      (λ (hi : l ≤ b).
      let k = b - l in
      let e : b ≡ l + k = omega arith in
      rw (e, row_z l (single n q Z) k, mz, digits-bit l q k hw) (⊎_elim
      (λ (x : k ≡ q / 64). rw (x, get_or-set_same (digits l 0) (q / 64) v 0 (omega arith), get_or-set_same (row_words l (identity n)) (l + q / 64) v 0 (omega arith)))
      (λ (ne : k ≢ q / 64). get_or-set_other (digits l 0) (q / 64) k v 0 ne ∙ digits-zero l k
      ∙ sym (get_or-set_other (row_words l (identity n)) (l + q / 64) (l + k) v 0 (λ x. ne (omega arith)) ∙ row_blank l n (l + k) (omega arith)))
      (same_or_not k (q / 64))))
      (below b l)
