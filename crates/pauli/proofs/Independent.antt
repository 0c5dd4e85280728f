-- kept: claims, which Theorems.antt takes from here as a module
-- Each row of the table has sign +1 or -1, and different sets of rows have products with different letters.
use mathlib.Core.Path.{◌≡◌, refl, ap, ap₂, sym, ◌∙◌, subst}
use mathlib.Core.Logic.{◌≢◌}
use mathlib.Core.Bool.{Bool, true, false, cond}
use mathlib.Core.List.{List, [], ◌∷◌, ◌++◌, map, append-nil}
use Prim.Native.Nat.{ℕ, zero, suc, ◌+◌, ◌<◌}
use native.Mathlib.Nat.{not-suc-le-zero}
use native.Mathlib.Omega.{arith}
use lib.ListN.{length, get_or, drop, replicate, length-replicate, get_or-replicate}
use lib.Seq.{get_or-set_same, get_or-set_other, ext_get_or, get_or-drop}
use Rattle.pauli.specs.Letters.{Pauli, I, X, Z, Phase, One, PlusI, MinusOne, MinusI, ◌⊕◌, ◌·◌, real}
use Rattle.pauli.specs.Rows.{Row, Width, on, ◌★◌, scaled, identity, single}
use Rattle.pauli.specs.Bits.{x_bit, z_bit}
use Rattle.pauli.specs.Gates.{Gate, AllValid, back, forward}
use Rattle.pauli.specs.Table.{column, start, table, product_over}
use Rattle.pauli.proofs.Finite.{turns, truths, phase, truth, law₂, ·-assoc, ·-I}
use Rattle.pauli.proofs.Rows.{row_eq, width-★}
use Rattle.pauli.proofs.Local.{get_or-products, Hom}
use Rattle.pauli.proofs.Conj.{hom-back, forward-back}
use Rattle.pauli.proofs.Short.{width-single}
use Rattle.pauli.proofs.Table.{table-rows, table-map, place}

pub table-real : (n : ℕ) (gs : List Gate) → AllValid n gs → (i : ℕ) → i < n + n → real (get_or (table n gs) i (identity n)).phase ≡ true
table-real n gs v = place n (λ i. real (get_or (table n gs) i (identity n)).phase ≡ true)
    (λ q hq. ap (λ P. real P.phase) ((table-rows n gs v).at_x q hq) ∙ (hom-back n gs v).signs (single n q X) (width-single n q X))
    (λ q hq. ap (λ P. real P.phase) ((table-rows n gs v).at_z q hq) ∙ (hom-back n gs v).signs (single n q Z) (width-single n q Z))

-- ---- a homomorphism carries products of sets

abbrev Wide : ℕ → List Row → Type 0
Wide n [] = Unit {0}
Wide n (r ∷ rs) = Width n r × Wide n rs

wide_product : (n : ℕ) (bs : List Bool) (rs : List Row) → Wide n rs → Width n (product_over n bs rs)
unfolding product_over
wide_product n [] rs w = length-replicate n I
wide_product n (b ∷ bs) [] w = length-replicate n I
wide_product n (true ∷ bs) (r ∷ rs) w = width-★ n r (product_over n bs rs) w.0 (wide_product n bs rs w.1)
wide_product n (false ∷ bs) (r ∷ rs) w = wide_product n bs rs w.1

product-map : (n : ℕ) (f : Row → Row) → Hom n f → (bs : List Bool) (rs : List Row) → Wide n rs → product_over n bs (map f rs) ≡ f (product_over n bs rs)
unfolding product_over
product-map n f F [] rs w = sym F.unit
product-map n f F (b ∷ bs) [] w = sym F.unit
product-map n f F (true ∷ bs) (r ∷ rs) w =
    ap (λ P. f r ★ P) (product-map n f F bs rs w.1) ∙ sym (F.times r (product_over n bs rs) w.0 (wide_product n bs rs w.1))
product-map n f F (false ∷ bs) (r ∷ rs) w = product-map n f F bs rs w.1

wide-column : (n : ℕ) (a : Pauli) (o k : ℕ) (rs : List Row) → Wide n rs → Wide n (column n a o k ++ rs)
wide-column n a o zero rs w = w
wide-column n a o (suc k) rs w = (width-single n o a, wide-column n a (suc o) k rs w)

wide-start : (n : ℕ) → Wide n (start n)
unfolding start
wide-start n = wide-column n X 0 n (column n Z 0 n) (subst (λ l. Wide n l) (append-nil (column n Z 0 n)) (wide-column n Z 0 n [] tt))

-- ---- rows with the same letters differ by a phase, so U† P U keeps different letters different

abbrev conjugate : Phase → Phase
conjugate One = One
conjugate PlusI = MinusI
conjugate MinusOne = MinusOne
conjugate MinusI = PlusI

⊕-conjugate : (p q : Phase) → p ⊕ conjugate q ⊕ q ≡ p
⊕-conjugate = law₂ turns phase _ _ tt

back-letters : (n : ℕ) (gs : List Gate) → AllValid n gs → (P Q : Row) → Width n P → Width n Q → (back gs P).letters ≡ (back gs Q).letters → P.letters ≡ Q.letters
back-letters n gs v P Q w k e =
    ap (λ R. R.letters) (sym (forward-back n gs P v w) ∙ ap (forward gs) up-to-phase ∙ forward-back n gs (scaled p Q) v k)
  where
    p : Phase
    p = (back gs P).phase ⊕ conjugate (back gs Q).phase

    up-to-phase : back gs P ≡ back gs (scaled p Q)
    up-to-phase = row_eq {P = back gs P} {Q = scaled p (back gs Q)} e (sym (⊕-conjugate (back gs P).phase (back gs Q).phase)) ∙ sym ((hom-back n gs v).scales p Q k)

-- ---- a product of rows of the start shows its marks: X and Z of a qubit are there or not

abbrev marked : Bool → Pauli → Pauli
marked b a = cond b a I

marked-I : (b : Bool) → marked b I ≡ I
marked-I true = refl
marked-I false = refl

-- the letter on qubit q of the product of the marked ones of k rows, which have a on qubits from o on
abbrev letter_in : ℕ → Pauli → ℕ → ℕ → List Bool → ℕ → Pauli
letter_in n a o zero bs q = I
letter_in n a o (suc k) [] q = I
letter_in n a o (suc k) (b ∷ bs) q = marked b (on (single n o a) q) · letter_in n a (suc o) k bs q

product-column : (n : ℕ) (a : Pauli) (o k : ℕ) (bs : List Bool) (rest : List Row) (q : ℕ)
    → on (product_over n bs (column n a o k ++ rest)) q ≡ letter_in n a o k bs q · on (product_over n (drop k bs) rest) q
unfolding product_over
product-column n a o zero bs rest q = refl
product-column n a o (suc k) [] rest q = refl
product-column n a o (suc k) (true ∷ bs) rest q =
    get_or-products (single n o a).letters (product_over n bs (column n a (suc o) k ++ rest)).letters q
    ∙ ap (λ b. on (single n o a) q · b) (product-column n a (suc o) k bs rest q) ∙ sym (·-assoc (on (single n o a) q) (letter_in n a (suc o) k bs q) _)
product-column n a o (suc k) (false ∷ bs) rest q = product-column n a (suc o) k bs rest q

single-off : (n o q : ℕ) (a : Pauli) → q < n → q ≢ o → on (single n o a) q ≡ I
single-off n o q a hq ne = get_or-set_other (replicate n I) o q a I ne ∙ get_or-replicate n q I I hq

single-on : (n q : ℕ) (a : Pauli) → q < n → on (single n q a) q ≡ a
single-on n q a hq = get_or-set_same (replicate n I) q a I (rw length-replicate hq)

letter_in-below : (n : ℕ) (a : Pauli) (o k : ℕ) (bs : List Bool) (q : ℕ) → q < n → q < o → letter_in n a o k bs q ≡ I
letter_in-below n a o zero bs q hq lt = refl
letter_in-below n a o (suc k) [] q hq lt = refl
letter_in-below n a o (suc k) (b ∷ bs) q hq lt = rw (single-off n o q a hq (omega arith), letter_in-below n a (suc o) k bs q hq (omega arith), marked-I b)

letter_in-at : (n : ℕ) (a : Pauli) (o k : ℕ) (bs : List Bool) (q j : ℕ) → q < n → q ≡ o + j → j < k → letter_in n a o k bs q ≡ marked (get_or bs j false) a
letter_in-at n a o zero bs q j hq e lt = absurd (not-suc-le-zero lt)
letter_in-at n a o (suc k) [] q j hq e lt = refl
letter_in-at n a o (suc k) (b ∷ bs) q zero hq e lt =
    let i : q ≡ o = omega arith in
    rw (letter_in-below n a (suc o) k bs q hq (omega arith), ← i, single-on n q a hq) (·-I (marked b a))
letter_in-at n a o (suc k) (b ∷ bs) q (suc j) hq e lt =
    rw (single-off n o q a hq (omega arith), marked-I b) (letter_in-at n a (suc o) k bs q j hq (omega arith) (omega arith))

product_nil : (n : ℕ) (bs : List Bool) → product_over n bs [] ≡ identity n
unfolding product_over
product_nil n [] = refl
product_nil n (b ∷ bs) = refl

start-letter : (n : ℕ) (bs : List Bool) (q : ℕ) → q < n → on (product_over n bs (start n)) q ≡ marked (get_or bs q false) X · marked (get_or bs (n + q) false) Z
unfolding start
start-letter n bs q hq =
    product-column n X 0 n bs (column n Z 0 n) q
    ∙ ap₂ ◌·◌ (letter_in-at n X 0 n bs q q hq (omega arith) hq)
    (ap (λ l. on (product_over n (drop n bs) l) q) (sym (append-nil (column n Z 0 n)))
    ∙ product-column n Z 0 n (drop n bs) [] q
    ∙ ap₂ ◌·◌ (letter_in-at n Z 0 n (drop n bs) q q hq (omega arith) hq ∙ ap (λ b. marked b Z) (get_or-drop n bs q false))
    (ap (λ P. on P q) (product_nil n (drop n (drop n bs))) ∙ get_or-replicate n q I I hq)
    ∙ ·-I _)

see_x : (a b : Bool) → x_bit (marked a X · marked b Z) ≡ a
see_x = law₂ truths truth _ _ tt

see_z : (a b : Bool) → z_bit (marked a X · marked b Z) ≡ b
see_z = law₂ truths truth _ _ tt

start-marks : (n : ℕ) (us vs : List Bool) → length us ≡ n + n → length vs ≡ n + n
    → (product_over n us (start n)).letters ≡ (product_over n vs (start n)).letters → us ≡ vs
start-marks n us vs lu lv e = ext_get_or false us vs (lu ∙ sym lv)
    (λ i lt. place n (λ i. get_or us i false ≡ get_or vs i false)
    (λ q hq. sym (see_x (get_or us q false) (get_or us (n + q) false)) ∙ ap x_bit (same q hq) ∙ see_x (get_or vs q false) (get_or vs (n + q) false))
    (λ q hq. sym (see_z (get_or us q false) (get_or us (n + q) false)) ∙ ap z_bit (same q hq) ∙ see_z (get_or vs q false) (get_or vs (n + q) false))
    i (omega (arith, lu)))
  where
    same : (q : ℕ) → q < n → marked (get_or us q false) X · marked (get_or us (n + q) false) Z ≡ marked (get_or vs q false) X · marked (get_or vs (n + q) false) Z
    same q hq = sym (start-letter n us q hq) ∙ ap (λ l. get_or l q I) e ∙ start-letter n vs q hq

-- ---- the theorem

pub same_letters_same_set : (n : ℕ) (gs : List Gate) → AllValid n gs → (us vs : List Bool) → length us ≡ n + n → length vs ≡ n + n
    → (product_over n us (table n gs)).letters ≡ (product_over n vs (table n gs)).letters → us ≡ vs
same_letters_same_set n gs v us vs lu lv e = start-marks n us vs lu lv
    (back-letters n gs v (product_over n us (start n)) (product_over n vs (start n)) (wide_product n us (start n) (wide-start n)) (wide_product n vs (start n) (wide-start n))
    (sym (ap (λ P. P.letters) (carried us)) ∙ e ∙ ap (λ P. P.letters) (carried vs)))
  where
    carried : (bs : List Bool) → product_over n bs (table n gs) ≡ back gs (product_over n bs (start n))
    carried bs = ap (product_over n bs) (table-map n gs v) ∙ product-map n (back gs) (hom-back n gs v) bs (start n) (wide-start n)

pub independent : (n : ℕ) (gs : List Gate) → AllValid n gs → (us vs : List Bool) → length us ≡ n + n → length vs ≡ n + n → us ≢ vs
    → (product_over n us (table n gs)).letters ≢ (product_over n vs (table n gs)).letters
independent n gs v us vs lu lv ne e = ne (same_letters_same_set n gs v us vs lu lv e)
