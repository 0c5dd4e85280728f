-- After any gates, each row of the plain table is U† P U for the X or Z of its place.
use mathlib.Core.Path.{◌≡◌, refl, ap, ap₂, sym, ◌∙◌}
use mathlib.Core.Logic.{by_cases, ◌≢◌, Ne-symm}
use mathlib.Core.List.{List, [], ◌∷◌, ◌++◌, map}
use Prim.Native.Nat.{ℕ, zero, suc, ◌+◌, ◌-◌, ◌<◌}
use native.Mathlib.Nat.{zero-add, suc-add, add-suc, add-zero, not-suc-le-zero, le_of_suc-le-suc}
use native.Mathlib.Decide.{ℕ_discrete, dec_lt}
use native.Mathlib.Omega.{arith}
use lib.ListN.{length, get_or, set, length-set, length-append, length-map, get_or-append}
use lib.Seq.{get_or-set_same, get_or-set_other, get_or-append-add, ext_get_or}
use Rattle.pauli.specs.Letters.{Pauli, I, X, Y, Z, Phase, PlusI, MinusOne, MinusI}
use Rattle.pauli.specs.Rows.{Row, ◌★◌, scaled, identity, single}
use Rattle.pauli.specs.Gates.{Image₁, Image₂, plus, plus₂, act₁, act₂, rule_h, rule_s, rule_cnot, rule_x, rule_z, rule_sdg, rule_cz}
use Rattle.pauli.specs.Gates.{Gate, gate_h, gate_x, gate_z, gate_s, gate_sdg, gate_cnot, gate_cz, Valid, AllValid, conj, inverse, back, direct}
use Rattle.pauli.specs.Table.{column, start, x_row, z_row, set_x, set_z, step, run, table}
use Rattle.pauli.proofs.Local.{Hom, hom_id, hom_after}
use Rattle.pauli.proofs.Conj.{conj-direct, valid-inverse, hom-conj}
use Rattle.pauli.proofs.Short.{pair, width-single, single-pair, pair-single, single-★, pair_of, act₁-single, act₁-other, act₂-pair, act₂-other}

-- the x rows of t are A and its z rows are B
pub record Reads (n : ℕ) (t : List Row) (A B : ℕ → Row) : Type 0 where
  pub size : length t ≡ n + n
  pub at_x : (q : ℕ) → q < n → x_row n t q ≡ A q
  pub at_z : (q : ℕ) → q < n → z_row n t q ≡ B q

-- the rows of t are the images under f of the start
abbrev pub Holds : ℕ → (Row → Row) → List Row → Type 0
Holds n f t = Reads n t (λ q. f (single n q X)) (λ q. f (single n q Z))

-- ---- the start

length-column : (n : ℕ) (a : Pauli) (q k : ℕ) → length (column n a q k) ≡ k
length-column n a q zero = refl
length-column n a q (suc k) = ap suc (length-column n a (suc q) k)

get_or-column : (n : ℕ) (a : Pauli) (q k j : ℕ) (d : Row) → j < k → get_or (column n a q k) j d ≡ single n (q + j) a
get_or-column n a q zero j d lt = absurd (not-suc-le-zero lt)
get_or-column n a q (suc k) zero d lt = ap (λ m. single n m a) (sym (add-zero q))
get_or-column n a q (suc k) (suc j) d lt = get_or-column n a (suc q) k j d (le_of_suc-le-suc lt) ∙ ap (λ m. single n m a) (suc-add q j ∙ sym (add-suc q j))

pub holds-start : (n : ℕ) → Holds n (λ P. P) (start n)
unfolding start
holds-start n = record {
  size = simp (length-append, length-column);
  at_x = λ q hq. get_or-append (column n X 0 n) (column n Z 0 n) (identity n) q (rw length-column hq)
      ∙ get_or-column n X 0 n q (identity n) hq ∙ ap (λ m. single n m X) (zero-add q);
  at_z = λ q hq. ap (λ m. get_or (column n X 0 n ++ column n Z 0 n) (m + q) (identity n)) (sym (length-column n X 0 n))
      ∙ get_or-append-add (column n X 0 n) (column n Z 0 n) q (identity n)
      ∙ get_or-column n Z 0 n q (identity n) hq ∙ ap (λ m. single n m Z) (zero-add q);
}

-- ---- a row written, and read back

read : (t : List Row) (i j : ℕ) (a d b : Row) → i < length t → (j ≡ i → a ≡ b) → (j ≢ i → get_or t j d ≡ b) → get_or (set t i a) j d ≡ b
read t i j a d b lt same other = go (ℕ_discrete j i)
  where
    go : Dec (j ≡ i) → get_or (set t i a) j d ≡ b
    go (yes e) = rw e (get_or-set_same t i a d lt ∙ same e)
    go (no ne) = get_or-set_other t i j a d ne ∙ other ne

module _ {n : ℕ} {t : List Row} {A B : ℕ → Row} (H : Reads n t A B) where
  renamed : (A' B' : ℕ → Row) → ((j : ℕ) → j < n → A j ≡ A' j) → ((j : ℕ) → j < n → B j ≡ B' j) → Reads n t A' B'
  renamed A' B' a b = record { size = H.size; at_x = λ j hj. H.at_x j hj ∙ a j hj; at_z = λ j hj. H.at_z j hj ∙ b j hj }

  write_x : (q : ℕ) (P : Row) (A' : ℕ → Row) → q < n → P ≡ A' q → ((j : ℕ) → j < n → j ≢ q → A j ≡ A' j) → Reads n (set_x n t q P) A' B
  write_x q P A' hq same other = record {
    size = length-set t q P ∙ H.size;
    at_x = λ j hj. read t q j P (identity n) (A' j) (omega (arith, H.size)) (λ e. rw e same) (λ ne. H.at_x j hj ∙ other j hj ne);
    at_z = λ j hj. get_or-set_other t q (n + j) P (identity n) (omega arith) ∙ H.at_z j hj;
  }

  write_z : (q : ℕ) (P : Row) (B' : ℕ → Row) → q < n → P ≡ B' q → ((j : ℕ) → j < n → j ≢ q → B j ≡ B' j) → Reads n (set_z n t q P) A B'
  write_z q P B' hq same other = record {
    size = length-set t (n + q) P ∙ H.size;
    at_x = λ j hj. get_or-set_other t (n + q) j P (identity n) (omega arith) ∙ H.at_x j hj;
    at_z = λ j hj. read t (n + q) (n + j) P (identity n) (B' j) (omega (arith, H.size))
        (λ e. let k : j ≡ q = omega arith in rw k same)
        (λ ne. H.at_z j hj ∙ other j hj (λ e. ne (ap (λ m. n + m) e)));
  }

-- ---- a gate whose inverse is one letter rule, at one qubit or at two

record Acts₁ (n : ℕ) (g : Gate) (r : Pauli → Image₁) (q : ℕ) : Type 0 where
  pub valid : Valid n g
  pub inside : q < n
  pub rule : direct (inverse g) ≡ act₁ r q
  pub unit : r I ≡ plus I

record Acts₂ (n : ℕ) (g : Gate) (r : Pauli → Pauli → Image₂) (c u : ℕ) : Type 0 where
  pub valid : Valid n g
  pub in_c : c < n
  pub in_u : u < n
  pub apart : c ≢ u
  pub rule : direct (inverse g) ≡ act₂ r c u
  pub unit : r I I ≡ plus₂ I I

by_rule₁ : {n : ℕ} (g : Gate) (r : Pauli → Image₁) (q : ℕ) → Valid n g → q < n → direct (inverse g) ≡ act₁ r q → r I ≡ plus I → Acts₁ n g r q
by_rule₁ g r q v hq d e = record { valid = v; inside = hq; rule = d; unit = e }

by_rule₂ : {n : ℕ} (g : Gate) (r : Pauli → Pauli → Image₂) (c u : ℕ) → Valid n g → (c < n) × (u < n) × (c ≢ u) → direct (inverse g) ≡ act₂ r c u → r I I ≡ plus₂ I I
    → Acts₂ n g r c u
by_rule₂ g r c u v h d e = record { valid = v; in_c = h.0; in_u = h.1; apart = h.2; rule = d; unit = e }

module _ (n : ℕ) (f : Row → Row) (F : Hom n f) where
  -- what a gate makes of the X or Z of a place, once f has been at work
  abbrev new : Gate → Pauli → ℕ → Row
  new g a q = f (conj (inverse g) (single n q a))

  made : (g : Gate) → Valid n g → (q : ℕ) (a : Pauli) (P : Row) → direct (inverse g) (single n q a) ≡ P → f P ≡ new g a q
  made g v q a P d = ap f (sym (conj-direct n (inverse g) (single n q a) (valid-inverse n g v) (width-single n q a) ∙ d))

  module _ {g : Gate} {r : Pauli → Image₁} {q : ℕ} (A : Acts₁ n g r q) where
    at_q : (a : Pauli) → f (scaled (r a).sign (single n q (r a).letter)) ≡ new g a q
    at_q a = made g A.valid q a _ (ap (λ m. m (single n q a)) A.rule ∙ act₁-single r n q a A.inside)

    off_q : (a : Pauli) (j : ℕ) → j ≢ q → f (single n j a) ≡ new g a j
    off_q a j ne = made g A.valid j a (single n j a) (ap (λ m. m (single n j a)) A.rule ∙ act₁-other r A.unit n q j a A.inside ne)

    everywhere : (a : Pauli) → r a ≡ plus a → (j : ℕ) → f (single n j a) ≡ new g a j
    everywhere a e j = by_cases (ℕ_discrete j q)
        (λ i. rw i (ap (λ o. f (scaled o.sign (single n q o.letter))) (sym e) ∙ at_q a))
        (λ ne. off_q a j ne)

    module _ {t : List Row} (H : Holds n f t) where
      -- the gate rewrites the x row of its qubit alone, or its z row
      x_alone : r Z ≡ plus Z → (P : Row) → P ≡ f (scaled (r X).sign (single n q (r X).letter)) → Holds n (λ P. f (conj (inverse g) P)) (set_x n t q P)
      x_alone e P p = write_x (renamed H (λ j. f (single n j X)) (new g Z) (λ j hj. refl) (λ j hj. everywhere Z e j))
          q P (new g X) A.inside (p ∙ at_q X) (λ j hj ne. off_q X j ne)

      z_alone : r X ≡ plus X → (P : Row) → P ≡ f (scaled (r Z).sign (single n q (r Z).letter)) → Holds n (λ P. f (conj (inverse g) P)) (set_z n t q P)
      z_alone e P p = write_z (renamed H (new g X) (λ j. f (single n j Z)) (λ j hj. everywhere X e j) (λ j hj. refl))
          q P (new g Z) A.inside (p ∙ at_q Z) (λ j hj ne. off_q Z j ne)

      x_and_z : (P Q : Row) → P ≡ f (scaled (r X).sign (single n q (r X).letter)) → Q ≡ f (scaled (r Z).sign (single n q (r Z).letter))
          → Holds n (λ P. f (conj (inverse g) P)) (set_z n (set_x n t q P) q Q)
      x_and_z P Q p k = write_z (write_x H q P (new g X) A.inside (p ∙ at_q X) (λ j hj ne. off_q X j ne))
          q Q (new g Z) A.inside (k ∙ at_q Z) (λ j hj ne. off_q Z j ne)

  module _ {g : Gate} {r : Pauli → Pauli → Image₂} {c u : ℕ} (A : Acts₂ n g r c u) where
    at_c : (a : Pauli) → f (scaled (r a I).sign (pair n c u (r a I).first (r a I).second)) ≡ new g a c
    at_c a = made g A.valid c a _
        (ap (λ m. m (single n c a)) A.rule ∙ ap (act₂ r c u) (single-pair n c u a A.in_u A.apart) ∙ act₂-pair r n c u a I A.in_c A.in_u A.apart)

    at_u : (b : Pauli) → f (scaled (r I b).sign (pair n c u (r I b).first (r I b).second)) ≡ new g b u
    at_u b = made g A.valid u b _
        (ap (λ m. m (single n u b)) A.rule ∙ ap (act₂ r c u) (pair-single n c u b A.in_c) ∙ act₂-pair r n c u I b A.in_c A.in_u A.apart)

    elsewhere : (a : Pauli) (j : ℕ) → j ≢ c → j ≢ u → f (single n j a) ≡ new g a j
    elsewhere a j nc nu = made g A.valid j a (single n j a) (ap (λ m. m (single n j a)) A.rule ∙ act₂-other r A.unit n c u j a A.in_c A.in_u nc nu)

    but_u : (a : Pauli) → r a I ≡ plus₂ a I → (j : ℕ) → j ≢ u → f (single n j a) ≡ new g a j
    but_u a e j nu = by_cases (ℕ_discrete j c)
        (λ i. rw i (ap f (single-pair n c u a A.in_u A.apart ∙ ap (λ o. scaled o.sign (pair n c u o.first o.second)) (sym e)) ∙ at_c a))
        (λ nc. elsewhere a j nc nu)

    but_c : (b : Pauli) → r I b ≡ plus₂ I b → (j : ℕ) → j ≢ c → f (single n j b) ≡ new g b j
    but_c b e j nc = by_cases (ℕ_discrete j u)
        (λ i. rw i (ap f (pair-single n c u b A.in_c ∙ ap (λ o. scaled o.sign (pair n c u o.first o.second)) (sym e)) ∙ at_u b))
        (λ nu. elsewhere b j nc nu)

    -- a product of two rows of the table
    joined : (a b : Pauli) (P Q : Row) → P ≡ f (single n c a) → Q ≡ f (single n u b) → P ★ Q ≡ f (single n c a ★ single n u b)
    joined a b P Q p k = ap₂ ◌★◌ p k ∙ sym (F.times (single n c a) (single n u b) (width-single n c a) (width-single n u b))

  -- ---- one gate

  module _ {t : List Row} (H : Holds n f t) where
    x_by_z : (q : ℕ) → q < n → (p : Phase) → scaled p (x_row n t q ★ z_row n t q) ≡ f (scaled p (scaled MinusI (single n q Y)))
    x_by_z q hq p =
        ap (scaled p) (ap₂ ◌★◌ (H.at_x q hq) (H.at_z q hq) ∙ sym (F.times (single n q X) (single n q Z) (width-single n q X) (width-single n q Z))
        ∙ ap f (single-★ n q X Z hq))
        ∙ sym (F.scales p (scaled MinusI (single n q Y)) (width-single n q Y))

    holds_cnot : (c u : ℕ) → Valid n (gate_cnot c u) → Holds n (λ P. f (conj (inverse (gate_cnot c u)) P)) (step n (gate_cnot c u) t)
    unfolding step
    holds_cnot c u v =
        write_z H₁ u _ (new g Z) v.1
        (joined A Z Z _ _ (H₁.at_z c v.0) (H₁.at_z u v.1) ∙ ap f (pair_of n c u Z Z v.0 v.1 v.2) ∙ at_u A Z)
        (λ j hj ne. but_u A Z refl j ne)
      where
        g : Gate
        g = gate_cnot c u

        A : Acts₂ n g rule_cnot c u
        A = by_rule₂ g rule_cnot c u v v refl refl

        H₁ : Reads n (set_x n t c (x_row n t c ★ x_row n t u)) (new g X) (λ j. f (single n j Z))
        H₁ = write_x H c _ (new g X) v.0
            (joined A X X _ _ (H.at_x c v.0) (H.at_x u v.1) ∙ ap f (pair_of n c u X X v.0 v.1 v.2) ∙ at_c A X)
            (λ j hj ne. but_c A X refl j ne)

    holds_cz : (c u : ℕ) → Valid n (gate_cz c u) → Holds n (λ P. f (conj (inverse (gate_cz c u)) P)) (step n (gate_cz c u) t)
    unfolding step
    holds_cz c u v =
        write_x H₁ u _ (new g X) v.1
        (joined A Z X _ _ (get_or-set_other t c (n + c) _ (identity n) (omega arith) ∙ H.at_z c v.0)
        (get_or-set_other t c u _ (identity n) (Ne-symm v.2) ∙ H.at_x u v.1)
        ∙ ap f (pair_of n c u Z X v.0 v.1 v.2) ∙ at_u A X)
        (λ j hj ne. read t c j P₁ (identity n) (new g X j) (omega (arith, H.size))
        (λ e. rw e (joined A X Z _ _ (H.at_x c v.0) (H.at_z u v.1) ∙ ap f (pair_of n c u X Z v.0 v.1 v.2) ∙ at_c A X))
        (λ nc. H.at_x j hj ∙ elsewhere A X j nc ne))
      where
        g : Gate
        g = gate_cz c u

        A : Acts₂ n g rule_cz c u
        A = by_rule₂ g rule_cz c u v v refl refl

        P₁ : Row
        P₁ = x_row n t c ★ z_row n t u

        -- the z rows are what they will be, since cz leaves each Z
        H₁ : Reads n (set_x n t c P₁) (λ j. x_row n (set_x n t c P₁) j) (new g Z)
        H₁ = record {
          size = length-set t c P₁ ∙ H.size;
          at_x = λ j hj. refl;
          at_z = λ j hj. get_or-set_other t c (n + j) P₁ (identity n) (omega arith) ∙ H.at_z j hj ∙ by_cases (ℕ_discrete j u)
              (λ e. rw e (ap f (pair-single n c u Z v.0) ∙ at_u A Z))
              (λ nu. but_u A Z refl j nu);
        }

    holds-step : (g : Gate) → Valid n g → Holds n (λ P. f (conj (inverse g) P)) (step n g t)
    unfolding step
    holds-step (gate_h q) v = x_and_z (by_rule₁ (gate_h q) rule_h q v v refl refl) H _ _ (H.at_z q v) (H.at_x q v)
    holds-step (gate_x q) v = z_alone (by_rule₁ (gate_x q) rule_x q v v refl refl) H refl _ (ap (scaled MinusOne) (H.at_z q v) ∙ sym (F.scales MinusOne (single n q Z) (width-single n q Z)))
    holds-step (gate_z q) v = x_alone (by_rule₁ (gate_z q) rule_z q v v refl refl) H refl _ (ap (scaled MinusOne) (H.at_x q v) ∙ sym (F.scales MinusOne (single n q X) (width-single n q X)))
    holds-step (gate_s q) v = x_alone (by_rule₁ (gate_s q) rule_sdg q v v refl refl) H refl _ (x_by_z q v MinusI)
    holds-step (gate_sdg q) v = x_alone (by_rule₁ (gate_sdg q) rule_s q v v refl refl) H refl _ (x_by_z q v PlusI)
    holds-step (gate_cnot c u) v = holds_cnot c u v
    holds-step (gate_cz c u) v = holds_cz c u v

-- ---- any gates

holds-run : (n : ℕ) (gs : List Gate) (f : Row → Row) → Hom n f → (t : List Row) → Holds n f t → AllValid n gs → Holds n (λ P. f (back gs P)) (run n gs t)
unfolding run back
holds-run n [] f F t H v = H
holds-run n (g ∷ gs) f F t H v =
    holds-run n gs (λ P. f (conj (inverse g) P)) (hom_after n f (conj (inverse g)) F (hom-conj n (inverse g) (valid-inverse n g v.0)))
    (step n g t) (holds-step n f F H g v.0) v.1

pub table-rows : (n : ℕ) (gs : List Gate) → AllValid n gs → Holds n (back gs) (table n gs)
unfolding table
table-rows n gs v = holds-run n gs (λ P. P) (hom_id n) (start n) (holds-start n) v

-- ---- the table is the start, carried by U† P U

get_or-map-in : (f : Row → Row) (l : List Row) (i : ℕ) (d e : Row) → i < length l → get_or (map f l) i e ≡ f (get_or l i d)
get_or-map-in f [] i d e lt = absurd (not-suc-le-zero lt)
get_or-map-in f (x ∷ l) zero d e lt = refl
get_or-map-in f (x ∷ l) (suc i) d e lt = get_or-map-in f l i d e (le_of_suc-le-suc lt)

-- one of the 2n places is that of an x row or of a z row
pub place : (n : ℕ) (P : ℕ → Type 0) → ((q : ℕ) → q < n → P q) → ((q : ℕ) → q < n → P (n + q)) → (i : ℕ) → i < n + n → P i
place n P low high i h = by_cases (dec_lt i n) (low i) above
  where
    above : ¬ (i < n) → P i
    above ge = let e : n + (i - n) ≡ i = omega arith in rw e at (high (i - n) (omega arith))

same_reads : (n : ℕ) (t u : List Row) (A B : ℕ → Row) → Reads n t A B → Reads n u A B → t ≡ u
same_reads n t u A B H K = ext_get_or (identity n) t u (H.size ∙ sym K.size)
    (λ i lt. place n (λ i. get_or t i (identity n) ≡ get_or u i (identity n))
    (λ q hq. H.at_x q hq ∙ sym (K.at_x q hq)) (λ q hq. H.at_z q hq ∙ sym (K.at_z q hq)) i (omega (arith, H.size)))

holds-map : (n : ℕ) (f : Row → Row) → Holds n f (map f (start n))
holds-map n f = record {
  size = length-map (start n) f ∙ S.size;
  at_x = λ q hq. get_or-map-in f (start n) q (identity n) (identity n) (omega (arith, S.size)) ∙ ap f (S.at_x q hq);
  at_z = λ q hq. get_or-map-in f (start n) (n + q) (identity n) (identity n) (omega (arith, S.size)) ∙ ap f (S.at_z q hq);
}
  where
    S : Holds n (λ P. P) (start n)
    S = holds-start n

pub table-map : (n : ℕ) (gs : List Gate) → AllValid n gs → table n gs ≡ map (back gs) (start n)
table-map n gs v = same_reads n (table n gs) (map (back gs) (start n)) _ _ (table-rows n gs v) (holds-map n (back gs))

-- one more gate
run-snoc : (n : ℕ) (gs : List Gate) (g : Gate) (t : List Row) → run n (gs ++ g ∷ []) t ≡ step n g (run n gs t)
unfolding run
run-snoc n [] g t = refl
run-snoc n (f ∷ gs) g t = run-snoc n gs g (step n f t)

pub table-snoc : (n : ℕ) (gs : List Gate) (g : Gate) → table n (gs ++ g ∷ []) ≡ step n g (table n gs)
unfolding table
table-snoc n gs g = run-snoc n gs g (start n)
