-- The gates of a textbook are, up to a power of the root, the elementary gates that they are lowered to.
use mathlib.Core.Path.{◌≡◌, refl, ap, ap₂, sym, ◌∙◌}
use mathlib.Core.Bool.{Bool, true, false, cond}
use mathlib.Core.List.{[], ◌∷◌, append-nil}
use mathlib.Core.Logic.{◌≢◌, Ne-symm}
use Prim.Native.Nat.{ℕ, ◌<◌}
use Rattle.pauli.specs.Letters.{◌⊕◌, ◌·◌, phase_of}
use Rattle.pauli.specs.Rows.{Row, Width, scaled, single}
use Rattle.pauli.specs.Gates.{Gate, gate_sdg, gate_cnot, Valid, conj, inverse, back, rule_s, rule_cnot}
use Rattle.pauli.specs.Rotations.{written, flush}
use Rattle.pauli.proofs.Finite.{turns as all_phases, phase, law₁}
use Rattle.pauli.proofs.Rows.{row_eq, scaled-left}
use Rattle.pauli.proofs.Short.{width-single, pair, pair_of, single-pair, pair-single, pair-★, single-★, act₁-single, act₂-pair}
use Rattle.operators.specs.Types.{Pauli, I, X, Y, Z, One, PlusI, MinusOne, MinusI}
use Rattle.operators.specs.Operators.{Operators, root_to, on_plus, on_minus, turn}
use Rattle.operators.specs.Textbook.{seen, controlled, x_of, y_of, z_of, if_one, hadamard_of, sx_of, swap_of, gate_operator}
use Rattle.operators.proofs.Elements.{turns}
use Rattle.operators.proofs.Ring.{read_minus_one, root_past, root_add, root-8, cancels, doubled, half_past, half_carried, minus_carried, turn-carried, squared}
use Rattle.operators.proofs.Eigen.{row_back, sign, controlled-of, turn-as, eigen_past, eigen_self, by_cases}
use Rattle.operators.proofs.Gates.{single-commute, gate_phase, gate-turns, undo_right}

module _ {n : ℕ} (O : Operators n) where
  infixl 60 ◌⊞◌
  infixl 65 ◌⊠◌
  abbrev pub ◌⊞◌ : O.Op → O.Op → O.Op
  a ⊞ b = O.plus a b

  abbrev pub ◌⊠◌ : O.Op → O.Op → O.Op
  a ⊠ b = O.times a b

  read_i : (R : Row) → O.read (scaled PlusI R) ≡ root_to O 2 ⊠ O.read R
  read_i R = O.read_i R ∙ ap (λ a. O.root ⊠ (a ⊠ O.read R)) (sym (O.one_right O.root)) ∙ sym (O.times_assoc O.root (root_to O 1) (O.read R))

  read_minus_i : (R : Row) → O.read (scaled MinusI R) ≡ root_to O 6 ⊠ O.read R
  read_minus_i R =
      ap O.read (row_eq refl (law₁ all_phases phase (λ p. MinusI ⊕ p) (λ p. PlusI ⊕ (MinusOne ⊕ p)) tt R.phase))
      ∙ read_i (scaled MinusOne R) ∙ ap (λ a. root_to O 2 ⊠ a) (read_minus_one O R) ∙ root_add O 2 4 (O.read R)

  -- an operator that carries Q to P and t to t'
  controlled-carried : (u : O.Op) (Q P : Row) → O.read Q ⊠ u ≡ u ⊠ O.read P → (t t' : O.Op) → t ⊠ u ≡ u ⊠ t' → controlled O Q t ⊠ u ≡ u ⊠ controlled O P t'
  controlled-carried u Q P e t t' h =
      O.from_right (on_plus O Q) (on_minus O Q ⊠ t) u
      ∙ ap₂ (λ a b. a ⊞ b) (half_carried O u (O.read Q) (O.read P) e)
      (O.times_assoc (on_minus O Q) t u ∙ ap (λ a. on_minus O Q ⊠ a) h ∙ sym (O.times_assoc (on_minus O Q) u t')
      ∙ ap (λ a. a ⊠ t') (half_carried O u (O.read (scaled MinusOne Q)) (O.read (scaled MinusOne P)) (minus_carried O u Q P e)) ∙ O.times_assoc u (on_minus O P) t')
      ∙ sym (O.from_left u (on_plus O P) (on_minus O P ⊠ t'))

  -- a gate carries P to what the rules of conjugation make of it
  pub by_gate : (g : Gate) → Valid n g → (P Q : Row) → Width n P → conj (inverse g) P ≡ Q → O.read P ⊠ gate_operator O g ≡ gate_operator O g ⊠ O.read Q
  unfolding flush back
  by_gate g v P Q w e =
      ap (λ a. O.read P ⊠ a) (gate-turns O g v) ∙ root_past O (O.read P) (gate_phase O g) (turns O (written n g))
      ∙ ap (λ a. root_to O (gate_phase O g) ⊠ a) (ap (λ l. O.read P ⊠ turns O l) (sym (append-nil (written n g))) ∙ row_back O (g ∷ []) (v, tt) P w
      ∙ ap₂ (λ l R. turns O l ⊠ O.read R) (append-nil (written n g)) e)
      ∙ sym (O.times_assoc (root_to O (gate_phase O g)) (turns O (written n g)) (O.read Q)) ∙ ap (λ a. a ⊠ O.read Q) (sym (gate-turns O g v))

  -- ---- y

  pub y_lowered : (q : ℕ) → q < n → y_of O q ≡ root_to O 2 ⊠ (x_of O q ⊠ z_of O q)
  y_lowered q hq =
      sym (ap (λ a. root_to O 2 ⊠ a) (sym (O.read_times (single n q X) (single n q Z) (width-single n q X) (width-single n q Z)) ∙ ap O.read (single-★ n q X Z hq) ∙ read_minus_i (single n q Y))
      ∙ root_add O 2 6 (y_of O q) ∙ root-8 O (y_of O q))

  -- ---- sx

  exchange : (a b c d : O.Op) → (a ⊞ b) ⊞ (c ⊞ d) ≡ (a ⊞ c) ⊞ (b ⊞ d)
  exchange a b c d =
      O.plus_assoc a b (c ⊞ d) ∙ ap (λ x. a ⊞ x) (sym (O.plus_assoc b c d) ∙ ap (λ x. x ⊞ d) (O.plus_comm b c) ∙ O.plus_assoc c b d) ∙ sym (O.plus_assoc a c (b ⊞ d))

  sx-turn : (q : ℕ) → sx_of O q ≡ turn O 2 (single n q X)
  unfolding turn
  sx-turn q =
      ap (λ a. O.half ⊠ a) (ap (λ a. (O.one ⊞ root_to O 2) ⊞ a) (O.from_right O.one (root_to O 6) (x_of O q))
      ∙ exchange O.one (root_to O 2) (O.one ⊠ x_of O q) (root_to O 6 ⊠ x_of O q)
      ∙ ap₂ (λ a b. (O.one ⊞ a) ⊞ b) (O.one_left (x_of O q))
      (sym (O.from_left (root_to O 2) O.one (O.read (scaled MinusOne (single n q X)))
      ∙ ap₂ (λ a b. a ⊞ b) (O.one_right (root_to O 2)) (ap (λ a. root_to O 2 ⊠ a) (read_minus_one O (single n q X)) ∙ root_add O 2 4 (x_of O q)))))
      ∙ O.from_left O.half (O.one ⊞ x_of O q) (root_to O 2 ⊠ (O.one ⊞ O.read (scaled MinusOne (single n q X))))
      ∙ ap (λ a. on_plus O (single n q X) ⊞ a) (sym (half_past O (root_to O 2) (O.one ⊞ O.read (scaled MinusOne (single n q X)))))

  abbrev pub root_two : O.Op
  root_two = root_to O 1 ⊞ root_to O 7

  two_past : (u a : O.Op) → u ⊠ (root_two ⊠ a) ≡ root_two ⊠ (u ⊠ a)
  two_past u a =
      ap (λ b. u ⊠ b) (O.from_right (root_to O 1) (root_to O 7) a) ∙ O.from_left u (root_to O 1 ⊠ a) (root_to O 7 ⊠ a)
      ∙ ap₂ (λ b c. b ⊞ c) (root_past O u 1 a) (root_past O u 7 a) ∙ sym (O.from_right (root_to O 1) (root_to O 7) (u ⊠ a))

  two_two : (a : O.Op) → root_two ⊠ (root_two ⊠ a) ≡ a ⊞ a
  two_two a =
      ap (λ b. root_two ⊠ b) (O.from_right (root_to O 1) (root_to O 7) a) ∙ O.from_right (root_to O 1) (root_to O 7) (root_to O 1 ⊠ a ⊞ root_to O 7 ⊠ a)
      ∙ ap₂ (λ b c. b ⊞ c)
      (O.from_left (root_to O 1) (root_to O 1 ⊠ a) (root_to O 7 ⊠ a) ∙ ap₂ (λ b c. b ⊞ c) (root_add O 1 1 a) (root_add O 1 7 a ∙ root-8 O a))
      (O.from_left (root_to O 7) (root_to O 1 ⊠ a) (root_to O 7 ⊠ a) ∙ ap₂ (λ b c. b ⊞ c) (root_add O 7 1 a ∙ root-8 O a) (root_add O 7 7 a ∙ sym (root_add O 8 6 a) ∙ root-8 O (root_to O 6 ⊠ a)))
      ∙ ap (λ b. b ⊞ (a ⊞ root_to O 6 ⊠ a)) (O.plus_comm (root_to O 2 ⊠ a) a) ∙ exchange a (root_to O 2 ⊠ a) a (root_to O 6 ⊠ a)
      ∙ ap (λ b. (a ⊞ a) ⊞ b) (ap (λ b. root_to O 2 ⊠ a ⊞ b) (sym (root_add O 4 2 a)) ∙ cancels O (root_to O 2 ⊠ a)) ∙ O.plus_none (a ⊞ a)

  -- 1 / √2 twice is a half
  pub half_root_twice : (a : O.Op) → O.half ⊠ (root_two ⊠ (O.half ⊠ (root_two ⊠ a))) ≡ O.half ⊠ a
  half_root_twice a = ap (λ b. O.half ⊠ b) (half_past O root_two (root_two ⊠ a) ∙ ap (λ b. O.half ⊠ b) (two_two a) ∙ doubled O a)

  module _ (q : ℕ) (hq : q < n) where
    abbrev x : O.Op
    x = x_of O q

    abbrev z : O.Op
    z = z_of O q

    xx : x ⊠ x ≡ O.one
    xx = ap (λ a. x ⊠ a) (sym (O.one_right x)) ∙ squared O (single n q X) (width-single n q X) refl O.one

    zz : z ⊠ z ≡ O.one
    zz = ap (λ a. z ⊠ a) (sym (O.one_right z)) ∙ squared O (single n q Z) (width-single n q Z) refl O.one

    xz : x ⊠ z ≡ root_to O 6 ⊠ y_of O q
    xz = sym (O.read_times (single n q X) (single n q Z) (width-single n q X) (width-single n q Z)) ∙ ap O.read (single-★ n q X Z hq) ∙ read_minus_i (single n q Y)

    zx : z ⊠ x ≡ root_to O 2 ⊠ y_of O q
    zx = sym (O.read_times (single n q Z) (single n q X) (width-single n q Z) (width-single n q X)) ∙ ap O.read (single-★ n q Z X hq) ∙ read_i (single n q Y)

    sum_sum : (x ⊞ z) ⊠ (x ⊞ z) ≡ O.one ⊞ O.one
    sum_sum =
        O.from_right x z (x ⊞ z) ∙ ap₂ (λ a b. a ⊞ b) (O.from_left x x z ∙ ap₂ (λ a b. a ⊞ b) xx xz) (O.from_left z x z ∙ ap₂ (λ a b. a ⊞ b) zx zz ∙ O.plus_comm (root_to O 2 ⊠ y_of O q) O.one)
        ∙ exchange O.one (root_to O 6 ⊠ y_of O q) O.one (root_to O 2 ⊠ y_of O q)
        ∙ ap (λ a. (O.one ⊞ O.one) ⊞ a) (O.plus_comm (root_to O 6 ⊠ y_of O q) (root_to O 2 ⊠ y_of O q) ∙ ap (λ a. root_to O 2 ⊠ y_of O q ⊞ a) (sym (root_add O 4 2 (y_of O q))) ∙ cancels O (root_to O 2 ⊠ y_of O q))
        ∙ O.plus_none (O.one ⊞ O.one)

    pub hh : hadamard_of O q ⊠ hadamard_of O q ≡ O.one
    hh =
        O.times_assoc O.half (root_two ⊠ (x ⊞ z)) (hadamard_of O q)
        ∙ ap (λ a. O.half ⊠ a) (O.times_assoc root_two (x ⊞ z) (hadamard_of O q) ∙ ap (λ a. root_two ⊠ a) (half_past O (x ⊞ z) (root_two ⊠ (x ⊞ z)) ∙ ap (λ a. O.half ⊠ a) (two_past (x ⊞ z) (x ⊞ z) ∙ ap (λ a. root_two ⊠ a) sum_sum))
        ∙ half_past O root_two (root_two ⊠ (O.one ⊞ O.one)) ∙ ap (λ a. O.half ⊠ a) (two_two (O.one ⊞ O.one)) ∙ doubled O (O.one ⊞ O.one))
        ∙ doubled O O.one

    z-past : z ⊠ hadamard_of O q ≡ hadamard_of O q ⊠ x
    z-past =
        half_past O z (root_two ⊠ (x ⊞ z)) ∙ ap (λ a. O.half ⊠ a) (two_past z (x ⊞ z)
        ∙ ap (λ a. root_two ⊠ a) (O.from_left z x z ∙ O.plus_comm (z ⊠ x) (z ⊠ z) ∙ ap (λ a. a ⊞ z ⊠ x) (zz ∙ sym xx) ∙ sym (O.from_right x z x))
        ∙ sym (O.times_assoc root_two (x ⊞ z) x)) ∙ sym (O.times_assoc O.half (root_two ⊠ (x ⊞ z)) x)

    pub sx_lowered : sx_of O q ≡ hadamard_of O q ⊠ if_one O q (root_to O 2) ⊠ hadamard_of O q
    sx_lowered =
        sx-turn q
        ∙ sym (O.times_assoc (hadamard_of O q) (if_one O q (root_to O 2)) (hadamard_of O q)
        ∙ ap (λ a. hadamard_of O q ⊠ a) (ap (λ a. a ⊠ hadamard_of O q) (sym (turn-as O 2 (single n q Z))) ∙ turn-carried O (hadamard_of O q) (single n q Z) (single n q X) z-past 2)
        ∙ sym (O.times_assoc (hadamard_of O q) (hadamard_of O q) (turn O 2 (single n q X))) ∙ ap (λ a. a ⊠ turn O 2 (single n q X)) hh ∙ O.one_left _)

  -- ---- cy and swap

  module _ (a b : ℕ) (ha : a < n) (hb : b < n) (ne : a ≢ b) where
    abbrev sdg : O.Op
    sdg = if_one O b (root_to O 6)

    za_past : z_of O a ⊠ sdg ≡ sdg ⊠ z_of O a
    za_past =
        ap (λ c. z_of O a ⊠ c) (sym (turn-as O 6 (single n b Z))) ∙ sym (turn-carried O (z_of O a) (single n b Z) (single n b Z) (single-commute O b a Z hb ha (Ne-symm ne)) 6)
        ∙ ap (λ c. c ⊠ z_of O a) (turn-as O 6 (single n b Z))

    xb_past : x_of O b ⊠ sdg ≡ sdg ⊠ y_of O b
    unfolding conj
    xb_past = by_gate (gate_sdg b) hb (single n b X) (single n b Y) (width-single n b X) (act₁-single rule_s n b X hb)

    six : turn O 6 (single n b Z) ≡ turn O 14 (single n b Z)
    unfolding turn
    six = ap (λ d. on_plus O (single n b Z) ⊞ d) (sym (sym (root_add O 8 6 (on_minus O (single n b Z))) ∙ root-8 O (root_to O 6 ⊠ on_minus O (single n b Z))))

    s-sdg : (c : O.Op) → if_one O b (root_to O 2) ⊠ (sdg ⊠ c) ≡ c
    s-sdg c =
        ap₂ (λ d e. d ⊠ (e ⊠ c)) (sym (turn-as O 2 (single n b Z))) (sym (turn-as O 6 (single n b Z)))
        ∙ ap (λ d. turn O 2 (single n b Z) ⊠ (d ⊠ c)) six ∙ undo_right O (single n b Z) (width-single n b Z) refl 2 c

    pub cy_lowered : if_one O a (y_of O b) ≡ if_one O b (root_to O 2) ⊠ if_one O a (x_of O b) ⊠ sdg
    cy_lowered = sym (O.times_assoc (if_one O b (root_to O 2)) (if_one O a (x_of O b)) sdg
        ∙ ap (λ c. if_one O b (root_to O 2) ⊠ c) (controlled-carried sdg (single n a Z) (single n a Z) za_past (x_of O b) (y_of O b) xb_past) ∙ s-sdg (if_one O a (y_of O b)))

    abbrev cnot : O.Op
    cnot = if_one O a (x_of O b)

    cnot-cnot : cnot ⊠ cnot ≡ O.one
    cnot-cnot = sym (O.one_right _)
        ∙ by_cases O A (width-single n a Z) refl _ _ O.one (λ x. by_cases O B (width-single n b X) refl _ _ (seen O x A ⊠ O.one) (λ y. both x y)) ∙ O.one_right _
      where
        A : Row
        A = single n a Z

        B : Row
        B = single n b X

        both : (x y : Bool) → cnot ⊠ cnot ⊠ (seen O y B ⊠ (seen O x A ⊠ O.one)) ≡ O.one ⊠ (seen O y B ⊠ (seen O x A ⊠ O.one))
        both x y =
            let e = seen O y B ⊠ (seen O x A ⊠ O.one) in
            let hB = eigen_self O B (width-single n b X) refl y (seen O x A ⊠ O.one) in
            let hA = eigen_past O A B (single-commute O a b X ha hb ne) x y (seen O x A ⊠ O.one) (eigen_self O A (width-single n a Z) refl x O.one) in
            let c = controlled-of O A x (x_of O b) e (sign O y) hA hB in
            O.times_assoc cnot cnot e ∙ ap (λ d. cnot ⊠ d) c ∙ root_past O cnot (cond x (sign O y) 0) e ∙ ap (λ d. root_to O (cond x (sign O y) 0) ⊠ d) c ∙ go x y e
          where
            go : (x y : Bool) (e : O.Op) → root_to O (cond x (sign O y) 0) ⊠ (root_to O (cond x (sign O y) 0) ⊠ e) ≡ O.one ⊠ e
            go true true e = root_add O 4 4 e ∙ root-8 O e ∙ sym (O.one_left e)
            go true false e = root_add O 0 0 e
            go false true e = root_add O 0 0 e
            go false false e = root_add O 0 0 e

    zb_past : z_of O b ⊠ cnot ≡ cnot ⊠ O.read (pair n a b Z Z)
    unfolding conj
    zb_past = by_gate (gate_cnot a b) (ha, hb, ne) (single n b Z) (pair n a b Z Z) (width-single n b Z) (ap (conj (gate_cnot a b)) (pair-single n a b Z ha) ∙ act₂-pair rule_cnot n a b I Z ha hb ne)

    xa_past : x_of O a ⊠ cnot ≡ cnot ⊠ O.read (pair n a b X X)
    unfolding conj
    xa_past = by_gate (gate_cnot a b) (ha, hb, ne) (single n a X) (pair n a b X X) (width-single n a X) (ap (conj (gate_cnot a b)) (single-pair n a b X hb ne) ∙ act₂-pair rule_cnot n a b X I ha hb ne)

    width-pair : (k l : Pauli) → Width n (pair n a b k l)
    width-pair k l = simp (lib.ListN.length-set, lib.ListN.length-replicate)

    of_pair : (k : Pauli) → (k · I) ≡ k → phase_of k I ≡ One → O.read (pair n a b k k) ≡ O.read (single n a k) ⊠ O.read (single n b k)
    of_pair k e f =
        sym (sym (O.read_times (single n a k) (single n b k) (width-single n a k) (width-single n b k))
        ∙ ap O.read (pair_of n a b k k ha hb ne ∙ ap₂ (λ p l. scaled p (pair n a b l k)) f e))

    swapped : controlled O (pair n a b Z Z) (O.read (pair n a b X X)) ≡ swap_of O a b
    swapped =
        ap (λ c. on_plus O (pair n a b Z Z) ⊞ c) (O.times_assoc O.half (O.one ⊞ O.read (scaled MinusOne (pair n a b Z Z))) (O.read (pair n a b X X)))
        ∙ sym (O.from_left O.half (O.one ⊞ O.read (pair n a b Z Z)) ((O.one ⊞ O.read (scaled MinusOne (pair n a b Z Z))) ⊠ O.read (pair n a b X X)))
        ∙ ap (λ c. O.half ⊠ c) (ap (λ c. O.one ⊞ O.read (pair n a b Z Z) ⊞ c) (O.from_right O.one (O.read (scaled MinusOne (pair n a b Z Z))) (O.read (pair n a b X X)) ∙ ap₂ (λ c d. c ⊞ d) (O.one_left _) yy)
        ∙ O.plus_assoc O.one (O.read (pair n a b Z Z)) (O.read (pair n a b X X) ⊞ O.read (pair n a b Y Y))
        ∙ ap (λ c. O.one ⊞ c) (O.plus_comm (O.read (pair n a b Z Z)) (O.read (pair n a b X X) ⊞ O.read (pair n a b Y Y)) ∙ O.plus_assoc (O.read (pair n a b X X)) (O.read (pair n a b Y Y)) (O.read (pair n a b Z Z)))
        ∙ sym (O.plus_assoc O.one (O.read (pair n a b X X)) (O.read (pair n a b Y Y) ⊞ O.read (pair n a b Z Z)))
        ∙ ap₂ (λ c d. (O.one ⊞ c) ⊞ d) (of_pair X refl refl) (ap₂ (λ c d. c ⊞ d) (of_pair Y refl refl) (of_pair Z refl refl)))
      where
        yy : O.read (scaled MinusOne (pair n a b Z Z)) ⊠ O.read (pair n a b X X) ≡ O.read (pair n a b Y Y)
        yy = sym (O.read_times (scaled MinusOne (pair n a b Z Z)) (pair n a b X X) (width-pair Z Z) (width-pair X X))
            ∙ ap O.read (scaled-left MinusOne (pair n a b Z Z) (pair n a b X X) ∙ ap (scaled MinusOne) (pair-★ n a b Z Z X X ha hb ne))

    pub swap_lowered : swap_of O a b ≡ cnot ⊠ if_one O b (x_of O a) ⊠ cnot
    swap_lowered = sym (O.times_assoc cnot (if_one O b (x_of O a)) cnot
        ∙ ap (λ c. cnot ⊠ c) (controlled-carried cnot (single n b Z) (pair n a b Z Z) zb_past (x_of O a) (O.read (pair n a b X X)) xa_past)
        ∙ sym (O.times_assoc cnot cnot _) ∙ ap (λ c. c ⊠ controlled O (pair n a b Z Z) (O.read (pair n a b X X))) cnot-cnot ∙ O.one_left _ ∙ swapped)
