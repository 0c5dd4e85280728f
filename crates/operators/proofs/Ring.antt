-- The laws of a ring in which rows are read: powers of the root, halves, projections, rotations, and what a quarter turn carries.
use mathlib.Core.Path.{◌≡◌, refl, ap, ap₂, sym, ◌∙◌}
use mathlib.Core.Bool.{Bool, true, false, cond}
use Prim.Native.Nat.{ℕ, zero, suc, ◌+◌, ◌*◌, ◌/◌, ◌%◌}
use native.Mathlib.Nat.{zero-add, suc-add}
use native.Mathlib.Omega.{arith}
use Rattle.pauli.specs.Letters.{◌⊕◌, real}
use Rattle.operators.specs.Types.{PlusI, MinusOne, MinusI}
use Rattle.pauli.specs.Rows.{Row, Width, ◌★◌, scaled, identity, anticommute, minus_if}
use Rattle.pauli.specs.Rotations.{quarter, quarters, rotate}
use Rattle.operators.specs.Operators.{Operators, root_to, on_plus, on_minus, turn}
use Rattle.pauli.proofs.Finite.{turns as all_phases, phase, law₁}
use Rattle.pauli.proofs.Rows.{row_eq, exchange, scaled-right, scaled-left, square, width-★}

module _ {n : ℕ} (O : Operators n) where
  infixl 60 ◌⊞◌
  infixl 65 ◌⊠◌
  abbrev pub ◌⊞◌ : O.Op → O.Op → O.Op
  a ⊞ b = O.plus a b

  abbrev pub ◌⊠◌ : O.Op → O.Op → O.Op
  a ⊠ b = O.times a b

  -- ---- the signs in front of a row

  pub read_minus_one : (P : Row) → O.read (scaled MinusOne P) ≡ root_to O 4 ⊠ O.read P
  read_minus_one P =
      ap O.read (row_eq refl (law₁ all_phases phase (λ p. MinusOne ⊕ p) (λ p. PlusI ⊕ (PlusI ⊕ p)) tt P.phase))
      ∙ O.read_i (scaled PlusI P) ∙ ap (λ x. O.root ⊠ (O.root ⊠ x)) (O.read_i P) ∙ simp (O.times_assoc, O.one_left)

  -- ---- powers of the root pass everything, and add up

  pub root_past : (u : O.Op) (k : ℕ) (a : O.Op) → u ⊠ (root_to O k ⊠ a) ≡ root_to O k ⊠ (u ⊠ a)
  root_past u zero a = ap (λ x. u ⊠ x) (O.one_left a) ∙ sym (O.one_left (u ⊠ a))
  root_past u (suc k) a =
      ap (λ x. u ⊠ x) (O.times_assoc O.root (root_to O k) a) ∙ sym (O.times_assoc u O.root (root_to O k ⊠ a)) ∙ ap (λ x. x ⊠ (root_to O k ⊠ a)) (O.root_central u)
      ∙ O.times_assoc O.root u (root_to O k ⊠ a) ∙ ap (λ x. O.root ⊠ x) (root_past u k a) ∙ sym (O.times_assoc O.root (root_to O k) (u ⊠ a))

  pub root_add : (j k : ℕ) (a : O.Op) → root_to O j ⊠ (root_to O k ⊠ a) ≡ root_to O (j + k) ⊠ a
  root_add zero k a = rw zero-add (O.one_left (root_to O k ⊠ a))
  root_add (suc j) k a = rw suc-add (O.times_assoc O.root (root_to O j) (root_to O k ⊠ a) ∙ ap (λ x. O.root ⊠ x) (root_add j k a) ∙ sym (O.times_assoc O.root (root_to O (j + k)) a))

  abbrev pub unit : Row
  unit = identity n

  pub minus_one : O.read (scaled MinusOne unit) ≡ root_to O 4
  minus_one = read_minus_one unit ∙ ap (λ x. root_to O 4 ⊠ x) O.read_identity ∙ O.one_right (root_to O 4)

  pub root-8 : (a : O.Op) → root_to O 8 ⊠ a ≡ a
  root-8 a =
      sym (root_add 4 4 a) ∙ sym (O.times_assoc (root_to O 4) (root_to O 4) a)
      ∙ ap (λ x. x ⊠ a) (ap (λ x. root_to O 4 ⊠ x) (sym minus_one) ∙ sym (read_minus_one (scaled MinusOne unit)) ∙ O.read_identity) ∙ O.one_left a

  pub cancels : (a : O.Op) → a ⊞ root_to O 4 ⊠ a ≡ O.none
  cancels a =
      ap (λ x. x ⊞ root_to O 4 ⊠ a) (sym (O.one_left a)) ∙ sym (O.from_right O.one (root_to O 4) a)
      ∙ ap (λ x. x ⊠ a) (ap₂ (λ x y. x ⊞ y) (sym O.read_identity) (sym minus_one) ∙ O.read_minus unit) ∙ O.none_left a

  pub doubled : (a : O.Op) → O.half ⊠ (a ⊞ a) ≡ a
  doubled a = O.from_left O.half a a ∙ sym (O.from_right O.half O.half a) ∙ ap (λ x. x ⊠ a) O.halves ∙ O.one_left a

  pub half_past : (u a : O.Op) → u ⊠ (O.half ⊠ a) ≡ O.half ⊠ (u ⊠ a)
  half_past u a = sym (O.times_assoc u O.half a) ∙ ap (λ x. x ⊠ a) (O.half_central u) ∙ O.times_assoc O.half u a

  pub half_carried : (u a b : O.Op) → a ⊠ u ≡ u ⊠ b → O.half ⊠ (O.one ⊞ a) ⊠ u ≡ u ⊠ (O.half ⊠ (O.one ⊞ b))
  half_carried u a b h =
      O.times_assoc O.half (O.one ⊞ a) u ∙ ap (λ x. O.half ⊠ x) (O.from_right O.one a u ∙ ap₂ (λ x y. x ⊞ y) (O.one_left u ∙ sym (O.one_right u)) h ∙ sym (O.from_left u O.one b))
      ∙ sym (half_past u (O.one ⊞ b))

  -- an operator that carries Q to P carries every rotation along Q to that along P
  module _ (u : O.Op) (Q P : Row) (e : O.read Q ⊠ u ≡ u ⊠ O.read P) where
    pub minus_carried : O.read (scaled MinusOne Q) ⊠ u ≡ u ⊠ O.read (scaled MinusOne P)
    minus_carried =
        ap (λ x. x ⊠ u) (read_minus_one Q) ∙ O.times_assoc (root_to O 4) (O.read Q) u ∙ ap (λ x. root_to O 4 ⊠ x) e
        ∙ sym (root_past u 4 (O.read P)) ∙ ap (λ x. u ⊠ x) (sym (read_minus_one P))

    pub turn-carried : (k : ℕ) → turn O k Q ⊠ u ≡ u ⊠ turn O k P
    unfolding turn
    turn-carried k =
        O.from_right (on_plus O Q) (root_to O k ⊠ on_minus O Q) u
        ∙ ap₂ (λ x y. x ⊞ y) (half_carried u (O.read Q) (O.read P) e)
        (O.times_assoc (root_to O k) (on_minus O Q) u ∙ ap (λ x. root_to O k ⊠ x) (half_carried u (O.read (scaled MinusOne Q)) (O.read (scaled MinusOne P)) minus_carried)
        ∙ sym (root_past u k (on_minus O P)))
        ∙ sym (O.from_left u (on_plus O P) (root_to O k ⊠ on_minus O P))

  -- ---- a row of sign +1 or -1

  module _ (P : Row) (w : Width n P) (r : real P.phase ≡ true) where
    pub squared : (a : O.Op) → O.read P ⊠ (O.read P ⊠ a) ≡ a
    squared a = sym (O.times_assoc (O.read P) (O.read P) a) ∙ ap (λ x. x ⊠ a) (sym (O.read_times P P w w) ∙ ap O.read (square n P w r) ∙ O.read_identity) ∙ O.one_left a

    pub on_plus_lem : (a : O.Op) → O.read P ⊠ (on_plus O P ⊠ a) ≡ on_plus O P ⊠ a
    on_plus_lem a =
        sym (O.times_assoc (O.read P) (on_plus O P) a)
        ∙ ap (λ x. x ⊠ a) (half_past (O.read P) (O.one ⊞ O.read P)
        ∙ ap (λ x. O.half ⊠ x) (O.from_left (O.read P) O.one (O.read P) ∙ ap₂ (λ x y. x ⊞ y) (O.one_right (O.read P)) (ap (λ x. O.read P ⊠ x) (sym (O.one_right (O.read P))) ∙ squared O.one) ∙ O.plus_comm (O.read P) O.one))

    pub on_minus_lem : (a : O.Op) → O.read P ⊠ (on_minus O P ⊠ a) ≡ root_to O 4 ⊠ (on_minus O P ⊠ a)
    on_minus_lem a =
        sym (O.times_assoc (O.read P) (on_minus O P) a)
        ∙ ap (λ x. x ⊠ a) (half_past (O.read P) (O.one ⊞ O.read (scaled MinusOne P)) ∙ ap (λ x. O.half ⊠ x) sides ∙ sym (half_past (root_to O 4) (O.one ⊞ O.read (scaled MinusOne P))))
        ∙ O.times_assoc (root_to O 4) (on_minus O P) a
      where
        left : O.read P ⊠ O.read (scaled MinusOne P) ≡ root_to O 4
        left = ap (λ x. O.read P ⊠ x) (read_minus_one P) ∙ root_past (O.read P) 4 (O.read P)
            ∙ ap (λ x. root_to O 4 ⊠ x) (ap (λ x. O.read P ⊠ x) (sym (O.one_right (O.read P))) ∙ squared O.one) ∙ O.one_right (root_to O 4)

        right : root_to O 4 ⊠ O.read (scaled MinusOne P) ≡ O.read P
        right = ap (λ x. root_to O 4 ⊠ x) (read_minus_one P) ∙ root_add 4 4 (O.read P) ∙ root-8 (O.read P)

        sides : O.read P ⊠ (O.one ⊞ O.read (scaled MinusOne P)) ≡ root_to O 4 ⊠ (O.one ⊞ O.read (scaled MinusOne P))
        sides = O.from_left (O.read P) O.one (O.read (scaled MinusOne P)) ∙ ap₂ (λ x y. x ⊞ y) (O.one_right (O.read P)) left
            ∙ O.plus_comm (O.read P) (root_to O 4) ∙ sym (ap₂ (λ x y. x ⊞ y) (O.one_right (root_to O 4)) right) ∙ sym (O.from_left (root_to O 4) O.one (O.read (scaled MinusOne P)))

    -- a projection applied to what P multiplies by s
    pub plus_of : (x y : O.Op) → O.read P ⊠ x ≡ y → on_plus O P ⊠ x ≡ O.half ⊠ (x ⊞ y)
    plus_of x y e = O.times_assoc O.half (O.one ⊞ O.read P) x ∙ ap (λ z. O.half ⊠ z) (O.from_right O.one (O.read P) x ∙ ap₂ (λ a b. a ⊞ b) (O.one_left x) e)

    pub minus_of : (x y : O.Op) → O.read P ⊠ x ≡ y → on_minus O P ⊠ x ≡ O.half ⊠ (x ⊞ root_to O 4 ⊠ y)
    minus_of x y e = O.times_assoc O.half (O.one ⊞ O.read (scaled MinusOne P)) x
        ∙ ap (λ z. O.half ⊠ z) (O.from_right O.one (O.read (scaled MinusOne P)) x
        ∙ ap₂ (λ a b. a ⊞ b) (O.one_left x) (ap (λ z. z ⊠ x) (read_minus_one P) ∙ O.times_assoc (root_to O 4) (O.read P) x ∙ ap (λ z. root_to O 4 ⊠ z) e))

    pub plus_plus : (a : O.Op) → on_plus O P ⊠ (on_plus O P ⊠ a) ≡ on_plus O P ⊠ a
    plus_plus a = plus_of (on_plus O P ⊠ a) _ (on_plus_lem a) ∙ doubled (on_plus O P ⊠ a)

    pub plus_minus : (a : O.Op) → on_plus O P ⊠ (on_minus O P ⊠ a) ≡ O.none
    plus_minus a = plus_of (on_minus O P ⊠ a) _ (on_minus_lem a) ∙ ap (λ z. O.half ⊠ z) (cancels (on_minus O P ⊠ a)) ∙ O.none_right O.half

    pub minus_plus : (a : O.Op) → on_minus O P ⊠ (on_plus O P ⊠ a) ≡ O.none
    minus_plus a = minus_of (on_plus O P ⊠ a) _ (on_plus_lem a) ∙ ap (λ z. O.half ⊠ z) (cancels (on_plus O P ⊠ a)) ∙ O.none_right O.half

    pub minus_minus : (a : O.Op) → on_minus O P ⊠ (on_minus O P ⊠ a) ≡ on_minus O P ⊠ a
    minus_minus a = minus_of (on_minus O P ⊠ a) _ (on_minus_lem a)
        ∙ ap (λ z. O.half ⊠ (on_minus O P ⊠ a ⊞ z)) (root_add 4 4 (on_minus O P ⊠ a) ∙ root-8 (on_minus O P ⊠ a)) ∙ doubled (on_minus O P ⊠ a)

    -- one rotation after another, along the same row
    pub turn-add : (j k : ℕ) (a : O.Op) → turn O j P ⊠ (turn O k P ⊠ a) ≡ turn O (j + k) P ⊠ a
    unfolding turn
    turn-add j k a =
        ap (λ x. turned j ⊠ x) (O.from_right (on_plus O P) (root_to O k ⊠ on_minus O P) a)
        ∙ O.from_left (turned j) (on_plus O P ⊠ a) (root_to O k ⊠ on_minus O P ⊠ a)
        ∙ ap₂ (λ x y. x ⊞ y) first second
        ∙ sym (O.from_right (on_plus O P) (root_to O (j + k) ⊠ on_minus O P) a)
      where
        turned : ℕ → O.Op
        turned i = on_plus O P ⊞ root_to O i ⊠ on_minus O P

        first : turned j ⊠ (on_plus O P ⊠ a) ≡ on_plus O P ⊠ a
        first = O.from_right (on_plus O P) (root_to O j ⊠ on_minus O P) (on_plus O P ⊠ a)
            ∙ ap₂ (λ x y. x ⊞ y) (plus_plus a) (O.times_assoc (root_to O j) (on_minus O P) (on_plus O P ⊠ a) ∙ ap (λ x. root_to O j ⊠ x) (minus_plus a) ∙ O.none_right (root_to O j))
            ∙ O.plus_none (on_plus O P ⊠ a)

        second : turned j ⊠ (root_to O k ⊠ on_minus O P ⊠ a) ≡ root_to O (j + k) ⊠ on_minus O P ⊠ a
        second = ap (λ x. turned j ⊠ x) (O.times_assoc (root_to O k) (on_minus O P) a) ∙ root_past (turned j) k (on_minus O P ⊠ a)
            ∙ ap (λ x. root_to O k ⊠ x) (O.from_right (on_plus O P) (root_to O j ⊠ on_minus O P) (on_minus O P ⊠ a)
            ∙ ap₂ (λ x y. x ⊞ y) (plus_minus a) (O.times_assoc (root_to O j) (on_minus O P) (on_minus O P ⊠ a) ∙ ap (λ x. root_to O j ⊠ x) (minus_minus a))
            ∙ O.plus_comm O.none (root_to O j ⊠ (on_minus O P ⊠ a)) ∙ O.plus_none (root_to O j ⊠ (on_minus O P ⊠ a)))
            ∙ root_past (root_to O k) j (on_minus O P ⊠ a) ∙ root_add j k (on_minus O P ⊠ a) ∙ sym (O.times_assoc (root_to O (j + k)) (on_minus O P) a)

    pub turn-0 : (a : O.Op) → turn O 0 P ⊠ a ≡ a
    unfolding turn
    turn-0 a =
        ap (λ x. x ⊠ a) (ap (λ x. on_plus O P ⊞ x) (O.one_left (on_minus O P)) ∙ sym (O.from_left O.half (O.one ⊞ O.read P) (O.one ⊞ O.read (scaled MinusOne P)))
        ∙ ap (λ x. O.half ⊠ x) (O.plus_assoc O.one (O.read P) (O.one ⊞ O.read (scaled MinusOne P))
        ∙ ap (λ x. O.one ⊞ x) (sym (O.plus_assoc (O.read P) O.one (O.read (scaled MinusOne P))) ∙ ap (λ x. x ⊞ O.read (scaled MinusOne P)) (O.plus_comm (O.read P) O.one)
        ∙ O.plus_assoc O.one (O.read P) (O.read (scaled MinusOne P)) ∙ ap (λ x. O.one ⊞ x) (O.read_minus P) ∙ O.plus_none O.one))
        ∙ doubled O.one)
        ∙ O.one_left a

    pub zero_turn : (a : O.Op) → (on_plus O P ⊞ O.one ⊠ on_minus O P) ⊠ a ≡ a
    unfolding turn
    zero_turn a = turn-0 a

    -- ---- a quarter turn carries a row as Litinski's rule says

    pub anti_carried : (Q : Row) → Width n Q → P ★ Q ≡ scaled MinusOne (Q ★ P) → O.read (scaled MinusI (P ★ Q)) ⊠ turn O 2 P ≡ turn O 2 P ⊠ O.read Q
    unfolding turn
    anti_carried Q wQ e =
        O.from_left (O.read (scaled MinusI (P ★ Q))) (on_plus O P) (root_to O 2 ⊠ on_minus O P)
        ∙ ap₂ (λ x y. x ⊞ y) left right
        ∙ O.plus_comm (root_to O 2 ⊠ (on_minus O P ⊠ O.read Q)) (on_plus O P ⊠ O.read Q)
        ∙ ap (λ x. on_plus O P ⊠ O.read Q ⊞ x) (sym (O.times_assoc (root_to O 2) (on_minus O P) (O.read Q)))
        ∙ sym (O.from_right (on_plus O P) (root_to O 2 ⊠ on_minus O P) (O.read Q))
      where
        minus-i : (R : Row) → O.read (scaled MinusI R) ≡ root_to O 6 ⊠ O.read R
        minus-i R =
            ap O.read (row_eq refl (law₁ all_phases phase (λ p. MinusI ⊕ p) (λ p. PlusI ⊕ (MinusOne ⊕ p)) tt R.phase))
            ∙ O.read_i (scaled MinusOne R) ∙ ap (λ x. O.root ⊠ (O.root ⊠ x)) (read_minus_one R)
            ∙ ap (λ x. O.root ⊠ x) (sym (O.times_assoc O.root (root_to O 4) (O.read R))) ∙ sym (O.times_assoc O.root (root_to O 5) (O.read R))

        plus-q : on_plus O P ⊠ O.read Q ≡ O.read Q ⊠ on_minus O P
        plus-q = half_carried (O.read Q) (O.read P) (O.read (scaled MinusOne P))
            (sym (O.read_times P Q w wQ) ∙ ap O.read (e ∙ sym (scaled-right MinusOne Q P)) ∙ O.read_times Q (scaled MinusOne P) wQ w)

        minus-q : on_minus O P ⊠ O.read Q ≡ O.read Q ⊠ on_plus O P
        minus-q = half_carried (O.read Q) (O.read (scaled MinusOne P)) (O.read P)
            (sym (O.read_times (scaled MinusOne P) Q w wQ) ∙ ap O.read (scaled-left MinusOne P Q ∙ ap (scaled MinusOne) e
            ∙ row_eq refl (law₁ all_phases phase (λ p. MinusOne ⊕ (MinusOne ⊕ p)) (λ p. p) tt (Q ★ P).phase)) ∙ O.read_times Q P wQ w)

        -- -i P Q in front of a, where Q a is b Q
        front : (a b : O.Op) → b ⊠ O.read Q ≡ O.read Q ⊠ a → O.read (scaled MinusI (P ★ Q)) ⊠ a ≡ root_to O 6 ⊠ (O.read P ⊠ (b ⊠ O.read Q))
        front a b h =
            ap (λ x. x ⊠ a) (minus-i (P ★ Q) ∙ ap (λ x. root_to O 6 ⊠ x) (O.read_times P Q w wQ)) ∙ O.times_assoc (root_to O 6) (O.read P ⊠ O.read Q) a
            ∙ ap (λ x. root_to O 6 ⊠ x) (O.times_assoc (O.read P) (O.read Q) a ∙ ap (λ x. O.read P ⊠ x) (sym h))

        left : O.read (scaled MinusI (P ★ Q)) ⊠ on_plus O P ≡ root_to O 2 ⊠ (on_minus O P ⊠ O.read Q)
        left = front (on_plus O P) (on_minus O P) minus-q ∙ ap (λ x. root_to O 6 ⊠ x) (on_minus_lem (O.read Q)) ∙ root_add 6 4 (on_minus O P ⊠ O.read Q)
            ∙ sym (root_add 2 8 (on_minus O P ⊠ O.read Q)) ∙ ap (λ x. root_to O 2 ⊠ x) (root-8 (on_minus O P ⊠ O.read Q))

        right : O.read (scaled MinusI (P ★ Q)) ⊠ (root_to O 2 ⊠ on_minus O P) ≡ on_plus O P ⊠ O.read Q
        right = root_past (O.read (scaled MinusI (P ★ Q))) 2 (on_minus O P)
            ∙ ap (λ x. root_to O 2 ⊠ x) (front (on_minus O P) (on_plus O P) plus-q ∙ ap (λ x. root_to O 6 ⊠ x) (on_plus_lem (O.read Q)))
            ∙ root_add 2 6 (on_plus O P ⊠ O.read Q) ∙ root-8 (on_plus O P ⊠ O.read Q)

    pub quarter-carried : (Q : Row) → Width n Q → O.read (quarter P Q) ⊠ turn O 2 P ≡ turn O 2 P ⊠ O.read Q
    quarter-carried Q wQ = go (anticommute P Q) (exchange P Q)
      where
        go : (b : Bool) → P ★ Q ≡ scaled (minus_if b) (Q ★ P) → O.read (cond b (scaled MinusI (P ★ Q)) Q) ⊠ turn O 2 P ≡ turn O 2 P ⊠ O.read Q
        go false e = sym (turn-carried (O.read Q) P P (sym (O.read_times P Q w wQ) ∙ ap O.read e ∙ O.read_times Q P wQ w) 2)
        go true e = anti_carried Q wQ e

    pub width-quarter : (Q : Row) → Width n Q → Width n (quarter P Q)
    width-quarter Q wQ = go (anticommute P Q)
      where
        go : (b : Bool) → Width n (cond b (scaled MinusI (P ★ Q)) Q)
        go false = wQ
        go true = width-★ n P Q w wQ

    pub width-quarters : (m : ℕ) (Q : Row) → Width n Q → Width n (quarters m P Q)
    width-quarters zero Q wQ = wQ
    width-quarters (suc m) Q wQ = width-quarter (quarters m P Q) (width-quarters m Q wQ)

    pub quarters-carried : (m : ℕ) (Q : Row) → Width n Q → O.read (quarters m P Q) ⊠ turn O (2 * m) P ≡ turn O (2 * m) P ⊠ O.read Q
    quarters-carried zero Q wQ =
        ap (λ x. O.read Q ⊠ x) (sym (O.one_right (turn O 0 P)) ∙ turn-0 O.one) ∙ O.one_right (O.read Q) ∙ sym (turn-0 (O.read Q))
    quarters-carried (suc m) Q wQ =
        ap (λ x. O.read (quarter P (quarters m P Q)) ⊠ x) (sym (O.one_right (turn O (2 * suc m) P)) ∙ two O.one ∙ ap (λ x. turn O 2 P ⊠ x) (O.one_right (turn O (2 * m) P)))
        ∙ sym (O.times_assoc (O.read (quarter P (quarters m P Q))) (turn O 2 P) (turn O (2 * m) P))
        ∙ ap (λ x. x ⊠ turn O (2 * m) P) (quarter-carried (quarters m P Q) (width-quarters m Q wQ))
        ∙ O.times_assoc (turn O 2 P) (O.read (quarters m P Q)) (turn O (2 * m) P)
        ∙ ap (λ x. turn O 2 P ⊠ x) (quarters-carried m Q wQ) ∙ sym (two (O.read Q))
      where
        two : (a : O.Op) → turn O (2 * suc m) P ⊠ a ≡ turn O 2 P ⊠ (turn O (2 * m) P ⊠ a)
        two a = let h : 2 * suc m ≡ 2 + 2 * m = omega arith in ap (λ k. turn O k P ⊠ a) h ∙ sym (turn-add 2 (2 * m) a)

    pub rotate-carried : (k : ℕ) → k % 2 ≡ 0 → (Q : Row) → Width n Q → O.read (rotate k P Q) ⊠ turn O k P ≡ turn O k P ⊠ O.read Q
    rotate-carried k e Q wQ =
        let h : k ≡ 2 * (k / 2) = omega arith in
        ap (λ j. O.read (quarters (k / 2) P Q) ⊠ turn O j P) h ∙ quarters-carried (k / 2) Q wQ ∙ ap (λ j. turn O j P ⊠ O.read Q) (sym h)
