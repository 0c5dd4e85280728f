-- Lists of gates: the rotations that a flush writes for them, their inverses, and the rows and turns that they carry.
use mathlib.Core.Path.{◌≡◌, refl, ap, ap₂, sym, ◌∙◌}
use mathlib.Core.Bool.{true}
use mathlib.Core.List.{List, [], ◌∷◌}
use Prim.Native.Nat.{ℕ, zero, suc, ◌+◌, ◌*◌, ◌%◌}
use native.Mathlib.Omega.{arith}
use Rattle.pauli.specs.Letters.{real}
use Rattle.pauli.specs.Rows.{Row, Width}
use Rattle.pauli.specs.Gates.{Gate, AllValid, inverse, conj, back}
use Rattle.pauli.specs.Rotations.{rotate, written, flush}
use Rattle.pauli.proofs.Conj.{hom-back}
use Rattle.operators.specs.Operators.{Operators, root_to, turn}
use Rattle.operators.specs.Textbook.{gate_operator, gates_operator}
use Rattle.operators.proofs.Elements.{turns}
use Rattle.operators.proofs.Ring.{root_past, root_add, root-8, turn-carried, rotate-carried}
use Rattle.operators.proofs.Eigen.{plain-flush}
use Rattle.operators.proofs.Gates.{gate_phase, gate-turns, turns-append, backwards, backwards-left, backwards-right}
use Rattle.operators.proofs.Lowered.{by_gate}

module _ {n : ℕ} (O : Operators n) where
  infixl 65 ◌⊠◌
  abbrev ◌⊠◌ : O.Op → O.Op → O.Op
  a ⊠ b = O.times a b

  -- ---- gates are what a flush writes for them

  abbrev pub gates_phase : List Gate → ℕ
  gates_phase [] = 0
  gates_phase (g ∷ gs) = gate_phase O g + gates_phase gs

  gates-turns : (gs : List Gate) → AllValid n gs → gates_operator O gs ≡ root_to O (gates_phase gs) ⊠ turns O (flush n gs)
  unfolding flush
  gates-turns [] v = sym (O.one_left O.one)
  gates-turns (g ∷ gs) v =
      ap₂ (λ a b. a ⊠ b) (gates-turns gs v.1) (gate-turns O g v.0) ∙ root_past O (root_to O (gates_phase gs) ⊠ turns O (flush n gs)) (gate_phase O g) (turns O (written n g))
      ∙ ap (λ a. root_to O (gate_phase O g) ⊠ a) (O.times_assoc (root_to O (gates_phase gs)) (turns O (flush n gs)) (turns O (written n g)))
      ∙ root_add O (gate_phase O g) (gates_phase gs) (turns O (flush n gs) ⊠ turns O (written n g))
      ∙ ap (λ a. root_to O (gate_phase O g + gates_phase gs) ⊠ a) (sym (turns-append O (written n g) (flush n gs)))

  pub root_round : (k : ℕ) (a : O.Op) → root_to O (7 * k) ⊠ (root_to O k ⊠ a) ≡ a
  root_round k a = let e : 7 * k + k ≡ 8 * k = omega arith in root_add O (7 * k) k a ∙ ap (λ j. root_to O j ⊠ a) e ∙ go k
    where
      go : (k : ℕ) → root_to O (8 * k) ⊠ a ≡ a
      go zero = O.one_left a
      go (suc k) = let e : 8 * suc k ≡ 8 + 8 * k = omega arith in ap (λ j. root_to O j ⊠ a) e ∙ sym (root_add O 8 (8 * k) a) ∙ root-8 O (root_to O (8 * k) ⊠ a) ∙ go k

  pub as_gates : (gs : List Gate) → AllValid n gs → (k : ℕ) (b : O.Op) → root_to O k ⊠ (turns O (flush n gs) ⊠ b) ≡ root_to O (k + 7 * gates_phase gs) ⊠ (gates_operator O gs ⊠ b)
  as_gates gs v k b =
      ap (λ a. root_to O k ⊠ a) (sym (root_round (gates_phase gs) (turns O (flush n gs) ⊠ b))
      ∙ ap (λ a. root_to O (7 * gates_phase gs) ⊠ a) (sym (O.times_assoc (root_to O (gates_phase gs)) (turns O (flush n gs)) b) ∙ ap (λ a. a ⊠ b) (sym (gates-turns gs v))))
      ∙ root_add O k (7 * gates_phase gs) (gates_operator O gs ⊠ b)

  -- ---- the inverse

  pub undo : List Gate → O.Op
  undo gs = root_to O (7 * gates_phase gs) ⊠ backwards O (flush n gs)

  pub undone_left : (gs : List Gate) → AllValid n gs → undo gs ⊠ gates_operator O gs ≡ O.one
  unfolding undo
  undone_left gs v =
      O.times_assoc (root_to O (7 * gates_phase gs)) (backwards O (flush n gs)) (gates_operator O gs)
      ∙ ap (λ a. root_to O (7 * gates_phase gs) ⊠ a) (ap (λ a. backwards O (flush n gs) ⊠ a) (gates-turns gs v) ∙ root_past O (backwards O (flush n gs)) (gates_phase gs) (turns O (flush n gs)))
      ∙ root_round (gates_phase gs) (backwards O (flush n gs) ⊠ turns O (flush n gs)) ∙ backwards-left O (flush n gs) (plain-flush O gs v)

  pub undone_right : (gs : List Gate) → AllValid n gs → gates_operator O gs ⊠ undo gs ≡ O.one
  unfolding undo
  undone_right gs v =
      root_past O (gates_operator O gs) (7 * gates_phase gs) (backwards O (flush n gs))
      ∙ ap (λ a. root_to O (7 * gates_phase gs) ⊠ a) (ap (λ a. a ⊠ backwards O (flush n gs)) (gates-turns gs v) ∙ O.times_assoc (root_to O (gates_phase gs)) (turns O (flush n gs)) (backwards O (flush n gs)))
      ∙ root_round (gates_phase gs) (turns O (flush n gs) ⊠ backwards O (flush n gs)) ∙ backwards-right O (flush n gs) (plain-flush O gs v)

  -- ---- what they carry

  pub row_past : (gs : List Gate) → AllValid n gs → (P : Row) → Width n P → O.read P ⊠ gates_operator O gs ≡ gates_operator O gs ⊠ O.read (back gs P)
  unfolding back
  row_past [] v P w = O.one_right (O.read P) ∙ sym (O.one_left (O.read P))
  row_past (g ∷ gs) v P w =
      sym (O.times_assoc (O.read P) (gates_operator O gs) (gate_operator O g)) ∙ ap (λ a. a ⊠ gate_operator O g) (row_past gs v.1 P w)
      ∙ O.times_assoc (gates_operator O gs) (O.read (back gs P)) (gate_operator O g)
      ∙ ap (λ a. gates_operator O gs ⊠ a) (by_gate O g v.0 (back gs P) (conj (inverse g) (back gs P)) ((hom-back n gs v.1).width P w) refl)
      ∙ sym (O.times_assoc (gates_operator O gs) (gate_operator O g) (O.read (conj (inverse g) (back gs P))))

  pub turn-past : (gs : List Gate) → AllValid n gs → (k : ℕ) (P : Row) → Width n P → turn O k P ⊠ gates_operator O gs ≡ gates_operator O gs ⊠ turn O k (back gs P)
  turn-past gs v k P w = turn-carried O (gates_operator O gs) P (back gs P) (row_past gs v P w) k

  pub turns-exchange : (P : Row) → Width n P → real P.phase ≡ true → (j : ℕ) → j % 2 ≡ 0 → (k : ℕ) (Q : Row) → Width n Q
      → turn O k (rotate j P Q) ⊠ turn O j P ≡ turn O j P ⊠ turn O k Q
  turns-exchange P wP r j e k Q wQ = turn-carried O (turn O j P) (rotate j P Q) Q (rotate-carried O P wP r j e Q wQ) k
