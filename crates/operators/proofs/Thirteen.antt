-- The thirteen gates of ccz, and the fifteen of ccx, are these operators up to a power of the root.
use mathlib.Core.Path.{◌≡◌, refl, ap, sym, ◌∙◌, subst}
use mathlib.Core.Bool.{Bool, true}
use mathlib.Core.Logic.{◌≢◌}
use mathlib.Core.List.{List, [], ◌∷◌, ◌++◌}
use Prim.Native.Nat.{ℕ, ◌+◌, ◌*◌, ◌<◌}
use Rattle.pauli.specs.Letters.{real}
use Rattle.pauli.specs.Rows.{Row, single}
use Rattle.pauli.specs.Gates.{Gate, gate_h, AllValid, back}
use Rattle.pauli.specs.Table.{run, table, z_row}
use Rattle.pauli.specs.Rotations.{flush}
use Rattle.pauli.specs.SixCnots.{six_cnots}
use Rattle.pauli.proofs.Short.{width-single}
use Rattle.pauli.proofs.Table.{table-rows}
use Rattle.convert.specs.Records.{kind_of, Elementary, thirteen_of, fifteen_of, lower, lower_as, lower_parts, placed_from, bare, without_index, AllProper}
use Rattle.convert.specs.Plain.{Operation, plain_begin, flush_from}
use Rattle.convert.specs.Paper.{Paper, too_heavy, paper_perform, paper_step, paper_run, paper_begin}
use Rattle.convert.specs.Thirteen.{reordered, turns_along, AsSeven}
use Rattle.convert.proofs.Accepted.{bare-placed}
use Rattle.convert.proofs.Thirteen.{as_seven}
use Rattle.convert.proofs.Meaning.Papers.{agrees}
use Rattle.convert.proofs.Meaning.Words.{without_from}
use Rattle.operators.specs.Types.{NoCap, Pauli, X, Z}
use Rattle.operators.specs.Operators.{Operators, root_to}
use Rattle.operators.specs.Textbook.{x_of, z_of, if_one, hadamard_of, gates_operator}
use Rattle.operators.specs.Whole.{operations_operator}
use Rattle.operators.proofs.Elements.{turns, elements_operator}
use Rattle.operators.proofs.Gates.{single-commute, twice, twice_each, doubly_reordered}
use Rattle.operators.proofs.Lowered.{hh}
use Rattle.operators.proofs.Carried.{gates_phase, as_gates, root_round}
use Rattle.operators.proofs.Runs.{value, Run, run_value}

-- the papers' run of gates without a cap
abbrev ran : ℕ → List Elementary → Paper
ran n es = paper_run flush_from n NoCap (placed_from 0 0 es) paper_begin

-- the frame gates that are then left
ccz_since : (n a b d : ℕ) → bare (ran n (lower_parts (thirteen_of a b d))).since ≡ six_cnots a b d
unfolding paper_run paper_step too_heavy paper_perform lower lower_as kind_of
ccz_since n a b d = refl

ccx_since : (n a b d : ℕ) → bare (ran n (lower_parts (fifteen_of a b d))).since ≡ gate_h d ∷ six_cnots a b d ++ gate_h d ∷ []
unfolding paper_run paper_step too_heavy paper_perform lower lower_as kind_of
ccx_since n a b d = refl

module _ {n : ℕ} (O : Operators n) (outcome : ℕ → Bool) where
  infixl 65 ◌⊠◌
  abbrev ◌⊠◌ : O.Op → O.Op → O.Op
  a ⊠ b = O.times a b

  -- an operator is some gates, up to a power of the root
  pub record AsGates (w : O.Op) (es : List Elementary) : Type 0 where
    pub phase : ℕ
    pub same : w ≡ root_to O phase ⊠ elements_operator O outcome 0 es

  begin : value O outcome paper_begin ≡ O.one
  unfolding flush
  begin = O.one_left O.one

  -- where their frame gates are nothing, gates are what they write
  as_written : (c : ℕ) (es : List Elementary) (gs : List Gate) (os : List Operation) (w : O.Op) → AllProper n c es → bare (ran n es).since ≡ gs
      → without_index (ran n es).operations ≡ os → gates_operator O gs ≡ O.one → operations_operator O outcome os ≡ w → AsGates w es
  as_written c es gs os w h eg eo none ew = record { phase = 7 * j; same = sym (ap (λ a. root_to O (7 * j) ⊠ a) there ∙ root_round O j w) }
    where
      R : Run O outcome 0 (placed_from 0 0 es) paper_begin (ran n es)
      R = run_value O outcome c NoCap (placed_from 0 0 es) paper_begin (subst (λ l. AllProper n c l) (sym (bare-placed 0 0 es)) h) tt

      v : AllValid n gs
      v = subst (AllValid n) eg R.valid

      j : ℕ
      j = R.phase + 7 * gates_phase O gs

      there : elements_operator O outcome 0 es ≡ root_to O j ⊠ w
      there =
          sym (O.one_right _) ∙ ap (λ l. elements_operator O outcome 0 l ⊠ O.one) (sym (bare-placed 0 0 es))
          ∙ ap (λ a. elements_operator O outcome 0 (bare (placed_from 0 0 es)) ⊠ a) (sym begin) ∙ R.same
          ∙ (λ i. root_to O R.phase ⊠ (turns O (flush n (eg i)) ⊠ operations_operator O outcome (eo i)))
          ∙ as_gates O gs v R.phase (operations_operator O outcome os)
          ∙ ap (λ a. root_to O j ⊠ a) ((λ i. none i ⊠ ew i) ∙ O.one_left w)

  module _ (a b d : ℕ) (ha : a < n) (hb : b < n) (hd : d < n) (ab : a ≢ b) (ad : a ≢ d) (bd : b ≢ d) where
    abbrev A : Row
    A = single n a Z

    abbrev B : Row
    B = single n b Z

    commutes : (q r : ℕ) (l : Pauli) → q < n → r < n → q ≢ r → O.read (single n q Z) ⊠ O.read (single n r l) ≡ O.read (single n r l) ⊠ O.read (single n q Z)
    commutes q r l hq hr ne = single-commute O q r l hq hr ne

    cnots_each : if_one O a (x_of O d) ⊠ if_one O b (x_of O d) ⊠ (if_one O a (x_of O d) ⊠ if_one O b (x_of O d)) ≡ O.one
    cnots_each = twice_each O A B (width-single n a Z) (width-single n b Z) refl refl (commutes a b Z ha hb ab)
        (single n d X) (width-single n d X) refl (commutes a d X ha hd ad) (commutes b d X hb hd bd)

    cnot-twice : if_one O a (x_of O b) ⊠ if_one O a (x_of O b) ≡ O.one
    cnot-twice = twice O A (single n b X) (width-single n a Z) (width-single n b X) refl refl (commutes a b X ha hb ab)

    -- the six cnots are nothing
    six : (t : O.Op) → t ⊠ if_one O a (x_of O b) ⊠ if_one O a (x_of O b) ⊠ if_one O a (x_of O d) ⊠ if_one O b (x_of O d) ⊠ if_one O a (x_of O d) ⊠ if_one O b (x_of O d) ≡ t
    six t =
        let k = if_one O a (x_of O b) in
        let p = if_one O a (x_of O d) in
        let q = if_one O b (x_of O d) in
        ap (λ s. s ⊠ p ⊠ q ⊠ p ⊠ q) (O.times_assoc t k k ∙ ap (λ s. t ⊠ s) cnot-twice ∙ O.one_right t)
        ∙ O.times_assoc (t ⊠ p ⊠ q) p q ∙ ap (λ s. s ⊠ (p ⊠ q)) (O.times_assoc t p q) ∙ O.times_assoc t (p ⊠ q) (p ⊠ q) ∙ ap (λ s. t ⊠ s) cnots_each ∙ O.one_right t

    -- the seven rotations are ccz and ccx
    seven_of : (l : Pauli) → real (single n d l).phase ≡ true → operations_operator O outcome (turns_along reordered A B (single n d l)) ≡ if_one O a (if_one O b (O.read (single n d l)))
    seven_of l r = sym (doubly_reordered O A B (width-single n a Z) (width-single n b Z) refl refl (commutes a b Z ha hb ab)
        (single n d l) (width-single n d l) r (commutes a d l ha hd ad) (commutes b d l hb hd bd))

    rows : (l : Pauli) (D : Row) → D ≡ single n d l
        → turns_along reordered (z_row n (plain_begin n).table a) (z_row n (plain_begin n).table b) D ≡ turns_along reordered A B (single n d l)
    unfolding plain_begin table run back
    rows l D e = λ i. turns_along reordered ((table-rows n [] tt).at_z a ha i) ((table-rows n [] tt).at_z b hb i) (e i)

    written : (c : ℕ) (es : List Elementary) (D : Row) → AllProper n c es → AsSeven n 0 es (z_row n (plain_begin n).table a) (z_row n (plain_begin n).table b) D (plain_begin n)
        → without_index (ran n es).operations ≡ turns_along reordered (z_row n (plain_begin n).table a) (z_row n (plain_begin n).table b) D
    unfolding plain_begin
    written c es D h S =
        ap (λ os. without_index os) (sym (agrees flush_from n c NoCap (placed_from 0 0 es) (subst (λ l. AllProper n c l) (sym (bare-placed 0 0 es)) h)).operations ∙ S.operations)
        ∙ without_from 0 _

    pub ccz_gates : (c : ℕ) → AllProper n c (lower_parts (thirteen_of a b d)) → AsGates (if_one O a (if_one O b (z_of O d))) (lower_parts (thirteen_of a b d))
    unfolding plain_begin table run back
    ccz_gates c h =
        as_written c (lower_parts (thirteen_of a b d)) (six_cnots a b d) (turns_along reordered A B (single n d Z)) _ h (ccz_since n a b d)
        (written c (lower_parts (thirteen_of a b d)) _ h (as_seven n 0 [] tt a b d ha hb hd ab ad bd (plain_begin n) refl).0 ∙ rows Z _ ((table-rows n [] tt).at_z d hd))
        (six O.one) (seven_of Z refl)

    pub ccx_gates : (c : ℕ) → AllProper n c (lower_parts (fifteen_of a b d)) → AsGates (if_one O a (if_one O b (x_of O d))) (lower_parts (fifteen_of a b d))
    unfolding plain_begin table run back
    ccx_gates c h =
        as_written c (lower_parts (fifteen_of a b d)) (gate_h d ∷ six_cnots a b d ++ gate_h d ∷ []) (turns_along reordered A B (single n d X)) _ h (ccx_since n a b d)
        (written c (lower_parts (fifteen_of a b d)) _ h (as_seven n 0 [] tt a b d ha hb hd ab ad bd (plain_begin n) refl).1 ∙ rows X _ ((table-rows n [] tt).at_x d hd))
        (ap (λ t. t ⊠ hadamard_of O d) (six (O.one ⊠ hadamard_of O d) ∙ O.one_left _) ∙ hh O d hd) (seven_of X refl)
