-- E4 of document 02: the thirteen gates of ccz, and the fifteen of ccx, write the seven rotations in another order and leave the table.
use mathlib.Core.Path.{◌≡◌, refl, ap, sym, ◌∙◌, subst}
use mathlib.Core.Logic.{◌≢◌}
use mathlib.Core.Bool.{false}
use mathlib.Core.List.Perm
use mathlib.Core.List.{List, [], ◌∷◌, ◌++◌, map, append_assoc, Perm, perm_middle}
use Prim.Native.Nat.{ℕ, ◌<◌}
use lib.ListN.{get_or}
use Rattle.pauli.specs.Rows.{Row}
use Rattle.pauli.specs.Gates.{Gate, gate_h, gate_x, AllValid}
use Rattle.pauli.specs.Table.{start, x_row, z_row, step, run, table}
use Rattle.pauli.specs.Doubly.{term, seven_rows}
use Rattle.pauli.specs.SixCnots.{SevenMet}
use Rattle.pauli.proofs.Table.{table-snoc}
use Rattle.pauli.proofs.MoreGates.{valid_append, twice_left, h_turned, h_kept}
use Rattle.pauli.proofs.Theorems.{six_cnots}
use Rattle.convert.specs.Types.{Phase, One, MinusOne, Pauli, I, X, Z}
use Rattle.convert.specs.Records.{kind_of, lower, lower_as, Elementary, el_ccx, el_ccz, placed, From, from}
use Rattle.convert.specs.Plain.{Plain, plain_of, Operation, rotate_by, along, rotate_seven, exceeds, adds, perform_as, plain_step, plain_run}
use Rattle.convert.specs.Thirteen.{thirteen, fifteen, order, reordered, turns_along, uncapped, AsSeven, InPlaceOf, ThirteenAsSeven, ThirteenInPlace}

-- t and tdg turn about the rows that they meet between the six cnots
written-along : (n i a b d : ℕ) (p : Plain) → SevenMet n a b d p.table
    → AsSeven n i (thirteen a b d) (z_row n p.table a) (z_row n p.table b) (z_row n p.table d) p
unfolding lower lower_as kind_of run exceeds perform_as plain_step plain_run
written-along n i a b d p M = record {
  operations = simp append_assoc (λ k. p.operations ++ map (from i) (
      rotate_by 7 (M.row_bd k) ∷ rotate_by 1 (M.row_abd k) ∷ rotate_by 7 (M.row_ad k) ∷ rotate_by 1 (M.row_b k) ∷ rotate_by 1 (M.row_d k)
      ∷ rotate_by 1 (M.row_a k) ∷ rotate_by 7 (M.row_ab k) ∷ []));
  table_same = M.table_same;
  given_same = refl;
}

module _ (n i a b d : ℕ) (ha : a < n) (hb : b < n) (hd : d < n) (ab : a ≢ b) (ad : a ≢ d) (bd : b ≢ d) where
  met : (gs : List Gate) → AllValid n gs → (t : List Row) → t ≡ table n gs → SevenMet n a b d t
  met gs v t e = subst (SevenMet n a b d) (sym e) (six_cnots n gs v a b d ha hb hd ab ad bd)

  module _ (gs : List Gate) (v : AllValid n gs) (p : Plain) (e : p.table ≡ table n gs) where
    ccz_as_seven : AsSeven n i (thirteen a b d) (z_row n p.table a) (z_row n p.table b) (z_row n p.table d) p
    ccz_as_seven = written-along n i a b d p (met gs v p.table e)

    -- after h on d, which is the first part of record i
    turned : Plain
    turned = plain_of (step n (gate_h d) p.table) (p.pending ++ placed i 0 (gate_h d) ∷ []) p.operations p.given

    table-turned : turned.table ≡ table n (gs ++ gate_h d ∷ [])
    unfolding turned
    table-turned = ap (step n (gate_h d)) e ∙ sym (table-snoc n gs (gate_h d))

    between : AsSeven n i (thirteen a b d) (z_row n turned.table a) (z_row n turned.table b) (z_row n turned.table d) turned
    between = written-along n i a b d turned (met (gs ++ gate_h d ∷ []) (valid_append n gs (gate_h d ∷ []) v (hd, tt)) turned.table table-turned)

    ccx_as_seven : AsSeven n i (fifteen a b d) (z_row n p.table a) (z_row n p.table b) (x_row n p.table d) p
    unfolding lower lower_as kind_of turned exceeds perform_as plain_step plain_run
    ccx_as_seven = record {
      operations = between.operations ∙ (λ k. p.operations ++ map (from i) (turns_along reordered (row-a k) (row-b k) (row-d k)));
      table_same = ap (step n (gate_h d)) between.table_same ∙ twice;
      given_same = between.given_same;
    }
      where
        row-a : z_row n (step n (gate_h d) p.table) a ≡ z_row n p.table a
        row-a = rw e (h_kept n gs v d a hd ha ad)

        row-b : z_row n (step n (gate_h d) p.table) b ≡ z_row n p.table b
        row-b = rw e (h_kept n gs v d b hd hb bd)

        row-d : z_row n (step n (gate_h d) p.table) d ≡ x_row n p.table d
        row-d = rw e (h_turned n gs v d hd)

        twice : step n (gate_h d) (step n (gate_h d) p.table) ≡ p.table
        twice = rw e (twice_left n gs v (gate_h d) hd refl)

pub as_seven : ThirteenAsSeven
as_seven n i gs v a b d ha hb hd ab ad bd p e =
    (ccz_as_seven n i a b d ha hb hd ab ad bd gs v p e, ccx_as_seven n i a b d ha hb hd ab ad bd gs v p e)

-- ---- the order

-- an element moved to the front
picked : (before after : List ℕ) (k : ℕ) {l : List ℕ} → Perm (before ++ after) l → Perm (before ++ k ∷ after) (k ∷ l)
picked before after k p = Perm.trans (perm_middle before after) (Perm.cons k p)

pub each_place : Perm order (0 ∷ 1 ∷ 2 ∷ 3 ∷ 4 ∷ 5 ∷ 6 ∷ [])
each_place = Perm.symm (
    picked (0 ∷ 1 ∷ 2 ∷ 3 ∷ 4 ∷ []) (6 ∷ []) 5 (picked (0 ∷ 1 ∷ 2 ∷ 3 ∷ 4 ∷ []) [] 6 (picked (0 ∷ 1 ∷ 2 ∷ 3 ∷ []) [] 4
    (picked (0 ∷ []) (2 ∷ 3 ∷ []) 1 (picked (0 ∷ []) (3 ∷ []) 2 (Perm.refl (0 ∷ 3 ∷ [])))))))

-- so the rows at these places are the seven
pub seven-reordered : Perm reordered seven_rows
seven-reordered = Perm.map (λ j. get_or seven_rows j (term false false false 0)) each_place

pub turns-reordered : (A B D : Row) → Perm (turns_along reordered A B D) (rotate_seven A B D)
turns-reordered A B D = Perm.map (λ t. rotate_by t.angle (along A B D t)) seven-reordered

-- ---- ccz and ccx themselves

in_place : (n i : ℕ) (e : Elementary) (es : List Elementary) (A B D : Row) (p : Plain) → AsSeven n i es A B D p
    → uncapped n i (e ∷ []) p ≡ adds i p (rotate_seven A B D) → InPlaceOf n i e es p
in_place n i e es A B D p S whole = record {
  operations = rw (S.operations, whole) (Perm.append_left p.operations (Perm.map (from i) (turns-reordered A B D)));
  table_same = S.table_same ∙ ap (λ r. r.table) (sym whole);
  given_same = S.given_same ∙ ap (λ r. r.given) (sym whole);
}

pub in_place_of : ThirteenInPlace
unfolding exceeds perform_as plain_step plain_run
in_place_of n i gs v a b d ha hb hd ab ad bd p e =
    let S = as_seven n i gs v a b d ha hb hd ab ad bd p e in
    (in_place n i (el_ccz a b d) (thirteen a b d) _ _ _ p S.0 refl, in_place n i (el_ccx a b d) (fifteen a b d) _ _ _ p S.1 refl)

-- ---- an example: after x 1 the z row of qubit 1 is -Z; ccz 0 1 2 and ccx 0 1 2 as record 5

abbrev flipped : Plain
flipped = plain_of (table 3 (gate_x 1 ∷ [])) [] [] 0

abbrev turn : ℕ → Phase → List Pauli → From Operation
turn k s us = from 5 (rotate_by k (record { letters = us; phase = s }))

ccz-flipped : (uncapped 3 5 (thirteen 0 1 2) flipped).operations
    ≡ turn 7 MinusOne (I ∷ Z ∷ Z ∷ []) ∷ turn 1 MinusOne (Z ∷ Z ∷ Z ∷ []) ∷ turn 7 One (Z ∷ I ∷ Z ∷ []) ∷ turn 1 MinusOne (I ∷ Z ∷ I ∷ [])
    ∷ turn 1 One (I ∷ I ∷ Z ∷ []) ∷ turn 1 One (Z ∷ I ∷ I ∷ []) ∷ turn 7 MinusOne (Z ∷ Z ∷ I ∷ []) ∷ []
unfolding lower lower_as kind_of table run step start exceeds perform_as plain_step plain_run
ccz-flipped = refl

ccx-flipped : (uncapped 3 5 (fifteen 0 1 2) flipped).operations
    ≡ turn 7 MinusOne (I ∷ Z ∷ X ∷ []) ∷ turn 1 MinusOne (Z ∷ Z ∷ X ∷ []) ∷ turn 7 One (Z ∷ I ∷ X ∷ []) ∷ turn 1 MinusOne (I ∷ Z ∷ I ∷ [])
    ∷ turn 1 One (I ∷ I ∷ X ∷ []) ∷ turn 1 One (Z ∷ I ∷ I ∷ []) ∷ turn 7 MinusOne (Z ∷ Z ∷ I ∷ []) ∷ []
unfolding lower lower_as kind_of table run step start exceeds perform_as plain_step plain_run
ccx-flipped = refl
