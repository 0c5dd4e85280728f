-- The rows of a table after more gates, by what these make of X and Z; and which gates leave the table.
use mathlib.Core.Path.{fun_ext, ◌≡◌, refl, ap, sym, ◌∙◌, subst}
use mathlib.Core.Logic.{◌≢◌}
use mathlib.Core.List.{List, [], ◌∷◌, ◌++◌}
use Prim.Native.Nat.{ℕ, ◌<◌}
use native.Mathlib.Omega.{arith}
use lib.ListN.{get_or}
use lib.Seq.{ext_get_or}
use Rattle.pauli.specs.Letters.{X, Z}
use Rattle.pauli.specs.Rows.{Row, Width, identity, single}
use Rattle.pauli.specs.Gates.{rule_h, Gate, gate_h, Valid, AllValid, conj, inverse, back}
use Rattle.pauli.specs.Table.{x_row, z_row, step, run, table}
use Rattle.pauli.proofs.Conj.{conj-undo, back-snoc}
use Rattle.pauli.proofs.Short.{width-single, act₁-single, act₁-other}
use Rattle.pauli.proofs.Table.{Holds, table-rows, table-snoc, place}

pub valid_append : (n : ℕ) (gs hs : List Gate) → AllValid n gs → AllValid n hs → AllValid n (gs ++ hs)
valid_append n [] hs v w = w
valid_append n (g ∷ gs) hs v w = (v.0, valid_append n gs hs v.1 w)

-- the rows after gs, then hs
pub rows_after : (n : ℕ) (gs hs : List Gate) → AllValid n gs → AllValid n hs → Holds n (λ P. back gs (back hs P)) (run n hs (table n gs))
unfolding run back
rows_after n gs [] v w = table-rows n gs v
rows_after n gs (h ∷ hs) v w =
    subst (λ t. Holds n (λ P. back gs (conj (inverse h) (back hs P))) (run n hs t)) (table-snoc n gs h)
    (subst (λ f. Holds n f (run n hs (table n (gs ++ h ∷ [])))) (fun_ext (λ P. back-snoc gs h (back hs P)))
    (rows_after n (gs ++ h ∷ []) hs (valid_append n gs (h ∷ []) v (w.0, tt)) w.1))

module _ (n : ℕ) (gs : List Gate) (v : AllValid n gs) where
  abbrev t : List Row
  t = table n gs

  -- the z row of q, where hs take its Z to P
  pub z_after_lem : (hs : List Gate) → AllValid n hs → (q : ℕ) → q < n → (P : Row) → back hs (single n q Z) ≡ P → z_row n (run n hs t) q ≡ back gs P
  z_after_lem hs w q hq P e = (rows_after n gs hs v w).at_z q hq ∙ ap (back gs) e

  -- gates that together do nothing leave the table
  pub table-left : (hs : List Gate) → AllValid n hs → ((P : Row) → Width n P → back hs P ≡ P) → run n hs t ≡ t
  table-left hs w nothing = ext_get_or (identity n) (run n hs t) t (after.size ∙ sym before.size)
      (λ i lt. place n (λ i. get_or (run n hs t) i (identity n) ≡ get_or t i (identity n))
      (λ q hq. after.at_x q hq ∙ ap (back gs) (nothing _ (width-single n q X)) ∙ sym (before.at_x q hq))
      (λ q hq. after.at_z q hq ∙ ap (back gs) (nothing _ (width-single n q Z)) ∙ sym (before.at_z q hq))
      i (omega (arith, after.size)))
    where
      before : Holds n (back gs) t
      before = table-rows n gs v

      after : Holds n (λ P. back gs (back hs P)) (run n hs t)
      after = rows_after n gs hs v w

  -- a gate that is its own inverse, twice
  pub twice_left : (g : Gate) → Valid n g → inverse g ≡ g → step n g (step n g t) ≡ t
  unfolding run back
  twice_left g h same = table-left (g ∷ g ∷ []) (h, (h, tt)) (λ P w. ap (λ f. conj f (conj (inverse g) P)) same ∙ conj-undo n g P h w)

  -- ---- h: the z row of its qubit is the x row from before, and the others stay

  pub h_turned : (q : ℕ) → q < n → z_row n (step n (gate_h q) t) q ≡ x_row n t q
  unfolding run back conj
  h_turned q hq = z_after_lem (gate_h q ∷ []) (hq, tt) q hq _ (act₁-single rule_h n q Z hq) ∙ sym ((table-rows n gs v).at_x q hq)

  pub h_kept : (q j : ℕ) → q < n → j < n → j ≢ q → z_row n (step n (gate_h q) t) j ≡ z_row n t j
  unfolding run back conj
  h_kept q j hq hj ne = z_after_lem (gate_h q ∷ []) (hq, tt) j hj _ (act₁-other rule_h refl n q j Z hq ne) ∙ sym ((table-rows n gs v).at_z j hj)
