-- E4 of document 02: ccz as thirteen gates whose axes are short, and ccx as fifteen. Without a cap they write what ccz and ccx write, in another order;
-- under a cap of 1 or 2 a conversion is that of the list in which they stand.
use Rattle.std.specs.Prelude.{◌≡◌, ◌≢◌, true, false, ℕ, ◌<◌, ◌≤◌, length, get_or, take}
use mathlib.Core.List.{List, [], ◌∷◌, ◌++◌, map, Perm}
use Rattle.pauli.specs.Rows.{Row}
use Rattle.pauli.specs.Gates.{Gate, AllValid}
use Rattle.pauli.specs.Table.{x_row, z_row, table}
use Rattle.pauli.specs.Doubly.{Term, term, seven_rows}
use Rattle.convert.specs.Records.{NoCap, is_narrow, Record, records, expanded, thirteen_of, fifteen_of, lower_parts, Elementary, el_ccx, el_ccz, placed_from, from}
use Rattle.convert.specs.Types.{Fine}
use Rattle.convert.specs.Plain.{Plain, Operation, rotate_by, along, flush_from, plain_run}
use Rattle.convert.specs.Conversion.{Input, input_of, plain_end, table_end, word_end, max_gate_words, limits, convert_check, convert_step}

-- ccz a b d
abbrev pub thirteen : ℕ → ℕ → ℕ → List Elementary
thirteen a b d = lower_parts (thirteen_of a b d)

-- ccx a b d
abbrev pub fifteen : ℕ → ℕ → ℕ → List Elementary
fifteen a b d = lower_parts (fifteen_of a b d)

-- ---- the seven rotations, reordered

-- the places in `seven_rows` of the rows that the thirteen gates write: bd, abd, ad, b, d, a, ab
abbrev pub order : List ℕ
order = 5 ∷ 6 ∷ 4 ∷ 1 ∷ 2 ∷ 0 ∷ 3 ∷ []

abbrev pub reordered : List Term
reordered = map (λ j. get_or seven_rows j (term false false false 0)) order

-- rotations along the marked products of the rows a, b and d; along `seven_rows` they are `rotate_seven`
abbrev pub turns_along : List Term → Row → Row → Row → List Operation
turns_along ts a b d = map (λ t. rotate_by t.angle (along a b d t)) ts

-- ---- what is claimed

-- what the gates es of record i make of p without a cap
abbrev pub uncapped : ℕ → ℕ → List Elementary → Plain → Plain
uncapped n i es p = plain_run flush_from n NoCap (placed_from i 0 es) p

-- they add the seven rotations along the rows A, B and D, each with the index i, and leave table and measurements
pub record AsSeven (n i : ℕ) (es : List Elementary) (A B D : Row) (p : Plain) : Type 0 where
  pub operations : (uncapped n i es p).operations ≡ p.operations ++ map (from i) (turns_along reordered A B D)
  pub table_same : (uncapped n i es p).table ≡ p.table
  pub given_same : (uncapped n i es p).given ≡ p.given

-- they give what gate e gives: the same operations, perhaps reordered, the same table and measurements
pub record InPlaceOf (n i : ℕ) (e : Elementary) (es : List Elementary) (p : Plain) : Type 0 where
  pub operations : Perm (uncapped n i es p).operations (uncapped n i (e ∷ []) p).operations
  pub table_same : (uncapped n i es p).table ≡ (uncapped n i (e ∷ []) p).table
  pub given_same : (uncapped n i es p).given ≡ (uncapped n i (e ∷ []) p).given

-- for every record i, every table that Clifford gates can give, and three different qubits
abbrev pub ForEveryFrame : ((n i a b d : ℕ) → Plain → Type 0) → Type 0
ForEveryFrame Claim = (n i : ℕ) (gs : List Gate) → AllValid n gs → (a b d : ℕ) → a < n → b < n → d < n → a ≢ b → a ≢ d → b ≢ d
    → (p : Plain) → p.table ≡ table n gs → Claim n i a b d p

-- ccz along the z rows of a, b and d; ccx along the z rows of a and b and the x row of d
abbrev pub ThirteenAsSeven : Type 0
ThirteenAsSeven = ForEveryFrame (λ n i a b d p.
    AsSeven n i (thirteen a b d) (z_row n p.table a) (z_row n p.table b) (z_row n p.table d) p
    × AsSeven n i (fifteen a b d) (z_row n p.table a) (z_row n p.table b) (x_row n p.table d) p)

abbrev pub ThirteenInPlace : Type 0
ThirteenInPlace = ForEveryFrame (λ n i a b d p. InPlaceOf n i (el_ccz a b d) (thirteen a b d) p × InPlaceOf n i (el_ccx a b d) (fifteen a b d) p)

-- ---- under a cap of 1 or 2

-- the words of records
abbrev pub words_of : List Record → List ℕ
words_of [] = []
words_of (r ∷ rs) = r.kind ∷ r.a ∷ r.b ∷ r.c ∷ words_of rs

-- the same conversion of the list in which each ccx and ccz is replaced by its gates
abbrev pub replaced : Input → Input
replaced x =
    input_of x.qubits x.cbits x.owner x.cap (words_of (expanded true (records x.gates))) x.nodes x.operations x.frame x.planes

-- two conversions end with the same nodes, frame words, plain table and measurements, and with the same operations but for their last words, which name
-- gate records
pub record SameWords (x y : Input) : Type 0 where
  pub nodes_and_frame : (word_end x).arena ≡ (word_end y).arena
  pub operations : map (take 4) (word_end x).ops ≡ map (take 4) (word_end y).ops
  pub table_same : table_end x ≡ table_end y
  pub measurements : (plain_end x).given ≡ (plain_end y).given

-- what is lent and is not an operation is left alike
pub record SameLeft (x y : Input) : Type 0 where
  pub answer : (convert_step x).answer ≡ (convert_step y).answer
  pub nodes : (convert_step x).nodes ≡ (convert_step y).nodes
  pub frame : (convert_step x).frame ≡ (convert_step y).frame
  pub planes : (convert_step x).planes ≡ (convert_step y).planes

-- where the first is accepted, so is the second, if its list is no longer than a list may be
pub record AsReplaced (x : Input) : Type 0 where
  pub words : SameWords x (replaced x)
  pub accepted : convert_check limits x ≡ Fine → length (replaced x).gates ≤ max_gate_words → convert_check limits (replaced x) ≡ Fine
  pub left : convert_check limits x ≡ Fine → convert_check limits (replaced x) ≡ Fine → SameLeft x (replaced x)

abbrev pub NarrowAsReplaced : Type 0
NarrowAsReplaced = (x : Input) → is_narrow x.cap ≡ true → AsReplaced x
