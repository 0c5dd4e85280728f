-- What the two numbers of a weight report are, by the images of the axes.
use Rattle.std.specs.Prelude.{◌≡◌, Bool, true, List, ℕ, ◌≤◌, ◌<◌}
use Rattle.pauli.specs.Rows.{weight}
use Rattle.arena.specs.Nodes.{image}
use Rattle.arena.specs.Operations.{AxisKind, axis_kind}
use Rattle.arena.specs.Store.{Header}
use Rattle.arena.specs.Expansion.{op_at, axis_word}

module _ (h : Header) (nodes ops : List ℕ) where
  abbrev pub kind_at : ℕ → AxisKind
  kind_at i = axis_kind (op_at h ops i)

  -- the weight of operation i's axis
  abbrev pub weight_at : ℕ → ℕ
  weight_at i = weight (image h.qubits h.nodes nodes (axis_word (op_at h ops i))).letters

  -- the largest weight of an operation whose kind counts, 0 where there is none
  pub record Largest (counts : AxisKind → Bool) (most : ℕ) : Type 0 where
    pub bounds : (i : ℕ) → i < h.operations → counts (kind_at i) ≡ true → weight_at i ≤ most
    pub reached : (most ≡ 0 → ⊥) → (i : ℕ) × (i < h.operations) × (counts (kind_at i) ≡ true) × (weight_at i ≡ most)
