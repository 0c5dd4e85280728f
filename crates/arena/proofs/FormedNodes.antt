-- Nodes tested by their words: what is malformed, and products that need no second look.
use mathlib.Core.Path.{◌≡◌, refl, ap, ap₂, sym, ◌∙◌}
use mathlib.Core.Bool.{Bool, true, false, cond, ◌||◌, ◌&&◌, not}
use mathlib.Core.List.{List}
use Prim.Native.Nat.{ℕ, zero, suc, ◌+◌, ◌*◌, ◌/◌, ◌%◌, ◌≤◌}
use native.Mathlib.Omega.{arith}
use borrow.Author.Tests.{ne_eqb, ltb-false}
use lib.Dec.{leb, ltb, eqb}
use lib.ListN.{get_or}
use Rattle.arena.specs.References.{node_in}
use Rattle.arena.specs.Nodes.{PauliNode, Malformed, decode_as, decode, node_at}
use Rattle.arena.specs.Store.{Header, breaks_limit, exceeds_nodes}
use Rattle.arena.specs.Expansion.{is_malformed, any_malformed}
use Rattle.arena.specs.Code.Stored.{is_product, is_single, is_identity}
use Rattle.arena.proofs.Accepted.{left_false, right-false, sound}
use Rattle.arena.proofs.NodeRows.{both_true}

-- a test beside one that fails
pub or-false : (t : Bool) → t ≡ (t || false)
or-false true = refl
or-false false = refl

unless : (t : Bool) (x : PauliNode) → is_malformed x ≡ false → is_malformed (cond t x Malformed) ≡ not t
unless true x e = e
unless false x e = refl

by_kind : (k n i rest b : ℕ) → is_malformed (decode_as k n i rest b)
    ≡ not ((eqb k 2 && ltb (node_in rest) i && ltb (node_in b) i) || (eqb k 1 && leb 1 rest && leb rest 3 && ltb b n) || (eqb k 0 && eqb rest 0 && eqb b 0))
by_kind zero n i rest b = unless (eqb rest 0 && eqb b 0) _ refl
by_kind (suc zero) n i rest b = let t = leb 1 rest && leb rest 3 && ltb b n in unless t _ refl ∙ ap not (or-false t)
by_kind (suc (suc zero)) n i rest b = let t = ltb (node_in rest) i && ltb (node_in b) i in unless t _ refl ∙ ap not (or-false t ∙ or-false (t || false))
by_kind (suc (suc (suc k))) n i rest b = rw (ne_eqb (suc (suc (suc k))) 2 (λ e. omega arith), ne_eqb (suc (suc (suc k))) 1 (λ e. omega arith), ne_eqb (suc (suc (suc k))) 0 (λ e. omega arith))

pub malformed_words : (n i a b : ℕ) → is_malformed (decode n i a b) ≡ not (is_product i a b || is_single n a b || is_identity a b)
unfolding decode
malformed_words n i a b = by_kind (a % 4) n i (a / 4) b

pub product_words : (n i a b : ℕ) → is_product i a b ≡ true → is_malformed (decode n i a b) ≡ false
product_words n i a b e = malformed_words n i a b ∙ rw e

-- one node more, read from its two words
pub malformed_more : (n i at : ℕ) (words : List ℕ) (any more : Bool) → at ≡ 2 * i → any ≡ any_malformed (node_at n words) i
    → more ≡ is_malformed (decode n i (get_or words at 0) (get_or words (at + 1) 0)) → (any || more) ≡ any_malformed (node_at n words) (suc i)
unfolding node_at
malformed_more n i at words any more place before this = ap₂ ◌||◌ before (this ∙ rw place)

-- a product more decides nothing
pub products_more : (n i at : ℕ) (words : List ℕ) (all this from : Bool) → at ≡ 2 * i → (all ≡ true → from ≡ any_malformed (node_at n words) i)
    → this ≡ is_product i (get_or words at 0) (get_or words (at + 1) 0) → (all && this) ≡ true → from ≡ any_malformed (node_at n words) (suc i)
products_more n i at words all this from place before told e =
    let both = both_true all this e in
    before both.0 ∙ or-false _ ∙ malformed_more n i at words _ false place refl (sym (product_words n i (get_or words at 0) (get_or words (at + 1) 0) (sym told ∙ both.1)))

-- what is known past the tests of the header
pub lent_enough : (h : Header) (len : ℕ) → (breaks_limit h || exceeds_nodes h len) ≡ false → (h.qubits ≤ 256) × (2 * h.nodes ≤ len)
unfolding exceeds_nodes
lent_enough h len e = ((sound h (left_false (breaks_limit h) _ e)).qubits, ltb-false len (2 * h.nodes) (right-false (breaks_limit h) _ e))
