-- What a node decoded from words promises: its qubit is in range, its letter is not I, and its children are older.
use mathlib.Core.Path.{◌≡◌, refl}
use mathlib.Core.Logic.{◌≢◌}
use mathlib.Core.Bool.{Bool, true, false, cond, ◌&&◌}
use mathlib.Core.List.{List}
use Prim.Native.Nat.{ℕ, zero, suc, ◌+◌, ◌*◌, ◌/◌, ◌%◌, ◌≤◌, ◌<◌}
use native.Mathlib.Nat.{not-suc-le-zero}
use native.Mathlib.Omega.{arith}
use borrow.Author.Tests.{ltb-true, leb-true}
use lib.Dec.{leb, ltb, eqb}
use lib.ListN.{get_or}
use Rattle.pauli.specs.Letters.{pauli_of}
use Rattle.arena.specs.Types.{I}
use Rattle.arena.specs.References.{node_in}
use Rattle.arena.specs.Nodes.{PauliNode, Identity, Single, Product, Malformed, decode_as, decode, node_at}
use Rattle.arena.proofs.NodeRows.{Older, older, both_true}

-- node i of n qubits
abbrev pub Fits : ℕ → ℕ → PauliNode → Type 0
Fits n i Identity = Unit {0}
Fits n i (Single q a) = (q < n) × (a ≢ I)
Fits n i (Product l r) = (node_in l < i) × (node_in r < i)
Fits n i Malformed = Unit {0}

pub fits-older : (n i : ℕ) (x : PauliNode) → Fits n i x → Older i x
fits-older n i Identity f = tt
fits-older n i (Single q a) f = tt
fits-older n i (Product l r) f = f
fits-older n i Malformed f = tt

abbrev Placed : ℕ → PauliNode → Type 0
Placed n Identity = Unit {0}
Placed n (Single q a) = (q < n) × (a ≢ I)
Placed n (Product l r) = Unit {0}
Placed n Malformed = Unit {0}

older-placed : (n i : ℕ) (x : PauliNode) → Older i x → Placed n x → Fits n i x
older-placed n i Identity o p = tt
older-placed n i (Single q a) o p = p
older-placed n i (Product l r) o p = o
older-placed n i Malformed o p = tt

placed-cond : (b : Bool) (n : ℕ) (x : PauliNode) → (b ≡ true → Placed n x) → Placed n (cond b x Malformed)
placed-cond true n x h = h refl
placed-cond false n x h = tt

letter_some : (k : ℕ) → 1 ≤ k → k ≤ 3 → pauli_of k ≢ I
letter_some zero h l = absurd (not-suc-le-zero h)
letter_some (suc zero) h l = λ e. let z : ◌≡◌ {A = ℕ} 0 1 = cc in omega arith
letter_some (suc (suc zero)) h l = λ e. let z : ◌≡◌ {A = ℕ} 0 1 = cc in omega arith
letter_some (suc (suc (suc zero))) h l = λ e. let z : ◌≡◌ {A = ℕ} 0 1 = cc in omega arith
letter_some (suc (suc (suc (suc k)))) h l = absurd (omega arith)

placed_as : (k n i rest b : ℕ) → Placed n (decode_as k n i rest b)
placed_as zero n i rest b = placed-cond (eqb rest 0 && eqb b 0) n Identity (λ e. tt)
placed_as (suc zero) n i rest b = placed-cond (leb 1 rest && leb rest 3 && ltb b n) n (Single b (pauli_of rest))
    (λ e. let p = both_true (leb 1 rest && leb rest 3) (ltb b n) e in
    let q = both_true (leb 1 rest) (leb rest 3) p.0 in
    (ltb-true b n p.1, letter_some rest (leb-true 1 rest q.0) (leb-true rest 3 q.1)))
placed_as (suc (suc zero)) n i rest b = placed-cond (ltb (node_in rest) i && ltb (node_in b) i) n (Product rest b) (λ e. tt)
placed_as (suc (suc (suc k))) n i rest b = tt

placed : (n : ℕ) (words : List ℕ) (i : ℕ) → Placed n (node_at n words i)
unfolding node_at decode
placed n words i = placed_as (get_or words (2 * i) 0 % 4) n i (get_or words (2 * i) 0 / 4) (get_or words (2 * i + 1) 0)

pub node_fits : (n : ℕ) (words : List ℕ) (i : ℕ) → Fits n i (node_at n words i)
node_fits n words i = older-placed n i (node_at n words i) (older n words i) (placed n words i)
