-- What each function of src/pool.rt needs and promises. A record that a function needs (`Lender`, `Source`, ..) says who holds what before it;
-- what it promises (`Lent`, `Copied`, ..) says who holds what after it, and that every chain of another tag stands as it did.
use Rattle.std.specs.Prelude.{◌≡◌, List, [], ◌∷◌, ℕ, suc, ◌+◌, ◌-◌, ◌<◌, length}
use Rattle.pauli.specs.Letters.{phase_number}
use Rattle.arena.specs.Sparse.{Factor, merge}
use Rattle.arena.specs.Pool.{Who, spare, Chain, Free}
use Rattle.arena.specs.Limits.{cap_of}

-- ---- the start

-- every counted record but record 0 is free
pub record AllFree (p p' : List ℕ) (free : ℕ) : Type 0 where
  pub freed : Free p' spare free (cap_of (length p) - 1)
  pub long : length p' ≡ length p

-- ---- one factor

-- a pool with a free record, and the tag that the new chain is to have
pub record Lender (p : List ℕ) (free : ℕ) : Type 0 where
  pub who : Who
  pub tr : ℕ
  pub n : ℕ
  pub freed : Free p who free (suc n)

pub record Lent {p : List ℕ} {free : ℕ} (g : Lender p free) (f : Factor) (p' : List ℕ) (head free' : ℕ) : Type 0 where
  pub who' : Who
  pub chain : Chain p' who' g.tr 0 head (f ∷ [])
  pub freed : Free p' who' free' g.n
  pub kept : (t lo h : ℕ) (fs : List Factor) → (t ≡ g.tr → ⊥) → Chain p g.who t lo h fs → Chain p' who' t lo h fs
  pub long : length p' ≡ length p

-- ---- a copy

-- a pool with a chain of `count` factors, and as many records free
pub record Source (p : List ℕ) (free a count : ℕ) : Type 0 where
  pub who : Who
  pub ta : ℕ
  pub tr : ℕ
  pub a_r : ta ≡ tr → ⊥
  pub fs : List Factor
  pub n : ℕ
  pub chain : Chain p who ta 0 a fs
  pub freed : Free p who free (count + n)
  pub count_is : count ≡ length fs

pub record Copied {p : List ℕ} {free a count : ℕ} (g : Source p free a count) (p' : List ℕ) (head free' : ℕ) : Type 0 where
  pub who' : Who
  pub chain : Chain p' who' g.tr 0 head g.fs
  pub freed : Free p' who' free' g.n
  pub kept : (t lo h : ℕ) (fs : List Factor) → (t ≡ g.tr → ⊥) → Chain p g.who t lo h fs → Chain p' who' t lo h fs
  pub long : length p' ≡ length p

-- ---- a chain given back

pub record Holding (p : List ℕ) (free a count : ℕ) : Type 0 where
  pub who : Who
  pub ta : ℕ
  pub fs : List Factor
  pub n : ℕ
  pub chain : Chain p who ta 0 a fs
  pub freed : Free p who free n
  pub count_is : count ≡ length fs

pub record GivenBack {p : List ℕ} {free a count : ℕ} (g : Holding p free a count) (p' : List ℕ) (free' : ℕ) : Type 0 where
  pub who' : Who
  pub freed : Free p' who' free' (count + g.n)
  pub kept : (t lo h : ℕ) (fs : List Factor) → (t ≡ g.ta → ⊥) → Chain p g.who t lo h fs → Chain p' who' t lo h fs
  pub long : length p' ≡ length p

-- ---- the product

-- a pool with two chains to multiply: who holds what, the tags, the factors, and how many records are free
pub record Operands (p : List ℕ) (free a na b nb : ℕ) : Type 0 where
  pub who : Who
  pub ta : ℕ
  pub tb : ℕ
  pub tr : ℕ
  pub a_b : ta ≡ tb → ⊥
  pub a_r : ta ≡ tr → ⊥
  pub b_r : tb ≡ tr → ⊥
  pub fa : List Factor
  pub fb : List Factor
  pub n : ℕ
  pub chain_a : Chain p who ta 0 a fa
  pub chain_b : Chain p who tb 0 b fb
  pub freed : Free p who free n
  pub count_a : na ≡ length fa
  pub count_b : nb ≡ length fb
  pub few : na + nb < 65536

-- the product stands for the chain tr, every chain of another tag stands as it did, and what cancelled is free again
pub record Merged {p : List ℕ} {free a na b nb : ℕ} (g : Operands p free a na b nb) (p' : List ℕ) (head count phase free' : ℕ) : Type 0 where
  pub who' : Who
  pub n' : ℕ
  pub chain : Chain p' who' g.tr 0 head (merge g.fa g.fb).factors
  pub freed : Free p' who' free' n'
  pub count_is : count ≡ length (merge g.fa g.fb).factors
  pub returned : n' + count ≡ g.n + (na + nb)
  pub phase_is : phase ≡ phase_number (merge g.fa g.fb).phase
  pub kept : (t lo h : ℕ) (fs : List Factor) → (t ≡ g.ta → ⊥) → (t ≡ g.tb → ⊥) → (t ≡ g.tr → ⊥) → Chain p g.who t lo h fs → Chain p' who' t lo h fs
  pub long : length p' ≡ length p
