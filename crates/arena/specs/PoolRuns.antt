-- A pool over time: any sequence of its operations, each on what the ones before it left. What the pool holds is listed here, and no code holds the list.
use Rattle.std.specs.Prelude.{◌≡◌, ◌⊎◌, List, [], ◌∷◌, ℕ, zero, suc, ◌+◌, ◌-◌, ◌<◌, length}
use Rattle.arena.specs.Sparse.{Factor, merge}
use Rattle.arena.specs.Pool.{next_at}
use Rattle.arena.specs.PoolSteps.{Lender, Lent, Source, Copied, Holding, GivenBack, Operands, Merged, AllFree}
use Rattle.arena.specs.Limits.{cap_of}

-- a chain that somebody holds: its tag, its first record, its factors
pub record Held : Type 0 where
  pub tag : ℕ
  pub head : ℕ
  pub factors : List Factor

abbrev pub held_as : ℕ → ℕ → List Factor → Held
held_as t h fs = record { tag = t; head = h; factors = fs }

-- the words, the first free record, how many records are free, and the chains that are held
pub record World : Type 0 where
  pub pool : List ℕ
  pub free : ℕ
  pub spares : ℕ
  pub chains : List Held

-- how many factors they have
abbrev pub factors_held : List Held → ℕ
factors_held [] = 0
factors_held (c ∷ cs) = length c.factors + factors_held cs

-- no chain has the tag t
abbrev pub Fresh : ℕ → List Held → Type 0
Fresh t [] = Unit {0}
Fresh t (c ∷ cs) = (c.tag ≡ t → ⊥) × Fresh t cs

-- `rest` is cs without one c
abbrev pub Without : Held → List Held → List Held → Type 0
Without c [] rest = ⊥
Without c (d ∷ ds) rest = ((c ≡ d) × (rest ≡ ds)) ⊎ ((es : List Held) × Without c ds es × (rest ≡ d ∷ es))

-- ---- the operations, each with what its function promises

pub record Singles (w w' : World) : Type 0 where
  pub tag : ℕ
  pub head : ℕ
  pub one : Factor
  pub fresh : Fresh tag w.chains
  pub met : (g : Lender w.pool w.free) → Lent g one w'.pool head w'.free
  pub spares_are : w.spares ≡ suc w'.spares
  pub chains_are : w'.chains ≡ held_as tag head (one ∷ []) ∷ w.chains

pub record Copies (w w' : World) : Type 0 where
  pub tag : ℕ
  pub head : ℕ
  pub from : Held
  pub others : List Held
  pub fresh : Fresh tag w.chains
  pub stands : Without from w.chains others
  pub met : (g : Source w.pool w.free from.head (length from.factors)) → Copied g w'.pool head w'.free
  pub spares_are : w.spares ≡ length from.factors + w'.spares
  pub chains_are : w'.chains ≡ held_as tag head from.factors ∷ w.chains

pub record GivesBack (w w' : World) : Type 0 where
  pub from : Held
  pub stands : Without from w.chains w'.chains
  pub met : (g : Holding w.pool w.free from.head (length from.factors)) → GivenBack g w'.pool w'.free
  pub spares_are : w'.spares ≡ length from.factors + w.spares

pub record Multiplies (w w' : World) : Type 0 where
  pub tag : ℕ
  pub head : ℕ
  pub count : ℕ
  pub phase : ℕ
  pub left : Held
  pub right : Held
  pub some : List Held
  pub others : List Held
  pub fresh : Fresh tag w.chains
  pub left_stands : Without left w.chains some
  pub right_stands : Without right some others
  pub few : length left.factors + length right.factors < 65536
  pub met : (g : Operands w.pool w.free left.head (length left.factors) right.head (length right.factors)) → Merged g w'.pool head count phase w'.free
  pub spares_are : w'.spares + count ≡ w.spares + (length left.factors + length right.factors)
  pub chains_are : w'.chains ≡ held_as tag head (merge left.factors right.factors).factors ∷ others

pub data Does (w w' : World) : Type 0 where
  singles : Singles w w' → Does w w'
  copies : Copies w w' → Does w w'
  gives_back : GivesBack w w' → Does w w'
  multiplies : Multiplies w w' → Does w w'

-- ---- a run

-- `init` on a pool of some words: nothing is held
pub record Begins (words : ℕ) (w : World) : Type 0 where
  pub before : List ℕ
  pub long : length before ≡ words
  pub met : AllFree before w.pool w.free
  pub spares_are : w.spares ≡ cap_of words - 1
  pub chains_are : w.chains ≡ []

-- from `init` by way of the worlds vs, the latest first
abbrev pub Run : ℕ → List World → World → Type 0
Run words [] w = Begins words w
Run words (v ∷ vs) w = Run words vs v × Does v w

-- the records that an operation takes from the free list, and those that it gives back
abbrev pub lent_by : {w w' : World} → Does w w' → ℕ
lent_by (singles d) = 1
lent_by (copies d) = length d.from.factors
lent_by (gives_back d) = 0
lent_by (multiplies d) = 0

abbrev pub back_by : {w w' : World} → Does w w' → ℕ
back_by (singles d) = 0
back_by (copies d) = 0
back_by (gives_back d) = length d.from.factors
back_by (multiplies d) = length d.left.factors + length d.right.factors - d.count

-- the same in a whole run
abbrev pub lent_in : (words : ℕ) (vs : List World) (w : World) → Run words vs w → ℕ
lent_in words [] w r = 0
lent_in words (v ∷ vs) w r = lent_in words vs v r.0 + lent_by r.1

abbrev pub back_in : (words : ℕ) (vs : List World) (w : World) → Run words vs w → ℕ
back_in words [] w r = 0
back_in words (v ∷ vs) w r = back_in words vs v r.0 + back_by r.1

-- r is one of the n records from h on
abbrev pub Reached : List ℕ → ℕ → ℕ → ℕ → Type 0
Reached p h zero r = ⊥
Reached p h (suc n) r = (r ≡ h) ⊎ Reached p (next_at p h) n r

-- none of the n records from h on is there twice
abbrev pub Once : List ℕ → ℕ → ℕ → Type 0
Once p h zero = Unit {0}
Once p h (suc n) = (Reached p (next_at p h) n h → ⊥) × Once p (next_at p h) n

abbrev pub InChain : World → Held → ℕ → Type 0
InChain w c r = Reached w.pool c.head (length c.factors) r

abbrev pub InFree : World → ℕ → Type 0
InFree w r = Reached w.pool w.free w.spares r
