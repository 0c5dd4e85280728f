-- Tools of the walk's proofs: two numbers compared, a function changed at one place, and what holds of an answer if there is one.
use mathlib.Core.Path.{◌≡◌, refl, subst}
use mathlib.Core.Bool.{Bool, true, false, cond}
use Prim.Native.Nat.{ℕ, zero, suc, ◌+◌, ◌≤◌, ◌<◌}
use native.Mathlib.Nat.{not-suc-le-zero}
use native.Mathlib.Omega.{arith}
use borrow.Author.Tests.{ltb-true, ltb-false, leb-true, eq-eqb, ne_eqb}
use lib.Dec.{leb, ltb, eqb}
use Rattle.arena.specs.Errors.{ExpansionLimit, NoPool}
use Rattle.arena.specs.Walk.{Out, fine, refused, bind, update, State, worked, lent, charge, lend}

-- ---- numbers, and functions changed at one place

pub data Order (a b : ℕ) : Type 0 where
  below : a < b → Order a b
  same : a ≡ b → Order a b
  above : b < a → Order a b

pub order : (a b : ℕ) → Order a b
order a b = go (ltb a b) (ltb b a) refl refl
  where
    go : (c d : Bool) → ltb a b ≡ c → ltb b a ≡ d → Order a b
    go true d e f = below (ltb-true a b e)
    go false true e f = above (ltb-true b a f)
    go false false e f = same (omega (arith, ltb-false a b e, ltb-false b a f))

pub update_same : {A : Type 0} (f : ℕ → A) (i : ℕ) (v : A) → update f i v i ≡ v
update_same f i v = rw (eq-eqb i i refl)

pub update_other : {A : Type 0} (f : ℕ → A) (i : ℕ) (v : A) (j : ℕ) → (j ≡ i → ⊥) → update f i v j ≡ f j
update_other f i v j h = rw (ne_eqb j i h)

-- what is marked stays marked
pub update-keeps : (f : ℕ → Bool) (i j : ℕ) → f j ≡ true → update f i true j ≡ true
update-keeps f i j h = go (eqb j i) refl
  where
    go : (b : Bool) → eqb j i ≡ b → update f i true j ≡ true
    go true e = rw e
    go false e = rw e h

-- above 0 and not 1
pub suc-of : (m : ℕ) → 0 < m → (m ≡ 1 → ⊥) → (k : ℕ) × (m ≡ suc (suc k))
suc-of zero h ne = absurd (not-suc-le-zero h)
suc-of (suc zero) h ne = absurd (ne refl)
suc-of (suc (suc k)) h ne = (k, refl)

-- ---- outcomes

-- P holds of the answer, if there is one
abbrev pub Post : {A : Type 0} → Out A → (A → Type 0) → Type 0
Post (fine a) P = P a
Post (refused e) P = Unit {0}

pub post-bind : {A B : Type 0} (x : Out A) (k : A → Out B) (P : A → Type 0) (Q : B → Type 0)
    → Post x P → ((a : A) → P a → Post (k a) Q) → Post (bind x k) Q
post-bind (fine a) k P Q p h = h a p
post-bind (refused e) k P Q p h = tt

pub post_map : {A : Type 0} (x : Out A) (P Q : A → Type 0) → Post x P → ((a : A) → P a → Q a) → Post x Q
post_map (fine a) P Q p h = h a p
post_map (refused e) P Q p h = tt

pub post_and : {A : Type 0} (x : Out A) (P Q : A → Type 0) → Post x P → Post x Q → Post x (λ a. P a × Q a)
post_and (fine a) P Q p q = (p, q)
post_and (refused e) P Q p q = tt

pub post_each : {A K : Type 0} (x : Out A) (P : K → A → Type 0) → ((k : K) → Post x (P k)) → Post x (λ a. (k : K) → P k a)
post_each (fine a) P h = h
post_each (refused e) P h = tt

pub post-fine : {A : Type 0} {x : Out A} (P : A → Type 0) {a : A} → x ≡ fine a → Post x P → P a
post-fine P e p = subst (λ o. Post o P) e p

pub bind_assoc : {A B C : Type 0} (x : Out A) (k : A → Out B) (h : B → Out C) → bind (bind x k) h ≡ bind x (λ a. bind (k a) h)
bind_assoc (fine a) k h = refl
bind_assoc (refused e) k h = refl

pub bind-fine : {A : Type 0} (x : Out A) → bind x fine ≡ x
bind-fine (fine a) = refl
bind-fine (refused e) = refl

-- two continuations that agree wherever P holds
pub bind-cong : {A B : Type 0} (x : Out A) (k h : A → Out B) (P : A → Type 0)
    → Post x P → ((a : A) → P a → k a ≡ h a) → bind x k ≡ bind x h
bind-cong (fine a) k h P p e = e a p
bind-cong (refused n) k h P p e = refl

-- ---- charge and lend, before what comes next

pub charge-then : {B : Type 0} (limit amount : ℕ) (s : State) (k : State → Out B) (Q : B → Type 0)
    → (s.work + amount ≤ limit → Post (k (worked amount s)) Q) → Post (bind (charge limit amount s) k) Q
charge-then limit amount s k Q p = go (leb (s.work + amount) limit) refl
  where
    go : (b : Bool) → leb (s.work + amount) limit ≡ b → Post (bind (cond b (fine (worked amount s)) (refused ExpansionLimit)) k) Q
    go true e = p (leb-true (s.work + amount) limit e)
    go false e = tt

pub charge-post : (limit amount : ℕ) (s : State) (P : State → Type 0) → P (worked amount s) → Post (charge limit amount s) P
charge-post limit amount s P p = go (leb (s.work + amount) limit)
  where
    go : (b : Bool) → Post (cond b (fine (worked amount s)) (refused ExpansionLimit)) P
    go true = p
    go false = tt

pub lend-then : {B : Type 0} (room amount : ℕ) (s : State) (k : State → Out B) (Q : B → Type 0)
    → (s.held + amount ≤ room → Post (k (lent amount s)) Q) → Post (bind (lend room amount s) k) Q
lend-then room amount s k Q p = go (leb (s.held + amount) room) refl
  where
    go : (b : Bool) → leb (s.held + amount) room ≡ b → Post (bind (cond b (fine (lent amount s)) (refused NoPool)) k) Q
    go true e = p (leb-true (s.held + amount) room e)
    go false e = tt
