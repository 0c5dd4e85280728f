-- Z[½, ω] is a set of scalars, and its powers of i can be told apart.
use mathlib.Core.Path.{◌≡◌, refl, ap, ap₂, sym, ◌∙◌}
use native.Mathlib.Nat.{ℕ_set as number-set}
use Prim.Native.Nat.{ℕ as Number}
use mathlib.Core.Int.{ℤ, pos, negsuc, suc_ℤ, pred_ℤ, ◌+ℤ◌, +ℤ_assoc, +ℤ_comm, +ℤ_invr, neg_ℤ-+ℤ}
use mathlib.Core.Nat.{ℕ, zero, suc, ◌+◌, add_assoc, add_comm}
use mathlib.Core.Quot
use mathlib.Core.Quot.{sound, lift, Quot-set, ind}
use Rattle.operators.specs.Types.{Phase, One, PlusI, MinusOne, MinusI}
use Rattle.pauli.specs.Letters.{phase_number}
use Rattle.operators.specs.Model.{Scalars, phased}
use Rattle.operators.proofs.Faithful.{Telling}
use Rattle.operators.specs.Dyadic.{Four, plus_four, root_four, times_two, Halved, Same, Dyadic, plus_halved, root_halved, half_halved, zero_four, one_four}

-- ---- four integers

four_eq : {a b : Four} → a.one ≡ b.one → a.root ≡ b.root → a.i ≡ b.i → a.cube ≡ b.cube → a ≡ b
four_eq p q r s = λ k. record { one = p k; root = q k; i = r k; cube = s k }

plus_assoc : (a b c : Four) → plus_four (plus_four a b) c ≡ plus_four a (plus_four b c)
plus_assoc a b c = four_eq (+ℤ_assoc a.one b.one c.one) (+ℤ_assoc a.root b.root c.root) (+ℤ_assoc a.i b.i c.i) (+ℤ_assoc a.cube b.cube c.cube)

plus_comm : (a b : Four) → plus_four a b ≡ plus_four b a
plus_comm a b = four_eq (+ℤ_comm a.one b.one) (+ℤ_comm a.root b.root) (+ℤ_comm a.i b.i) (+ℤ_comm a.cube b.cube)

exchange : (a b c d : Four) → plus_four (plus_four a b) (plus_four c d) ≡ plus_four (plus_four a c) (plus_four b d)
exchange a b c d =
    plus_assoc a b (plus_four c d) ∙ ap (plus_four a) (sym (plus_assoc b c d) ∙ ap (λ x. plus_four x d) (plus_comm b c) ∙ plus_assoc c b d) ∙ sym (plus_assoc a c (plus_four b d))

root_plus : (a b : Four) → root_four (plus_four a b) ≡ plus_four (root_four a) (root_four b)
root_plus a b = four_eq (neg_ℤ-+ℤ a.cube b.cube) refl refl refl

two_plus : (k : ℕ) (a b : Four) → times_two k (plus_four a b) ≡ plus_four (times_two k a) (times_two k b)
two_plus zero a b = refl
two_plus (suc k) a b = ap₂ plus_four (two_plus k a b) (two_plus k a b) ∙ exchange (times_two k a) (times_two k b) (times_two k a) (times_two k b)

pub two_root : (k : ℕ) (a : Four) → times_two k (root_four a) ≡ root_four (times_two k a)
two_root zero a = refl
two_root (suc k) a = ap₂ plus_four (two_root k a) (two_root k a) ∙ sym (root_plus (times_two k a) (times_two k a))

two_two : (j k : ℕ) (a : Four) → times_two j (times_two k a) ≡ times_two (j + k) a
two_two j zero a = refl
two_two j (suc k) a = two_plus j (times_two k a) (times_two k a) ∙ ap₂ plus_four (two_two j k a) (two_two j k a)

two_swap : (j k : ℕ) (a : Four) → times_two j (times_two k a) ≡ times_two k (times_two j a)
two_swap j k a = two_two j k a ∙ ap (λ m. times_two m a) (add_comm j k) ∙ sym (two_two k j a)

two-zero : (k : ℕ) → times_two k zero_four ≡ zero_four
two-zero zero = refl
two-zero (suc k) = ap₂ plus_four (two-zero k) (two-zero k)

suc-left : (j k : ℕ) → suc j + k ≡ suc (j + k)
suc-left j k = add_comm (suc j) k ∙ ap suc (add_comm k j)

-- ---- with halves

halved_eq : {a b : Halved} → a.parts ≡ b.parts → a.times ≡ b.times → a ≡ b
halved_eq p q = λ k. record { parts = p k; times = q k }

abbrev mk : Halved → Dyadic
mk a = Quot.mk a

pub comm : (a b : Halved) → plus_halved a b ≡ plus_halved b a
comm a b = halved_eq (plus_comm (times_two b.times a.parts) (times_two a.times b.parts)) (add_comm a.times b.times)

pub assoc : (a b c : Halved) → plus_halved (plus_halved a b) c ≡ plus_halved a (plus_halved b c)
assoc a b c = halved_eq
    (ap (λ x. plus_four x (times_two (a.times + b.times) c.parts)) (two_plus c.times (times_two b.times a.parts) (times_two a.times b.parts))
    ∙ plus_assoc (times_two c.times (times_two b.times a.parts)) (times_two c.times (times_two a.times b.parts)) (times_two (a.times + b.times) c.parts)
    ∙ ap₂ plus_four (two_swap c.times b.times a.parts ∙ two_two b.times c.times a.parts)
    (ap₂ plus_four (two_swap c.times a.times b.parts) (sym (two_two a.times b.times c.parts)) ∙ sym (two_plus a.times (times_two c.times b.parts) (times_two b.times c.parts))))
    (add_assoc a.times b.times c.times)

pub right_kept : (a b b' : Halved) → Same b b' → Same (plus_halved a b) (plus_halved a b')
right_kept a b b' h =
    two_plus (a.times + b'.times) (times_two b.times a.parts) (times_two a.times b.parts)
    ∙ ap₂ plus_four
    (sym (two_two a.times b'.times (times_two b.times a.parts)) ∙ ap (times_two a.times) (two_swap b'.times b.times a.parts) ∙ two_two a.times b.times (times_two b'.times a.parts))
    (sym (two_two a.times b'.times (times_two a.times b.parts)) ∙ ap (times_two a.times) (two_swap b'.times a.times b.parts ∙ ap (times_two a.times) h ∙ two_swap a.times b.times b'.parts)
    ∙ two_two a.times b.times (times_two a.times b'.parts))
    ∙ sym (two_plus (a.times + b.times) (times_two b'.times a.parts) (times_two a.times b'.parts))

pub left_kept : (a a' b : Halved) → Same a a' → mk (plus_halved a b) ≡ mk (plus_halved a' b)
left_kept a a' b h = ap mk (comm a b) ∙ sound (right_kept b a a' h) ∙ ap mk (comm b a')

pub dyadic-set : IsSet Dyadic
dyadic-set = Quot-set

-- an equation of two functions is proved at the representatives
pub every : (f g : Dyadic → Dyadic) → ((a : Halved) → f (mk a) ≡ g (mk a)) → (p : Dyadic) → f p ≡ g p
every f g h p = ind {β = λ q. f q ≡ g q} (λ q. dyadic-set (f q) (g q)) h p

abbrev plus_from : Halved → Dyadic → Dyadic
plus_from a q = lift Quot-set (λ b. mk (plus_halved a b)) (λ b b' h. sound (right_kept a b b' h)) q

abbrev plus_dyadic : Dyadic → Dyadic → Dyadic
plus_dyadic p q = lift Quot-set (λ a. plus_from a q) (λ a a' h. every (plus_from a) (plus_from a') (λ b. left_kept a a' b h) q) p

abbrev root_dyadic : Dyadic → Dyadic
root_dyadic p = lift Quot-set (λ a. mk (root_halved a)) (λ a b h. sound (two_root b.times a.parts ∙ ap root_four h ∙ sym (two_root a.times b.parts))) p

abbrev half_dyadic : Dyadic → Dyadic
half_dyadic p = lift Quot-set (λ a. mk (half_halved a)) (λ a b h. sound (ap (λ x. plus_four x x) h)) p

abbrev none_dyadic : Dyadic
none_dyadic = mk (record { parts = zero_four; times = zero })

pub plus_none : (a : Halved) → plus_halved a (record { parts = zero_four; times = zero }) ≡ a
plus_none a = halved_eq (ap (plus_four a.parts) (two-zero a.times)) refl

pub root_sum : (a b : Halved) → root_halved (plus_halved a b) ≡ plus_halved (root_halved a) (root_halved b)
root_sum a b = halved_eq (root_plus (times_two b.times a.parts) (times_two a.times b.parts) ∙ ap₂ plus_four (sym (two_root b.times a.parts)) (sym (two_root a.times b.parts))) refl

pub half_sum : (a b : Halved) → Same (half_halved (plus_halved a b)) (plus_halved (half_halved a) (half_halved b))
half_sum a b =
    ap (λ k. times_two (suc k) (plus_halved a b).parts) (suc-left a.times b.times) ∙ sym (two_two (suc (a.times + b.times)) (suc zero) (plus_halved a b).parts)
    ∙ ap (times_two (suc (a.times + b.times))) (exchange (times_two b.times a.parts) (times_two a.times b.parts) (times_two b.times a.parts) (times_two a.times b.parts))

pub two_halves : (a : Halved) → Same (plus_halved (half_halved a) (half_halved a)) a
two_halves a = two_two a.times (suc (suc a.times)) a.parts ∙ ap (λ k. times_two (suc k) a.parts) (sym (suc-left a.times a.times))

pub minus : (a : Halved) → Same (plus_halved a (root_halved (root_halved (root_halved (root_halved a))))) (record { parts = zero_four; times = zero })
minus a =
    sym (two_plus a.times a.parts (root_four (root_four (root_four (root_four a.parts)))))
    ∙ ap (times_two a.times) (four_eq (+ℤ_invr a.parts.one) (+ℤ_invr a.parts.root) (+ℤ_invr a.parts.i) (+ℤ_invr a.parts.cube))
    ∙ two-zero a.times ∙ sym (two-zero (a.times + a.times))

abbrev pub dyadic : Scalars
dyadic = record {
  R = Dyadic;
  set = dyadic-set;
  none = none_dyadic;
  plus = plus_dyadic;
  root = root_dyadic;
  half = half_dyadic;
  plus_assoc = λ p q r.
      every (λ p. plus_dyadic (plus_dyadic p q) r) (λ p. plus_dyadic p (plus_dyadic q r)) (λ a.
      every (λ q. plus_dyadic (plus_dyadic (mk a) q) r) (λ q. plus_dyadic (mk a) (plus_dyadic q r)) (λ b.
      every (λ r. plus_dyadic (plus_dyadic (mk a) (mk b)) r) (λ r. plus_dyadic (mk a) (plus_dyadic (mk b) r)) (λ c. ap mk (assoc a b c)) r) q) p;
  plus_comm = λ p q. every (λ p. plus_dyadic p q) (λ p. plus_dyadic q p) (λ a. every (λ q. plus_dyadic (mk a) q) (λ q. plus_dyadic q (mk a)) (λ b. ap mk (comm a b)) q) p;
  plus_none = every (λ p. plus_dyadic p none_dyadic) (λ p. p) (λ a. ap mk (plus_none a));
  root_plus = λ p q.
      every (λ p. root_dyadic (plus_dyadic p q)) (λ p. plus_dyadic (root_dyadic p) (root_dyadic q)) (λ a.
      every (λ q. root_dyadic (plus_dyadic (mk a) q)) (λ q. plus_dyadic (root_dyadic (mk a)) (root_dyadic q)) (λ b. ap mk (root_sum a b)) q) p;
  half_plus = λ p q.
      every (λ p. half_dyadic (plus_dyadic p q)) (λ p. plus_dyadic (half_dyadic p) (half_dyadic q)) (λ a.
      every (λ q. half_dyadic (plus_dyadic (mk a) q)) (λ q. plus_dyadic (half_dyadic (mk a)) (half_dyadic q)) (λ b. sound (half_sum a b)) q) p;
  root_none = refl;
  half_none = sound refl;
  root_half = every (λ p. root_dyadic (half_dyadic p)) (λ p. half_dyadic (root_dyadic p)) (λ a. refl);
  halves = every (λ p. plus_dyadic (half_dyadic p) (half_dyadic p)) (λ p. p) (λ a. sound (two_halves a));
  minus = every (λ p. plus_dyadic p (root_dyadic (root_dyadic (root_dyadic (root_dyadic p))))) (λ p. none_dyadic) (λ a. sound (minus a));
}

-- ---- the powers of i

-- 0, then 1 for a positive number, 2 for a negative one
abbrev sign : ℤ → ℕ
sign (pos zero) = 0
sign (pos (suc k)) = 1
sign (negsuc k) = 2

pos_plus : (j k : ℕ) → pos j +ℤ pos k ≡ pos (j + k)
pos_plus j zero = refl
pos_plus j (suc k) = ap suc_ℤ (pos_plus j k)

negsuc-plus : (j k : ℕ) → negsuc j +ℤ negsuc k ≡ negsuc (suc (j + k))
negsuc-plus j zero = refl
negsuc-plus j (suc k) = ap pred_ℤ (negsuc-plus j k)

sign-two : (z : ℤ) → sign (z +ℤ z) ≡ sign z
sign-two (pos zero) = refl
sign-two (pos (suc k)) = ap sign (pos_plus (suc k) (suc k))
sign-two (negsuc k) = ap sign (negsuc-plus k k)

sign-one : (k : ℕ) (a : Four) → sign (times_two k a).one ≡ sign a.one
sign-one zero a = refl
sign-one (suc k) a = sign-two (times_two k a).one ∙ sign-one k a

sign-i : (k : ℕ) (a : Four) → sign (times_two k a).i ≡ sign a.i
sign-i zero a = refl
sign-i (suc k) a = sign-two (times_two k a).i ∙ sign-i k a

-- by the signs of the parts of 1 and of i
abbrev told : ℕ → ℕ → Number
told zero zero = 4
told zero (suc zero) = 1
told zero (suc (suc k)) = 3
told (suc zero) k = 0
told (suc (suc j)) k = 2

nat_set : IsSet Number
nat_set = number-set

abbrev tell_dyadic : Dyadic → Number
tell_dyadic p = lift nat_set (λ a. told (sign a.parts.one) (sign a.parts.i))
    (λ a b h. ap₂ told (sym (sign-one b.times a.parts) ∙ ap (λ x. sign x.one) h ∙ sign-one a.times b.parts) (sym (sign-i b.times a.parts) ∙ ap (λ x. sign x.i) h ∙ sign-i a.times b.parts)) p

tells : (p : Phase) → tell_dyadic (phased dyadic p (mk (record { parts = one_four; times = zero }))) ≡ phase_number p
tells One = refl
tells PlusI = refl
tells MinusOne = refl
tells MinusI = refl

pub telling : Telling dyadic
telling = record { one = mk (record { parts = one_four; times = zero }); tell = tell_dyadic; tells = tells; tells_none = refl }
