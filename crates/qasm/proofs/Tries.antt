-- What was read and what is left, taken apart.
use mathlib.Core.Path.{◌≡◌, refl}
use mathlib.Core.List.{List, []}
use Prim.Native.Nat.{ℕ}
use Rattle.qasm.specs.Tokens.{Laid, nothing}
use Rattle.qasm.specs.Reading.{Try, got, failed, Done, done, and_then}

pub got-value : {A : Type 0} (a b : A) (t u : List ℕ) → got a t ≡ got b u → a ≡ b
got-value a b t u e = cc

pub got-left : {A : Type 0} (a b : A) (t u : List ℕ) → got a t ≡ got b u → t ≡ u
got-left a b t u e = cc

pub only : (u : Done) → u ≡ done
only done = refl

pub ended : (t rest : List ℕ) → Laid [] t rest → t ≡ rest
ended t rest nothing = refl

pub then-got : {A B : Type 0} (a : A) (t : List ℕ) (K : A → List ℕ → Try B) → and_then (got a t) K ≡ K a t
unfolding and_then
then-got a t K = refl

pub then-failed : {A B : Type 0} (K : A → List ℕ → Try B) → and_then failed K ≡ failed
unfolding and_then
then-failed K = refl
