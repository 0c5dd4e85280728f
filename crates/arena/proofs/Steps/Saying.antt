-- What `Says` gives, how it is shown, and how it passes through `bind`.
use mathlib.Core.Path.{◌≡◌, refl, ap, sym, subst}
use Rattle.arena.specs.Errors.{PbcError}
use Rattle.arena.specs.Walk.{Out, fine, refused, bind}
use Rattle.arena.specs.Code.Results.{Agrees, Says}
use Rattle.arena.proofs.Walk.Outcomes.{Post}

fine_of : {A B : Type 0} (x : Out A) (b : B) (R : A → B → Type 0) → Agrees x (fine b) R → (a : A) × (x ≡ fine a) × R a b
fine_of (fine a) b R h = (a, refl, h)
fine_of (refused e) b R h = absurd h

refused-of : {A B : Type 0} (x : Out A) (e : PbcError) (R : A → B → Type 0) → Agrees x (refused e) R → x ≡ refused e
refused-of (fine a) e R h = absurd h
refused-of (refused f) e R h = ap (λ (r : PbcError). refused r) h

on_agrees : {A B C : Type 0} (x : Out A) (k : A → C) (b : Out B) (R : A → B → Type 0) (S : C → B → Type 0) → Agrees x b R → ((a : A) (y : B) → R a y → S (k a) y)
    → Agrees (bind x (λ a. fine (k a))) b S
on_agrees (fine a) k (fine y) R S h f = f a y h
on_agrees (fine a) k (refused e) R S h f = absurd h
on_agrees (refused e) k (fine y) R S h f = absurd h
on_agrees (refused e) k (refused r) R S h f = h

agrees_post : {A B : Type 0} (x : Out A) (y : Out B) (R : A → B → Type 0) (P : A → Type 0) → Agrees x y R → Post x P → Agrees x y (λ a b. R a b × P a)
agrees_post (fine a) (fine b) R P h p = (h, p)
agrees_post (fine a) (refused e) R P h p = absurd h
agrees_post (refused e) (fine b) R P h p = absurd h
agrees_post (refused e) (refused f) R P h p = h

module _ {A B : Type 0} {x : Out A} {y : Out B} {R : A → B → Type 0} (h : Says x y R) where
  -- the code answers: so does the definition
  pub said-fine : {b : B} → y ≡ fine b → (a : A) × (x ≡ fine a) × R a b
  said-fine {b} e = fine_of x b R (subst (λ (o : Out B). Agrees x o R) e h.says)

  -- the code refuses: so does the definition
  pub said-refused : {e : PbcError} → y ≡ refused e → x ≡ refused e
  said-refused {e} q = refused-of x e R (subst (λ (o : Out B). Agrees x o R) q h.says)

  -- the same of what the definition computes to
  pub says_as : {z : Out A} → z ≡ x → Says z y R
  says_as {z} e = record { says = subst (λ (o : Out A). Agrees o y R) (sym e) h.says }

  -- an answer is passed on
  pub says_on : {C : Type 0} (k : A → C) (S : C → B → Type 0) → ((a : A) (b : B) → R a b → S (k a) b) → Says (bind x (λ a. fine (k a))) y S
  says_on k S f = record { says = on_agrees x k y R S h.says f }

  -- what holds of the definition's answer may be added
  pub says_post : (P : A → Type 0) → Post x P → Says x y (λ a b. R a b × P a)
  says_post P p = record { says = agrees_post x y R P h.says p }

  -- a refusal goes through
  pub refuses_on : {C D : Type 0} (k : A → Out C) {S : C → D → Type 0} {e : PbcError} → y ≡ refused e → Says (bind x k) (refused e) S
  refuses_on {C = C} k {S} {e} q = record { says = subst (λ (o : Out C). Agrees o (refused e) S) (sym (ap (λ (o : Out A). bind o k) (said-refused q))) refl }

pub says-fine : {A B : Type 0} {x : Out A} {a : A} {b : B} {R : A → B → Type 0} → x ≡ fine a → R a b → Says x (fine b) R
says-fine {a = a} {b = b} {R = R} e r = record { says = subst (λ o. Agrees o (fine b) R) (sym e) r }

pub says-refused : {A B : Type 0} {x : Out A} {e : PbcError} {R : A → B → Type 0} → x ≡ refused e → Says x (refused e) R
says-refused {e = e} {R = R} q = record { says = subst (λ o. Agrees o (refused e) R) (sym q) refl }
