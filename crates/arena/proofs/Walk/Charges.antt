-- kept: claims, which Theorems.antt takes from here as a module
-- A charge of src/stats.rt is the walk's charge: the walk goes on exactly where it answers Within, and then with the work that it leaves.
use mathlib.Core.Path.{◌≡◌, refl, sym, ap, ◌∙◌}
use mathlib.Core.Bool.{Bool, true, false}
use Prim.Native.Nat.{ℕ, ◌+◌}
use lib.Dec.{leb}
use Rattle.arena.specs.Errors.{PbcError}
use Rattle.arena.specs.Walk.{Out, fine, refused, State, charge}
use Rattle.arena.specs.Stats.{Charged, Within, Refused, work_after, charge_answer}
use Rattle.arena.proofs.Walk.Outcomes.{Post, post-fine}

-- s, with this much work
abbrev with_work : ℕ → State → State
with_work work s = record { uses = s.uses; done = s.done; value = s.value; work = work; held = s.held }

-- the walk after a charge that answered this
abbrev walk_on : Charged → State → Out State
walk_on Within s = fine s
walk_on (Refused e) s = refused e

charge-agrees : (limit amount : ℕ) (s : State)
    → charge limit amount s ≡ walk_on (charge_answer s.work limit amount) (with_work (work_after s.work limit amount) s)
unfolding charge_answer work_after
charge-agrees limit amount s = go (leb (s.work + amount) limit) refl
  where
    go : (b : Bool) → leb (s.work + amount) limit ≡ b
        → charge limit amount s ≡ walk_on (charge_answer s.work limit amount) (with_work (work_after s.work limit amount) s)
    go true e = rw e
    go false e = rw e

-- Within: fine, with the work that the charge leaves
pub within-fine : (limit amount : ℕ) (s : State) → charge_answer s.work limit amount ≡ Within
    → (t : State) × ((charge limit amount s ≡ fine t) × (t.work ≡ work_after s.work limit amount))
within-fine limit amount s h =
    let t = with_work (work_after s.work limit amount) s in
    (t, (charge-agrees limit amount s ∙ ap (λ c. walk_on c t) h, refl))

-- Refused: refused alike
pub refused-alike : (limit amount : ℕ) (s : State) (e : PbcError) → charge_answer s.work limit amount ≡ Refused e → charge limit amount s ≡ refused e
refused-alike limit amount s e h =
    charge-agrees limit amount s ∙ ap (λ c. walk_on c (with_work (work_after s.work limit amount) s)) h

-- what is fine was answered Within
only_within : (c : Charged) (s : State) → Post (walk_on c s) (λ t. (c ≡ Within) × (t.work ≡ s.work))
only_within Within s = (refl, refl)
only_within (Refused e) s = tt

pub fine-within : (limit amount : ℕ) (s t : State) → charge limit amount s ≡ fine t
    → (charge_answer s.work limit amount ≡ Within) × (t.work ≡ work_after s.work limit amount)
fine-within limit amount s t h =
    let c = charge_answer s.work limit amount in
    let u = with_work (work_after s.work limit amount) s in
    post-fine (λ v. (c ≡ Within) × (v.work ≡ u.work)) (sym (charge-agrees limit amount s) ∙ h) (only_within c u)
