-- Sparse products stand for row products.
use mathlib.Core.Path.{◌≡◌, refl, ap, ap₂, sym, ◌∙◌, subst}
use mathlib.Core.Logic.{◌≢◌}
use mathlib.Core.Bool.{Bool, true, false}
use mathlib.Core.List.{List, [], ◌∷◌}
use Prim.Native.Nat.{ℕ, zero, suc, ◌+◌, ◌≤◌, ◌<◌}
use native.Mathlib.Omega.{arith}
use borrow.Author.Tests.{lt-ltb, le-ltb, eq-eqb, ne_eqb}
use lib.Dec.{ltb}
use lib.ListN.{length, replicate, set}
use Rattle.pauli.specs.Letters.{◌⊕◌, ◌·◌, phase_of}
use Rattle.pauli.specs.Rows.{◌★◌, scaled, identity, single, products, phases, weight, present, tally}
use Rattle.pauli.proofs.Finite.{·-I, phase_of-I}
use Rattle.pauli.proofs.Rows.{row_eq}
use Rattle.arena.specs.Types.{Pauli, I, X, Y, Z, Phase, One}
use Rattle.arena.specs.Sparse.{Factor, Sparse, factor, empty, one, turned, size, with_factor, with_letter, together, merge_one, merge, multiply, spread, dense}
use Rattle.arena.proofs.Walk.Outcomes.{Order, below, same, above, order}
use Rattle.arena.specs.Code.WalkWords.{Rising, Ordered}

-- rising from a later qubit on
lower : (lo lo' hi : ℕ) (fs : List Factor) → lo' ≤ lo → Rising lo hi fs → Rising lo' hi fs
lower lo lo' hi [] h r = tt
lower lo lo' hi (f ∷ fs) h r = (omega arith, r.1, r.2, r.3)

-- ---- the product's qubits rise

with_rising : (lo hi q : ℕ) (a : Pauli) (v : Sparse) → lo ≤ q → q < hi → Rising (suc q) hi v.factors
    → Rising lo hi (with_letter q a v).factors
with_rising lo hi q I v l h r = lower (suc q) lo hi v.factors (omega arith) r
with_rising lo hi q X v l h r = (l, h, (λ e. let z : ◌≡◌ {A = ℕ} 0 1 = cc in omega arith), r)
with_rising lo hi q Y v l h r = (l, h, (λ e. let z : ◌≡◌ {A = ℕ} 0 1 = cc in omega arith), r)
with_rising lo hi q Z v l h r = (l, h, (λ e. let z : ◌≡◌ {A = ℕ} 0 1 = cc in omega arith), r)

one-rising : (hi : ℕ) (f : Factor) (fs : List Factor) (rest : List Factor → Sparse)
    → ((lo : ℕ) (gs : List Factor) → Rising lo hi fs → Rising lo hi gs → Rising lo hi (rest gs).factors)
    → (lo : ℕ) (gs : List Factor) → Rising lo hi (f ∷ fs) → Rising lo hi gs → Rising lo hi (merge_one f fs rest gs).factors
one-rising hi f fs rest ih lo [] rf rg = rf
one-rising hi f fs rest ih lo (g ∷ gs) rf rg =
    go (order f.qubit g.qubit) (λ lo. one-rising hi f fs rest ih lo gs)
  where
    go : Order f.qubit g.qubit → ((lo : ℕ) → Rising lo hi (f ∷ fs) → Rising lo hi gs → Rising lo hi (merge_one f fs rest gs).factors)
        → Rising lo hi (merge_one f fs rest (g ∷ gs)).factors
    go (below l) jh = rw (lt-ltb f.qubit g.qubit l) (rf.0, rf.1, rf.2, ih (suc f.qubit) (g ∷ gs) rf.3 (l, rg.1, rg.2, rg.3))
    go (same e) jh = rw (le-ltb f.qubit g.qubit (omega arith), le-ltb g.qubit f.qubit (omega arith))
        (with_rising lo hi f.qubit (f.pauli · g.pauli) (rest gs) rf.0 rf.1 (ih (suc f.qubit) gs rf.3 (lower (suc g.qubit) _ hi gs (omega arith) rg.3)))
    go (above l) jh = rw (le-ltb f.qubit g.qubit (omega arith), lt-ltb g.qubit f.qubit l)
        (rg.0, rg.1, rg.2, jh (suc g.qubit) (l, rf.1, rf.2, rf.3) rg.3)

merge-rising : (lo hi : ℕ) (fs gs : List Factor) → Rising lo hi fs → Rising lo hi gs → Rising lo hi (merge fs gs).factors
merge-rising lo hi [] gs rf rg = rg
merge-rising lo hi (f ∷ fs) gs rf rg = one-rising hi f fs (λ hs. merge fs hs) (λ lo gs. merge-rising lo hi fs gs) lo gs rf rg

-- ---- merge by what stands in front

merge-nil : (fs : List Factor) → merge fs [] ≡ record { phase = One; factors = fs }
merge-nil [] = refl
merge-nil (f ∷ fs) = refl

merge-left : (hi : ℕ) (f : Factor) (fs gs : List Factor) → Rising (suc f.qubit) hi gs → merge (f ∷ fs) gs ≡ with_factor f (merge fs gs)
merge-left hi f fs [] r = ap (with_factor f) (sym (merge-nil fs))
merge-left hi f fs (g ∷ gs) r = rw (lt-ltb f.qubit g.qubit r.0)

merge-right : (hi : ℕ) (g : Factor) (fs gs : List Factor) → Rising (suc g.qubit) hi fs → merge fs (g ∷ gs) ≡ with_factor g (merge fs gs)
merge-right hi g [] gs r = refl
merge-right hi g (f ∷ fs) gs r = let h : g.qubit < f.qubit = r.0 in rw (le-ltb f.qubit g.qubit (omega arith), lt-ltb g.qubit f.qubit h)

merge-both : (f g : Factor) (fs gs : List Factor) → f.qubit ≡ g.qubit → merge (f ∷ fs) (g ∷ gs) ≡ together f g (merge fs gs)
merge-both f g fs gs e = rw (le-ltb f.qubit g.qubit (omega arith), le-ltb g.qubit f.qubit (omega arith))

-- ---- spread by what stands in front

-- either a factor of qubit `at` stands first, or none is there
data Front (at hi : ℕ) : List Factor → Type 0 where
  hit : (f : Factor) (fs : List Factor) → f.qubit ≡ at → Rising (suc at) hi fs → Front at hi (f ∷ fs)
  miss : (fs : List Factor) → Rising (suc at) hi fs → Front at hi fs

front : (at hi : ℕ) (fs : List Factor) → Rising at hi fs → Front at hi fs
front at hi [] r = miss [] tt
front at hi (f ∷ fs) r = go (order at f.qubit)
  where
    go : Order at f.qubit → Front at hi (f ∷ fs)
    go (below l) = miss (f ∷ fs) (l, r.1, r.2, r.3)
    go (same e) = hit f fs (sym e) (lower (suc f.qubit) _ hi fs (omega arith) r.3)
    go (above l) = let h : at ≤ f.qubit = r.0 in absurd (omega arith)

spread-miss : (k at hi : ℕ) (fs : List Factor) → Rising (suc at) hi fs → spread (suc k) at fs ≡ I ∷ spread k (suc at) fs
spread-miss k at hi [] r = refl
spread-miss k at hi (f ∷ fs) r = let h : at < f.qubit = r.0 in rw (ne_eqb f.qubit at (λ e. omega arith))

spread-hit : (k at : ℕ) (f : Factor) (fs : List Factor) → f.qubit ≡ at → spread (suc k) at (f ∷ fs) ≡ f.pauli ∷ spread k (suc at) fs
spread-hit k at f fs e = rw (eq-eqb f.qubit at e)

spread-with : (k at hi q : ℕ) (a : Pauli) (v : Sparse) → q ≡ at → Rising (suc at) hi v.factors
    → spread (suc k) at (with_letter q a v).factors ≡ a ∷ spread k (suc at) v.factors
spread-with k at hi q I v e r = spread-miss k at hi v.factors r
spread-with k at hi q X v e r = spread-hit k at (factor q X) v.factors e
spread-with k at hi q Y v e r = spread-hit k at (factor q Y) v.factors e
spread-with k at hi q Z v e r = spread-hit k at (factor q Z) v.factors e

with_phase : (q : ℕ) (a : Pauli) (v : Sparse) → (with_letter q a v).phase ≡ v.phase
with_phase q I v = refl
with_phase q X v = refl
with_phase q Y v = refl
with_phase q Z v = refl

-- ---- the product

-- merged, the letters and the phase are those of the row product, on the k qubits from `at` on
record Means (k at : ℕ) (fs gs : List Factor) : Type 0 where
  letters_are : spread k at (merge fs gs).factors ≡ products (spread k at fs) (spread k at gs)
  phase_is : (merge fs gs).phase ≡ phases (spread k at fs) (spread k at gs)

nothing : (at : ℕ) (fs gs : List Factor) → Rising at at fs → (merge fs gs).phase ≡ One
nothing at [] gs r = refl
nothing at (f ∷ fs) gs r = absurd (omega (arith, r.0, r.1))

merge-means : (k at hi : ℕ) (fs gs : List Factor) → hi ≡ at + k → Rising at hi fs → Rising at hi gs → Means k at fs gs
merge-means zero at hi fs gs h rf rg = record { letters_are = refl; phase_is = nothing at fs gs (subst (λ m. Rising at m fs) (omega arith) rf) }
merge-means (suc k) at hi fs gs h rf rg = go (front at hi fs rf) (front at hi gs rg) (λ fs gs. merge-means k (suc at) hi fs gs (omega arith))
  where
    go : {fs gs : List Factor} → Front at hi fs → Front at hi gs
        → ((fs gs : List Factor) → Rising (suc at) hi fs → Rising (suc at) hi gs → Means k (suc at) fs gs) → Means (suc k) at fs gs
    go (hit f fs ef rf) (hit g gs eg rg) ih = let m = ih fs gs rf rg in record {
      letters_are = rw (
        merge-both f g fs gs (ef ∙ sym eg),
        spread-with k at hi f.qubit (f.pauli · g.pauli) (merge fs gs) ef (merge-rising (suc at) hi fs gs rf rg),
        spread-hit k at f fs ef,
        spread-hit k at g gs eg,
      )
          (ap (λ l. (f.pauli · g.pauli) ∷ l) m.letters_are);
      phase_is = rw (merge-both f g fs gs (ef ∙ sym eg), with_phase f.qubit (f.pauli · g.pauli) (merge fs gs), spread-hit k at f fs ef, spread-hit k at g gs eg)
          (ap (λ p. phase_of f.pauli g.pauli ⊕ p) m.phase_is);
    }
    go (hit f fs ef rf) (miss gs rg) ih = let m = ih fs gs rf rg in record {
      letters_are = rw (
        merge-left hi f fs gs (subst (λ q. Rising (suc q) hi gs) (sym ef) rg),
        spread-hit k at f (merge fs gs).factors ef,
        spread-hit k at f fs ef,
        spread-miss k at hi gs rg,
      )
          (ap₂ ◌∷◌ (sym (·-I f.pauli)) m.letters_are);
      phase_is = rw (merge-left hi f fs gs (subst (λ q. Rising (suc q) hi gs) (sym ef) rg), spread-hit k at f fs ef, spread-miss k at hi gs rg)
          (m.phase_is ∙ ap (λ p. p ⊕ phases (spread k (suc at) fs) (spread k (suc at) gs)) (sym (phase_of-I f.pauli)));
    }
    go (miss fs rf) (hit g gs eg rg) ih = let m = ih fs gs rf rg in record {
      letters_are = rw (
        merge-right hi g fs gs (subst (λ q. Rising (suc q) hi fs) (sym eg) rf),
        spread-hit k at g (merge fs gs).factors eg,
        spread-hit k at g gs eg,
        spread-miss k at hi fs rf,
      )
          (ap (λ l. g.pauli ∷ l) m.letters_are);
      phase_is = rw (merge-right hi g fs gs (subst (λ q. Rising (suc q) hi fs) (sym eg) rf), spread-hit k at g gs eg, spread-miss k at hi fs rf) m.phase_is;
    }
    go (miss fs rf) (miss gs rg) ih = let m = ih fs gs rf rg in record {
      letters_are = rw (spread-miss k at hi (merge fs gs).factors (merge-rising (suc at) hi fs gs rf rg), spread-miss k at hi fs rf, spread-miss k at hi gs rg)
          (ap (λ l. I ∷ l) m.letters_are);
      phase_is = rw (spread-miss k at hi fs rf, spread-miss k at hi gs rg) m.phase_is;
    }

pub product_proper : (n : ℕ) (u v : Sparse) → Ordered n u → Ordered n v → Ordered n (multiply u v)
product_proper n u v ru rv = merge-rising 0 n u.factors v.factors ru rv

-- the phase that merging adds is the one that the letters of the rows add
pub merge-phase : (n : ℕ) (u v : Sparse) → Ordered n u → Ordered n v → (merge u.factors v.factors).phase ≡ phases (dense n u).letters (dense n v).letters
unfolding dense
merge-phase n u v ru rv = (merge-means n 0 n u.factors v.factors (omega arith) ru rv).phase_is

-- dense of the sparse product is the row product of the denses
pub dense-product : (n : ℕ) (u v : Sparse) → Ordered n u → Ordered n v → dense n (multiply u v) ≡ dense n u ★ dense n v
unfolding dense
dense-product n u v ru rv = let m = merge-means n 0 n u.factors v.factors (omega arith) ru rv in
    row_eq m.letters_are (ap (λ p. u.phase ⊕ v.phase ⊕ p) m.phase_is)

-- a phase, the identity, a single letter
pub dense-turned : (n : ℕ) (p : Phase) (v : Sparse) → dense n (turned p v) ≡ scaled p (dense n v)
unfolding dense
dense-turned n p v = refl

spread-blank : (k at : ℕ) → spread k at [] ≡ replicate k I
spread-blank zero at = refl
spread-blank (suc k) at = ap (λ l. I ∷ l) (spread-blank k (suc at))

pub dense-empty : (n : ℕ) → dense n empty ≡ identity n
unfolding dense
dense-empty n = row_eq (spread-blank n 0) refl

spread-one : (k at d q : ℕ) (a : Pauli) → q ≡ at + d → spread k at (factor q a ∷ []) ≡ set (replicate k I) d a
spread-one zero at d q a e = refl
spread-one (suc k) at zero q a e = rw (eq-eqb q at (omega arith)) (ap (λ l. a ∷ l) (spread-blank k (suc at)))
spread-one (suc k) at (suc d) q a e = rw (ne_eqb q at (λ c. omega arith)) (ap (λ l. I ∷ l) (spread-one k (suc at) d q a (omega arith)))

pub dense-one : (n q : ℕ) (a : Pauli) → dense n (one q a) ≡ single n q a
unfolding dense
dense-one n q a = row_eq (spread-one n 0 q q a (omega arith)) refl

-- ---- counts

count_letter : (a : Pauli) (k : ℕ) → a ≢ I → tally (present a) k ≡ suc k
count_letter I k h = absurd (h refl)
count_letter X k h = refl
count_letter Y k h = refl
count_letter Z k h = refl

-- as many factors as letters other than I
weight-spread : (k at hi : ℕ) (fs : List Factor) → hi ≡ at + k → Rising at hi fs → weight (spread k at fs) ≡ length fs
weight-spread zero at hi [] h r = refl
weight-spread zero at hi (f ∷ fs) h r = absurd (omega (arith, r.0, r.1))
weight-spread (suc k) at hi [] h r = weight-spread k (suc at) hi [] (omega arith) tt
weight-spread (suc k) at hi (f ∷ fs) h r =
    go (order at f.qubit) (weight-spread k (suc at) hi fs (omega arith)) (weight-spread k (suc at) hi (f ∷ fs) (omega arith))
  where
    go : Order at f.qubit → (Rising (suc at) hi fs → weight (spread k (suc at) fs) ≡ length fs)
        → (Rising (suc at) hi (f ∷ fs) → weight (spread k (suc at) (f ∷ fs)) ≡ suc (length fs)) → weight (spread (suc k) at (f ∷ fs)) ≡ suc (length fs)
    go (below l) ih jh = rw (spread-miss k at hi (f ∷ fs) (l, r.1, r.2, r.3)) (jh (l, r.1, r.2, r.3))
    go (same e) ih jh = rw (spread-hit k at f fs (sym e)) (count_letter f.pauli _ r.2 ∙ ap suc (ih (lower (suc f.qubit) _ hi fs (omega arith) r.3)))
    go (above l) ih jh = let h : at ≤ f.qubit = r.0 in absurd (omega arith)

pub size-weight : (n : ℕ) (v : Sparse) → Ordered n v → weight (dense n v).letters ≡ size v
unfolding dense
size-weight n v r = weight-spread n 0 n v.factors (omega arith) r

with_size : (q : ℕ) (a : Pauli) (v : Sparse) → size (with_letter q a v) ≤ suc (size v)
with_size q I v = omega arith
with_size q X v = omega arith
with_size q Y v = omega arith
with_size q Z v = omega arith

one_size : (f : Factor) (fs : List Factor) (rest : List Factor → Sparse) → ((gs : List Factor) → size (rest gs) ≤ length fs + length gs)
    → (gs : List Factor) → size (merge_one f fs rest gs) ≤ suc (length fs) + length gs
one_size f fs rest ih [] = omega arith
one_size f fs rest ih (g ∷ gs) = go (ltb f.qubit g.qubit) (ltb g.qubit f.qubit) refl refl (one_size f fs rest ih gs)
  where
    go : (c d : Bool) → ltb f.qubit g.qubit ≡ c → ltb g.qubit f.qubit ≡ d
        → size (merge_one f fs rest gs) ≤ suc (length fs) + length gs → size (merge_one f fs rest (g ∷ gs)) ≤ suc (length fs) + suc (length gs)
    go true d e e' jh = rw e (omega (arith, ih (g ∷ gs)))
    go false true e e' jh = rw (e, e') (omega arith)
    go false false e e' jh = rw (e, e') (omega (arith, with_size f.qubit (f.pauli · g.pauli) (rest gs), ih gs))

merge-size : (fs gs : List Factor) → size (merge fs gs) ≤ length fs + length gs
merge-size [] gs = omega arith
merge-size (f ∷ fs) gs = one_size f fs (λ hs. merge fs hs) (merge-size fs) gs

-- multiplying needs no room
pub product-size : (u v : Sparse) → size (multiply u v) ≤ size u + size v
product-size u v = merge-size u.factors v.factors
