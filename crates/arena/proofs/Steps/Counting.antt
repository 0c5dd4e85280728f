-- Uses counted in the words.
use mathlib.Core.Path.{◌≡◌, refl, ap, sym, ◌∙◌, subst}
use mathlib.Core.Bool.{Bool, true, false, cond}
use mathlib.Core.List.{List}
use Prim.Native.Nat.{ℕ, zero, suc, ◌+◌, ◌*◌, ◌-◌, ◌/◌, ◌%◌, ◌≤◌, ◌<◌}
use native.Mathlib.Omega.{arith}
use borrow.Author.Tests.{eqb-true, eqb-false}
use lib.Dec.{eqb}
use lib.ListN.{length, get_or}
use Rattle.arena.specs.References.{node_in}
use Rattle.arena.specs.Nodes.{PauliNode, Product, node_at}
use Rattle.arena.specs.Walk.{plus_one, child_uses, scan, scan_node}
use Rattle.arena.specs.Code.WalkWords.{uses_at, with_use, ValuesKept, visit, one_if, Uses, Visiting, Visited, Counting, CountedUp}
use Rattle.arena.proofs.DecodedNodes.{Fits, node_fits}
use Rattle.arena.proofs.Walk.Uses.{plus-edge, child-edges}
use Rattle.arena.proofs.Walk.Bounds.{edge_few, edges_few}
use Rattle.arena.proofs.Steps.Scratch.{length-use, use_same, use_other, values_same, values_then, node_product, node_single, node_blank}

pub uses_plus : (count : ℕ) (l l' : List ℕ) (u : ℕ → ℕ) (i : ℕ) → i < count → 4 * count ≤ length l → Uses count l u → l' ≡ with_use l i (uses_at l i + 1) → Uses count l' (plus_one i u)
uses_plus count l l' u i li long h e j lj = rw e (go (eqb j i) refl)
  where
    go : (b : Bool) → eqb j i ≡ b → uses_at (with_use l i (uses_at l i + 1)) j ≡ cond b (suc (u i)) (u j)
    go true q = rw (eqb-true j i q) (use_same l i (uses_at l i + 1) (omega arith) ∙ omega (arith, h i li))
    go false q = use_other l i (uses_at l i + 1) j (eqb-false j i q) ∙ h j lj

suc-some : (m : ℕ) → (m ≡ 0 → ⊥) → (k : ℕ) × (m ≡ suc k)
suc-some zero h = absurd (h refl)
suc-some (suc k) h = (k, refl)

module _ {words l : List ℕ} {k : ℕ} (g : Visiting words l k) where
  abbrev nd : PauliNode
  nd = node_at g.n words k

  pub visit-room : 4 * k + 1 < length l
  visit-room = omega (arith, g.long, g.low)

  pub visit-words : 2 * k + 1 < length words
  visit-words = omega (arith, g.nodes_long, g.low)

  module _ {u : ℕ} (u-is : u ≡ uses_at l k) where
    pub visit-none : u ≡ 0 → Visited g l 0
    visit-none z =
        let e : g.u k ≡ 0 = sym (g.uses k g.low) ∙ sym u-is ∙ z in
        record { uses = subst (λ (m : ℕ). Uses g.count l (visit m nd g.u)) (sym e) g.uses; one_is = ap one_if (sym e) }

    some_use : (u ≡ 0 → ⊥) → (m : ℕ) × (g.u k ≡ suc m)
    some_use ne = suc-some (g.u k) (λ e. ne (u-is ∙ g.uses k g.low ∙ e))

    visited : {l' : List ℕ} → (u ≡ 0 → ⊥) → Uses g.count l' (child_uses nd g.u) → Visited g l' 1
    visited {l'} ne h = let s = some_use ne in record { uses = subst (λ (m : ℕ). Uses g.count l' (visit m nd g.u)) (sym s.1) h; one_is = ap one_if (sym s.1) }

    module _ {a : ℕ} (a-is : a ≡ get_or words (2 * k) 0) where
      pub visit-leaf : (u ≡ 0 → ⊥) → (a % 4 ≡ 2 → ⊥) → Visited g l 1
      visit-leaf ne n₂ = visited ne (go (eqb (a % 4) 1) refl)
        where
          go : (b : Bool) → eqb (a % 4) 1 ≡ b → Uses g.count l (child_uses nd g.u)
          go true e = subst (λ x. Uses g.count l (child_uses x g.u)) (sym (node_single g.n words k g.well a-is refl (eqb-true (a % 4) 1 e)).0) g.uses
          go false e = subst (λ x. Uses g.count l (child_uses x g.u)) (sym (node_blank g.n words k g.well a-is refl n₂ (eqb-false (a % 4) 1 e))) g.uses

      module _ (n₂ : a % 4 ≡ 2) {b : ℕ} (b-is : b ≡ get_or words (2 * k + 1) 0) where
        product_is : nd ≡ Product (a / 4) b
        product_is = node_product g.n words k g.well a-is b-is n₂

        low_kids : (node_in (a / 4) < k) × (node_in b < k)
        low_kids = subst (Fits g.n k) product_is (node_fits g.n words k)

        pub left_low : node_in (a / 4) < g.count
        left_low = omega (arith, low_kids.0, g.low)

        pub right_low : node_in b < g.count
        right_low = omega (arith, low_kids.1, g.low)

        pub left_fits : (4 * (node_in (a / 4)) + 1 < length l) × (uses_at l (node_in (a / 4)) < 18446744073709551615)
        left_fits = (omega (arith, left_low, g.long), omega (arith, g.uses (node_in (a / 4)) left_low, g.few (node_in (a / 4))))

        module _ {l₁ : List ℕ} (e₁ : l₁ ≡ with_use l (node_in (a / 4)) (uses_at l (node_in (a / 4)) + 1)) where
          uses₁ : Uses g.count l₁ (plus_one (node_in (a / 4)) g.u)
          uses₁ = uses_plus g.count l l₁ g.u (node_in (a / 4)) left_low g.long g.uses e₁

          long₁ : 4 * g.count ≤ length l₁
          long₁ = omega (arith, ap length e₁ ∙ length-use l (node_in (a / 4)) (uses_at l (node_in (a / 4)) + 1), g.long)

          pub right_fits : (4 * (node_in b) + 1 < length l₁) × (uses_at l₁ (node_in b) < 18446744073709551615)
          right_fits = (omega (arith, right_low, long₁), omega (arith, uses₁ (node_in b) right_low, plus-edge (a / 4) (node_in b) g.u, edge_few (a / 4) (node_in b), g.few (node_in b)))

          pub visit-product : {l₂ : List ℕ} → (u ≡ 0 → ⊥) → l₂ ≡ with_use l₁ (node_in b) (uses_at l₁ (node_in b) + 1) → Visited g l₂ 1
          visit-product {l₂} ne e₂ = visited ne (subst (λ x. Uses g.count l₂ (child_uses x g.u)) (sym product_is)
              (uses_plus g.count l₁ l₂ (plus_one (node_in (a / 4)) g.u) (node_in b) right_low long₁ uses₁ e₂))

-- ---- the scan

module _ (node : ℕ → PauliNode) (k : ℕ) (v : ℕ → ℕ) where
  scan-visit : ((scan node (suc k) v).uses ≡ (scan node k (visit (v k) (node k) v)).uses) × ((scan node (suc k) v).reached ≡ one_if (v k) + (scan node k (visit (v k) (node k) v)).reached)
  scan-visit = go (v k)
    where
      go : (m : ℕ) → ((scan_node m (node k) (λ v. scan node k v) v).uses ≡ (scan node k (visit m (node k) v)).uses) × ((scan_node m (node k) (λ v. scan node k v) v).reached ≡ one_if m + (scan node k (visit m (node k) v)).reached)
      go zero = (refl, omega arith)
      go (suc m) = (refl, omega arith)

  visit-few : (j : ℕ) → visit (v k) (node k) v j ≤ v j + 2
  visit-few j = go (v k)
    where
      go : (m : ℕ) → visit m (node k) v j ≤ v j + 2
      go zero = omega arith
      go (suc m) = omega (arith, child-edges (node k) v j, edges_few (node k) j)

one_few : (m : ℕ) → one_if m ≤ 1
one_few zero = omega arith
one_few (suc m) = omega arith

pub record Scanning {words l₀ : List ℕ} {count : ℕ} (g : Counting words l₀ count) (l : List ℕ) (k reached : ℕ) : Type 0 where
  pub v : ℕ → ℕ
  pub uses : Uses count l v
  pub same_uses : (scan (node_at g.n words) count g.u).uses ≡ (scan (node_at g.n words) k v).uses
  pub same_reached : (scan (node_at g.n words) count g.u).reached ≡ reached + (scan (node_at g.n words) k v).reached
  pub few : (j : ℕ) → v j ≤ g.most + 2 * (count - k)
  pub upto : reached + k ≤ count
  pub long : length l ≡ length l₀
  pub marks : ValuesKept l₀ l

module _ {words l₀ : List ℕ} {count : ℕ} (g : Counting words l₀ count) where
  pub scan-begin : Scanning g l₀ count 0
  scan-begin = record { v = g.u; uses = g.uses; same_uses = refl; same_reached = omega arith; few = λ j. omega (arith, g.few j); upto = omega arith; long = refl; marks = values_same }

  module _ {l : List ℕ} {k reached : ℕ} (s : Scanning g l k reached) where
    pub scan-end : k ≡ 0 → CountedUp g l reached
    scan-end z = record {
      uses = subst (λ u. Uses count l u) (sym (s.same_uses ∙ ap (λ (m : ℕ). (scan (node_at g.n words) m s.v).uses) z)) s.uses;
      reached_is = sym (s.same_reached ∙ ap (λ (m : ℕ). reached + (scan (node_at g.n words) m s.v).reached) z ∙ omega arith);
    }

    module _ (ne : k ≡ 0 → ⊥) where
      abbrev pub visiting : Visiting words l (k - 1)
      visiting = record {
        count = count;
        n = g.n;
        u = s.v;
        uses = s.uses;
        long = omega (arith, g.long, s.long);
        low = omega (arith, s.upto);
        well = g.well (k - 1) (omega (arith, s.upto));
        nodes_long = g.nodes_long;
        nodes_few = g.nodes_few;
        few = λ j. omega (arith, s.few j, g.nodes_few, g.most_low);
      }

      pub scan-turn : {l' : List ℕ} {r : ℕ} → Visited visiting l' r → ValuesKept l l' → length l' ≡ length l → Scanning g l' (k - 1) (reached + r)
      scan-turn {l'} {r} m mk e =
          let node : ℕ → PauliNode = node_at g.n words in
          let q : k ≡ suc (k - 1) = omega arith in
          let x = scan-visit node (k - 1) s.v in
          record {
            v = visit (s.v (k - 1)) (node (k - 1)) s.v;
            uses = m.uses;
            same_uses = s.same_uses ∙ ap (λ (i : ℕ). (scan node i s.v).uses) q ∙ x.0;
            same_reached = s.same_reached ∙ ap (λ (i : ℕ). reached + (scan node i s.v).reached) q ∙ ap (λ (i : ℕ). reached + i) x.1 ∙ omega (arith, m.one_is);
            few = λ j. omega (arith, visit-few node (k - 1) s.v j, s.few j, s.upto);
            upto = omega (arith, s.upto, m.one_is, one_few (s.v (k - 1)));
            long = e ∙ s.long;
            marks = values_then s.marks mk;
          }

      pub one_more : {l' : List ℕ} {r : ℕ} → Visited visiting l' r → reached + r ≤ count
      one_more m = omega (arith, s.upto, m.one_is, one_few (s.v (k - 1)))
