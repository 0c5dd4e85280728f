-- A frame gate on words is that gate on the rows that they stand for.
use mathlib.Core.Path.{◌≡◌, refl, ap, ap₂, sym, ◌∙◌}
use mathlib.Core.List.{List, [], ◌∷◌, ◌++◌, map}
use Prim.Native.Nat.{ℕ, zero, suc, ◌+◌, ◌*◌, ◌≤◌, ◌<◌}
use native.Mathlib.Nat.{not-suc-le-zero, le_of_suc-le-suc}
use native.Mathlib.Omega.{arith}
use lib.ListN.{length, get_or, set, length-append, length-map, length-set, get_or-map}
use Rattle.pauli.specs.Letters.{phase_number}
use Rattle.pauli.specs.Rows.{Row, ◌★◌, scaled, identity}
use Rattle.pauli.specs.Gates.{Gate, gate_h, gate_x, gate_z, gate_s, gate_sdg, gate_cnot, gate_cz, Valid}
use Rattle.pauli.specs.Table.{x_row, z_row, step}
use Rattle.arena.specs.References.{scaled_word}
use Rattle.arena.specs.Nodes.{image}
use Rattle.arena.proofs.NodeRows.{image-scaled}
use Rattle.convert.specs.Types.{Phase, One, PlusI, MinusOne, MinusI}
use Rattle.convert.specs.Frame.{Arena, word, pushed, stored, multiplied, frame_step}
use Rattle.convert.proofs.Meaning.Nodes.{phase_small, image-append, image-product}

minus_under : (k w : ℕ) → w < 4 * k → scaled_word MinusOne w < 4 * k
minus_under k w lt = omega arith

-- one more node of two words
abbrev pub appended : ℕ → ℕ → Arena → Arena
appended a b s = record { count = suc s.count; nodes = s.nodes ++ a ∷ b ∷ []; frame = s.frame }

-- the words name nodes below k
abbrev pub Under : ℕ → List ℕ → Type 0
Under k [] = Unit {0}
Under k (w ∷ ws) = (w < 4 * k) × Under k ws

under_get_or : (k : ℕ) (ws : List ℕ) (i : ℕ) → 0 < k → Under k ws → get_or ws i 0 < 4 * k
under_get_or k [] i pos u = omega arith
under_get_or k (w ∷ ws) zero pos u = u.0
under_get_or k (w ∷ ws) (suc i) pos u = under_get_or k ws i pos u.1

under-set : (k : ℕ) (ws : List ℕ) (i w : ℕ) → w < 4 * k → Under k ws → Under k (set ws i w)
under-set k [] i w lt u = tt
under-set k (v ∷ ws) zero w lt u = (lt, u.1)
under-set k (v ∷ ws) (suc i) w lt u = (u.0, under-set k ws i w lt u.1)

pub under_more : (k m : ℕ) (ws : List ℕ) → k ≤ m → Under k ws → Under m ws
under_more k m [] le u = tt
under_more k m (w ∷ ws) le u = (omega (arith, u.0), under_more k m ws le u.1)

map-set : {A B : Type 0} (f : A → B) (l : List A) (i : ℕ) (a : A) → map f (set l i a) ≡ set (map f l) i (f a)
map-set f [] i a = refl
map-set f (x ∷ l) zero a = refl
map-set f (x ∷ l) (suc i) a = ap (λ r. f x ∷ r) (map-set f l i a)

-- s' has all that s has, unchanged
pub record Keeps (n : ℕ) (s s' : Arena) : Type 0 where
  pub more : s.count ≤ s'.count
  pub same : (w : ℕ) → w < 4 * s.count → image n s'.count s'.nodes w ≡ image n s.count s.nodes w

pub keeps_trans : {n : ℕ} {s s' s'' : Arena} → Keeps n s s' → Keeps n s' s'' → Keeps n s s''
keeps_trans K L = record { more = omega (arith, K.more, L.more); same = λ w lt. L.same w (omega (arith, K.more)) ∙ K.same w lt }

pub kept_map : (n : ℕ) (s s' : Arena) → Keeps n s s' → (ws : List ℕ) → Under s.count ws → map (image n s'.count s'.nodes) ws ≡ map (image n s.count s.nodes) ws
kept_map n s s' K [] u = refl
kept_map n s s' K (w ∷ ws) u = ap₂ ◌∷◌ (K.same w u.0) (kept_map n s s' K ws u.1)

-- a row within a list, whatever stands for those outside
get_or_within : (l : List Row) (i : ℕ) (d d' : Row) → i < length l → get_or l i d ≡ get_or l i d'
get_or_within [] i d d' lt = absurd (not-suc-le-zero lt)
get_or_within (x ∷ l) zero d d' lt = refl
get_or_within (x ∷ l) (suc i) d d' lt = get_or_within l i d d' (le_of_suc-le-suc lt)

-- the 2n frame words of s stand for the rows t
pub record Shows (n : ℕ) (s : Arena) (t : List Row) : Type 0 where
  pub even : length s.nodes ≡ 2 * s.count
  pub some : 0 < s.count
  pub size : length s.frame ≡ n + n
  pub under : Under s.count s.frame
  pub rows : map (image n s.count s.nodes) s.frame ≡ t

module _ (n : ℕ) (s : Arena) (t : List Row) (S : Shows n s t) where
  pub shown : (i : ℕ) → i < n + n → image n s.count s.nodes (word s i) ≡ get_or t i (identity n)
  shown i lt = sym (get_or-map (image n s.count s.nodes) s.frame i 0)
      ∙ get_or_within (map (image n s.count s.nodes) s.frame) i _ (identity n) (rw length-map (omega (arith, S.size)))
      ∙ ap (λ l. get_or l i (identity n)) S.rows

  pub word-under : (i : ℕ) → word s i < 4 * s.count
  word-under i = under_get_or s.count s.frame i S.some S.under

  pub shows-stored : (i w : ℕ) (P : Row) → w < 4 * s.count → image n s.count s.nodes w ≡ P → Shows n (stored i w s) (set t i P)
  shows-stored i w P lt e = record {
    even = S.even;
    some = S.some;
    size = length-set s.frame i w ∙ S.size;
    under = under-set s.count s.frame i w lt S.under;
    rows = map-set (image n s.count s.nodes) s.frame i w ∙ ap₂ (λ l Q. set l i Q) S.rows e;
  }

  pub keeps-appended : (a b : ℕ) → Keeps n s (appended a b s)
  keeps-appended a b = record { more = omega arith; same = λ w lt. image-append n s.count s.nodes S.even (suc s.count) _ w (omega arith) lt }

  pub shows-appended : (a b : ℕ) → Shows n (appended a b s) t
  shows-appended a b = record {
    even = simp length-append (omega (arith, S.even));
    some = omega arith;
    size = S.size;
    under = under_more s.count (suc s.count) s.frame (omega arith) S.under;
    rows = kept_map n s (appended a b s) (keeps-appended a b) s.frame S.under ∙ S.rows;
  }

  pub keeps-pushed : (l r : ℕ) → Keeps n s (pushed l r s)
  unfolding pushed
  keeps-pushed l r = keeps-appended _ r

  pub shows-pushed : (l r : ℕ) → Shows n (pushed l r s) t
  unfolding pushed
  shows-pushed l r = shows-appended _ r

  pub new-image : (l r : ℕ) (p : Phase) → l < 4 * s.count → r < 4 * s.count
      → image n (pushed l r s).count (pushed l r s).nodes (4 * s.count + phase_number p) ≡ scaled p (image n s.count s.nodes l ★ image n s.count s.nodes r)
  unfolding pushed
  new-image l r p hl hr = image-product n s.count s.nodes S.even l r p hl hr

pushed-bound : (l r : ℕ) (p : Phase) (s : Arena) → 4 * s.count + phase_number p < 4 * (pushed l r s).count
unfolding pushed
pushed-bound l r p s = let h = phase_small p in omega arith

-- the product of two places
pub shows-multiplied : (n : ℕ) (s : Arena) (t : List Row) → Shows n s t → (i l r : ℕ) (p : Phase) → l < n + n → r < n + n
    → Shows n (multiplied i l r p s) (set t i (scaled p (get_or t l (identity n) ★ get_or t r (identity n))))
unfolding multiplied
shows-multiplied n s t S i l r p hl hr =
    shows-stored n (pushed (word s l) (word s r) s) t (shows-pushed n s t S (word s l) (word s r)) i (4 * s.count + phase_number p)
    (scaled p (get_or t l (identity n) ★ get_or t r (identity n)))
    (pushed-bound (word s l) (word s r) p s)
    (new-image n s t S (word s l) (word s r) p (word-under n s t S l) (word-under n s t S r) ∙ ap₂ (λ P Q. scaled p (P ★ Q)) (shown n s t S l hl) (shown n s t S r hr))

pub keeps-multiplied : (n : ℕ) (s : Arena) (t : List Row) → Shows n s t → (i l r : ℕ) (p : Phase) → Keeps n s (multiplied i l r p s)
unfolding multiplied
keeps-multiplied n s t S i l r p = record { more = (keeps-pushed n s t S (word s l) (word s r)).more; same = (keeps-pushed n s t S (word s l) (word s r)).same }

module _ (n : ℕ) (s : Arena) (t : List Row) (S : Shows n s t) where
  at_x : (q : ℕ) → q < n → image n s.count s.nodes (word s q) ≡ x_row n t q
  at_x q h = shown n s t S q (omega arith)

  at_z : (q : ℕ) → q < n → image n s.count s.nodes (word s (n + q)) ≡ z_row n t q
  at_z q h = shown n s t S (n + q) (omega arith)

  first_cnot : (c u : ℕ) → c < n → u < n → Shows n (multiplied c c u One s) (set t c (x_row n t c ★ x_row n t u))
  first_cnot c u hc hu = shows-multiplied n s t S c c u One (omega arith) (omega arith)

  first_cz : (c u : ℕ) → c < n → u < n → Shows n (multiplied c c (n + u) One s) (set t c (x_row n t c ★ z_row n t u))
  first_cz c u hc hu = shows-multiplied n s t S c c (n + u) One (omega arith) (omega arith)

  -- the frame gate's words stand for the table's rows after the same gate
  pub shows-step : (g : Gate) → Valid n g → Shows n (frame_step n g s) (step n g t)
  unfolding frame_step step
  shows-step (gate_h q) v = shows-stored n (stored q (word s (n + q)) s) (set t q (z_row n t q))
      (shows-stored n s t S q (word s (n + q)) (z_row n t q) (word-under n s t S (n + q)) (at_z q v))
      (n + q) (word s q) (x_row n t q) (word-under n s t S q) (at_x q v)
  shows-step (gate_x q) v = shows-stored n s t S (n + q) (scaled_word MinusOne (word s (n + q))) (scaled MinusOne (z_row n t q))
      (minus_under s.count (word s (n + q)) (word-under n s t S (n + q))) (image-scaled n s.count s.nodes MinusOne (word s (n + q)) ∙ ap (scaled MinusOne) (at_z q v))
  shows-step (gate_z q) v = shows-stored n s t S q (scaled_word MinusOne (word s q)) (scaled MinusOne (x_row n t q))
      (minus_under s.count (word s q) (word-under n s t S q)) (image-scaled n s.count s.nodes MinusOne (word s q) ∙ ap (scaled MinusOne) (at_x q v))
  shows-step (gate_s q) v = shows-multiplied n s t S q q (n + q) MinusI (omega arith) (omega arith)
  shows-step (gate_sdg q) v = shows-multiplied n s t S q q (n + q) PlusI (omega arith) (omega arith)
  shows-step (gate_cnot c u) v = shows-multiplied n (multiplied c c u One s) (set t c (x_row n t c ★ x_row n t u)) (first_cnot c u v.0 v.1)
      (n + u) (n + c) (n + u) One (omega (arith, v.0)) (omega (arith, v.1))
  shows-step (gate_cz c u) v = shows-multiplied n (multiplied c c (n + u) One s) (set t c (x_row n t c ★ z_row n t u)) (first_cz c u v.0 v.1)
      u (n + c) u One (omega (arith, v.0)) (omega (arith, v.1))

  pub keeps-step : (g : Gate) → Valid n g → Keeps n s (frame_step n g s)
  unfolding frame_step
  keeps-step (gate_h q) v = record { more = omega arith; same = λ w lt. refl }
  keeps-step (gate_x q) v = record { more = omega arith; same = λ w lt. refl }
  keeps-step (gate_z q) v = record { more = omega arith; same = λ w lt. refl }
  keeps-step (gate_s q) v = keeps-multiplied n s t S q q (n + q) MinusI
  keeps-step (gate_sdg q) v = keeps-multiplied n s t S q q (n + q) PlusI
  keeps-step (gate_cnot c u) v = keeps_trans (keeps-multiplied n s t S c c u One)
      (keeps-multiplied n (multiplied c c u One s) _ (first_cnot c u v.0 v.1) (n + u) (n + c) (n + u) One)
  keeps-step (gate_cz c u) v = keeps_trans (keeps-multiplied n s t S c c (n + u) One)
      (keeps-multiplied n (multiplied c c (n + u) One s) _ (first_cz c u v.0 v.1) u (n + c) u One)
