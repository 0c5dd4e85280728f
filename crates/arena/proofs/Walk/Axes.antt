-- What the answers of expand_axes say, from its definition alone: the rows are the images of the axes, and the walk is the report's.
use mathlib.Core.Path.{◌≡◌, refl, ap, sym, ◌∙◌, subst}
use mathlib.Core.Bool.{Bool, true, false, ◌||◌}
use mathlib.Core.List.{List, [], ◌∷◌, ◌++◌, map, append_assoc}
use Prim.Native.Nat.{ℕ, zero, suc, ◌+◌, ◌*◌, ◌≤◌, ◌<◌}
use native.Mathlib.Nat.{suc-mul, not-suc-le-zero}
use native.Mathlib.Omega.{arith}
use borrow.Author.Tests.{ltb-true, ltb-false, le-ltb}
use lib.Dec.{ltb}
use lib.ListN.{length, take, drop, get_or, length-append, length-map, get_or-append}
use lib.Seq.{take_at, drop_at, drop-drop, get_or_at}
use Rattle.pauli.specs.Letters.{pauli_number, phase_number}
use Rattle.pauli.specs.Rows.{Row}
use Rattle.arena.specs.Errors.{BadStore, NoScratch, Checked, Fine, Wrong, ◌⟫◌⇒◌}
use Rattle.arena.specs.Nodes.{image}
use Rattle.arena.specs.Operations.{PbcOp}
use Rattle.arena.specs.Store.{Header, exceeds_operations}
use Rattle.arena.specs.Sparse.{Sparse, dense}
use Rattle.arena.specs.Walk.{Named, Out, fine, refused, bind, Answer, walk}
use Rattle.arena.specs.Readers.{Weighed, words_of, largest, Report, report_walk, Axes, axes_walk}
use Rattle.arena.specs.Expansion.{AxesMade, expanded_axes_of, bad_nodes, bad_operations, op_at, weighed_of, axes_to, room_in, walk_by, report_check, report_step, row_bytes, axes_bytes, axes_size, axes_check, rows_made, axes_by, axes_step}
use Rattle.arena.proofs.Accepted.{passed_before, test_passed, right-false}
use Rattle.arena.proofs.Walk.Means.{walk-means}
use Rattle.arena.proofs.Walk.Readers.{zero-is_one, spread-length, axes-named}
use Rattle.arena.proofs.Walk.Errors.{Limited, limited-bind, limited-walk, limited_not, errors_differ, bad_limit, bad_pool, refused-before, test_failed}

-- ---- rows in bytes

-- every row has n letters
abbrev Wide : ℕ → List Row → Type 0
Wide n [] = Unit {0}
Wide n (P ∷ Ps) = (length P.letters ≡ n) × Wide n Ps

wide-dense : (n : ℕ) (vs : List Sparse) → Wide n (map (dense n) vs)
unfolding dense
wide-dense n [] = tt
wide-dense n (v ∷ vs) = (spread-length n 0 v.factors, wide-dense n vs)

length-row : (n : ℕ) (P : Row) → length P.letters ≡ n → length (row_bytes P) ≡ n + 1
length-row n P e = length-append (map pauli_number P.letters) (phase_number P.phase ∷ []) ∙ ap (λ (k : ℕ). k + 1) (length-map P.letters pauli_number ∙ e)

pub length-dense : (n : ℕ) (v : Sparse) → length (row_bytes (dense n v)) ≡ n + 1
unfolding dense
length-dense n v = length-row n (dense n v) (spread-length n 0 v.factors)

-- row i starts at byte i × (n + 1)
row_at : (n : ℕ) (Ps : List Row) (d : Row) (rest : List ℕ) (i : ℕ) → Wide n Ps → i < length Ps
    → take (n + 1) (drop (i * (n + 1)) (axes_bytes Ps ++ rest)) ≡ row_bytes (get_or Ps i d)
row_at n [] d rest i wide lt = absurd (not-suc-le-zero lt)
row_at n (P ∷ Ps) d rest zero wide lt =
    let e : 0 * (n + 1) ≡ 0 = omega arith in
    ap (λ (k : ℕ). take (n + 1) (drop k ((row_bytes P ++ axes_bytes Ps) ++ rest))) e
    ∙ ap (take (n + 1)) (append_assoc (row_bytes P) (axes_bytes Ps) rest) ∙ take_at (row_bytes P) (axes_bytes Ps ++ rest) (n + 1) (length-row n P wide.0)
row_at n (P ∷ Ps) d rest (suc i) wide lt =
    let e : suc i * (n + 1) ≡ (n + 1) + i * (n + 1) = omega (arith, suc-mul i (n + 1)) in
    ap (λ (k : ℕ). take (n + 1) (drop k ((row_bytes P ++ axes_bytes Ps) ++ rest))) e
    ∙ ap (take (n + 1)) (sym (drop-drop (i * (n + 1)) (n + 1) ((row_bytes P ++ axes_bytes Ps) ++ rest)))
    ∙ ap (λ (l : List ℕ). take (n + 1) (drop (i * (n + 1)) l)) (ap (drop (n + 1)) (append_assoc (row_bytes P) (axes_bytes Ps) rest) ∙ drop_at (row_bytes P) (axes_bytes Ps ++ rest) (n + 1) (length-row n P wide.0))
    ∙ row_at n Ps d rest i wide.1 (omega arith)

-- ---- the axes in order

words_more : (xs : List Weighed) (x : Weighed) → length (words_of (xs ++ (x ∷ []))) ≡ suc (length (words_of xs))
words_more [] x = refl
words_more (y ∷ xs) x = ap (λ (n : ℕ). suc n) (words_more xs x)

pub axes-many : (op : ℕ → PbcOp) (k : ℕ) → length (words_of (axes_to op k)) ≡ k
axes-many op zero = refl
axes-many op (suc k) = words_more (axes_to op k) (weighed_of (op k)) ∙ ap (λ (n : ℕ). suc n) (axes-many op k)

module _ (op : ℕ → PbcOp) (im : ℕ → Row) (d : Row) where
  abbrev rows_to : ℕ → List Row
  rows_to k = map im (words_of (axes_to op k))

  snoc : (xs : List Weighed) (x : Weighed) → map im (words_of (xs ++ (x ∷ []))) ≡ map im (words_of xs) ++ (im x.word ∷ [])
  snoc [] x = refl
  snoc (y ∷ xs) x = ap (λ (l : List Row). im y.word ∷ l) (snoc xs x)

  length-rows : (k : ℕ) → length (rows_to k) ≡ k
  length-rows k = length-map (words_of (axes_to op k)) im ∙ axes-many op k

  axis_row : (k i : ℕ) → i < k → get_or (rows_to k) i d ≡ im (weighed_of (op i)).word
  axis_row zero i h = absurd (not-suc-le-zero h)
  axis_row (suc k) i h = ap (λ (l : List Row). get_or l i d) (snoc (axes_to op k) (weighed_of (op k))) ∙ go (ltb i k) refl (axis_row k i)
    where
      go : (b : Bool) → ltb i k ≡ b → (i < k → get_or (rows_to k) i d ≡ im (weighed_of (op i)).word) → get_or (rows_to k ++ (im (weighed_of (op k)).word ∷ [])) i d ≡ im (weighed_of (op i)).word
      go true e ih = let l = ltb-true i k e in get_or-append (rows_to k) _ d i (omega (arith, length-rows k)) ∙ ih l
      go false e ih =
          let s : i ≡ k = omega (arith, ltb-false i k e) in
          get_or_at (rows_to k) (im (weighed_of (op k)).word) [] d i (length-rows k ∙ sym s) ∙ ap (λ (j : ℕ). im (weighed_of (op j)).word) (sym s)

-- ---- the walk

module _ (limit room n count : ℕ) (words roots : List ℕ) where
  abbrev visits : Out Answer
  visits = walk limit room n count words roots

  abbrev rowed : Answer → Out Axes
  rowed a = fine (record { rows = map (dense n) a.shown; work = a.work })

  -- each row is an image, of n letters
  pub axes-mean : (x : Axes) → Named count roots → axes_walk limit room n count words roots ≡ fine x → (x.rows ≡ map (image n count words) roots) × Wide n x.rows
  unfolding axes_walk
  axes-mean x named = go visits refl
    where
      go : (o : Out Answer) → visits ≡ o → bind o rowed ≡ fine x → (x.rows ≡ map (image n count words) roots) × Wide n x.rows
      go (fine a) q e =
          let r : record { rows = map (dense n) a.shown; work = a.work } ≡ x = cc in
          (ap (λ (y : Axes). y.rows) (sym r) ∙ walk-means limit room n count words roots a named q, subst (λ (y : Axes). Wide n y.rows) r (wide-dense n a.shown))
      go (refused k) q e = let z : ◌≡◌ {A = ℕ} 0 1 = cc in absurd (zero-is_one z)

  limited-axes : Limited (axes_walk limit room n count words roots)
  unfolding axes_walk
  limited-axes = limited-bind visits rowed (limited-walk limit room n count words roots) (λ a. tt)

-- the work, of whatever was answered
abbrev axes_work : Out Axes → Out ℕ
axes_work o = bind o (λ x. fine x.work)

abbrev report_work : Out Report → Out ℕ
report_work o = bind o (λ x. fine x.work)

same_work : (limit room n count : ℕ) (words : List ℕ) (axes : List Weighed)
    → axes_work (axes_walk limit room n count words (words_of axes)) ≡ report_work (report_walk true limit room n count words axes)
unfolding axes_walk report_walk
same_work limit room n count words axes = go (walk limit room n count words (words_of axes))
  where
    go : (o : Out Answer) → axes_work (bind o (rowed limit room n count words (words_of axes))) ≡ report_work (bind o (λ a. fine (record { weights = largest true axes (map (λ v. length v.factors) a.shown); work = a.work })))
    go (fine a) = refl
    go (refused e) = refl

or-false : (b c : Bool) → c ≡ false → (b || c) ≡ b
or-false true c e = refl
or-false false c e = e

-- ---- the call

module _ (h : Header) (nodes ops rows scratch pool : List ℕ) (limit : ℕ) where
  abbrev axes : List Weighed
  axes = axes_to (op_at h ops) h.operations

  abbrev expands : Out Axes
  expands = axes_walk limit (room_in pool) h.qubits h.nodes nodes (words_of axes)

  abbrev images : List Row
  images = map (image h.qubits h.nodes nodes) (words_of axes)

  roots_named : axes_check h nodes ops (length rows) (length scratch) ≡ Fine → Named h.nodes (words_of axes)
  unfolding axes_check
  roots_named p = axes-named h ops h.operations
      (right-false (exceeds_operations h (length ops)) _ (right-false (bad_nodes h nodes) _ (test_passed _ _ _ (passed_before _ _ _ p))))

  -- the rows are the images, and stand in the bytes
  reads : (x : Axes) → (axes_step h nodes ops rows scratch pool limit).answer ≡ fine x
      → (x.rows ≡ images) × Wide h.qubits x.rows × ((axes_step h nodes ops rows scratch pool limit).rows ≡ axes_bytes x.rows ++ drop (axes_size h) rows)
  unfolding axes_step
  reads x = go (axes_check h nodes ops (length rows) (length scratch)) refl
    where
      go : (c : Checked) → axes_check h nodes ops (length rows) (length scratch) ≡ c → (axes_by c expands h rows scratch pool).answer ≡ fine x
          → (x.rows ≡ images) × Wide h.qubits x.rows × ((axes_by c expands h rows scratch pool).rows ≡ axes_bytes x.rows ++ drop (axes_size h) rows)
      go Fine p e =
          let m = axes-mean limit (room_in pool) h.qubits h.nodes nodes (words_of axes) x (roots_named p) e in
          (m.0, m.1, ap (λ o. rows_made o (axes_size h) ++ drop (axes_size h) rows) e)
      go (Wrong k) p e = let z : ◌≡◌ {A = ℕ} 0 1 = cc in absurd (zero-is_one z)

  pub axes-read : (x : Axes) → (axes_step h nodes ops rows scratch pool limit).answer ≡ fine x
      → (x.rows ≡ map (image h.qubits h.nodes nodes) (words_of (axes_to (op_at h ops) h.operations)))
      × ((axes_step h nodes ops rows scratch pool limit).rows ≡ axes_bytes (map (image h.qubits h.nodes nodes) (words_of (axes_to (op_at h ops) h.operations))) ++ drop (axes_size h) rows)
  axes-read x e = let r = reads x e in (r.0, r.2 ∙ ap (λ (Ps : List Row). axes_bytes Ps ++ drop (axes_size h) rows) r.0)

  pub axes-row : (x : Axes) (i : ℕ) → (axes_step h nodes ops rows scratch pool limit).answer ≡ fine x → i < h.operations
      → take (h.qubits + 1) (drop (i * (h.qubits + 1)) (axes_step h nodes ops rows scratch pool limit).rows)
      ≡ row_bytes (image h.qubits h.nodes nodes (weighed_of (op_at h ops i)).word)
  axes-row x i e lt =
      let r = reads x e in
      let d = image h.qubits h.nodes nodes 0 in
      let im = image h.qubits h.nodes nodes in
      let many : length x.rows ≡ h.operations = ap length r.0 ∙ length-rows (op_at h ops) im d h.operations in
      ap (λ (l : List ℕ). take (h.qubits + 1) (drop (i * (h.qubits + 1)) l)) r.2
      ∙ row_at h.qubits x.rows d (drop (axes_size h) rows) i r.1 (omega (arith, many))
      ∙ ap row_bytes (ap (λ (Ps : List Row). get_or Ps i d) r.0 ∙ axis_row (op_at h ops) im d h.operations i lt)

  same_checks : axes_size h ≤ length rows → axes_check h nodes ops (length rows) (length scratch) ≡ report_check h nodes ops (length scratch)
  unfolding axes_check report_check
  same_checks le = ap (λ b. Fine ⟫ bad_nodes h nodes || bad_operations h ops ⇒ BadStore ⟫ b ⇒ NoScratch)
      (or-false (ltb (length scratch) (4 * h.nodes)) (ltb (length rows) (axes_size h)) (le-ltb (length rows) (axes_size h) le))

  pub axes-work : axes_size h ≤ length rows
      → bind (axes_step h nodes ops rows scratch pool limit).answer (λ x. fine x.work) ≡ bind (report_step h nodes ops scratch pool limit).answer (λ x. fine x.work)
  unfolding axes_step report_step
  axes-work le = ap (λ c. axes_work (axes_by c expands h rows scratch pool).answer) (same_checks le) ∙ go (report_check h nodes ops (length scratch))
    where
      go : (c : Checked) → axes_work (axes_by c expands h rows scratch pool).answer
          ≡ report_work (walk_by c (report_walk true limit (room_in pool) h.qubits h.nodes nodes axes) h scratch pool).answer
      go Fine = same_work limit (room_in pool) h.qubits h.nodes nodes axes
      go (Wrong e) = refl

  axes-failed : axes_check h nodes ops (length rows) (length scratch) ≡ Wrong BadStore → (bad_nodes h nodes || bad_operations h ops) ≡ true
  unfolding axes_check
  axes-failed p = test_failed _ _ _ (refused-before _ _ NoScratch BadStore (errors_differ _ _ (λ q. omega arith)) p)

  pub axes-bad : (axes_step h nodes ops rows scratch pool limit).answer ≡ refused BadStore → (bad_nodes h nodes || bad_operations h ops) ≡ true
  unfolding axes_step
  axes-bad = go (axes_check h nodes ops (length rows) (length scratch)) refl
    where
      go : (c : Checked) → axes_check h nodes ops (length rows) (length scratch) ≡ c → (axes_by c expands h rows scratch pool).answer ≡ refused BadStore
          → (bad_nodes h nodes || bad_operations h ops) ≡ true
      go Fine p e = absurd (limited_not expands BadStore (limited-axes limit (room_in pool) h.qubits h.nodes nodes (words_of axes)) bad_limit bad_pool e)
      go (Wrong k) p e = let same : k ≡ BadStore = cc in axes-failed (p ∙ ap Wrong same)

  -- what a caller gets
  pub axes-answers : (work : ℕ) → expanded_axes_of (axes_step h nodes ops rows scratch pool limit).answer ≡ AxesMade work
      → (axes_step h nodes ops rows scratch pool limit).rows
      ≡ axes_bytes (map (image h.qubits h.nodes nodes) (words_of (axes_to (op_at h ops) h.operations))) ++ drop (axes_size h) rows
  axes-answers work = go (axes_step h nodes ops rows scratch pool limit).answer refl
    where
      go : (y : Out Axes) → (axes_step h nodes ops rows scratch pool limit).answer ≡ y → expanded_axes_of y ≡ AxesMade work
          → (axes_step h nodes ops rows scratch pool limit).rows ≡ axes_bytes images ++ drop (axes_size h) rows
      go (fine x) q e = (axes-read x q).1
      go (refused k) q e = let z : ◌≡◌ {A = ℕ} 0 1 = cc in absurd (zero-is_one z)
