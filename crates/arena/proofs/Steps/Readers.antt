-- Readers of one reference: what the checks give to a walk, what is read from it, and what is left of scratch and pool.
use mathlib.Core.Path.{◌≡◌, refl, ap, ap₂, sym, ◌∙◌, subst}
use mathlib.Core.Logic.{◌≢◌}
use mathlib.Core.Bool.{Bool, true, false, cond, ◌||◌}
use mathlib.Core.List.{List, [], ◌∷◌, ◌++◌}
use Prim.Native.Nat.{ℕ, zero, suc, ◌+◌, ◌*◌, ◌-◌, ◌/◌, ◌%◌, ◌≤◌, ◌<◌}
use native.Mathlib.Nat.{not-suc-le-zero}
use native.Mathlib.Omega.{arith}
use borrow.Author.Tests.{le-leb, lt-leb, ltb-true, ltb-false}
use lib.Dec.{leb, ltb}
use lib.ListN.{length, take, drop, replicate, length-take, length-drop, length-append, get_or-append}
use Rattle.pauli.specs.Letters.{power, phase_number, real}
use Rattle.pauli.specs.Rows.{Row}
use Rattle.pauli.proofs.Numbers.{phase_number-small}
use Rattle.arena.specs.Types.{Phase, One, PlusI, MinusOne, MinusI}
use Rattle.arena.specs.Errors.{PbcError, ExpansionLimit, NonHermitianAxis, Fine}
use Rattle.arena.specs.References.{PauliRef, node_in}
use Rattle.arena.specs.Nodes.{PauliNode, Malformed, node_at, factors_commute}
use Rattle.arena.specs.Store.{Header, breaks_limit, exceeds_nodes}
use Rattle.arena.specs.Sparse.{Sparse, spread, dense}
use Rattle.arena.specs.Walk.{Out, fine, refused, bind, Walked, walk_nodes, answer_of, walk}
use Rattle.arena.specs.Readers.{first_of, Expanded, expanded_of, expand_walk, hermitian_walk}
use Rattle.arena.specs.Code.Results.{Ledger, Value, Says}
use Rattle.arena.specs.Code.WalkWords.{turn_in, RootReady, TurnIs, Settled, Showing, ShowReady, bytes, letters_written}
use Rattle.arena.specs.Expansion.{expansion_of, ExpansionMade, is_malformed, any_malformed, bad_nodes, letters_left, scratch_left, expand_check, hermitian_check, cleared}
use Rattle.arena.specs.Code.Roots.{Fit}
use Rattle.arena.proofs.Accepted.{passed_before, test_passed, left_false, right-false, Sound, sound, own}
use Rattle.arena.proofs.NodeRows.{Older, older, image-older}
use Rattle.arena.proofs.Walk.Outcomes.{bind-fine}
use Rattle.arena.proofs.Walk.UpToRoot.{walk_upto}
use Rattle.arena.proofs.Walk.Readers.{spread-length}
use Rattle.arena.proofs.Steps.Saying.{said-fine, said-refused, says_as, says_on}
use Rattle.arena.specs.Limits.{cap_of}

-- ---- what passed the checks

not_malformed : (x : PauliNode) → is_malformed x ≡ false → x ≢ Malformed
not_malformed x e q = let z : true ≡ false = sym (ap is_malformed q) ∙ e in let y : ◌≡◌ {A = ℕ} 0 1 = cc in omega arith

all_well : (node : ℕ → PauliNode) (k : ℕ) → any_malformed node k ≡ false → (i : ℕ) → i < k → node i ≢ Malformed
all_well node zero e i l = absurd (not-suc-le-zero l)
all_well node (suc k) e i l = go (ltb i k) refl (all_well node k (left_false (any_malformed node k) (is_malformed (node k)) e) i)
  where
    go : (b : Bool) → ltb i k ≡ b → (i < k → node i ≢ Malformed) → node i ≢ Malformed
    go true q ih = ih (ltb-true i k q)
    go false q ih = let s : i ≡ k = omega (arith, ltb-false i k q) in subst (λ (j : ℕ). node j ≢ Malformed) (sym s) (not_malformed (node k) (right-false (any_malformed node k) (is_malformed (node k)) e))

-- header, nodes and scratch serve a walk
pub record Walkable (h : Header) (words : List ℕ) (scratch : ℕ) : Type 0 where
  pub header : Sound h
  pub nodes_long : 2 * h.nodes ≤ length words
  pub well : (i : ℕ) → i < h.nodes → node_at h.qubits words i ≢ Malformed
  pub scratch_long : 4 * h.nodes ≤ scratch

pub walkable : (h : Header) (words : List ℕ) (scratch : ℕ) → bad_nodes h words ≡ false → ltb scratch (4 * h.nodes) ≡ false → Walkable h words scratch
unfolding exceeds_nodes
walkable h words scratch e s =
    let front = left_false (breaks_limit h || exceeds_nodes h (length words)) _ e in
    record {
      header = sound h (left_false (breaks_limit h) _ front);
      nodes_long = ltb-false _ _ (right-false (breaks_limit h) _ front);
      well = all_well (node_at h.qubits words) h.nodes (right-false (breaks_limit h || exceeds_nodes h (length words)) _ e);
      scratch_long = ltb-false _ _ s;
    }

pub fits_expand : (h : Header) (words : List ℕ) (r : PauliRef) (letters scratch : ℕ) → expand_check h words r letters scratch ≡ Fine
    → Walkable h words scratch × (node_in r.word < h.nodes) × (h.qubits ≤ letters)
unfolding expand_check
fits_expand h words r letters scratch e =
    let e₂ = passed_before _ _ _ e in
    let t = test_passed _ _ _ e in
    (walkable h words scratch (test_passed _ _ _ (passed_before _ _ _ e₂)) (left_false (ltb scratch (4 * h.nodes)) _ t), (own h r (test_passed _ _ _ e₂)).used, ltb-false _ _ (right-false (ltb scratch (4 * h.nodes)) _ t))

pub fits_hermitian : (h : Header) (words : List ℕ) (r : PauliRef) (scratch : ℕ) → hermitian_check h words r scratch ≡ Fine → Walkable h words scratch × (node_in r.word < h.nodes)
unfolding hermitian_check
fits_hermitian h words r scratch e =
    let e₂ = passed_before _ _ _ e in
    (walkable h words scratch (test_passed _ _ _ (passed_before _ _ _ e₂)) (test_passed _ _ _ e), (own h r (test_passed _ _ _ e₂)).used)

-- ---- a part of a slice lent

pub part_long : (l : List ℕ) (k : ℕ) → k ≤ length l → length (take k l) ≡ k
part_long l k h = simp length-take (omega arith)

pub fit_part : (h : Header) (words l : List ℕ) (used : ℕ) → used ≡ 4 * h.nodes → Walkable h words (length l) → Fit h words (take used l)
fit_part h words l used e w = record {
  long = omega (arith, part_long l used (omega (arith, w.scratch_long)), w.scratch_long);
  well = w.well;
  qubits_few = w.header.qubits;
  nodes_long = w.nodes_long;
  nodes_few = w.header.nodes;
}

pub cap_fits : (p : List ℕ) (c : ℕ) → c ≡ cap_of (length p) → 3 * c ≤ length p
cap_fits p c e = omega arith

pub room_same : (p : List ℕ) (c : ℕ) → c ≡ cap_of (length p) → cap_of (length (take (3 * c) p)) - 1 ≡ cap_of (length p) - 1
room_same p c e = let q = part_long p (3 * c) (cap_fits p c e) in omega arith

drop-front : (x y : List ℕ) (k : ℕ) → length x ≡ k → drop k (x ++ y) ≡ y
drop-front [] y zero e = refl
drop-front [] y (suc k) e = absurd (omega arith)
drop-front (a ∷ x) y zero e = absurd (omega arith)
drop-front (a ∷ x) y (suc k) e = drop-front x y k (omega arith)

-- a front written over, then filled: only the rest counts
pub front_filled : (l x : List ℕ) (k : ℕ) → length x ≡ k → replicate k 0 ++ drop k (x ++ drop k l) ≡ replicate k 0 ++ drop k l
front_filled l x k e = ap (λ (y : List ℕ). replicate k 0 ++ y) (drop-front x (drop k l) k e)

pub front_long : (l x : List ℕ) (k : ℕ) → k ≤ length l → length x ≡ k → length (x ++ drop k l) ≡ length l
front_long l x k h e = length-append x (drop k l) ∙ simp length-drop (omega arith)

pub front-cleared : (p x : List ℕ) (c : ℕ) → c ≡ cap_of (length p) → length x ≡ 3 * c → cleared (x ++ drop (3 * c) p) ≡ cleared p
front-cleared p x c e lx =
    let same : length (x ++ drop (3 * c) p) ≡ length p = front_long p x (3 * c) (cap_fits p c e) lx in
    let cap : 3 * cap_of (length (x ++ drop (3 * c) p)) ≡ 3 * c = ap (λ (n : ℕ). 3 * cap_of n) same ∙ ap (λ (n : ℕ). 3 * n) (sym e) in
    ap (λ (n : ℕ). replicate n 0 ++ drop n (x ++ drop (3 * c) p)) cap ∙ front_filled p x (3 * c) lx ∙ ap (λ (n : ℕ). replicate (3 * n) 0 ++ drop (3 * n) p) e

pub zero-front : (l x : List ℕ) (k : ℕ) → k ≤ length l → x ≡ replicate (length (take k l)) 0 → x ++ drop k l ≡ replicate k 0 ++ drop k l
zero-front l x k h e = ap (λ (y : List ℕ). y ++ drop k l) (e ∙ ap (λ (m : ℕ). replicate m 0) (part_long l k h))

-- ---- what is read

abbrev pub ready_of : {h : Header} {words l : List ℕ} (w : ℕ) → Fit h words l → node_in w < h.nodes → RootReady words l (node_in w + 1) w
ready_of {h} w f named = record {
  n = h.qubits;
  named = omega arith;
  long = omega (arith, f.long);
  well = λ i l. f.well i (omega arith);
  qubits_few = f.qubits_few;
  nodes_long = omega (arith, f.nodes_long);
  nodes_few = omega (arith, f.nodes_few);
}

-- a part of the scratch serves as well
abbrev pub ready_part : {words l : List ℕ} {count w k : ℕ} → RootReady words l count w → k ≡ 4 * count → RootReady words (take k l) count w
ready_part {l = l} {k = k} g e = record {
  n = g.n;
  named = g.named;
  long = omega (arith, part_long l k (omega (arith, g.long)));
  well = g.well;
  qubits_few = g.qubits_few;
  nodes_long = g.nodes_long;
  nodes_few = g.nodes_few;
}

-- and a scratch as long
abbrev pub ready_long : {words l l' : List ℕ} {count w : ℕ} → RootReady words l count w → length l' ≡ length l → RootReady words l' count w
ready_long g e = record {
  n = g.n;
  named = g.named;
  long = omega (arith, g.long);
  well = g.well;
  qubits_few = g.qubits_few;
  nodes_long = g.nodes_long;
  nodes_few = g.nodes_few;
}

-- what stands in the scratch up to the root stands in the whole scratch, among however many nodes
module _ (n : ℕ) (words : List ℕ) (i count : ℕ) (low : i < count) (l rest : List ℕ) (long : 4 * (i + 1) ≤ length l) where
  turn_whole : (v : ℕ) → node_in v < i + 1 → TurnIs n (i + 1) words l v → TurnIs n count words (l ++ rest) v
  turn_whole v lt e =
      ap (λ (m : ℕ). (v % 4 + turn_in m) % 4) (get_or-append l rest 0 (4 * (v / 4) + 2) (omega arith)) ∙ e
      ∙ ap (λ (P : Row). phase_number P.phase) (sym (image-older n (i + 1) count words words v lt (omega arith) refl))

  settled_whole : Settled n (i + 1) words l i → Settled n count words (l ++ rest) i
  settled_whole s = record {
    own = turn_whole (4 * i) (omega arith) s.own;
    factors = λ a b e.
        let old : (node_in a < i) × (node_in b < i) = subst (Older i) e (older n words i) in
        (turn_whole a (omega arith) (s.factors a b e).0, turn_whole b (omega arith) (s.factors a b e).1);
  }

-- and the walk up to the root says what the whole one does
pub whole-walk : (limit room n : ℕ) (words : List ℕ) (w count : ℕ) {l p : List ℕ} (rest : List ℕ) {y : Out (Value × Ledger)} → node_in w < count → 4 * (node_in w + 1) ≤ length l
    → Says (walk_nodes limit room (node_at n words) (node_in w + 1) (w ∷ [])) y (Showing n (node_in w + 1) words w l p)
    → Says (walk_nodes limit room (node_at n words) count (w ∷ [])) y (Showing n count words w (l ++ rest) p)
whole-walk limit room n words w count {l} {p} rest {y} named long h =
    says_as (says_on h (λ r. r) (Showing n count words w (l ++ rest) p) (λ r b s. record {
      x = s.x;
      who = s.who;
      tag = s.tag;
      shown_is = s.shown_is;
      value = s.value;
      work_is = s.work_is;
      settled = settled_whole n words (node_in w) count named l rest long s.settled;
    })) (sym (walk_upto limit room n words w count named) ∙ sym (bind-fine (walk_nodes limit room (node_at n words) (node_in w + 1) (w ∷ []))))

-- the same of what the slices hold after the walk
pub given_back : {n count w : ℕ} {words l l' p p' : List ℕ} {x : Out Walked} {y z : Out (Value × Ledger)} → Says x y (Showing n count words w l p) → y ≡ z → l' ≡ l → p' ≡ p
    → Says x z (Showing n count words w l' p')
given_back {n} {count} {w} {words} {l} {p = p} {x = x} s e a b = rw (a, b) (subst (λ o. Says x o (Showing n count words w l p)) e s)

abbrev expand_of : (n count : ℕ) → (words : List ℕ) → (w : ℕ) → Bool → Out Walked → Out Expanded
expand_of n count words w b x = cond b (bind (bind x (λ r. fine (answer_of r))) (λ a. fine (expanded_of n count words w a))) (refused ExpansionLimit)

abbrev axis_in : Out Walked → Out ℕ
axis_in x = bind (bind x (λ r. fine (answer_of r))) (λ a. cond (real (first_of a.shown).phase) (fine a.work) (refused NonHermitianAxis))

power-number : (p : Phase) → power (phase_number p) ≡ p
unfolding power
power-number One = refl
power-number PlusI = refl
power-number MinusOne = refl
power-number MinusI = refl

odd_phase : (p : Phase) → phase_number p % 2 ≡ 1 → real p ≡ false
odd_phase One e = let z : ◌≡◌ {A = ℕ} 0 1 = e in absurd (omega arith)
odd_phase PlusI e = refl
odd_phase MinusOne e = let z : ◌≡◌ {A = ℕ} 0 1 = e in absurd (omega arith)
odd_phase MinusI e = refl

even_phase : (p : Phase) → (phase_number p % 2 ≡ 1 → ⊥) → real p ≡ true
even_phase One e = refl
even_phase PlusI e = absurd (e refl)
even_phase MinusOne e = refl
even_phase MinusI e = absurd (e refl)

module _ (n count : ℕ) (words : List ℕ) (w room : ℕ) where
  abbrev pub walked : ℕ → Out Walked
  walked limit = walk_nodes limit room (node_at n words) count (w ∷ [])

  expand_by : (cells : ℕ) → expand_walk cells room n count words w ≡ expand_of n count words w (leb n cells) (walked (cells - n))
  unfolding expand_walk walk
  expand_by cells = refl

  axis_by : (limit : ℕ) → hermitian_walk limit room n count words w ≡ axis_in (walked limit)
  unfolding hermitian_walk walk
  axis_by limit = refl

  pub expand_low : (cells : ℕ) → cells < n → expand_walk cells room n count words w ≡ refused ExpansionLimit
  expand_low cells lt = expand_by cells ∙ ap (λ b. expand_of n count words w b (walked (cells - n))) (lt-leb n cells lt)

  module _ (limit : ℕ) {l p : List ℕ} {y : Out (Value × Ledger)} (s : Says (walk_nodes limit room (node_at n words) count (w ∷ [])) y (Showing n count words w l p)) where
    pub axis-refused : {e : PbcError} → y ≡ refused e → hermitian_walk limit room n count words w ≡ refused e
    axis-refused q = axis_by limit ∙ ap axis_in (said-refused s q)

    pub expand-refused : {e : PbcError} (cells : ℕ) → n ≤ cells → limit ≡ cells - n → y ≡ refused e → expand_walk cells room n count words w ≡ refused e
    expand-refused cells le e q = expand_by cells ∙ ap₂ (expand_of n count words w) (le-leb n cells le) (ap walked (sym e) ∙ said-refused s q)

    module _ {v : Value} {left : Ledger} (z : y ≡ fine (v, left)) where
      abbrev pub seen : (r : Walked) × (walk_nodes limit room (node_at n words) count (w ∷ []) ≡ fine r) × Showing n count words w l p r (v, left)
      seen = said-fine s z

      abbrev pub x : Sparse
      x = seen.2.x

      abbrev pub to_show : ShowReady p v.head v.count
      to_show = record { who = seen.2.who; tag = seen.2.tag; fs = seen.2.x.factors; chain = seen.2.value.chain; counted = seen.2.value.count_is }

      first_is : first_of seen.0.shown ≡ x
      first_is = ap first_of seen.2.shown_is

      abbrev made : Expanded
      made = record { row = dense n x; work = left.work; commute = factors_commute n count words (node_at n words (node_in w)) }

      expand-made : (cells : ℕ) → n ≤ cells → limit ≡ cells - n → expand_walk cells room n count words w ≡ fine made
      expand-made cells le e = expand_by cells ∙ ap₂ (expand_of n count words w) (le-leb n cells le) (ap walked (sym e) ∙ seen.1)
          ∙ ap₂ (λ (u : Sparse) (k : ℕ). fine (record { row = dense n u; work = k; commute = factors_commute n count words (node_at n words (node_in w)) })) first_is (sym seen.2.work_is)

      pub expand_answer : (cells : ℕ) → n ≤ cells → limit ≡ cells - n → {q : Phase} {b : Bool} → q ≡ power (v.phase % 4) → b ≡ factors_commute n count words (node_at n words (node_in w))
          → ExpansionMade q left.work b ≡ expansion_of (expand_walk cells room n count words w)
      unfolding dense
      expand_answer cells le e {q} {b} q-is b-is =
          let small : v.phase % 4 ≡ v.phase = omega (arith, seen.2.value.phase_is, phase_number-small x.phase) in
          ap₂ (λ (p : Phase) (b : Bool). ExpansionMade p left.work b) (q-is ∙ ap power (small ∙ seen.2.value.phase_is) ∙ power-number x.phase) b-is ∙ sym (ap expansion_of (expand-made cells le e))

      pub expand_letters : (cells : ℕ) (was letters : List ℕ) → n ≤ cells → limit ≡ cells - n → letters ≡ letters_written n x.factors was → letters ≡ letters_left (expand_walk cells room n count words w) was
      unfolding dense
      expand_letters cells was letters le e l-is =
          l-is ∙ ap (λ (k : ℕ). bytes (spread n 0 x.factors) ++ drop k was) (sym (spread-length n 0 x.factors)) ∙ sym (ap (λ o. letters_left o was) (expand-made cells le e))

      axis-made : (b : Bool) → real x.phase ≡ b → hermitian_walk limit room n count words w ≡ cond b (fine left.work) (refused NonHermitianAxis)
      axis-made b e = axis_by limit ∙ ap axis_in seen.1 ∙ ap₂ (λ (c : Bool) (k : ℕ). cond c (fine k) (refused NonHermitianAxis)) (ap (λ (u : Sparse). real u.phase) first_is ∙ e) (sym seen.2.work_is)

      pub axis_odd : v.phase % 2 ≡ 1 → hermitian_walk limit room n count words w ≡ refused NonHermitianAxis
      axis_odd e = axis-made false (odd_phase x.phase (ap (λ (k : ℕ). k % 2) (sym seen.2.value.phase_is) ∙ e))

      pub axis_even : (v.phase % 2 ≡ 1 → ⊥) → hermitian_walk limit room n count words w ≡ fine left.work
      axis_even ne = axis-made true (even_phase x.phase (λ e. ne (ap (λ (k : ℕ). k % 2) seen.2.value.phase_is ∙ e)))

-- ---- what a walk leaves

pub left_scratch : (h : Header) (scratch x : List ℕ) {scratch' : List ℕ} → length x ≡ 4 * h.nodes
    → scratch' ≡ replicate (4 * h.nodes) 0 ++ drop (4 * h.nodes) (x ++ drop (4 * h.nodes) scratch) → scratch' ≡ scratch_left h scratch
left_scratch h scratch x lx e = e ∙ front_filled scratch x (4 * h.nodes) lx

pub left_pool : (pool y : List ℕ) (c : ℕ) {pool' : List ℕ} → c ≡ cap_of (length pool) → length y ≡ 3 * c → pool' ≡ cleared (y ++ drop (3 * c) pool) → pool' ≡ cleared pool
left_pool pool y c e ly q = q ∙ front-cleared pool y c e ly

-- the same, of slices that a walk gave back
pub scratch_given : (h : Header) (scratch x : List ℕ) {scratch' : List ℕ} → scratch' ≡ replicate (4 * h.nodes) 0 ++ drop (4 * h.nodes) (x ++ drop (4 * h.nodes) scratch) → length x ≡ 4 * h.nodes
    → scratch' ≡ scratch_left h scratch
scratch_given h scratch x e lx = left_scratch h scratch x lx e

pub pool_given : (pool : List ℕ) (c : ℕ) (y : List ℕ) {pool' : List ℕ} → c ≡ cap_of (length pool) → length pool' ≡ length (y ++ drop (3 * c) pool) → length y ≡ 3 * c
    → pool' ≡ cleared (y ++ drop (3 * c) pool) → pool' ≡ cleared pool
pool_given pool c y e l ly q = left_pool pool y c e ly q
