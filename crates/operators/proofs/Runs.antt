-- A run of elementary gates by the papers, as an operator: what is written, and then the gates since the last flush.
use mathlib.Core.Path.{◌≡◌, refl, ap, ap₂, sym, ◌∙◌}
use mathlib.Core.Bool.{Bool, true, false, cond}
use mathlib.Core.List.{List, [], ◌∷◌, ◌++◌, map}
use mathlib.Core.Logic.{◌≢◌}
use Prim.Native.Nat.{ℕ, ◌+◌, ◌<◌}
use Rattle.pauli.specs.Rows.{Row, Width, ◌★◌, single}
use Rattle.pauli.specs.Gates.{Gate, AllValid, back}
use Rattle.pauli.specs.Rotations.{Rotation, by, written, flush}
use Rattle.pauli.proofs.Short.{width-single}
use Rattle.pauli.proofs.Rows.{width-★}
use Rattle.convert.specs.Records.{Elementary, clifford, el_t, el_tdg, el_ccx, el_ccz, el_measure, Placed, bare, from, without_index, Proper, AllProper}
use Rattle.convert.specs.Plain.{Operation, as_rotation, seven, flush_from}
use Rattle.convert.specs.Paper.{Paper, gate_products, axes, too_heavy, seven_angles, rotate_all, writes, paper_perform, paper_flushed, paper_step, paper_run}
use Rattle.convert.proofs.Meaning.Words.{without_more, flush-without, without-flushed, valid_append, bare-snoc}
use Rattle.operators.specs.Types.{Pauli, X, Z, Cap}
use Rattle.operators.specs.Operators.{Operators, root_to, turn}
use Rattle.operators.specs.Textbook.{seen, controlled}
use Rattle.operators.specs.Whole.{operation_operator, operations_operator}
use Rattle.operators.proofs.Widths.{AllWidth}
use Rattle.operators.proofs.Elements.{turns, element_operator, given_after, elements_operator}
use Rattle.operators.proofs.Ring.{root_past, root_add, half_carried, minus_carried}
use Rattle.operators.proofs.Eigen.{row_back, turn-back, turn-as}
use Rattle.operators.proofs.Gates.{single-commute, doubly, gate_phase, gate-turns, turns-append, flush-snoc}

module _ {n : ℕ} (O : Operators n) (outcome : ℕ → Bool) where
  infixl 65 ◌⊠◌
  abbrev ◌⊠◌ : O.Op → O.Op → O.Op
  a ⊠ b = O.times a b

  abbrev ops : List Operation → O.Op
  ops os = operations_operator O outcome os

  -- ---- lists

  pub ops_append : (os ps : List Operation) → ops (os ++ ps) ≡ ops ps ⊠ ops os
  ops_append [] ps = sym (O.one_right (ops ps))
  ops_append (o ∷ os) ps = ap (λ a. a ⊠ operation_operator O outcome o) (ops_append os ps) ∙ O.times_assoc (ops ps) (ops os) (operation_operator O outcome o)

  ops-turns : (rs : List Rotation) → ops (map as_rotation rs) ≡ turns O rs
  ops-turns [] = refl
  ops-turns (r ∷ rs) = ap (λ a. a ⊠ turn O r.angle r.axis) (ops-turns rs)

  abbrev pairs : List ℕ → List Row → List Rotation
  pairs [] Ps = []
  pairs (k ∷ ks) [] = []
  pairs (k ∷ ks) (P ∷ Ps) = by P k ∷ pairs ks Ps

  ops-pairs : (ks : List ℕ) (Ps : List Row) → ops (rotate_all ks Ps) ≡ turns O (pairs ks Ps)
  ops-pairs [] Ps = refl
  ops-pairs (k ∷ ks) [] = refl
  ops-pairs (k ∷ ks) (P ∷ Ps) = ap (λ a. a ⊠ turn O k P) (ops-pairs ks Ps)

  pairs-back : (gs : List Gate) → AllValid n gs → (ks : List ℕ) (Ps : List Row) → AllWidth n Ps
      → turns O (pairs ks Ps) ⊠ turns O (flush n gs) ≡ turns O (flush n gs) ⊠ turns O (pairs ks (map (back gs) Ps))
  pairs-back gs v [] Ps w = O.one_left _ ∙ sym (O.one_right _)
  pairs-back gs v (k ∷ ks) [] w = O.one_left _ ∙ sym (O.one_right _)
  pairs-back gs v (k ∷ ks) (P ∷ Ps) w =
      O.times_assoc (turns O (pairs ks Ps)) (turn O k P) (turns O (flush n gs)) ∙ ap (λ a. turns O (pairs ks Ps) ⊠ a) (turn-back O gs v k P w.0)
      ∙ sym (O.times_assoc (turns O (pairs ks Ps)) (turns O (flush n gs)) (turn O k (back gs P))) ∙ ap (λ a. a ⊠ turn O k (back gs P)) (pairs-back gs v ks Ps w.1)
      ∙ O.times_assoc (turns O (flush n gs)) (turns O (pairs ks (map (back gs) Ps))) (turn O k (back gs P))

  pub seen_back : (gs : List Gate) → AllValid n gs → (x : Bool) (P : Row) → Width n P → seen O x P ⊠ turns O (flush n gs) ≡ turns O (flush n gs) ⊠ seen O x (back gs P)
  seen_back gs v true P w = half_carried O (turns O (flush n gs)) _ _ (minus_carried O (turns O (flush n gs)) P (back gs P) (row_back O gs v P w))
  seen_back gs v false P w = half_carried O (turns O (flush n gs)) _ _ (row_back O gs v P w)

  -- ---- a state: what is written, and then the gates since the last flush

  abbrev pub value : Paper → O.Op
  value p = turns O (flush n (bare p.since)) ⊠ ops (without_index p.operations)

  flushed-value : (p : Paper) → value p ≡ value (paper_flushed flush_from n p)
  unfolding flush
  flushed-value p =
      let gs = bare p.since in
      sym (O.one_left _ ∙ ap ops (without-flushed p.operations (flush_from n p.since)) ∙ ap (λ rs. ops (without_index p.operations ++ map as_rotation rs)) (flush-without n p.since)
      ∙ ops_append (without_index p.operations) (map as_rotation (flush n gs))
      ∙ ap (λ a. a ⊠ ops (without_index p.operations)) (ops-turns (flush n gs)))

  -- an operator in front of the gates that is a list of operations behind them
  written-value : (p : Paper) (i : ℕ) (a : O.Op) (os : List Operation) → a ⊠ turns O (flush n (bare p.since)) ≡ turns O (flush n (bare p.since)) ⊠ ops os
      → a ⊠ value p ≡ O.one ⊠ (turns O (flush n (bare p.since)) ⊠ ops (without_index (p.operations ++ map (from i) os)))
  written-value p i a os e =
      let before = without_index p.operations in
      sym (O.times_assoc a _ _) ∙ ap (λ b. b ⊠ ops before) e ∙ O.times_assoc _ (ops os) (ops before)
      ∙ ap (λ b. turns O (flush n (bare p.since)) ⊠ b) (sym (ops_append before os) ∙ ap ops (sym (without_more p.operations i os))) ∙ sym (O.one_left _)

  seven-width : (n a b d : ℕ) (l : Pauli) → AllWidth n (seven (single n a Z) (single n b Z) (single n d l))
  seven-width n a b d l =
      let A = single n a Z in
      let B = single n b Z in
      let D = single n d l in
      let wA = width-single n a Z in
      let wB = width-single n b Z in
      let wD = width-single n d l in
      (wA, (wB, (wD, (width-★ n A B wA wB, (width-★ n A D wA wD, (width-★ n B D wB wD, (width-★ n (A ★ B) D (width-★ n A B wA wB) wD, tt)))))))

  seven-back : (gs : List Gate) → AllValid n gs → (a b d : ℕ) (l : Pauli) → a < n → b < n → d < n → a ≢ b → a ≢ d → b ≢ d → controlled O (single n a Z) (controlled O (single n b Z) (O.read (single n d l))) ⊠ turns O (flush n gs)
      ≡ turns O (flush n gs) ⊠ ops (rotate_all seven_angles (map (back gs) (seven (single n a Z) (single n b Z) (single n d l))))
  seven-back gs v a b d l ha hb hd ab ad bd =
      ap (λ c. c ⊠ turns O (flush n gs)) (doubly O (single n a Z) (single n b Z) (width-single n a Z) (width-single n b Z) refl refl (single-commute O a b Z ha hb ab)
      (single n d l) (width-single n d l) refl (single-commute O a d l ha hd ad) (single-commute O b d l hb hd bd))
      ∙ pairs-back gs v seven_angles (seven (single n a Z) (single n b Z) (single n d l)) (seven-width n a b d l)
      ∙ ap (λ c. turns O (flush n gs) ⊠ c) (sym (ops-pairs seven_angles (map (back gs) (seven (single n a Z) (single n b Z) (single n d l)))))

  abbrev element_phase : Elementary → ℕ
  element_phase (clifford g) = gate_phase O g
  element_phase (el_t q) = 0
  element_phase (el_tdg q) = 0
  element_phase (el_ccx a b d) = 0
  element_phase (el_ccz a b d) = 0
  element_phase (el_measure q k) = 0

  one-turn : (gs : List Gate) → AllValid n gs → (k q : ℕ) → controlled O (single n q Z) (root_to O k) ⊠ turns O (flush n gs)
      ≡ turns O (flush n gs) ⊠ (O.one ⊠ turn O k (back gs (single n q Z)))
  one-turn gs v k q =
      ap (λ a. a ⊠ turns O (flush n gs)) (sym (turn-as O k (single n q Z))) ∙ turn-back O gs v k (single n q Z) (width-single n q Z)
      ∙ ap (λ a. turns O (flush n gs) ⊠ a) (sym (O.one_left _))

  performed : (c i j : ℕ) (e : Elementary) (p : Paper) → Proper n c e → AllValid n (bare p.since)
      → element_operator O outcome p.given e ⊠ value p ≡ root_to O (element_phase e) ⊠ value (paper_perform n i j e p)
  unfolding paper_perform writes axes gate_products
  performed c i j (clifford g) p h v =
      let gs = bare p.since in
      let before = ops (without_index p.operations) in
      ap (λ a. a ⊠ value p) (gate-turns O g h) ∙ O.times_assoc (root_to O (gate_phase O g)) (turns O (written n g)) (value p)
      ∙ ap (λ a. root_to O (gate_phase O g) ⊠ a) (sym (O.times_assoc (turns O (written n g)) (turns O (flush n gs)) before)
      ∙ ap (λ a. a ⊠ before) (sym (turns-append O (flush n gs) (written n g)) ∙ ap (turns O) (sym (flush-snoc O gs g) ∙ ap (flush n) (sym (bare-snoc p.since i j g)))))
  performed c i j (el_t q) p h v = written-value p i _ (writes n (bare p.since) p.given (el_t q)) (one-turn (bare p.since) v 1 q)
  performed c i j (el_tdg q) p h v = written-value p i _ (writes n (bare p.since) p.given (el_tdg q)) (one-turn (bare p.since) v 7 q)
  performed c i j (el_ccx a b d) p h v =
      written-value p i _ (writes n (bare p.since) p.given (el_ccx a b d)) (seven-back (bare p.since) v a b d X h.0 h.1 h.2 h.3 h.4 h.5)
  performed c i j (el_ccz a b d) p h v =
      written-value p i _ (writes n (bare p.since) p.given (el_ccz a b d)) (seven-back (bare p.since) v a b d Z h.0 h.1 h.2 h.3 h.4 h.5)
  performed c i j (el_measure q k) p h v =
      written-value p i _ (writes n (bare p.since) p.given (el_measure q k))
      (seen_back (bare p.since) v (outcome p.given) (single n q Z) (width-single n q Z) ∙ ap (λ a. turns O (flush n (bare p.since)) ⊠ a) (sym (O.one_left _)))

  -- ---- the whole list

  -- the state after a gate
  abbrev past : ℕ → Placed Elementary → Paper → Paper
  past n e p = paper_perform n e.index e.part e.gate p

  still_valid : (n c i j : ℕ) (e : Elementary) (p : Paper) → Proper n c e → AllValid n (bare p.since) → AllValid n (bare (paper_perform n i j e p).since)
  unfolding paper_perform
  still_valid n c i j (clifford g) p h v = rw (bare-snoc p.since i j g) (valid_append n (bare p.since) (g ∷ []) v (h, tt))
  still_valid n c i j (el_t q) p h v = v
  still_valid n c i j (el_tdg q) p h v = v
  still_valid n c i j (el_ccx a b d) p h v = v
  still_valid n c i j (el_ccz a b d) p h v = v
  still_valid n c i j (el_measure q k) p h v = v

  given_after_lem : (n i j : ℕ) (e : Elementary) (p : Paper) → (paper_perform n i j e p).given ≡ given_after e p.given
  unfolding paper_perform
  given_after_lem n i j (clifford g) p = refl
  given_after_lem n i j (el_t q) p = refl
  given_after_lem n i j (el_tdg q) p = refl
  given_after_lem n i j (el_ccx a b d) p = refl
  given_after_lem n i j (el_ccz a b d) p = refl
  given_after_lem n i j (el_measure q k) p = refl

  pub record Run (m : ℕ) (es : List (Placed Elementary)) (p p' : Paper) : Type 0 where
    pub phase : ℕ
    pub valid : AllValid n (bare p'.since)
    pub same : elements_operator O outcome m (bare es) ⊠ value p ≡ root_to O phase ⊠ value p'

  -- a gate from a state that may have been flushed
  next : (c : ℕ) (e : Placed Elementary) (es : List (Placed Elementary)) (p p₁ p' : Paper) → Proper n c e.gate → AllValid n (bare p₁.since) → p₁.given ≡ p.given
      → value p ≡ value p₁ → Run (past n e p₁).given es (past n e p₁) p' → Run p.given (e ∷ es) p p'
  next c e es p p₁ p' h v g f r = record {
    phase = element_phase e.gate + r.phase;
    valid = r.valid;
    same =
        ap (λ a. elements_operator O outcome p.given (bare (e ∷ es)) ⊠ a) f
        ∙ O.times_assoc (elements_operator O outcome (given_after e.gate p.given) (bare es)) (element_operator O outcome p.given e.gate) (value p₁)
        ∙ ap₂ (λ m a. elements_operator O outcome m (bare es) ⊠ a) (ap (given_after e.gate) (sym g) ∙ sym (given_after_lem n e.index e.part e.gate p₁))
        (ap (λ m. element_operator O outcome m e.gate ⊠ value p₁) (sym g) ∙ performed c e.index e.part e.gate p₁ h v)
        ∙ root_past O (elements_operator O outcome (past n e p₁).given (bare es)) (element_phase e.gate) (value (past n e p₁))
        ∙ ap (λ a. root_to O (element_phase e.gate) ⊠ a) r.same ∙ root_add O (element_phase e.gate) r.phase (value p');
  }

  pub run_value : (c : ℕ) (cap : Cap) (es : List (Placed Elementary)) (p : Paper) → AllProper n c (bare es) → AllValid n (bare p.since)
      → Run p.given es p (paper_run flush_from n cap es p)
  unfolding paper_run paper_step
  run_value c cap [] p h v = record { phase = 0; valid = v; same = refl }
  run_value c cap (e ∷ es) p h v =
      go (λ p₁ v₁. run_value c cap es (past n e p₁) h.1 (still_valid n c e.index e.part e.gate p₁ h.0 v₁)) (too_heavy n cap (bare p.since) e.gate)
    where
      go : ((p₁ : Paper) → AllValid n (bare p₁.since) → Run (past n e p₁).given es (past n e p₁) (paper_run flush_from n cap es (past n e p₁)))
          → (b : Bool) → Run p.given (e ∷ es) p (paper_run flush_from n cap es (past n e (cond b (paper_flushed flush_from n p) p)))
      go rest true = next c e es p (paper_flushed flush_from n p) _ h.0 tt refl (flushed-value p) (rest (paper_flushed flush_from n p) tt)
      go rest false = next c e es p p _ h.0 v refl refl (rest p v)
