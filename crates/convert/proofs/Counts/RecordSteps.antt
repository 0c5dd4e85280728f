-- One record of the gate list, in the plain conversion, the counts and the words: frame gates, or one gate that is none.
use mathlib.Core.Path.{◌≡◌, refl, sym, ap, ◌∙◌}
use mathlib.Core.Bool.{Bool, true, false, cond, ◌||◌}
use mathlib.Core.List.{List, [], ◌∷◌, ◌++◌, map, append_assoc, append-nil}
use Prim.Native.Nat.{ℕ, suc, ◌+◌}
use native.Mathlib.Omega.{arith}
use Rattle.pauli.specs.Rows.{Row}
use Rattle.pauli.specs.Gates.{Gate, gate_h, gate_x, gate_z, gate_s, gate_sdg, gate_cnot, gate_cz}
use Rattle.pauli.specs.Table.{start, step, run}
use Rattle.convert.specs.Records.{GateKind, KindH, KindX, KindZ, KindS, KindSdg, KindT, KindTdg, KindCnot, KindCz, KindCcx, KindCcz, KindMeasure, KindY, KindSx, KindSwap, KindCy, Unsupported, Cap, NoCap, AtMost, Elementary, clifford, el_t, el_tdg, el_ccx, el_ccz, el_measure, Placed, placed, placed_from, bare, From, from, without_index, lower_as}
use Rattle.convert.specs.Plain.{Plain, flush_from, exceeds, tested, flushed, perform_as, plain_step, plain_run}
use Rattle.convert.specs.Frame.{gate_nodes, total, frame_run}
use Rattle.convert.specs.Words.{Words, flush_words, write, word_step, word_run}
use Rattle.convert.specs.Code.Needs.{Needs, written_nodes, written_ops, element_nodes, element_ops, need_step, need_run}
use Rattle.convert.specs.Code.Raw.{record_gates, tests_of, any_exceeds, needed, cost_of, costs, count_for, needs_of, measures_of}
use Rattle.convert.specs.Code.Writing.{unplaced}
use Rattle.convert.specs.declared.count.Needed.{Needed}
use Rattle.convert.proofs.Meaning.Words.{map-append, without_more}

-- ---- joined lists

pub run-append : (n : ℕ) (cap : Cap) (es fs : List (Placed Elementary)) (p : Plain) → plain_run flush_from n cap (es ++ fs) p ≡ plain_run flush_from n cap fs (plain_run flush_from n cap es p)
unfolding plain_run
run-append n cap [] fs p = refl
run-append n cap (e ∷ es) fs p = run-append n cap es fs (plain_step flush_from n cap e p)

pub need_append : (n : ℕ) (cap : Cap) (es fs : List (Placed Elementary)) (p : Plain) (k : Needs)
    → need_run n cap (es ++ fs) p k ≡ need_run n cap fs (plain_run flush_from n cap es p) (need_run n cap es p k)
unfolding plain_run need_run
need_append n cap [] fs p k = refl
need_append n cap (e ∷ es) fs p k = need_append n cap es fs (plain_step flush_from n cap e p) (need_step n cap e p k)

pub word_append : (n : ℕ) (cap : Cap) (es fs : List (Placed Elementary)) (p : Plain) (w : Words)
    → word_run n cap (es ++ fs) p w ≡ word_run n cap fs (plain_run flush_from n cap es p) (word_run n cap es p w)
unfolding plain_run word_run
word_append n cap [] fs p w = refl
word_append n cap (e ∷ es) fs p w = word_append n cap es fs (plain_step flush_from n cap e p) (word_step n cap e p w)

-- gates without their records
pub bare-unplaced : (gs : List (Placed Gate)) → bare gs ≡ without_index (unplaced gs)
bare-unplaced [] = refl
bare-unplaced (g ∷ gs) = ap (λ (l : List Gate). g.gate ∷ l) (bare-unplaced gs)

pub total-append : (f : Gate → ℕ) (gs hs : List Gate) → total f (gs ++ hs) ≡ total f gs + total f hs
total-append f [] hs = omega arith
total-append f (g ∷ gs) hs = omega (arith, total-append f gs hs)

-- ---- frame gates: never a flush

quiet : (n : ℕ) (cap : Cap) (t : List Row) (g : Gate) → exceeds n cap t (clifford g) ≡ false
unfolding exceeds tested
quiet n NoCap t g = refl
quiet n (AtMost k) t g = refl

quiet_all : (n : ℕ) (cap : Cap) (t : List Row) (gs : List Gate) → any_exceeds n cap t (map clifford gs) ≡ false
quiet_all n cap t [] = refl
quiet_all n cap t (g ∷ gs) = rw (quiet n cap t g) (quiet_all n cap t gs)

-- what record i leaves of the plain state, if gates gs follow a flush or none, and so many measurements
pub record Went (n i : ℕ) (f : Bool) (gs : List Gate) (m : ℕ) (p p' : Plain) : Type 0 where
  pub table : p'.table ≡ run n gs (cond f (start n) p.table)
  pub pending : unplaced p'.pending ≡ cond f [] (unplaced p.pending) ++ map (from i) gs
  pub given : p'.given ≡ p.given + m

-- the gates alone
without-cond : (f : Bool) (us : List (From Gate)) → without_index (cond f [] us) ≡ cond f [] (without_index us)
without-cond true us = refl
without-cond false us = refl

went-bare : (n i : ℕ) (f : Bool) (gs : List Gate) (m : ℕ) (p p' : Plain) → Went n i f gs m p p' → bare p'.pending ≡ cond f [] (bare p.pending) ++ gs
went-bare n i f gs m p p' w =
    bare-unplaced p'.pending ∙ ap without_index w.pending ∙ without_more (cond f [] (unplaced p.pending)) i gs
    ∙ ap (λ (l : List Gate). l ++ gs) (without-cond f (unplaced p.pending) ∙ ap (cond f []) (sym (bare-unplaced p.pending)))

abbrev after : ℕ → ℕ → ℕ → Gate → Plain → Plain
after n i j g p = record { table = step n g p.table; pending = p.pending ++ placed i j g ∷ []; operations = p.operations; given = p.given }

one_gate : (n : ℕ) (cap : Cap) (i j : ℕ) (g : Gate) (p : Plain) → plain_step flush_from n cap (placed i j (clifford g)) p ≡ after n i j g p
unfolding plain_step perform_as
one_gate n cap i j g p = rw (quiet n cap p.table g)

frames_went : (n : ℕ) (cap : Cap) (gs : List Gate) (i j : ℕ) (p : Plain) → Went n i false gs 0 p (plain_run flush_from n cap (placed_from i j (map clifford gs)) p)
unfolding plain_run run
frames_went n cap [] i j p = record { table = refl; pending = sym (append-nil (unplaced p.pending)); given = omega arith }
frames_went n cap (g ∷ gs) i j p =
    let q = after n i j g p in
    let e : plain_run flush_from n cap (placed_from i (suc j) (map clifford gs)) (plain_step flush_from n cap (placed i j (clifford g)) p) ≡ plain_run flush_from n cap (placed_from i (suc j) (map clifford gs)) q
    = ap (plain_run flush_from n cap (placed_from i (suc j) (map clifford gs))) (one_gate n cap i j g p) in
    let r = frames_went n cap gs i (suc j) q in
    record {
      table = ap (λ (x : Plain). x.table) e ∙ r.table;
      pending = ap (λ (x : Plain). unplaced x.pending) e ∙ r.pending ∙ ap (λ (l : List (From Gate)). l ++ map (from i) gs) (map-append _ p.pending (placed i j g ∷ []))
          ∙ append_assoc (unplaced p.pending) (from i g ∷ []) (map (from i) gs);
      given = ap (λ (x : Plain). x.given) e ∙ r.given;
    }

pub needs_eq : {a b a' b' : ℕ} → a ≡ a' → b ≡ b' → needs_of a b ≡ needs_of a' b'
needs_eq p q = rw (p, q)

gate_need : (n : ℕ) (cap : Cap) (i j : ℕ) (g : Gate) (p : Plain) (k : Needs)
    → need_step n cap (placed i j (clifford g)) p k ≡ needs_of (k.nodes + 0 + gate_nodes g) (k.operations + 0 + 0)
unfolding need_step
gate_need n cap i j g p k = rw (quiet n cap p.table g)

frames_need : (n : ℕ) (cap : Cap) (gs : List Gate) (i j : ℕ) (p : Plain) (k : Needs)
    → need_run n cap (placed_from i j (map clifford gs)) p k ≡ needs_of (k.nodes + total gate_nodes gs) k.operations
unfolding need_run
frames_need n cap [] i j p k = needs_eq (omega arith) refl
frames_need n cap (g ∷ gs) i j p k =
    ap (need_run n cap (placed_from i (suc j) (map clifford gs)) (plain_step flush_from n cap (placed i j (clifford g)) p)) (gate_need n cap i j g p k)
    ∙ frames_need n cap gs i (suc j) (plain_step flush_from n cap (placed i j (clifford g)) p) (needs_of (k.nodes + 0 + gate_nodes g) (k.operations + 0 + 0))
    ∙ needs_eq (omega arith) (omega arith)

-- the frame gates at work on the words
abbrev pub framed : ℕ → List Gate → Words → Words
framed n gs w = record { arena = frame_run n gs w.arena; ops = w.ops }

gate_words : (n : ℕ) (cap : Cap) (i j : ℕ) (g : Gate) (p : Plain) (w : Words) → word_step n cap (placed i j (clifford g)) p w ≡ framed n (g ∷ []) w
unfolding word_step write frame_run
gate_words n cap i j g p w = rw (quiet n cap p.table g)

frames_words : (n : ℕ) (cap : Cap) (gs : List Gate) (i j : ℕ) (p : Plain) (w : Words) → word_run n cap (placed_from i j (map clifford gs)) p w ≡ framed n gs w
unfolding word_run frame_run
frames_words n cap [] i j p w = refl
frames_words n cap (g ∷ gs) i j p w =
    ap (word_run n cap (placed_from i (suc j) (map clifford gs)) (plain_step flush_from n cap (placed i j (clifford g)) p)) (gate_words n cap i j g p w)
    ∙ frames_words n cap gs i (suc j) (plain_step flush_from n cap (placed i j (clifford g)) p) (framed n (g ∷ []) w)

-- ---- a gate that is none

-- the measurements that a gate gives
abbrev gives : Elementary → ℕ
gives (clifford g) = 0
gives (el_t q) = 0
gives (el_tdg q) = 0
gives (el_ccx a b d) = 0
gives (el_ccz a b d) = 0
gives (el_measure q k) = 1

abbrev Lone : Elementary → Type 0
Lone (clifford g) = ⊥
Lone (el_t q) = Unit {0}
Lone (el_tdg q) = Unit {0}
Lone (el_ccx a b d) = Unit {0}
Lone (el_ccz a b d) = Unit {0}
Lone (el_measure q k) = Unit {0}

performed : (n i j : ℕ) (e : Elementary) (p : Plain) → Lone e
    → ((perform_as n i j e p).table ≡ p.table) × ((perform_as n i j e p).pending ≡ p.pending) × ((perform_as n i j e p).given ≡ p.given + gives e)
unfolding perform_as
performed n i j (clifford g) p l = absurd l
performed n i j (el_t q) p l = (refl, refl, omega arith)
performed n i j (el_tdg q) p l = (refl, refl, omega arith)
performed n i j (el_ccx a b d) p l = (refl, refl, omega arith)
performed n i j (el_ccz a b d) p l = (refl, refl, omega arith)
performed n i j (el_measure q k) p l = (refl, refl, omega arith)

or-false : (b : Bool) → b || false ≡ b
or-false true = refl
or-false false = refl

went_as : (n i : ℕ) (f : Bool) (m : ℕ) (p p' : Plain) → p'.table ≡ (cond f (flushed flush_from n p) p).table → p'.pending ≡ (cond f (flushed flush_from n p) p).pending
    → p'.given ≡ (cond f (flushed flush_from n p) p).given + m → Went n i f [] m p p'
unfolding flushed run
went_as n i true m p p' t q g = record { table = t; pending = ap unplaced q; given = g }
went_as n i false m p p' t q g = record { table = t; pending = ap unplaced q ∙ sym (append-nil (unplaced p.pending)); given = g }

lone_went : (n : ℕ) (cap : Cap) (e : Elementary) (i j : ℕ) (p : Plain) → Lone e
    → Went n i (exceeds n cap p.table e) [] (gives e) p (plain_run flush_from n cap (placed i j e ∷ []) p)
unfolding plain_run plain_step
lone_went n cap e i j p l =
    let f = exceeds n cap p.table e in
    let r = performed n i j e (cond f (flushed flush_from n p) p) l in
    went_as n i f (gives e) p (perform_as n i j e (cond f (flushed flush_from n p) p)) r.0 r.1 r.2

-- ---- one record

-- what els, the gates of a part j of record i, do: frame gates gs, m measurements, x nodes and y operations of their own, and what they write
pub record One (n : ℕ) (cap : Cap) (i j : ℕ) (els : List Elementary) (gs : List Gate) (m x y : ℕ) (writes : Words → Words) (p : Plain) (k : Needs) (w : Words) : Type 0 where
  pub went : Went n i (any_exceeds n cap p.table els) gs m p (plain_run flush_from n cap (placed_from i j els) p)
  pub needs : need_run n cap (placed_from i j els) p k
      ≡ needs_of (k.nodes + cond (any_exceeds n cap p.table els) (total written_nodes (bare p.pending)) 0 + x)
      (k.operations + cond (any_exceeds n cap p.table els) (total written_ops (bare p.pending)) 0 + y)
  pub words : word_run n cap (placed_from i j els) p w ≡ writes (cond (any_exceeds n cap p.table els) (flush_words n p.pending w) w)

of_frames : (n : ℕ) (cap : Cap) (i j : ℕ) (gs : List Gate) (x : ℕ) (p : Plain) (k : Needs) (w : Words) → x ≡ total gate_nodes gs
    → One n cap i j (map clifford gs) gs 0 x 0 (framed n gs) p k w
of_frames n cap i j gs x p k w e = record {
  went = rw (quiet_all n cap p.table gs) (frames_went n cap gs i j p);
  needs = rw (quiet_all n cap p.table gs) (frames_need n cap gs i j p k ∙ needs_eq (omega arith) (omega arith));
  words = rw (quiet_all n cap p.table gs) (frames_words n cap gs i j p w);
}

of_lone : (n : ℕ) (cap : Cap) (i j : ℕ) (e : Elementary) (p : Plain) (k : Needs) (w : Words) → Lone e
    → One n cap i j (e ∷ []) [] (gives e) (element_nodes e) (element_ops e) (write n p.given i e) p k w
unfolding need_run need_step word_run word_step
of_lone n cap i j e p k w l = record {
  went = rw (or-false (exceeds n cap p.table e)) (lone_went n cap e i j p l);
  needs = rw (or-false (exceeds n cap p.table e));
  words = rw (or-false (exceeds n cap p.table e));
}

-- what record i writes, after so many measurements
unfoldable pub write_record : ℕ → ℕ → ℕ → GateKind → ℕ → ℕ → ℕ → Words → Words
write_record n given i KindH a b d w = framed n (record_gates KindH a b) w
write_record n given i KindX a b d w = framed n (record_gates KindX a b) w
write_record n given i KindZ a b d w = framed n (record_gates KindZ a b) w
write_record n given i KindS a b d w = framed n (record_gates KindS a b) w
write_record n given i KindSdg a b d w = framed n (record_gates KindSdg a b) w
write_record n given i KindT a b d w = write n given i (el_t a) w
write_record n given i KindTdg a b d w = write n given i (el_tdg a) w
write_record n given i KindCnot a b d w = framed n (record_gates KindCnot a b) w
write_record n given i KindCz a b d w = framed n (record_gates KindCz a b) w
write_record n given i KindCcx a b d w = write n given i (el_ccx a b d) w
write_record n given i KindCcz a b d w = write n given i (el_ccz a b d) w
write_record n given i KindMeasure a b d w = write n given i (el_measure a b) w
write_record n given i KindY a b d w = framed n (record_gates KindY a b) w
write_record n given i KindSx a b d w = framed n (record_gates KindSx a b) w
write_record n given i KindSwap a b d w = framed n (record_gates KindSwap a b) w
write_record n given i KindCy a b d w = framed n (record_gates KindCy a b) w
write_record n given i Unsupported a b d w = framed n (record_gates Unsupported a b) w

pub one_record : (n : ℕ) (cap : Cap) (i j : ℕ) (kind : GateKind) (a b d : ℕ) (p : Plain) (k : Needs) (w : Words)
    → One n cap i j (lower_as kind a b d) (record_gates kind a b) (measures_of kind) (cost_of kind).nodes (cost_of kind).operations (write_record n p.given i kind a b d) p k w
unfolding cost_of lower_as record_gates write_record
one_record n cap i j KindH a b d p k w = of_frames n cap i j (gate_h a ∷ []) (cost_of KindH).nodes p k w (omega arith)
one_record n cap i j KindX a b d p k w = of_frames n cap i j (gate_x a ∷ []) (cost_of KindX).nodes p k w (omega arith)
one_record n cap i j KindZ a b d p k w = of_frames n cap i j (gate_z a ∷ []) (cost_of KindZ).nodes p k w (omega arith)
one_record n cap i j KindS a b d p k w = of_frames n cap i j (gate_s a ∷ []) (cost_of KindS).nodes p k w (omega arith)
one_record n cap i j KindSdg a b d p k w = of_frames n cap i j (gate_sdg a ∷ []) (cost_of KindSdg).nodes p k w (omega arith)
one_record n cap i j KindT a b d p k w = of_lone n cap i j (el_t a) p k w tt
one_record n cap i j KindTdg a b d p k w = of_lone n cap i j (el_tdg a) p k w tt
one_record n cap i j KindCnot a b d p k w = of_frames n cap i j (gate_cnot a b ∷ []) (cost_of KindCnot).nodes p k w (omega arith)
one_record n cap i j KindCz a b d p k w = of_frames n cap i j (gate_cz a b ∷ []) (cost_of KindCz).nodes p k w (omega arith)
one_record n cap i j KindCcx a b d p k w = of_lone n cap i j (el_ccx a b d) p k w tt
one_record n cap i j KindCcz a b d p k w = of_lone n cap i j (el_ccz a b d) p k w tt
one_record n cap i j KindMeasure a b d p k w = of_lone n cap i j (el_measure a b) p k w tt
one_record n cap i j KindY a b d p k w = of_frames n cap i j (gate_z a ∷ gate_x a ∷ []) (cost_of KindY).nodes p k w (omega arith)
one_record n cap i j KindSx a b d p k w = of_frames n cap i j (gate_h a ∷ gate_s a ∷ gate_h a ∷ []) (cost_of KindSx).nodes p k w (omega arith)
one_record n cap i j KindSwap a b d p k w = of_frames n cap i j (gate_cnot a b ∷ gate_cnot b a ∷ gate_cnot a b ∷ []) (cost_of KindSwap).nodes p k w (omega arith)
one_record n cap i j KindCy a b d p k w = of_frames n cap i j (gate_sdg b ∷ gate_cnot a b ∷ gate_s b ∷ []) (cost_of KindCy).nodes p k w (omega arith)
one_record n cap i j Unsupported a b d p k w = of_frames n cap i j ([]) (cost_of Unsupported).nodes p k w (omega arith)

-- what its frame gates add to a flush
pub adds : (kind : GateKind) (a b : ℕ) → (total written_nodes (record_gates kind a b) ≡ (cost_of kind).joints) × (total written_ops (record_gates kind a b) ≡ (cost_of kind).rotations)
unfolding cost_of record_gates lower_as
adds KindH a b = (omega arith, omega arith)
adds KindX a b = (omega arith, omega arith)
adds KindZ a b = (omega arith, omega arith)
adds KindS a b = (omega arith, omega arith)
adds KindSdg a b = (omega arith, omega arith)
adds KindT a b = (omega arith, omega arith)
adds KindTdg a b = (omega arith, omega arith)
adds KindCnot a b = (omega arith, omega arith)
adds KindCz a b = (omega arith, omega arith)
adds KindCcx a b = (omega arith, omega arith)
adds KindCcz a b = (omega arith, omega arith)
adds KindMeasure a b = (omega arith, omega arith)
adds KindY a b = (omega arith, omega arith)
adds KindSx a b = (omega arith, omega arith)
adds KindSwap a b = (omega arith, omega arith)
adds KindCy a b = (omega arith, omega arith)
adds Unsupported a b = (omega arith, omega arith)

pub gate_nodes_lem : (kind : GateKind) (a b : ℕ) → tests_of kind ≡ 0 → total gate_nodes (record_gates kind a b) ≡ (cost_of kind).nodes
unfolding tests_of cost_of record_gates lower_as
gate_nodes_lem KindH a b e = omega arith
gate_nodes_lem KindX a b e = omega arith
gate_nodes_lem KindZ a b e = omega arith
gate_nodes_lem KindS a b e = omega arith
gate_nodes_lem KindSdg a b e = omega arith
gate_nodes_lem KindT a b e = absurd (omega arith)
gate_nodes_lem KindTdg a b e = absurd (omega arith)
gate_nodes_lem KindCnot a b e = omega arith
gate_nodes_lem KindCz a b e = omega arith
gate_nodes_lem KindCcx a b e = absurd (omega arith)
gate_nodes_lem KindCcz a b e = absurd (omega arith)
gate_nodes_lem KindMeasure a b e = absurd (omega arith)
gate_nodes_lem KindY a b e = omega arith
gate_nodes_lem KindSx a b e = omega arith
gate_nodes_lem KindSwap a b e = omega arith
gate_nodes_lem KindCy a b e = omega arith
gate_nodes_lem Unsupported a b e = omega arith

needed-eq : {a b c d a' b' c' d' : ℕ} → a ≡ a' → b ≡ b' → c ≡ c' → d ≡ d' → needed a b c d ≡ needed a' b' c' d'
needed-eq p q r s = rw (p, q, r, s)

total-cond : (g : Gate → ℕ) (f : Bool) (gs hs : List Gate) → total g (cond f [] gs ++ hs) ≡ cond f 0 (total g gs) + total g hs
total-cond g true gs hs = omega arith
total-cond g false gs hs = total-append g gs hs

-- the count beside the plain state goes along
pub count_one : (n : ℕ) (cap : Cap) (i j : ℕ) (kind : GateKind) (a b d : ℕ) (p : Plain) (k : Needs)
    → costs (any_exceeds n cap p.table (lower_as kind a b d)) (count_for p k) (cost_of kind)
    ≡ count_for (plain_run flush_from n cap (placed_from i j (lower_as kind a b d)) p) (need_run n cap (placed_from i j (lower_as kind a b d)) p k)
count_one n cap i j kind a b d p k =
    let o = one_record n cap i j kind a b d p k (record { arena = record { count = 0; nodes = []; frame = [] }; ops = [] }) in
    let gs = record_gates kind a b in
    let ad = adds kind a b in
    rw (
      o.needs,
      went-bare n i _ gs _ p _ o.went,
      total-cond written_nodes (any_exceeds n cap p.table (lower_as kind a b d)) (bare p.pending) gs,
      total-cond written_ops (any_exceeds n cap p.table (lower_as kind a b d)) (bare p.pending) gs,
      ad.0,
      ad.1,
    )
    (go (any_exceeds n cap p.table (lower_as kind a b d)) (count_for p k) (cost_of kind))
  where
    go : (f : Bool) (k c : Needed) → costs f k c
        ≡ needed (k.nodes + cond f k.joints 0 + c.nodes) (k.operations + cond f k.rotations 0 + c.operations) (cond f 0 k.joints + c.joints) (cond f 0 k.rotations + c.rotations)
    go true k c = needed-eq refl refl (omega arith) (omega arith)
    go false k c = needed-eq (omega arith) (omega arith) refl refl
