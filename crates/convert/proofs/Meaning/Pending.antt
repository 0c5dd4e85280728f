-- The pending gates are the frame gates from the place of the last flush on.
-- kept: a claim that README names, on the code alone.
use mathlib.Core.Path.{◌≡◌, refl, ap, sym, ◌∙◌}
use mathlib.Core.Bool.{Bool, true, false, cond, true≢false}
use mathlib.Core.List.{List, [], ◌∷◌, ◌++◌, append-nil}
use Prim.Native.Nat.{ℕ, suc, ◌+◌}
use native.Mathlib.Nat.{add-zero, add-suc, suc-add, zero-add}
use native.Mathlib.Omega.{arith}
use lib.ListN.{length, drop, length-append}
use lib.Seq.{drop_at, append_snoc}
use Rattle.pauli.specs.Rows.{Row}
use Rattle.pauli.specs.Gates.{Gate}
use Rattle.convert.specs.Records.{GateKind, KindH, KindX, KindZ, KindS, KindSdg, KindT, KindTdg, KindCnot, KindCz, KindCcx, KindCcz, KindMeasure, KindY, KindSx, KindSwap, KindCy, Unsupported, Cap, NoCap, AtMost, Record, records, kind_of, Elementary, clifford, el_t, el_tdg, el_ccx, el_ccz, el_measure, lower_as, lower, is_narrow, lower_in, Placed, placed_from, lower_from, lower_all}
use Rattle.convert.specs.Plain.{Plain, plain_begin, tested, exceeds, flush_from, flushed, perform_as, perform, plain_step, plain_run}
use Rattle.convert.specs.Conversion.{Input, gates_in, plain_end}
use Rattle.convert.specs.Code.Needs.{Place, place_of, place_step, place_run, gates_from, clifford_as, cliffords}
use Rattle.convert.proofs.Counts.Parts.{lower-whole}

-- ---- each gate stands at its place

-- from the place of each gate of es on, the records rs have that gate and those after it
abbrev Located : Bool → List Record → List (Placed Elementary) → Type 0
Located narrow rs [] = Unit {0}
Located narrow rs (e ∷ es) = (gates_from narrow (place_of e) rs ≡ e ∷ es) × Located narrow rs es

drop-placed : (i k : ℕ) (us vs : List Elementary) (rest : List (Placed Elementary))
    → drop (length us) (placed_from i k (us ++ vs) ++ rest) ≡ placed_from i (k + length us) vs ++ rest
drop-placed i k [] vs rest = ap (λ m. placed_from i m vs ++ rest) (sym (add-zero k))
drop-placed i k (u ∷ us) vs rest = drop-placed i (suc k) us vs rest ∙ ap (λ m. placed_from i m vs ++ rest) (suc-add k (length us) ∙ sym (add-suc k (length us)))

module _ (narrow : Bool) (before : List Record) (r : Record) (after : List Record) where
  rest : List (Placed Elementary)
  rest = lower_from narrow (suc (length before)) after

  at_part : (us vs : List Elementary) → lower_in narrow r ≡ us ++ vs
      → gates_from narrow (record { index = length before; part = length us }) (before ++ r ∷ after) ≡ placed_from (length before) (length us) vs ++ rest
  unfolding gates_from lower_from rest
  at_part us vs e =
      ap (λ l. drop (length us) (lower_from narrow (length before) l)) (drop_at before (r ∷ after) (length before) refl)
      ∙ ap (λ l. drop (length us) (placed_from (length before) 0 l ++ lower_from narrow (suc (length before)) after)) e
      ∙ drop-placed (length before) 0 us vs (lower_from narrow (suc (length before)) after)
      ∙ ap (λ m. placed_from (length before) m vs ++ lower_from narrow (suc (length before)) after) (zero-add (length us))

  located_parts : (us vs : List Elementary) (j : ℕ) → j ≡ length us → lower_in narrow r ≡ us ++ vs → Located narrow (before ++ r ∷ after) rest
      → Located narrow (before ++ r ∷ after) (placed_from (length before) j vs ++ rest)
  located_parts us [] j e h L = L
  located_parts us (v ∷ vs) j e h L = rw e
      (at_part us (v ∷ vs) h, located_parts (us ++ v ∷ []) vs (suc (length us)) (sym (length-append us (v ∷ []) ∙ omega arith)) (h ∙ sym (append_snoc us v vs)) L)

located_from : (narrow : Bool) (rs before after : List Record) (i : ℕ) → i ≡ length before → rs ≡ before ++ after → Located narrow rs (lower_from narrow i after)
unfolding lower_from rest
located_from narrow rs before [] i e h = tt
located_from narrow rs before (r ∷ after) i e h = rw (e, h)
    (located_parts narrow before r after [] (lower_in narrow r) 0 refl refl
    (located_from narrow (before ++ r ∷ after) (before ++ r ∷ []) after (suc (length before)) (sym (length-append before (r ∷ []) ∙ omega arith)) (sym (append_snoc before r after))))

-- ---- a run

cliffords-snoc : (es : List (Placed Elementary)) (e : Placed Elementary) → cliffords (es ++ e ∷ []) ≡ cliffords es ++ cliffords (e ∷ [])
unfolding cliffords
cliffords-snoc [] e = refl
cliffords-snoc (d ∷ es) e = ap (clifford_as d.index d.part d.gate) (cliffords-snoc es e) ∙ go d.gate
  where
    go : (g : Elementary) → clifford_as d.index d.part g (cliffords es ++ cliffords (e ∷ [])) ≡ clifford_as d.index d.part g (cliffords es) ++ cliffords (e ∷ [])
    go (clifford g) = refl
    go (el_t q) = refl
    go (el_tdg q) = refl
    go (el_ccx a b d) = refl
    go (el_ccz a b d) = refl
    go (el_measure q k) = refl

perform-pending : (n i j : ℕ) (e : Elementary) (p : Plain) → (perform_as n i j e p).pending ≡ p.pending ++ clifford_as i j e []
unfolding perform_as
perform-pending n i j (clifford g) p = refl
perform-pending n i j (el_t q) p = sym (append-nil p.pending)
perform-pending n i j (el_tdg q) p = sym (append-nil p.pending)
perform-pending n i j (el_ccx a b d) p = sym (append-nil p.pending)
perform-pending n i j (el_ccz a b d) p = sym (append-nil p.pending)
perform-pending n i j (el_measure q k) p = sym (append-nil p.pending)

-- `seen` are the gates since the last flush, es those to come
place_run_lem : (n : ℕ) (cap : Cap) (narrow : Bool) (rs : List Record) (es seen : List (Placed Elementary)) (at : Place) (p : Plain) → Located narrow rs es
    → gates_from narrow at rs ≡ seen ++ es → p.pending ≡ cliffords seen
    → (plain_run flush_from n cap es p).pending ≡ cliffords (gates_from narrow (place_run n cap es p at) rs)
unfolding plain_run place_run plain_step place_step flushed cliffords
place_run_lem n cap narrow rs [] seen at p L g h = h ∙ ap cliffords (sym (g ∙ append-nil seen))
place_run_lem n cap narrow rs (e ∷ es) seen at p L g h =
    place_run_lem n cap narrow rs es (cond b (e ∷ []) (seen ++ e ∷ [])) (cond b (place_of e) at) (perform n e (cond b (flushed flush_from n p) p)) L.1 (here b) (pending b)
  where
    b : Bool
    b = exceeds n cap p.table e.gate

    here : (b : Bool) → gates_from narrow (cond b (place_of e) at) rs ≡ cond b (e ∷ []) (seen ++ e ∷ []) ++ es
    here true = L.0
    here false = g ∙ sym (append_snoc seen e es)

    pending : (b : Bool) → (perform n e (cond b (flushed flush_from n p) p)).pending ≡ cliffords (cond b (e ∷ []) (seen ++ e ∷ []))
    pending true = perform-pending n e.index e.part e.gate (flushed flush_from n p)
    pending false = perform-pending n e.index e.part e.gate p ∙ ap (λ l. l ++ cliffords (e ∷ [])) h ∙ sym (cliffords-snoc seen e)

abbrev pub first_place : Place
first_place = record { index = 0; part = 0 }

pub pending_since : (n : ℕ) (cap : Cap) (narrow : Bool) (rs : List Record)
    → (plain_run flush_from n cap (lower_all narrow rs) (plain_begin n)).pending ≡ cliffords (gates_from narrow (place_run n cap (lower_all narrow rs) (plain_begin n) first_place) rs)
unfolding plain_begin lower_all gates_from cliffords
pending_since n cap narrow rs = place_run_lem n cap narrow rs (lower_from narrow 0 rs) [] first_place (plain_begin n) (located_from narrow rs [] rs 0 refl refl) refl refl

-- ---- without a narrow cap a flush comes only before a gate that is the first of its record

abbrev Whole : List (Placed Elementary) → Type 0
Whole [] = Unit {0}
Whole (e ∷ es) = ((n : ℕ) (cap : Cap) (t : List Row) → exceeds n cap t e.gate ≡ true → e.part ≡ 0) × Whole es

pub never-exceeds : (n : ℕ) (cap : Cap) (t : List Row) (g : Gate) → exceeds n cap t (clifford g) ≡ false
unfolding exceeds tested
never-exceeds n NoCap t g = refl
never-exceeds n (AtMost c) t g = refl

whole_append : (us vs : List (Placed Elementary)) → Whole us → Whole vs → Whole (us ++ vs)
whole_append [] vs u v = v
whole_append (e ∷ us) vs u v = (u.0, whole_append us vs u.1 v)

frame : (j : ℕ) (g : Gate) (n : ℕ) (cap : Cap) (t : List Row) → exceeds n cap t (clifford g) ≡ true → j ≡ 0
frame j g n cap t e = absurd (true≢false (sym e ∙ never-exceeds n cap t g))

whole-lower : (i : ℕ) (k : GateKind) (a b c : ℕ) → Whole (placed_from i 0 (lower_as k a b c))
unfolding lower_as
whole-lower i KindH a b c = (frame 0 _, tt)
whole-lower i KindX a b c = (frame 0 _, tt)
whole-lower i KindZ a b c = (frame 0 _, tt)
whole-lower i KindS a b c = (frame 0 _, tt)
whole-lower i KindSdg a b c = (frame 0 _, tt)
whole-lower i KindT a b c = ((λ n cap t e. refl), tt)
whole-lower i KindTdg a b c = ((λ n cap t e. refl), tt)
whole-lower i KindCnot a b c = (frame 0 _, tt)
whole-lower i KindCz a b c = (frame 0 _, tt)
whole-lower i KindCcx a b c = ((λ n cap t e. refl), tt)
whole-lower i KindCcz a b c = ((λ n cap t e. refl), tt)
whole-lower i KindMeasure a b c = ((λ n cap t e. refl), tt)
whole-lower i KindY a b c = (frame 0 _, (frame 1 _, tt))
whole-lower i KindSx a b c = (frame 0 _, (frame 1 _, (frame 2 _, tt)))
whole-lower i KindSwap a b c = (frame 0 _, (frame 1 _, (frame 2 _, tt)))
whole-lower i KindCy a b c = (frame 0 _, (frame 1 _, (frame 2 _, tt)))
whole-lower i Unsupported a b c = tt

whole_from : (i : ℕ) (rs : List Record) → Whole (lower_from false i rs)
unfolding lower_from lower
whole_from i [] = tt
whole_from i (r ∷ rs) =
    rw (lower-whole r) (whole_append (placed_from i 0 (lower r)) (lower_from false (suc i) rs) (whole-lower i (kind_of r.kind) r.a r.b r.c) (whole_from (suc i) rs))

whole_run : (n : ℕ) (cap : Cap) (es : List (Placed Elementary)) (p : Plain) (at : Place) → Whole es → at.part ≡ 0 → (place_run n cap es p at).part ≡ 0
unfolding place_run place_step
whole_run n cap [] p at W h = h
whole_run n cap (e ∷ es) p at W h = whole_run n cap es (plain_step flush_from n cap e p) (cond (exceeds n cap p.table e.gate) (place_of e) at) W.1
    (go (exceeds n cap p.table e.gate) (W.0 n cap p.table))
  where
    go : (b : Bool) → (b ≡ true → e.part ≡ 0) → (cond b (place_of e) at).part ≡ 0
    go true k = k refl
    go false k = h

-- the place of the last flush is a whole record
pub place_whole : (n : ℕ) (cap : Cap) (rs : List Record) (p : Plain) → (place_run n cap (lower_all false rs) p first_place).part ≡ 0
unfolding lower_all
place_whole n cap rs p = whole_run n cap (lower_from false 0 rs) p first_place (whole_from 0 rs) refl

-- ---- of a conversion

-- the pending gates are the frame gates from the place of the last flush on
pub pending_from_place : (x : Input)
    → (plain_end x).pending ≡ cliffords (gates_from (is_narrow x.cap) (place_run x.qubits x.cap (gates_in x) (plain_begin x.qubits) first_place) (records x.gates))
unfolding plain_end gates_in
pending_from_place x = pending_since x.qubits x.cap (is_narrow x.cap) (records x.gates)

-- which is a whole record, but under a cap of 1 or 2
pub place_is_whole : (x : Input) → is_narrow x.cap ≡ false → (place_run x.qubits x.cap (gates_in x) (plain_begin x.qubits) first_place).part ≡ 0
unfolding gates_in
place_is_whole x e = rw e (place_whole x.qubits x.cap (records x.gates) (plain_begin x.qubits))
