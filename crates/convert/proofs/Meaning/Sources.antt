-- Which gate record an operation names: one whose gate wrote it, in order but for what a flush writes.
use mathlib.Core.Path.{◌≡◌, refl, ap, sym, ◌∙◌}
use mathlib.Core.Logic.{inl, inr}
use mathlib.Core.Bool.{Bool, true, false, cond}
use mathlib.Core.List.{List, [], ◌∷◌, ◌++◌, map, append-nil}
use Prim.Native.Nat.{ℕ, zero, suc, ◌%◌, ◌≤◌, ◌<◌}
use lib.Dec.{eqb}
use native.Mathlib.Omega.{arith}
use lib.ListN.{length, get_or, length-append, length-map}
use lib.Seq.{get_or_at, append_snoc}
use Rattle.pauli.specs.Rows.{Row}
use Rattle.pauli.specs.Gates.{Gate, gate_h, gate_x, gate_z, gate_s, gate_sdg, gate_cnot, gate_cz}
use Rattle.pauli.specs.Rotations.{Rotation, written, Each}
use Rattle.convert.specs.Types.{Target, Bit}
use Rattle.convert.specs.Records.{Cap, Record, records, is_narrow, Elementary, clifford, el_t, el_tdg, el_ccx, el_ccz, el_measure, lower_in, Placed, placed, placed_from, lower_from, lower_all, bare, From, from, map_from}
use Rattle.convert.specs.Plain.{Operation, as_rotation, flush_from}
use Rattle.convert.specs.Paper.{Paper, axes, too_heavy, seven_angles, rotate_all, measure_first, writes, paper_perform, paper_flushed, paper_step, paper_run, paper_begin}
use Rattle.convert.specs.Conversion.{Input, gates_in, paper_end}
use Rattle.convert.specs.Sources.{Member, All, OfRecord, unflushed, unflushed_indices, NeverFall}
use Rattle.convert.proofs.Meaning.Words.{map-append, map-from}

-- ---- lists

pub all_append : {A : Type 0} (P : A → Type 0) (us vs : List A) → All P us → All P vs → All P (us ++ vs)
all_append P [] vs u v = v
all_append P (x ∷ us) vs u v = (u.0, all_append P us vs u.1 v)

all_imply : {A : Type 0} (P Q : A → Type 0) (l : List A) → ((x : A) → P x → Q x) → All P l → All Q l
all_imply P Q [] f h = tt
all_imply P Q (x ∷ l) f h = (f x h.0, all_imply P Q l f h.1)

-- what holds of each index holds whatever the things are
pub all_mapped : {A B : Type 0} (P : ℕ → Type 0) (f : A → B) (l : List (From A)) → All (λ x. P x.index) (map (map_from f) l) → All (λ x. P x.index) l
all_mapped P f [] h = tt
all_mapped P f (x ∷ l) h = (h.0, all_mapped P f l h.1)

each_from : {A : Type 0} (P : From A → Type 0) (i : ℕ) (l : List A) → ((x : A) → Member x l → P (from i x)) → All P (map (from i) l)
each_from P i [] f = tt
each_from P i (x ∷ l) f = (f x (inl refl), each_from P i l (λ y m. f y (inr m)))

each_placed : {A : Type 0} (P : Placed A → Type 0) (i j : ℕ) (l : List A) → ((k : ℕ) (x : A) → Member x l → P (placed i k x)) → All P (placed_from i j l)
each_placed P i j [] f = tt
each_placed P i j (x ∷ l) f = (f j x (inl refl), each_placed P i (suc j) l (λ k y m. f k y (inr m)))

-- a list that has a member is there
member_inside : {A : Type 0} (l : List (List A)) (i : ℕ) (x : A) → Member x (get_or l i []) → i < length l
member_inside [] i x m = absurd m
member_inside (y ∷ l) zero x m = omega arith
member_inside (y ∷ l) (suc i) x m = let lt = member_inside l i x m in omega arith

-- ---- indices

never_fall_append : (b : ℕ) (l m : List ℕ) → NeverFall l → All (λ i. i ≤ b) l → NeverFall m → All (λ i. b ≤ i) m → NeverFall (l ++ m)
never_fall_append b [] m u lo v hi = v
never_fall_append b (i ∷ []) [] u lo v hi = tt
never_fall_append b (i ∷ []) (k ∷ m) u lo v hi = (omega (arith, lo.0, hi.0), v)
never_fall_append b (i ∷ j ∷ l) m u lo v hi = (u.0, never_fall_append b (j ∷ l) m u.1 lo.1 v hi)

equal_never_fall : (i : ℕ) (l : List ℕ) → All (λ k. k ≡ i) l → NeverFall l
equal_never_fall i [] h = tt
equal_never_fall i (j ∷ []) h = tt
equal_never_fall i (j ∷ k ∷ l) h = (omega (arith, h.0, h.1.0), equal_never_fall i (k ∷ l) h.1)

unflushed-append : (us vs : List (From Operation)) → unflushed_indices (us ++ vs) ≡ unflushed_indices us ++ unflushed_indices vs
unflushed-append [] vs = refl
unflushed-append (o ∷ us) vs = ap (λ l. cond (unflushed o.what) (o.index ∷ l) l) (unflushed-append us vs) ∙ go (unflushed o.what)
  where
    go : (b : Bool) → cond b (o.index ∷ (unflushed_indices us ++ unflushed_indices vs)) (unflushed_indices us ++ unflushed_indices vs)
        ≡ cond b (o.index ∷ unflushed_indices us) (unflushed_indices us) ++ unflushed_indices vs
    go true = refl
    go false = refl

-- operations of one record
unflushed-from : (i : ℕ) (os : List Operation) → All (λ k. k ≡ i) (unflushed_indices (map (from i) os))
unflushed-from i [] = tt
unflushed-from i (o ∷ os) = go (unflushed o) (unflushed-from i os)
  where
    go : (b : Bool) → All (λ k. k ≡ i) (unflushed_indices (map (from i) os)) → All (λ k. k ≡ i) (cond b (i ∷ unflushed_indices (map (from i) os)) (unflushed_indices (map (from i) os)))
    go true h = (refl, h)
    go false h = h

-- ---- who wrote an operation is told by its angle: a flush writes even ones only

even_turns : (l : List Rotation) → Each (λ r. eqb (r.angle % 2) 1 ≡ false) l → (o : Operation) → Member o (map as_rotation l) → unflushed o ≡ false
even_turns [] h o m = absurd m
even_turns (r ∷ l) h o (inl e) = ap unflushed e ∙ h.0
even_turns (r ∷ l) h o (inr m) = even_turns l h.1 o m

written-even : (n : ℕ) (g : Gate) → Each (λ r. eqb (r.angle % 2) 1 ≡ false) (written n g)
written-even n (gate_h q) = (refl, (refl, (refl, tt)))
written-even n (gate_x q) = (refl, tt)
written-even n (gate_z q) = (refl, tt)
written-even n (gate_s q) = (refl, tt)
written-even n (gate_sdg q) = (refl, tt)
written-even n (gate_cnot c t) = (refl, (refl, (refl, tt)))
written-even n (gate_cz c t) = (refl, (refl, (refl, tt)))

skip_even : (i : ℕ) (l : List Rotation) (rest : List (From Rotation)) → Each (λ r. eqb (r.angle % 2) 1 ≡ false) l
    → unflushed_indices (map (map_from as_rotation) (map (from i) l ++ rest)) ≡ unflushed_indices (map (map_from as_rotation) rest)
skip_even i [] rest h = refl
skip_even i (r ∷ l) rest h = rw h.0 (skip_even i l rest h.1)

flush-unflushed : (n : ℕ) (gs : List (Placed Gate)) → unflushed_indices (map (map_from as_rotation) (flush_from n gs)) ≡ []
unfolding flush_from
flush-unflushed n [] = refl
flush-unflushed n (g ∷ gs) = skip_even g.index (written n g.gate) (flush_from n gs) (written-even n g.gate) ∙ flush-unflushed n gs

odd_turns : (ks : List ℕ) (Ps : List Row) → All (λ k. eqb (k % 2) 1 ≡ true) ks → (o : Operation) → Member o (rotate_all ks Ps) → unflushed o ≡ true
odd_turns [] Ps h o m = absurd m
odd_turns (k ∷ ks) [] h o m = absurd m
odd_turns (k ∷ ks) (P ∷ Ps) h o (inl e) = ap unflushed e ∙ h.0
odd_turns (k ∷ ks) (P ∷ Ps) h o (inr m) = odd_turns ks Ps h.1 o m

measured : (k : ℕ) (b : Target) (Ps : List Row) (o : Operation) → Member o (measure_first k b Ps) → unflushed o ≡ true
measured k b [] o m = absurd m
measured k b (P ∷ Ps) o (inl e) = ap unflushed e
measured k b (P ∷ Ps) o (inr m) = absurd m

writes-odd : (n : ℕ) (gs : List Gate) (k : ℕ) (e : Elementary) (o : Operation) → Member o (writes n gs k e) → unflushed o ≡ true
unfolding writes
writes-odd n gs k (clifford g) o m = absurd m
writes-odd n gs k (el_t q) o m = odd_turns (1 ∷ []) (axes n gs (el_t q)) (refl, tt) o m
writes-odd n gs k (el_tdg q) o m = odd_turns (7 ∷ []) (axes n gs (el_tdg q)) (refl, tt) o m
writes-odd n gs k (el_ccx a b d) o m = odd_turns seven_angles (axes n gs (el_ccx a b d)) (refl, (refl, (refl, (refl, (refl, (refl, (refl, tt))))))) o m
writes-odd n gs k (el_ccz a b d) o m = odd_turns seven_angles (axes n gs (el_ccz a b d)) (refl, (refl, (refl, (refl, (refl, (refl, (refl, tt))))))) o m
writes-odd n gs k (el_measure q c) o m = measured k (Bit c) (axes n gs (el_measure q c)) o m

-- ---- the gates of records

-- a gate is one of those that its record is lowered to
abbrev Lowered : Bool → List Record → Placed Elementary → Type 0
Lowered narrow rs e = Member e.gate (get_or (map (lower_in narrow) rs) e.index [])

-- no index is below b or below the one before it
abbrev Rising : ℕ → List (Placed Elementary) → Type 0
Rising b [] = Unit {0}
Rising b (e ∷ es) = (b ≤ e.index) × Rising e.index es

record_at : (narrow : Bool) (before after : List Record) (r : Record) → get_or (map (lower_in narrow) (before ++ r ∷ after)) (length before) [] ≡ lower_in narrow r
record_at narrow before after r =
    ap (λ l. get_or l (length before) []) (map-append (lower_in narrow) before (r ∷ after))
    ∙ get_or_at (map (lower_in narrow) before) (lower_in narrow r) (map (lower_in narrow) after) [] (length before) (length-map before (lower_in narrow))

lowered-from : (narrow : Bool) (rs before after : List Record) (i : ℕ) → i ≡ length before → rs ≡ before ++ after → All (Lowered narrow rs) (lower_from narrow i after)
unfolding lower_from
lowered-from narrow rs before [] i e h = tt
lowered-from narrow rs before (r ∷ after) i e h =
    all_append (Lowered narrow rs) (placed_from i 0 (lower_in narrow r)) (lower_from narrow (suc i) after)
    (each_placed (Lowered narrow rs) i 0 (lower_in narrow r) (λ k x m. rw (e, h, record_at narrow before after r) m))
    (lowered-from narrow rs (before ++ r ∷ []) after (suc i) (sym (length-append before (r ∷ []) ∙ omega arith)) (h ∙ sym (append_snoc before r after)))

rising_lower : (b c : ℕ) (es : List (Placed Elementary)) → b ≤ c → Rising c es → Rising b es
rising_lower b c [] le R = tt
rising_lower b c (e ∷ es) le R = (omega (arith, R.0), R.1)

rising-placed : (b i j : ℕ) (us : List Elementary) (vs : List (Placed Elementary)) → b ≤ i → Rising i vs → Rising b (placed_from i j us ++ vs)
rising-placed b i j [] vs le R = rising_lower b i vs le R
rising-placed b i j (u ∷ us) vs le R = (le, rising-placed i i (suc j) us vs (omega arith) R)

rising-from : (narrow : Bool) (i : ℕ) (rs : List Record) → Rising i (lower_from narrow i rs)
unfolding lower_from
rising-from narrow i [] = tt
rising-from narrow i (r ∷ rs) = rising-placed i i 0 (lower_in narrow r) (lower_from narrow (suc i) rs) (omega arith) (rising_lower i (suc i) (lower_from narrow (suc i) rs) (omega arith) (rising-from narrow (suc i) rs))

-- ---- the run

abbrev Pends : Bool → List Record → Placed Gate → Type 0
Pends narrow rs g = Member (clifford g.gate) (get_or (map (lower_in narrow) rs) g.index [])

-- what is known before a gate of a record from b on
record Sourced (n : ℕ) (narrow : Bool) (rs : List Record) (b : ℕ) (p : Paper) : Type 0 where
  pending : All (Pends narrow rs) p.since
  named : All (OfRecord n narrow rs) p.operations
  never_fall : NeverFall (unflushed_indices p.operations)
  most : All (λ i. i ≤ b) (unflushed_indices p.operations)

flush_named : (n : ℕ) (narrow : Bool) (rs : List Record) (gs : List (Placed Gate)) → All (Pends narrow rs) gs → All (OfRecord n narrow rs) (map (map_from as_rotation) (flush_from n gs))
unfolding flush_from
flush_named n narrow rs [] h = tt
flush_named n narrow rs (g ∷ gs) h =
    rw (map-append (map_from as_rotation) (map (from g.index) (written n g.gate)) (flush_from n gs), map-from as_rotation g.index (written n g.gate))
    (all_append (OfRecord n narrow rs) (map (from g.index) (map as_rotation (written n g.gate))) (map (map_from as_rotation) (flush_from n gs))
    (each_from (OfRecord n narrow rs) g.index (map as_rotation (written n g.gate)) (λ o m. record { gate = clifford g.gate; lowered = h.0; wrote = inl (m, even_turns (written n g.gate) (written-even n g.gate) o m) }))
    (flush_named n narrow rs gs h.1))

module _ (n : ℕ) (narrow : Bool) (rs : List Record) (b : ℕ) (p : Paper) (S : Sourced n narrow rs b p) where
  flushed_indices : unflushed_indices (paper_flushed flush_from n p).operations ≡ unflushed_indices p.operations
  flushed_indices =
      unflushed-append p.operations (map (map_from as_rotation) (flush_from n p.since))
      ∙ ap (λ l. unflushed_indices p.operations ++ l) (flush-unflushed n p.since) ∙ append-nil (unflushed_indices p.operations)

  sourced_flushed : Sourced n narrow rs b (paper_flushed flush_from n p)
  sourced_flushed = record {
    pending = tt;
    named = all_append (OfRecord n narrow rs) p.operations _ S.named (flush_named n narrow rs p.since S.pending);
    never_fall = rw flushed_indices S.never_fall;
    most = rw flushed_indices S.most;
  }

  -- a gate of record i writes
  module _ (i : ℕ) (le : b ≤ i) (e : Elementary) (m : Member e (get_or (map (lower_in narrow) rs) i [])) where
    new : List Operation
    new = writes n (bare p.since) p.given e

    more_named : All (OfRecord n narrow rs) (p.operations ++ map (from i) new)
    unfolding new
    more_named = all_append (OfRecord n narrow rs) p.operations (map (from i) new) S.named
        (each_from (OfRecord n narrow rs) i new (λ o w. record { gate = e; lowered = m; wrote = inr (record { since = bare p.since; given = p.given; wrote = w }, writes-odd n (bare p.since) p.given e o w) }))

    old : List ℕ
    old = unflushed_indices p.operations

    added : List ℕ
    added = unflushed_indices (map (from i) new)

    added_same : All (λ k. k ≡ i) added
    unfolding added
    added_same = unflushed-from i new

    all_indices : unflushed_indices (p.operations ++ map (from i) new) ≡ old ++ added
    unfolding old added
    all_indices = unflushed-append p.operations (map (from i) new)

    more_never_fall : NeverFall (unflushed_indices (p.operations ++ map (from i) new))
    unfolding old
    more_never_fall = rw all_indices
        (never_fall_append b old added S.never_fall S.most (equal_never_fall i added added_same) (all_imply (λ k. k ≡ i) (λ k. b ≤ k) added (λ k e. omega arith) added_same))

    more_most : All (λ k. k ≤ i) (unflushed_indices (p.operations ++ map (from i) new))
    unfolding old
    more_most = rw all_indices
        (all_append (λ k. k ≤ i) old added (all_imply (λ k. k ≤ b) (λ k. k ≤ i) old (λ k h. omega arith) S.most)
        (all_imply (λ k. k ≡ i) (λ k. k ≤ i) added (λ k e. omega arith) added_same))

    sourced_more : (given : ℕ) → Sourced n narrow rs i (record { since = p.since; operations = p.operations ++ map (from i) new; given = given })
    sourced_more given = record { pending = S.pending; named = more_named; never_fall = more_never_fall; most = more_most }

  sourced_perform : (i j : ℕ) → b ≤ i → (e : Elementary) → Member e (get_or (map (lower_in narrow) rs) i []) → Sourced n narrow rs i (paper_perform n i j e p)
  unfolding paper_perform new
  sourced_perform i j le (clifford g) m = record {
    pending = all_append (Pends narrow rs) p.since (placed i j g ∷ []) S.pending (m, tt);
    named = S.named;
    never_fall = S.never_fall;
    most = all_imply (λ k. k ≤ b) (λ k. k ≤ i) (unflushed_indices p.operations) (λ k h. omega arith) S.most;
  }
  sourced_perform i j le (el_t q) m = sourced_more i le (el_t q) m p.given
  sourced_perform i j le (el_tdg q) m = sourced_more i le (el_tdg q) m p.given
  sourced_perform i j le (el_ccx a c d) m = sourced_more i le (el_ccx a c d) m p.given
  sourced_perform i j le (el_ccz a c d) m = sourced_more i le (el_ccz a c d) m p.given
  sourced_perform i j le (el_measure q k) m = sourced_more i le (el_measure q k) m (suc p.given)

abbrev Claims : ℕ → Bool → List Record → List (From Operation) → Type 0
Claims n narrow rs os = All (OfRecord n narrow rs) os × NeverFall (unflushed_indices os)

sourced_run : (n : ℕ) (cap : Cap) (narrow : Bool) (rs : List Record) (b : ℕ) (es : List (Placed Elementary)) (p : Paper) → Rising b es → All (Lowered narrow rs) es → Sourced n narrow rs b p
    → Claims n narrow rs (paper_run flush_from n cap es p).operations
unfolding paper_run paper_step
sourced_run n cap narrow rs b [] p R L S = (S.named, S.never_fall)
sourced_run n cap narrow rs b (e ∷ es) p R L S = sourced_run n cap narrow rs e.index es (paper_step flush_from n cap e p) R.1 L.1 (go (too_heavy n cap (bare p.since) e.gate))
  where
    go : (heavy : Bool) → Sourced n narrow rs e.index (paper_perform n e.index e.part e.gate (cond heavy (paper_flushed flush_from n p) p))
    go true = sourced_perform n narrow rs b (paper_flushed flush_from n p) (sourced_flushed n narrow rs b p S) e.index e.part R.0 e.gate L.0
    go false = sourced_perform n narrow rs b p S e.index e.part R.0 e.gate L.0

sourced : (n : ℕ) (cap : Cap) (narrow : Bool) (rs : List Record) → Claims n narrow rs (paper_run flush_from n cap (lower_all narrow rs) paper_begin).operations
unfolding lower_all
sourced n cap narrow rs =
    sourced_run n cap narrow rs 0 (lower_from narrow 0 rs) paper_begin (rising-from narrow 0 rs) (lowered-from narrow rs [] rs 0 refl refl) (record { pending = tt; named = tt; never_fall = tt; most = tt })

-- ---- of a conversion by the papers

pub paper_named : (x : Input) → All (OfRecord x.qubits (is_narrow x.cap) (records x.gates)) (paper_end x).operations
unfolding paper_end gates_in
paper_named x = (sourced x.qubits x.cap (is_narrow x.cap) (records x.gates)).0

pub paper_never_falls : (x : Input) → NeverFall (unflushed_indices (paper_end x).operations)
unfolding paper_end gates_in
paper_never_falls x = (sourced x.qubits x.cap (is_narrow x.cap) (records x.gates)).1

-- an operation of a record names one of the list
named_below : (n : ℕ) (narrow : Bool) (rs : List Record) (os : List (From Operation)) → All (OfRecord n narrow rs) os → All (λ o. o.index < length rs) os
named_below n narrow rs os = all_imply (OfRecord n narrow rs) (λ o. o.index < length rs) os (λ o h. omega (arith, length-map rs (lower_in narrow), member_inside (map (lower_in narrow) rs) o.index h.gate h.lowered))

pub paper_below : (x : Input) → All (λ o. o.index < length (records x.gates)) (paper_end x).operations
paper_below x = named_below x.qubits (is_narrow x.cap) (records x.gates) (paper_end x).operations (paper_named x)
