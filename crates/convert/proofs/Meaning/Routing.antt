-- Every operation of a conversion is routed, whatever light rotations its flush writes: one induction for signs, weights and angles.
use mathlib.Core.Path.{◌≡◌, refl}
use mathlib.Core.Bool.{Bool, true, false, cond}
use mathlib.Core.List.{List, [], ◌∷◌, ◌++◌, map}
use Prim.Native.Nat.{ℕ, ◌%◌, ◌≤◌}
use native.Mathlib.Omega.{arith}
use Rattle.pauli.specs.Rows.{Row, weight}
use Rattle.pauli.specs.Gates.{Gate, AllValid}
use Rattle.pauli.specs.Rotations.{Rotation, Each}
use Rattle.pauli.proofs.Weight.{flush-light}
use Rattle.convert.specs.Types.{One, Target, Bit}
use Rattle.convert.specs.Records.{Cap, NoCap, AtMost, is_narrow, Record, Elementary, clifford, el_t, el_tdg, el_ccx, el_ccz, el_measure, Placed, lower_from, bare, from, without_index, Proper, AllProper}
use Rattle.convert.specs.Plain.{any_above, Flush, as_rotation, flush_from}
use Rattle.convert.specs.Paper.{Paper, axes, too_heavy, seven_angles, rotate_all, measure_first, writes, paper_perform, paper_flushed, paper_step, paper_run, paper_begin}
use Rattle.convert.specs.Conversion.{cap_too_small}
use Rattle.convert.specs.Sources.{All}
use Rattle.convert.specs.Routing.{Within, Tested, AllRouted, Routed}
use Rattle.convert.proofs.Meaning.Words.{valid_append, bare-snoc, without_more, flush-without, without-flushed}
use Rattle.convert.proofs.Meaning.Signs.{axes-real}
use Rattle.convert.proofs.Meaning.Sources.{all_append}
use Rattle.convert.proofs.Meaning.Cap.{not_above, AllBorne, axes-light, positive, borne_records}

all_of : {A : Type 0} (P : A → Type 0) → ((a : A) → P a) → (l : List A) → All P l
all_of P f [] = tt
all_of P f (a ∷ l) = (f a, all_of P f l)

all_both : {A : Type 0} (P Q : A → Type 0) (l : List A) → All P l → All Q l → All (λ a. P a × Q a) l
all_both P Q [] p q = tt
all_both P Q (a ∷ l) p q = ((p.0, q.0), all_both P Q l p.1 q.1)

-- ---- what a gate writes

routed_rotated : (cap : Cap) (ks : List ℕ) (Ps : List Row) → All (λ k. k % 2 ≡ 1) ks → All (Tested cap) Ps → AllRouted cap (rotate_all ks Ps)
routed_rotated cap [] Ps o t = tt
routed_rotated cap (k ∷ ks) [] o t = tt
routed_rotated cap (k ∷ ks) (P ∷ Ps) o t = (((λ e. t.0), λ e. absurd (omega (arith, o.0))), routed_rotated cap ks Ps o.1 t.1)

routed_measured : (cap : Cap) (m : ℕ) (b : Target) (Ps : List Row) → All (Tested cap) Ps → AllRouted cap (measure_first m b Ps)
routed_measured cap m b [] t = tt
routed_measured cap m b (P ∷ Ps) t = (t.0, tt)

odd_seven : All (λ k. k % 2 ≡ 1) seven_angles
odd_seven = (refl, (refl, (refl, (refl, (refl, (refl, (refl, tt)))))))

routed-writes : (cap : Cap) (n : ℕ) (gs : List Gate) (m : ℕ) (e : Elementary) → All (Tested cap) (axes n gs e) → AllRouted cap (writes n gs m e)
unfolding writes
routed-writes cap n gs m (clifford g) t = tt
routed-writes cap n gs m (el_t q) t = routed_rotated cap (1 ∷ []) (axes n gs (el_t q)) (refl, tt) t
routed-writes cap n gs m (el_tdg q) t = routed_rotated cap (7 ∷ []) (axes n gs (el_tdg q)) (refl, tt) t
routed-writes cap n gs m (el_ccx a b d) t = routed_rotated cap seven_angles (axes n gs (el_ccx a b d)) odd_seven t
routed-writes cap n gs m (el_ccz a b d) t = routed_rotated cap seven_angles (axes n gs (el_ccz a b d)) odd_seven t
routed-writes cap n gs m (el_measure q k) t = routed_measured cap m (Bit k) (axes n gs (el_measure q k)) t

-- ---- what a flush writes

-- each rotation of the flush has weight at most 2, sign +1 and an even angle
abbrev pub LightFlush : Flush → Type 0
LightFlush flush = (n : ℕ) (gs : List (Placed Gate)) → AllValid n (bare gs)
    → Each (λ r. (weight r.axis.letters ≤ 2) × (r.axis.phase ≡ One) × (r.angle % 2 ≡ 0)) (without_index (flush n gs))

pub light-from : LightFlush flush_from
light-from n gs v = rw (flush-without n gs) (flush-light n (bare gs) v)

routed_flush : (cap : ℕ) (rs : List Rotation) → Each (λ r. (weight r.axis.letters ≤ 2) × (r.axis.phase ≡ One) × (r.angle % 2 ≡ 0)) rs
    → AllRouted (AtMost cap) (map as_rotation rs)
routed_flush cap [] h = tt
routed_flush cap (r ∷ rs) h = (((λ e. absurd (omega (arith, h.0.2))), λ e. (h.0.1, h.0.0)), routed_flush cap rs h.1)

-- ---- the run

record Kept (cap : Cap) (n : ℕ) (p : Paper) : Type 0 where
  valid : AllValid n (bare p.since)
  routed : AllRouted cap (without_index p.operations)

module _ (flush : Flush) (light : LightFlush flush) where
  kept_more : (cap : Cap) (n i : ℕ) (e : Elementary) (p : Paper) → All (Tested cap) (axes n (bare p.since) e) → Kept cap n p
      → AllRouted cap (without_index (p.operations ++ map (from i) (writes n (bare p.since) p.given e)))
  kept_more cap n i e p t K =
      rw (without_more p.operations i (writes n (bare p.since) p.given e))
      (all_append (Routed cap) (without_index p.operations) _ K.routed (routed-writes cap n (bare p.since) p.given e t))

  kept_as : (cap : Cap) (n c i j : ℕ) (e : Elementary) (p : Paper) → Proper n c e → All (Tested cap) (axes n (bare p.since) e) → Kept cap n p → Kept cap n (paper_perform n i j e p)
  unfolding paper_perform
  kept_as cap n c i j (clifford g) p h t K = record {
    valid = rw (bare-snoc p.since i j g) (valid_append n (bare p.since) (g ∷ []) K.valid (h, tt));
    routed = K.routed;
  }
  kept_as cap n c i j (el_t q) p h t K = record { valid = K.valid; routed = kept_more cap n i (el_t q) p t K }
  kept_as cap n c i j (el_tdg q) p h t K = record { valid = K.valid; routed = kept_more cap n i (el_tdg q) p t K }
  kept_as cap n c i j (el_ccx a b d) p h t K = record { valid = K.valid; routed = kept_more cap n i (el_ccx a b d) p t K }
  kept_as cap n c i j (el_ccz a b d) p h t K = record { valid = K.valid; routed = kept_more cap n i (el_ccz a b d) p t K }
  kept_as cap n c i j (el_measure q k) p h t K = record { valid = K.valid; routed = kept_more cap n i (el_measure q k) p t K }

  -- a gate whose products are within the cap
  kept_perform : (cap : Cap) (n c : ℕ) (e : Placed Elementary) (p : Paper) → Proper n c e.gate → All (Within cap) (axes n (bare p.since) e.gate) → Kept cap n p
      → Kept cap n (paper_perform n e.index e.part e.gate p)
  kept_perform cap n c e p h u K = kept_as cap n c e.index e.part e.gate p h
      (all_both _ (Within cap) (axes n (bare p.since) e.gate) (axes-real n (bare p.since) K.valid c e.gate h) u) K

  kept_flushed : (cap n : ℕ) (p : Paper) → Kept (AtMost cap) n p → Kept (AtMost cap) n (paper_flushed flush n p)
  kept_flushed cap n p K = record {
    valid = tt;
    routed = rw (without-flushed p.operations (flush n p.since))
        (all_append (Routed (AtMost cap)) (without_index p.operations) _ K.routed (routed_flush cap (without_index (flush n p.since)) (light n p.since K.valid)));
  }

  -- without a cap no flush comes
  kept_free : (n c : ℕ) (es : List (Placed Elementary)) (p : Paper) → AllProper n c (bare es) → Kept NoCap n p → Kept NoCap n (paper_run flush n NoCap es p)
  unfolding paper_run paper_step too_heavy
  kept_free n c [] p h K = K
  kept_free n c (e ∷ es) p h K = kept_free n c es (paper_step flush n NoCap e p) h.1
      (kept_perform NoCap n c e p h.0 (all_of (Within NoCap) (λ P. tt) (axes n (bare p.since) e.gate)) K)

  kept_under : (cap n c : ℕ) (es : List (Placed Elementary)) (p : Paper) → AllProper n c (bare es) → AllBorne cap (bare es) → Kept (AtMost cap) n p
      → Kept (AtMost cap) n (paper_run flush n (AtMost cap) es p)
  unfolding paper_run paper_step too_heavy
  kept_under cap n c [] p h b K = K
  kept_under cap n c (e ∷ es) p h b K =
      kept_under cap n c es (paper_step flush n (AtMost cap) e p) h.1 b.1 (go (any_above cap (axes n (bare p.since) e.gate)) refl)
    where
      go : (heavy : Bool) → any_above cap (axes n (bare p.since) e.gate) ≡ heavy
          → Kept (AtMost cap) n (paper_perform n e.index e.part e.gate (cond heavy (paper_flushed flush n p) p))
      go true a = kept_perform (AtMost cap) n c e (paper_flushed flush n p) h.0 (axes-light cap n e.gate b.0) (kept_flushed cap n p K)
      go false a = kept_perform (AtMost cap) n c e p h.0 (not_above cap (axes n (bare p.since) e.gate) a) K

  pub routed : (n c : ℕ) (cap : Cap) (rs : List Record) → AllProper n c (bare (lower_from (is_narrow cap) 0 rs)) → cap_too_small cap ≡ false
      → AllRouted cap (without_index (paper_run flush n cap (lower_from (is_narrow cap) 0 rs) paper_begin).operations)
  routed n c NoCap rs v e = (kept_free n c (lower_from (is_narrow NoCap) 0 rs) paper_begin v (record { valid = tt; routed = tt })).routed
  routed n c (AtMost cap) rs v e =
      (kept_under cap n c (lower_from (is_narrow (AtMost cap)) 0 rs) paper_begin v (borne_records cap 0 rs (positive cap e)) (record { valid = tt; routed = tt })).routed
