-- What a record makes of the buffers: its frame gates, or what it writes.
use mathlib.Core.Path.{◌≡◌, refl}
use mathlib.Core.List.{List, [], ◌∷◌}
use Prim.Native.Nat.{ℕ}
use native.Mathlib.Omega.{arith}
use lib.ListN.{length}
use types.Run.{OneOf}
use denote.Enum.Declared.{tag_of}
use Rattle.convert.specs.contracts.gate.GateKind.{the_type}
use Rattle.convert.specs.Records.{GateKind}
use Rattle.convert.specs.Code.Raw.{put_run, FrameReady, Ran, record_gates, writing, put_record}
use Rattle.convert.specs.Code.Converting.{Did}
use Rattle.convert.proofs.GateKinds.Arms.{no_record}

pub no_frame_gates : {n given gate : ℕ} {kind k : GateKind} {a b d c : ℕ} {ns fs : List ℕ} {u : ℕ} {os : List ℕ} {c' : ℕ} {ns' fs' : List ℕ} {u' : ℕ} {os' : List ℕ}
    → FrameReady n (record_gates kind a b) c ns fs → kind ≡ k → record_gates k a b ≡ [] → fs' ≡ fs → writing c' ns' u' os' ≡ put_record n given gate k a b d fs (writing c ns u os)
    → Did n given gate kind a b d c ns fs u os c' ns' fs' u' os'
unfolding put_run
no_frame_gates {c = c} {ns = ns} r ek e ef w = record {
  count = c;
  nodes = ns;
  ran = rw (ek, e, ef) (record { same = refl; small = r.small; counted = omega arith });
  sized = rw ef (refl, refl);
  wrote = rw (ek, ef) w;
}

pub only_frame_gates : {n given gate : ℕ} {kind : GateKind} {a b d c : ℕ} {ns fs : List ℕ} {u : ℕ} {os : List ℕ} {c' : ℕ} {ns' fs' : List ℕ} {u' : ℕ} {os' : List ℕ}
    → OneOf (0 ∷ 1 ∷ 2 ∷ 3 ∷ 4 ∷ 7 ∷ 8 ∷ 12 ∷ 13 ∷ 14 ∷ 15 ∷ 16 ∷ []) (tag_of the_type kind) → Ran n (record_gates kind a b) c ns fs c' ns' fs' → (length ns' ≡ length ns) × (length fs' ≡ length fs)
    → os' ≡ os → u' ≡ u → Did n given gate kind a b d c ns fs u os c' ns' fs' u' os'
only_frame_gates {n} {given} {gate} {kind} {a} {b} {d} {c' = c'} {ns' = ns'} {fs' = fs'} keys r l eo eu = record {
  count = c';
  nodes = ns';
  ran = r;
  sized = l;
  wrote = rw (eo, eu) (no_record n given gate kind a b d fs' _ keys);
}
