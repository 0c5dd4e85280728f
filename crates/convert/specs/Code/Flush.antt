-- A flush as one value: what the pending gates of a record ask of it, what they make of it, and the laws by which several go in turn.
use Rattle.std.specs.Prelude.{◌≡◌, List, [], ◌∷◌, map, length}
use mathlib.Core.Path.{refl, ◌∙◌}
use native.Mathlib.Omega.{arith}
use Rattle.arena.specs.Limits.{max_qubits}
use Rattle.pauli.specs.Gates.{Gate}
use Rattle.convert.specs.Records.{from}
use Rattle.convert.specs.Code.Raw.{Writing, writing, FlushReady, Flushed, put_flushes}
use Rattle.convert.specs.declared.flush.Flush.{Flush}

-- what it has written so far
abbrev pub so_far : Flush → Writing
so_far s = writing s.used.nodes s.nodes.now s.used.operations s.operations.now

-- the same buffers, of the same lengths, and the same record
abbrev pub Stays : Flush → Flush → Type 0
Stays s t =
    (t.nodes.ghost_name ≡ s.nodes.ghost_name) × (t.operations.ghost_name ≡ s.operations.ghost_name) × (t.gate ≡ s.gate)
    × (length t.nodes.now ≡ length s.nodes.now) × (length t.operations.now ≡ length s.operations.now)

pub stays_on : (s t u : Flush) → Stays s t → Stays t u → Stays s u
stays_on s t u d e = (e.0 ∙ d.0, e.1 ∙ d.1, e.2 ∙ d.2, e.3 ∙ d.3, e.4 ∙ d.4)

abbrev pub Pending : Flush → List Gate → Type 0
Pending s gs = FlushReady max_qubits (map (from s.gate) gs) s.used.nodes s.nodes.now s.used.operations s.operations.now

abbrev pub Written : Flush → List Gate → Flush → Type 0
Written s gs t =
    Flushed (map (from s.gate) gs) s.used.nodes s.nodes.now s.used.operations s.operations.now t.used.nodes t.nodes.now t.used.operations t.operations.now
    × Stays s t

pub flush_head : (s : Flush) (g : Gate) (gs : List Gate) → Pending s (g ∷ gs) → Pending s (g ∷ [])
flush_head s g gs r = record {
  valid = (r.valid.0, tt);
  qubits = r.qubits;
  few = omega arith;
  room = omega arith;
  fewer = omega arith;
  place = omega arith;
}

pub flush_tail : (s t : Flush) (g : Gate) (gs : List Gate) → Pending s (g ∷ gs) → Written s (g ∷ []) t → Pending t gs
flush_tail s t g gs r d = rw d.1.2 (record {
  valid = r.valid.1;
  qubits = r.qubits;
  few = omega (arith, d.0.counted, r.few);
  room = omega (arith, d.0.counted, r.room, d.1.3);
  fewer = omega (arith, d.0.turned, r.fewer);
  place = omega (arith, d.0.turned, r.place, d.1.4);
})

pub flush_none : (s : Flush) → Pending s [] → Written s [] s
unfolding put_flushes
flush_none s r = (record { same = refl; counted = omega arith; turned = omega arith }, (refl, refl, refl, refl, refl))

pub flush_more : (s t u : Flush) (g : Gate) (gs : List Gate) → Written s (g ∷ []) t → Written t gs u → Written s (g ∷ gs) u
unfolding put_flushes
flush_more s t u g gs d e =
    let e₀ = rw d.1.2 at e.0 in
    (record { same = e₀.same ∙ rw d.0.same; counted = omega (arith, d.0.counted, e₀.counted); turned = omega (arith, d.0.turned, e₀.turned) }, stays_on s t u d.1 e.1)
