-- The frame images as one value: what frame gates ask of it, what they make of it, and the laws by which several go in turn.
use Rattle.std.specs.Prelude.{◌≡◌, List, [], ◌∷◌, length}
use mathlib.Core.Path.{refl, ◌∙◌}
use native.Mathlib.Omega.{arith}
use Rattle.pauli.specs.Gates.{Gate}
use Rattle.convert.specs.Code.Raw.{FrameReady, Ran, put_run}
use Rattle.convert.specs.declared.frame.Images.{Images}

-- the same buffers, of the same lengths, and as many qubits
abbrev pub Stays : Images → Images → Type 0
Stays s t =
    (t.nodes.ghost_name ≡ s.nodes.ghost_name) × (t.frame.ghost_name ≡ s.frame.ghost_name) × (t.qubits ≡ s.qubits)
    × (length t.nodes.now ≡ length s.nodes.now) × (length t.frame.now ≡ length s.frame.now)

pub stays_on : (s t u : Images) → Stays s t → Stays t u → Stays s u
stays_on s t u d e = (e.0 ∙ d.0, e.1 ∙ d.1, e.2 ∙ d.2, e.3 ∙ d.3, e.4 ∙ d.4)

abbrev pub ImagesReady : Images → List Gate → Type 0
ImagesReady s gs = FrameReady s.qubits gs s.count s.nodes.now s.frame.now

abbrev pub ImagesDone : Images → List Gate → Images → Type 0
ImagesDone s gs t = Ran s.qubits gs s.count s.nodes.now s.frame.now t.count t.nodes.now t.frame.now × Stays s t

pub images_head : (s : Images) (g : Gate) (gs : List Gate) → ImagesReady s (g ∷ gs) → ImagesReady s (g ∷ [])
images_head s g gs r = record {
  valid = (r.valid.0, tt);
  qubits = r.qubits;
  places = r.places;
  small = r.small;
  few = omega arith;
  room = omega arith;
}

pub images_tail : (s t : Images) (g : Gate) (gs : List Gate) → ImagesReady s (g ∷ gs) → ImagesDone s (g ∷ []) t → ImagesReady t gs
images_tail s t g gs r d = rw d.1.2 (record {
  valid = r.valid.1;
  qubits = r.qubits;
  places = omega (arith, d.1.4, r.places);
  small = d.0.small;
  few = omega (arith, d.0.counted, r.few);
  room = omega (arith, d.0.counted, r.room, d.1.3);
})

pub images_none : (s : Images) → ImagesReady s [] → ImagesDone s [] s
unfolding put_run
images_none s r = (record { same = refl; small = r.small; counted = omega arith }, (refl, refl, refl, refl, refl))

pub images_more : (s t u : Images) (g : Gate) (gs : List Gate) → ImagesDone s (g ∷ []) t → ImagesDone t gs u → ImagesDone s (g ∷ gs) u
unfolding put_run
images_more s t u g gs d e =
    let e₀ = rw d.1.2 at e.0 in
    (record { same = e₀.same ∙ rw d.0.same; small = e₀.small; counted = omega (arith, d.0.counted, e₀.counted) }, stays_on s t u d.1 e.1)
