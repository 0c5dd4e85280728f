-- The planes as one value: what frame gates ask of it, what they make of it, and the laws by which several go in turn.
use Rattle.std.specs.Prelude.{◌≡◌, List, [], ◌∷◌}
use mathlib.Core.Path.{refl, ◌∙◌}
use Rattle.pauli.specs.Gates.{Gate, AllValid}
use Rattle.convert.specs.Code.RawPlanes.{plane_run}
use Rattle.convert.specs.declared.planes.Planes.{Planes}

-- the same words, of as many qubits
abbrev pub Stays : Planes → Planes → Type 0
Stays s t = (t.words.ghost_name ≡ s.words.ghost_name) × (t.qubits ≡ s.qubits) × (t.width ≡ s.width)

abbrev pub PlanesReady : Planes → List Gate → Type 0
PlanesReady s gs = AllValid s.qubits gs

abbrev pub PlanesDone : Planes → List Gate → Planes → Type 0
PlanesDone s gs t = (t.words.now ≡ plane_run s.width gs s.words.now) × Stays s t

pub planes_head : (s : Planes) (g : Gate) (gs : List Gate) → PlanesReady s (g ∷ gs) → PlanesReady s (g ∷ [])
planes_head s g gs r = (r.0, tt)

pub planes_tail : (s t : Planes) (g : Gate) (gs : List Gate) → PlanesReady s (g ∷ gs) → PlanesDone s (g ∷ []) t → PlanesReady t gs
planes_tail s t g gs r d = rw d.1.1 r.1

pub planes_none : (s : Planes) → PlanesReady s [] → PlanesDone s [] s
unfolding plane_run
planes_none s r = (refl, (refl, refl, refl))

pub planes_more : (s t u : Planes) (g : Gate) (gs : List Gate) → PlanesDone s (g ∷ []) t → PlanesDone t gs u → PlanesDone s (g ∷ gs) u
unfolding plane_run
planes_more s t u g gs d e = (e.0 ∙ rw (d.1.2, d.0), (e.1.0 ∙ d.1.0, e.1.1 ∙ d.1.1, e.1.2 ∙ d.1.2))
