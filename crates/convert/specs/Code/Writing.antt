-- The writing pass before a position: what stands in the buffers.
use Rattle.std.specs.Prelude.{◌≡◌, Bool, true, false, List, map, ℕ, ◌+◌, ◌-◌, ◌*◌, ◌/◌, ◌≤◌, length}
use Rattle.pauli.specs.Gates.{Gate}
use Rattle.arena.specs.Builder.{overlay}
use Rattle.arena.specs.Limits.{operation_words}
use Rattle.convert.specs.Records.{Cap, Placed, From, from}
use Rattle.convert.specs.Plain.{Plain, flush_from, plain_run}
use Rattle.convert.specs.Frame.{Arena}
use Rattle.convert.specs.Words.{Words, flat, word_run}
use Rattle.convert.specs.Planes.{part_words}
use Rattle.convert.specs.Code.Needs.{need_run}
use Rattle.convert.specs.Code.RawPlanes.{Wide, Since}
use Rattle.convert.specs.Code.Lists.{rest_of}
use Rattle.convert.specs.Code.Raw.{Small, is_capped, planes_for, InParts, stepped, gates_over, needs_of, plain_last, words_last, needs_last}

-- the pending gates with their records alone
abbrev pub unplaced : List (Placed Gate) → List (From Gate)
unplaced gs = map (λ g. from g.index g.gate) gs

pub record Even (n : ℕ) (s : Arena) : Type 0 where
  pub nodes : length s.nodes ≡ 2 * s.count
  pub frame : length s.frame ≡ n + n

-- c nodes and u operations are used in the buffers, and they are those of w, over what the buffers had
pub record Stands (n : ℕ) (ns₀ fs₀ os₀ : List ℕ) (c : ℕ) (ns fs : List ℕ) (u : ℕ) (os : List ℕ) (w : Words) : Type 0 where
  pub count : c ≡ w.arena.count
  pub nodes : ns ≡ overlay w.arena.nodes ns₀
  pub frame : fs ≡ overlay w.arena.frame fs₀
  pub used : u ≡ length w.ops
  pub operations : os ≡ overlay (flat w.ops) os₀
  pub even : Even n w.arena
  pub sized : length (flat w.ops) ≡ operation_words * length w.ops

-- the parts since the place of the last flush
pub record Pending (narrow : Bool) (gs : List ℕ) (place p : ℕ) (us : List (From Gate)) : Type 0 where
  pub count : ℕ
  pub ends : stepped narrow gs count place ≡ p
  pub same : us ≡ gates_over narrow gs place count

-- the buffers stand for words, from which the rest leads to the end; pending are the gates of the parts since the place of the last flush
pub record WriteAt (n : ℕ) (cap : Cap) (narrow : Bool) (gs ns₀ fs₀ os₀ ps₀ : List ℕ) (c : ℕ) (ns fs : List ℕ) (u : ℕ) (os ps : List ℕ) (given place p : ℕ) : Type 0 where
  pub plain : Plain
  pub words : Words
  pub wide : Wide n plain.table
  pub stands : Stands n ns₀ fs₀ os₀ c ns fs u os words
  pub small : Small n fs
  pub planes : ps ≡ planes_for cap n plain.table ps₀
  pub gave : given ≡ plain.given
  pub few : given ≤ p
  pub pending : Pending narrow gs place p (unplaced plain.pending)
  pub past : place ≤ p
  pub begun : InParts narrow gs place
  pub inside : InParts narrow gs p
  pub since : is_capped cap ≡ true → narrow ≡ false → Since n (part_words n) ps gs (place / 16) (p / 16 - place / 16)
  pub ends : plain_run flush_from n cap (rest_of narrow gs p) plain ≡ plain_last n cap gs
  pub leads : word_run n cap (rest_of narrow gs p) plain words ≡ words_last n cap gs
  pub totals : need_run n cap (rest_of narrow gs p) plain (needs_of c u) ≡ needs_last n cap gs

-- the buffers after all gates
abbrev pub Ended : ℕ → Cap → (gs ns₀ fs₀ os₀ ps₀ : List ℕ) → ℕ → (ns fs : List ℕ) → ℕ → (os ps : List ℕ) → ℕ → Type 0
Ended n cap gs ns₀ fs₀ os₀ ps₀ c ns fs u os ps given =
    Stands n ns₀ fs₀ os₀ c ns fs u os (words_last n cap gs) × (given ≡ (plain_last n cap gs).given) × (ps ≡ planes_for cap n (plain_last n cap gs).table ps₀)
