-- The counting pass before a position.
use Rattle.std.specs.Prelude.{◌≡◌, Bool, List, ℕ, ◌+◌, ◌*◌, ◌≤◌}
use Rattle.convert.specs.Records.{Cap}
use Rattle.convert.specs.Plain.{Plain, flush_from, plain_run}
use Rattle.convert.specs.Code.Needs.{Needs, need_run}
use Rattle.convert.specs.Code.RawPlanes.{Wide}
use Rattle.convert.specs.Code.Raw.{planes_for, count_for, plain_last, needs_last}
use Rattle.convert.specs.Code.Lists.{rest_of}
use Rattle.convert.specs.declared.count.Needed.{Needed}

-- before position i the count k stands beside a plain state, from which the rest leads to the end
pub record CountAt (n : ℕ) (cap : Cap) (narrow : Bool) (gs ps₀ ps : List ℕ) (k : Needed) (i : ℕ) : Type 0 where
  pub plain : Plain
  pub done : Needs
  pub wide : Wide n plain.table
  pub same : k ≡ count_for plain done
  pub ends : plain_run flush_from n cap (rest_of narrow gs i) plain ≡ plain_last n cap gs
  pub totals : need_run n cap (rest_of narrow gs i) plain done ≡ needs_last n cap gs
  pub planes : ps ≡ planes_for cap n plain.table ps₀
  pub few : (k.nodes + k.joints ≤ 513 + 16 * i) × (k.operations + k.rotations ≤ 16 * i)
