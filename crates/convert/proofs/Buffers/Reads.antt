-- What a record that is no frame gate may read and write.
use mathlib.Core.Path.{◌≡◌}
use mathlib.Core.Bool.{true}
use mathlib.Core.List.{List}
use Prim.Native.Nat.{ℕ, ◌+◌, ◌*◌, ◌<◌, ◌≤◌}
use native.Mathlib.Omega.{arith}
use lib.ListN.{length, get_or}
use Rattle.arena.specs.Limits.{max_qubits, max_cbits, max_nodes, max_operations, node_words, operation_words}
use Rattle.convert.specs.Records.{GateKind, KindT, KindTdg, KindCcx, KindCcz, KindMeasure, lower_as}
use Rattle.convert.specs.Conversion.{is_measure}
use Rattle.convert.specs.Code.Raw.{max_word, cost_of, tests_of, last_place, RecordReady}

-- t, tdg and measure
pub record Lone (n a b u : ℕ) (os fs : List ℕ) (k : GateKind) : Type 0 where
  pub axis : n + a < length fs
  pub few : n + a < 512
  pub fewer : u < max_operations
  pub place : operation_words * u + operation_words ≤ length os
  pub bit : is_measure k ≡ true → b < max_cbits

pub read_t : {n given a b d c : ℕ} {ns : List ℕ} {u : ℕ} {os fs : List ℕ} → RecordReady n given KindT a b d c ns u os fs → Lone n a b u os fs KindT
unfolding cost_of lower_as
read_t r =
    let h = r.proper.0 in record {
      axis = omega (arith, h, r.places);
      few = omega (arith, h, r.qubits);
      fewer = omega (arith, r.fewer);
      place = omega (arith, r.place);
      bit = λ e. let z : ◌≡◌ {A = ℕ} 0 1 = cc in absurd (omega arith);
    }

pub read_tdg : {n given a b d c : ℕ} {ns : List ℕ} {u : ℕ} {os fs : List ℕ} → RecordReady n given KindTdg a b d c ns u os fs → Lone n a b u os fs KindTdg
unfolding cost_of lower_as
read_tdg r =
    let h = r.proper.0 in record {
      axis = omega (arith, h, r.places);
      few = omega (arith, h, r.qubits);
      fewer = omega (arith, r.fewer);
      place = omega (arith, r.place);
      bit = λ e. let z : ◌≡◌ {A = ℕ} 0 1 = cc in absurd (omega arith);
    }

pub read_measure : {n given a b d c : ℕ} {ns : List ℕ} {u : ℕ} {os fs : List ℕ} → RecordReady n given KindMeasure a b d c ns u os fs → Lone n a b u os fs KindMeasure
unfolding cost_of lower_as
read_measure r =
    let h = r.proper.0 in record {
      axis = omega (arith, h.0, r.places);
      few = omega (arith, h.0, r.qubits);
      fewer = omega (arith, r.fewer);
      place = omega (arith, r.place);
      bit = λ e. h.1;
    }

-- ccx and ccz
pub record Doubly (n a b d c : ℕ) (ns : List ℕ) (u : ℕ) (os fs : List ℕ) (k : GateKind) : Type 0 where
  pub first : n + a < length fs
  pub second : n + b < length fs
  pub third : last_place k n d < length fs
  pub operand : d < n
  pub qubits : n ≤ max_qubits
  pub left : n + a < 512
  pub right : n + b < 512
  pub few : c + 4 ≤ max_nodes
  pub room : node_words * (c + 4) ≤ length ns
  pub fewer : u + 7 ≤ max_operations
  pub place : operation_words * (u + 7) ≤ length os
  pub small_left : get_or fs (n + a) 0 < max_word
  pub small_right : get_or fs (n + b) 0 < max_word

pub read_ccx : {n given a b d c : ℕ} {ns : List ℕ} {u : ℕ} {os fs : List ℕ} → RecordReady n given KindCcx a b d c ns u os fs → Doubly n a b d c ns u os fs KindCcx
unfolding cost_of lower_as tests_of
read_ccx {n} {given} {a} {b} r =
    let h = r.proper.0 in record {
      first = omega (arith, h.0, r.places);
      second = omega (arith, h.1, r.places);
      third = omega (arith, h.2, r.places);
      operand = h.2;
      qubits = r.qubits;
      left = omega (arith, h.0, r.qubits);
      right = omega (arith, h.1, r.qubits);
      few = r.few;
      room = r.room;
      fewer = r.fewer;
      place = r.place;
      small_left = r.small (n + a) (omega (arith, h.0));
      small_right = r.small (n + b) (omega (arith, h.1));
    }

pub read_ccz : {n given a b d c : ℕ} {ns : List ℕ} {u : ℕ} {os fs : List ℕ} → RecordReady n given KindCcz a b d c ns u os fs → Doubly n a b d c ns u os fs KindCcz
unfolding cost_of lower_as tests_of
read_ccz {n} {given} {a} {b} r =
    let h = r.proper.0 in record {
      first = omega (arith, h.0, r.places);
      second = omega (arith, h.1, r.places);
      third = omega (arith, h.2, r.places);
      operand = h.2;
      qubits = r.qubits;
      left = omega (arith, h.0, r.qubits);
      right = omega (arith, h.1, r.qubits);
      few = r.few;
      room = r.room;
      fewer = r.fewer;
      place = r.place;
      small_left = r.small (n + a) (omega (arith, h.0));
      small_right = r.small (n + b) (omega (arith, h.1));
    }
