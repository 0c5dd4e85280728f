-- Later calls keep the nodes of a circuit readable: no limit is broken, and no used node is malformed.
use mathlib.Core.Path.{◌≡◌, refl, ◌∙◌}
use mathlib.Core.Bool.{false, true}
use mathlib.Core.List.{List, [], ◌∷◌, map}
use Prim.Native.Nat.{ℕ, ◌+◌, ◌*◌, ◌/◌, ◌≤◌, ◌<◌}
use native.Mathlib.Numerals.{add-one}
use native.Mathlib.Omega.{arith}
use borrow.Author.Tests.{leb-false}
use lib.Dec.{leb}
use lib.ListN.{length, take, drop}
use lib.Seq.{length-sets, length-take-le}
use Rattle.pauli.specs.Rows.{Row, present}
use Rattle.pauli.specs.Gates.{Gate}
use Rattle.arena.specs.Limits.{max_nodes, max_operations}
use Rattle.arena.specs.Nodes.{single_word, product_word, decode, node_at, image}
use Rattle.arena.specs.Builder.{with_nodes, with_operation, node_put, single_check, single_step, product_check, product_step, rotate_check, rotate_step, measure_check, measure_step, conditional_check, conditional_step}
use Rattle.arena.specs.Expansion.{is_malformed, any_malformed, bad_nodes}
use Rattle.arena.proofs.Overlay.{length-overlay}
use Rattle.arena.proofs.Accepted.{left_false, right-false, Sound, NodeRoom, fits_single, fits_product, fits_rotate, fits_measure, fits_conditional}
use Rattle.arena.proofs.Readable.{formed_over, formed_taken, formed_put, product_formed, single_formed, nodes_read, nodes_used}
use Rattle.convert.specs.Types.{Pauli, I, X, Y, Z, PauliAngle, PauliRef, PauliAxis, MeasId, Target, Checked, Fine, Wrong}
use Rattle.convert.specs.Records.{kind_of}
use Rattle.convert.specs.Frame.{Arena, gate_nodes, total, frame_gates, frame_run, names_unused, clifford_check, opened, clifford_step}
use Rattle.convert.specs.Later.{Circuit, circuit_of, LaterCall, call_frame, call_single, call_product, call_rotate, call_measure, call_conditional, call_expand, call_hermitian, call_weights}
use Rattle.convert.specs.Later.{lend_operations, later, laters}
use Rattle.convert.proofs.Accepted.{FitsGate, fits_gate}
use Rattle.convert.proofs.Buffers.Words.{count_run}
use Rattle.convert.proofs.Meaning.FrameRows.{Under, Shows}
use Rattle.convert.proofs.Meaning.Formed.{Formed, formed_run}
use Rattle.convert.proofs.Calls.Table.{framed}

-- ---- an accepted frame gate: its words name used nodes

under_named : (k : ℕ) (ws : List ℕ) → names_unused k ws ≡ false → Under k ws
under_named k [] e = tt
under_named k (w ∷ ws) e =
    let h : w / 4 < k = leb-false k (w / 4) (left_false _ (names_unused k ws) e) in
    (omega arith, under_named k ws (right-false (leb k (w / 4)) _ e))

-- the rows that its frame words stand for
abbrev pub rows_opened : Circuit → List Row
rows_opened s = map (image s.header.qubits s.header.nodes (take (2 * s.header.nodes) s.nodes)) (take (2 * s.header.qubits) s.frame)

pub gate_shows : (s : Circuit) (k a b : ℕ) → FitsGate s.header (length s.nodes) s.frame k a b → Shows s.header.qubits (opened s.header s.nodes s.frame) (rows_opened s)
gate_shows s k a b f = record {
  even = length-take-le (2 * s.header.nodes) s.nodes f.used;
  some = f.some;
  size = length-take-le (2 * s.header.qubits) s.frame f.places ∙ omega arith;
  under = under_named s.header.nodes (take (2 * s.header.qubits) s.frame) f.named;
  rows = refl;
}

-- ---- nodes

pub record Reads (s : Circuit) : Type 0 where
  pub sound : Sound s.header
  pub used : 2 * s.header.nodes ≤ length s.nodes
  pub formed : any_malformed (node_at s.header.qubits s.nodes) s.header.nodes ≡ false

pub reads_nodes : (s : Circuit) → Reads s → bad_nodes s.header s.nodes ≡ false
reads_nodes s R = nodes_read s.header s.nodes R.sound R.used R.formed

pub reads_back : (s : Circuit) → bad_nodes s.header s.nodes ≡ false → Reads s
reads_back s e = let u = nodes_used s.header s.nodes e in record { sound = u.0; used = u.1; formed = u.2 }

module _ (s : Circuit) (R : Reads s) where
  -- more nodes within the limit
  sound_nodes : (k : ℕ) → 0 < k → k ≤ max_nodes → Sound (with_nodes k s.header)
  sound_nodes k pos le = record {
    qubits = R.sound.qubits;
    cbits = R.sound.cbits;
    some = pos;
    nodes = le;
    operations = R.sound.operations;
    measurements = R.sound.measurements;
  }

  reads_node : (a b : ℕ) → NodeRoom s.header (length s.nodes) 1 → is_malformed (decode s.header.qubits s.header.nodes a b) ≡ false
      → Reads (circuit_of (with_nodes (s.header.nodes + 1) s.header) (node_put s.header s.nodes a b) s.operations s.frame)
  reads_node a b room new = record {
    sound = sound_nodes (s.header.nodes + 1) (omega arith) room.allowed;
    used = rw (length-sets s.nodes (2 * s.header.nodes) (a ∷ b ∷ [])) (omega (arith, room.lent));
    formed = rw (add-one s.header.nodes) (formed_put s.header.qubits s.header.nodes s.nodes a b (omega (arith, room.lent)) R.formed new);
  }

  reads_operation : (m : ℕ) (ops : List ℕ) → m ≤ s.header.operations + 1 → s.header.operations + 1 ≤ max_operations
      → Reads (circuit_of (with_operation m s.header) s.nodes ops s.frame)
  reads_operation m ops le few = record {
    sound = record {
      qubits = R.sound.qubits;
      cbits = R.sound.cbits;
      some = R.sound.some;
      nodes = R.sound.nodes;
      operations = few;
      measurements = le;
    };
    used = R.used;
    formed = R.formed;
  }

  reads-framed : (k a b : ℕ) → FitsGate s.header (length s.nodes) s.frame k a b → Reads (framed (frame_gates (kind_of k) a b) s)
  reads-framed k a b f = record {
    sound = sound_nodes e.count (omega (arith, f.some, counted)) (omega (arith, f.room.allowed, counted));
    used = rw (length-overlay e.nodes s.nodes (omega (arith, F.even, counted, f.room.lent))) (omega (arith, counted, f.room.lent));
    formed = formed_over s.header.qubits e.count e.nodes (drop (length e.nodes) s.nodes) F.even ∙ F.formed;
  }
    where
      gs : List Gate
      gs = frame_gates (kind_of k) a b

      e : Arena
      e = frame_run s.header.qubits gs (opened s.header s.nodes s.frame)

      counted : e.count ≡ s.header.nodes + total gate_nodes gs
      counted = count_run s.header.qubits gs (opened s.header s.nodes s.frame)

      F : Formed s.header.qubits e
      F = formed_run s.header.qubits gs (opened s.header s.nodes s.frame) (rows_opened s) f.valid (gate_shows s k a b f) (record {
        even = length-take-le (2 * s.header.nodes) s.nodes f.used;
        formed = formed_taken s.header.qubits s.header.nodes s.nodes ∙ R.formed;
      })

  reads_frame_call : (k a b : ℕ) → Reads (later (call_frame k a b) s)
  unfolding later clifford_step
  reads_frame_call k a b = go (clifford_check s.header (length s.nodes) s.frame k a b) refl
    where
      go : (c : Checked) → clifford_check s.header (length s.nodes) s.frame k a b ≡ c → Reads (later (call_frame k a b) s)
      go Fine e = rw e (reads-framed k a b (fits_gate s.header (length s.nodes) s.frame k a b e))
      go (Wrong x) e = rw e R

  reads_single_call : (q : ℕ) (a : Pauli) → Reads (later (call_single q a) s)
  unfolding later single_step
  reads_single_call q a = go a (single_check s.header (length s.nodes) q a) refl
    where
      node : (a : Pauli) → present a ≡ true → single_check s.header (length s.nodes) q a ≡ Fine → NodeRoom s.header (length s.nodes) 1
          → Reads (circuit_of (with_nodes (s.header.nodes + 1) s.header) (node_put s.header s.nodes (single_word a) q) s.operations s.frame)
      node a some e room = reads_node (single_word a) q room
          (single_formed s.header.qubits s.header.nodes q a some (fits_single s.header (length s.nodes) q a e).qubit)

      go : (a : Pauli) (c : Checked) → single_check s.header (length s.nodes) q a ≡ c → Reads (later (call_single q a) s)
      go I Fine e = rw e R
      go X Fine e = rw e (node X refl e (fits_single s.header (length s.nodes) q X e).room)
      go Y Fine e = rw e (node Y refl e (fits_single s.header (length s.nodes) q Y e).room)
      go Z Fine e = rw e (node Z refl e (fits_single s.header (length s.nodes) q Z e).room)
      go a (Wrong x) e = rw e R

  reads_product_call : (l r : PauliRef) → Reads (later (call_product l r) s)
  unfolding later product_step
  reads_product_call l r = go (product_check s.header (length s.nodes) l r) refl
    where
      go : (c : Checked) → product_check s.header (length s.nodes) l r ≡ c → Reads (later (call_product l r) s)
      go Fine e =
          let f = fits_product s.header (length s.nodes) l r e in
          rw e (reads_node (product_word l.word) r.word f.room
          (product_formed s.header.qubits s.header.nodes l.word r.word f.left.used f.right.used))
      go (Wrong x) e = rw e R

  reads_rotate_call : (x : PauliAxis) (k : PauliAngle) → Reads (later (call_rotate x k) s)
  unfolding later rotate_step
  reads_rotate_call x k = go (rotate_check s.header (length s.operations) x) refl
    where
      go : (c : Checked) → rotate_check s.header (length s.operations) x ≡ c → Reads (later (call_rotate x k) s)
      go Fine e = rw e (reads_operation s.header.measurements _ (omega (arith, R.sound.measurements)) (fits_rotate s.header (length s.operations) x e).room.allowed)
      go (Wrong x) e = rw e R

  reads_measure_call : (x : PauliAxis) (u : Target) → Reads (later (call_measure x u) s)
  unfolding later measure_step
  reads_measure_call x u = go (measure_check s.header (length s.operations) x u) refl
    where
      go : (c : Checked) → measure_check s.header (length s.operations) x u ≡ c → Reads (later (call_measure x u) s)
      go Fine e = rw e (reads_operation (s.header.measurements + 1) _ (omega (arith, R.sound.measurements)) (fits_measure s.header (length s.operations) x u e).0.room.allowed)
      go (Wrong x) e = rw e R

  reads_conditional_call : (x : PauliAxis) (k : PauliAngle) (m : MeasId) → Reads (later (call_conditional x k m) s)
  unfolding later conditional_step
  reads_conditional_call x k m = go (conditional_check s.header (length s.operations) x m) refl
    where
      go : (c : Checked) → conditional_check s.header (length s.operations) x m ≡ c → Reads (later (call_conditional x k m) s)
      go Fine e = rw e (reads_operation s.header.measurements _ (omega (arith, R.sound.measurements)) (fits_conditional s.header (length s.operations) x m e).room.allowed)
      go (Wrong x) e = rw e R

  reads-later : (c : LaterCall) → Reads (later c s)
  unfolding later
  reads-later (call_frame k a b) = reads_frame_call k a b
  reads-later (call_single q a) = reads_single_call q a
  reads-later (call_product l r) = reads_product_call l r
  reads-later (call_rotate x k) = reads_rotate_call x k
  reads-later (call_measure x u) = reads_measure_call x u
  reads-later (call_conditional x k m) = reads_conditional_call x k m
  reads-later (call_expand letters scratch pool r cells) = R
  reads-later (call_hermitian scratch pool r limit) = R
  reads-later (call_weights scratch pool limit) = R
  reads-later (lend_operations words) = record { sound = R.sound; used = R.used; formed = R.formed }

pub reads-laters : (cs : List LaterCall) (s : Circuit) → Reads s → Reads (laters cs s)
unfolding laters
reads-laters [] s R = R
reads-laters (c ∷ cs) s R = reads-laters cs (later c s) (reads-later s R c)
