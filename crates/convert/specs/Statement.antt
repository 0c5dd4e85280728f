-- What is claimed of the conversion and of the later calls.
use Rattle.std.specs.Prelude.{◌≡◌, ◌≢◌, Bool, true, List, ◌++◌, map, ℕ, ◌+◌, ◌*◌, ◌<◌, length, get_or, take}
use Rattle.pauli.specs.Letters.{real}
use Rattle.pauli.specs.Rows.{Row, identity}
use Rattle.pauli.specs.Gates.{Gate, back}
use Rattle.pauli.specs.Table.{start, run, product_over}
use Rattle.arena.specs.Nodes.{image}
use Rattle.convert.specs.Records.{bare, map_from, without_index}
use Rattle.convert.specs.Plain.{Plain}
use Rattle.convert.specs.Frame.{word}
use Rattle.convert.specs.Words.{Words, decoded, meaning, operations_in}
use Rattle.convert.specs.Conversion.{Input, plain_end, table_end, paper_end, converted_header, convert_step}
use Rattle.convert.specs.Later.{Circuit, converted, LaterCall, fed}
use Rattle.convert.specs.Routing.{AllRouted}

-- rows that are U† P U for U the gates gs and P the X or Z of each place, with sign +1 or -1, and independent
pub record Frame (n : ℕ) (gs : List Gate) (t : List Row) : Type 0 where
  pub size : length t ≡ n + n
  pub conjugated : t ≡ map (back gs) (start n)
  pub signed : (j : ℕ) → j < n + n → real (get_or t j (identity n)).phase ≡ true
  pub independent : (us vs : List Bool) → length us ≡ n + n → length vs ≡ n + n → us ≢ vs → (product_over n us t).letters ≢ (product_over n vs t).letters

-- Means: the words w of a conversion stand for its plain state p
pub record Means (n owner cbits : ℕ) (p : Plain) (w : Words) : Type 0 where
  pub places : (j : ℕ) → j < n + n → image n w.arena.count w.arena.nodes (word w.arena j) ≡ get_or p.table j (identity n)
  pub operations : map (λ o. map_from (meaning n w.arena.count w.arena.nodes) (decoded owner cbits o)) w.ops ≡ p.operations
  pub frame : Frame n (bare p.pending) p.table

-- the images of the 2n frame words, read through the used nodes
unfoldable pub frame_images : Circuit → List Row
frame_images s = map (image s.header.qubits s.header.nodes s.nodes) (take (2 * s.header.qubits) s.frame)

-- an accepted conversion: its operation words, read through its node words, are the operations of the papers, each with its gate record
pub record Converts (x : Input) : Type 0 where
  pub operations : operations_in (converted_header x) (convert_step x).nodes (convert_step x).operations ≡ (paper_end x).operations
  pub routed : AllRouted x.cap (without_index (paper_end x).operations)
  pub measurements : (converted_header x).measurements ≡ (paper_end x).given
  pub frame : Frame x.qubits (bare (paper_end x).since) (frame_images (converted x))

-- the plain table after a conversion and later calls, and the frame gates since the last flush
unfoldable pub end_table : Input → List LaterCall → List Row
end_table x cs = run x.qubits (fed cs (converted x)) (table_end x)

unfoldable pub end_gates : Input → List LaterCall → List Gate
end_gates x cs = bare (plain_end x).pending ++ fed cs (converted x)

-- Demand 3: for a conversion that is accepted, any later calls, and the circuit that they leave
pub record Demand3 (x : Input) (cs : List LaterCall) (s : Circuit) : Type 0 where
  -- the images are the rows of the plain table
  pub rows : frame_images s ≡ end_table x cs
  -- they are U† P U for the frame gates U since the last flush, each of sign +1 or -1, and independent
  pub frame : Frame x.qubits (end_gates x cs) (frame_images s)
