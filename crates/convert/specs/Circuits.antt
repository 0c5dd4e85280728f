-- The circuits of document 01 that are followed by hand (all but B, G, J and K), on the definitions that the contracts cite.
use Rattle.std.specs.Prelude.{◌≡◌, true, false, List, [], ◌∷◌, ◌++◌, ℕ, ◌+◌, ◌*◌, pos, negsuc, length, replicate, take}
use Rattle.pauli.specs.Angle.{remainder8}
use Rattle.arena.specs.Limits.{operation_words}
use Rattle.arena.specs.Operations.{rotate_words}
use Rattle.arena.specs.Builder.{header_of, new_header, new_step, product_step}
use Rattle.arena.specs.Walk.{Out, fine, refused}
use Rattle.arena.specs.Readers.{Expanded, Report}
use Rattle.arena.specs.Expansion.{expand_step, hermitian_step, report_step}
use Rattle.convert.specs.Types.{I, Y, Z, One, MinusOne, Header, PauliRef, ExpansionLimit, NoPool, NonHermitianAxis, MultipliedMade}
use Rattle.convert.specs.Records.{Cap, NoCap, AtMost, from}
use Rattle.convert.specs.Plain.{rotate_by}
use Rattle.convert.specs.Words.{flat, operations_in}
use Rattle.convert.specs.Conversion.{Input, input_of, ConvertedMade, convert_step}

-- a gate record
abbrev pub gate : ℕ → ℕ → ℕ → ℕ → List ℕ
gate kind a b c = kind ∷ a ∷ b ∷ c ∷ []

-- a conversion of owner 7 with room for 20 nodes and 10 operations, where all words that are lent are 9
abbrev pub small : ℕ → Cap → List ℕ → Input
small n cap gates = input_of n 0 7 cap gates (replicate 40 9) (replicate 50 9) (replicate 8 9) (replicate 12 9)

-- a header of owner 7 without classical bits and measurements
abbrev pub small_header : (qubits nodes operations : ℕ) → Header
small_header n nodes operations = header_of n 0 7 nodes operations 0

-- the conversion is accepted, with so many nodes, and with these operations in its first operation words
abbrev pub Makes : Input → ℕ → List (List ℕ) → Type 0
Makes x nodes ops =
    ((convert_step x).answer ≡ ConvertedMade (small_header x.qubits nodes (length ops))) × (take (operation_words * length ops) (convert_step x).operations ≡ flat ops)

-- a rotation along a node with a phase, by so many eighths, of a gate record
abbrev pub about_node : (node phase angle gate : ℕ) → List ℕ
about_node node phase angle gate = rotate_words (4 * node + phase) angle gate

abbrev pub reference : ℕ → PauliRef
reference word = record { owner = 7; word = word }

-- `expand` of a word, with the node words of a conversion, enough scratch and a pool of ten records
abbrev pub expands : Input → Header → (word cells : ℕ) → Out Expanded
expands x h word cells = (expand_step h (convert_step x).nodes (replicate 4 9) (replicate 80 9) (replicate 30 9) (reference word) cells).answer

-- the weight report, with so many records in the pool
abbrev pub reports : Input → Header → (records limit : ℕ) → Out Report
reports x h records limit = (report_step h (convert_step x).nodes (convert_step x).operations (replicate 80 9) (replicate (3 * records) 9) limit).answer

abbrev pub circuit_c : Input
circuit_c = small 1 NoCap (gate 3 0 0 0 ++ gate 0 0 0 0 ++ gate 5 0 0 0)

abbrev pub circuit_d : Cap → Input
circuit_d cap = small 2 cap (gate 8 0 1 0 ++ gate 5 1 0 0)

abbrev pub circuit_f : Input
circuit_f = small 3 NoCap (gate 10 0 1 2)

-- a fresh circuit of n qubits, its node words
abbrev pub fresh_nodes : ℕ → List ℕ
fresh_nodes n = (new_step n 0 7 (replicate 20 9) (replicate 8 9)).words.nodes

-- the product of X and Z on one qubit, its node words
abbrev pub xz_nodes : List ℕ
xz_nodes = (product_step (new_header 1 0 7) (fresh_nodes 1) (reference 4) (reference 8)).words

abbrev pub hermitian : (limit : ℕ) → Out ℕ
hermitian limit = (hermitian_step (small_header 1 4 0) xz_nodes (replicate 16 9) (replicate 30 9) (reference 12) limit).answer

pub record HandCircuits : Type 0 where
  -- A: n = 0, no gates: 1 node, no operation
  pub a : Makes (small 0 NoCap []) 1 []
  -- C: n = 1; s, h, t: one rotation by 1 along -Y
  pub c : Makes circuit_c 4 (about_node 3 3 1 2 ∷ [])
  pub c_axis : operations_in (small_header 1 4 1) (convert_step circuit_c).nodes (convert_step circuit_c).operations ≡ from 2 (rotate_by 1 (record { letters = Y ∷ []; phase = MinusOne })) ∷ []
  -- `expand` passes at 7, gives 17 at 6
  pub c_expands : expands circuit_c (small_header 1 4 1) 15 7 ≡ fine (record { row = record { letters = Y ∷ []; phase = MinusOne }; work = 6; commute = false })
  pub c_stops : expands circuit_c (small_header 1 4 1) 15 6 ≡ refused ExpansionLimit
  -- D: n = 2; cnot 0 1, t 1, no cap: 7 nodes, node 6 by 1, letters ZZ; at cap 2 the same
  pub d : Makes (circuit_d NoCap) 7 (about_node 6 0 1 1 ∷ [])
  pub d_axis : operations_in (small_header 2 7 1) (convert_step (circuit_d NoCap)).nodes (convert_step (circuit_d NoCap)).operations
      ≡ from 1 (rotate_by 1 (record { letters = Z ∷ Z ∷ []; phase = One })) ∷ []
  pub d_cap : Makes (circuit_d (AtMost 2)) 7 (about_node 6 0 1 1 ∷ [])
  -- E: D at cap 1: 8 nodes; node 2 by 2, node 3 by 2, node 7 by 6, all of the cnot, and node 4 by 1
  pub e : Makes (circuit_d (AtMost 1)) 8 (about_node 2 0 2 0 ∷ about_node 3 0 2 0 ∷ about_node 7 0 6 0 ∷ about_node 4 0 1 1 ∷ [])
  -- F: n = 3; ccx 0 1 2: 11 nodes; nodes 2, 4, 5, 7, 8, 9, 10 by 1, 1, 1, 7, 7, 7, 1
  pub f : Makes circuit_f 11 (about_node 2 0 1 0 ∷ about_node 4 0 1 0 ∷ about_node 5 0 1 0 ∷ about_node 7 0 7 0 ∷ about_node 8 0 7 0 ∷ about_node 9 0 7 0 ∷ about_node 10 0 1 0 ∷ [])
  -- the report is non-Clifford 3, Clifford 0, with work 34; 33 gives 17; a pool of 7 records serves; 6 give 18
  pub f_report : reports circuit_f (small_header 3 11 7) 7 34 ≡ fine (record { weights = record { non_clifford = 3; clifford = 0 }; work = 34 })
  pub f_stops : reports circuit_f (small_header 3 11 7) 7 33 ≡ refused ExpansionLimit
  pub f_pool : reports circuit_f (small_header 3 11 7) 6 34 ≡ refused NoPool
  -- H: angles from -1, 8 and the least 64-bit number: 7, 0, 0
  pub h : (remainder8 (negsuc 0) ≡ 7) × (remainder8 (pos 8) ≡ 0) × (remainder8 (negsuc 9223372036854775807) ≡ 0)
  -- I: identity at n = 2 expands at 4; 3 gives 17
  pub i : (expand_step (new_header 2 0 7) (fresh_nodes 2) (replicate 4 9) (replicate 20 9) (replicate 3 9) (reference 0) 4).answer
      ≡ fine (record { row = record { letters = I ∷ I ∷ []; phase = One }; work = 2; commute = true })
  pub i_stops : (expand_step (new_header 2 0 7) (fresh_nodes 2) (replicate 4 9) (replicate 20 9) (replicate 3 9) (reference 0) 3).answer ≡ refused ExpansionLimit
  -- L: product of X and Z on one qubit, `hermitian_axis`: limit 6 gives 19, 5 gives 17
  pub l : (product_step (new_header 1 0 7) (fresh_nodes 1) (reference 4) (reference 8)).answer ≡ MultipliedMade (small_header 1 4 0) (reference 12)
  pub l_phase : hermitian 6 ≡ refused NonHermitianAxis
  pub l_stops : hermitian 5 ≡ refused ExpansionLimit
  -- M: n = 1; y, t: node 2 with phase MinusOne, by 1
  pub m : Makes (small 1 NoCap (gate 15 0 0 0 ++ gate 5 0 0 0)) 3 (about_node 2 2 1 1 ∷ [])
