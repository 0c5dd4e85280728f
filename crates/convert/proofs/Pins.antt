-- Corners of document 01, computed: each falls if a definition of the conversion departs from it, whatever the code does.
use mathlib.Core.Path.{◌≡◌, refl}
use mathlib.Core.List.{List, [], ◌∷◌, ◌++◌, map}
use Prim.Native.Nat.{ℕ}
use lib.ListN.{replicate, drop}
use Rattle.pauli.specs.Table.{start, step}
use Rattle.arena.specs.Errors.{◌⟫◌⇒◌}
use Rattle.arena.specs.Builder.{header_of}
use Rattle.convert.specs.Types.{TooManyQubits, BrokenGateList, UnsupportedGate, QubitOutOfRange, RepeatedOperand, ClassicalBitOutOfRange, TargetTaken, CapTooSmall, NoPlanes, NoFrame, NoNodes, NoOperations, PbcError}
use Rattle.convert.specs.Records.{Cap, NoCap, AtMost, records, kind_of, lower_as, lower, lower_from, lower_all, parts_of, lower_in}
use Rattle.convert.specs.Plain.{plain_begin, flush_from, tested, exceeds, flushed, perform_as, plain_step, plain_run, rows_after, table_run}
use Rattle.convert.specs.Frame.{start_arena, pushed, multiplied, frame_step, qubits_of, operands_checked}
use Rattle.convert.specs.Words.{flat, start_words, flush_gate, flush_gates, flush_words, write_seven, write, word_step, word_run}
use Rattle.convert.specs.Planes.{mask, digits, row_words, rows_words, images, packed}
use Rattle.convert.specs.Conversion.{Input, input_of, Converted, ConvertedMade, ConvertedRefused, gates_in, plain_end, table_end, word_end, record_checked, records_checked, gates_check, gates_checked, room_checked, convert_check, convert_within, convert_step}
use Rattle.convert.specs.Circuits.{gate}

abbrev nines : ℕ → List ℕ
nines k = replicate k 9

-- owner 7; so many words of nodes, operations, frame and planes are lent, all 9
lent : (qubits cbits : ℕ) → Cap → List ℕ → (nodes operations frame planes : ℕ) → Input
unfolding flush_from start step ◌⟫◌⇒◌ records kind_of lower_as lower lower_from parts_of lower_in lower_all plain_begin tested exceeds flushed perform_as plain_step plain_run rows_after table_run start_arena
    pushed multiplied frame_step qubits_of operands_checked start_words flush_gate flush_gates flush_words write_seven write word_step word_run mask digits row_words rows_words images packed
    gates_in plain_end table_end word_end record_checked records_checked gates_check gates_checked room_checked convert_check convert_within convert_step
lent n cbits cap gates nodes operations frame planes = input_of n cbits 7 cap gates (nines nodes) (nines operations) (nines frame) (nines planes)

-- ---- each kind by its number: what a list of the one record (kind, 0, 1, 2) writes, of three qubits and two classical bits

record Written : Type 0 where
  answer : Converted
  added : List ℕ  -- the node words after those of the start
  frame : List ℕ
  operations : List ℕ

written : ℕ → Written
unfolding lent
written kind =
    let x = convert_step (lent 3 2 NoCap (gate kind 0 1 2) 26 35 6 0) in
    record { answer = x.answer; added = drop 14 x.nodes; frame = x.frame; operations = x.operations }

abbrev wrote : (nodes operations measurements : ℕ) → (added frame words : List ℕ) → Written
wrote nodes operations measurements added frame words =
    record { answer = ConvertedMade (header_of 3 2 7 nodes operations measurements); added = added; frame = frame; operations = words }

abbrev unsupported : ℕ → Written
unsupported kind = record { answer = ConvertedRefused (UnsupportedGate 0 kind); added = nines 12; frame = nines 6; operations = nines 35 }

abbrev below27 : List ℕ
below27 = 0 ∷ 1 ∷ 2 ∷ 3 ∷ 4 ∷ 5 ∷ 6 ∷ 7 ∷ 8 ∷ 9 ∷ 10 ∷ 11 ∷ 12 ∷ 13 ∷ 14 ∷ 15 ∷ 16 ∷ 17 ∷ 18 ∷ 19 ∷ 20 ∷ 21 ∷ 22 ∷ 23 ∷ 24 ∷ 25 ∷ 26 ∷ []

kinds-write : map written below27
    ≡
    wrote 7 0 0 (nines 12) (8 ∷ 12 ∷ 20 ∷ 4 ∷ 16 ∷ 24 ∷ []) (nines 35)  -- h
    ∷ wrote 7 0 0 (nines 12) (4 ∷ 12 ∷ 20 ∷ 10 ∷ 16 ∷ 24 ∷ []) (nines 35)  -- x
    ∷ wrote 7 0 0 (nines 12) (6 ∷ 12 ∷ 20 ∷ 8 ∷ 16 ∷ 24 ∷ []) (nines 35)  -- z
    ∷ wrote 8 0 0 (18 ∷ 8 ∷ nines 10) (31 ∷ 12 ∷ 20 ∷ 8 ∷ 16 ∷ 24 ∷ []) (nines 35)  -- s
    ∷ wrote 8 0 0 (18 ∷ 8 ∷ nines 10) (29 ∷ 12 ∷ 20 ∷ 8 ∷ 16 ∷ 24 ∷ []) (nines 35)  -- sdg
    ∷ wrote 7 1 0 (nines 12) (4 ∷ 12 ∷ 20 ∷ 8 ∷ 16 ∷ 24 ∷ []) (4 ∷ 8 ∷ 0 ∷ 0 ∷ 0 ∷ nines 30)  -- t
    ∷ wrote 7 1 0 (nines 12) (4 ∷ 12 ∷ 20 ∷ 8 ∷ 16 ∷ 24 ∷ []) (28 ∷ 8 ∷ 0 ∷ 0 ∷ 0 ∷ nines 30)  -- tdg
    ∷ unsupported 7
    ∷ wrote 9 0 0 (18 ∷ 12 ∷ 34 ∷ 16 ∷ nines 8) (28 ∷ 12 ∷ 20 ∷ 8 ∷ 32 ∷ 24 ∷ []) (nines 35)  -- cnot
    ∷ wrote 9 0 0 (18 ∷ 16 ∷ 34 ∷ 12 ∷ nines 8) (28 ∷ 32 ∷ 20 ∷ 8 ∷ 16 ∷ 24 ∷ []) (nines 35)  -- cz
    ∷ wrote 11 7 0 (34 ∷ 16 ∷ 34 ∷ 20 ∷ 66 ∷ 20 ∷ 114 ∷ 20 ∷ nines 4) (4 ∷ 12 ∷ 20 ∷ 8 ∷ 16 ∷ 24 ∷ []) (4 ∷ 8 ∷ 0 ∷ 0 ∷ 0 ∷ 4 ∷ 16 ∷ 0 ∷ 0 ∷ 0 ∷ 4 ∷ 20 ∷ 0 ∷ 0 ∷ 0 ∷ 28 ∷ 28 ∷ 0 ∷ 0 ∷ 0 ∷ 28 ∷ 32 ∷ 0 ∷ 0 ∷ 0 ∷ 28 ∷ 36 ∷ 0 ∷ 0 ∷ 0 ∷ 4 ∷ 40 ∷ 0 ∷ 0 ∷ 0 ∷ [])  -- ccx
    ∷ wrote 11 7 0 (34 ∷ 16 ∷ 34 ∷ 24 ∷ 66 ∷ 24 ∷ 114 ∷ 24 ∷ nines 4) (4 ∷ 12 ∷ 20 ∷ 8 ∷ 16 ∷ 24 ∷ []) (4 ∷ 8 ∷ 0 ∷ 0 ∷ 0 ∷ 4 ∷ 16 ∷ 0 ∷ 0 ∷ 0 ∷ 4 ∷ 24 ∷ 0 ∷ 0 ∷ 0 ∷ 28 ∷ 28 ∷ 0 ∷ 0 ∷ 0 ∷ 28 ∷ 32 ∷ 0 ∷ 0 ∷ 0 ∷ 28 ∷ 36 ∷ 0 ∷ 0 ∷ 0 ∷ 4 ∷ 40 ∷ 0 ∷ 0 ∷ 0 ∷ [])  -- ccz
    ∷ wrote 7 1 1 (nines 12) (4 ∷ 12 ∷ 20 ∷ 8 ∷ 16 ∷ 24 ∷ []) (1 ∷ 8 ∷ 0 ∷ 2 ∷ 0 ∷ nines 30)  -- measure
    ∷ unsupported 13
    ∷ unsupported 14
    ∷ wrote 7 0 0 (nines 12) (6 ∷ 12 ∷ 20 ∷ 10 ∷ 16 ∷ 24 ∷ []) (nines 35)  -- y
    ∷ wrote 8 0 0 (34 ∷ 4 ∷ nines 10) (4 ∷ 12 ∷ 20 ∷ 31 ∷ 16 ∷ 24 ∷ []) (nines 35)  -- sx
    ∷ unsupported 17
    ∷ unsupported 18
    ∷ wrote 13 0 0 (18 ∷ 12 ∷ 34 ∷ 16 ∷ 50 ∷ 28 ∷ 130 ∷ 8 ∷ 114 ∷ 36 ∷ 162 ∷ 32 ∷ []) (44 ∷ 36 ∷ 20 ∷ 40 ∷ 48 ∷ 24 ∷ []) (nines 35)  -- swap
    ∷ wrote 11 0 0 (50 ∷ 16 ∷ 18 ∷ 29 ∷ 34 ∷ 16 ∷ 118 ∷ 36 ∷ nines 4) (32 ∷ 43 ∷ 20 ∷ 8 ∷ 36 ∷ 24 ∷ []) (nines 35)  -- cy
    ∷ unsupported 21
    ∷ unsupported 22
    ∷ unsupported 23
    ∷ unsupported 24
    ∷ unsupported 25
    ∷ unsupported 26
    ∷ []
unfolding written
kinds-write = refl

largest_kind : written 4294967295 ≡ unsupported 4294967295
unfolding written
largest_kind = refl

-- ---- a flush comes when it must, and not before; the last word of each operation is the gate record that it is of

operations_of : ℕ → ℕ → List ℕ → List ℕ
unfolding lent
operations_of n cap gates = flat (word_end (lent n 2 (AtMost cap) gates 0 0 0 0)).ops

-- Z₀ Z₁ has two letters
t_fits : operations_of 2 2 (gate 8 0 1 0 ++ gate 5 1 0 0) ≡ 4 ∷ 24 ∷ 0 ∷ 0 ∷ 1 ∷ []
unfolding operations_of
t_fits = refl

t-exceeds : operations_of 2 1 (gate 8 0 1 0 ++ gate 5 1 0 0) ≡ 8 ∷ 8 ∷ 0 ∷ 0 ∷ 0 ∷ 8 ∷ 12 ∷ 0 ∷ 0 ∷ 0 ∷ 24 ∷ 28 ∷ 0 ∷ 0 ∷ 0 ∷ 4 ∷ 16 ∷ 0 ∷ 0 ∷ 1 ∷ []
unfolding operations_of
t-exceeds = refl

tdg_fits : operations_of 2 2 (gate 8 0 1 0 ++ gate 6 1 0 0) ≡ 28 ∷ 24 ∷ 0 ∷ 0 ∷ 1 ∷ []
unfolding operations_of
tdg_fits = refl

tdg-exceeds : operations_of 2 1 (gate 8 0 1 0 ++ gate 6 1 0 0) ≡ 8 ∷ 8 ∷ 0 ∷ 0 ∷ 0 ∷ 8 ∷ 12 ∷ 0 ∷ 0 ∷ 0 ∷ 24 ∷ 28 ∷ 0 ∷ 0 ∷ 0 ∷ 28 ∷ 16 ∷ 0 ∷ 0 ∷ 1 ∷ []
unfolding operations_of
tdg-exceeds = refl

measure_fits : operations_of 2 2 (gate 8 0 1 0 ++ gate 12 1 0 0) ≡ 1 ∷ 24 ∷ 0 ∷ 1 ∷ 1 ∷ []
unfolding operations_of
measure_fits = refl

measure-exceeds : operations_of 2 1 (gate 8 0 1 0 ++ gate 12 1 0 0) ≡ 8 ∷ 8 ∷ 0 ∷ 0 ∷ 0 ∷ 8 ∷ 12 ∷ 0 ∷ 0 ∷ 0 ∷ 24 ∷ 28 ∷ 0 ∷ 0 ∷ 0 ∷ 1 ∷ 16 ∷ 0 ∷ 1 ∷ 1 ∷ []
unfolding operations_of
measure-exceeds = refl

-- Z₀, Z₁ Z₃ and X₂: of the seven products only the last has four letters
ccx_fits : operations_of 4 4 (gate 8 3 1 0 ++ gate 10 0 1 2)
    ≡ 4 ∷ 8 ∷ 0 ∷ 0 ∷ 1 ∷ 4 ∷ 40 ∷ 0 ∷ 0 ∷ 1 ∷ 4 ∷ 20 ∷ 0 ∷ 0 ∷ 1 ∷ 28 ∷ 44 ∷ 0 ∷ 0 ∷ 1 ∷ 28 ∷ 48 ∷ 0 ∷ 0 ∷ 1 ∷ 28 ∷ 52 ∷ 0 ∷ 0 ∷ 1
    ∷ 4 ∷ 56 ∷ 0 ∷ 0 ∷ 1 ∷ []
unfolding operations_of
ccx_fits = refl

ccx-exceeds : operations_of 4 3 (gate 8 3 1 0 ++ gate 10 0 1 2)
    ≡ 8 ∷ 32 ∷ 0 ∷ 0 ∷ 0 ∷ 8 ∷ 12 ∷ 0 ∷ 0 ∷ 0 ∷ 24 ∷ 44 ∷ 0 ∷ 0 ∷ 0 ∷ 4 ∷ 8 ∷ 0 ∷ 0 ∷ 1 ∷ 4 ∷ 16 ∷ 0 ∷ 0 ∷ 1 ∷ 4 ∷ 20 ∷ 0 ∷ 0 ∷ 1
    ∷ 28 ∷ 48 ∷ 0 ∷ 0 ∷ 1 ∷ 28 ∷ 52 ∷ 0 ∷ 0 ∷ 1 ∷ 28 ∷ 56 ∷ 0 ∷ 0 ∷ 1 ∷ 4 ∷ 60 ∷ 0 ∷ 0 ∷ 1 ∷ []
unfolding operations_of
ccx-exceeds = refl

-- Y is one letter
y_fits : operations_of 1 1 (gate 3 0 0 0 ++ gate 0 0 0 0 ++ gate 5 0 0 0) ≡ 4 ∷ 15 ∷ 0 ∷ 0 ∷ 2 ∷ []
unfolding operations_of
y_fits = refl

-- h, x, z, s, sdg, cz, cnot, as a flush writes them, then t
flush_writes : operations_of 2 1
    (gate 0 0 0 0 ++ gate 1 0 0 0 ++ gate 2 0 0 0 ++ gate 3 0 0 0 ++ gate 4 0 0 0 ++ gate 9 0 1 0 ++ gate 8 0 1 0 ++ gate 5 1 0 0)
    ≡ 8 ∷ 8 ∷ 0 ∷ 0 ∷ 0 ∷ 8 ∷ 4 ∷ 0 ∷ 0 ∷ 0 ∷ 8 ∷ 8 ∷ 0 ∷ 0 ∷ 0 ∷ 16 ∷ 4 ∷ 0 ∷ 0 ∷ 1 ∷ 16 ∷ 8 ∷ 0 ∷ 0 ∷ 2 ∷ 8 ∷ 8 ∷ 0 ∷ 0 ∷ 3
    ∷ 24 ∷ 8 ∷ 0 ∷ 0 ∷ 4 ∷ 8 ∷ 8 ∷ 0 ∷ 0 ∷ 5 ∷ 8 ∷ 16 ∷ 0 ∷ 0 ∷ 5 ∷ 24 ∷ 44 ∷ 0 ∷ 0 ∷ 5 ∷ 8 ∷ 8 ∷ 0 ∷ 0 ∷ 6 ∷ 8 ∷ 12 ∷ 0 ∷ 0 ∷ 6
    ∷ 24 ∷ 48 ∷ 0 ∷ 0 ∷ 6 ∷ 4 ∷ 16 ∷ 0 ∷ 0 ∷ 7 ∷ []
unfolding operations_of
flush_writes = refl

-- the second flush writes h and the second cnot, not the first
flush_again : operations_of 2 1 (gate 8 0 1 0 ++ gate 5 1 0 0 ++ gate 0 0 0 0 ++ gate 8 0 1 0 ++ gate 5 1 0 0)
    ≡ 8 ∷ 8 ∷ 0 ∷ 0 ∷ 0 ∷ 8 ∷ 12 ∷ 0 ∷ 0 ∷ 0 ∷ 24 ∷ 28 ∷ 0 ∷ 0 ∷ 0 ∷ 4 ∷ 16 ∷ 0 ∷ 0 ∷ 1 ∷ 8 ∷ 8 ∷ 0 ∷ 0 ∷ 2 ∷ 8 ∷ 4 ∷ 0 ∷ 0 ∷ 2
    ∷ 8 ∷ 8 ∷ 0 ∷ 0 ∷ 2 ∷ 8 ∷ 8 ∷ 0 ∷ 0 ∷ 3 ∷ 8 ∷ 12 ∷ 0 ∷ 0 ∷ 3 ∷ 24 ∷ 40 ∷ 0 ∷ 0 ∷ 3 ∷ 4 ∷ 16 ∷ 0 ∷ 0 ∷ 4 ∷ []
unfolding operations_of
flush_again = refl

-- y, sx, swap and cy: whatever gates a record is lowered to, each rotation names the record
flush_lowered : operations_of 2 1 (gate 15 0 0 0 ++ gate 16 0 0 0 ++ gate 19 0 1 0 ++ gate 20 0 1 0 ++ gate 5 1 0 0)
    ≡ 16 ∷ 8 ∷ 0 ∷ 0 ∷ 0 ∷ 16 ∷ 4 ∷ 0 ∷ 0 ∷ 0
    ∷ 8 ∷ 8 ∷ 0 ∷ 0 ∷ 1 ∷ 8 ∷ 4 ∷ 0 ∷ 0 ∷ 1 ∷ 8 ∷ 8 ∷ 0 ∷ 0 ∷ 1 ∷ 8 ∷ 8 ∷ 0 ∷ 0 ∷ 1 ∷ 8 ∷ 8 ∷ 0 ∷ 0 ∷ 1 ∷ 8 ∷ 4 ∷ 0 ∷ 0 ∷ 1 ∷ 8 ∷ 8 ∷ 0 ∷ 0 ∷ 1
    ∷ 8 ∷ 8 ∷ 0 ∷ 0 ∷ 2 ∷ 8 ∷ 12 ∷ 0 ∷ 0 ∷ 2 ∷ 24 ∷ 64 ∷ 0 ∷ 0 ∷ 2 ∷ 8 ∷ 16 ∷ 0 ∷ 0 ∷ 2 ∷ 8 ∷ 4 ∷ 0 ∷ 0 ∷ 2 ∷ 24 ∷ 68 ∷ 0 ∷ 0 ∷ 2
    ∷ 8 ∷ 8 ∷ 0 ∷ 0 ∷ 2 ∷ 8 ∷ 12 ∷ 0 ∷ 0 ∷ 2 ∷ 24 ∷ 72 ∷ 0 ∷ 0 ∷ 2
    ∷ 24 ∷ 16 ∷ 0 ∷ 0 ∷ 3 ∷ 8 ∷ 8 ∷ 0 ∷ 0 ∷ 3 ∷ 8 ∷ 12 ∷ 0 ∷ 0 ∷ 3 ∷ 24 ∷ 76 ∷ 0 ∷ 0 ∷ 3 ∷ 8 ∷ 16 ∷ 0 ∷ 0 ∷ 3
    ∷ 4 ∷ 16 ∷ 0 ∷ 0 ∷ 4 ∷ []
unfolding operations_of
flush_lowered = refl

-- ---- the planes after each refusal: cnot 0 1 first, so that the end state is not the start

record Planes : Type 0 where
  answer : Converted
  planes : List ℕ

planes_of : Input → Planes
unfolding lent
planes_of x = record { answer = (convert_step x).answer; planes = (convert_step x).planes }

abbrev refused : PbcError → List ℕ → Planes
refused e planes = record { answer = ConvertedRefused e; planes = planes }

-- two qubits and two classical bits under a cap, a second gate, and so many words lent
capped : ℕ → List ℕ → (nodes operations frame planes : ℕ) → Input
unfolding lent
capped cap gates nodes operations frame planes = lent 2 2 (AtMost cap) (gate 8 0 1 0 ++ gates) nodes operations frame planes

-- up to 12 they are as they were
planes_untouched :
    map planes_of
    (lent 257 0 (AtMost 2) [] 0 0 0 12
    ∷ lent 2 65537 (AtMost 2) (gate 8 0 1 0) 14 0 4 12
    ∷ capped 2 (9 ∷ []) 14 0 4 12
    ∷ capped 2 (gate 7 0 0 0) 14 0 4 12
    ∷ capped 2 (gate 0 2 0 0) 14 0 4 12
    ∷ capped 2 (gate 8 1 1 0) 14 0 4 12
    ∷ capped 2 (gate 12 0 2 0) 14 0 4 12
    ∷ capped 2 (gate 12 0 1 0 ++ gate 12 1 1 0) 14 10 4 12
    ∷ capped 0 [] 14 0 4 12
    ∷ capped 2 [] 14 0 4 7
    ∷ [])
    ≡ refused TooManyQubits (nines 12)
    ∷ refused TooManyQubits (nines 12)
    ∷ refused BrokenGateList (nines 12)
    ∷ refused (UnsupportedGate 1 7) (nines 12)
    ∷ refused (QubitOutOfRange 1 2) (nines 12)
    ∷ refused (RepeatedOperand 1 1) (nines 12)
    ∷ refused (ClassicalBitOutOfRange 1 2) (nines 12)
    ∷ refused (TargetTaken 2 1) (nines 12)
    ∷ refused CapTooSmall (nines 12)
    ∷ refused NoPlanes (nines 7)
    ∷ []
unfolding planes_of capped
planes_untouched = refl

-- after 13, 14 and 15 they hold the end state
planes_written :
    map planes_of
    (capped 2 (gate 5 1 0 0) 14 5 3 12
    ∷ capped 2 (gate 5 1 0 0) 13 5 4 12
    ∷ capped 2 (gate 5 1 0 0) 14 4 4 12
    ∷ capped 2 (gate 5 1 0 0) 14 5 4 12
    ∷ [])
    ≡ refused NoFrame (3 ∷ 0 ∷ 0 ∷ 1 ∷ 2 ∷ 0 ∷ 0 ∷ 3 ∷ nines 4)
    ∷ refused NoNodes (3 ∷ 0 ∷ 0 ∷ 1 ∷ 2 ∷ 0 ∷ 0 ∷ 3 ∷ nines 4)
    ∷ refused NoOperations (3 ∷ 0 ∷ 0 ∷ 1 ∷ 2 ∷ 0 ∷ 0 ∷ 3 ∷ nines 4)
    ∷ record { answer = ConvertedMade (header_of 2 2 7 7 1 0); planes = 3 ∷ 0 ∷ 0 ∷ 1 ∷ 2 ∷ 0 ∷ 0 ∷ 3 ∷ nines 4 }
    ∷ []
unfolding planes_of capped
planes_written = refl

-- but not without a cap
planes_uncapped :
    map planes_of (lent 2 2 NoCap (gate 8 0 1 0) 14 4 3 12 ∷ lent 2 2 NoCap (gate 8 0 1 0) 14 4 4 12 ∷ [])
    ≡ refused NoFrame (nines 12) ∷ record { answer = ConvertedMade (header_of 2 2 7 7 0 0); planes = nines 12 } ∷ []
unfolding planes_of
planes_uncapped = refl

-- ---- 65,536 classical bits: the last one is measured into, one more is not there

bits : ℕ → ℕ → Input
unfolding lent
bits cbits bit = lent 1 cbits NoCap (gate 12 0 bit 0) 6 5 2 0

most_bits : (convert_step (bits 65536 65535)).answer ≡ ConvertedMade (header_of 1 65536 7 3 1 1)
unfolding bits
most_bits = refl

last_bit : (convert_step (bits 65536 65535)).operations ≡ 1 ∷ 8 ∷ 0 ∷ 65536 ∷ 0 ∷ []
unfolding bits
last_bit = refl

past_bits : (convert_step (bits 65536 65536)).answer ≡ ConvertedRefused (ClassicalBitOutOfRange 0 65536)
unfolding bits
past_bits = refl

too_many_bits : (convert_step (bits 65537 65535)).answer ≡ ConvertedRefused TooManyQubits
unfolding bits
too_many_bits = refl

-- ---- one target, one measurement (E10 of document 02)

-- what a list answers, of two qubits and so many classical bits, with room for everything
answered : ℕ → List ℕ → Converted
unfolding lent
answered cbits gates = (convert_step (lent 2 cbits NoCap gates 30 30 4 0)).answer

-- the second of two into one bit is refused, whatever its qubit and however far behind
taken_twice :
    answered 64 (gate 12 0 63 0 ++ gate 12 0 63 0)
    ∷ answered 65536 (gate 12 0 65535 0 ++ gate 12 1 65535 0)
    ∷ answered 65 (gate 12 0 64 0 ++ gate 0 0 64 0 ++ gate 12 0 0 0 ++ gate 12 1 64 7)
    ∷ []
    ≡ ConvertedRefused (TargetTaken 1 63) ∷ ConvertedRefused (TargetTaken 1 65535) ∷ ConvertedRefused (TargetTaken 3 64) ∷ []
unfolding answered
taken_twice = refl

-- different bits are accepted, and the second operand of another gate takes none
taken_once :
    answered 65 (gate 12 0 0 0 ++ gate 12 0 64 0)
    ∷ answered 2 (gate 8 0 1 0 ++ gate 0 0 1 0 ++ gate 12 0 1 0)
    ∷ []
    ≡ ConvertedMade (header_of 2 65 7 5 2 2) ∷ ConvertedMade (header_of 2 2 7 7 1 1) ∷ []
unfolding answered
taken_once = refl

-- the first faulty gate decides; within a gate 7 and 9 come first; 11 comes after
taken_in_order :
    answered 2 (gate 12 0 0 0 ++ gate 12 0 0 0 ++ gate 7 0 0 0)
    ∷ answered 2 (gate 12 0 0 0 ++ gate 7 0 0 0 ++ gate 12 0 0 0)
    ∷ answered 2 (gate 12 0 0 0 ++ gate 12 2 0 0)
    ∷ answered 2 (gate 12 0 2 0 ++ gate 12 0 2 0)
    ∷ answered 2 (gate 12 0 0 0 ++ gate 12 0 2 0 ++ gate 12 0 0 0)
    ∷ (convert_step (lent 2 2 (AtMost 0) (gate 12 0 0 0 ++ gate 12 0 0 0) 30 30 4 0)).answer
    ∷ []
    ≡ ConvertedRefused (TargetTaken 1 0)
    ∷ ConvertedRefused (UnsupportedGate 1 7)
    ∷ ConvertedRefused (QubitOutOfRange 1 2)
    ∷ ConvertedRefused (ClassicalBitOutOfRange 0 2)
    ∷ ConvertedRefused (ClassicalBitOutOfRange 1 2)
    ∷ ConvertedRefused (TargetTaken 1 0)
    ∷ []
unfolding answered lent
taken_in_order = refl
