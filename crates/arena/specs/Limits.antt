-- The limits of document 01, and the sizes of what lies in lent words.
use Rattle.std.specs.Prelude.{ℕ, ◌/◌, min}

abbrev pub max_qubits : ℕ
max_qubits = 256

abbrev pub max_cbits : ℕ
max_cbits = 65536

abbrev pub max_nodes : ℕ
max_nodes = 65536

abbrev pub max_operations : ℕ
max_operations = 65536

-- u32 words of a node, and of an operation
abbrev pub node_words : ℕ
node_words = 2

abbrev pub operation_words : ℕ
operation_words = 5

-- gate records of a list
abbrev pub max_gates : ℕ
max_gates = 65536

-- the last word of an operation that was added by hand (document 02, E2)
abbrev pub hand_mark : ℕ
hand_mark = 4294967295

-- the records of a pool that count: a third of its words, and at most 65,536
abbrev pub cap_of : ℕ → ℕ
cap_of words = min (words / 3) 65536
