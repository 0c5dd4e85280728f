-- What the commands that touch no buffer answer.
use Rattle.std.specs.Prelude.{ℕ, ◌-◌, cond, ◌||◌, List, [], ◌∷◌, nat_lt, slice_index, Option, Some, None}
use Rattle.pauli.specs.Angle.{remainder8}
use Rattle.pauli.specs.Letters.{number_product}
use Rattle.pbc.specs.Names.{name_bytes, is_name}
use Rattle.pbc.specs.Buffers.{all_lends, lends_of, lends_exceed}
use Rattle.pbc.specs.State.{CommandState, Header, LineAnswer, LineReply, NoAnswer, Bad, Done, One, Two, Words, ShowCircuit, ShowKinds, ShowHelp, says_of, headed_of, lent_of}
use Rattle.pbc.specs.Lines.{Line, has_numbers, has_signed, has_buffer, signed_at}
pub use Rattle.pbc.specs.declared.state.Buffer.TheVariants.{the_data as Buffer, Nodes, Operations, Frame, Planes, Scratch, Pool, Letters}
pub use Rattle.pbc.specs.declared.plain.PlainCommand.TheVariants.{the_data as PlainCommand, Unknown as NoCommand, Nothing as EmptyLine}
pub use Rattle.pbc.specs.declared.plain.PlainCommand.TheVariants.{Lend, Peek, Header as SetHeader, Dump, Kinds, Angle, Times, Help}

unfoldable pub lend_reply : CommandState → Line → List ℕ → LineReply
lend_reply s l ws =
    cond (has_numbers l 0) (lent_of s all_lends)
    (cond (has_numbers l 7) (cond (lends_exceed (lends_of ws)) (says_of s Bad) (lent_of s (lends_of ws))) (says_of s Bad))

-- ---- peek

-- names by their bytes: nodes, operations, frame, planes, scratch, pool, letters
unfoldable pub buffer_named : List ℕ → Option Buffer
buffer_named name =
    cond (is_name name (110 ∷ 111 ∷ 100 ∷ 101 ∷ 115 ∷ [])) (Some Nodes)
    (cond (is_name name (111 ∷ 112 ∷ 101 ∷ 114 ∷ 97 ∷ 116 ∷ 105 ∷ 111 ∷ 110 ∷ 115 ∷ [])) (Some Operations)
    (cond (is_name name (102 ∷ 114 ∷ 97 ∷ 109 ∷ 101 ∷ [])) (Some Frame)
    (cond (is_name name (112 ∷ 108 ∷ 97 ∷ 110 ∷ 101 ∷ 115 ∷ [])) (Some Planes)
    (cond (is_name name (115 ∷ 99 ∷ 114 ∷ 97 ∷ 116 ∷ 99 ∷ 104 ∷ [])) (Some Scratch)
    (cond (is_name name (112 ∷ 111 ∷ 111 ∷ 108 ∷ [])) (Some Pool)
    (cond (is_name name (108 ∷ 101 ∷ 116 ∷ 116 ∷ 101 ∷ 114 ∷ 115 ∷ [])) (Some Letters)
    None))))))

abbrev pub length_of : Buffer → ℕ
length_of Nodes = all_lends.nodes
length_of Operations = all_lends.operations
length_of Frame = all_lends.frame
length_of Planes = all_lends.planes
length_of Scratch = all_lends.scratch
length_of Pool = all_lends.pool
length_of Letters = all_lends.letters

-- so many words from a place on, all within the buffer
unfoldable pub peeked_reply : CommandState → Buffer → ℕ → ℕ → LineReply
peeked_reply s b from count =
    cond (nat_lt (length_of b) from) (says_of s Bad) (cond (nat_lt (length_of b - from) count) (says_of s Bad) (says_of s (Words b from count)))

abbrev pub named_reply : CommandState → Option Buffer → ℕ → ℕ → LineReply
named_reply s (Some b) from count = peeked_reply s b from count
named_reply s None from count = says_of s Bad

unfoldable pub peek_reply : CommandState → Line → List ℕ → LineReply
peek_reply s l ws = cond (has_buffer l 2) (named_reply s (buffer_named (name_bytes l.buffer)) (slice_index ws 0) (slice_index ws 1)) (says_of s Bad)

-- ---- the others

abbrev pub line_header : List ℕ → Header
line_header ws = record {
  qubits = slice_index ws 0;
  cbits = slice_index ws 1;
  owner = 1;
  nodes = slice_index ws 2;
  operations = slice_index ws 3;
  measurements = slice_index ws 4;
}

unfoldable pub header_reply : CommandState → Line → List ℕ → LineReply
header_reply s l ws = cond (has_numbers l 5) (headed_of s (line_header ws) Done) (says_of s Bad)

-- a command without numbers
unfoldable pub alone_reply : CommandState → Line → LineAnswer → LineReply
alone_reply s l a = cond (has_numbers l 0) (says_of s a) (says_of s Bad)

unfoldable pub angle_reply : CommandState → Line → List ℕ → LineReply
angle_reply s l ws = cond (has_signed l 1 0) (says_of s (One (remainder8 (signed_at l ws 0)))) (says_of s Bad)

unfoldable pub times_reply : CommandState → Line → List ℕ → LineReply
times_reply s l ws =
    cond (has_numbers l 2)
    (cond (nat_lt 3 (slice_index ws 0) || nat_lt 3 (slice_index ws 1)) (says_of s Bad)
    (says_of s (Two (number_product (slice_index ws 0) (slice_index ws 1)).phase (number_product (slice_index ws 0) (slice_index ws 1)).pauli)))
    (says_of s Bad)

abbrev pub plain_reply : PlainCommand → CommandState → Line → List ℕ → LineReply
plain_reply NoCommand s l ws = says_of s Bad
plain_reply EmptyLine s l ws = says_of s NoAnswer
plain_reply Lend s l ws = lend_reply s l ws
plain_reply Peek s l ws = peek_reply s l ws
plain_reply SetHeader s l ws = header_reply s l ws
plain_reply Dump s l ws = alone_reply s l ShowCircuit
plain_reply Kinds s l ws = alone_reply s l ShowKinds
plain_reply Angle s l ws = angle_reply s l ws
plain_reply Times s l ws = times_reply s l ws
plain_reply Help s l ws = alone_reply s l ShowHelp
