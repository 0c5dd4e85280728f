-- What stays from line to line, and what a command answers.
use Rattle.std.specs.Prelude.{Result, Ok, Err}
use Rattle.arena.specs.Errors.{refusal_in}
use Rattle.pbc.specs.Buffers.{Lends, all_lends}
pub use Rattle.arena.specs.declared.header.Header.{Header}
pub use Rattle.arena.specs.declared.error.PbcError.TheVariants.{the_data as PbcError}
pub use Rattle.pbc.specs.declared.state.CommandState.{CommandState}
pub use Rattle.pbc.specs.declared.state.LineReply.{LineReply}
pub use Rattle.pbc.specs.declared.state.LineAnswer.TheVariants.{the_data as LineAnswer, Nothing as NoAnswer, Bad, Refused, Done, One, Two, Words, Dump as ShowCircuit, Kinds as ShowKinds, Help as ShowHelp, Gates}

-- the header of a circuit with no qubit; every circuit has the owner 1
abbrev pub empty_header : Header
empty_header = record { qubits = 0; cbits = 0; owner = 1; nodes = 1; operations = 0; measurements = 0 }

abbrev pub state_of : Header → Lends → CommandState
state_of h l = record { header = h; lends = l }

abbrev pub new_state : CommandState
new_state = state_of empty_header all_lends

-- an answer that changes nothing
abbrev pub says_of : CommandState → LineAnswer → LineReply
says_of s a = record { state = s; answer = a }

abbrev pub refused_of : CommandState → PbcError → LineReply
refused_of s e = says_of s (Refused (refusal_in e))

-- another circuit becomes current, or other counts are lent
abbrev pub headed_of : CommandState → Header → LineAnswer → LineReply
headed_of s h a = record { state = state_of h s.lends; answer = a }

abbrev pub lent_of : CommandState → Lends → LineReply
lent_of s l = record { state = state_of s.header l; answer = Done }

-- what a call comes to: an answer alone, or with another circuit
abbrev pub told_of : CommandState → Result LineAnswer PbcError → LineReply
told_of s (Ok a) = says_of s a
told_of s (Err e) = refused_of s e

abbrev pub made_of : CommandState → Result (Header × LineAnswer) PbcError → LineReply
made_of s (Ok p) = headed_of s p.0 p.1
made_of s (Err e) = refused_of s e
