-- The reader on texts of document 02 and its readings, computed.
use mathlib.Core.Path.{◌≡◌, refl}
use mathlib.Core.List.{List, [], ◌∷◌, ◌++◌}
use Prim.Native.Nat.{ℕ}
use mathlib.Core.Bool.{Bool, true, false, ◌&&◌, ◌||◌}
use Rattle.qasm.specs.Names.{is_name}
use Rattle.qasm.specs.Text.{record_of}
use Rattle.qasm.specs.Reading.{Read, program, bad_text, and_then, blank, take_sign, take_word, take_number, take_this, take_index, take_bit}
use Rattle.qasm.specs.Reading.{take_register, take_version, take_include, take_end, take_one, take_two, take_three, take_measure, gate_by, take_gate}
use Rattle.qasm.specs.Reading.{from_gates, from_creg, from_qreg, from_include, reading}
use Rattle.qasm.specs.Position.{TextPosition, position_in}

result : List ℕ → Read
unfolding reading from_include from_qreg from_creg from_gates and_then blank take_sign take_word take_number take_this take_index take_bit take_register take_version take_include take_end take_one take_two take_three take_measure gate_by take_gate
result text = reading text

-- OPENQASM 2.0; include "qelib1.inc"; qreg q[3]; creg c[2]; each on its line
lines : List ℕ → List ℕ
lines rest = (79 ∷ 80 ∷ 69 ∷ 78 ∷ 81 ∷ 65 ∷ 83 ∷ 77 ∷ 32 ∷ 50 ∷ 46 ∷ 48 ∷ 59 ∷ 10 ∷ 105 ∷ 110 ∷ 99 ∷ 108 ∷ 117 ∷ 100 ∷ 101 ∷ 32 ∷ 34 ∷ 113 ∷ 101 ∷ 108 ∷ 105 ∷ 98
    ∷ 49 ∷ 46 ∷ 105 ∷ 110 ∷ 99 ∷ 34 ∷ 59 ∷ 10 ∷ 113 ∷ 114 ∷ 101 ∷ 103 ∷ 32 ∷ 113 ∷ 91 ∷ 51 ∷ 93 ∷ 59 ∷ 10 ∷ 99 ∷ 114 ∷ 101 ∷ 103 ∷ 32 ∷ 99 ∷ 91 ∷ 50 ∷ 93 ∷ 59
    ∷ 10 ∷ []) ++ rest

-- OPENQASM 2.0;include "qelib1.inc";
opened : List ℕ → List ℕ
opened rest = (79 ∷ 80 ∷ 69 ∷ 78 ∷ 81 ∷ 65 ∷ 83 ∷ 77 ∷ 32 ∷ 50 ∷ 46 ∷ 48 ∷ 59 ∷ 105 ∷ 110 ∷ 99 ∷ 108 ∷ 117 ∷ 100 ∷ 101 ∷ 32 ∷ 34 ∷ 113 ∷ 101 ∷ 108 ∷ 105 ∷ 98 ∷ 49
    ∷ 46 ∷ 105 ∷ 110 ∷ 99 ∷ 34 ∷ 59 ∷ []) ++ rest

-- the four lines alone
no_gates : result (lines []) ≡ program 3 2 []
unfolding result lines
no_gates = refl

-- h q[0];cx q[0],q[1];measure q[1]->c[0];
gates : result (lines (104 ∷ 32 ∷ 113 ∷ 91 ∷ 48 ∷ 93 ∷ 59 ∷ 99 ∷ 120 ∷ 32 ∷ 113 ∷ 91 ∷ 48 ∷ 93 ∷ 44 ∷ 113 ∷ 91 ∷ 49 ∷ 93 ∷ 59 ∷ 109 ∷ 101 ∷ 97 ∷ 115 ∷ 117 ∷ 114
    ∷ 101 ∷ 32 ∷ 113 ∷ 91 ∷ 49 ∷ 93 ∷ 45 ∷ 62 ∷ 99 ∷ 91 ∷ 48 ∷ 93 ∷ 59 ∷ [])) ≡ program 3 2 (record_of 0 0 0 0 ∷ record_of 8 0 1 0 ∷ record_of 12 1 0 0 ∷ [])
unfolding result lines
gates = refl

-- include"qelib1.inc" after OPENQASM 2.0;
no-blank-needed : result ((79 ∷ 80 ∷ 69 ∷ 78 ∷ 81 ∷ 65 ∷ 83 ∷ 77 ∷ 32 ∷ 50 ∷ 46 ∷ 48 ∷ 59 ∷ 105 ∷ 110 ∷ 99 ∷ 108 ∷ 117 ∷ 100 ∷ 101 ∷ 34 ∷ 113 ∷ 101 ∷ 108 ∷ 105
    ∷ 98 ∷ 49 ∷ 46 ∷ 105 ∷ 110 ∷ 99 ∷ 34 ∷ 59 ∷ 113 ∷ 114 ∷ 101 ∷ 103 ∷ 32 ∷ 97 ∷ 91 ∷ 49 ∷ 93 ∷ 59 ∷ 99 ∷ 114 ∷ 101 ∷ 103 ∷ 32 ∷ 98 ∷ 91 ∷ 49 ∷ 93 ∷ 59
    ∷ [])) ≡ program 1 1 []
unfolding result
no-blank-needed = refl

-- cx q[7],q[7]; is the conversion's to refuse
repeated_operand : result (lines (99 ∷ 120 ∷ 32 ∷ 113 ∷ 91 ∷ 55 ∷ 93 ∷ 44 ∷ 113 ∷ 91 ∷ 55 ∷ 93 ∷ 59 ∷ [])) ≡ program 3 2 (record_of 8 7 7 0 ∷ [])
unfolding result lines
repeated_operand = refl

-- h q[4294967295];
largest_index : result (lines (104 ∷ 32 ∷ 113 ∷ 91 ∷ 52 ∷ 50 ∷ 57 ∷ 52 ∷ 57 ∷ 54 ∷ 55 ∷ 50 ∷ 57 ∷ 53 ∷ 93 ∷ 59 ∷ [])) ≡ program 3 2 (record_of 0 4294967295 0 0 ∷ [])
unfolding result lines
largest_index = refl

-- h q[4294967296];
too_large : result (lines (104 ∷ 32 ∷ 113 ∷ 91 ∷ 52 ∷ 50 ∷ 57 ∷ 52 ∷ 57 ∷ 54 ∷ 55 ∷ 50 ∷ 57 ∷ 54 ∷ 93 ∷ 59 ∷ [])) ≡ bad_text 58
unfolding result lines
too_large = refl

-- h q[01];
leading_zero : result (lines (104 ∷ 32 ∷ 113 ∷ 91 ∷ 48 ∷ 49 ∷ 93 ∷ 59 ∷ [])) ≡ bad_text 58
unfolding result lines
leading_zero = refl

-- h q[0];//end: a comment may end with the text
last_comment : result (lines (104 ∷ 32 ∷ 113 ∷ 91 ∷ 48 ∷ 93 ∷ 59 ∷ 47 ∷ 47 ∷ 101 ∷ 110 ∷ 100 ∷ [])) ≡ program 3 2 (record_of 0 0 0 0 ∷ [])
unfolding result lines
last_comment = refl

-- h//\rq[0]; : a carriage return ends no comment
carriage_return : result (lines (104 ∷ 47 ∷ 47 ∷ 13 ∷ 113 ∷ 91 ∷ 48 ∷ 93 ∷ 59 ∷ [])) ≡ bad_text 58
unfolding result lines
carriage_return = refl

-- h q[0]; h q[0] x: the place is the statement's, not the bad token's
second_statement : result (lines (104 ∷ 32 ∷ 113 ∷ 91 ∷ 48 ∷ 93 ∷ 59 ∷ 32 ∷ 104 ∷ 32 ∷ 113 ∷ 91 ∷ 48 ∷ 93 ∷ 32 ∷ 120 ∷ [])) ≡ bad_text 66
unfolding result lines
second_statement = refl

-- ;
lone_semicolon : result (lines (59 ∷ [])) ≡ bad_text 58
unfolding result lines
lone_semicolon = refl

-- the empty text
nothing_there : result ([]) ≡ bad_text 0
unfolding result
nothing_there = refl

-- // nothing
comment_alone : result ((47 ∷ 47 ∷ 32 ∷ 110 ∷ 111 ∷ 116 ∷ 104 ∷ 105 ∷ 110 ∷ 103 ∷ [])) ≡ bad_text 10
unfolding result
comment_alone = refl

-- OPENQASM2.0;
word_runs_on : result ((79 ∷ 80 ∷ 69 ∷ 78 ∷ 81 ∷ 65 ∷ 83 ∷ 77 ∷ 50 ∷ 46 ∷ 48 ∷ 59 ∷ [])) ≡ bad_text 0
unfolding result
word_runs_on = refl

-- qreg q[1]; // end: the text ends before the creg
no_creg : result (opened (113 ∷ 114 ∷ 101 ∷ 103 ∷ 32 ∷ 113 ∷ 91 ∷ 49 ∷ 93 ∷ 59 ∷ 32 ∷ 47 ∷ 47 ∷ 32 ∷ 101 ∷ 110 ∷ 100 ∷ [])) ≡ bad_text 51
unfolding result opened
no_creg = refl

-- qreg Q[1];
capital_name : result (opened (113 ∷ 114 ∷ 101 ∷ 103 ∷ 32 ∷ 81 ∷ 91 ∷ 49 ∷ 93 ∷ 59 ∷ [])) ≡ bad_text 34
unfolding result opened
capital_name = refl

-- qreg q[0];
no_qubits : result (opened (113 ∷ 114 ∷ 101 ∷ 103 ∷ 32 ∷ 113 ∷ 91 ∷ 48 ∷ 93 ∷ 59 ∷ [])) ≡ bad_text 34
unfolding result opened
no_qubits = refl

-- qreg cx[1];
gate_name : result (opened (113 ∷ 114 ∷ 101 ∷ 103 ∷ 32 ∷ 99 ∷ 120 ∷ 91 ∷ 49 ∷ 93 ∷ 59 ∷ [])) ≡ bad_text 34
unfolding result opened
gate_name = refl

-- qreg q[1];creg q[1];
same_name : result (opened (113 ∷ 114 ∷ 101 ∷ 103 ∷ 32 ∷ 113 ∷ 91 ∷ 49 ∷ 93 ∷ 59 ∷ 99 ∷ 114 ∷ 101 ∷ 103 ∷ 32 ∷ 113 ∷ 91 ∷ 49 ∷ 93 ∷ 59 ∷ [])) ≡ bad_text 44
unfolding result opened
same_name = refl

-- each of the twelve gates, on the qubits from 0 on
twelve_gates : result (lines (104 ∷ 32 ∷ 113 ∷ 91 ∷ 48 ∷ 93 ∷ 59 ∷ 120 ∷ 32 ∷ 113 ∷ 91 ∷ 48 ∷ 93 ∷ 59 ∷ 121 ∷ 32 ∷ 113 ∷ 91 ∷ 48 ∷ 93 ∷ 59 ∷ 122 ∷ 32 ∷ 113 ∷ 91
    ∷ 48 ∷ 93 ∷ 59 ∷ 115 ∷ 32 ∷ 113 ∷ 91 ∷ 48 ∷ 93 ∷ 59 ∷ 115 ∷ 100 ∷ 103 ∷ 32 ∷ 113 ∷ 91 ∷ 48 ∷ 93 ∷ 59 ∷ 116 ∷ 32 ∷ 113 ∷ 91 ∷ 48 ∷ 93 ∷ 59 ∷ 116 ∷ 100 ∷ 103
    ∷ 32 ∷ 113 ∷ 91 ∷ 48 ∷ 93 ∷ 59 ∷ 99 ∷ 120 ∷ 32 ∷ 113 ∷ 91 ∷ 48 ∷ 93 ∷ 44 ∷ 113 ∷ 91 ∷ 49 ∷ 93 ∷ 59 ∷ 99 ∷ 121 ∷ 32 ∷ 113 ∷ 91 ∷ 48 ∷ 93 ∷ 44 ∷ 113 ∷ 91 ∷ 49
    ∷ 93 ∷ 59 ∷ 99 ∷ 122 ∷ 32 ∷ 113 ∷ 91 ∷ 48 ∷ 93 ∷ 44 ∷ 113 ∷ 91 ∷ 49 ∷ 93 ∷ 59 ∷ 99 ∷ 99 ∷ 120 ∷ 32 ∷ 113 ∷ 91 ∷ 48 ∷ 93 ∷ 44 ∷ 113 ∷ 91 ∷ 49 ∷ 93 ∷ 44 ∷ 113
    ∷ 91 ∷ 50 ∷ 93 ∷ 59 ∷ [])) ≡ program 3 2 (record_of 0 0 0 0 ∷ record_of 1 0 0 0 ∷ record_of 15 0 0 0 ∷ record_of 2 0 0 0 ∷ record_of 3 0 0 0 ∷ record_of 4 0 0 0
    ∷ record_of 5 0 0 0 ∷ record_of 6 0 0 0 ∷ record_of 8 0 1 0 ∷ record_of 20 0 1 0 ∷ record_of 9 0 1 0 ∷ record_of 10 0 1 2 ∷ [])
unfolding result lines
twelve_gates = refl

-- ---- names

any_name : List (List ℕ) → Bool
any_name [] = false
any_name (w ∷ ws) = is_name w || any_name ws

all_names : List (List ℕ) → Bool
all_names [] = true
all_names (w ∷ ws) = is_name w && all_names ws

-- h x y z s sdg t tdg cx cy cz ccx include qreg creg gate opaque if barrier measure reset pi sin cos tan exp ln sqrt
none_of_these : any_name ((104 ∷ []) ∷ (120 ∷ []) ∷ (121 ∷ []) ∷ (122 ∷ []) ∷ (115 ∷ []) ∷ (115 ∷ 100 ∷ 103 ∷ []) ∷ (116 ∷ []) ∷ (116 ∷ 100 ∷ 103 ∷ []) ∷ (99 ∷ 120
    ∷ []) ∷ (99 ∷ 121 ∷ []) ∷ (99 ∷ 122 ∷ []) ∷ (99 ∷ 99 ∷ 120 ∷ []) ∷ (105 ∷ 110 ∷ 99 ∷ 108 ∷ 117 ∷ 100 ∷ 101 ∷ []) ∷ (113 ∷ 114 ∷ 101 ∷ 103 ∷ []) ∷ (99 ∷ 114
    ∷ 101 ∷ 103 ∷ []) ∷ (103 ∷ 97 ∷ 116 ∷ 101 ∷ []) ∷ (111 ∷ 112 ∷ 97 ∷ 113 ∷ 117 ∷ 101 ∷ []) ∷ (105 ∷ 102 ∷ []) ∷ (98 ∷ 97 ∷ 114 ∷ 114 ∷ 105 ∷ 101 ∷ 114 ∷ [])
    ∷ (109 ∷ 101 ∷ 97 ∷ 115 ∷ 117 ∷ 114 ∷ 101 ∷ []) ∷ (114 ∷ 101 ∷ 115 ∷ 101 ∷ 116 ∷ []) ∷ (112 ∷ 105 ∷ []) ∷ (115 ∷ 105 ∷ 110 ∷ []) ∷ (99 ∷ 111 ∷ 115 ∷ [])
    ∷ (116 ∷ 97 ∷ 110 ∷ []) ∷ (101 ∷ 120 ∷ 112 ∷ []) ∷ (108 ∷ 110 ∷ []) ∷ (115 ∷ 113 ∷ 114 ∷ 116 ∷ []) ∷ []) ≡ false
unfolding any_name
none_of_these = refl

-- q c swap ccz u1 id hh q_1 aB9 openqasm
any_of_these : all_names ((113 ∷ []) ∷ (99 ∷ []) ∷ (115 ∷ 119 ∷ 97 ∷ 112 ∷ []) ∷ (99 ∷ 99 ∷ 122 ∷ []) ∷ (117 ∷ 49 ∷ []) ∷ (105 ∷ 100 ∷ []) ∷ (104 ∷ 104 ∷ [])
    ∷ (113 ∷ 95 ∷ 49 ∷ []) ∷ (97 ∷ 66 ∷ 57 ∷ []) ∷ (111 ∷ 112 ∷ 101 ∷ 110 ∷ 113 ∷ 97 ∷ 115 ∷ 109 ∷ []) ∷ []) ≡ true
unfolding all_names
any_of_these = refl

-- q begun by a capital, an underscore, a digit; the empty word
none_so_begun : any_name ((81 ∷ []) ∷ (95 ∷ 113 ∷ []) ∷ (49 ∷ 113 ∷ []) ∷ [] ∷ []) ≡ false
unfolding any_name
none_so_begun = refl

-- ---- positions, in a text of two lines of two bytes, a carriage return and a line feed at the end of the first

position : ℕ → TextPosition
unfolding position_in
position place = position_in (104 ∷ 59 ∷ 13 ∷ 10 ∷ 104 ∷ 59 ∷ []) place

begins_at_one : position 0 ≡ record { line = 1; column = 1 }
unfolding position
begins_at_one = refl

feed_in_its_line : position 3 ≡ record { line = 1; column = 4 }
unfolding position
feed_in_its_line = refl

next_line : position 5 ≡ record { line = 2; column = 2 }
unfolding position
next_line = refl

past_the_text : position 9 ≡ record { line = 2; column = 3 }
unfolding position
past_the_text = refl
