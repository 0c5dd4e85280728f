-- The signs and words of the subset, the gates' names, and which names a register may have.
use Rattle.std.specs.Prelude.{Bool, ◌&&◌, not, List, [], ◌∷◌, map, ℕ}
use Rattle.qasm.specs.Bytes.{lower_case, word_byte, every, begins, among}
use Rattle.qasm.specs.Tokens.{Token, sign}

-- ;
abbrev pub semicolon : Token
semicolon = sign (59 ∷ [])

-- [
abbrev pub opening : Token
opening = sign (91 ∷ [])

-- ]
abbrev pub closing : Token
closing = sign (93 ∷ [])

-- ,
abbrev pub comma : Token
comma = sign (44 ∷ [])

-- ->
abbrev pub arrow : Token
arrow = sign (45 ∷ 62 ∷ [])

-- 2.0
abbrev pub version : Token
version = sign (50 ∷ 46 ∷ 48 ∷ [])

-- "qelib1.inc"
abbrev pub library : Token
library = sign (34 ∷ 113 ∷ 101 ∷ 108 ∷ 105 ∷ 98 ∷ 49 ∷ 46 ∷ 105 ∷ 110 ∷ 99 ∷ 34 ∷ [])

-- OPENQASM
abbrev pub word_openqasm : List ℕ
word_openqasm = 79 ∷ 80 ∷ 69 ∷ 78 ∷ 81 ∷ 65 ∷ 83 ∷ 77 ∷ []

-- include
abbrev pub word_include : List ℕ
word_include = 105 ∷ 110 ∷ 99 ∷ 108 ∷ 117 ∷ 100 ∷ 101 ∷ []

-- qreg
abbrev pub word_qreg : List ℕ
word_qreg = 113 ∷ 114 ∷ 101 ∷ 103 ∷ []

-- creg
abbrev pub word_creg : List ℕ
word_creg = 99 ∷ 114 ∷ 101 ∷ 103 ∷ []

-- measure
abbrev pub word_measure : List ℕ
word_measure = 109 ∷ 101 ∷ 97 ∷ 115 ∷ 117 ∷ 114 ∷ 101 ∷ []

-- the name of a gate, the number of its kind, its qubits
pub record Named : Type 0 where
  pub name : List ℕ
  pub kind : ℕ
  pub qubits : ℕ

abbrev pub named : List ℕ → ℕ → ℕ → Named
named w k q = record { name = w; kind = k; qubits = q }

-- h, x, y, z, s; sdg, t, tdg; cx, cy, cz, ccx. The kinds' numbers are document 01's
abbrev pub gate_names : List Named
gate_names =
    named (104 ∷ []) 0 1 ∷ named (120 ∷ []) 1 1 ∷ named (121 ∷ []) 15 1 ∷ named (122 ∷ []) 2 1 ∷ named (115 ∷ []) 3 1
    ∷ named (115 ∷ 100 ∷ 103 ∷ []) 4 1 ∷ named (116 ∷ []) 5 1 ∷ named (116 ∷ 100 ∷ 103 ∷ []) 6 1
    ∷ named (99 ∷ 120 ∷ []) 8 2 ∷ named (99 ∷ 121 ∷ []) 20 2 ∷ named (99 ∷ 122 ∷ []) 9 2 ∷ named (99 ∷ 99 ∷ 120 ∷ []) 10 3 ∷ []

-- include, qreg, creg, measure, gate, opaque, if, barrier, reset, pi, sin, cos, tan, exp, ln, sqrt
abbrev pub reserved : List (List ℕ)
reserved =
    word_include ∷ word_qreg ∷ word_creg ∷ word_measure
    ∷ (103 ∷ 97 ∷ 116 ∷ 101 ∷ [])
    ∷ (111 ∷ 112 ∷ 97 ∷ 113 ∷ 117 ∷ 101 ∷ [])
    ∷ (105 ∷ 102 ∷ [])
    ∷ (98 ∷ 97 ∷ 114 ∷ 114 ∷ 105 ∷ 101 ∷ 114 ∷ [])
    ∷ (114 ∷ 101 ∷ 115 ∷ 101 ∷ 116 ∷ [])
    ∷ (112 ∷ 105 ∷ [])
    ∷ (115 ∷ 105 ∷ 110 ∷ [])
    ∷ (99 ∷ 111 ∷ 115 ∷ [])
    ∷ (116 ∷ 97 ∷ 110 ∷ [])
    ∷ (101 ∷ 120 ∷ 112 ∷ [])
    ∷ (108 ∷ 110 ∷ [])
    ∷ (115 ∷ 113 ∷ 114 ∷ 116 ∷ []) ∷ []

-- a register's name: begun by a small letter, no gate name and no reserved word
abbrev pub is_name : List ℕ → Bool
is_name w = begins lower_case w && every word_byte w && not (among w (map (λ g. g.name) gate_names)) && not (among w reserved)
