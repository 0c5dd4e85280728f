use mathlib.Core.Path.{refl, ap, sym, ◌∙◌}
use mathlib.Core.Bool.{false}
use mathlib.Core.List.{List, [], ◌∷◌}
use Prim.Native.Nat.{ℕ, ◌+◌, ◌/◌, ◌%◌}
use native.Mathlib.Omega.{arith}
use lib.ListN.{length, get_or}
use Rattle.convert.specs.Records.{Record, kind_of}
use Rattle.convert.specs.Conversion.{is_doubly}
use Rattle.convert.specs.Code.Raw.{packed_parts, unpacked_part, record_words}
use Rattle.convert.specs.Code.Parts.{record_in}
use Rattle.convert.proofs.Counts.Parts.{part-ccx, part-ccz, part-whole}
use Rattle.convert.proofs.GateKinds.Arms.{arm}
use Rattle.convert.proofs.GateKinds.Chunks.{chunk_list, chunk_record, kind_of_record}
use borrow.Enum.Refused.{opened}
use Rattle.convert.proofs.gate.words_of_part.Goals as goal

pub unpacked-requires : goal.unpacked-requires
unpacked-requires c =
    let kind = c.of.ensures ∙ ap kind_of (kind_of_record c.args.gates.now c.as_chunks.result.0.now (c.args.p / 16) c.as_chunks.ensures.front c.requires.0) in
    (part-ccx c.args.gates.now c.args.p (sym kind ∙ c.in-Ccx.is) c.requires).0

pub unpacked-requires-in-Ccz : goal.unpacked-requires-in-Ccz
unpacked-requires-in-Ccz c =
    let kind = c.of.ensures ∙ ap kind_of (kind_of_record c.args.gates.now c.as_chunks.result.0.now (c.args.p / 16) c.as_chunks.ensures.front c.requires.0) in
    let h = (part-ccz c.args.gates.now c.args.p (sym kind ∙ c.in-Ccz.is) c.requires).0 in
    omega (arith, h)

pub returns-in-Ccx : goal.returns-in-Ccx
returns-in-Ccx c =
    let gates = c.args.gates.now in
    let p = c.args.p in
    let front = c.as_chunks.ensures.front in
    let kind = c.of.ensures ∙ ap kind_of (kind_of_record gates c.as_chunks.result.0.now (p / 16) front c.requires.0) in
    let same = ap (λ (l : List (List ℕ)). record_in (get_or l (p / 16) [])) front ∙ chunk_record gates (p / 16) c.requires.0 in
    c.unpacked.ensures ∙ ap (λ (r : Record). record_words (unpacked_part r (get_or packed_parts (p % 16) 0))) same
    ∙ ap record_words (sym (part-ccx gates p (sym kind ∙ c.in-Ccx.is) c.requires).1)

pub returns-in-Ccz : goal.returns-in-Ccz
returns-in-Ccz c =
    let gates = c.args.gates.now in
    let p = c.args.p in
    let front = c.as_chunks.ensures.front in
    let kind = c.of.ensures ∙ ap kind_of (kind_of_record gates c.as_chunks.result.0.now (p / 16) front c.requires.0) in
    let same = ap (λ (l : List (List ℕ)). record_in (get_or l (p / 16) [])) front ∙ chunk_record gates (p / 16) c.requires.0 in
    c.unpacked-in-Ccz.ensures ∙ ap (λ (r : Record). record_words (unpacked_part r (get_or packed_parts (p % 16 + 1) 0))) same
    ∙ ap record_words (sym (part-ccz gates p (sym kind ∙ c.in-Ccz.is) c.requires).1)

pub returns-in_default : goal.returns-in_default
returns-in_default c =
    let gates = c.args.gates.now in
    let p = c.args.p in
    let front = c.as_chunks.ensures.front in
    let kind = c.of.ensures ∙ ap kind_of (kind_of_record gates c.as_chunks.result.0.now (p / 16) front c.requires.0) in
    let other = arm is_doubly false (0 ∷ 1 ∷ 2 ∷ 3 ∷ 4 ∷ 5 ∷ 6 ∷ 7 ∷ 8 ∷ 11 ∷ 12 ∷ 13 ∷ 14 ∷ 15 ∷ 16 ∷ []) refl c.of.result (opened c.in_default.in_default-own.keys3) in
    ap (λ (l : List (List ℕ)). get_or l (p / 16) []) front ∙ chunk_list (length gates / 4) gates (p / 16) c.requires.0 (omega arith)
    ∙ ap record_words (sym (part-whole gates p (ap is_doubly (sym kind) ∙ sym other) c.requires))
