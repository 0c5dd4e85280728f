-- The measurements of a conversion write to the bits of its circuit's measurements, in their order.
use mathlib.Core.Path.{◌≡◌, refl, ap, ap₂, sym, ◌∙◌}
use mathlib.Core.Bool.{Bool, true, false, cond}
use mathlib.Core.List.{List, [], ◌∷◌, ◌++◌, map, append-nil, append_assoc}
use Prim.Native.Nat.{ℕ, suc}
use lib.Dec.{eqb}
use Rattle.pauli.specs.Rows.{Row}
use Rattle.pauli.specs.Rotations.{Rotation}
use Rattle.convert.specs.Records.{is_narrow, thirteen_of, fifteen_of, parts_of, lower_parts, lower_in, Record, records, kind_of, Elementary, clifford, el_t, el_tdg, el_ccx, el_ccz, el_measure, lower_as, lower, placed_from, lower_from, lower_all, Placed, bare, From, from, without_index}
use Rattle.convert.specs.Plain.{Operation, rotate_by, measure_of, conditional_by, malformed, as_rotation, flush_from}
use Rattle.convert.specs.Paper.{Paper, gate_products, axes, too_heavy, rotate_all, writes, paper_perform, paper_flushed, paper_step, paper_run, paper_begin}
use Rattle.convert.specs.Conversion.{Input, limits, is_measure, gates_in, paper_end, convert_check}
use Rattle.convert.specs.Later.{converted}
use Rattle.convert.proofs.Accepted.{bare-placed}
use Rattle.convert.proofs.Counts.Parts.{Split, whole, ccx, ccz, split}
use Rattle.convert.proofs.Meaning.Words.{map-append, without_more, without-flushed}
use Rattle.convert.proofs.Theorems.{converts}
use Rattle.operators.specs.Types.{GateKind, KindH, KindX, KindZ, KindS, KindSdg, KindT, KindTdg, KindCnot, KindCz, KindCcx, KindCcz, KindMeasure, KindY, KindSx, KindSwap, KindCy, Unsupported, Target, Bit, Cap, Fine}
use Rattle.operators.specs.Whole.{operations_of}
use Rattle.operators.specs.Bits.{record_bits, operation_bits}
use Rattle.operators.proofs.Records.{measures}

bits_append : (os ps : List Operation) → operation_bits (os ++ ps) ≡ operation_bits os ++ operation_bits ps
bits_append [] ps = refl
bits_append (rotate_by k P ∷ os) ps = bits_append os ps
bits_append (measure_of P m t ∷ os) ps = ap (λ l. t ∷ l) (bits_append os ps)
bits_append (conditional_by k P m ∷ os) ps = bits_append os ps
bits_append (malformed ∷ os) ps = bits_append os ps

bits_rotations : (rs : List Rotation) → operation_bits (map as_rotation rs) ≡ []
bits_rotations [] = refl
bits_rotations (r ∷ rs) = bits_rotations rs

bits_all : (ks : List ℕ) (Ps : List Row) → operation_bits (rotate_all ks Ps) ≡ []
bits_all [] Ps = refl
bits_all (k ∷ ks) [] = refl
bits_all (k ∷ ks) (P ∷ Ps) = bits_all ks Ps

abbrev element_bits : Elementary → List Target
element_bits (clifford g) = []
element_bits (el_t q) = []
element_bits (el_tdg q) = []
element_bits (el_ccx a b d) = []
element_bits (el_ccz a b d) = []
element_bits (el_measure q k) = Bit k ∷ []

abbrev elements_bits : List Elementary → List Target
elements_bits [] = []
elements_bits (e ∷ es) = element_bits e ++ elements_bits es

more : (os ps : List Operation) (ts : List Target) → operation_bits ps ≡ ts → operation_bits (os ++ ps) ≡ operation_bits os ++ ts
more os ps ts e = bits_append os ps ∙ ap (λ l. operation_bits os ++ l) e

-- what a gate record adds
more-from : (os : List (From Operation)) (i : ℕ) (ps : List Operation) (ts : List Target) → operation_bits ps ≡ ts
    → operation_bits (without_index (os ++ map (from i) ps)) ≡ operation_bits (without_index os) ++ ts
more-from os i ps ts e = ap operation_bits (without_more os i ps) ∙ more (without_index os) ps ts e

abbrev bits_of : Paper → List Target
bits_of p = operation_bits (without_index p.operations)

bits_perform : (n i j : ℕ) (e : Elementary) (p : Paper) → bits_of (paper_perform n i j e p) ≡ bits_of p ++ element_bits e
unfolding paper_perform writes axes gate_products
bits_perform n i j (clifford g) p = sym (append-nil (bits_of p))
bits_perform n i j (el_t q) p = more-from p.operations i (writes n (bare p.since) p.given (el_t q)) [] refl
bits_perform n i j (el_tdg q) p = more-from p.operations i (writes n (bare p.since) p.given (el_tdg q)) [] refl
bits_perform n i j (el_ccx a b d) p = more-from p.operations i (writes n (bare p.since) p.given (el_ccx a b d)) [] refl
bits_perform n i j (el_ccz a b d) p = more-from p.operations i (writes n (bare p.since) p.given (el_ccz a b d)) [] refl
bits_perform n i j (el_measure q k) p = more-from p.operations i (writes n (bare p.since) p.given (el_measure q k)) (Bit k ∷ []) refl

bits_flushed : (n : ℕ) (p : Paper) → bits_of (paper_flushed flush_from n p) ≡ bits_of p
bits_flushed n p =
    ap operation_bits (without-flushed p.operations (flush_from n p.since)) ∙ more (without_index p.operations) _ [] (bits_rotations (without_index (flush_from n p.since))) ∙ append-nil (bits_of p)

bits_step : (n : ℕ) (cap : Cap) (e : Placed Elementary) (p : Paper) → bits_of (paper_step flush_from n cap e p) ≡ bits_of p ++ element_bits e.gate
unfolding paper_step
bits_step n cap e p = go (too_heavy n cap (bare p.since) e.gate)
  where
    go : (b : Bool) → bits_of (paper_perform n e.index e.part e.gate (cond b (paper_flushed flush_from n p) p)) ≡ bits_of p ++ element_bits e.gate
    go true = bits_perform n e.index e.part e.gate (paper_flushed flush_from n p) ∙ ap (λ l. l ++ element_bits e.gate) (bits_flushed n p)
    go false = bits_perform n e.index e.part e.gate p

bits_run : (n : ℕ) (cap : Cap) (es : List (Placed Elementary)) (p : Paper) → bits_of (paper_run flush_from n cap es p) ≡ bits_of p ++ elements_bits (bare es)
unfolding paper_run
bits_run n cap [] p = sym (append-nil (bits_of p))
bits_run n cap (e ∷ es) p =
    bits_run n cap es (paper_step flush_from n cap e p) ∙ ap (λ l. l ++ elements_bits (bare es)) (bits_step n cap e p) ∙ append_assoc (bits_of p) (element_bits e.gate) (elements_bits (bare es))

elements_append : (es fs : List Elementary) → elements_bits (es ++ fs) ≡ elements_bits es ++ elements_bits fs
elements_append [] fs = refl
elements_append (e ∷ es) fs = ap (λ l. element_bits e ++ l) (elements_append es fs) ∙ sym (append_assoc (element_bits e) (elements_bits es) (elements_bits fs))

bits_kind : (k : GateKind) (a b c : ℕ) → elements_bits (lower_as k a b c) ≡ cond (is_measure k) (Bit b ∷ []) []
unfolding lower_as
bits_kind KindH a b c = refl
bits_kind KindX a b c = refl
bits_kind KindZ a b c = refl
bits_kind KindS a b c = refl
bits_kind KindSdg a b c = refl
bits_kind KindT a b c = refl
bits_kind KindTdg a b c = refl
bits_kind KindCnot a b c = refl
bits_kind KindCz a b c = refl
bits_kind KindCcx a b c = refl
bits_kind KindCcz a b c = refl
bits_kind KindMeasure a b c = refl
bits_kind KindY a b c = refl
bits_kind KindSx a b c = refl
bits_kind KindSwap a b c = refl
bits_kind KindCy a b c = refl
bits_kind Unsupported a b c = refl

bits-whole : (r : Record) → elements_bits (lower r) ≡ cond (eqb r.kind 12) (Bit r.b ∷ []) []
unfolding lower
bits-whole r = bits_kind (kind_of r.kind) r.a r.b r.c ∙ ap (λ t. cond t (Bit r.b ∷ []) []) (sym (measures r.kind))

no_bit : (r : Record) → is_measure (kind_of r.kind) ≡ false → [] ≡ cond (eqb r.kind 12) (Bit r.b ∷ []) []
no_bit r e = ap (λ t. cond t (Bit r.b ∷ []) []) (sym (measures r.kind ∙ e))

bits_thirteen : (a b d : ℕ) → elements_bits (lower_parts (thirteen_of a b d)) ≡ []
unfolding lower lower_as kind_of
bits_thirteen a b d = refl

bits_fifteen : (a b d : ℕ) → elements_bits (lower_parts (fifteen_of a b d)) ≡ []
unfolding lower lower_as kind_of
bits_fifteen a b d = refl

bits_in : (narrow : Bool) (r : Record) → elements_bits (lower_in narrow r) ≡ cond (eqb r.kind 12) (Bit r.b ∷ []) []
unfolding lower_in
bits_in narrow r = go (split narrow r)
  where
    go : Split narrow r → elements_bits (lower_parts (parts_of narrow r)) ≡ cond (eqb r.kind 12) (Bit r.b ∷ []) []
    go (whole e d) = rw (e, append-nil (lower r)) (bits-whole r)
    go (ccx t k e) = rw e (bits_fifteen r.a r.b r.c ∙ no_bit r (ap is_measure k))
    go (ccz t k e) = rw e (bits_thirteen r.a r.b r.c ∙ no_bit r (ap is_measure k))

bits-records : (narrow : Bool) (i : ℕ) (rs : List Record) → elements_bits (bare (lower_from narrow i rs)) ≡ record_bits rs
unfolding lower_from
bits-records narrow i [] = refl
bits-records narrow i (r ∷ rs) =
    ap elements_bits (map-append _ (placed_from i 0 (lower_in narrow r)) (lower_from narrow (suc i) rs) ∙ ap (λ l. l ++ bare (lower_from narrow (suc i) rs)) (bare-placed i 0 (lower_in narrow r)))
    ∙ elements_append (lower_in narrow r) (bare (lower_from narrow (suc i) rs)) ∙ ap₂ ◌++◌ (bits_in narrow r) (bits-records narrow (suc i) rs)

pub bits : (x : Input) → convert_check limits x ≡ Fine → operation_bits (operations_of (converted x)) ≡ record_bits (records x.gates)
unfolding converted paper_end gates_in lower_all
bits x e = ap (λ os. operation_bits (without_index os)) (converts x e).operations ∙ bits_run x.qubits x.cap (gates_in x) paper_begin ∙ bits-records (is_narrow x.cap) 0 (records x.gates)
