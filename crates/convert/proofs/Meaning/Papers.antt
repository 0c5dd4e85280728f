-- The plain conversion, by its table, is the conversion by the papers.
use mathlib.Core.Path.{◌≡◌, refl, ap, sym, ◌∙◌}
use mathlib.Core.Bool.{Bool, true, false, cond}
use mathlib.Core.List.{List, [], ◌∷◌, ◌++◌, map}
use Prim.Native.Nat.{ℕ, suc}
use Rattle.pauli.specs.Rows.{Row, Width, ◌★◌, single}
use Rattle.pauli.specs.Gates.{Gate, AllValid, back}
use Rattle.pauli.specs.Table.{start, step, run, table}
use Rattle.pauli.proofs.Rows.{width-★}
use Rattle.pauli.proofs.Conj.{hom-back}
use Rattle.pauli.proofs.Short.{width-single}
use Rattle.pauli.proofs.Table.{table-rows, table-snoc}
use Rattle.convert.specs.Types.{Pauli, X, Z, Bit}
use Rattle.convert.specs.Records.{Cap, NoCap, AtMost, Elementary, clifford, el_t, el_tdg, el_ccx, el_ccz, el_measure, Placed, placed, bare, from, map_from, Proper, AllProper}
use Rattle.convert.specs.Plain.{Plain, plain_begin, rows_after, table_run, any_above, seven, Flush, as_rotation, tested, exceeds, flushed, perform_as, perform, plain_step, plain_run}
use Rattle.convert.specs.Paper.{Paper, gate_products, axes, too_heavy, seven_angles, rotate_all, measure_first, writes, paper_perform, paper_flushed, paper_step, paper_run, paper_begin}
use Rattle.convert.proofs.Meaning.Words.{valid_append, bare-snoc}

-- the seven products go through U† P U
through-seven : (n : ℕ) (gs : List Gate) → AllValid n gs → (a b d : ℕ) (l : Pauli) (A B D : Row)
    → A ≡ back gs (single n a Z) → B ≡ back gs (single n b Z) → D ≡ back gs (single n d l)
    → seven A B D ≡ map (back gs) (seven (single n a Z) (single n b Z) (single n d l))
through-seven n gs v a b d l A B D ea eb ed =
    (λ i. seven (ea i) (eb i) (ed i))
    ∙ (λ i. back gs P ∷ back gs Q ∷ back gs R ∷ times P Q wP wQ i ∷ times P R wP wR i ∷ times Q R wQ wR i ∷ third i ∷ [])
  where
    P : Row
    P = single n a Z

    Q : Row
    Q = single n b Z

    R : Row
    R = single n d l

    wP : Width n P
    wP = width-single n a Z

    wQ : Width n Q
    wQ = width-single n b Z

    wR : Width n R
    wR = width-single n d l

    times : (S T : Row) → Width n S → Width n T → back gs S ★ back gs T ≡ back gs (S ★ T)
    times S T wS wT = sym ((hom-back n gs v).times S T wS wT)

    third : back gs P ★ back gs Q ★ back gs R ≡ back gs (P ★ Q ★ R)
    third = ap (λ S. S ★ back gs R) (times P Q wP wQ) ∙ times (P ★ Q) R (width-★ n P Q wP wQ) wR

-- what the table tests are the papers' axes
tested-axes : (n : ℕ) (gs : List Gate) → AllValid n gs → (c : ℕ) (e : Elementary) → Proper n c e → tested n (table n gs) e ≡ axes n gs e
unfolding tested axes gate_products
tested-axes n gs v c (clifford g) h = refl
tested-axes n gs v c (el_t q) h = ap (λ P. P ∷ []) ((table-rows n gs v).at_z q h)
tested-axes n gs v c (el_tdg q) h = ap (λ P. P ∷ []) ((table-rows n gs v).at_z q h)
tested-axes n gs v c (el_ccx a b d) h = through-seven n gs v a b d X _ _ _ ((table-rows n gs v).at_z a h.0) ((table-rows n gs v).at_z b h.1) ((table-rows n gs v).at_x d h.2)
tested-axes n gs v c (el_ccz a b d) h = through-seven n gs v a b d Z _ _ _ ((table-rows n gs v).at_z a h.0) ((table-rows n gs v).at_z b h.1) ((table-rows n gs v).at_z d h.2)
tested-axes n gs v c (el_measure q k) h = ap (λ P. P ∷ []) ((table-rows n gs v).at_z q h.0)

-- the plain state is that of the papers, with the table of the gates since the last flush
pub record Agrees (n : ℕ) (p : Plain) (r : Paper) : Type 0 where
  pub valid : AllValid n (bare r.since)
  pub table_of : p.table ≡ table n (bare r.since)
  pub pending : p.pending ≡ r.since
  pub operations : p.operations ≡ r.operations
  pub given : p.given ≡ r.given

seen : (n c : ℕ) (e : Elementary) (p : Plain) (r : Paper) → Proper n c e → Agrees n p r → tested n p.table e ≡ axes n (bare r.since) e
seen n c e p r h A = ap (λ t. tested n t e) A.table_of ∙ tested-axes n (bare r.since) A.valid c e h

agrees-perform : (n c i j : ℕ) (e : Elementary) (p : Plain) (r : Paper) → Proper n c e → Agrees n p r → Agrees n (perform_as n i j e p) (paper_perform n i j e r)
unfolding perform_as paper_perform writes tested
agrees-perform n c i j (clifford g) p r h A = record {
  valid = rw (bare-snoc r.since i j g) (valid_append n (bare r.since) (g ∷ []) A.valid (h, tt));
  table_of = ap (step n g) A.table_of ∙ sym (table-snoc n (bare r.since) g) ∙ ap (table n) (sym (bare-snoc r.since i j g));
  pending = ap (λ gs. gs ++ placed i j g ∷ []) A.pending;
  operations = A.operations;
  given = A.given;
}
agrees-perform n c i j (el_t q) p r h A = record {
  valid = A.valid;
  table_of = A.table_of;
  pending = A.pending;
  operations = λ t. A.operations t ++ map (from i) (rotate_all (1 ∷ []) (seen n c (el_t q) p r h A t));
  given = A.given;
}
agrees-perform n c i j (el_tdg q) p r h A = record {
  valid = A.valid;
  table_of = A.table_of;
  pending = A.pending;
  operations = λ t. A.operations t ++ map (from i) (rotate_all (7 ∷ []) (seen n c (el_tdg q) p r h A t));
  given = A.given;
}
agrees-perform n c i j (el_ccx a b d) p r h A = record {
  valid = A.valid;
  table_of = A.table_of;
  pending = A.pending;
  operations = λ t. A.operations t ++ map (from i) (rotate_all seven_angles (seen n c (el_ccx a b d) p r h A t));
  given = A.given;
}
agrees-perform n c i j (el_ccz a b d) p r h A = record {
  valid = A.valid;
  table_of = A.table_of;
  pending = A.pending;
  operations = λ t. A.operations t ++ map (from i) (rotate_all seven_angles (seen n c (el_ccz a b d) p r h A t));
  given = A.given;
}
agrees-perform n c i j (el_measure q k) p r h A = record {
  valid = A.valid;
  table_of = A.table_of;
  pending = A.pending;
  operations = λ t. A.operations t ++ map (from i) (measure_first (A.given t) (Bit k) (seen n c (el_measure q k) p r h A t));
  given = ap suc A.given;
}

agrees-flushed : (f : Flush) (n : ℕ) (p : Plain) (r : Paper) → Agrees n p r → Agrees n (flushed f n p) (paper_flushed f n r)
unfolding flushed table run
agrees-flushed f n p r A = record {
  valid = tt;
  table_of = refl;
  pending = refl;
  operations = λ i. A.operations i ++ map (map_from as_rotation) (f n (A.pending i));
  given = A.given;
}

heavy : (n c : ℕ) (cap : Cap) (e : Elementary) (p : Plain) (r : Paper) → Proper n c e → Agrees n p r → exceeds n cap p.table e ≡ too_heavy n cap (bare r.since) e
unfolding exceeds too_heavy
heavy n c NoCap e p r h A = refl
heavy n c (AtMost cap) e p r h A = ap (any_above cap) (seen n c e p r h A)

agrees-step : (f : Flush) (n c : ℕ) (cap : Cap) (e : Placed Elementary) (p : Plain) (r : Paper) → Proper n c e.gate → Agrees n p r
    → Agrees n (plain_step f n cap e p) (paper_step f n cap e r)
unfolding plain_step paper_step
agrees-step f n c cap e p r h A = rw (heavy n c cap e.gate p r h A) (go (too_heavy n cap (bare r.since) e.gate))
  where
    go : (b : Bool) → Agrees n (perform n e (cond b (flushed f n p) p)) (paper_perform n e.index e.part e.gate (cond b (paper_flushed f n r) r))
    go true = agrees-perform n c e.index e.part e.gate (flushed f n p) (paper_flushed f n r) h (agrees-flushed f n p r A)
    go false = agrees-perform n c e.index e.part e.gate p r h A

agrees-run : (f : Flush) (n c : ℕ) (cap : Cap) (es : List (Placed Elementary)) (p : Plain) (r : Paper) → AllProper n c (bare es) → Agrees n p r → Agrees n (plain_run f n cap es p) (paper_run f n cap es r)
unfolding plain_run paper_run
agrees-run f n c cap [] p r h A = A
agrees-run f n c cap (e ∷ es) p r h A = agrees-run f n c cap es (plain_step f n cap e p) (paper_step f n cap e r) h.1 (agrees-step f n c cap e p r h.0 A)

-- the plain conversion's operations, axes and angles are those of the papers
pub agrees : (f : Flush) (n c : ℕ) (cap : Cap) (es : List (Placed Elementary)) → AllProper n c (bare es)
    → Agrees n (plain_run f n cap es (plain_begin n)) (paper_run f n cap es paper_begin)
unfolding plain_begin table run
agrees f n c cap es h = agrees-run f n c cap es (plain_begin n) paper_begin h (record { valid = tt; table_of = refl; pending = refl; operations = refl; given = refl })

-- ---- the plain conversion's table is the plain table

perform-table : (n i j : ℕ) (e : Elementary) (p : Plain) → (perform_as n i j e p).table ≡ rows_after n e p.table
unfolding perform_as rows_after
perform-table n i j (clifford g) p = refl
perform-table n i j (el_t q) p = refl
perform-table n i j (el_tdg q) p = refl
perform-table n i j (el_ccx a b d) p = refl
perform-table n i j (el_ccz a b d) p = refl
perform-table n i j (el_measure q k) p = refl

pub table-run : (f : Flush) (n : ℕ) (cap : Cap) (es : List (Placed Elementary)) (p : Plain)
    → (plain_run f n cap es p).table ≡ table_run n cap (bare es) p.table
unfolding plain_run plain_step table_run flushed
table-run f n cap [] p = refl
table-run f n cap (e ∷ es) p = table-run f n cap es (perform n e (cond b (flushed f n p) p))
    ∙ ap (table_run n cap (bare es)) (perform-table n e.index e.part e.gate (cond b (flushed f n p) p) ∙ ap (rows_after n e.gate) (rows b))
  where
    b : Bool
    b = exceeds n cap p.table e.gate

    rows : (b : Bool) → (cond b (flushed f n p) p).table ≡ cond b (start n) p.table
    rows true = refl
    rows false = refl
