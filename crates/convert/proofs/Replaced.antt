-- E4 of document 02: under a cap of 1 or 2 a conversion is that of the list with each ccx and ccz replaced by its gates, but for the fifth words.
use mathlib.Core.Path.{◌≡◌, refl, ap, ap₂, sym, ◌∙◌}
use mathlib.Core.Bool.{Bool, true, false, cond, ◌||◌}
use mathlib.Core.List.{List, [], ◌∷◌, ◌++◌, map, append_assoc}
use Prim.Native.Nat.{ℕ, suc, ◌+◌, ◌*◌, ◌/◌, ◌≤◌}
use native.Mathlib.Omega.{arith}
use lib.Dec.{ltb}
use lib.ListN.{length, get_or, drop, take, length-map}
use Rattle.pauli.specs.Rows.{Row}
use Rattle.pauli.specs.Gates.{Gate, gate_h, gate_x, gate_z, gate_s, gate_sdg, gate_cnot, gate_cz}
use Rattle.pauli.specs.Table.{start, step}
use Rattle.arena.specs.Operations.{rotate_words, measure_words}
use Rattle.arena.specs.Builder.{overlay, header_of}
use Rattle.arena.specs.Limits.{max_nodes, max_operations, node_words, operation_words}
use Rattle.arena.proofs.Accepted.{passed_before, test_passed}
use Rattle.convert.specs.Types.{Bit, Checked, Fine}
use Rattle.convert.specs.Records.{Cap, NoCap, AtMost, Record, records, kind_of, is_narrow, thirteen_of, fifteen_of, parts_of, expanded, Elementary, clifford, el_t, el_tdg, el_ccx, el_ccz, el_measure, lower_parts, lower, lower_in, Placed, placed_from, bare, lower_from, lower_all}
use Rattle.convert.specs.Sources.{All}
use Rattle.convert.specs.Plain.{Plain, plain_begin, flush_from, exceeds, flushed, perform_as, plain_step, plain_run, table_run}
use Rattle.convert.specs.Frame.{Arena, word, pushed, frame_step}
use Rattle.convert.specs.Words.{Words, start_words, id_x, id_z, add_ops, write_joint, flush_gate, flush_gates, restarted, flush_words, four_pushed, seven_ops, write_seven, write, word_step, word_run}
use Rattle.convert.specs.Planes.{packed}
use Rattle.convert.specs.Conversion.{Input, gates_in, plain_end, table_end, word_end, records_checked, max_gate_words, limits, gates_checked, gates_check, room_checked, convert_check, planes_as, ConvertedMade, convert_within, convert_step}
use Rattle.convert.specs.Thirteen.{words_of, replaced, SameWords, SameLeft, NarrowAsReplaced}
use Rattle.convert.proofs.Accepted.{bare-placed, passed-records}
use Rattle.convert.proofs.Meaning.Words.{map-append, bare-snoc}
use Rattle.convert.proofs.Counts.Parts.{Split, whole, ccx, ccz, split, all_thirteen, all_fifteen}
use Rattle.convert.proofs.ReplacedChecks.{passes, expanded-passes, list_fits}

-- ---- records

records-words : (rs : List Record) → records (words_of rs) ≡ rs
unfolding records
records-words [] = refl
records-words (r ∷ rs) = ap (λ l. r ∷ l) (records-words rs)

-- it is its only part
abbrev Alone : Record → Type 0
Alone r = parts_of true r ≡ r ∷ []

alone_thirteen : (a b d : ℕ) → All Alone (thirteen_of a b d)
unfolding parts_of kind_of
alone_thirteen a b d = all_thirteen Alone a b d refl refl refl refl refl refl refl refl

alone_fifteen : (a b d : ℕ) → All Alone (fifteen_of a b d)
unfolding parts_of kind_of
alone_fifteen a b d = all_fifteen Alone a b d refl (alone_thirteen a b d)

parts_alone : (r : Record) → All Alone (parts_of true r)
parts_alone r = go (split true r)
  where
    go : Split true r → All Alone (parts_of true r)
    go (whole e d) = rw e (e, tt)
    go (ccx t k e) = rw e (alone_fifteen r.a r.b r.c)
    go (ccz t k e) = rw e (alone_thirteen r.a r.b r.c)

expanded-append : (rs qs : List Record) → expanded true (rs ++ qs) ≡ expanded true rs ++ expanded true qs
expanded-append [] qs = refl
expanded-append (r ∷ rs) qs = ap (λ l. parts_of true r ++ l) (expanded-append rs qs) ∙ sym (append_assoc (parts_of true r) (expanded true rs) (expanded true qs))

expanded-alone : (rs : List Record) → All Alone rs → expanded true rs ≡ rs
expanded-alone [] w = refl
expanded-alone (r ∷ rs) w = ap₂ ◌++◌ w.0 (expanded-alone rs w.1)

expanded-twice : (rs : List Record) → expanded true (expanded true rs) ≡ expanded true rs
expanded-twice [] = refl
expanded-twice (r ∷ rs) = expanded-append (parts_of true r) (expanded true rs) ∙ ap₂ ◌++◌ (expanded-alone (parts_of true r) (parts_alone r)) (expanded-twice rs)

lower-append : (rs qs : List Record) → lower_parts (rs ++ qs) ≡ lower_parts rs ++ lower_parts qs
lower-append [] qs = refl
lower-append (r ∷ rs) qs = ap (λ l. lower r ++ l) (lower-append rs qs) ∙ sym (append_assoc (lower r) (lower_parts rs) (lower_parts qs))

-- the gates of a list are those of its parts
bare-lowered : (narrow : Bool) (i : ℕ) (rs : List Record) → bare (lower_from narrow i rs) ≡ lower_parts (expanded narrow rs)
unfolding lower_from lower_in
bare-lowered narrow i [] = refl
bare-lowered narrow i (r ∷ rs) =
    map-append _ (placed_from i 0 (lower_parts (parts_of narrow r))) (lower_from narrow (suc i) rs)
    ∙ ap₂ ◌++◌ (bare-placed i 0 (lower_parts (parts_of narrow r))) (bare-lowered narrow (suc i) rs) ∙ sym (lower-append (parts_of narrow r) (expanded narrow rs))

same-bare : (rs : List Record) → bare (lower_all true rs) ≡ bare (lower_all true (records (words_of (expanded true rs))))
unfolding lower_all
same-bare rs =
    bare-lowered true 0 rs
    ∙ sym (bare-lowered true 0 (records (words_of (expanded true rs))) ∙ ap (λ l. lower_parts (expanded true l)) (records-words (expanded true rs)) ∙ ap lower_parts (expanded-twice rs))

-- ---- plain states that differ in places alone

record Alike (p q : Plain) : Type 0 where
  table : p.table ≡ q.table
  pending : bare p.pending ≡ bare q.pending
  given : p.given ≡ q.given

alike_perform : (n i j i' j' : ℕ) (e : Elementary) (p q : Plain) → Alike p q → Alike (perform_as n i j e p) (perform_as n i' j' e q)
unfolding perform_as
alike_perform n i j i' j' (clifford g) p q A = record {
  table = ap (step n g) A.table;
  pending = bare-snoc p.pending i j g ∙ ap (λ l. l ++ g ∷ []) A.pending ∙ sym (bare-snoc q.pending i' j' g);
  given = A.given;
}
alike_perform n i j i' j' (el_t x) p q A = record { table = A.table; pending = A.pending; given = A.given }
alike_perform n i j i' j' (el_tdg x) p q A = record { table = A.table; pending = A.pending; given = A.given }
alike_perform n i j i' j' (el_ccx a b d) p q A = record { table = A.table; pending = A.pending; given = A.given }
alike_perform n i j i' j' (el_ccz a b d) p q A = record { table = A.table; pending = A.pending; given = A.given }
alike_perform n i j i' j' (el_measure x k) p q A = record { table = A.table; pending = A.pending; given = ap suc A.given }

alike-cond : (b : Bool) (n : ℕ) (p q : Plain) → Alike p q → Alike (cond b (flushed flush_from n p) p) (cond b (flushed flush_from n q) q)
unfolding flushed
alike-cond true n p q A = record { table = refl; pending = refl; given = A.given }
alike-cond false n p q A = A

alike_with : (n i j i' j' : ℕ) (b c : Bool) (x y : Elementary) (p q : Plain) → b ≡ c → x ≡ y → Alike p q
    → Alike (perform_as n i j x (cond b (flushed flush_from n p) p)) (perform_as n i' j' y (cond c (flushed flush_from n q) q))
alike_with n i j i' j' b c x y p q eb ex A = rw (eb, ex) (alike_perform n i j i' j' y (cond c (flushed flush_from n p) p) (cond c (flushed flush_from n q) q) (alike-cond c n p q A))

alike-step : (n : ℕ) (cap : Cap) (e f : Placed Elementary) (p q : Plain) → e.gate ≡ f.gate → Alike p q → Alike (plain_step flush_from n cap e p) (plain_step flush_from n cap f q)
unfolding plain_step
alike-step n cap e f p q h A =
    alike_with n e.index e.part f.index f.part (exceeds n cap p.table e.gate) (exceeds n cap q.table f.gate) e.gate f.gate p q
    (λ i. exceeds n cap (A.table i) (h i)) h A

-- ---- words that differ in the last words of operations alone

abbrev cut : List (List ℕ) → List (List ℕ)
cut os = map (take 4) os

record AlikeWords (v w : Words) : Type 0 where
  arena : v.arena ≡ w.arena
  ops : cut v.ops ≡ cut w.ops

ops_more : (l m os ps : List (List ℕ)) → cut l ≡ cut m → cut os ≡ cut ps → cut (l ++ os) ≡ cut (m ++ ps)
ops_more l m os ps e f = map-append (take 4) l os ∙ ap₂ ◌++◌ e f ∙ sym (map-append (take 4) m ps)

-- operations that do not look at the nodes
alike_add : (os ps : List (List ℕ)) (v w : Words) → cut os ≡ cut ps → AlikeWords v w → AlikeWords (add_ops os v) (add_ops ps w)
alike_add os ps v w e A = record { arena = A.arena; ops = ops_more v.ops w.ops os ps A.ops e }

alike_joint : (i j l r : ℕ) (v w : Words) → AlikeWords v w → AlikeWords (write_joint i l r v) (write_joint j l r w)
alike_joint i j l r v w A = record {
  arena = ap (pushed l r) A.arena;
  ops = ops_more v.ops w.ops (rotate_words l 2 i ∷ rotate_words r 2 i ∷ rotate_words (4 * v.arena.count) 6 i ∷ []) (rotate_words l 2 j ∷ rotate_words r 2 j ∷ rotate_words (4 * w.arena.count) 6 j ∷ [])
      A.ops (ap (λ (s : Arena). cut (rotate_words l 2 i ∷ rotate_words r 2 i ∷ rotate_words (4 * s.count) 6 i ∷ [])) A.arena);
}

alike_flush : (i j : ℕ) (g : Gate) (v w : Words) → AlikeWords v w → AlikeWords (flush_gate i g v) (flush_gate j g w)
unfolding flush_gate
alike_flush i j (gate_h q) v w A =
    alike_add (rotate_words (id_z q) 2 i ∷ rotate_words (id_x q) 2 i ∷ rotate_words (id_z q) 2 i ∷ []) (rotate_words (id_z q) 2 j ∷ rotate_words (id_x q) 2 j ∷ rotate_words (id_z q) 2 j ∷ []) v w refl A
alike_flush i j (gate_x q) v w A = alike_add (rotate_words (id_x q) 4 i ∷ []) (rotate_words (id_x q) 4 j ∷ []) v w refl A
alike_flush i j (gate_z q) v w A = alike_add (rotate_words (id_z q) 4 i ∷ []) (rotate_words (id_z q) 4 j ∷ []) v w refl A
alike_flush i j (gate_s q) v w A = alike_add (rotate_words (id_z q) 2 i ∷ []) (rotate_words (id_z q) 2 j ∷ []) v w refl A
alike_flush i j (gate_sdg q) v w A = alike_add (rotate_words (id_z q) 6 i ∷ []) (rotate_words (id_z q) 6 j ∷ []) v w refl A
alike_flush i j (gate_cnot c t) v w A = alike_joint i j (id_z c) (id_x t) v w A
alike_flush i j (gate_cz c t) v w A = alike_joint i j (id_z c) (id_z t) v w A

alike_flushes : (gs hs : List (Placed Gate)) (v w : Words) → bare gs ≡ bare hs → AlikeWords v w → AlikeWords (flush_gates gs v) (flush_gates hs w)
unfolding flush_gates
alike_flushes [] [] v w e A = A
alike_flushes [] (h ∷ hs) v w e A = absurd (omega (arith, ap length e))
alike_flushes (g ∷ gs) [] v w e A = absurd (omega (arith, ap length e))
alike_flushes (g ∷ gs) (h ∷ hs) v w e A =
    let same : g.gate ≡ h.gate = ap (λ l. get_or l 0 g.gate) e in
    alike_flushes gs hs (flush_gate g.index g.gate v) (flush_gate h.index h.gate w) (ap (drop 1) e) (rw same (alike_flush g.index h.index h.gate v w A))

alike_if : (b : Bool) (n : ℕ) (gs hs : List (Placed Gate)) (v w : Words) → bare gs ≡ bare hs → AlikeWords v w → AlikeWords (cond b (flush_words n gs v) v) (cond b (flush_words n hs w) w)
unfolding flush_words
alike_if true n gs hs v w e A =
    let F = alike_flushes gs hs v w e A in
    record { arena = ap (λ (s : Arena). (restarted n (record { arena = s; ops = [] })).arena) F.arena; ops = F.ops }
alike_if false n gs hs v w e A = A

alike_seven : (i j : ℕ) (A B D : Arena → ℕ) (v w : Words) → AlikeWords v w
    → AlikeWords (write_seven i (A v.arena) (B v.arena) (D v.arena) v) (write_seven j (A w.arena) (B w.arena) (D w.arena) w)
unfolding write_seven
alike_seven i j A B D v w E = record {
  arena = ap (λ (s : Arena). four_pushed (A s) (B s) (D s) s) E.arena;
  ops = ops_more v.ops w.ops (seven_ops i (A v.arena) (B v.arena) (D v.arena) v.arena.count) (seven_ops j (A w.arena) (B w.arena) (D w.arena) w.arena.count)
      E.ops (ap (λ (s : Arena). cut (seven_ops i (A s) (B s) (D s) s.count)) E.arena);
}

alike-write : (n given i j : ℕ) (e : Elementary) (v w : Words) → AlikeWords v w → AlikeWords (write n given i e v) (write n given j e w)
unfolding write
alike-write n given i j (clifford g) v w A = record { arena = ap (frame_step n g) A.arena; ops = A.ops }
alike-write n given i j (el_t q) v w A =
    alike_add (rotate_words (word v.arena (n + q)) 1 i ∷ []) (rotate_words (word w.arena (n + q)) 1 j ∷ []) v w (ap (λ (s : Arena). cut (rotate_words (word s (n + q)) 1 i ∷ [])) A.arena) A
alike-write n given i j (el_tdg q) v w A =
    alike_add (rotate_words (word v.arena (n + q)) 7 i ∷ []) (rotate_words (word w.arena (n + q)) 7 j ∷ []) v w (ap (λ (s : Arena). cut (rotate_words (word s (n + q)) 7 i ∷ [])) A.arena) A
alike-write n given i j (el_ccx a b d) v w A = alike_seven i j (λ s. word s (n + a)) (λ s. word s (n + b)) (λ s. word s d) v w A
alike-write n given i j (el_ccz a b d) v w A = alike_seven i j (λ s. word s (n + a)) (λ s. word s (n + b)) (λ s. word s (n + d)) v w A
alike-write n given i j (el_measure q k) v w A =
    alike_add (measure_words (word v.arena (n + q)) given (Bit k) i ∷ []) (measure_words (word w.arena (n + q)) given (Bit k) j ∷ []) v w
    (ap (λ (s : Arena). cut (measure_words (word s (n + q)) given (Bit k) i ∷ [])) A.arena) A

alike_words_with : (n given given' i j : ℕ) (b c : Bool) (x y : Elementary) (gs hs : List (Placed Gate)) (v w : Words) → given ≡ given' → b ≡ c → x ≡ y → bare gs ≡ bare hs → AlikeWords v w
    → AlikeWords (write n given i x (cond b (flush_words n gs v) v)) (write n given' j y (cond c (flush_words n hs w) w))
alike_words_with n given given' i j b c x y gs hs v w eg eb ex h A =
    rw (eg, eb, ex) (alike-write n given' i j y (cond c (flush_words n gs v) v) (cond c (flush_words n hs w) w) (alike_if c n gs hs v w h A))

alike-word-step : (n : ℕ) (cap : Cap) (e f : Placed Elementary) (p q : Plain) (v w : Words) → e.gate ≡ f.gate → Alike p q → AlikeWords v w
    → AlikeWords (word_step n cap e p v) (word_step n cap f q w)
unfolding word_step
alike-word-step n cap e f p q v w h A B =
    alike_words_with n p.given q.given e.index f.index (exceeds n cap p.table e.gate) (exceeds n cap q.table f.gate) e.gate f.gate p.pending q.pending v w
    A.given (λ i. exceeds n cap (A.table i) (h i)) h A.pending B

-- ---- the whole list

record Both (p q : Plain) (v w : Words) : Type 0 where
  plain : Alike p q
  words : AlikeWords v w

alike_run : (n : ℕ) (cap : Cap) (es fs : List (Placed Elementary)) (p q : Plain) (v w : Words) → bare es ≡ bare fs → Both p q v w
    → Both (plain_run flush_from n cap es p) (plain_run flush_from n cap fs q) (word_run n cap es p v) (word_run n cap fs q w)
unfolding plain_run word_run
alike_run n cap [] [] p q v w h B = B
alike_run n cap [] (f ∷ fs) p q v w h B = absurd (omega (arith, ap length h))
alike_run n cap (e ∷ es) [] p q v w h B = absurd (omega (arith, ap length h))
alike_run n cap (e ∷ es) (f ∷ fs) p q v w h B =
    let same : e.gate ≡ f.gate = ap (λ l. get_or l 0 e.gate) h in
    alike_run n cap es fs (plain_step flush_from n cap e p) (plain_step flush_from n cap f q) (word_step n cap e p v) (word_step n cap f q w) (ap (drop 1) h)
    (record { plain = alike-step n cap e f p q same B.plain; words = alike-word-step n cap e f p q v w same B.plain B.words })

same_words : (x : Input) → is_narrow x.cap ≡ true → SameWords x (replaced x)
unfolding gates_in plain_end table_end word_end
same_words x e =
    let h = same-bare (records x.gates) in
    let B = alike_run x.qubits x.cap (lower_all true (records x.gates)) (lower_all true (records (words_of (expanded true (records x.gates))))) (plain_begin x.qubits) (plain_begin x.qubits)
    (start_words x.qubits) (start_words x.qubits) h (record { plain = record { table = refl; pending = refl; given = refl }; words = record { arena = refl; ops = refl } }) in
    record {
      nodes_and_frame = rw e B.words.arena;
      operations = rw e B.words.ops;
      table_same = rw e (ap (λ es. table_run x.qubits x.cap es (start x.qubits)) h);
      measurements = rw e B.plain.given;
    }

-- ---- what is left

gates_pass : (x : Input) → convert_check limits x ≡ Fine → gates_check limits x ≡ Fine
unfolding convert_check room_checked
gates_pass x e = passed_before _ _ _ (passed_before _ _ _ (passed_before _ _ _ e))

same_length : (x y : Input) → SameWords x y → length (word_end x).ops ≡ length (word_end y).ops
same_length x y S = sym (length-map (word_end x).ops (take 4)) ∙ ap length S.operations ∙ length-map (word_end y).ops (take 4)

same_left : (x : Input) → SameWords x (replaced x) → convert_check limits x ≡ Fine → convert_check limits (replaced x) ≡ Fine → SameLeft x (replaced x)
unfolding convert_step convert_within
same_left x S e f = record {
  answer = rw (e, f) (λ i. ConvertedMade (header_of x.qubits x.cbits x.owner (S.nodes_and_frame i).count (same_length x (replaced x) S i) (S.measurements i)));
  nodes = rw (e, f) (ap (λ (s : Arena). overlay s.nodes x.nodes) S.nodes_and_frame);
  frame = rw (e, f) (ap (λ (s : Arena). overlay s.frame x.frame) S.nodes_and_frame);
  planes = rw (e, f, gates_pass x e, gates_pass (replaced x) f) (go x.cap);
}
  where
    go : (cap : Cap) → planes_as cap x ≡ planes_as cap (replaced x)
    go NoCap = refl
    go (AtMost most) = ap (λ (t : List Row). overlay (packed x.qubits t) x.planes) S.table_same

-- ---- the checks

gates_accepted : (x : Input) → gates_check limits x ≡ Fine → length (replaced x).gates ≤ max_gate_words → gates_check limits (replaced x) ≡ Fine
unfolding gates_check gates_checked
gates_accepted x e few =
    let e₁₁ = passed_before _ _ _ e in
    let e₉ = passed_before _ _ _ e₁₁ in
    let e₁ = passed_before _ _ _ (passed-records _ x.qubits x.cbits 0 [] (records x.gates) e₉) in
    passes _ _ _ (passes _ _ _ (go _ _ (passes _ _ _ e₁ (list_fits (expanded true (records x.gates)) few)) e₉) (test_passed _ _ _ e₁₁)) (test_passed _ _ _ e)
  where
    go : (k l : Checked) → l ≡ Fine → records_checked k x.qubits x.cbits 0 [] (records x.gates) ≡ Fine
        → records_checked l x.qubits x.cbits 0 [] (records (replaced x).gates) ≡ Fine
    go k l h e = rw (h, records-words (expanded true (records x.gates))) (expanded-passes k x.qubits x.cbits 0 [] (records x.gates) e 0)

also_accepted : (x : Input) → SameWords x (replaced x) → convert_check limits x ≡ Fine → length (replaced x).gates ≤ max_gate_words → convert_check limits (replaced x) ≡ Fine
unfolding convert_check room_checked
also_accepted x S e₁₅ few =
    let e₁₄ = passed_before _ _ _ e₁₅ in
    let e₁₃ = passed_before _ _ _ e₁₄ in
    passes _ _ _ (passes _ _ _ (passes _ _ _ (gates_accepted x (passed_before _ _ _ e₁₃) few) (test_passed _ _ _ e₁₃))
    (sym (ap (λ (s : Arena). ltb max_nodes s.count || ltb (length x.nodes / node_words) s.count) S.nodes_and_frame) ∙ test_passed _ _ _ e₁₄))
    (sym (ap (λ m. ltb max_operations m || ltb (length x.operations / operation_words) m) (same_length x (replaced x) S)) ∙ test_passed _ _ _ e₁₅)

pub as-replaced : NarrowAsReplaced
as-replaced x e = let S = same_words x e in record { words = S; accepted = also_accepted x S; left = same_left x S }
