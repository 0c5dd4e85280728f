-- The operations that a conversion writes, read back from its operation words.
use mathlib.Core.Path.{◌≡◌, refl, ap, ap₂, sym, ◌∙◌}
use mathlib.Core.Bool.{Bool, true, false, cond}
use mathlib.Core.List.{List, [], ◌∷◌, ◌++◌, map, append_assoc}
use Prim.Native.Nat.{ℕ, suc, ◌+◌, ◌*◌, ◌<◌}
use native.Mathlib.Omega.{arith}
use lib.ListN.{length, get_or, length-append, get_or-append}
use lib.Seq.{get_or-append-add}
use Rattle.pauli.specs.Gates.{Gate, gate_h, gate_x, gate_z, gate_s, gate_sdg, gate_cnot, gate_cz}
use Rattle.arena.specs.Limits.{operation_words}
use Rattle.arena.specs.Operations.{decode_op}
use Rattle.arena.specs.Expansion.{op_at}
use Rattle.convert.specs.Types.{Header}
use Rattle.convert.specs.Records.{Cap, Elementary, clifford, el_t, el_tdg, el_ccx, el_ccz, el_measure, Placed, from}
use Rattle.convert.specs.Plain.{Plain, exceeds, flush_from, plain_step}
use Rattle.convert.specs.Words.{Words, flat, decoded, op_from, ops_from, flush_gate, flush_gates, flush_words, write_seven, write, word_step, word_run}

-- ---- each operation has its five words

abbrev pub AllSized : List (List ℕ) → Type 0
AllSized [] = Unit {0}
AllSized (o ∷ os) = (length o ≡ operation_words) × AllSized os

sized_append : (us vs : List (List ℕ)) → AllSized us → AllSized vs → AllSized (us ++ vs)
sized_append [] vs u v = v
sized_append (o ∷ us) vs u v = (u.0, sized_append us vs u.1 v)

sized_gate : (i : ℕ) (g : Gate) (w : Words) → AllSized w.ops → AllSized (flush_gate i g w).ops
unfolding flush_gate
sized_gate i (gate_h q) w F = sized_append w.ops _ F (refl, (refl, (refl, tt)))
sized_gate i (gate_x q) w F = sized_append w.ops _ F (refl, tt)
sized_gate i (gate_z q) w F = sized_append w.ops _ F (refl, tt)
sized_gate i (gate_s q) w F = sized_append w.ops _ F (refl, tt)
sized_gate i (gate_sdg q) w F = sized_append w.ops _ F (refl, tt)
sized_gate i (gate_cnot c t) w F = sized_append w.ops _ F (refl, (refl, (refl, tt)))
sized_gate i (gate_cz c t) w F = sized_append w.ops _ F (refl, (refl, (refl, tt)))

sized_gates : (gs : List (Placed Gate)) (w : Words) → AllSized w.ops → AllSized (flush_gates gs w).ops
unfolding flush_gates
sized_gates [] w F = F
sized_gates (g ∷ gs) w F = sized_gates gs (flush_gate g.index g.gate w) (sized_gate g.index g.gate w F)

sized-write : (n given i : ℕ) (e : Elementary) (w : Words) → AllSized w.ops → AllSized (write n given i e w).ops
unfolding write write_seven
sized-write n given i (clifford g) w F = F
sized-write n given i (el_t q) w F = sized_append w.ops _ F (refl, tt)
sized-write n given i (el_tdg q) w F = sized_append w.ops _ F (refl, tt)
sized-write n given i (el_ccx a b d) w F = sized_append w.ops _ F (refl, (refl, (refl, (refl, (refl, (refl, (refl, tt)))))))
sized-write n given i (el_ccz a b d) w F = sized_append w.ops _ F (refl, (refl, (refl, (refl, (refl, (refl, (refl, tt)))))))
sized-write n given i (el_measure q k) w F = sized_append w.ops _ F (refl, tt)

pub sized_run : (n : ℕ) (cap : Cap) (es : List (Placed Elementary)) (p : Plain) (w : Words) → AllSized w.ops → AllSized (word_run n cap es p w).ops
unfolding word_run word_step flush_words
sized_run n cap [] p w F = F
sized_run n cap (e ∷ es) p w F = sized_run n cap es (plain_step flush_from n cap e p) _ (go (exceeds n cap p.table e.gate))
  where
    go : (b : Bool) → AllSized (write n p.given e.index e.gate (cond b (flush_words n p.pending w) w)).ops
    go true = sized-write n p.given e.index e.gate (flush_words n p.pending w) (sized_gates p.pending w F)
    go false = sized-write n p.given e.index e.gate w F

pub length-flat : (ops : List (List ℕ)) → AllSized ops → length (flat ops) ≡ operation_words * length ops
length-flat [] F = refl
length-flat (o ∷ ops) F = length-append o (flat ops) ∙ omega (arith, F.0, length-flat ops F.1)

-- ---- reading

module _ (h : Header) where
  op_at_lem : (before o after : List ℕ) (i : ℕ) → length before ≡ operation_words * i → length o ≡ operation_words → op_from h (before ++ (o ++ after)) i ≡ decoded h.owner h.cbits o
  unfolding op_at
  op_at_lem before o after i e size = λ t. from (word 4 (operation_words * i + 4) (omega arith) (omega arith) t)
      (decode_op h.owner h.cbits (word 0 (operation_words * i) (omega arith) (omega arith) t) (word 1 (operation_words * i + 1) (omega arith) (omega arith) t)
      (word 2 (operation_words * i + 2) (omega arith) (omega arith) t) (word 3 (operation_words * i + 3) (omega arith) (omega arith) t))
    where
      word : (j k : ℕ) → k ≡ length before + j → j < length o → get_or (before ++ (o ++ after)) k 0 ≡ get_or o j 0
      word j k at lt = ap (λ m. get_or (before ++ (o ++ after)) m 0) at ∙ get_or-append-add before (o ++ after) j 0 ∙ get_or-append o after 0 j lt

  ops_at : (before : List ℕ) (ops : List (List ℕ)) (after : List ℕ) (i : ℕ) → length before ≡ operation_words * i → AllSized ops
      → ops_from (op_from h (before ++ (flat ops ++ after))) i (length ops) ≡ map (decoded h.owner h.cbits) ops
  ops_at before [] after i e F = refl
  ops_at before (o ∷ ops) after i e F = ap₂ ◌∷◌
      (ap (λ l. op_from h (before ++ l) i) (append_assoc o (flat ops) after) ∙ op_at_lem before o (flat ops ++ after) i e F.0)
      (ap (λ l. ops_from (op_from h l) (suc i) (length ops)) (ap (λ l. before ++ l) (append_assoc o (flat ops) after) ∙ sym (append_assoc before o (flat ops ++ after)))
      ∙ ops_at (before ++ o) ops after (suc i) (length-append before o ∙ omega (arith, F.0)) F.1)

  pub ops_read : (ops : List (List ℕ)) (after : List ℕ) → AllSized ops → ops_from (op_from h (flat ops ++ after)) 0 (length ops) ≡ map (decoded h.owner h.cbits) ops
  ops_read ops after F = ops_at [] ops after 0 refl F
