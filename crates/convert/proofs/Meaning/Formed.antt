-- No node that a frame gate or a conversion writes is malformed.
use mathlib.Core.Path.{◌≡◌, ◌∙◌}
use mathlib.Core.Bool.{Bool, true, false, cond}
use mathlib.Core.List.{List, [], ◌∷◌}
use Prim.Native.Nat.{ℕ, ◌+◌, ◌*◌, ◌<◌}
use native.Mathlib.Omega.{arith}
use lib.ListN.{length, length-append}
use Rattle.pauli.specs.Rows.{Row}
use Rattle.pauli.specs.Gates.{Gate, gate_h, gate_x, gate_z, gate_s, gate_sdg, gate_cnot, gate_cz, Valid, AllValid}
use Rattle.arena.specs.Nodes.{product_word, node_at}
use Rattle.arena.specs.Expansion.{any_malformed}
use Rattle.arena.proofs.Overlay.{length-qubit_nodes}
use Rattle.arena.proofs.Readable.{formed_more, product_formed, formed_start}
use Rattle.convert.specs.Types.{Phase, One, PlusI, MinusI}
use Rattle.convert.specs.Records.{Cap, Elementary, clifford, el_t, el_tdg, el_ccx, el_ccz, el_measure, Placed, bare, Proper, AllProper}
use Rattle.convert.specs.Plain.{Plain, plain_begin, exceeds, flush_from, plain_step}
use Rattle.convert.specs.Frame.{Arena, start_arena, word, pushed, multiplied, frame_step, frame_run}
use Rattle.convert.specs.Words.{Words, start_words, id_x, id_z, flush_gate, flush_gates, flush_words, four_pushed, write_seven, write, word_step, word_run}
use Rattle.convert.proofs.Meaning.FrameRows.{Shows, word-under, shows-multiplied, shows-step}
use Rattle.convert.proofs.Meaning.Words.{Meant, meant_begin, meant-flushed, meant-step}

-- two words a used node, none of them malformed
pub record Formed (n : ℕ) (s : Arena) : Type 0 where
  pub even : length s.nodes ≡ 2 * s.count
  pub formed : any_malformed (node_at n s.nodes) s.count ≡ false

formed-pushed : (n : ℕ) (s : Arena) (l r : ℕ) → l < 4 * s.count → r < 4 * s.count → Formed n s → Formed n (pushed l r s)
unfolding pushed
formed-pushed n s l r hl hr F = record {
  even = length-append s.nodes (product_word l ∷ r ∷ []) ∙ omega (arith, F.even);
  formed = formed_more n s.count s.nodes (product_word l) r [] F.even F.formed (product_formed n s.count l r (omega arith) (omega arith));
}

-- ---- frame gates

formed-multiplied : (n : ℕ) (s : Arena) (t : List Row) → Shows n s t → (i l r : ℕ) (p : Phase) → Formed n s → Formed n (multiplied i l r p s)
unfolding multiplied
formed-multiplied n s t S i l r p F =
    let P = formed-pushed n s (word s l) (word s r) (word-under n s t S l) (word-under n s t S r) F in
    record { even = P.even; formed = P.formed }

formed_step : (n : ℕ) (s : Arena) (t : List Row) → Shows n s t → (g : Gate) → Valid n g → Formed n s → Formed n (frame_step n g s)
unfolding frame_step
formed_step n s t S (gate_h q) v F = record { even = F.even; formed = F.formed }
formed_step n s t S (gate_x q) v F = record { even = F.even; formed = F.formed }
formed_step n s t S (gate_z q) v F = record { even = F.even; formed = F.formed }
formed_step n s t S (gate_s q) v F = formed-multiplied n s t S q q (n + q) MinusI F
formed_step n s t S (gate_sdg q) v F = formed-multiplied n s t S q q (n + q) PlusI F
formed_step n s t S (gate_cnot c u) v F =
    formed-multiplied n (multiplied c c u One s) _ (shows-multiplied n s t S c c u One (omega (arith, v.0)) (omega (arith, v.1))) (n + u) (n + c) (n + u) One
    (formed-multiplied n s t S c c u One F)
formed_step n s t S (gate_cz c u) v F =
    formed-multiplied n (multiplied c c (n + u) One s) _ (shows-multiplied n s t S c c (n + u) One (omega (arith, v.0)) (omega (arith, v.1))) u (n + c) u One
    (formed-multiplied n s t S c c (n + u) One F)

pub formed_run : (n : ℕ) (gs : List Gate) (s : Arena) (t : List Row) → AllValid n gs → Shows n s t → Formed n s → Formed n (frame_run n gs s)
unfolding frame_run
formed_run n [] s t v S F = F
formed_run n (g ∷ gs) s t v S F = formed_run n gs (frame_step n g s) _ v.1 (shows-step n s t S g v.0) (formed_step n s t S g v.0 F)

-- ---- a flush

flush_gate_lem : (n i : ℕ) (g : Gate) (w : Words) → Valid n g → 2 * n < w.arena.count → Formed n w.arena
    → Formed n (flush_gate i g w).arena × (2 * n < (flush_gate i g w).arena.count)
unfolding flush_gate pushed
flush_gate_lem n i (gate_h q) w v lt F = (F, lt)
flush_gate_lem n i (gate_x q) w v lt F = (F, lt)
flush_gate_lem n i (gate_z q) w v lt F = (F, lt)
flush_gate_lem n i (gate_s q) w v lt F = (F, lt)
flush_gate_lem n i (gate_sdg q) w v lt F = (F, lt)
flush_gate_lem n i (gate_cnot c t) w v lt F = (formed-pushed n w.arena (id_z c) (id_x t) (omega (arith, v.0)) (omega (arith, v.1)) F, omega arith)
flush_gate_lem n i (gate_cz c t) w v lt F = (formed-pushed n w.arena (id_z c) (id_z t) (omega (arith, v.0)) (omega (arith, v.1)) F, omega arith)

flush_gates_lem : (n : ℕ) (gs : List (Placed Gate)) (w : Words) → AllValid n (bare gs) → 2 * n < w.arena.count → Formed n w.arena → Formed n (flush_gates gs w).arena
unfolding flush_gates
flush_gates_lem n [] w v lt F = F
flush_gates_lem n (g ∷ gs) w v lt F = let G = flush_gate_lem n g.index g.gate w v.0 lt F in flush_gates_lem n gs (flush_gate g.index g.gate w) v.1 G.1 G.0

flush_words_lem : (n : ℕ) (gs : List (Placed Gate)) (w : Words) → AllValid n (bare gs) → 2 * n < w.arena.count → Formed n w.arena → Formed n (flush_words n gs w).arena
unfolding flush_words
flush_words_lem n gs w v lt F = let G = flush_gates_lem n gs w v lt F in record { even = G.even; formed = G.formed }

-- ---- the conversion

formed_four : (n : ℕ) (s : Arena) (a b d : ℕ) → a < 4 * s.count → b < 4 * s.count → d < 4 * s.count → Formed n s → Formed n (four_pushed a b d s)
unfolding pushed
formed_four n s a b d ha hb hd F =
    formed-pushed n (pushed b d (pushed a d (pushed a b s))) (4 * s.count) d (omega arith) (omega arith)
    (formed-pushed n (pushed a d (pushed a b s)) b d (omega arith) (omega arith)
    (formed-pushed n (pushed a b s) a d (omega arith) (omega arith)
    (formed-pushed n s a b ha hb F)))

formed-write : (n c given i : ℕ) (e : Elementary) (w : Words) (t : List Row) → Shows n w.arena t → Proper n c e → Formed n w.arena → Formed n (write n given i e w).arena
unfolding write write_seven
formed-write n c given i (clifford g) w t S v F = formed_step n w.arena t S g v F
formed-write n c given i (el_t q) w t S v F = F
formed-write n c given i (el_tdg q) w t S v F = F
formed-write n c given i (el_ccx a b d) w t S v F =
    formed_four n w.arena _ _ _ (word-under n w.arena t S (n + a)) (word-under n w.arena t S (n + b)) (word-under n w.arena t S d) F
formed-write n c given i (el_ccz a b d) w t S v F =
    formed_four n w.arena _ _ _ (word-under n w.arena t S (n + a)) (word-under n w.arena t S (n + b)) (word-under n w.arena t S (n + d)) F
formed-write n c given i (el_measure q k) w t S v F = F

words_run : (n o c : ℕ) (cap : Cap) (es : List (Placed Elementary)) (p : Plain) (w : Words) → AllProper n c (bare es) → Meant n o c p w → Formed n w.arena
    → Formed n (word_run n cap es p w).arena
unfolding word_run word_step
words_run n o c cap [] p w v M F = F
words_run n o c cap (e ∷ es) p w v M F =
    words_run n o c cap es (plain_step flush_from n cap e p) (word_step n cap e p w) v.1 (meant-step n o c cap e p w v.0 M) (go (exceeds n cap p.table e.gate))
  where
    go : (b : Bool) → Formed n (write n p.given e.index e.gate (cond b (flush_words n p.pending w) w)).arena
    go true = formed-write n c p.given e.index e.gate (flush_words n p.pending w) _ (meant-flushed n o c p w M).core.shows v.0
        (flush_words_lem n p.pending w M.valid M.core.leaves.size F)
    go false = formed-write n c p.given e.index e.gate w p.table M.core.shows v.0 F

formed_begin : (n : ℕ) → Formed n (start_words n).arena
unfolding start_words start_arena
formed_begin n = record { even = omega (arith, length-qubit_nodes n); formed = formed_start n }

pub formed_words : (n c : ℕ) (cap : Cap) (es : List (Placed Elementary)) → AllProper n c (bare es) → Formed n (word_run n cap es (plain_begin n) (start_words n)).arena
formed_words n c cap es v = words_run n 0 c cap es (plain_begin n) (start_words n) v (meant_begin n 0 c) (formed_begin n)
