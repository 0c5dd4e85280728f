-- The lent buffers stand for the words of a conversion; what a flush, frame gates and a record's operations keep of that.
use mathlib.Core.Path.{◌≡◌, refl, sym, ap, ◌∙◌}
use mathlib.Core.Bool.{Bool, true, false, cond}
use mathlib.Core.List.{List, [], ◌∷◌, ◌++◌}
use Prim.Native.Nat.{ℕ, suc, ◌+◌, ◌*◌, ◌<◌, ◌≤◌}
use native.Mathlib.Omega.{arith}
use lib.ListN.{length, get_or, drop, length-append, get_or-append}
use lib.Seq.{drop_at}
use Rattle.pauli.specs.Gates.{Gate, AllValid}
use Rattle.arena.specs.Operations.{rotate_words, measure_words}
use Rattle.arena.specs.Builder.{overlay, start_frame}
use Rattle.arena.proofs.Overlay.{length-image_words}
use Rattle.convert.specs.Types.{Bit}
use Rattle.convert.specs.Records.{GateKind, KindH, KindX, KindZ, KindS, KindSdg, KindT, KindTdg, KindCnot, KindCz, KindCcx, KindCcz, KindMeasure, KindY, KindSx, KindSwap, KindCy, Unsupported, Placed, el_t, el_tdg, el_ccx, el_ccz, el_measure, lower_as, AllProper}
use Rattle.arena.specs.Limits.{max_cbits, operation_words}
use Rattle.convert.specs.Frame.{Arena, word, pushed, frame_run, gate_nodes, total}
use Rattle.convert.specs.Words.{Words, flush_gates, flush_words, four_pushed, seven_ops, write_seven, write}
use Rattle.convert.specs.Code.Raw.{arena, put_run, Ran, Writing, writing, put_node, Flushed, put_flushes, FlushedIf, put_rows, put_four, put_seven, put_record, flushed_nodes, flushed_ops, record_gates, cost_of, lone_nodes}
use Rattle.convert.specs.Code.Writing.{unplaced, Stands}
use Rattle.convert.proofs.Counts.RecordSteps.{framed, write_record}
use Rattle.convert.proofs.Buffers.Words.{laid, even_run, put_run_lem, lying, Square, put_all, Sized, put_all_lem, square_all, noded, put_node_lem, square_node, flushes-lying}

square_of : {n : ℕ} {ns₀ fs₀ os₀ : List ℕ} {c : ℕ} {ns fs : List ℕ} {u : ℕ} {os : List ℕ} {w : Words} → Stands n ns₀ fs₀ os₀ c ns fs u os w → Square w
square_of s = record { nodes = s.even.nodes; ops = s.sized }

pub stands_frames : (n : ℕ) (gs : List Gate) (ns₀ fs₀ os₀ : List ℕ) (c : ℕ) (ns fs : List ℕ) (u : ℕ) (os : List ℕ) (w : Words) (c' : ℕ) (ns' fs' : List ℕ)
    → Stands n ns₀ fs₀ os₀ c ns fs u os w → Ran n gs c ns fs c' ns' fs' → AllValid n gs → 2 * (c + total gate_nodes gs) ≤ length ns₀
    → Stands n ns₀ fs₀ os₀ c' ns' fs' u os (framed n gs w)
stands_frames n gs ns₀ fs₀ os₀ c ns fs u os w c' ns' fs' s r v room =
    let a : arena c ns fs ≡ laid ns₀ fs₀ w.arena = rw (s.count, s.nodes, s.frame) in
    let room₂ : 2 * (w.arena.count + total gate_nodes gs) ≤ length ns₀ = rw s.count at room in
    let e : arena c' ns' fs' ≡ laid ns₀ fs₀ (frame_run n gs w.arena) = r.same ∙ ap (put_run n gs) a ∙ put_run_lem n gs ns₀ fs₀ w.arena s.even v room₂ in
    record {
      count = ap (λ (x : Arena). x.count) e;
      nodes = ap (λ (x : Arena). x.nodes) e;
      frame = ap (λ (x : Arena). x.frame) e;
      used = s.used;
      operations = s.operations;
      even = even_run n gs w.arena s.even;
      sized = s.sized;
    }

-- what the operations leave, read from one equation
stands-writing : (n : ℕ) (ns₀ fs₀ os₀ : List ℕ) (c' : ℕ) (ns' fs : List ℕ) (u' : ℕ) (os' : List ℕ) (w w' : Words) → writing c' ns' u' os' ≡ lying ns₀ os₀ w' → Square w'
    → fs ≡ overlay w'.arena.frame fs₀ → length w'.arena.frame ≡ n + n → Stands n ns₀ fs₀ os₀ c' ns' fs u' os' w'
stands-writing n ns₀ fs₀ os₀ c' ns' fs u' os' w w' e q f len = record {
  count = ap (λ (x : Writing). x.count) e;
  nodes = ap (λ (x : Writing). x.nodes) e;
  frame = f;
  used = ap (λ (x : Writing). x.used) e;
  operations = ap (λ (x : Writing). x.operations) e;
  even = record { nodes = q.nodes; frame = len };
  sized = q.ops;
}

open-writing : {n : ℕ} {ns₀ fs₀ os₀ : List ℕ} {c : ℕ} {ns fs : List ℕ} {u : ℕ} {os : List ℕ} {w : Words} → Stands n ns₀ fs₀ os₀ c ns fs u os w → writing c ns u os ≡ lying ns₀ os₀ w
open-writing s = rw (s.count, s.nodes, s.used, s.operations)

pub length-start : (n : ℕ) → length (start_frame n) ≡ n + n
length-start n = rw (length-append, length-image_words 1 n, length-image_words 2 n)

pub overlay-again : (us vs ws : List ℕ) → length us ≡ length vs → overlay us (overlay vs ws) ≡ overlay us ws
overlay-again us vs ws e = ap (λ (l : List ℕ). us ++ l) (drop_at vs (drop (length vs) ws) (length us) (sym e) ∙ rw e)

pub stands_flush : (n : ℕ) (gs : List (Placed Gate)) (ns₀ fs₀ os₀ : List ℕ) (c : ℕ) (ns fs : List ℕ) (u : ℕ) (os : List ℕ) (w : Words) (c' : ℕ) (ns' fs' : List ℕ) (u' : ℕ) (os' : List ℕ)
    → Stands n ns₀ fs₀ os₀ c ns fs u os w → Flushed (unplaced gs) c ns u os c' ns' u' os' → fs' ≡ overlay (start_frame n) fs
    → 2 * (c + flushed_nodes (unplaced gs)) ≤ length ns₀ → operation_words * (u + flushed_ops (unplaced gs)) ≤ length os₀
    → Stands n ns₀ fs₀ os₀ c' ns' fs' u' os' (flush_words n gs w)
unfolding flush_words
stands_flush n gs ns₀ fs₀ os₀ c ns fs u os w c' ns' fs' u' os' s d f rn ro =
    let rn₂ : 2 * (w.arena.count + flushed_nodes (unplaced gs)) ≤ length ns₀ = rw s.count at rn in
    let ro₂ : operation_words * (length w.ops + flushed_ops (unplaced gs)) ≤ length os₀ = rw s.used at ro in
    let l = flushes-lying ns₀ os₀ gs w (square_of s) rn₂ ro₂ in
    let e : writing c' ns' u' os' ≡ lying ns₀ os₀ (flush_gates gs w) = d.same ∙ ap (put_flushes (unplaced gs)) (open-writing s) ∙ l.0 in
    let len = length-start n in
    stands-writing n ns₀ fs₀ os₀ c' ns' fs' u' os' w (flush_words n gs w) e (record { nodes = l.1.nodes; ops = l.1.ops })
    (f ∙ ap (overlay (start_frame n)) s.frame ∙ overlay-again (start_frame n) w.arena.frame fs₀ (len ∙ sym s.even.frame)) len

pub stands_if : (f : Bool) (n : ℕ) (gs : List (Placed Gate)) (ns₀ fs₀ os₀ : List ℕ) (c : ℕ) (ns fs : List ℕ) (u : ℕ) (os : List ℕ) (w : Words) (c' : ℕ) (ns' fs' : List ℕ) (u' : ℕ) (os' : List ℕ)
    → Stands n ns₀ fs₀ os₀ c ns fs u os w → FlushedIf f n (unplaced gs) c ns fs u os c' ns' fs' u' os'
    → 2 * (c + cond f (flushed_nodes (unplaced gs)) 0) ≤ length ns₀ → operation_words * (u + cond f (flushed_ops (unplaced gs)) 0) ≤ length os₀
    → Stands n ns₀ fs₀ os₀ c' ns' fs' u' os' (cond f (flush_words n gs w) w)
stands_if true n gs ns₀ fs₀ os₀ c ns fs u os w c' ns' fs' u' os' s d rn ro = stands_flush n gs ns₀ fs₀ os₀ c ns fs u os w c' ns' fs' u' os' s (d.is refl) (d.frame refl) rn ro
stands_if false n gs ns₀ fs₀ os₀ c ns fs u os w c' ns' fs' u' os' s d rn ro =
    let k = d.not refl in
    record {
      count = k.0 ∙ s.count;
      nodes = k.1 ∙ s.nodes;
      frame = k.2 ∙ s.frame;
      used = k.3 ∙ s.used;
      operations = k.4 ∙ s.operations;
      even = s.even;
      sized = s.sized;
    }

-- ---- operations

-- ccx and ccz
rows_all : (i a b d k : ℕ) (s : Writing) → put_rows i 7 a b d k s ≡ put_all (seven_ops i a b d k) s
unfolding put_rows put_all
rows_all i a b d k s =
    let e₁ : k + 1 ≡ suc k = omega arith in
    let e₂ : k + 2 ≡ suc (suc k) = omega arith in
    let e₃ : k + 3 ≡ suc (suc (suc k)) = omega arith in
    rw (e₁, e₂, e₃)

abbrev four : ℕ → ℕ → ℕ → Words → Words
four a b d w = record { arena = four_pushed a b d w.arena; ops = w.ops }

four-lying : (ns os : List ℕ) (a b d : ℕ) (w : Words) → Square w → 2 * (w.arena.count + 4) ≤ length ns
    → (put_four a b d (lying ns os w) ≡ lying ns os (four a b d w)) × Square (four a b d w)
unfolding put_four pushed
four-lying ns os a b d w q room =
    let w₁ = noded a b w in
    let q₁ = square_node w a b q in
    let w₂ = noded a d w₁ in
    let q₂ = square_node w₁ a d q₁ in
    let w₃ = noded b d w₂ in
    let q₃ = square_node w₂ b d q₂ in (
      ap (λ (s : Writing). put_node (4 * w.arena.count) d (put_node b d (put_node a d s))) (put_node_lem ns os w a b q (omega arith))
          ∙ ap (λ (s : Writing). put_node (4 * w.arena.count) d (put_node b d s)) (put_node_lem ns os w₁ a d q₁ (omega arith))
          ∙ ap (λ (s : Writing). put_node (4 * w.arena.count) d s) (put_node_lem ns os w₂ b d q₂ (omega arith))
          ∙ put_node_lem ns os w₃ (4 * w.arena.count) d q₃ (omega arith),
      square_node w₃ (4 * w.arena.count) d q₃,
    )

seven-lying : (ns os : List ℕ) (i a b d : ℕ) (w : Words) → Square w → 2 * (w.arena.count + 4) ≤ length ns → operation_words * (length w.ops + 7) ≤ length os
    → (put_seven i a b d (lying ns os w) ≡ lying ns os (write_seven i a b d w)) × Square (write_seven i a b d w)
unfolding put_seven write_seven
seven-lying ns os i a b d w q rn ro =
    let f = four-lying ns os a b d w q rn in
    let k = w.arena.count in
    let F : Sized (seven_ops i a b d k) = (refl, (refl, (refl, (refl, (refl, (refl, (refl, tt))))))) in (
      ap (put_rows i 7 a b d k) f.0 ∙ rows_all i a b d k (lying ns os (four a b d w)) ∙ put_all_lem ns os (seven_ops i a b d k) (four a b d w) f.1 F ro,
      square_all (seven_ops i a b d k) (four a b d w) f.1 F,
    )

-- what record i writes that is no frame gate
unfoldable pub write_lone : ℕ → ℕ → ℕ → GateKind → ℕ → ℕ → ℕ → Words → Words
write_lone n given i KindH a b d w = w
write_lone n given i KindX a b d w = w
write_lone n given i KindZ a b d w = w
write_lone n given i KindS a b d w = w
write_lone n given i KindSdg a b d w = w
write_lone n given i KindT a b d w = write n given i (el_t a) w
write_lone n given i KindTdg a b d w = write n given i (el_tdg a) w
write_lone n given i KindCnot a b d w = w
write_lone n given i KindCz a b d w = w
write_lone n given i KindCcx a b d w = write n given i (el_ccx a b d) w
write_lone n given i KindCcz a b d w = write n given i (el_ccz a b d) w
write_lone n given i KindMeasure a b d w = write n given i (el_measure a b) w
write_lone n given i KindY a b d w = w
write_lone n given i KindSx a b d w = w
write_lone n given i KindSwap a b d w = w
write_lone n given i KindCy a b d w = w
write_lone n given i Unsupported a b d w = w

pub lone_after : (n given i : ℕ) (kind : GateKind) (a b d : ℕ) (w : Words) → write_record n given i kind a b d w ≡ write_lone n given i kind a b d (framed n (record_gates kind a b) w)
unfolding write_record write_lone record_gates frame_run lower_as
lone_after n given i KindH a b d w = refl
lone_after n given i KindX a b d w = refl
lone_after n given i KindZ a b d w = refl
lone_after n given i KindS a b d w = refl
lone_after n given i KindSdg a b d w = refl
lone_after n given i KindT a b d w = refl
lone_after n given i KindTdg a b d w = refl
lone_after n given i KindCnot a b d w = refl
lone_after n given i KindCz a b d w = refl
lone_after n given i KindCcx a b d w = refl
lone_after n given i KindCcz a b d w = refl
lone_after n given i KindMeasure a b d w = refl
lone_after n given i KindY a b d w = refl
lone_after n given i KindSx a b d w = refl
lone_after n given i KindSwap a b d w = refl
lone_after n given i KindCy a b d w = refl
lone_after n given i Unsupported a b d w = refl

record-lying : (n given i : ℕ) (ns os fs : List ℕ) (kind : GateKind) (a b d : ℕ) (w : Words) → Square w → AllProper n max_cbits (lower_as kind a b d)
    → 2 * (w.arena.count + lone_nodes kind) ≤ length ns → operation_words * (length w.ops + (cost_of kind).operations) ≤ length os
    → ((i : ℕ) → i < n + n → get_or fs i 0 ≡ word w.arena i)
    → (put_record n given i kind a b d fs (lying ns os w) ≡ lying ns os (write_lone n given i kind a b d w)) × Square (write_lone n given i kind a b d w)
unfolding cost_of put_record write_lone write put_all lower_as
record-lying n given i ns os fs KindH a b d w q v rn ro f = (refl, q)
record-lying n given i ns os fs KindX a b d w q v rn ro f = (refl, q)
record-lying n given i ns os fs KindZ a b d w q v rn ro f = (refl, q)
record-lying n given i ns os fs KindS a b d w q v rn ro f = (refl, q)
record-lying n given i ns os fs KindSdg a b d w q v rn ro f = (refl, q)
record-lying n given i ns os fs KindT a b d w q v rn ro f =
    let vs = rotate_words (word w.arena (n + a)) 1 i ∷ [] in
    let h = v.0 in
    rw (f (n + a) (omega arith)) (put_all_lem ns os vs w q (refl, tt) (omega arith), square_all vs w q (refl, tt))
record-lying n given i ns os fs KindTdg a b d w q v rn ro f =
    let vs = rotate_words (word w.arena (n + a)) 7 i ∷ [] in
    let h = v.0 in
    rw (f (n + a) (omega arith)) (put_all_lem ns os vs w q (refl, tt) (omega arith), square_all vs w q (refl, tt))
record-lying n given i ns os fs KindCnot a b d w q v rn ro f = (refl, q)
record-lying n given i ns os fs KindCz a b d w q v rn ro f = (refl, q)
record-lying n given i ns os fs KindCcx a b d w q v rn ro f =
    let ha = v.0.0 in
    let hb = v.0.1 in
    let hd = v.0.2 in
    rw (f (n + a) (omega arith), f (n + b) (omega arith), f d (omega arith))
    (seven-lying ns os i (word w.arena (n + a)) (word w.arena (n + b)) (word w.arena d) w q rn ro)
record-lying n given i ns os fs KindCcz a b d w q v rn ro f =
    let ha = v.0.0 in
    let hb = v.0.1 in
    let hd = v.0.2 in
    rw (f (n + a) (omega arith), f (n + b) (omega arith), f (n + d) (omega arith))
    (seven-lying ns os i (word w.arena (n + a)) (word w.arena (n + b)) (word w.arena (n + d)) w q rn ro)
record-lying n given i ns os fs KindMeasure a b d w q v rn ro f =
    let vs = measure_words (word w.arena (n + a)) given (Bit b) i ∷ [] in
    let h = v.0.0 in
    rw (f (n + a) (omega arith)) (put_all_lem ns os vs w q (refl, tt) (omega arith), square_all vs w q (refl, tt))
record-lying n given i ns os fs KindY a b d w q v rn ro f = (refl, q)
record-lying n given i ns os fs KindSx a b d w q v rn ro f = (refl, q)
record-lying n given i ns os fs KindSwap a b d w q v rn ro f = (refl, q)
record-lying n given i ns os fs KindCy a b d w q v rn ro f = (refl, q)
record-lying n given i ns os fs Unsupported a b d w q v rn ro f = (refl, q)

lone_frame : (n given i : ℕ) (kind : GateKind) (a b d : ℕ) (w : Words) → (write_lone n given i kind a b d w).arena.frame ≡ w.arena.frame
unfolding write_lone write write_seven pushed
lone_frame n given i KindH a b d w = refl
lone_frame n given i KindX a b d w = refl
lone_frame n given i KindZ a b d w = refl
lone_frame n given i KindS a b d w = refl
lone_frame n given i KindSdg a b d w = refl
lone_frame n given i KindT a b d w = refl
lone_frame n given i KindTdg a b d w = refl
lone_frame n given i KindCnot a b d w = refl
lone_frame n given i KindCz a b d w = refl
lone_frame n given i KindCcx a b d w = refl
lone_frame n given i KindCcz a b d w = refl
lone_frame n given i KindMeasure a b d w = refl
lone_frame n given i KindY a b d w = refl
lone_frame n given i KindSx a b d w = refl
lone_frame n given i KindSwap a b d w = refl
lone_frame n given i KindCy a b d w = refl
lone_frame n given i Unsupported a b d w = refl

pub stands_record : (n given i : ℕ) (kind : GateKind) (a b d : ℕ) (ns₀ fs₀ os₀ : List ℕ) (c : ℕ) (ns fs : List ℕ) (u : ℕ) (os : List ℕ) (w : Words) (c' : ℕ) (ns' : List ℕ) (u' : ℕ) (os' : List ℕ)
    → Stands n ns₀ fs₀ os₀ c ns fs u os w → AllProper n max_cbits (lower_as kind a b d) → writing c' ns' u' os' ≡ put_record n given i kind a b d fs (writing c ns u os)
    → 2 * (c + lone_nodes kind) ≤ length ns₀ → operation_words * (u + (cost_of kind).operations) ≤ length os₀
    → Stands n ns₀ fs₀ os₀ c' ns' fs u' os' (write_lone n given i kind a b d w)
stands_record n given i kind a b d ns₀ fs₀ os₀ c ns fs u os w c' ns' u' os' s v e rn ro =
    let rn₂ : 2 * (w.arena.count + lone_nodes kind) ≤ length ns₀ = rw s.count at rn in
    let ro₂ : operation_words * (length w.ops + (cost_of kind).operations) ≤ length os₀ = rw s.used at ro in
    let words : (i : ℕ) → i < n + n → get_or fs i 0 ≡ word w.arena i = λ i h. ap (λ (l : List ℕ). get_or l i 0) s.frame ∙ get_or-append w.arena.frame (drop (length w.arena.frame) fs₀) 0 i (omega (arith, s.even.frame, h)) in
    let l = record-lying n given i ns₀ os₀ fs kind a b d w (square_of s) v rn₂ ro₂ words in
    stands-writing n ns₀ fs₀ os₀ c' ns' fs u' os' w (write_lone n given i kind a b d w) (e ∙ ap (put_record n given i kind a b d fs) (open-writing s) ∙ l.0) l.1
    (s.frame ∙ ap (λ (x : List ℕ). overlay x fs₀) (sym (lone_frame n given i kind a b d w))) (ap length (lone_frame n given i kind a b d w) ∙ s.even.frame)
