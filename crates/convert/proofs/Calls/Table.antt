-- After a conversion and every later call the frame words stand for the plain table.
use mathlib.Core.Path.{◌≡◌, refl, ap, ap₂, sym, ◌∙◌, subst}
use mathlib.Core.List.{List, [], ◌∷◌, ◌++◌, append-nil, append_assoc}
use Prim.Native.Nat.{ℕ, ◌+◌, ◌*◌, ◌/◌, ◌≤◌}
use native.Mathlib.Numerals.{add-one}
use native.Mathlib.Omega.{arith}
use lib.ListN.{length, take, drop, length-append, take-append-drop}
use lib.Seq.{sets, take_at, length-take-le}
use Rattle.pauli.specs.Rows.{Row}
use Rattle.pauli.specs.Gates.{Gate, AllValid}
use Rattle.pauli.specs.Table.{start, step, run, table}
use Rattle.arena.specs.Limits.{node_words}
use Rattle.arena.specs.Nodes.{single_word, product_word}
use Rattle.arena.specs.Builder.{overlay, with_nodes, node_put, single_check, single_step, product_check, product_step, rotate_check, rotate_step, measure_check, measure_step, conditional_check, conditional_step}
use Rattle.arena.proofs.Overlay.{overlay-sets}
use Rattle.arena.proofs.Accepted.{fits_single, fits_product}
use Rattle.convert.specs.Types.{Pauli, I, X, Y, Z, PauliAngle, Header, PauliRef, PauliAxis, MeasId, Target, PbcError, Checked, Fine, Wrong}
use Rattle.convert.specs.Records.{kind_of, bare}
use Rattle.convert.specs.Plain.{flush_from}
use Rattle.convert.specs.Frame.{Arena, frame_step, frame_run, frame_gates, clifford_check, opened, clifford_step}
use Rattle.convert.specs.Conversion.{limits, Input, gates_in, plain_end, paper_end, word_end, gates_check, convert_check, planes_after, converted_header, convert_as, convert_within, convert_step}
use Rattle.convert.specs.Later.{Circuit, circuit_of, converted, LaterCall, call_frame, call_single, call_product, call_rotate, call_measure, call_conditional, call_expand, call_hermitian, call_weights}
use Rattle.convert.specs.Later.{lend_operations, later, laters, gates_of, fed}
use Rattle.convert.proofs.Meaning.FrameRows.{appended, Shows, shows-appended, shows-step}
use Rattle.convert.proofs.Meaning.Words.{Meant, meant, valid_append}
use Rattle.convert.proofs.Meaning.Papers.{Agrees, agrees}
use Rattle.convert.proofs.Accepted.{accepted, fits_gate}

-- the frame words of the circuit stand for t, the table of the gates gs
pub record Good (n : ℕ) (s : Circuit) (t : List Row) (gs : List Gate) : Type 0 where
  pub qubits : s.header.qubits ≡ n
  pub shows : Shows n (opened s.header s.nodes s.frame) t
  pub valid : AllValid n gs
  pub table_of : t ≡ table n gs

-- ---- what is written is read back

pub opened-overlay : (a : Arena) (h : Header) (nodes frame : List ℕ) → h.nodes ≡ a.count → length a.nodes ≡ 2 * a.count → length a.frame ≡ 2 * h.qubits
    → opened h (overlay a.nodes nodes) (overlay a.frame frame) ≡ a
opened-overlay a h nodes frame count even size = λ i. record {
  count = count i;
  nodes = take_at a.nodes (drop (length a.nodes) nodes) (2 * h.nodes) (even ∙ ap (λ m. 2 * m) (sym count)) i;
  frame = take_at a.frame (drop (length a.frame) frame) (2 * h.qubits) size i;
}

overlay-same : (k : ℕ) (ws : List ℕ) → k ≤ length ws → overlay (take k ws) ws ≡ ws
overlay-same k ws le = ap (λ m. take k ws ++ drop m ws) (length-take-le k ws le) ∙ take-append-drop k ws

take_put : (k a b : ℕ) (ws : List ℕ) → 2 * (k + 1) ≤ length ws → take (2 * (k + 1)) (sets ws (2 * k) (a ∷ b ∷ [])) ≡ take (2 * k) ws ++ a ∷ b ∷ []
take_put k a b ws le =
    let size : length (take (2 * k) ws) ≡ 2 * k = length-take-le (2 * k) ws (omega arith) in
    ap (take (2 * (k + 1))) (ap (λ l. sets l (2 * k) (a ∷ b ∷ [])) (sym (overlay-same (2 * k) ws (omega arith)))
    ∙ overlay-sets (take (2 * k) ws) (a ∷ b ∷ []) ws (2 * k) size (omega arith))
    ∙ take_at (take (2 * k) ws ++ a ∷ b ∷ []) _ (2 * (k + 1)) (length-append (take (2 * k) ws) (a ∷ b ∷ []) ∙ omega arith)

-- ---- gates

run-append : (n : ℕ) (gs hs : List Gate) (t : List Row) → run n (gs ++ hs) t ≡ run n hs (run n gs t)
unfolding run
run-append n [] hs t = refl
run-append n (g ∷ gs) hs t = run-append n gs hs (step n g t)

table-append : (n : ℕ) (gs hs : List Gate) → table n (gs ++ hs) ≡ run n hs (table n gs)
unfolding table
table-append n gs hs = run-append n gs hs (start n)

shows-run : (n : ℕ) (gs : List Gate) (a : Arena) (t : List Row) → AllValid n gs → Shows n a t → Shows n (frame_run n gs a) (run n gs t)
unfolding frame_run run
shows-run n [] a t v S = S
shows-run n (g ∷ gs) a t v S = shows-run n gs (frame_step n g a) (step n g t) v.1 (shows-step n a t S g v.0)

-- a circuit after frame gates
abbrev pub framed : List Gate → Circuit → Circuit
framed gs s =
    let a = frame_run s.header.qubits gs (opened s.header s.nodes s.frame) in
    circuit_of (with_nodes a.count s.header) (overlay a.nodes s.nodes) s.operations (overlay a.frame s.frame)

pub shows-framed : (s : Circuit) (t : List Row) (gs : List Gate) → AllValid s.header.qubits gs → Shows s.header.qubits (opened s.header s.nodes s.frame) t
    → Shows s.header.qubits (opened (framed gs s).header (framed gs s).nodes (framed gs s).frame) (run s.header.qubits gs t)
shows-framed s t gs v S = subst (λ b. Shows n b (run n gs t)) (sym (opened-overlay a (with_nodes a.count s.header) s.nodes s.frame refl R.even (R.size ∙ omega arith))) R
  where
    n : ℕ
    n = s.header.qubits

    a : Arena
    a = frame_run n gs (opened s.header s.nodes s.frame)

    R : Shows n a (run n gs t)
    R = shows-run n gs (opened s.header s.nodes s.frame) t v S

-- an accepted frame gate, on whatever words are lent
pub later-framed : (s : Circuit) (k a b : ℕ) → clifford_check s.header (length s.nodes) s.frame k a b ≡ Fine
    → later (call_frame k a b) s ≡ framed (frame_gates (kind_of k) a b) s
unfolding later clifford_step
later-framed s k a b e = rw e

pub gates-framed : (s : Circuit) (k a b : ℕ) → clifford_check s.header (length s.nodes) s.frame k a b ≡ Fine → gates_of (call_frame k a b) s ≡ frame_gates (kind_of k) a b
unfolding gates_of clifford_step
gates-framed s k a b e = rw (e, gates_of)

-- a refused one leaves all
later-kept : (s : Circuit) (k a b : ℕ) (x : PbcError) → clifford_check s.header (length s.nodes) s.frame k a b ≡ Wrong x → later (call_frame k a b) s ≡ s
unfolding later clifford_step
later-kept s k a b x e = rw e

gates_none : (s : Circuit) (k a b : ℕ) (x : PbcError) → clifford_check s.header (length s.nodes) s.frame k a b ≡ Wrong x → gates_of (call_frame k a b) s ≡ []
unfolding gates_of clifford_step
gates_none s k a b x e = rw (e, gates_of)

-- ---- one call

module _ (s : Circuit) (t : List Row) (gs : List Gate) (G : Good s.header.qubits s t gs) where
  good-framed : (hs : List Gate) → AllValid s.header.qubits hs → Good s.header.qubits (framed hs s) (run s.header.qubits hs t) (gs ++ hs)
  good-framed hs v = record {
    qubits = refl;
    shows = shows-framed s t hs v G.shows;
    valid = valid_append s.header.qubits gs hs G.valid v;
    table_of = ap (run s.header.qubits hs) G.table_of ∙ sym (table-append s.header.qubits gs hs);
  }

  good_node : (a b : ℕ) → s.header.nodes + 1 ≤ length s.nodes / node_words
      → Good s.header.qubits (circuit_of (with_nodes (s.header.nodes + 1) s.header) (node_put s.header s.nodes a b) s.operations s.frame) t gs
  good_node a b room = record {
    qubits = refl;
    shows = subst (λ c. Shows s.header.qubits c t) (sym path) (shows-appended s.header.qubits (opened s.header s.nodes s.frame) t G.shows a b);
    valid = G.valid;
    table_of = G.table_of;
  }
    where
      path : opened (with_nodes (s.header.nodes + 1) s.header) (node_put s.header s.nodes a b) s.frame ≡ appended a b (opened s.header s.nodes s.frame)
      path = λ i. record {
        count = add-one s.header.nodes i;
        nodes = take_put s.header.nodes a b s.nodes (omega arith) i;
        frame = take (2 * s.header.qubits) s.frame;
      }

  -- other operation words, and a header with other counts of operations and measurements
  good_counted : (h : Header) (ops : List ℕ) → h.qubits ≡ s.header.qubits → h.nodes ≡ s.header.nodes
      → Good s.header.qubits (circuit_of h s.nodes ops s.frame) t gs
  good_counted h ops q k = record {
    qubits = q;
    shows = subst (λ a. Shows s.header.qubits a t) (λ i. record { count = sym k i; nodes = take (2 * sym k i) s.nodes; frame = take (2 * sym q i) s.frame }) G.shows;
    valid = G.valid;
    table_of = G.table_of;
  }

  good_frame_call : (k a b : ℕ)
      → Good s.header.qubits (later (call_frame k a b) s) (run s.header.qubits (gates_of (call_frame k a b) s) t) (gs ++ gates_of (call_frame k a b) s)
  unfolding run
  good_frame_call k a b = go (clifford_check s.header (length s.nodes) s.frame k a b) refl
    where
      go : (c : Checked) → clifford_check s.header (length s.nodes) s.frame k a b ≡ c
          → Good s.header.qubits (later (call_frame k a b) s) (run s.header.qubits (gates_of (call_frame k a b) s) t) (gs ++ gates_of (call_frame k a b) s)
      go Fine e = rw (later-framed s k a b e, gates-framed s k a b e) (good-framed (frame_gates (kind_of k) a b) (fits_gate s.header (length s.nodes) s.frame k a b e).valid)
      go (Wrong x) e = rw (later-kept s k a b x e, gates_none s k a b x e, append-nil) G

  good_single_call : (q : ℕ) (a : Pauli) → Good s.header.qubits (later (call_single q a) s) t gs
  unfolding later single_step
  good_single_call q a = go a (single_check s.header (length s.nodes) q a) refl
    where
      go : (a : Pauli) (c : Checked) → single_check s.header (length s.nodes) q a ≡ c → Good s.header.qubits (later (call_single q a) s) t gs
      go I Fine e = rw e G
      go X Fine e = rw e (good_node (single_word X) q (fits_single s.header (length s.nodes) q X e).room.lent)
      go Y Fine e = rw e (good_node (single_word Y) q (fits_single s.header (length s.nodes) q Y e).room.lent)
      go Z Fine e = rw e (good_node (single_word Z) q (fits_single s.header (length s.nodes) q Z e).room.lent)
      go a (Wrong x) e = rw e G

  good_product_call : (l r : PauliRef) → Good s.header.qubits (later (call_product l r) s) t gs
  unfolding later product_step
  good_product_call l r = go (product_check s.header (length s.nodes) l r) refl
    where
      go : (c : Checked) → product_check s.header (length s.nodes) l r ≡ c → Good s.header.qubits (later (call_product l r) s) t gs
      go Fine e = rw e (good_node (product_word l.word) r.word (fits_product s.header (length s.nodes) l r e).room.lent)
      go (Wrong x) e = rw e G

  good_rotate_call : (x : PauliAxis) (k : PauliAngle) → Good s.header.qubits (later (call_rotate x k) s) t gs
  unfolding later rotate_step
  good_rotate_call x k = go (rotate_check s.header (length s.operations) x) refl
    where
      go : (c : Checked) → rotate_check s.header (length s.operations) x ≡ c → Good s.header.qubits (later (call_rotate x k) s) t gs
      go Fine e = rw e (good_counted _ _ refl refl)
      go (Wrong x) e = rw e G

  good_measure_call : (x : PauliAxis) (u : Target) → Good s.header.qubits (later (call_measure x u) s) t gs
  unfolding later measure_step
  good_measure_call x u = go (measure_check s.header (length s.operations) x u) refl
    where
      go : (c : Checked) → measure_check s.header (length s.operations) x u ≡ c → Good s.header.qubits (later (call_measure x u) s) t gs
      go Fine e = rw e (good_counted _ _ refl refl)
      go (Wrong x) e = rw e G

  good_conditional_call : (x : PauliAxis) (k : PauliAngle) (m : MeasId) → Good s.header.qubits (later (call_conditional x k m) s) t gs
  unfolding later conditional_step
  good_conditional_call x k m = go (conditional_check s.header (length s.operations) x m) refl
    where
      go : (c : Checked) → conditional_check s.header (length s.operations) x m ≡ c → Good s.header.qubits (later (call_conditional x k m) s) t gs
      go Fine e = rw e (good_counted _ _ refl refl)
      go (Wrong x) e = rw e G

  -- a call that is no frame gate feeds the table nothing
  unfed : (r : Circuit) → Good s.header.qubits r t gs → Good s.header.qubits r (run s.header.qubits [] t) (gs ++ [])
  unfolding run
  unfed r H = rw append-nil H

  good_call : (c : LaterCall) → Good s.header.qubits (later c s) (run s.header.qubits (gates_of c s) t) (gs ++ gates_of c s)
  unfolding later gates_of
  good_call (call_frame k a b) = good_frame_call k a b
  good_call (call_single q a) = unfed _ (good_single_call q a)
  good_call (call_product l r) = unfed _ (good_product_call l r)
  good_call (call_rotate x k) = unfed _ (good_rotate_call x k)
  good_call (call_measure x u) = unfed _ (good_measure_call x u)
  good_call (call_conditional x k m) = unfed _ (good_conditional_call x k m)
  good_call (call_expand letters scratch pool r cells) = unfed s G
  good_call (call_hermitian scratch pool r limit) = unfed s G
  good_call (call_weights scratch pool limit) = unfed s G
  good_call (lend_operations words) = unfed _ (good_counted s.header words refl refl)

-- ---- any calls

good-later : (n : ℕ) (c : LaterCall) (s : Circuit) (t : List Row) (gs : List Gate) → Good n s t gs → Good n (later c s) (run n (gates_of c s) t) (gs ++ gates_of c s)
good-later n c s t gs G = subst (λ m. Good m s t gs → Good m (later c s) (run m (gates_of c s) t) (gs ++ gates_of c s)) G.qubits (λ H. good_call s t gs H c) G

pub good-laters : (n : ℕ) (cs : List LaterCall) (s : Circuit) (t : List Row) (gs : List Gate) → Good n s t gs → Good n (laters cs s) (run n (fed cs s) t) (gs ++ fed cs s)
unfolding laters fed run
good-laters n [] s t gs G = rw append-nil G
good-laters n (c ∷ cs) s t gs G =
    rw (run-append, ← append_assoc) (good-laters n cs (later c s) _ _ (good-later n c s t gs G))

-- ---- after the conversion

pub made-step : (x : Input) → convert_check limits x ≡ Fine → convert_step x ≡ convert_as Fine (planes_after (gates_check limits x) x) x
unfolding convert_step convert_within
made-step x e = ap (λ c. convert_as c (planes_after (gates_check limits x) x) x) e

pub meant-input : (x : Input) → convert_check limits x ≡ Fine → Meant x.qubits x.owner x.cbits (plain_end x) (word_end x)
unfolding plain_end word_end
meant-input x e = meant x.qubits x.owner x.cbits x.cap (gates_in x) (accepted limits x e).proper

pub agrees-input : (x : Input) → convert_check limits x ≡ Fine → Agrees x.qubits (plain_end x) (paper_end x)
unfolding plain_end paper_end
agrees-input x e = agrees flush_from x.qubits x.cbits x.cap (gates_in x) (accepted limits x e).proper

pub good-converted : (x : Input) → convert_check limits x ≡ Fine → Good x.qubits (converted x) (plain_end x).table (bare (plain_end x).pending)
unfolding converted
good-converted x e = record {
  qubits = refl;
  shows = subst (λ a. Shows x.qubits a (plain_end x).table) (sym path) M.core.shows;
  valid = M.valid;
  table_of = M.table_of;
}
  where
    M : Meant x.qubits x.owner x.cbits (plain_end x) (word_end x)
    M = meant-input x e

    size : length (word_end x).arena.frame ≡ 2 * x.qubits
    size = M.core.shows.size ∙ omega arith

    path : opened (converted_header x) (convert_step x).nodes (convert_step x).frame ≡ (word_end x).arena
    path = ap₂ (opened (converted_header x)) (ap (λ r. r.nodes) (made-step x e)) (ap (λ r. r.frame) (made-step x e))
        ∙ opened-overlay (word_end x).arena (converted_header x) x.nodes x.frame refl M.core.shows.even size
