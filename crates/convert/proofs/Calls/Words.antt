-- Later calls given as words: those that run are those of the list, so demand 3 holds of what they leave.
use mathlib.Core.Path.{◌≡◌, refl, ap, sym, ◌∙◌, subst}
use mathlib.Core.Logic.{◌≢◌}
use mathlib.Core.Bool.{Bool, true, false, true≢false}
use mathlib.Core.List.{List, [], ◌∷◌, ◌++◌}
use Prim.Native.Nat.{ℕ, zero, suc, ◌+◌}
use native.Mathlib.Numerals.{add-one}
use Rattle.convert.specs.Types.{Header, PbcError, Checked, Fine, Wrong}
use Rattle.convert.specs.Records.{without_index}
use Rattle.convert.specs.Words.{operations_in}
use Rattle.convert.specs.Conversion.{limits, Input, convert_check, Converted, ConvertedMade, ConvertedRefused, ConvertStep, convert_step, convert_of}
use Rattle.convert.specs.Later.{Circuit, circuit_of, converted, LaterCall, later, laters}
use Rattle.convert.specs.LaterWords.{CallWords, call_as, call_in, words_at, calls_to, calls_in, run_as, run_step}
use Rattle.convert.specs.Statement.{Demand3}
use Rattle.convert.specs.Routing.{AllRouted}
use Rattle.convert.proofs.Theorems.{demand3, cap_guarantee, made, made_back, refused}

-- the kinds from 5 on
pub call_rest : (k : ℕ) (w : CallWords) → k ≢ 0 → k ≢ 1 → k ≢ 2 → k ≢ 3 → k ≢ 4 → call_as k w ≡ call_as 5 w
call_rest zero w p q r s t = absurd (p refl)
call_rest (suc zero) w p q r s t = absurd (q refl)
call_rest (suc (suc zero)) w p q r s t = absurd (r refl)
call_rest (suc (suc (suc zero))) w p q r s t = absurd (s refl)
call_rest (suc (suc (suc (suc zero)))) w p q r s t = absurd (t refl)
call_rest (suc (suc (suc (suc (suc k))))) w p q r s t = refl

laters-append : (cs ds : List LaterCall) (s : Circuit) → laters (cs ++ ds) s ≡ laters ds (laters cs s)
unfolding laters
laters-append [] ds s = refl
laters-append (c ∷ cs) ds s = laters-append cs ds (later c s)

-- one call more
pub ran_more : (calls : List ℕ) (k : ℕ) (s t u : Circuit) → t ≡ laters (calls_to calls k) s → u ≡ later (call_in (words_at calls k)) t → u ≡ laters (calls_to calls (k + 1)) s
unfolding calls_to laters
ran_more calls k s t u e f =
    rw add-one (f ∙ ap (later (call_in (words_at calls k))) e ∙ sym (laters-append (calls_to calls k) (call_in (words_at calls k) ∷ []) s))

-- ---- after a conversion

abbrev header_in : Converted → Header → Header
header_in (ConvertedMade h) old = h
header_in (ConvertedRefused e) old = old

abbrev is_made : Converted → Bool
is_made (ConvertedMade h) = true
is_made (ConvertedRefused e) = false

-- a circuit as what a conversion and its calls leave
abbrev as_step : Circuit → (planes : List ℕ) → ConvertStep
as_step s planes = convert_of (ConvertedMade s.header) s.nodes s.operations s.frame planes

made-run : (x : Input) (calls : List ℕ) → convert_check limits x ≡ Fine → run_step x calls ≡ as_step (laters (calls_in calls) (converted x)) (convert_step x).planes
unfolding run_step converted
made-run x calls e = ap (λ a. run_as a calls (convert_step x)) (made x e)

-- where the answer is a header, it and the words left are a circuit of which demand 3 holds
pub demand3-ran : (x : Input) (calls : List ℕ) (h : Header) → (run_step x calls).answer ≡ ConvertedMade h
    → Demand3 x (calls_in calls) (circuit_of h (run_step x calls).nodes (run_step x calls).operations (run_step x calls).frame)
unfolding run_step
demand3-ran x calls h = go (convert_check limits x) refl
  where
    same : convert_check limits x ≡ Fine → (run_step x calls).answer ≡ ConvertedMade h
        → laters (calls_in calls) (converted x) ≡ circuit_of h (run_step x calls).nodes (run_step x calls).operations (run_step x calls).frame
    same e m = λ i. circuit_of
        ((ap (λ s. header_in s.answer h) (sym (made-run x calls e)) ∙ ap (λ a. header_in a h) m) i)
        (sym (ap (λ s. s.nodes) (made-run x calls e)) i)
        (sym (ap (λ s. s.operations) (made-run x calls e)) i)
        (sym (ap (λ s. s.frame) (made-run x calls e)) i)

    go : (c : Checked) → convert_check limits x ≡ c → (run_step x calls).answer ≡ ConvertedMade h
        → Demand3 x (calls_in calls) (circuit_of h (run_step x calls).nodes (run_step x calls).operations (run_step x calls).frame)
    go Fine e m = subst (λ s. Demand3 x (calls_in calls) s) (same e m) (demand3 x e (calls_in calls))
    go (Wrong error) e m = absurd (true≢false (ap is_made (sym m ∙ ap (λ a. (run_as a calls (convert_step x)).answer) (refused x error e).0 ∙ (refused x error e).0)))

-- ---- the answer and the words of a conversion and its calls

module _ (x : Input) (calls : List ℕ) (nodes operations frame planes : List ℕ) where
  -- the calls run from the header answered
  pub run-made : (a : Converted) (h r : Header) (nodes' operations' frame' : List ℕ) → a ≡ ConvertedMade h → convert_of a nodes operations frame planes ≡ convert_step x
      → circuit_of r nodes' operations' frame' ≡ laters (calls_in calls) (circuit_of h nodes operations frame)
      → convert_of (ConvertedMade r) nodes' operations' frame' planes ≡ run_step x calls
  unfolding run_step
  run-made a h r nodes' operations' frame' told e f =
      (λ i. as_step (f i) planes) ∙ ap (λ s. run_as s.answer calls s) ((λ i. convert_of (sym told i) nodes operations frame planes) ∙ e)

  -- a refusal runs none
  pub run-refused : (a : Converted) (error : PbcError) → a ≡ ConvertedRefused error → convert_of a nodes operations frame planes ≡ convert_step x
      → convert_of (ConvertedRefused error) nodes operations frame planes ≡ run_step x calls
  unfolding run_step
  run-refused a error told e = ap (λ s. run_as s.answer calls s) ((λ i. convert_of (sym told i) nodes operations frame planes) ∙ e)

-- demand 3 of an answer and words that are those of a conversion and its calls
pub demand3-of : (x : Input) (calls : List ℕ) (s : ConvertStep) → s ≡ run_step x calls → (h : Header) → s.answer ≡ ConvertedMade h
    → Demand3 x (calls_in calls) (circuit_of h s.nodes s.operations s.frame)
demand3-of x calls s p h e =
    subst (λ t. Demand3 x (calls_in calls) (circuit_of h t.nodes t.operations t.frame)) (sym p) (demand3-ran x calls h (sym (ap (λ t. t.answer) p) ∙ e))

-- the cap's guarantee of an answer and words that are those of a conversion
pub routed_of : (x : Input) (s : ConvertStep) → s ≡ convert_step x → (h : Header) → s.answer ≡ ConvertedMade h
    → AllRouted x.cap (without_index (operations_in h s.nodes s.operations))
routed_of x s p h e =
    let m = made_back x h (sym (ap (λ t. t.answer) p) ∙ e) in
    subst (λ t. AllRouted x.cap (without_index (operations_in h t.nodes t.operations))) (sym p)
    (subst (λ k. AllRouted x.cap (without_index (operations_in k (convert_step x).nodes (convert_step x).operations))) (sym m.1) (cap_guarantee x m.0))
