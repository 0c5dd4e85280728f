use Rattle.std.proofs.Common.{arith, refl, ap, sym, ◌∙◌, ◌≡◌, ◌≤◌, ◌+◌, ◌-◌, ℕ, List, length, take, drop, drop-drop, append_assoc}
use Rattle.std.proofs.lemmas.List.Edits.{sets, sets-eq}
use mathlib.Core.List.{[], ◌∷◌, ◌++◌}
use borrow.Rule.Slice.PartMut.{put_mid}
use Rattle.qasm.proofs.program.put_gate.Goals as goal

four : (vs : List ℕ) (k : ℕ) (gs : List ℕ) → length vs ≡ 4 → k + 4 ≤ length gs → put_mid k 4 gs vs ≡ sets gs k vs
four vs k gs e p =
    ap (λ l. take k gs ++ (vs ++ l)) (drop-drop 4 k gs ∙ ap (λ m. drop (k + m) gs) (sym e)) ∙ sym (append_assoc (take k gs) vs _)
    ∙ sym (sets-eq vs gs k (omega (arith, e, p)))

pub returns : goal.returns
returns c =
    let n : c.args.k + 4 - c.args.k ≡ 4 = omega arith in
    ap (λ m. put_mid c.args.k m c.args.gates.now c.copy_from_slice.new.self) n
    ∙ ap (put_mid c.args.k 4 c.args.gates.now) c.copy_from_slice.ensures.after
    ∙ four (c.args.gate.kind ∷ c.args.gate.a ∷ c.args.gate.b ∷ c.args.gate.c ∷ []) c.args.k c.args.gates.now refl c.requires
