use native.Mathlib.Omega.{arith}
use mathlib.Core.Path.{◌≡◌, ◌∙◌, sym}
use Prim.Native.Nat.{◌+◌, ◌*◌}
use Rattle.convert.proofs.Packed.Products
use Rattle.convert.proofs.Packed.Products.{each_of_one, each_of_two, each_of_three}
use Rattle.convert.proofs.Packed.Within.{union_light}
use mathlib.Core.Bool.{Bool, ◌||◌}
use mathlib.Core.List.{List, [], ◌∷◌}
use Prim.Native.Nat.{ℕ}
use lib.Dec.{ltb}
use Rattle.convert.specs.Code.RawPlanes.{product_to}
use Rattle.convert.proofs.Packed.Products.{or_then, or_else, or_seven}
use Rattle.convert.proofs.planes.Planes.seven.Goals as goal
use Rattle.convert.proofs.planes.Planes.seven.Goals.{then-exceeds, else-exceeds, then-exceeds-2, else-exceeds-2, then-exceeds-3, else-exceeds-3, then-exceeds-4, else-exceeds-4, then-exceeds-5, else-exceeds-5}

pub returns-then-weigh_union-cap : goal.returns-then-weigh_union-cap
returns-then-weigh_union-cap c =
    let a = c.args in
    let l = a.self.now.width in
    sym (union_light a.self.now.words.now l a.cap (a.a * (l + l)) (a.b * (l + l)) (a.d * (l + l)) (omega (arith, c.weigh_union.ensures, c.if-weigh_union-cap.true)))

pub returns-then-exceeds-6 : goal.returns-then-exceeds-6
returns-then-exceeds-6 c =
    let x = c.args in
    let p = x.self.now.words.now in
    let l = x.self.now.width in
    let over : List ℕ → Bool = λ is. ltb x.cap (product_to p l is l) in
    let t1 : Bool = over (x.a ∷ []) in
    let t2 : Bool = over (x.b ∷ []) in
    let t3 : Bool = over (x.d ∷ []) in
    let t4 : Bool = over (x.a ∷ x.b ∷ []) in
    let t5 : Bool = over (x.a ∷ x.d ∷ []) in
    let t6 : Bool = over (x.b ∷ x.d ∷ []) in
    let t7 : Bool = over (x.a ∷ x.b ∷ x.d ∷ []) in
    let v1 : c.if-exceeds.value ≡ (t1 || t2) = elim c.if-exceeds.branch [
      | then-exceeds w ↦ or_then _ _ t2 (w.value-is ∙ w.if-exceeds.true) (sym c.exceeds.ensures ∙ w.if-exceeds.true)
      | else-exceeds w ↦ or_else _ _ t2 (w.value-is ∙ w.exceeds-else-exceeds.ensures) (sym c.exceeds.ensures ∙ w.if-exceeds.false)
    ] in
    let v2 : c.if-exceeds-2.value ≡ ((t1 || t2) || t3) = elim c.if-exceeds-2.branch [
      | then-exceeds-2 w ↦ or_then _ _ t3 (w.value-is ∙ w.if-exceeds-2.true) (sym v1 ∙ w.if-exceeds-2.true)
      | else-exceeds-2 w ↦ or_else _ _ t3 (w.value-is ∙ w.exceeds-else-exceeds-2.ensures) (sym v1 ∙ w.if-exceeds-2.false)
    ] in
    let v3 : c.if-exceeds-3.value ≡ (((t1 || t2) || t3) || t4) = elim c.if-exceeds-3.branch [
      | then-exceeds-3 w ↦ or_then _ _ t4 (w.value-is ∙ w.if-exceeds-3.true) (sym v2 ∙ w.if-exceeds-3.true)
      | else-exceeds-3 w ↦ or_else _ _ t4 (w.value-is ∙ w.exceeds-else-exceeds-3.ensures) (sym v2 ∙ w.if-exceeds-3.false)
    ] in
    let v4 : c.if-exceeds-4.value ≡ ((((t1 || t2) || t3) || t4) || t5) = elim c.if-exceeds-4.branch [
      | then-exceeds-4 w ↦ or_then _ _ t5 (w.value-is ∙ w.if-exceeds-4.true) (sym v3 ∙ w.if-exceeds-4.true)
      | else-exceeds-4 w ↦ or_else _ _ t5 (w.value-is ∙ w.exceeds-else-exceeds-4.ensures) (sym v3 ∙ w.if-exceeds-4.false)
    ] in
    let v5 : c.if-exceeds-5.value ≡ (((((t1 || t2) || t3) || t4) || t5) || t6) = elim c.if-exceeds-5.branch [
      | then-exceeds-5 w ↦ or_then _ _ t6 (w.value-is ∙ w.if-exceeds-5.true) (sym v4 ∙ w.if-exceeds-5.true)
      | else-exceeds-5 w ↦ or_else _ _ t6 (w.value-is ∙ w.exceeds-else-exceeds-5.ensures) (sym v4 ∙ w.if-exceeds-5.false)
    ] in
    rw (← Products.first p l x.a x.b x.d l, ← Products.second p l x.a x.b x.d l, ← Products.third p l x.a x.b x.d l, ← Products.first_second p l x.a x.b x.d l, ← Products.first_third p l x.a x.b x.d l, ← Products.second_third p l x.a x.b x.d l, ← Products.all_three p l x.a x.b x.d l) (or_then _ _ t7 c.if-exceeds-6.true (sym v5 ∙ c.if-exceeds-6.true) ∙ or_seven t1 t2 t3 t4 t5 t6 t7)

pub returns-else-exceeds-6 : goal.returns-else-exceeds-6
returns-else-exceeds-6 c =
    let x = c.args in
    let p = x.self.now.words.now in
    let l = x.self.now.width in
    let over : List ℕ → Bool = λ is. ltb x.cap (product_to p l is l) in
    let t1 : Bool = over (x.a ∷ []) in
    let t2 : Bool = over (x.b ∷ []) in
    let t3 : Bool = over (x.d ∷ []) in
    let t4 : Bool = over (x.a ∷ x.b ∷ []) in
    let t5 : Bool = over (x.a ∷ x.d ∷ []) in
    let t6 : Bool = over (x.b ∷ x.d ∷ []) in
    let t7 : Bool = over (x.a ∷ x.b ∷ x.d ∷ []) in
    let v1 : c.if-exceeds.value ≡ (t1 || t2) = elim c.if-exceeds.branch [
      | then-exceeds w ↦ or_then _ _ t2 (w.value-is ∙ w.if-exceeds.true) (sym c.exceeds.ensures ∙ w.if-exceeds.true)
      | else-exceeds w ↦ or_else _ _ t2 (w.value-is ∙ w.exceeds-else-exceeds.ensures) (sym c.exceeds.ensures ∙ w.if-exceeds.false)
    ] in
    let v2 : c.if-exceeds-2.value ≡ ((t1 || t2) || t3) = elim c.if-exceeds-2.branch [
      | then-exceeds-2 w ↦ or_then _ _ t3 (w.value-is ∙ w.if-exceeds-2.true) (sym v1 ∙ w.if-exceeds-2.true)
      | else-exceeds-2 w ↦ or_else _ _ t3 (w.value-is ∙ w.exceeds-else-exceeds-2.ensures) (sym v1 ∙ w.if-exceeds-2.false)
    ] in
    let v3 : c.if-exceeds-3.value ≡ (((t1 || t2) || t3) || t4) = elim c.if-exceeds-3.branch [
      | then-exceeds-3 w ↦ or_then _ _ t4 (w.value-is ∙ w.if-exceeds-3.true) (sym v2 ∙ w.if-exceeds-3.true)
      | else-exceeds-3 w ↦ or_else _ _ t4 (w.value-is ∙ w.exceeds-else-exceeds-3.ensures) (sym v2 ∙ w.if-exceeds-3.false)
    ] in
    let v4 : c.if-exceeds-4.value ≡ ((((t1 || t2) || t3) || t4) || t5) = elim c.if-exceeds-4.branch [
      | then-exceeds-4 w ↦ or_then _ _ t5 (w.value-is ∙ w.if-exceeds-4.true) (sym v3 ∙ w.if-exceeds-4.true)
      | else-exceeds-4 w ↦ or_else _ _ t5 (w.value-is ∙ w.exceeds-else-exceeds-4.ensures) (sym v3 ∙ w.if-exceeds-4.false)
    ] in
    let v5 : c.if-exceeds-5.value ≡ (((((t1 || t2) || t3) || t4) || t5) || t6) = elim c.if-exceeds-5.branch [
      | then-exceeds-5 w ↦ or_then _ _ t6 (w.value-is ∙ w.if-exceeds-5.true) (sym v4 ∙ w.if-exceeds-5.true)
      | else-exceeds-5 w ↦ or_else _ _ t6 (w.value-is ∙ w.exceeds-else-exceeds-5.ensures) (sym v4 ∙ w.if-exceeds-5.false)
    ] in
    rw (← Products.first p l x.a x.b x.d l, ← Products.second p l x.a x.b x.d l, ← Products.third p l x.a x.b x.d l, ← Products.first_second p l x.a x.b x.d l, ← Products.first_third p l x.a x.b x.d l, ← Products.second_third p l x.a x.b x.d l, ← Products.all_three p l x.a x.b x.d l) (or_else _ _ t7 c.exceeds-else-exceeds-6.ensures (sym v5 ∙ c.if-exceeds-6.false) ∙ or_seven t1 t2 t3 t4 t5 t6 t7)
