-- What the code's tests and tables are, as the reader's definitions have them.
use mathlib.Core.Path.{◌≡◌, refl, ap, ap₂, sym, ◌∙◌}
use mathlib.Core.Bool.{Bool, true, false, cond, ◌&&◌, ◌||◌}
use mathlib.Core.List.{List, [], ◌∷◌}
use Prim.Native.Nat.{ℕ, ◌+◌}
use lib.Dec.{eqb}
use lib.ListN.{length, take, drop}
use Rattle.std.proofs.Common.{nat_eq, Option, Some, None, is_some, map, find, true≢false, Bor}
use Rattle.std.specs.Option.{option_map, MatchOption}
use Rattle.std.specs.List.{list_all, list_any}
use Rattle.std.specs.Cmp.Lexicographic.{pointwise}
use Rattle.qasm.specs.Bytes.{same_bytes, every, among}
use Rattle.qasm.specs.Names.{Named, named, gate_names, word_measure}
use Rattle.qasm.specs.Reading.{got, failed, done, prefix, by_name, operands_by, gate_by, take_measure}
use Rattle.qasm.specs.Code.Rest.{find_name, gate_found, found, left_of}

-- ---- bytes

pub same_pointwise : (v w : List ℕ) → pointwise nat_eq v w ≡ same_bytes v w
same_pointwise [] [] = refl
same_pointwise [] (b ∷ w) = refl
same_pointwise (a ∷ v) [] = refl
same_pointwise (a ∷ v) (b ∷ w) = ap (λ t. eqb a b && t) (same_pointwise v w)

pub all_every : (f : ℕ → Bool) (w : List ℕ) → list_all f w ≡ every f w
all_every f [] = refl
all_every f (b ∷ w) = ap (λ t. f b && t) (all_every f w)

pub prefix_there : (s t : List ℕ) → pointwise nat_eq (take (length s) t) s ≡ true → prefix s t ≡ got done (drop (length s) t)
prefix_there [] t e = refl
prefix_there (a ∷ s) [] e = absurd (true≢false (sym e))
prefix_there (a ∷ s) (b ∷ t) e = go (eqb b a) refl (prefix_there s t)
  where
    go : (x : Bool) → eqb b a ≡ x → (pointwise nat_eq (take (length s) t) s ≡ true → prefix s t ≡ got done (drop (length s) t)) → prefix (a ∷ s) (b ∷ t) ≡ got done (drop (length s) t)
    go true k f = rw (k) (f (rw (k) at e))
    go false k f = absurd (true≢false (sym (rw (k) at e)))

pub prefix_not : (s t : List ℕ) → pointwise nat_eq (take (length s) t) s ≡ false → prefix s t ≡ failed
prefix_not [] t e = absurd (true≢false e)
prefix_not (a ∷ s) [] e = refl
prefix_not (a ∷ s) (b ∷ t) e = go (eqb b a) refl (prefix_not s t)
  where
    go : (x : Bool) → eqb b a ≡ x → (pointwise nat_eq (take (length s) t) s ≡ false → prefix s t ≡ failed) → prefix (a ∷ s) (b ∷ t) ≡ failed
    go true k f = rw (k) (f (rw (k) at e))
    go false k f = rw k

pub stripped : (r : Option (Bor (List ℕ))) (s t : List ℕ)
    → MatchOption r (pointwise nat_eq (take (length s) t) s ≡ false) (λ x. (pointwise nat_eq (take (length s) t) s ≡ true) × (x.now ≡ drop (length s) t) × (length x.now + length s ≡ length t))
    → left_of r ≡ prefix s t
stripped None s t e = sym (prefix_not s t e)
stripped (Some x) s t e = ap (got done) e.1 ∙ sym (prefix_there s t e.0)

-- ---- names

pub by_found : (gs : List Named) (w q text : List ℕ) → by_name gs w q text ≡ found q text (find_name gs w)
by_found [] w q text = refl
by_found (g ∷ gs) w q text = go (same_bytes w g.name) (by_found gs w q text)
  where
    go : (x : Bool) → by_name gs w q text ≡ found q text (find_name gs w)
        → cond x (operands_by g.qubits q g.kind text) (by_name gs w q text) ≡ found q text (cond x (Some (g.kind, g.qubits)) (find_name gs w))
    go true e = refl
    go false e = e

pub gate_by_found : (q c w text : List ℕ) → gate_by q c w text ≡ cond (same_bytes w word_measure) (take_measure q c text) (found q text (gate_found w))
unfolding gate_by gate_found
gate_by_found q c w text = ap (λ z. cond (same_bytes w word_measure) (take_measure q c text) z) (by_found gate_names w q text)

pub measure_is : (q c w text : List ℕ) → same_bytes w word_measure ≡ true → take_measure q c text ≡ gate_by q c w text
measure_is q c w text e = sym (gate_by_found q c w text ∙ ap (λ t. cond t (take_measure q c text) (found q text (gate_found w))) e)

pub measure_not : (q c w text : List ℕ) → same_bytes w word_measure ≡ false → found q text (gate_found w) ≡ gate_by q c w text
measure_not q c w text e = sym (gate_by_found q c w text ∙ ap (λ t. cond t (take_measure q c text) (found q text (gate_found w))) e)

pub among_found : (gs : List Named) (w : List ℕ) → is_some (find_name gs w) ≡ among w (map (λ g. g.name) gs)
among_found [] w = refl
among_found (g ∷ gs) w = go (same_bytes w g.name) (among_found gs w)
  where
    go : (x : Bool) → is_some (find_name gs w) ≡ among w (map (λ g. g.name) gs) → is_some (cond x (Some (g.kind, g.qubits)) (find_name gs w)) ≡ x || among w (map (λ g. g.name) gs)
    go true e = refl
    go false e = e

pub any_among : (w : List ℕ) (vs : List (Bor (List ℕ))) → list_any (λ v. pointwise nat_eq w v.now) vs ≡ among w (map (λ v. v.now) vs)
any_among w [] = refl
any_among w (v ∷ vs) = ap₂ (λ x y. x || y) (same_pointwise w v.now) (any_among w vs)

pub found_in : (w : List ℕ) (gs : List (Bor (List ℕ) × ℕ × ℕ))
    → option_map (λ g. (g.1, g.2)) (find (λ g. pointwise nat_eq w g.0.now) gs) ≡ find_name (map (λ g. named g.0.now g.1 g.2) gs) w
found_in w [] = refl
found_in w (g ∷ gs) = go (same_bytes w g.0.now) (found_in w gs) (same_pointwise w g.0.now)
  where
    go : (x : Bool) → option_map (λ g. (g.1, g.2)) (find (λ g. pointwise nat_eq w g.0.now) gs) ≡ find_name (map (λ g. named g.0.now g.1 g.2) gs) w → pointwise nat_eq w g.0.now ≡ x
        → option_map (λ g. (g.1, g.2)) (find (λ g. pointwise nat_eq w g.0.now) (g ∷ gs)) ≡ cond x (Some (g.1, g.2)) (find_name (map (λ g. named g.0.now g.1 g.2) gs) w)
    go true e k = rw k
    go false e k = rw (k) e
