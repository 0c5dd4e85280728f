-- Every axis of a conversion has sign +1 or -1.
use mathlib.Core.Path.{◌≡◌, refl, ap, ap₂, ◌∙◌}
use mathlib.Core.Logic.{◌≢◌, Ne-symm}
use mathlib.Core.Bool.{true}
use mathlib.Core.List.{List, [], ◌∷◌, map}
use Prim.Native.Nat.{ℕ, zero, suc, ◌<◌}
use native.Mathlib.Nat.{not-suc-le-zero, le_of_suc-le-suc}
use lib.ListN.{get_or, set, replicate, get_or-replicate}
use lib.Seq.{get_or-set_other}
use Rattle.pauli.specs.Letters.{◌⊕◌, phase_of, real}
use Rattle.pauli.specs.Rows.{Row, Width, phases, ◌★◌, single}
use Rattle.pauli.specs.Gates.{Gate, AllValid, back}
use Rattle.pauli.proofs.Finite.{⊕-one, phase_of-I}
use Rattle.pauli.proofs.Rows.{width-★}
use Rattle.pauli.proofs.Conj.{hom-back}
use Rattle.pauli.proofs.Short.{width-single, pair, pair_of}
use Rattle.convert.specs.Types.{Pauli, I, X, Z, One}
use Rattle.convert.specs.Records.{Elementary, clifford, el_t, el_tdg, el_ccx, el_ccz, el_measure, Proper}
use Rattle.convert.specs.Plain.{seven}
use Rattle.convert.specs.Paper.{gate_products, axes}
use Rattle.convert.specs.Sources.{All}

phases-blank : (n : ℕ) (u : List Pauli) → phases u (replicate n I) ≡ One
phases-blank zero [] = refl
phases-blank zero (c ∷ u) = refl
phases-blank (suc n) [] = refl
phases-blank (suc n) (c ∷ u) = ap₂ ◌⊕◌ (phase_of-I c) (phases-blank n u)

-- a row times one letter
phases-one : (n : ℕ) (u : List Pauli) (q : ℕ) (a : Pauli) → q < n → phases u (set (replicate n I) q a) ≡ phase_of (get_or u q I) a
phases-one n [] q a h = refl
phases-one zero (c ∷ u) q a h = absurd (not-suc-le-zero h)
phases-one (suc n) (c ∷ u) zero a h = ap (λ p. phase_of c a ⊕ p) (phases-blank n u) ∙ ⊕-one (phase_of c a)
phases-one (suc n) (c ∷ u) (suc q) a h = ap₂ ◌⊕◌ (phase_of-I c) (phases-one n u q a (le_of_suc-le-suc h))

off : (n o q : ℕ) (a : Pauli) → q < n → q ≢ o → get_or (single n o a).letters q I ≡ I
off n o q a hq ne = get_or-set_other (replicate n I) o q a I ne ∙ get_or-replicate n q I I hq

-- two letters, and three, on different qubits
two-real : (n c t : ℕ) (a b : Pauli) → t < n → c ≢ t → (single n c a ★ single n t b).phase ≡ One
two-real n c t a b ht ne = phases-one n (single n c a).letters t b ht ∙ ap (λ l. phase_of l b) (off n c t a ht (Ne-symm ne))

three-real : (n c t d : ℕ) (b l : Pauli) → c < n → t < n → d < n → c ≢ t → c ≢ d → t ≢ d → (single n c Z ★ single n t b ★ single n d l).phase ≡ One
three-real n c t d b l hc ht hd ne nc nt =
    ap (λ P. (P ★ single n d l).phase) (pair_of n c t Z b hc ht ne)
    ∙ phases-one n (pair n c t Z b).letters d l hd
    ∙ ap (λ x. phase_of x l) (get_or-set_other (set (replicate n I) c Z) t d b I (Ne-symm nt) ∙ off n c d Z hd (Ne-symm nc))

-- ---- axes

back-real : (n : ℕ) (gs : List Gate) (P : Row) → AllValid n gs → Width n P → real (back gs P).phase ≡ real P.phase
back-real n gs P v w = (hom-back n gs v).signs P w

abbrev AllReal : List Row → Type 0
AllReal Ps = All (λ P. real P.phase ≡ true) Ps

seven-real : (n : ℕ) (gs : List Gate) → AllValid n gs → (a b d : ℕ) (l : Pauli) → (a < n) × (b < n) × (d < n) × (a ≢ b) × (a ≢ d) × (b ≢ d)
    → AllReal (map (back gs) (seven (single n a Z) (single n b Z) (single n d l)))
seven-real n gs v a b d l h =
    (one a Z, (one b Z, (one d l, (two a b Z Z h.1 h.3, (two a d Z l h.2 h.4, (two b d Z l h.2 h.5, (three, tt)))))))
  where
    one : (q : ℕ) (c : Pauli) → real (back gs (single n q c)).phase ≡ true
    one q c = (hom-back n gs v).signs (single n q c) (width-single n q c)

    two : (q r : ℕ) (c e : Pauli) → r < n → q ≢ r → real (back gs (single n q c ★ single n r e)).phase ≡ true
    two q r c e hr ne = back-real n gs (single n q c ★ single n r e) v (width-★ n (single n q c) (single n r e) (width-single n q c) (width-single n r e)) ∙ ap real (two-real n q r c e hr ne)

    three : real (back gs (single n a Z ★ single n b Z ★ single n d l)).phase ≡ true
    three = back-real n gs (single n a Z ★ single n b Z ★ single n d l) v
        (width-★ n (single n a Z ★ single n b Z) (single n d l) (width-★ n (single n a Z) (single n b Z) (width-single n a Z) (width-single n b Z)) (width-single n d l))
        ∙ ap real (three-real n a b d Z l h.0 h.1 h.2 h.3 h.4 h.5)

one-real : (n : ℕ) (gs : List Gate) → AllValid n gs → (q : ℕ) → AllReal (map (back gs) (single n q Z ∷ []))
one-real n gs v q = (back-real n gs (single n q Z) v (width-single n q Z), tt)

pub axes-real : (n : ℕ) (gs : List Gate) → AllValid n gs → (c : ℕ) (e : Elementary) → Proper n c e → AllReal (axes n gs e)
unfolding axes gate_products
axes-real n gs v c (clifford g) h = tt
axes-real n gs v c (el_t q) h = one-real n gs v q
axes-real n gs v c (el_tdg q) h = one-real n gs v q
axes-real n gs v c (el_ccx a b d) h = seven-real n gs v a b d X h
axes-real n gs v c (el_ccz a b d) h = seven-real n gs v a b d Z h
axes-real n gs v c (el_measure q k) h = one-real n gs v q
