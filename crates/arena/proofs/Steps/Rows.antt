-- The visitor that writes rows: what it leaves is the rows of what was shown.
use mathlib.Core.Path.{◌≡◌, refl, ap, sym, ◌∙◌}
use mathlib.Core.List.{List, [], ◌∷◌, ◌++◌, map, append_assoc, append-nil}
use Prim.Native.Nat.{ℕ, ◌+◌, ◌*◌, ◌≤◌, ◌<◌}
use native.Mathlib.Nat.{suc-mul}
use native.Mathlib.Omega.{arith}
use lib.ListN.{length, length-append, drop_of_length-le}
use Rattle.pauli.specs.Letters.{phase_number}
use Rattle.arena.specs.Store.{Header}
use Rattle.arena.specs.Builder.{overlay}
use Rattle.arena.specs.Sparse.{Factor, Sparse, dense}
use Rattle.arena.specs.Expansion.{row_bytes, axes_bytes, axes_size}
use Rattle.arena.specs.Code.Roots.{cells, laid_at, visited}
use Rattle.arena.specs.declared.axes.Rows.{Rows}
use Rattle.arena.proofs.Overlay.{overlay-part}
use Rattle.arena.proofs.Walk.Axes.{length-dense}
use Rattle.arena.proofs.Steps.Axes.{rows_more, row_ends}

-- the cells of a value are its row
pub cells_row : (n : ℕ) (fs : List Factor) (k : ℕ) (x : Sparse) → x.factors ≡ fs → k ≡ phase_number x.phase → cells n fs k ≡ row_bytes (dense n x)
unfolding dense
cells_row n fs k x e q = rw (q, sym e)

-- there is room for each row
pub row_fits_in : (h : Header) (rows : List ℕ) → length rows ≡ axes_size h → (i : ℕ) → i < h.operations → i * (h.qubits + 1) + h.qubits < length rows
row_fits_in h rows e i lt = omega (arith, e, row_ends (h.qubits + 1) i h.operations lt)

abbrev rows_of : ℕ → List Sparse → List ℕ
rows_of n xs = axes_bytes (map (dense n) xs)

pub length-rows : (n : ℕ) (xs : List Sparse) → length (axes_bytes (map (dense n) xs)) ≡ length xs * (n + 1)
length-rows n [] = omega arith
length-rows n (x ∷ xs) = length-append (row_bytes (dense n x)) (rows_of n xs) ∙ omega (arith, length-dense n x, length-rows n xs, suc-mul (length xs) (n + 1))

-- row after row, the first of them row k
abbrev pub laid_all : ℕ → ℕ → List Sparse → List ℕ → List ℕ
laid_all n k [] was = was
laid_all n k (x ∷ xs) was = laid_all n (k + 1) xs (laid_at (k * (n + 1)) (row_bytes (dense n x)) was)

pub laid_rows : (n : ℕ) (xs done : List Sparse) (k : ℕ) (first : List ℕ) → length done ≡ k
    → laid_all n k xs (overlay (axes_bytes (map (dense n) done)) first) ≡ overlay (axes_bytes (map (dense n) (done ++ xs))) first
laid_rows n [] done k first e = ap (λ (ys : List Sparse). overlay (rows_of n ys) first) (sym (append-nil done))
laid_rows n (x ∷ xs) done k first e =
    let long : length (rows_of n done) ≡ k * (n + 1) = length-rows n done ∙ ap (λ (m : ℕ). m * (n + 1)) e in
    let count : length (done ++ (x ∷ [])) ≡ k + 1 = length-append done (x ∷ []) ∙ omega (arith, e) in
    ap (λ (l : List ℕ). laid_all n (k + 1) xs l) (overlay-part (rows_of n done) (row_bytes (dense n x)) first (k * (n + 1)) long ∙ ap (λ (l : List ℕ). overlay l first) (sym (rows_more n done x)))
    ∙ laid_rows n xs (done ++ (x ∷ [])) (k + 1) first count ∙ ap (λ (ys : List Sparse). overlay (rows_of n ys) first) (append_assoc done (x ∷ []) xs)

-- all rows are written
pub laid_whole : (n m : ℕ) (xs : List Sparse) (first : List ℕ) → length xs ≡ m → length first ≡ m * (n + 1) → laid_all n 0 xs first ≡ axes_bytes (map (dense n) xs)
laid_whole n m xs first e long =
    let le : length first ≤ length (rows_of n xs) = omega (arith, long, length-rows n xs, ap (λ (k : ℕ). k * (n + 1)) e) in
    laid_rows n xs [] 0 first refl ∙ ap (λ (d : List ℕ). rows_of n xs ++ d) (drop_of_length-le first le) ∙ append-nil (rows_of n xs)

-- ---- the visitor

abbrev pub row_step : Rows → ℕ → Sparse → Rows
row_step v i x = record v { rows = record v.rows { now = laid_at (i * (v.qubits + 1)) (row_bytes (dense v.qubits x)) v.rows.now } }

pub rows_visited : (v : Rows) (k : ℕ) (xs : List Sparse) → (visited row_step v k xs).rows.now ≡ laid_all v.qubits k xs v.rows.now
rows_visited v k [] = refl
rows_visited v k (x ∷ xs) = rows_visited (row_step v k x) (k + 1) xs

pub rows_named : (v : Rows) (k : ℕ) (xs : List Sparse) → (visited row_step v k xs).rows.ghost_name ≡ v.rows.ghost_name
rows_named v k [] = refl
rows_named v k (x ∷ xs) = rows_named (row_step v k x) (k + 1) xs
