-- Frame gates in the buffers.
use mathlib.Core.Path.{◌≡◌, refl, sym, ap, ◌∙◌}
use mathlib.Core.Logic.{◌⊎◌, inl, inr, ⊎_elim}
use mathlib.Core.List.{List, [], ◌∷◌}
use Prim.Native.Nat.{ℕ, zero, suc, ◌+◌, ◌*◌, ◌<◌}
use native.Mathlib.Omega.{arith}
use Rattle.arena.specs.References.{scaled_word}
use Rattle.convert.specs.Types.{MinusOne}
use lib.ListN.{get_or, set}
use Rattle.pauli.specs.Gates.{Gate, gate_h, gate_x, gate_z, gate_s, gate_sdg, gate_cnot, gate_cz}
use Rattle.convert.specs.Frame.{Arena, gate_nodes}
use Rattle.convert.specs.Code.Raw.{arena, put_multiplied, put_step, put_run, ProductPut, Small, FrameReady, Ran}

get_or-set-any : (t : List ℕ) (i j P d : ℕ) → (get_or (set t i P) j d ≡ get_or t j d) ⊎ (get_or (set t i P) j d ≡ P)
get_or-set-any [] i j P d = inl refl
get_or-set-any (Q ∷ t) zero zero P d = inr refl
get_or-set-any (Q ∷ t) zero (suc j) P d = inl refl
get_or-set-any (Q ∷ t) (suc i) zero P d = inl refl
get_or-set-any (Q ∷ t) (suc i) (suc j) P d = get_or-set-any t i j P d

pub small-set : (n : ℕ) (fs : List ℕ) → Small n fs → (i v : ℕ) → v < 262144 → Small n (set fs i v)
small-set n fs s i v h j lt = ⊎_elim
    (λ (e : get_or (set fs i v) j 0 ≡ get_or fs j 0). rw e (s j lt))
    (λ (e : get_or (set fs i v) j 0 ≡ v). rw e h)
    (get_or-set-any fs i j v 0)

pub h_ran : {n q c : ℕ} {ns fs : List ℕ} → FrameReady n (gate_h q ∷ []) c ns fs
    → Ran n (gate_h q ∷ []) c ns fs c ns (set (set fs q (get_or fs (n + q) 0)) (n + q) (get_or fs q 0))
unfolding put_run put_step
h_ran {n} {q} {c} {ns} {fs} r = record {
  same = refl;
  small = small-set n (set fs q (get_or fs (n + q) 0)) (small-set n fs r.small q (get_or fs (n + q) 0) (r.small (n + q) (omega arith))) (n + q) (get_or fs q 0) (r.small q (omega arith));
  counted = omega arith;
}

pub x_ran : {n q c : ℕ} {ns fs : List ℕ} → FrameReady n (gate_x q ∷ []) c ns fs → (w : ℕ) → w ≡ scaled_word MinusOne (get_or fs (n + q) 0)
    → Ran n (gate_x q ∷ []) c ns fs c ns (set fs (n + q) w)
unfolding put_run put_step
x_ran {n} {q} {c} {ns} {fs} r w e = record {
  same = rw e;
  small = small-set n fs r.small (n + q) w (omega (arith, r.small (n + q) (omega arith)));
  counted = omega arith;
}

pub z_ran : {n q c : ℕ} {ns fs : List ℕ} → FrameReady n (gate_z q ∷ []) c ns fs → (w : ℕ) → w ≡ scaled_word MinusOne (get_or fs q 0)
    → Ran n (gate_z q ∷ []) c ns fs c ns (set fs q w)
unfolding put_run put_step
z_ran {n} {q} {c} {ns} {fs} r w e = record {
  same = rw e;
  small = small-set n fs r.small q w (omega (arith, r.small q (omega arith)));
  counted = omega arith;
}

-- after one product
module _ (n : ℕ) {c : ℕ} {ns fs : List ℕ} {i l r p c' : ℕ} {ns' fs' : List ℕ} (small : Small n fs) (few : c < 65536) (phase : p < 4)
    (e : ProductPut i l r p c ns fs c' ns' fs') where
  pub mul_count : c' ≡ c + 1
  unfolding put_multiplied
  mul_count = ap (λ (s : Arena). s.count) e.same

  pub mul_small : Small n fs'
  unfolding put_multiplied
  mul_small = let f : fs' ≡ set fs i (4 * c + p) = ap (λ (s : Arena). s.frame) e.same in rw f (small-set n fs small i (4 * c + p) (omega arith))

pub s_ran : {n q c : ℕ} {ns fs : List ℕ} {c' : ℕ} {ns' fs' : List ℕ} → FrameReady n (gate_s q ∷ []) c ns fs
    → ProductPut q q (n + q) 3 c ns fs c' ns' fs' → Ran n (gate_s q ∷ []) c ns fs c' ns' fs'
unfolding put_run put_step
s_ran {n} {q} {c} {ns} {fs} r e = record {
  same = e.same;
  small = mul_small n r.small (omega arith) (omega arith) e;
  counted = omega (arith, mul_count n r.small (omega arith) (omega arith) e);
}

pub sdg_ran : {n q c : ℕ} {ns fs : List ℕ} {c' : ℕ} {ns' fs' : List ℕ} → FrameReady n (gate_sdg q ∷ []) c ns fs
    → ProductPut q q (n + q) 1 c ns fs c' ns' fs' → Ran n (gate_sdg q ∷ []) c ns fs c' ns' fs'
unfolding put_run put_step
sdg_ran {n} {q} {c} {ns} {fs} r e = record {
  same = e.same;
  small = mul_small n r.small (omega arith) (omega arith) e;
  counted = omega (arith, mul_count n r.small (omega arith) (omega arith) e);
}

pub two_ran : {n : ℕ} (g : Gate) {i l r j k m c : ℕ} {ns fs : List ℕ} {c₁ : ℕ} {ns₁ fs₁ : List ℕ} {c₂ : ℕ} {ns₂ fs₂ : List ℕ}
    → FrameReady n (g ∷ []) c ns fs → gate_nodes g ≡ 2
    → ((s : Arena) → put_step n g s ≡ put_multiplied j k m 0 (put_multiplied i l r 0 s))
    → ProductPut i l r 0 c ns fs c₁ ns₁ fs₁ → ProductPut j k m 0 c₁ ns₁ fs₁ c₂ ns₂ fs₂
    → Ran n (g ∷ []) c ns fs c₂ ns₂ fs₂
unfolding put_run
two_ran {n} g {i} {l} {r} {j} {k} {m} {c} {ns} {fs} rd two st e₁ e₂ =
    let h₁ = mul_count n rd.small (omega arith) (omega arith) e₁ in
    let s₁ = mul_small n rd.small (omega arith) (omega arith) e₁ in
    let h₂ = mul_count n s₁ (omega arith) (omega arith) e₂ in
    record {
      same = e₂.same ∙ rw e₁.same (sym (st (arena c ns fs)));
      small = mul_small n s₁ (omega arith) (omega arith) e₂;
      counted = omega arith;
    }

pub cnot_step : (n c t : ℕ) (s : Arena) → put_step n (gate_cnot c t) s ≡ put_multiplied (n + t) (n + c) (n + t) 0 (put_multiplied c c t 0 s)
unfolding put_step
cnot_step n c t s = refl

pub cz_step : (n c t : ℕ) (s : Arena) → put_step n (gate_cz c t) s ≡ put_multiplied t (n + c) t 0 (put_multiplied c c (n + t) 0 s)
unfolding put_step
cz_step n c t s = refl
