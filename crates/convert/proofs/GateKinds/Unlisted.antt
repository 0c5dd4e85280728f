-- A number outside document 01's list has no kind.
use mathlib.Core.Path.{◌≡◌, refl}
use Prim.Native.Nat.{ℕ, zero, suc}
use Rattle.convert.specs.Records.{Unsupported, kind_of}

pub outside : (k : ℕ) → (k ≡ 0 → ⊥) → (k ≡ 1 → ⊥) → (k ≡ 2 → ⊥) → (k ≡ 3 → ⊥) → (k ≡ 4 → ⊥) → (k ≡ 5 → ⊥) → (k ≡ 6 → ⊥) → (k ≡ 8 → ⊥) → (k ≡ 9 → ⊥) → (k ≡ 10 → ⊥) → (k ≡ 11 → ⊥) → (k ≡ 12 → ⊥) → (k ≡ 15 → ⊥) → (k ≡ 16 → ⊥) → (k ≡ 19 → ⊥) → (k ≡ 20 → ⊥) → Unsupported ≡ kind_of k
unfolding kind_of
outside zero e0 e1 e2 e3 e4 e5 e6 e8 e9 e10 e11 e12 e15 e16 e19 e20 = absurd (e0 refl)
outside (suc zero) e0 e1 e2 e3 e4 e5 e6 e8 e9 e10 e11 e12 e15 e16 e19 e20 = absurd (e1 refl)
outside (suc (suc zero)) e0 e1 e2 e3 e4 e5 e6 e8 e9 e10 e11 e12 e15 e16 e19 e20 = absurd (e2 refl)
outside (suc (suc (suc zero))) e0 e1 e2 e3 e4 e5 e6 e8 e9 e10 e11 e12 e15 e16 e19 e20 = absurd (e3 refl)
outside (suc (suc (suc (suc zero)))) e0 e1 e2 e3 e4 e5 e6 e8 e9 e10 e11 e12 e15 e16 e19 e20 = absurd (e4 refl)
outside (suc (suc (suc (suc (suc zero))))) e0 e1 e2 e3 e4 e5 e6 e8 e9 e10 e11 e12 e15 e16 e19 e20 = absurd (e5 refl)
outside (suc (suc (suc (suc (suc (suc zero)))))) e0 e1 e2 e3 e4 e5 e6 e8 e9 e10 e11 e12 e15 e16 e19 e20 = absurd (e6 refl)
outside (suc (suc (suc (suc (suc (suc (suc zero))))))) e0 e1 e2 e3 e4 e5 e6 e8 e9 e10 e11 e12 e15 e16 e19 e20 = refl
outside (suc (suc (suc (suc (suc (suc (suc (suc zero)))))))) e0 e1 e2 e3 e4 e5 e6 e8 e9 e10 e11 e12 e15 e16 e19 e20 = absurd (e8 refl)
outside (suc (suc (suc (suc (suc (suc (suc (suc (suc zero))))))))) e0 e1 e2 e3 e4 e5 e6 e8 e9 e10 e11 e12 e15 e16 e19 e20 = absurd (e9 refl)
outside (suc (suc (suc (suc (suc (suc (suc (suc (suc (suc zero)))))))))) e0 e1 e2 e3 e4 e5 e6 e8 e9 e10 e11 e12 e15 e16 e19 e20 = absurd (e10 refl)
outside (suc (suc (suc (suc (suc (suc (suc (suc (suc (suc (suc zero))))))))))) e0 e1 e2 e3 e4 e5 e6 e8 e9 e10 e11 e12 e15 e16 e19 e20 = absurd (e11 refl)
outside (suc (suc (suc (suc (suc (suc (suc (suc (suc (suc (suc (suc zero)))))))))))) e0 e1 e2 e3 e4 e5 e6 e8 e9 e10 e11 e12 e15 e16 e19 e20 = absurd (e12 refl)
outside (suc (suc (suc (suc (suc (suc (suc (suc (suc (suc (suc (suc (suc zero))))))))))))) e0 e1 e2 e3 e4 e5 e6 e8 e9 e10 e11 e12 e15 e16 e19 e20 = refl
outside (suc (suc (suc (suc (suc (suc (suc (suc (suc (suc (suc (suc (suc (suc zero)))))))))))))) e0 e1 e2 e3 e4 e5 e6 e8 e9 e10 e11 e12 e15 e16 e19 e20 = refl
outside (suc (suc (suc (suc (suc (suc (suc (suc (suc (suc (suc (suc (suc (suc (suc zero))))))))))))))) e0 e1 e2 e3 e4 e5 e6 e8 e9 e10 e11 e12 e15 e16 e19 e20 = absurd (e15 refl)
outside (suc (suc (suc (suc (suc (suc (suc (suc (suc (suc (suc (suc (suc (suc (suc (suc zero)))))))))))))))) e0 e1 e2 e3 e4 e5 e6 e8 e9 e10 e11 e12 e15 e16 e19 e20 = absurd (e16 refl)
outside (suc (suc (suc (suc (suc (suc (suc (suc (suc (suc (suc (suc (suc (suc (suc (suc (suc zero))))))))))))))))) e0 e1 e2 e3 e4 e5 e6 e8 e9 e10 e11 e12 e15 e16 e19 e20 = refl
outside (suc (suc (suc (suc (suc (suc (suc (suc (suc (suc (suc (suc (suc (suc (suc (suc (suc (suc zero)))))))))))))))))) e0 e1 e2 e3 e4 e5 e6 e8 e9 e10 e11 e12 e15 e16 e19 e20 = refl
outside (suc (suc (suc (suc (suc (suc (suc (suc (suc (suc (suc (suc (suc (suc (suc (suc (suc (suc (suc zero))))))))))))))))))) e0 e1 e2 e3 e4 e5 e6 e8 e9 e10 e11 e12 e15 e16 e19 e20 = absurd (e19 refl)
outside (suc (suc (suc (suc (suc (suc (suc (suc (suc (suc (suc (suc (suc (suc (suc (suc (suc (suc (suc (suc zero)))))))))))))))))))) e0 e1 e2 e3 e4 e5 e6 e8 e9 e10 e11 e12 e15 e16 e19 e20 = absurd (e20 refl)
outside (suc (suc (suc (suc (suc (suc (suc (suc (suc (suc (suc (suc (suc (suc (suc (suc (suc (suc (suc (suc (suc k))))))))))))))))))))) e0 e1 e2 e3 e4 e5 e6 e8 e9 e10 e11 e12 e15 e16 e19 e20 = refl
