-- Registers put and got.
use Rattle.std.proofs.Common.{◌≡◌, ℕ, zero, suc, ◌<◌, Bool, true, false, cond, eqb, ◌≢◌, refl, sym, ap, ◌∙◌, arith, eqb-true, ne_eqb}
use Rattle.board.specs.Core.{Registers, get, put}

-- the eight registers one by one
registers_path : (g h : Registers) → g.r0 ≡ h.r0 → g.r1 ≡ h.r1 → g.r2 ≡ h.r2 → g.r3 ≡ h.r3 → g.r4 ≡ h.r4 → g.r5 ≡ h.r5 → g.r6 ≡ h.r6 → g.r7 ≡ h.r7 → g ≡ h
registers_path g h a0 a1 a2 a3 a4 a5 a6 a7 = path g.r0 g.r1 g.r2 g.r3 g.r4 g.r5 g.r6 g.r7 h.r0 h.r1 h.r2 h.r3 h.r4 h.r5 h.r6 h.r7 a0 a1 a2 a3 a4 a5 a6 a7
  where
    path : (x0 x1 x2 x3 x4 x5 x6 x7 y0 y1 y2 y3 y4 y5 y6 y7 : ℕ) → x0 ≡ y0 → x1 ≡ y1 → x2 ≡ y2 → x3 ≡ y3 → x4 ≡ y4 → x5 ≡ y5 → x6 ≡ y6 → x7 ≡ y7 →
        ◌≡◌ {A = Registers} (record { r0 = x0; r1 = x1; r2 = x2; r3 = x3; r4 = x4; r5 = x5; r6 = x6; r7 = x7 }) (record { r0 = y0; r1 = y1; r2 = y2; r3 = y3; r4 = y4; r5 = y5; r6 = y6; r7 = y7 })
    path x0 x1 x2 x3 x4 x5 x6 x7 y0 y1 y2 y3 y4 y5 y6 y7 a0 a1 a2 a3 a4 a5 a6 a7 = rw (a0, a1, a2, a3, a4, a5, a6, a7)

cond_twice : (t : Bool) (v x y : ℕ) → cond t v (cond t x y) ≡ cond t v y
cond_twice true v x y = refl
cond_twice false v x y = refl

cond_swap : (n m i v x y : ℕ) → n ≢ m → cond (eqb n i) v (cond (eqb m i) x y) ≡ cond (eqb m i) x (cond (eqb n i) v y)
cond_swap n m i v x y ne = go (eqb n i) (eqb m i) refl refl
  where
    go : (s t : Bool) → eqb n i ≡ s → eqb m i ≡ t → cond s v (cond t x y) ≡ cond t x (cond s v y)
    go true true p q = absurd (ne (eqb-true n i p ∙ sym (eqb-true m i q)))
    go true false p q = refl
    go false true p q = refl
    go false false p q = refl

pub put_put : (n v x : ℕ) (g : Registers) → put n v (put n x g) ≡ put n v g
put_put n v x g =
    let one = λ (i y : ℕ). cond_twice (eqb n i) v x y in
    registers_path _ _ (one 0 g.r0) (one 1 g.r1) (one 2 g.r2) (one 3 g.r3) (one 4 g.r4) (one 5 g.r5) (one 6 g.r6) (one 7 g.r7)

pub put_swap : (n m v x : ℕ) (g : Registers) → n ≢ m → put n v (put m x g) ≡ put m x (put n v g)
put_swap n m v x g ne =
    let one = λ (i y : ℕ). cond_swap n m i v x y ne in
    registers_path _ _ (one 0 g.r0) (one 1 g.r1) (one 2 g.r2) (one 3 g.r3) (one 4 g.r4) (one 5 g.r5) (one 6 g.r6) (one 7 g.r7)

pub get_same : (n v : ℕ) (g : Registers) → n < 8 → get n (put n v g) ≡ v
get_same zero v g h = refl
get_same (suc zero) v g h = refl
get_same (suc (suc zero)) v g h = refl
get_same (suc (suc (suc zero))) v g h = refl
get_same (suc (suc (suc (suc zero)))) v g h = refl
get_same (suc (suc (suc (suc (suc zero))))) v g h = refl
get_same (suc (suc (suc (suc (suc (suc zero)))))) v g h = refl
get_same (suc (suc (suc (suc (suc (suc (suc zero))))))) v g h = refl
get_same (suc (suc (suc (suc (suc (suc (suc (suc n)))))))) v g h = absurd (omega arith)

pub get_other : (q n v : ℕ) (g : Registers) → q ≢ n → get q (put n v g) ≡ get q g
get_other q n v g ne = go q ne
  where
    other : (i x : ℕ) → i ≢ n → cond (eqb n i) v x ≡ x
    other i x ne = ap (λ t. cond t v x) (ne_eqb n i (λ e. ne (sym e)))

    go : (q : ℕ) → q ≢ n → get q (put n v g) ≡ get q g
    go zero ne = other 0 g.r0 ne
    go (suc zero) ne = other 1 g.r1 ne
    go (suc (suc zero)) ne = other 2 g.r2 ne
    go (suc (suc (suc zero))) ne = other 3 g.r3 ne
    go (suc (suc (suc (suc zero)))) ne = other 4 g.r4 ne
    go (suc (suc (suc (suc (suc zero))))) ne = other 5 g.r5 ne
    go (suc (suc (suc (suc (suc (suc zero)))))) ne = other 6 g.r6 ne
    go (suc (suc (suc (suc (suc (suc (suc zero))))))) ne = other 7 g.r7 ne
    go (suc (suc (suc (suc (suc (suc (suc (suc q)))))))) ne = refl
