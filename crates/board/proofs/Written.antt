-- Registers written and read.
use Rattle.std.proofs.Common.{◌≡◌, ℕ, zero, suc, ◌<◌, ◌≢◌, refl, arith, ne_eqb}
use Rattle.std.proofs.lemmas.Bool.{cond-false}
use Rattle.board.specs.Core.{Registers, get, put, RegistersStand}

written : (n v : ℕ) (g : Registers) → n < 8 → get n (put n v g) ≡ v
written zero v g h = refl
written (suc zero) v g h = refl
written (suc (suc zero)) v g h = refl
written (suc (suc (suc zero))) v g h = refl
written (suc (suc (suc (suc zero)))) v g h = refl
written (suc (suc (suc (suc (suc zero))))) v g h = refl
written (suc (suc (suc (suc (suc (suc zero)))))) v g h = refl
written (suc (suc (suc (suc (suc (suc (suc zero))))))) v g h = refl
written (suc (suc (suc (suc (suc (suc (suc (suc n)))))))) v g h = absurd (omega arith)

others : (n q v : ℕ) (g : Registers) → n ≢ q → get q (put n v g) ≡ get q g
others n zero v g ne = cond-false _ _ _ (ne_eqb n 0 ne)
others n (suc zero) v g ne = cond-false _ _ _ (ne_eqb n 1 ne)
others n (suc (suc zero)) v g ne = cond-false _ _ _ (ne_eqb n 2 ne)
others n (suc (suc (suc zero))) v g ne = cond-false _ _ _ (ne_eqb n 3 ne)
others n (suc (suc (suc (suc zero)))) v g ne = cond-false _ _ _ (ne_eqb n 4 ne)
others n (suc (suc (suc (suc (suc zero))))) v g ne = cond-false _ _ _ (ne_eqb n 5 ne)
others n (suc (suc (suc (suc (suc (suc zero)))))) v g ne = cond-false _ _ _ (ne_eqb n 6 ne)
others n (suc (suc (suc (suc (suc (suc (suc zero))))))) v g ne = cond-false _ _ _ (ne_eqb n 7 ne)
others n (suc (suc (suc (suc (suc (suc (suc (suc q)))))))) v g ne = refl

pub registers_stand : RegistersStand
registers_stand = record { written = written; others = others }
