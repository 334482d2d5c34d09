-- Fields put side by side by shifts and ors.
use Rattle.std.proofs.Common.{◌≡◌, ℕ, ◌+◌, ◌*◌, ◌%◌, ◌^◌, ◌<◌, sym, refl, ap, ◌∙◌, arith}
use lib.Bits.{bit_or}
use Rattle.std.proofs.lemmas.Nat.{or_shifted}

-- y fits below the k zeros at the end of x
join : (x y q k : ℕ) → x ≡ q * 2 ^ k → y < 2 ^ k → bit_or x y ≡ x + y
join x y q k e h = ap (λ v. bit_or v y) e ∙ or_shifted q k y h ∙ ap (λ v. v + y) (sym e)

pub registers-packed : (o a b c p : ℕ) → o < 16 → a < 8 → b < 8 → c < 8 → p < 4
    → bit_or (bit_or (bit_or (bit_or (o * 4096 % 65536) (a * 256 % 65536)) (b * 32 % 65536)) (c * 4 % 65536)) p ≡ o * 4096 + a * 256 + b * 32 + c * 4 + p
registers-packed o a b c p ho ha hb hc hp =
    let eo : o * 4096 % 65536 ≡ o * 4096 = omega arith in
    let ea : a * 256 % 65536 ≡ a * 256 = omega arith in
    let eb : b * 32 % 65536 ≡ b * 32 = omega arith in
    let ec : c * 4 % 65536 ≡ c * 4 = omega arith in
    (λ i. bit_or (bit_or (bit_or (bit_or (eo i) (ea i)) (eb i)) (ec i)) p)
    ∙ ap (λ x. bit_or (bit_or (bit_or x (b * 32)) (c * 4)) p) (join (o * 4096) (a * 256) o 12 refl (omega arith))
    ∙ ap (λ x. bit_or (bit_or x (c * 4)) p) (join (o * 4096 + a * 256) (b * 32) (o * 16 + a) 8 (omega arith) (omega arith))
    ∙ ap (λ x. bit_or x p) (join (o * 4096 + a * 256 + b * 32) (c * 4) (o * 128 + a * 8 + b) 5 (omega arith) (omega arith))
    ∙ join (o * 4096 + a * 256 + b * 32 + c * 4) p (o * 1024 + a * 64 + b * 8 + c) 2 (omega arith) (omega arith)

pub immediate-packed : (o a n : ℕ) → o < 16 → a < 8 → n < 256
    → bit_or (bit_or (bit_or (o * 4096 % 65536) 2048) (a * 256 % 65536)) n ≡ o * 4096 + 2048 + a * 256 + n
immediate-packed o a n ho ha hn =
    let eo : o * 4096 % 65536 ≡ o * 4096 = omega arith in
    let ea : a * 256 % 65536 ≡ a * 256 = omega arith in
    (λ i. bit_or (bit_or (bit_or (eo i) 2048) (ea i)) n)
    ∙ ap (λ x. bit_or (bit_or x (a * 256)) n) (join (o * 4096) 2048 o 12 refl (omega arith))
    ∙ ap (λ x. bit_or x n) (join (o * 4096 + 2048) (a * 256) (o * 2 + 1) 11 (omega arith) (omega arith))
    ∙ join (o * 4096 + 2048 + a * 256) n (o * 16 + 8 + a) 8 (omega arith) (omega arith)
