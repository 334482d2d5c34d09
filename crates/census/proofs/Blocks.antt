-- The valid words, counted opcode by opcode.
use mathlib.Core.Path.{◌≡◌, refl, sym, ap, ◌∙◌}
use mathlib.Core.Bool.{Bool, cond}
use Prim.Native.Nat.{ℕ, zero, suc, ◌+◌}
use native.Mathlib.Nat.{add-zero, zero-add, add-suc, add_assoc}
use Rattle.word.specs.Words.{is_valid}
use Rattle.census.specs.Count.{how_many, valid_words}

-- those below m, and the n from m on
more : (p : ℕ → Bool) (m n : ℕ) → how_many p (m + n) ≡ how_many (λ k. p (m + k)) n + how_many p m
more p m zero = ap (how_many p) (add-zero m) ∙ sym (zero-add (how_many p m))
more p m (suc n) = ap (how_many p) (add-suc m n) ∙ ap (λ h. cond (p (m + n)) 1 0 + h) (more p m n) ∙ sym (add_assoc (cond (p (m + n)) 1 0) (how_many (λ k. p (m + k)) n) (how_many p m))

-- one opcode more: 4,096 words from m on
block : (m here below : ℕ) → how_many (λ k. is_valid (m + k)) 4096 ≡ here → how_many is_valid m ≡ below → how_many is_valid (m + 4096) ≡ here + below
block m here below e f = more is_valid m 4096 ∙ (λ i. e i + f i)

pub counted : 26625 ≡ valid_words
unfolding valid_words
counted = sym (
    block 0xF000 0 26625 refl (
    block 0xE000 0 26625 refl (
    block 0xD000 0 26625 refl (
    block 0xC000 0 26625 refl (
    block 0xB000 2112 24513 refl (
    block 0xA000 2112 22401 refl (
    block 0x9000 2048 20353 refl (
    block 0x8000 2048 18305 refl (
    block 0x7000 0 18305 refl (
    block 0x6000 2560 15745 refl (
    block 0x5000 2624 13121 refl (
    block 0x4000 2624 10497 refl (
    block 0x3000 2560 7937 refl (
    block 0x2000 2560 5377 refl (
    block 0x1000 2688 2689 refl (
    block 0 2689 0 refl refl)))))))))))))))
    )
