-- How many words are valid.
use Rattle.std.specs.Prelude.{Bool, cond, ℕ, zero, suc, ◌+◌}
use Rattle.word.specs.Words.{is_valid}

-- How many numbers below n pass a test.
abbrev pub how_many : (ℕ → Bool) → ℕ → ℕ
how_many p zero = 0
how_many p (suc n) = cond (p n) 1 0 + how_many p n

-- How many of the 65,536 words are valid.
unfoldable pub valid_words : ℕ
valid_words = how_many is_valid 65536
