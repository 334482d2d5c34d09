-- The numbers of the 16-bit bus, each named once.
use Rattle.std.specs.Prelude.{ℕ, ◌*◌, ◌/◌, cond, nat_lt}

-- How many values a byte has.
abbrev pub byte_values : ℕ
byte_values = 256

-- How many bytes a word has.
abbrev pub word_bytes : ℕ
word_bytes = 2

-- How many values a word has.
abbrev pub word_values : ℕ
word_values = 65536

-- How many addresses a bus has.
abbrev pub addresses : ℕ
addresses = 65536

-- How many of `n` bytes count: whole words of them, and at most `most`, itself a number of whole words.
abbrev pub whole_words : ℕ → ℕ → ℕ
whole_words most n = cond (nat_lt most n) most (n / word_bytes * word_bytes)
