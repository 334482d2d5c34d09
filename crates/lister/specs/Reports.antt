-- What is printed for a line of input that should name a word.
use Rattle.std.specs.Prelude.{◌≡◌, ℕ, ◌+◌, ◌-◌, ◌*◌, Bool, false, cond, ◌&&◌, List, ◌++◌, length, Some, None, codes, decimal, Option, Result, MatchResult, ◌==◌, nat_le, slice_index}
use Rattle.std.specs.declared.alloc.AllocError.{AllocError}
use Rattle.word.specs.declared.instructions.Instruction.{Instruction}
use Rattle.word.specs.Words.{decoded, is_valid}
use Rattle.lister.specs.Lines.{line_of}

-- Is a byte between two others, both included?
abbrev pub between : ℕ → ℕ → ℕ → Bool
between low high c = nat_le low c && nat_le c high

-- The value of a hexadecimal digit, in either case: 0 to 9 are 48 to 57, A to F 65 to 70, a to f 97 to 102.
abbrev pub hex_digit : ℕ → Option ℕ
hex_digit c =
    cond (between 48 57 c) (Some (c - 48))
    (cond (between 65 70 c) (Some (c - 55))
    (cond (between 97 102 c) (Some (c - 87))
    None))

-- Goes on with a value where there is one.
abbrev pub and_then : {X Y : Type 0} → Option X → (X → Option Y) → Option Y
and_then None f = None
and_then (Some x) f = f x

-- The word that a line of exactly four hexadecimal digits names.
abbrev pub word_in : List ℕ → Option ℕ
word_in t =
    cond (length t == 4)
    (and_then (hex_digit (slice_index t 0)) (λ a.
    and_then (hex_digit (slice_index t 1)) (λ b.
    and_then (hex_digit (slice_index t 2)) (λ c.
    and_then (hex_digit (slice_index t 3)) (λ d. Some (a * 4096 + b * 256 + c * 16 + d))))))
    None

-- A word that is valid is printed as its line, any other as a refusal.
abbrev pub report_of : Option Instruction → List ℕ
report_of None = codes "refused 16\n"
report_of (Some i) = line_of i

-- What is printed for an input line, by its number and its bytes without LF.
abbrev pub report_for : ℕ → Option ℕ → List ℕ
report_for number None = codes "line " ++ (decimal number ++ codes ": not a word, four hexadecimal digits expected\n")
report_for number (Some word) = report_of (decoded word)

abbrev pub report : ℕ → List ℕ → List ℕ
report number text = report_for number (word_in text)

-- Does it name a valid word?
abbrev pub is_listed_in : Option ℕ → Bool
is_listed_in None = false
is_listed_in (Some word) = is_valid word

abbrev pub is_listed : List ℕ → Bool
is_listed text = is_listed_in (word_in text)

-- A call answered b and added these bytes, or found no memory and added none.
abbrev pub Added : Result Bool AllocError → Bool → List ℕ → List ℕ → List ℕ → Type 0
Added r b text before after = MatchResult r (λ a. (a ≡ b) × (after ≡ before ++ text)) (λ _. after ≡ before)
