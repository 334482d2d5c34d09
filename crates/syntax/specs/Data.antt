-- Data behind a label: a string in double quotes, or numbers with one space between.
use Rattle.std.specs.Prelude.{ℕ, ◌-◌, ◌/◌, ◌%◌, Bool, false, cond, List, [], ◌∷◌, ◌++◌, length, ℤ, pos, negsuc, Some, None, Option, ◌==◌}
use Rattle.std.specs.List.{list_all}
use Rattle.syntax.specs.declared.cuts.Separator.TheVariants.{Space, Quote}
use Rattle.syntax.specs.declared.data.Data.{Data}
use Rattle.syntax.specs.declared.data.Data.TheVariants.{Text, Numbers}
use Rattle.syntax.specs.Characters.{is}
use Rattle.syntax.specs.Cuts.{pieces, before, behind}
use Rattle.syntax.specs.Numbers.{number}
use Rattle.syntax.specs.Rows.{fits_word}

-- The word of a number in range: negative numbers count down from 65,536.
abbrev pub word_of : ℤ → ℕ
word_of (pos n) = n
word_of (negsuc n) = 65535 - n

-- A word's bytes, high byte first.
abbrev pub bytes_of : ℕ → List ℕ
bytes_of w = w / 256 ∷ w % 256 ∷ []

-- Bytes with a zero byte behind them where their count is odd.
abbrev pub evened : List ℕ → List ℕ
evened bs = cond (length bs % 2 == 0) bs (bs ++ (0 ∷ []))

-- A string's bytes with a zero byte behind them, and one more where their count is then odd.
abbrev pub text_bytes : List ℕ → List ℕ
text_bytes t = evened (t ++ (0 ∷ []))

-- A number of data is from −32,768 to 65,535.
abbrev pub fits : Option ℤ → Bool
fits None = false
fits (Some z) = fits_word z

abbrev pub all_fit : List (List ℕ) → Bool
all_fit ps = list_all (λ p. fits (number p)) ps

-- Each number as one word.
abbrev pub value_of : Option ℤ → ℕ
value_of None = 0
value_of (Some z) = word_of z

abbrev pub number_bytes : List (List ℕ) → List ℕ
number_bytes [] = []
number_bytes (p ∷ ps) = bytes_of (value_of (number p)) ++ number_bytes ps

-- What data is: a string by its bytes, or numbers as they are written.
pub data Datum : Type 0 where
  string : List ℕ → Datum
  numbers : List (List ℕ) → Datum

-- Its bytes in memory.
abbrev pub data_bytes : Datum → List ℕ
data_bytes (string t) = text_bytes t
data_bytes (numbers ps) = number_bytes ps

-- A string, behind its first quote: no quote inside it, and nothing behind its second quote.
abbrev pub closed : List ℕ → Option (List ℕ) → Option Datum
closed t None = None
closed t (Some []) = Some (string t)
closed t (Some (c ∷ cs)) = None

abbrev pub string_in : List ℕ → Option Datum
string_in cs = closed (before Quote cs) (behind Quote cs)

abbrev pub numbers_in : List ℕ → Option Datum
numbers_in t = cond (all_fit (pieces Space t)) (Some (numbers (pieces Space t))) None

-- The data in some bytes, or none where it is not well formed or a number is out of range.
abbrev pub data_in : List ℕ → Option Datum
data_in [] = None
data_in (c ∷ cs) = cond (is "\"" c) (string_in cs) (numbers_in (c ∷ cs))

-- What the program's value says.
abbrev pub said_data : Data → Datum
said_data (Text t) = string t.now
said_data (Numbers t) = numbers (pieces Space t.now)
