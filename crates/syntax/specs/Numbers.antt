-- Numbers.
use Rattle.std.specs.Prelude.{ℕ, ◌+◌, ◌-◌, ◌*◌, min, Bool, true, false, cond, ◌||◌, List, [], ◌∷◌, ℤ, pos, negsuc, neg_ℤ, Some, None, Option, nat_lt}
use Rattle.std.specs.Option.{option_map}
use Rattle.syntax.specs.Characters.{byte, is, from}

-- What a digit is worth, in either case; 16 for a byte that is no digit of any base.
abbrev pub worth : ℕ → ℕ
worth c =
    cond (from "0" "9" c) (c - byte "0")
    (cond (from "a" "f" c) (c - byte "a" + 10)
    (cond (from "A" "F" c) (c - byte "A" + 10)
    16))

-- What digits of a base are worth behind digits that are worth n.
abbrev pub digits_after : ℕ → ℕ → List ℕ → Option ℕ
digits_after base n [] = Some n
digits_after base n (c ∷ cs) = cond (nat_lt (worth c) base) (digits_after base (n * base + worth c) cs) None

-- At least one digit.
abbrev pub digits : ℕ → List ℕ → Option ℕ
digits base [] = None
digits base (c ∷ cs) = digits_after base 0 (c ∷ cs)

-- Behind a first 0 stands nothing, or a letter for the base, in either case, and its digits.
abbrev pub after_zero : List ℕ → Option ℕ
after_zero [] = Some 0
after_zero (c ∷ cs) =
    cond (is "x" c || is "X" c) (digits 16 cs)
    (cond (is "o" c || is "O" c) (digits 8 cs)
    (cond (is "b" c || is "B" c) (digits 2 cs)
    None))

-- A number without its sign: decimal unless it begins with 0.
abbrev pub magnitude : List ℕ → Option ℕ
magnitude [] = None
magnitude (c ∷ cs) = cond (is "0" c) (after_zero cs) (digits 10 (c ∷ cs))

abbrev pub signed : Bool → ℕ → ℤ
signed true n = neg_ℤ (pos n)
signed false n = pos n

-- The number that some bytes write, exactly, with a minus or without; or none where they write none.
abbrev pub number : List ℕ → Option ℤ
number [] = None
number (c ∷ cs) =
    cond (is "-" c) (option_map (signed true) (magnitude cs)) (option_map (signed false) (magnitude (c ∷ cs)))

-- How far the program counts: a number beyond ±100,000,000,000 is held as this bound, which lies outside every range.
abbrev pub bound : ℕ
bound = 100000000000

abbrev pub held : ℤ → ℤ
held (pos n) = pos (min bound n)
held (negsuc n) = negsuc (min (bound - 1) n)

abbrev pub held_number : List ℕ → Option ℤ
held_number t = option_map held (number t)

-- The same of a number without its sign.
abbrev pub capped : Option ℕ → Option ℕ
capped o = option_map (min bound) o
