-- Registers and names.
use Rattle.std.specs.Prelude.{ℕ, ◌-◌, Bool, false, cond, not, ◌&&◌, ◌||◌, List, [], ◌∷◌, length, is_some, Some, None, Option, nat_le}
use Rattle.std.specs.List.{list_all}
use Rattle.std.specs.Option.{option_map}
use Rattle.word.specs.declared.registers.Register.{Register}
use Rattle.word.specs.Registers.{register}
use Rattle.syntax.specs.Characters.{byte, is, from}

-- r0 to r7, and other names for four of them: at is 0, sr 5, lr 6, sp 7.
abbrev pub register_number : ℕ → ℕ → Option ℕ
register_number a b =
    cond (is "r" a && from "0" "7" b) (Some (b - byte "0"))
    (cond (is "a" a && is "t" b) (Some 0)
    (cond (is "s" a && is "r" b) (Some 5)
    (cond (is "l" a && is "r" b) (Some 6)
    (cond (is "s" a && is "p" b) (Some 7)
    None))))

abbrev pub register_in : List ℕ → Option Register
register_in [] = None
register_in (a ∷ []) = None
register_in (a ∷ b ∷ []) = option_map register (register_number a b)
register_in (a ∷ b ∷ c ∷ cs) = None

-- A name begins with a letter or an underscore and goes on with these or digits.
abbrev pub begins : ℕ → Bool
begins c = from "a" "z" c || (from "A" "Z" c || is "_" c)

abbrev pub goes_on : ℕ → Bool
goes_on c = begins c || from "0" "9" c

-- It has at most 32 bytes.
abbrev pub has_name_form : List ℕ → Bool
has_name_form [] = false
has_name_form (c ∷ cs) = begins c && (list_all goes_on cs && nat_le (length cs) 31)

-- And it is no register.
abbrev pub is_name : List ℕ → Bool
is_name t = has_name_form t && not (is_some (register_in t))
