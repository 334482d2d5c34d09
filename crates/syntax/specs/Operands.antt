-- Operands.
use Rattle.std.specs.Prelude.{ℕ, Bool, true, false, List, [], ◌∷◌, ℤ, Some, None, Option}
use Rattle.word.specs.declared.registers.Register.{Register}
use Rattle.word.specs.Registers.{register as numbered}
use Rattle.syntax.specs.declared.cuts.Separator.TheVariants.{Comma}
use Rattle.syntax.specs.declared.operands.Operand as Code
use Rattle.syntax.specs.declared.operands.Operand.TheVariants as O
use Rattle.syntax.specs.declared.operands.Operands as CodeList
use Rattle.syntax.specs.declared.operands.Operands.TheVariants as L
use Rattle.syntax.specs.Cuts.{pieces}
use Rattle.syntax.specs.Names.{register_in, is_name}
use Rattle.syntax.specs.Numbers.{number}

-- An operand is a register, a number or a name.
pub data Operand : Type 0 where
  register : Register → Operand
  numeral : ℤ → Operand
  name : List ℕ → Operand

-- Goes on with a value where there is one.
abbrev pub and_then : {X Y : Type 0} → Option X → (X → Option Y) → Option Y
and_then None f = None
and_then (Some x) f = f x

-- The operands of a line; no mnemonic takes more than three.
pub data Operands : Type 0 where
  none : Operands
  one : Operand → Operands
  two : Operand → Operand → Operands
  three : Operand → Operand → Operand → Operands

-- How numbers are read is left open here: exactly, as `number` does, or as the program holds them.
module _ (read : List ℕ → Option ℤ) where
  abbrev pub or_number : Option ℤ → Option Operand
  or_number None = None
  or_number (Some z) = Some (numeral z)

  abbrev pub or_name : Bool → List ℕ → Option Operand
  or_name true t = Some (name t)
  or_name false t = or_number (read t)

  abbrev pub or_register : Option Register → List ℕ → Option Operand
  or_register (Some r) t = Some (register r)
  or_register None t = or_name (is_name t) t

  abbrev pub operand_by : List ℕ → Option Operand
  operand_by t = or_register (register_in t) t

  abbrev pub after_three : Operand → Operand → Operand → List (List ℕ) → Option Operands
  after_three a b c [] = Some (three a b c)
  after_three a b c (p ∷ ps) = None

  abbrev pub after_two : Operand → Operand → List (List ℕ) → Option Operands
  after_two a b [] = Some (two a b)
  after_two a b (p ∷ ps) = and_then (operand_by p) (λ c. after_three a b c ps)

  abbrev pub after_one : Operand → List (List ℕ) → Option Operands
  after_one a [] = Some (one a)
  after_one a (p ∷ ps) = and_then (operand_by p) (λ b. after_two a b ps)

  abbrev pub after_none : List (List ℕ) → Option Operands
  after_none [] = None
  after_none (p ∷ ps) = and_then (operand_by p) (λ a. after_one a ps)

  -- What stands behind the mnemonic and its separator: nothing, or operands with commas between.
  abbrev pub operands_by : Option (List ℕ) → Option Operands
  operands_by None = Some none
  operands_by (Some t) = after_none (pieces Comma t)

abbrev pub operand_in : List ℕ → Option Operand
operand_in = operand_by number

abbrev pub operands_in : Option (List ℕ) → Option Operands
operands_in = operands_by number

-- What the program's values say.
abbrev pub said : Code.Operand → Operand
said (O.Register n) = register (numbered n)
said (O.Number z) = numeral z
said (O.Name t) = name t.now

abbrev pub said_all : CodeList.Operands → Operands
said_all L.None = none
said_all (L.One a) = one (said a)
said_all (L.Two a b) = two (said a) (said b)
said_all (L.Three a b c) = three (said a) (said b) (said c)
