-- The line of an instruction, as bytes.
use Rattle.std.specs.Prelude.{ℕ, ◌+◌, ◌-◌, cond, List, [], ◌∷◌, ◌++◌, Some, None, Option, codes, decimal, nat_lt}
use Rattle.word.specs.declared.registers.Register.{Register}
use Rattle.word.specs.declared.instructions.Instruction.{Instruction}
use Rattle.word.specs.declared.instructions.Fields.{Fields}
use Rattle.word.specs.declared.instructions.Fields.TheVariants.{Registers, Immediate}
use Rattle.word.specs.declared.table.Shape.{Shape}
use Rattle.word.specs.declared.table.Shape.TheVariants.{ThreeRegisters, LastZero, MiddleZero, FirstZero, NoOperands}
use Rattle.word.specs.declared.table.Extension.{Extension}
use Rattle.word.specs.declared.table.Extension.TheVariants.{ZeroExtended, SignExtended}
use Rattle.word.specs.Table.{row}
use Rattle.word.specs.Words.{fields}

-- A digit's character.
abbrev pub digit : ℕ → ℕ
digit d = 48 + d

-- A byte that stands for −128 to 127, in decimal with its sign.
abbrev pub signed_decimal : ℕ → List ℕ
signed_decimal n = cond (nat_lt n 128) (decimal n) (codes "-" ++ decimal (256 - n))

-- An immediate in decimal, with no needless 0 in front: signed where the word extends its sign.
abbrev pub immediate_text : Option Extension → ℕ → List ℕ
immediate_text None n = decimal n
immediate_text (Some ZeroExtended) n = decimal n
immediate_text (Some SignExtended) n = signed_decimal n

-- r0 to r7.
abbrev pub register_text : Register → List ℕ
register_text r = codes "r" ++ (digit r.number ∷ [])

-- Operands with commas between.
abbrev pub three_registers : Register → Register → Register → List ℕ
three_registers a b c = register_text a ++ (codes "," ++ (register_text b ++ (codes "," ++ register_text c)))

abbrev pub register_and_number : Option Extension → Register → ℕ → List ℕ
register_and_number e a n = register_text a ++ (codes "," ++ immediate_text e n)

-- A space and the operands, for a mnemonic that has operands.
abbrev pub operands : Option Shape → List ℕ → List ℕ
operands (Some ThreeRegisters) text = codes " " ++ text
operands (Some LastZero) text = codes " " ++ text
operands (Some MiddleZero) text = codes " " ++ text
operands (Some FirstZero) text = codes " " ++ text
operands None text = codes " " ++ text
operands (Some NoOperands) text = []

-- A tab, the mnemonic, its operands, LF.
abbrev pub line_with : List ℕ → List ℕ → List ℕ
line_with name rest = codes "\t" ++ (name ++ (rest ++ codes "\n"))

abbrev pub line_of_fields : Fields → List ℕ
line_of_fields (Registers x a b c) = line_with (row x).name (operands (row x).shape (three_registers a b c))
line_of_fields (Immediate x a n) = line_with (row x).name (codes " " ++ register_and_number (row x).immediate a n)

-- The line of an instruction.
abbrev pub line_of : Instruction → List ℕ
line_of i = line_of_fields (fields i)
