-- The table of mnemonics.
use Rattle.std.specs.Prelude.{◌≡◌, ℕ, Bool, cond, ◌&&◌, List, [], ◌∷◌, map, is_some, Some, None, codes, Option, ◌==◌}
use Rattle.std.specs.List.{AllByRecursion}
use Rattle.std.specs.Str.{bytes_eq}
use Rattle.word.specs.declared.instructions.Computation.TheVariants.{And, Or, Xor, Slt, Sltu, Add, Sub}
use Rattle.word.specs.declared.instructions.Shift.TheVariants.{Lsr, Asr}
use Rattle.word.specs.declared.instructions.Width.TheVariants.{Byte, Word}
use Rattle.word.specs.declared.instructions.Condition.TheVariants.{Zero, NotZero}
use Rattle.word.specs.declared.instructions.Operation.{Operation}
use Rattle.word.specs.declared.instructions.Operation.TheVariants.{Computes, Shifts, Loads, Stores, Branches, LoadsRegister, LoadsConstant, Halts}
use Rattle.word.specs.declared.table.Shape.{Shape}
use Rattle.word.specs.declared.table.Shape.TheVariants.{ThreeRegisters, LastZero, MiddleZero, FirstZero, NoOperands}
use Rattle.word.specs.declared.table.Extension.{Extension}
use Rattle.word.specs.declared.table.Extension.TheVariants.{ZeroExtended, SignExtended}
use Rattle.word.specs.declared.table.Mnemonic.{Mnemonic}

-- A row: the mnemonic's text, its opcode, its op2 where Imm is 0, which register fields are free there, and how an
-- immediate is extended where Imm is 1. A shape or an extension is None where the mnemonic has no words with that Imm.
pub record Row : Type 0 where
  pub name : List ℕ
  pub opcode : ℕ
  pub op2 : ℕ
  pub shape : Option Shape
  pub immediate : Option Extension

abbrev pub line : List ℕ → ℕ → ℕ → Option Shape → Option Extension → Row
line n o p s e = record { name = n; opcode = o; op2 = p; shape = s; immediate = e }

-- The table: the row of each operation.
abbrev pub row : Operation → Row
row (Computes And) = line (codes "and") 0 0 (Some ThreeRegisters) (Some ZeroExtended)
row (Computes Or) = line (codes "or") 1 0 (Some ThreeRegisters) (Some ZeroExtended)
row (Computes Xor) = line (codes "xor") 2 0 (Some ThreeRegisters) (Some SignExtended)
row (Computes Slt) = line (codes "slt") 3 0 (Some ThreeRegisters) (Some SignExtended)
row (Computes Sltu) = line (codes "sltu") 4 0 (Some ThreeRegisters) (Some SignExtended)
row (Computes Add) = line (codes "add") 5 0 (Some ThreeRegisters) (Some SignExtended)
row (Computes Sub) = line (codes "sub") 6 0 (Some ThreeRegisters) (Some SignExtended)
row (Shifts Lsr) = line (codes "lsr") 0 1 (Some LastZero) None
row (Shifts Asr) = line (codes "asr") 1 1 (Some LastZero) None
row (Loads Byte) = line (codes "ldb") 0 2 (Some MiddleZero) None
row (Loads Word) = line (codes "ldw") 4 2 (Some MiddleZero) None
row (Stores Byte) = line (codes "stb") 1 2 (Some FirstZero) None
row (Stores Word) = line (codes "stw") 5 2 (Some FirstZero) None
row (Branches Zero) = line (codes "bez") 10 3 (Some FirstZero) (Some SignExtended)
row (Branches NotZero) = line (codes "bnz") 11 3 (Some FirstZero) (Some SignExtended)
row LoadsRegister = line (codes "ldr") 8 0 None (Some SignExtended)
row LoadsConstant = line (codes "ldc") 9 0 None (Some ZeroExtended)
row Halts = line (codes "hcf") 0 3 (Some NoOperands) None

-- The operations in the order of the table.
abbrev pub operations : List Operation
operations =
    Computes And ∷ Computes Or ∷ Computes Xor ∷ Computes Slt ∷ Computes Sltu ∷ Computes Add ∷ Computes Sub
    ∷ Shifts Lsr ∷ Shifts Asr ∷ Loads Byte ∷ Loads Word ∷ Stores Byte ∷ Stores Word
    ∷ Branches Zero ∷ Branches NotZero ∷ LoadsRegister ∷ LoadsConstant ∷ Halts ∷ []

-- A row with its operation.
pub record Entry : Type 0 where
  pub operation : Operation
  pub says : Row

abbrev pub entry : Operation → Entry
entry x = record { operation = x; says = row x }

abbrev pub entries : List Entry
entries = map entry operations

-- What an entry of the program's table says.
abbrev pub row_in : Mnemonic → Row
row_in m = line m.name.now m.opcode m.op2 m.shape m.immediate

abbrev pub entry_in : Mnemonic → Entry
entry_in m = record { operation = m.operation; says = row_in m }

-- The operation of the first row that passes a test.
abbrev pub first : (Row → Bool) → List Entry → Option Operation
first p [] = None
first p (x ∷ xs) = cond (p x.says) (Some x.operation) (first p xs)

-- The operation with this opcode and this op2.
abbrev pub is_coded : ℕ → ℕ → Row → Bool
is_coded o p r = r.opcode == o && r.op2 == p

abbrev pub coded : ℕ → ℕ → Option Operation
coded o p = first (is_coded o p) entries

-- The operation with this opcode that takes an immediate.
abbrev pub is_immediately_coded : ℕ → Row → Bool
is_immediately_coded o r = r.opcode == o && is_some r.immediate

abbrev pub immediately_coded : ℕ → Option Operation
immediately_coded o = first (is_immediately_coded o) entries

-- The operation with this mnemonic.
abbrev pub is_named : List ℕ → Row → Bool
is_named n r = bytes_eq r.name n

abbrev pub named : List ℕ → Option Operation
named n = first (is_named n) entries

-- No mnemonic stands twice.
abbrev pub NamesStand : Type 0
NamesStand = AllByRecursion (λ x. named (row x).name ≡ Some x) operations

-- No opcode stands twice with one op2.
abbrev pub CodesStand : Type 0
CodesStand = AllByRecursion (λ x. coded (row x).opcode (row x).op2 ≡ Some x) operations
