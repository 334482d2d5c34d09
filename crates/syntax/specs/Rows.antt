-- Rows: which lines there are, by mnemonic and operands.
use Rattle.std.specs.Prelude.{ℕ, Bool, true, false, cond, not, ◌&&◌, List, ℤ, pos, negsuc, Some, None, Ok, Err, Option, Result, ◌==◌, int_le}
use Rattle.word.specs.declared.registers.Register.{Register}
use Rattle.word.specs.declared.instructions.Computation.TheVariants.{And, Xor, Add}
use Rattle.word.specs.declared.instructions.Width.{Width}
use Rattle.word.specs.declared.instructions.Condition.{Condition}
use Rattle.word.specs.declared.instructions.Operation.{Operation}
use Rattle.word.specs.declared.instructions.Operation.TheVariants.{Computes, Shifts, Loads, Stores, Branches, LoadsRegister, LoadsConstant, Halts}
use Rattle.word.specs.declared.table.Shape.{Shape}
use Rattle.word.specs.declared.table.Shape.TheVariants.{ThreeRegisters, LastZero, MiddleZero, FirstZero, NoOperands}
use Rattle.word.specs.declared.table.Extension.{Extension}
use Rattle.word.specs.declared.table.Extension.TheVariants.{ZeroExtended, SignExtended}
use Rattle.word.specs.Registers.{register as numbered}
use Rattle.word.specs.Table.{row}
use Rattle.word.specs.Words.{is_zero, keeps_zero}
use Rattle.syntax.specs.declared.mnemonics.Pseudo.TheVariants.{Nop, Lsl, Not, Neg, Ldi, Lsrm, Asrm, Lslm}
use Rattle.syntax.specs.declared.mnemonics.Mnemonic.{Mnemonic}
use Rattle.syntax.specs.declared.mnemonics.Mnemonic.TheVariants.{OfWord, OfPseudo}
use Rattle.syntax.specs.declared.rows.LongShift.{LongShift}
use Rattle.syntax.specs.declared.rows.LongShift.TheVariants.{Logical, Arithmetic, Leftward}
use Rattle.syntax.specs.declared.rows.InstructionFault.{InstructionFault}
use Rattle.syntax.specs.declared.rows.InstructionFault.TheVariants.{UnknownMnemonic, NoSuchRow, OutOfRange, WrongRegister}
use Rattle.syntax.specs.declared.rows.Value as CodeValue
use Rattle.syntax.specs.declared.rows.Value.TheVariants as V
use Rattle.syntax.specs.declared.rows.Row as CodeRow
use Rattle.syntax.specs.declared.rows.Row.TheVariants as R
use Rattle.syntax.specs.Operands.{Operand, register, numeral, name, Operands, none, one, two, three}

-- A value: a number, or the address of a name.
pub data Value : Type 0 where
  plain : ℤ → Value
  address_of : List ℕ → Value

-- A line's row with its operands.
pub data Row : Type 0 where
  -- one word with Imm 0: Rst, RsA, RsB
  registers : Operation → Register → Register → Register → Row
  -- one word with Imm 1: Rst and the number
  immediate : Operation → Register → ℤ → Row
  -- neg r
  negation : Register → Row
  -- ldi r,c
  constant : Register → Value → Row
  -- ldb, ldw r,c
  load_from : Width → Register → Value → Row
  -- stb, stw r,c
  store_to : Width → Register → Value → Row
  -- bez, bnz r,name
  branch_to : Condition → Register → List ℕ → Row
  -- lsrm, asrm, lslm r,s
  long_shift : LongShift → Register → Register → Row

-- Register 0.
abbrev pub zero : Register
zero = numbered 0

-- No operands: nop is and r0,r0,r0.
abbrev pub of_none : Mnemonic → Option Row
of_none (OfWord Halts) = Some (registers Halts zero zero zero)
of_none (OfWord (Computes c)) = None
of_none (OfWord (Shifts s)) = None
of_none (OfWord (Loads w)) = None
of_none (OfWord (Stores w)) = None
of_none (OfWord (Branches c)) = None
of_none (OfWord LoadsRegister) = None
of_none (OfWord LoadsConstant) = None
of_none (OfPseudo Nop) = Some (registers (Computes And) zero zero zero)
of_none (OfPseudo Lsl) = None
of_none (OfPseudo Not) = None
of_none (OfPseudo Neg) = None
of_none (OfPseudo Ldi) = None
of_none (OfPseudo Lsrm) = None
of_none (OfPseudo Asrm) = None
of_none (OfPseudo Lslm) = None

-- One register: not r is xor r,-1.
abbrev pub of_one : Mnemonic → Register → Option Row
of_one (OfWord x) r = None
of_one (OfPseudo Nop) r = None
of_one (OfPseudo Lsl) r = None
of_one (OfPseudo Not) r = Some (immediate (Computes Xor) r (negsuc 0))
of_one (OfPseudo Neg) r = Some (negation r)
of_one (OfPseudo Ldi) r = None
of_one (OfPseudo Lsrm) r = None
of_one (OfPseudo Asrm) r = None
of_one (OfPseudo Lslm) r = None

-- Two registers: where a word has a field that must be 0, it may be left out; lsl r,s is add r,s,s.
abbrev pub leaves_out : Option Shape → Operation → Register → Register → Option Row
leaves_out (Some ThreeRegisters) x r s = None
leaves_out (Some LastZero) x r s = Some (registers x r s zero)
leaves_out (Some MiddleZero) x r s = Some (registers x r zero s)
leaves_out (Some FirstZero) x r s = Some (registers x zero r s)
leaves_out (Some NoOperands) x r s = None
leaves_out None x r s = None

abbrev pub of_two_registers : Mnemonic → Register → Register → Option Row
of_two_registers (OfWord x) r s = leaves_out (row x).shape x r s
of_two_registers (OfPseudo Nop) r s = None
of_two_registers (OfPseudo Lsl) r s = Some (registers (Computes Add) r s s)
of_two_registers (OfPseudo Not) r s = None
of_two_registers (OfPseudo Neg) r s = None
of_two_registers (OfPseudo Ldi) r s = None
of_two_registers (OfPseudo Lsrm) r s = Some (long_shift Logical r s)
of_two_registers (OfPseudo Asrm) r s = Some (long_shift Arithmetic r s)
of_two_registers (OfPseudo Lslm) r s = Some (long_shift Leftward r s)

-- A register and a number.
abbrev pub of_number : Mnemonic → Register → ℤ → Option Row
of_number (OfWord (Computes c)) r n = Some (immediate (Computes c) r n)
of_number (OfWord (Shifts s)) r n = None
of_number (OfWord (Loads w)) r n = Some (load_from w r (plain n))
of_number (OfWord (Stores w)) r n = Some (store_to w r (plain n))
of_number (OfWord (Branches c)) r n = Some (immediate (Branches c) r n)
of_number (OfWord LoadsRegister) r n = Some (immediate LoadsRegister r n)
of_number (OfWord LoadsConstant) r n = Some (immediate LoadsConstant r n)
of_number (OfWord Halts) r n = None
of_number (OfPseudo Nop) r n = None
of_number (OfPseudo Lsl) r n = None
of_number (OfPseudo Not) r n = None
of_number (OfPseudo Neg) r n = None
of_number (OfPseudo Ldi) r n = Some (constant r (plain n))
of_number (OfPseudo Lsrm) r n = None
of_number (OfPseudo Asrm) r n = None
of_number (OfPseudo Lslm) r n = None

-- A register and a name.
abbrev pub of_name : Mnemonic → Register → List ℕ → Option Row
of_name (OfWord (Computes c)) r t = None
of_name (OfWord (Shifts s)) r t = None
of_name (OfWord (Loads w)) r t = Some (load_from w r (address_of t))
of_name (OfWord (Stores w)) r t = Some (store_to w r (address_of t))
of_name (OfWord (Branches c)) r t = Some (branch_to c r t)
of_name (OfWord LoadsRegister) r t = None
of_name (OfWord LoadsConstant) r t = None
of_name (OfWord Halts) r t = None
of_name (OfPseudo Nop) r t = None
of_name (OfPseudo Lsl) r t = None
of_name (OfPseudo Not) r t = None
of_name (OfPseudo Neg) r t = None
of_name (OfPseudo Ldi) r t = Some (constant r (address_of t))
of_name (OfPseudo Lsrm) r t = None
of_name (OfPseudo Asrm) r t = None
of_name (OfPseudo Lslm) r t = None

-- Three registers: the fields of a word with Imm 0.
abbrev pub fills_fields : Option Shape → Operation → Register → Register → Register → Option Row
fills_fields (Some ThreeRegisters) x a b c = Some (registers x a b c)
fills_fields (Some LastZero) x a b c = Some (registers x a b c)
fills_fields (Some MiddleZero) x a b c = Some (registers x a b c)
fills_fields (Some FirstZero) x a b c = Some (registers x a b c)
fills_fields (Some NoOperands) x a b c = None
fills_fields None x a b c = None

-- Three registers, for a mnemonic of a word that has fields to fill.
abbrev pub of_three : Mnemonic → Register → Register → Register → Option Row
of_three (OfWord x) a b c = fills_fields (row x).shape x a b c
of_three (OfPseudo p) a b c = None

-- A register and any second operand.
abbrev pub of_two : Mnemonic → Register → Operand → Option Row
of_two m r (register s) = of_two_registers m r s
of_two m r (numeral n) = of_number m r n
of_two m r (name t) = of_name m r t

-- Of three operands each has to be a register: the third, then the second.
abbrev pub third_of : Mnemonic → Register → Register → Operand → Option Row
third_of m a b (register c) = of_three m a b c
third_of m a b (numeral n) = None
third_of m a b (name t) = None

abbrev pub second_of : Mnemonic → Register → Operand → Operand → Option Row
second_of m a (register b) c = third_of m a b c
second_of m a (numeral n) c = None
second_of m a (name t) c = None

-- The row of a mnemonic with these operands.
abbrev pub row_of : Mnemonic → Operands → Option Row
row_of m none = of_none m
row_of m (one (register r)) = of_one m r
row_of m (one (numeral n)) = None
row_of m (one (name t)) = None
row_of m (two (register r) b) = of_two m r b
row_of m (two (numeral n) b) = None
row_of m (two (name t) b) = None
row_of m (three (register a) b c) = second_of m a b c
row_of m (three (numeral n) b c) = None
row_of m (three (name t) b c) = None

-- Is a number from low to high?
abbrev pub inside : ℤ → ℤ → ℤ → Bool
inside low high z = int_le low z && int_le z high

-- The range of an immediate: 0 to 255 where it is zero-extended, −128 to 127 where it is sign-extended, and none where
-- the mnemonic takes none.
abbrev pub fits_byte : Option Extension → ℤ → Bool
fits_byte None z = false
fits_byte (Some ZeroExtended) z = inside (pos 0) (pos 255) z
fits_byte (Some SignExtended) z = inside (negsuc 127) (pos 127) z

-- The range of a value: −32,768 to 65,535.
abbrev pub fits_word : ℤ → Bool
fits_word z = inside (negsuc 32767) (pos 65535) z

abbrev pub fits_value : Value → Bool
fits_value (plain z) = fits_word z
fits_value (address_of t) = true

-- Are the numbers in their ranges?
abbrev pub in_range : Row → Bool
in_range (registers x a b c) = true
in_range (immediate x r z) = fits_byte (row x).immediate z
in_range (negation r) = true
in_range (constant r v) = fits_value v
in_range (load_from w r v) = fits_value v
in_range (store_to w r v) = fits_value v
in_range (branch_to c r t) = true
in_range (long_shift d r s) = true

-- Is a field that must be 0 register 0, is register 0 not named where the row writes it, are the two registers of a
-- long shift different?
abbrev pub registers_fit : Row → Bool
registers_fit (registers x a b c) = keeps_zero (row x).shape a b c
registers_fit (immediate x r z) = true
registers_fit (negation r) = not (is_zero r)
registers_fit (constant r v) = true
registers_fit (load_from w r v) = not (is_zero r)
registers_fit (store_to w r v) = not (is_zero r)
registers_fit (branch_to c r t) = not (is_zero r)
registers_fit (long_shift d r s) = not (r.number == s.number)

-- The number of each refusal of an instruction.
abbrev pub number_of : InstructionFault → ℕ
number_of UnknownMnemonic = 9
number_of NoSuchRow = 10
number_of OutOfRange = 11
number_of WrongRegister = 12

-- The questions of a row in order: its range, then its registers; before them, whether there is one.
abbrev pub asked : Row → Result Row InstructionFault
asked r = cond (in_range r) (cond (registers_fit r) (Ok r) (Err WrongRegister)) (Err OutOfRange)

abbrev pub judged : Option Row → Result Row InstructionFault
judged None = Err NoSuchRow
judged (Some r) = asked r

-- What the program's values say.
abbrev pub said_value : CodeValue.Value → Value
said_value (V.Number z) = plain z
said_value (V.Name t) = address_of t.now

abbrev pub said_row : CodeRow.Row → Row
said_row (R.Registers x a b c) = registers x (numbered a) (numbered b) (numbered c)
said_row (R.Immediate x r z) = immediate x (numbered r) z
said_row (R.Negation r) = negation (numbered r)
said_row (R.Constant r v) = constant (numbered r) (said_value v)
said_row (R.LoadFrom w r v) = load_from w (numbered r) (said_value v)
said_row (R.StoreTo w r v) = store_to w (numbered r) (said_value v)
said_row (R.BranchTo c r t) = branch_to c (numbered r) t.now
said_row (R.LongShift d r s) = long_shift d (numbered r) (numbered s)

abbrev pub mapped_ok : {X Y E : Type 0} → (X → Y) → Result X E → Result Y E
mapped_ok f (Ok x) = Ok (f x)
mapped_ok f (Err e) = Err e
