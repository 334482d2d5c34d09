-- Words and the instructions that they say.
use Rattle.std.specs.Prelude.{ℕ, ◌+◌, ◌*◌, ◌/◌, ◌%◌, Bool, true, false, cond, ◌&&◌, is_some, Some, None, Option, ◌==◌}
use Rattle.word.specs.declared.registers.Register.{Register}
use Rattle.word.specs.declared.instructions.Operation.{Operation}
use Rattle.word.specs.declared.instructions.Operation.TheVariants.{Computes, Shifts, Loads, Stores, Branches, LoadsRegister, LoadsConstant, Halts}
use Rattle.word.specs.declared.instructions.Instruction.{Instruction}
use Rattle.word.specs.declared.instructions.Instruction.TheVariants.{Compute, ComputeImmediate, Shift, Load, Store, Branch, BranchImmediate, LoadRegister, LoadConstant, Halt}
use Rattle.word.specs.declared.instructions.Fields.{Fields}
use Rattle.word.specs.declared.instructions.Fields.TheVariants.{Registers, Immediate}
use Rattle.word.specs.declared.table.Shape.{Shape}
use Rattle.word.specs.declared.table.Shape.TheVariants.{ThreeRegisters, LastZero, MiddleZero, FirstZero, NoOperands}
use Rattle.word.specs.Registers.{register}
use Rattle.word.specs.Table.{row, coded, immediately_coded}

-- A word with Imm 0: bits 15–12 the opcode, 11 Imm, 10–8 Rst, 7–5 RsA, 4–2 RsB, 1–0 op2.
abbrev pub register_word : ℕ → Register → Register → Register → ℕ → ℕ
register_word opcode rst rsa rsb op2 = opcode * 4096 + rst.number * 256 + rsa.number * 32 + rsb.number * 4 + op2

-- A word with Imm 1: bits 15–12 the opcode, 11 Imm, 10–8 Rst, 7–0 the immediate.
abbrev pub immediate_word : ℕ → Register → ℕ → ℕ
immediate_word opcode rst n = opcode * 4096 + 2048 + rst.number * 256 + n

-- Which field each operand of an instruction fills; a field that no operand fills is 0.
abbrev pub fields : Instruction → Fields
fields (Compute c target left right) = Registers (Computes c) target left right
fields (ComputeImmediate c r n) = Immediate (Computes c) r n
fields (Shift s target source) = Registers (Shifts s) target source (register 0)
fields (Load w target address) = Registers (Loads w) target (register 0) address
fields (Store w source address) = Registers (Stores w) (register 0) source address
fields (Branch c tested target) = Registers (Branches c) (register 0) tested target
fields (BranchImmediate c tested n) = Immediate (Branches c) tested n
fields (LoadRegister r n) = Immediate LoadsRegister r n
fields (LoadConstant r n) = Immediate LoadsConstant r n
fields Halt = Registers Halts (register 0) (register 0) (register 0)

-- The word with these fields.
abbrev pub packed : Fields → ℕ
packed (Registers x rst rsa rsb) = register_word (row x).opcode rst rsa rsb (row x).op2
packed (Immediate x rst n) = immediate_word (row x).opcode rst n

-- The word of an instruction.
abbrev pub encoded : Instruction → ℕ
encoded i = packed (fields i)

-- Is this register 0?
abbrev pub is_zero : Register → Bool
is_zero r = r.number == 0

-- The register fields that must be 0 are; never where a mnemonic has no words with register fields.
abbrev pub keeps_zero : Option Shape → Register → Register → Register → Bool
keeps_zero (Some ThreeRegisters) rst rsa rsb = true
keeps_zero (Some LastZero) rst rsa rsb = is_zero rsb
keeps_zero (Some MiddleZero) rst rsa rsb = is_zero rsa
keeps_zero (Some FirstZero) rst rsa rsb = is_zero rst
keeps_zero (Some NoOperands) rst rsa rsb = is_zero rst && (is_zero rsa && is_zero rsb)
keeps_zero None rst rsa rsb = false

-- The instruction of an operation with these registers.
abbrev pub with_registers : Operation → Register → Register → Register → Option Instruction
with_registers (Computes c) rst rsa rsb = Some (Compute c rst rsa rsb)
with_registers (Shifts s) rst rsa rsb = Some (Shift s rst rsa)
with_registers (Loads w) rst rsa rsb = Some (Load w rst rsb)
with_registers (Stores w) rst rsa rsb = Some (Store w rsa rsb)
with_registers (Branches c) rst rsa rsb = Some (Branch c rsa rsb)
with_registers LoadsRegister rst rsa rsb = None
with_registers LoadsConstant rst rsa rsb = None
with_registers Halts rst rsa rsb = Some Halt

-- The instruction of an operation with this immediate.
abbrev pub with_immediate : Operation → Register → ℕ → Option Instruction
with_immediate (Computes c) rst n = Some (ComputeImmediate c rst n)
with_immediate (Shifts s) rst n = None
with_immediate (Loads w) rst n = None
with_immediate (Stores w) rst n = None
with_immediate (Branches c) rst n = Some (BranchImmediate c rst n)
with_immediate LoadsRegister rst n = Some (LoadRegister rst n)
with_immediate LoadsConstant rst n = Some (LoadConstant rst n)
with_immediate Halts rst n = None

-- What the operation that the codes name makes of the fields: nothing where there is none, or where a field that must
-- be 0 is not.
abbrev pub of_registers : Option Operation → Register → Register → Register → Option Instruction
of_registers None rst rsa rsb = None
of_registers (Some x) rst rsa rsb = cond (keeps_zero (row x).shape rst rsa rsb) (with_registers x rst rsa rsb) None

abbrev pub of_immediate : Option Operation → Register → ℕ → Option Instruction
of_immediate None rst n = None
of_immediate (Some x) rst n = with_immediate x rst n

-- The instruction of a word, or none.
abbrev pub decoded : ℕ → Option Instruction
decoded w =
    cond (w / 2048 % 2 == 0)
    (of_registers (coded (w / 4096) (w % 4)) (register (w / 256)) (register (w / 32)) (register (w / 4)))
    (of_immediate (immediately_coded (w / 4096)) (register (w / 256)) (w % 256))

-- A word is valid where it has an instruction.
abbrev pub is_valid : ℕ → Bool
is_valid w = is_some (decoded w)
