-- What each instruction does to the core and the bus, in the order of the table of mnemonics.
-- A is the register RsA, and B the register RsB; where Imm is 1, A is the register Rst, and B the immediate.
use Rattle.std.specs.Prelude.{ℕ, ◌+◌, ◌%◌, ◌≢◌, Bool, cond, [], ◌∷◌, List, Ok, Err, Result, ◌==◌}
use Rattle.word.specs.declared.registers.Register.{Register}
use Rattle.word.specs.declared.instructions.Computation.{Computation}
use Rattle.word.specs.declared.instructions.Shift.{Shift}
use Rattle.word.specs.declared.instructions.Width.TheVariants.{Byte, Word}
use Rattle.word.specs.declared.instructions.Condition.{Condition}
use Rattle.word.specs.declared.instructions.Operation.{Operation}
use Rattle.word.specs.declared.instructions.Operation.TheVariants.{Computes, Branches, LoadsRegister, LoadsConstant}
use Rattle.word.specs.declared.instructions.Instruction.{Instruction}
use Rattle.word.specs.declared.instructions.Instruction.TheVariants.{Compute, ComputeImmediate, Shift as Shifted, Load, Store, Branch, BranchImmediate, LoadRegister, LoadConstant, Halt}
use Rattle.word.specs.Table.{row}
use Rattle.word.specs.Arithmetic.{sign_extend, extend, compute, ldr as ldr_result, ldc as ldc_result, shift_right, low_byte, is_taken, next_address, branch_target}
use Rattle.bus.specs.Meaning.{Meaning}
use Rattle.bus.specs.Calls.{fault_number, load_byte, load_word, store_byte, store_word}
use Rattle.bus.specs.declared.faults.BusFault.{BusFault}
use Rattle.bus.specs.declared.faults.BusFault.TheVariants.{OddAddress}
use Rattle.machine.specs.Machine.{Outcome, Done, Halts, Refused, Act, Quiet, Asks, outcome}
use Rattle.board.specs.Core.{Core, holds, with_register, with_next}

-- Why a word is refused: it accesses a word at an odd address, it branches to an odd address, or the bus refuses.
pub data Refusal : Type 0 where
  OddAccess : Refusal
  OddTarget : Refusal
  ByBus : BusFault → Refusal

-- The number of each; a bus's refusal keeps its own.
abbrev pub refusal_number : Refusal → ℕ
refusal_number OddAccess = 25
refusal_number OddTarget = 26
refusal_number (ByBus f) = fault_number f

-- What an instruction comes to on a bus.
abbrev pub WordOutcome : Type 0
WordOutcome = Outcome Core Meaning Refusal

-- What an instruction does: it changes the core alone, or it asks the bus.
abbrev pub WordAct : Type 0
WordAct = Act Core Meaning Refusal

-- The value B of an immediate, extended as the table says.
abbrev pub immediate : Operation → ℕ → ℕ
immediate x n = extend (row x).immediate n

-- The core at the word behind.
abbrev pub goes_on : Core → Core
goes_on c = with_next c (next_address c.next)

-- The core at the word behind, with a result in the register Rst.
abbrev pub results : Core → Register → ℕ → Core
results c rst v = goes_on (with_register c rst v)

-- What is further, at an even address; at an odd one a word is not accessed, and the bus is not asked.
abbrev pub accesses : ℕ → WordOutcome → WordOutcome
accesses a further = cond (a % 2 == 0) further (Refused OddAccess)

-- A load: the core that its value makes, and the bus after it; or the bus's refusal.
abbrev pub loaded : (ℕ → Core) → Result (ℕ × Meaning) BusFault → WordOutcome
loaded core (Ok p) = Done (core p.0) p.1 []
loaded core (Err f) = Refused (ByBus f)

-- A store of the bytes at these addresses: the bus after it; or the bus's refusal.
abbrev pub stored : Core → List ℕ → Result (Unit {0} × Meaning) BusFault → WordOutcome
stored core addresses (Ok p) = Done core p.1 addresses
stored core addresses (Err f) = Refused (ByBus f)

-- A branch that is taken goes to an even address; to an odd one it is refused, whatever the bus is.
abbrev pub goes_to : Core → ℕ → WordAct
goes_to c a = cond (a % 2 == 0) (Quiet (with_next c a)) (Asks (λ b. Refused OddTarget))

-- A branch, taken to the address a or not.
abbrev pub branches : Core → Bool → ℕ → WordAct
branches c taken a = cond taken (goes_to c a) (Quiet (goes_on c))

-- and, or, xor, slt, sltu, add, sub: Rst becomes what A and B come to.
abbrev pub compute_registers : Computation → Register → Register → Register → Core → WordAct
compute_registers x rst rsa rsb c = Quiet (results c rst (compute x (holds c rsa) (holds c rsb)))

-- The same with an immediate.
abbrev pub compute_immediate : Computation → Register → ℕ → Core → WordAct
compute_immediate x rst n c = Quiet (results c rst (compute x (holds c rst) (immediate (Computes x) n)))

-- lsr, asr: Rst becomes A, shifted right by one place.
abbrev pub shift : Shift → Register → Register → Core → WordAct
shift x rst rsa c = Quiet (results c rst (shift_right x (holds c rsa)))

-- ldb: Rst becomes the byte at the address B, sign-extended.
abbrev pub ldb : Register → Register → Core → WordAct
ldb rst rsb c = Asks (λ b. loaded (λ v. results c rst (sign_extend v)) (load_byte b (holds c rsb)))

-- ldw: Rst becomes the word at the address B.
abbrev pub ldw : Register → Register → Core → WordAct
ldw rst rsb c = Asks (λ b. accesses (holds c rsb) (loaded (λ v. results c rst v) (load_word b (holds c rsb))))

-- stb: the low byte of A is stored at the address B.
abbrev pub stb : Register → Register → Core → WordAct
stb rsa rsb c = Asks (λ b. stored (goes_on c) (holds c rsb ∷ []) (store_byte b (holds c rsb) (low_byte (holds c rsa))))

-- stw: A is stored as the word at the address B.
abbrev pub stw : Register → Register → Core → WordAct
stw rsa rsb c =
    Asks (λ b. accesses (holds c rsb) (stored (goes_on c) (holds c rsb ∷ (holds c rsb + 1) ∷ []) (store_word b (holds c rsb) (holds c rsa))))

-- bez, bnz: to B, if A is 0, or is not.
abbrev pub branch : Condition → Register → Register → Core → WordAct
branch x rsa rsb c = branches c (is_taken x (holds c rsa)) (holds c rsb)

-- The same with an immediate: to the address of the word behind, plus B.
abbrev pub branch_immediate : Condition → Register → ℕ → Core → WordAct
branch_immediate x rst n c = branches c (is_taken x (holds c rst)) (branch_target c.next (immediate (Branches x) n))

-- ldr: Rst becomes B.
abbrev pub ldr : Register → ℕ → Core → WordAct
ldr rst n c = Quiet (results c rst (ldr_result (immediate LoadsRegister n)))

-- ldc: Rst becomes 256 times itself, plus B.
abbrev pub ldc : Register → ℕ → Core → WordAct
ldc rst n c = Quiet (results c rst (ldc_result (holds c rst) (immediate LoadsConstant n)))

-- hcf: halts; the core stays.
abbrev pub hcf : Core → WordAct
hcf c = Asks (λ b. Halts c)

-- What an instruction does.
abbrev pub act : Instruction → Core → WordAct
act (Compute x rst rsa rsb) c = compute_registers x rst rsa rsb c
act (ComputeImmediate x rst n) c = compute_immediate x rst n c
act (Shifted x rst rsa) c = shift x rst rsa c
act (Load Byte rst rsb) c = ldb rst rsb c
act (Load Word rst rsb) c = ldw rst rsb c
act (Store Byte rsa rsb) c = stb rsa rsb c
act (Store Word rsa rsb) c = stw rsa rsb c
act (Branch x rsa rsb) c = branch x rsa rsb c
act (BranchImmediate x rst n) c = branch_immediate x rst n c
act (LoadRegister rst n) c = ldr rst n c
act (LoadConstant rst n) c = ldc rst n c
act Halt c = hcf c

-- No word is refused as a bus refuses an odd address: an odd access is refused before the bus is asked.
abbrev pub AskedBefore : Type 0
AskedBefore = (i : Instruction) (c : Core) (b : Meaning) → outcome (act i c) b ≢ Refused (ByBus OddAddress)
