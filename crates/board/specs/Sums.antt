-- Sums about the definitions of the board, as they compute.
use Rattle.std.specs.Prelude.{◌≡◌, ℕ, true, false, cond, List, [], ◌∷◌, length, nat_lt, slice_index}
use Rattle.word.specs.Registers.{register}
use Rattle.word.specs.declared.instructions.Computation.TheVariants.{And, Or, Xor, Slt, Sltu, Add, Sub}
use Rattle.word.specs.declared.instructions.Shift.TheVariants.{Lsr, Asr}
use Rattle.word.specs.declared.instructions.Width.TheVariants.{Byte, Word}
use Rattle.word.specs.declared.instructions.Condition.TheVariants.{Zero, NotZero}
use Rattle.word.specs.declared.instructions.Instruction.{Instruction}
use Rattle.word.specs.declared.instructions.Instruction.TheVariants.{Compute, ComputeImmediate, Shift, Load, Store, Branch, BranchImmediate, LoadRegister, LoadConstant, Halt}
use Rattle.bus.specs.Meaning.{Cell, Fixed, InputPort, Nothing, Meaning}
use Rattle.bus.specs.Calls.{with_place}
use Rattle.bus.specs.declared.faults.BusFault.TheVariants.{WrongWay}
use Rattle.machine.specs.Machine.{Done, Halts, Refused, Quiet, outcome}
use Rattle.machine.specs.Board.{Halted, Spent, Faulted, OfWord, NotThere, Board, started, board_run}
use Rattle.board.specs.Core.{Registers, Core}
use Rattle.board.specs.Step.{OddAccess, OddTarget, ByBus, refusal_number, WordAct, act}
use Rattle.board.specs.Viking.{viking}

-- Registers with these values in r1, r2 and r3; the others are 0.
abbrev pub three : ℕ → ℕ → ℕ → Registers
three a b c = record { r0 = 0; r1 = a; r2 = b; r3 = c; r4 = 0; r5 = 0; r6 = 0; r7 = 0 }

-- A core with these values in r1, r2 and r3, at an address.
abbrev pub core : ℕ → ℕ → ℕ → ℕ → Core
core a b c next = record { registers = three a b c; next = next }

-- What an instruction does at address 0 with these values in r1 and r2; r3 is 0.
abbrev pub does : Instruction → ℕ → ℕ → WordAct
does i a b = act i (core a b 0 0)

-- It changes the core alone: to one at address 2, the word behind, with these values in r1, r2 and r3.
abbrev pub gives : ℕ → ℕ → ℕ → WordAct
gives a b c = Quiet (core a b c 2)

-- A bus with these bytes in cells from address 0 on, fixed cells with the byte 0x80 behind them up to 15, and an input port at 16, where these
-- bytes wait; one byte may wait, and none be sent.
abbrev pub bus : List ℕ → List ℕ → Meaning
bus bytes waiting = record {
  place = λ k. cond (nat_lt k (length bytes)) (Cell (slice_index bytes k)) (cond (nat_lt k 16) (Fixed 0x80) (cond (nat_lt k 18) InputPort Nothing));
  waiting = waiting;
  most_waiting = 1;
  sent = [];
  most_sent = 0;
}

-- Words with three registers: 0x8000 and 0x7FFF compared, a sum and a difference beyond the range, the bits of 0x0F0F and 0x00FF.
pub record RegisterSums : Type 0 where
  pub signed_less : does (Compute Slt (register 3) (register 1) (register 2)) 0x8000 0x7FFF ≡ gives 0x8000 0x7FFF 1
  pub unsigned_less : does (Compute Sltu (register 3) (register 1) (register 2)) 0x8000 0x7FFF ≡ gives 0x8000 0x7FFF 0
  pub added : does (Compute Add (register 3) (register 1) (register 2)) 0xFFFF 3 ≡ gives 0xFFFF 3 2
  pub subtracted : does (Compute Sub (register 3) (register 1) (register 2)) 3 5 ≡ gives 3 5 0xFFFE
  pub both_bits : does (Compute And (register 3) (register 1) (register 2)) 0x0F0F 0x00FF ≡ gives 0x0F0F 0x00FF 0x000F
  pub either_bit : does (Compute Or (register 3) (register 1) (register 2)) 0x0F0F 0x00FF ≡ gives 0x0F0F 0x00FF 0x0FFF
  pub one_bit : does (Compute Xor (register 3) (register 1) (register 2)) 0x0F0F 0x00FF ≡ gives 0x0F0F 0x00FF 0x0FF0
  pub halved : does (Shift Lsr (register 3) (register 1)) 0x8001 0 ≡ gives 0x8001 0 0x4000
  pub halved_signed : does (Shift Asr (register 3) (register 1)) 0x8001 0 ≡ gives 0x8001 0 0xC000

-- Words with an immediate: 0xFF is 255 for and, or and ldc, and −1 for the others.
pub record ImmediateSums : Type 0 where
  pub and_byte : does (ComputeImmediate And (register 1) 0xFF) 0x1234 0 ≡ Quiet (core 0x34 0 0 2)
  pub or_byte : does (ComputeImmediate Or (register 1) 0xFF) 0x1200 0 ≡ Quiet (core 0x12FF 0 0 2)
  pub xor_minus_one : does (ComputeImmediate Xor (register 1) 0xFF) 0x1234 0 ≡ Quiet (core 0xEDCB 0 0 2)
  pub less_than_minus_one : does (ComputeImmediate Slt (register 1) 0xFF) 5 0 ≡ Quiet (core 0 0 0 2)
  pub below_65535 : does (ComputeImmediate Sltu (register 1) 0xFF) 5 0 ≡ Quiet (core 1 0 0 2)
  pub minus_one_added : does (ComputeImmediate Add (register 1) 0xFF) 5 0 ≡ Quiet (core 4 0 0 2)
  pub minus_one_subtracted : does (ComputeImmediate Sub (register 1) 0xFF) 5 0 ≡ Quiet (core 6 0 0 2)
  pub minus_one : does (LoadRegister (register 1) 0xFF) 5 0 ≡ Quiet (core 0xFFFF 0 0 2)
  pub constant : does (LoadConstant (register 1) 0xFF) 0x1234 0 ≡ Quiet (core 0x34FF 0 0 2)

-- Branches: taken or not, on beyond 0xFFFE, back below 0, and to an odd address.
pub record BranchSums : Type 0 where
  pub word_behind : act (Compute And (register 0) (register 0) (register 0)) (core 0 0 0 0xFFFE) ≡ Quiet (core 0 0 0 0)
  pub to_register : act (Branch Zero (register 3) (register 1)) (core 0x1234 0 0 0) ≡ Quiet (core 0x1234 0 0 0x1234)
  pub not_zero : act (Branch NotZero (register 3) (register 1)) (core 0x1234 0 0 0) ≡ Quiet (core 0x1234 0 0 2)
  pub on : act (BranchImmediate Zero (register 3) 28) (core 0 0 0 0x100) ≡ Quiet (core 0 0 0 0x11E)
  pub back : act (BranchImmediate NotZero (register 1) 0xFA) (core 1 0 0 0x100) ≡ Quiet (core 1 0 0 0xFC)
  pub on_beyond : act (BranchImmediate Zero (register 3) 4) (core 0 0 0 0xFFFE) ≡ Quiet (core 0 0 0 4)
  pub back_below : act (BranchImmediate Zero (register 3) 0xFA) (core 0 0 0 0) ≡ Quiet (core 0 0 0 0xFFFC)
  pub odd_register : (b : Meaning) → outcome (act (Branch Zero (register 3) (register 1)) (core 5 0 0 0)) b ≡ Refused OddTarget
  pub odd_immediate : (b : Meaning) → outcome (act (BranchImmediate Zero (register 3) 3) (core 0 0 0 0)) b ≡ Refused OddTarget
  pub odd_not_taken : act (Branch NotZero (register 3) (register 1)) (core 5 0 0 0) ≡ Quiet (core 5 0 0 2)
  pub odd_number : refusal_number OddTarget ≡ 26

-- Loads and stores at the address in r2: cells with the bytes 0x12 and 0x80 at 0 and 1, fixed cells behind them, an input port at 16.
pub record BusSums : Type 0 where
  pub byte : outcome (does (Load Byte (register 3) (register 2)) 0 0) (bus (0x12 ∷ 0x80 ∷ []) []) ≡ Done (core 0 0 0x12 2) (bus (0x12 ∷ 0x80 ∷ []) []) []
  pub signed_byte : outcome (does (Load Byte (register 3) (register 2)) 0 1) (bus (0x12 ∷ 0x80 ∷ []) []) ≡ Done (core 0 1 0xFF80 2) (bus (0x12 ∷ 0x80 ∷ []) []) []
  pub word : outcome (does (Load Word (register 3) (register 2)) 0 0) (bus (0x12 ∷ 0x80 ∷ []) []) ≡ Done (core 0 0 0x1280 2) (bus (0x12 ∷ 0x80 ∷ []) []) []
  pub received : outcome (does (Load Word (register 3) (register 2)) 0 16) (bus [] (0x80 ∷ [])) ≡ Done (core 0 16 0x80 2) (bus [] []) []
  pub low_byte_stored : outcome (does (Store Byte (register 1) (register 2)) 0xABCD 1) (bus (0x12 ∷ 0x80 ∷ []) []) ≡
      Done (core 0xABCD 1 0 2) (with_place (bus (0x12 ∷ 0x80 ∷ []) []) 1 (Cell 0xCD)) (1 ∷ [])
  pub word_stored : outcome (does (Store Word (register 1) (register 2)) 0xABCD 0) (bus (0x12 ∷ 0x80 ∷ []) []) ≡
      Done (core 0xABCD 0 0 2) (with_place (with_place (bus (0x12 ∷ 0x80 ∷ []) []) 0 (Cell 0xAB)) 1 (Cell 0xCD)) (0 ∷ 1 ∷ [])
  pub fixed : outcome (does (Store Word (register 1) (register 2)) 0xABCD 4) (bus (0x12 ∷ 0x80 ∷ []) []) ≡ Refused (ByBus WrongWay)
  pub fixed_number : refusal_number (ByBus WrongWay) ≡ 33
  pub odd_load : (b : Meaning) → outcome (does (Load Word (register 3) (register 2)) 0 5) b ≡ Refused OddAccess
  pub odd_store : (b : Meaning) → outcome (does (Store Word (register 1) (register 2)) 0 5) b ≡ Refused OddAccess
  pub odd_number : refusal_number OddAccess ≡ 25
  pub halts : (b : Meaning) → outcome (act Halt (core 1 2 3 0x1234)) b ≡ Halts (core 1 2 3 0x1234)

-- The first program: `ldi r1,10`, `neg r1`, `hcf` in words of two bytes, in cells from address 0 on.
abbrev pub first_program : List ℕ
first_program = 0x99 ∷ 0x00 ∷ 0x99 ∷ 0x0A ∷ 0x20 ∷ 0x00 ∷ 0x61 ∷ 0x04 ∷ 0x00 ∷ 0x03 ∷ []

-- A board on a bus with these bytes in cells from address 0 on, with these values in r1, r2 and r3 and this next address.
abbrev pub board : List ℕ → Core → Board viking
board bytes c = started viking c (bus bytes [])

-- Runs: the first program up to its halt, in two parts, and off behind two words; and one word refused, which changes nothing.
pub record RunSums : Type 0 where
  pub whole : board_run viking 9 (board first_program (core 0 0 0 0)) ≡
      record { words = 5; end = Halted; left = record { core = core 0xFFF6 0 0 8; bus = bus first_program []; held = false; halted = true } }
  pub part : board_run viking 2 (board first_program (core 0 0 0 0)) ≡
      record { words = 2; end = Spent; left = board first_program (core 10 0 0 4) }
  pub rest : board_run viking 9 (board first_program (core 10 0 0 4)) ≡
      record { words = 3; end = Halted; left = record { core = core 0xFFF6 0 0 8; bus = bus first_program []; held = false; halted = true } }
  pub off : board_run viking 1 (board [] (core 0 0 0 0x100)) ≡
      record { words = 0; end = Faulted (NotThere 0x100); left = board [] (core 0 0 0 0x100) }
  pub refused : board_run viking 9 (board (0x43 ∷ 0x0A ∷ []) (core 0 5 0 0)) ≡
      record { words = 0; end = Faulted (OfWord 0 OddAccess); left = board (0x43 ∷ 0x0A ∷ []) (core 0 5 0 0) }

-- All of them.
pub record Sums : Type 0 where
  pub registers : RegisterSums
  pub immediates : ImmediateSums
  pub branches : BranchSums
  pub accesses : BusSums
  pub runs : RunSums
