-- Sums about the definitions of the reading, as they compute.
use Rattle.std.specs.Prelude.{◌≡◌, ℕ, ◌/◌, cond, codes, List, [], ◌∷◌, length, pos, ◌==◌, nat_lt, slice_index}
use Rattle.word.specs.Registers.{register}
use Rattle.word.specs.declared.instructions.Width.TheVariants.{Byte, Word}
use Rattle.word.specs.declared.instructions.Condition.TheVariants.{Zero, NotZero}
use Rattle.bus.specs.Meaning.{Cell, CharacterPort, InputPort, Nothing, Meaning}
use Rattle.bus.specs.Calls.{with_place}
use Rattle.bus.specs.declared.faults.BusFault.{BusFault}
use Rattle.bus.specs.declared.faults.BusFault.TheVariants.{WrongWay, NoneWaiting, NoneSent}
use Rattle.machine.specs.Machine.{Done, Refused}
use Rattle.machine.specs.Board.{HaltedBefore, OfWord, End, Halted, Spent, Faulted, started}
use Rattle.machine.specs.Program.{image}
use Rattle.machine.specs.Reading.{opened}
use Rattle.machine.specs.Calls.{Call, Run, Give, Take, Answer, Ran, Given, Taken, Denied, calls, board_call, reading_call}
use Rattle.board.specs.Core.{Core}
use Rattle.board.specs.Step.{Refusal, OddAccess, OddTarget, ByBus}
use Rattle.board.specs.Viking.{viking}
use Rattle.board.specs.Sums.{core, bus}
use Rattle.syntax.specs.declared.rows.LongShift.{LongShift}
use Rattle.syntax.specs.declared.rows.LongShift.TheVariants.{Logical, Arithmetic, Leftward}
use Rattle.syntax.specs.Rows.{plain, negation, constant, load_from, store_to, branch_to, long_shift}
use Rattle.reading.specs.Strokes.{LineOutcome, stroke, cost}
use Rattle.reading.specs.Programs.{program}

-- A core with these values in r0, r1, r2 and r3, at an address.
abbrev pub core_at : ℕ → ℕ → ℕ → ℕ → ℕ → Core
core_at v a b c next = record { registers = record { r0 = v; r1 = a; r2 = b; r3 = c; r4 = 0; r5 = 0; r6 = 0; r7 = 0 }; next = next }

-- The bytes 0x12 and 0x80 in cells, fixed cells behind them.
abbrev pub cells : Meaning
cells = bus (0x12 ∷ 0x80 ∷ []) []

-- neg and ldi: 5 becomes −5, also where register 0 is not 0; the line behind 0xFFFE is at 2.
pub record PlainSums : Type 0 where
  pub negative : (m : Meaning) → stroke 0 (negation (register 1)) (core_at 7 5 0 0 0) m ≡ Done (core_at 0 0xFFFB 0 0 4) m []
  pub constant : (m : Meaning) → stroke 2080 (constant (register 1) (plain (pos 2080))) (core 5 0 0 0xFFFE) m ≡ Done (core 2080 0 0 2) m []

-- Loads and stores: the address is in register 0 then; a fault carries the address of the third word, and changes nothing.
pub record AccessSums : Type 0 where
  pub signed_byte : stroke 1 (load_from Byte (register 3) (plain (pos 1))) (core 0 0 0 0) cells ≡ Done (core_at 1 0 0 0xFF80 6) cells []
  pub word : stroke 0 (load_from Word (register 3) (plain (pos 0))) (core_at 9 0 0 0 0) cells ≡ Done (core_at 0 0 0 0x1280 6) cells []
  pub odd_load : (m : Meaning) → stroke 5 (load_from Word (register 3) (plain (pos 5))) (core 0 0 0 0) m ≡ Refused (OfWord 4 OddAccess)
  pub low_byte_stored : stroke 1 (store_to Byte (register 1) (plain (pos 1))) (core 0xABCD 0 0 0) cells ≡ Done (core_at 1 0xABCD 0 0 6) (with_place cells 1 (Cell 0xCD)) (1 ∷ [])
  pub word_stored : stroke 0 (store_to Word (register 1) (plain (pos 0))) (core 0xABCD 0 0 0) cells ≡
      Done (core_at 0 0xABCD 0 0 6) (with_place (with_place cells 0 (Cell 0xAB)) 1 (Cell 0xCD)) (0 ∷ 1 ∷ [])
  pub fixed : stroke 4 (store_to Word (register 1) (plain (pos 4))) (core 0xABCD 0 0 0) cells ≡ Refused (OfWord 4 (ByBus WrongWay))

-- Branches to a name: register 0 has its address, taken or not.
pub record BranchSums : Type 0 where
  pub taken : (m : Meaning) → stroke 0x1234 (branch_to Zero (register 1) (codes "a")) (core 0 0 0 0) m ≡ Done (core_at 0x1234 0 0 0 0x1234) m []
  pub not_taken : (m : Meaning) → stroke 0x1234 (branch_to NotZero (register 1) (codes "a")) (core 0 0 0 0) m ≡ Done (core_at 0x1234 0 0 0 6) m []
  pub odd : (m : Meaning) → stroke 5 (branch_to Zero (register 1) (codes "a")) (core 0 0 0 0) m ≡ Refused (OfWord 4 OddTarget)

-- What a long shift does to these values of r1 and r2, the register shifted and the places.
abbrev pub shifts : LongShift → ℕ → ℕ → Meaning → LineOutcome
shifts d a k m = stroke 0 (long_shift d (register 1) (register 2)) (core a k 0 0) m

-- Long shifts by three places, and by 65,536, where r2 is 0; and what they spend.
pub record ShiftSums : Type 0 where
  pub logical : (m : Meaning) → shifts Logical 0x8001 3 m ≡ Done (core 0x1000 0 0 6) m []
  pub arithmetic : (m : Meaning) → shifts Arithmetic 0x8001 3 m ≡ Done (core 0xF000 0 0 6) m []
  pub leftward : (m : Meaning) → shifts Leftward 0x8001 3 m ≡ Done (core 8 0 0 6) m []
  pub all_out : (m : Meaning) → shifts Logical 0xFFFF 0 m ≡ Done (core 0 0 0 6) m []
  pub all_signs : (m : Meaning) → shifts Arithmetic 0x8000 0 m ≡ Done (core 0xFFFF 0 0 6) m []
  pub no_sign : (m : Meaning) → shifts Arithmetic 0x7FFF 0 m ≡ Done (core 0 0 0 6) m []
  pub all_left : (m : Meaning) → shifts Leftward 0xFFFF 0 m ≡ Done (core 0 0 0 6) m []
  pub spent : cost (long_shift Logical (register 1) (register 2)) (core 0 3 0 0) ≡ 9
  pub most_spent : cost (long_shift Logical (register 1) (register 2)) (core 0 0 0 0) ≡ 196608

-- The worked page: its text, and the bytes of its image.
abbrev pub text : List ℕ
text = codes "\tldi r1,2080\n\tldi r2,5\n\tlsrm r1,r2\n\tldw r3,0xF004\n\tstw r1,0xF000\n\thcf\n"

abbrev pub bytes : List ℕ
bytes =
    0x99 ∷ 0x08 ∷ 0x99 ∷ 0x20 ∷ 0x9A ∷ 0x00 ∷ 0x9A ∷ 0x05 ∷ 0x01 ∷ 0x21 ∷ 0x6A ∷ 0x01 ∷ 0xBA ∷ 0xFA
    ∷ 0x98 ∷ 0xF0 ∷ 0x98 ∷ 0x04 ∷ 0x43 ∷ 0x02 ∷ 0x98 ∷ 0xF0 ∷ 0x98 ∷ 0x00 ∷ 0x50 ∷ 0x22 ∷ 0x00 ∷ 0x03 ∷ []

-- Its bus: the bytes in cells from 0 on, a character port at 0xF000 and an input port at 0xF004; two bytes may wait, and two be sent.
abbrev pub page_bus : Meaning
page_bus = record {
  place = λ k. cond (nat_lt k (length bytes)) (Cell (slice_index bytes k)) (cond (k / 2 == 0x7800) CharacterPort (cond (k / 2 == 0x7802) InputPort Nothing));
  waiting = [];
  most_waiting = 2;
  sent = [];
  most_sent = 2;
}

-- Its calls.
abbrev pub script : List Call
script = Run 3 ∷ Run 2 ∷ Run 100 ∷ Run 9 ∷ Give 7 ∷ Run 2 ∷ Run 100 ∷ Take ∷ Take ∷ Run 1 ∷ []

-- The fault of the ldw at 18, the last word of its line: no byte waits.
abbrev pub nothing_waits : End Refusal
nothing_waits = Faulted (OfWord 18 (ByBus NoneWaiting))

-- Its answers.
abbrev pub page : List (Answer Refusal BusFault)
page =
    Ran 3 Spent ∷ Ran 2 Spent ∷ Ran 16 nothing_waits ∷ Ran 0 nothing_waits ∷ Given ∷ Ran 2 Spent ∷ Ran 3 Halted ∷ Taken 65 ∷ Denied NoneSent
    ∷ Ran 0 (Faulted HaltedBefore) ∷ []

-- The page, on the board and in the reading of its text.
pub record PageSums : Type 0 where
  pub spelled : image viking (program text []) ≡ bytes
  pub board : (calls (board_call viking) script (started viking (core 0 0 0 0) page_bus)).answers ≡ page
  pub reading : (calls (reading_call viking (program text [])) script (opened viking (core 0 0 0 0) page_bus)).answers ≡ page

-- All of them.
pub record Sums : Type 0 where
  pub plains : PlainSums
  pub accesses : AccessSums
  pub branches : BranchSums
  pub shifting : ShiftSums
  pub pages : PageSums
