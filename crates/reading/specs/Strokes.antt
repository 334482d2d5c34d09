-- What each line does at one stroke to the core and the bus, and how many words it spends, in the order of the rows.
-- v is the value of c, or the address of the name.
use Rattle.std.specs.Prelude.{ℕ, ◌+◌, ◌-◌, ◌*◌, ◌/◌, ◌%◌, ◌^◌, cond, [], ◌∷◌, Some, None, Option, ◌==◌, nat_lt}
use Rattle.word.specs.declared.registers.Register.{Register}
use Rattle.word.specs.declared.instructions.Width.TheVariants.{Byte, Word}
use Rattle.word.specs.declared.instructions.Condition.{Condition}
use Rattle.word.specs.declared.instructions.Instruction.{Instruction}
use Rattle.word.specs.Words.{with_registers, with_immediate}
use Rattle.word.specs.Arithmetic.{sign_extend, low_byte, sub, is_taken}
use Rattle.bus.specs.Meaning.{Meaning}
use Rattle.bus.specs.Calls.{load_byte, load_word, store_byte, store_word}
use Rattle.machine.specs.Machine.{Outcome, Done, Refused, outcome}
use Rattle.machine.specs.Board.{Fault, OfWord, placed}
use Rattle.board.specs.Core.{Core, holds, with_register, with_next}
use Rattle.board.specs.Step.{Refusal, OddTarget, accesses, loaded, stored, act}
use Rattle.syntax.specs.declared.rows.LongShift.{LongShift}
use Rattle.syntax.specs.declared.rows.LongShift.TheVariants.{Logical, Arithmetic, Leftward}
use Rattle.syntax.specs.Rows.{Row, registers, immediate, negation, constant, load_from, store_to, branch_to, long_shift, zero as at}
use Rattle.assembler.specs.Expansions.{byte_of}

-- What a line comes to. Its fault carries the address of the line's last word.
abbrev pub LineOutcome : Type 0
LineOutcome = Outcome Core Meaning (Fault Refusal)

-- The address n words on.
abbrev pub on : ℕ → Core → ℕ
on n c = (c.next + 2 * n) % 65536

-- The core n words on; the registers are as before.
abbrev pub past : ℕ → Core → Core
past n c = with_next c (on n c)

-- A line of one word: what its word does. (A row that has passed its questions has a word.)
abbrev pub one_word : Option Instruction → Core → Meaning → LineOutcome
one_word (Some i) c b = placed c.next (outcome (act i c) b)
one_word None c b = Done c b []

-- neg r: register 0 becomes 0, and r its negative.
abbrev pub neg : Register → Core → Meaning → LineOutcome
neg r c b = Done (past 2 (with_register (with_register c at 0) r (sub 0 (holds c r)))) b []

-- ldi r,c: r becomes c.
abbrev pub ldi : Register → ℕ → Core → Meaning → LineOutcome
ldi r v c b = Done (past 2 (with_register c r v)) b []

-- The core at the line behind a load r,c: register 0 is c, and r what was loaded.
abbrev pub loads : Register → ℕ → Core → ℕ → Core
loads r v c x = past 3 (with_register (with_register c at v) r x)

-- The core at the line behind a store r,c: register 0 is c.
abbrev pub stores : ℕ → Core → Core
stores v c = past 3 (with_register c at v)

-- ldb r,c: register 0 becomes c, and r the byte at the address c, sign-extended.
abbrev pub ldb : Register → ℕ → Core → Meaning → LineOutcome
ldb r v c b = placed (on 2 c) (loaded (λ x. loads r v c (sign_extend x)) (load_byte b v))

-- ldw r,c: register 0 becomes c, and r the word at the address c.
abbrev pub ldw : Register → ℕ → Core → Meaning → LineOutcome
ldw r v c b = placed (on 2 c) (accesses v (loaded (λ x. loads r v c x) (load_word b v)))

-- stb r,c: register 0 becomes c, and the low byte of r is stored at the address c.
abbrev pub stb : Register → ℕ → Core → Meaning → LineOutcome
stb r v c b = placed (on 2 c) (stored (stores v c) (v ∷ []) (store_byte b v (low_byte (holds c r))))

-- stw r,c: register 0 becomes c, and r is stored as the word at the address c.
abbrev pub stw : Register → ℕ → Core → Meaning → LineOutcome
stw r v c b = placed (on 2 c) (accesses v (stored (stores v c) (v ∷ (v + 1) ∷ []) (store_word b v (holds c r))))

-- bez, bnz r,name: register 0 becomes the name's address, and if r is 0, or is not, the next address does. To an odd one it is refused.
abbrev pub branch : Condition → Register → ℕ → Core → Meaning → LineOutcome
branch x r v c b = cond (is_taken x (holds c r))
    (cond (v % 2 == 0) (Done (with_next (with_register c at v) v) b []) (Refused (OfWord (on 2 c) OddTarget)))
    (Done (past 3 (with_register c at v)) b [])

-- The places by which a long shift shifts: s, or 65,536 where s is 0.
abbrev pub places : ℕ → ℕ
places s = cond (s == 0) 65536 s

-- A value shifted by k places: to the right with zeros coming in, to the right with bit 15 kept, to the left.
abbrev pub shifted : LongShift → ℕ → ℕ → ℕ
shifted Logical k a = a / 2 ^ k
shifted Arithmetic k a = cond (nat_lt a 32768) (a / 2 ^ k) (65535 - (65535 - a) / 2 ^ k)
shifted Leftward k a = a * 2 ^ k % 65536

-- lsrm, asrm, lslm r,s: r is shifted by that many places, and s becomes 0.
abbrev pub shift : LongShift → Register → Register → Core → Meaning → LineOutcome
shift d r s c b = Done (past 3 (with_register (with_register c r (shifted d (places (holds c s)) (holds c r))) s 0)) b []

-- What a row does at a stroke.
abbrev pub stroke : ℕ → Row → Core → Meaning → LineOutcome
stroke v (registers x a b c) = one_word (with_registers x a b c)
stroke v (immediate x r z) = one_word (with_immediate x r (byte_of z))
stroke v (negation r) = neg r
stroke v (constant r c) = ldi r v
stroke v (load_from Byte r c) = ldb r v
stroke v (load_from Word r c) = ldw r v
stroke v (store_to Byte r c) = stb r v
stroke v (store_to Word r c) = stw r v
stroke v (branch_to x r t) = branch x r v
stroke v (long_shift d r s) = shift d r s

-- How many words a row spends, from the core at its beginning.
abbrev pub cost : Row → Core → ℕ
cost (registers x a b c) k = 1
cost (immediate x r z) k = 1
cost (negation r) k = 2
cost (constant r c) k = 2
cost (load_from w r c) k = 3
cost (store_to w r c) k = 3
cost (branch_to x r t) k = 3
cost (long_shift d r s) k = 3 * places (holds k s)
