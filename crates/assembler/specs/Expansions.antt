-- Expansions: the instructions that a row spells.
use Rattle.std.specs.Prelude.{ℕ, ◌-◌, ◌/◌, ◌%◌, List, [], ◌∷◌, ◌++◌, map, take, ℤ, pos, negsuc, Some, None, Option}
use Rattle.word.specs.declared.registers.Register.{Register}
use Rattle.word.specs.declared.instructions.Computation.TheVariants.{Xor, Add, Sub}
use Rattle.word.specs.declared.instructions.Shift.TheVariants.{Lsr, Asr}
use Rattle.word.specs.declared.instructions.Condition.TheVariants.{NotZero}
use Rattle.word.specs.declared.instructions.Instruction.{Instruction}
use Rattle.word.specs.declared.instructions.Instruction.TheVariants.{Compute, ComputeImmediate, Shift, Load, Store, Branch, BranchImmediate, LoadConstant}
use Rattle.word.specs.Words.{encoded, with_registers, with_immediate}
use Rattle.syntax.specs.declared.rows.LongShift.{LongShift}
use Rattle.syntax.specs.declared.rows.LongShift.TheVariants.{Logical, Arithmetic, Leftward}
use Rattle.syntax.specs.Data.{word_of}
use Rattle.assembler.specs.declared.spelling.Spelling.{Spelling}
use Rattle.syntax.specs.Rows.{Value, plain, address_of, Row, registers, immediate, negation, constant, load_from, store_to, branch_to, long_shift, zero}

-- The byte of an immediate in range: negative numbers count down from 256.
abbrev pub byte_of : ℤ → ℕ
byte_of (pos n) = n % 256
byte_of (negsuc n) = 255 - n % 256

-- The value of c: a number as a word, or the address of a name.
abbrev pub value_of : (List ℕ → ℕ) → Value → ℕ
value_of address (plain z) = word_of z
value_of address (address_of t) = address t

-- The value that a row's words take in, where they take one.
abbrev pub value_in : (List ℕ → ℕ) → Row → ℕ
value_in address (registers x a b c) = 0
value_in address (immediate x r z) = 0
value_in address (negation r) = 0
value_in address (constant r v) = value_of address v
value_in address (load_from w r v) = value_of address v
value_in address (store_to w r v) = value_of address v
value_in address (branch_to c r t) = address t
value_in address (long_shift d r s) = 0

-- ldi r,c: the high byte, then the low byte; always two words.
abbrev pub ldi : Register → ℕ → List Instruction
ldi r v = LoadConstant r (v / 256) ∷ LoadConstant r (v % 256) ∷ []

-- The shift that a long shift repeats.
abbrev pub shift_once : LongShift → Register → Instruction
shift_once Logical r = Shift Lsr r r
shift_once Arithmetic r = Shift Asr r r
shift_once Leftward r = Compute Add r r r

-- One instruction, or none.
abbrev pub list_of : Option Instruction → List Instruction
list_of None = []
list_of (Some i) = i ∷ []

-- The instructions that a row spells, given the value that it takes in.
abbrev pub spelled : ℕ → Row → List Instruction
spelled v (registers x a b c) = list_of (with_registers x a b c)
spelled v (immediate x r z) = list_of (with_immediate x r (byte_of z))
spelled v (negation r) = Compute Xor zero zero zero ∷ Compute Sub r zero r ∷ []
spelled v (constant r c) = ldi r v
spelled v (load_from w r c) = ldi zero v ++ (Load w r zero ∷ [])
spelled v (store_to w r c) = ldi zero v ++ (Store w r zero ∷ [])
spelled v (branch_to c r t) = ldi zero v ++ (Branch c r zero ∷ [])
spelled v (long_shift d r s) = shift_once d r ∷ ComputeImmediate Sub s 1 ∷ BranchImmediate NotZero s 250 ∷ []

-- Its words.
abbrev pub words : ℕ → Row → List ℕ
words v r = map encoded (spelled v r)

-- How many words a row spells.
abbrev pub word_count : Row → ℕ
word_count (registers x a b c) = 1
word_count (immediate x r z) = 1
word_count (negation r) = 2
word_count (constant r c) = 2
word_count (load_from w r c) = 3
word_count (store_to w r c) = 3
word_count (branch_to c r t) = 3
word_count (long_shift d r s) = 3

-- The words that a spelling holds.
abbrev pub held : Spelling → List ℕ
held s = take s.count s.words
