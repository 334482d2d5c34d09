-- A word and its instruction say the same.
use Rattle.std.specs.Prelude.{◌≡◌, ℕ, ◌<◌, Some, None, Option}
use Rattle.word.specs.declared.instructions.Instruction.{Instruction}
use Rattle.word.specs.declared.instructions.Fields.{Fields}
use Rattle.word.specs.declared.instructions.Fields.TheVariants.{Registers, Immediate}
use Rattle.word.specs.Words.{fields, encoded, decoded}

-- The immediate, where there is one, is a byte.
abbrev pub ByteIn : Fields → Type 0
ByteIn (Registers x rst rsa rsb) = Unit {0}
ByteIn (Immediate x rst n) = n < 256

abbrev pub HasByte : Instruction → Type 0
HasByte i = ByteIn (fields i)

-- Decoding an encoded instruction gives it back, and its word is one of the 65,536.
abbrev pub DecodesBack : Type 0
DecodesBack = (i : Instruction) → HasByte i → (decoded (encoded i) ≡ Some i) × (encoded i < 65536)

-- A valid word is the encoding of what it decodes to.
abbrev pub EncodesBack : Type 0
EncodesBack = (w : ℕ) (i : Instruction) → w < 65536 → decoded w ≡ Some i → (encoded i ≡ w) × HasByte i

-- The same of a word's instruction where there is one.
abbrev pub Gives : ℕ → Option Instruction → Type 0
Gives w None = Unit {0}
Gives w (Some i) = encoded i ≡ w
