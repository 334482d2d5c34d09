-- The sums that the set is known by, one list, of the definitions that all contracts speak of.
use Rattle.std.specs.Prelude.{◌≡◌, ℕ, codes, List, [], ◌∷◌, None}
use Rattle.word.specs.Registers.{register}
use Rattle.word.specs.Words.{decoded}
use Rattle.word.specs.Arithmetic.{slt, sltu}
use Rattle.bus.specs.Meaning.{Meaning}
use Rattle.machine.specs.Machine.{Done}
use Rattle.syntax.specs.declared.rows.LongShift.TheVariants.{Logical, Arithmetic}
use Rattle.syntax.specs.Rows.{long_shift}
use Rattle.assembler.specs.Placing.{room}
use Rattle.assembler.specs.Answers.{assembled, image_in}
use Rattle.board.specs.Sums.{core}
use Rattle.reading.specs.Strokes.{stroke, cost}

-- The image of a text, with a record for one line and four bytes.
abbrev pub image_of_line : List ℕ → List ℕ
image_of_line text = image_in (assembled (room 0 1) 4 text)

-- Lines as their words, words that are not valid, the two comparisons, and what two long shifts come to and spend.
pub record KeySums : Type 0 where
  pub add : image_of_line (codes "\tadd r3,r1,r2") ≡ 0x53 ∷ 0x28 ∷ []
  pub xor : image_of_line (codes "\txor r5,-1") ≡ 0x2D ∷ 0xFF ∷ []
  pub bez : image_of_line (codes "\tbez r4,28") ≡ 0xAC ∷ 0x1C ∷ []
  pub ldi : image_of_line (codes "\tldi r1,-31073") ≡ 0x99 ∷ 0x86 ∷ 0x99 ∷ 0x9F ∷ []
  pub zero_field : decoded 0x0007 ≡ None
  pub no_such_word : decoded 0x7800 ≡ None
  pub signed : slt 0x8000 0x7FFF ≡ 1
  pub unsigned : sltu 0x8000 0x7FFF ≡ 0
  pub asrm : (m : Meaning) → stroke 0 (long_shift Arithmetic (register 1) (register 2)) (core 0x8001 3 0 0) m ≡ Done (core 0xF000 0 0 6) m []
  pub asrm_spends : cost (long_shift Arithmetic (register 1) (register 2)) (core 0x8001 3 0 0) ≡ 9
  pub lsrm_spends : cost (long_shift Logical (register 1) (register 2)) (core 0xFFFF 0 0 0) ≡ 196608
