-- A word listed, and its line assembled.
use Rattle.std.specs.Prelude.{◌≡◌, ℕ, ◌≤◌, true, List, [], ◌∷◌, length, Some, None, Ok, Err, Option, Result}
use Rattle.word.specs.declared.instructions.Instruction.{Instruction}
use Rattle.word.specs.Words.{decoded, is_valid}
use Rattle.lister.specs.Lines.{line_of}
use Rattle.syntax.specs.Data.{bytes_of}
use Rattle.assembler.specs.declared.assembling.Assembled.{Assembled}
use Rattle.assembler.specs.declared.assembling.Refused as R
use Rattle.assembler.specs.declared.records.LineKind.TheVariants as K
use Rattle.assembler.specs.declared.records.LineRecord.{LineRecord}
use Rattle.assembler.specs.Placing.{room, number_of as refusal_number}
use Rattle.assembler.specs.Answers.{Answer, assembled, summary, image_in, lines_in, over}
use Rattle.roundtrip.specs.declared.NotBack.{NotBack}
use Rattle.roundtrip.specs.declared.NotBack.TheVariants.{NotValid, Refused}

-- The number of each refusal: 16 for a word that is not valid, else the assembler's.
abbrev pub number_of : NotBack → ℕ
number_of NotValid = 16
number_of (Refused r) = refusal_number r.refusal

-- What assembling an instruction's line comes to, with so many line records, so many bytes for the image, and no label
-- record.
abbrev pub assembled_line : ℕ → ℕ → Instruction → Answer
assembled_line lines most i = assembled (room 0 lines) most (line_of i)

-- What the assembler answers, passed on.
abbrev pub passed_on : Result Assembled R.Refused → Result Assembled NotBack
passed_on (Ok a) = Ok a
passed_on (Err r) = Err (Refused r)

-- What is answered: a word that is not valid has no line; for any other it is what its line comes to.
abbrev pub answer_to : ℕ → ℕ → Option Instruction → Result Assembled NotBack
answer_to lines most None = Err NotValid
answer_to lines most (Some i) = passed_on (summary (assembled_line lines most i))

abbrev pub answer : ℕ → List ℕ → List LineRecord → Result Assembled NotBack
answer word image lines = answer_to (length lines) (length image) (decoded word)

-- The image that is written into the front of its buffer: none for a word that is not valid.
abbrev pub image_of : ℕ → ℕ → Option Instruction → List ℕ
image_of lines most None = []
image_of lines most (Some i) = image_in (assembled_line lines most i)

abbrev pub image_after : ℕ → List ℕ → List LineRecord → List ℕ
image_after word image lines = over (image_of (length lines) (length image) (decoded word)) image

-- The records that are written into the front of the table of lines: none for a word that is not valid.
abbrev pub records_of : ℕ → ℕ → Option Instruction → List LineRecord
records_of lines most None = []
records_of lines most (Some i) = lines_in (assembled_line lines most i)

abbrev pub lines_after : ℕ → List ℕ → List LineRecord → List LineRecord
lines_after word image lines = over (records_of (length lines) (length image) (decoded word)) lines

-- The record of a listed line: the first of its text, one word of an instruction at address 0.
abbrev pub only_record : LineRecord
only_record = record { line = 1; address = 0; words = 1; kind = K.Instruction }

-- The law: a valid word, given room for its two bytes and for the record of its line, is accepted; the image is that word,
-- high byte first, and the record that line's, with buffer and table behind them as they were.
abbrev pub ComesBack : ℕ → List ℕ → List LineRecord → Result Assembled NotBack → List ℕ → List LineRecord → Type 0
ComesBack word image lines r after records =
    is_valid word ≡ true → 2 ≤ length image → 1 ≤ length lines
    → (r ≡ Ok (record { length = 2; labels = 0; lines = 1 })) × (after ≡ over (bytes_of word) image) × (records ≡ over (only_record ∷ []) lines)
