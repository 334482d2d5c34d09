-- What assembling a text comes to: all questions in their order.
use Rattle.std.specs.Prelude.{ℕ, cond, List, [], ◌++◌, length, drop, Some, None, Ok, Err, Option, Result, nat_le}
use Rattle.syntax.specs.Cuts.{lines}
use Rattle.assembler.specs.declared.assembling.Assembled.{Assembled}
use Rattle.assembler.specs.declared.assembling.Refused.{Refused}
use Rattle.assembler.specs.declared.records.LabelRecord.{LabelRecord}
use Rattle.assembler.specs.declared.records.LineRecord.{LineRecord}
use Rattle.assembler.specs.declared.records.Refusal.{Refusal}
use Rattle.assembler.specs.declared.records.Refusal.TheVariants.{TextTooLong, TooManyLines, NameUndefined, ImageTooLong}
use Rattle.assembler.specs.Placing.{Room, Placing, Course, Whole, Stopped, start, place}
use Rattle.assembler.specs.Images.{address_in, first_undefined, image_of}

-- A text is accepted with its image, or refused with the number of a line (0: none); both with the records made.
pub data Answer : Type 0 where
  accepted : List ℕ → List LabelRecord → List LineRecord → Answer
  refused : Refusal → ℕ → List LabelRecord → List LineRecord → Answer

-- Does the image fit its buffer?
abbrev pub sized : ℕ → Placing → List ℕ → Answer
sized most s image = cond (nat_le (length image) most) (accepted image s.labels s.lines) (refused ImageTooLong 0 s.labels s.lines)

-- Is each used name a label?
abbrev pub named : ℕ → List ℕ → Placing → Option ℕ → Answer
named most text s (Some n) = refused NameUndefined n s.labels s.lines
named most text s None = sized most s (image_of (address_in text s.labels) (lines text))

-- Have all lines passed?
abbrev pub passed : ℕ → List ℕ → Course → Answer
passed most text (Stopped s f) = refused f s.line s.labels s.lines
passed most text (Whole s) = named most text s (first_undefined text s.labels (lines text))

-- Has the text at most 2,048 lines?
abbrev pub of_lines : Room → ℕ → List ℕ → Answer
of_lines free most text = cond (nat_le (length (lines text)) 2048) (passed most text (place free text start (lines text))) (refused TooManyLines 2049 [] [])

-- Has the text at most 32,768 bytes? A text, with so many label records and line records, and so many bytes for the image.
abbrev pub assembled : Room → ℕ → List ℕ → Answer
assembled free most text = cond (nat_le (length text) 32768) (of_lines free most text) (refused TextTooLong 0 [] [])

-- What the program answers.
abbrev pub summary : Answer → Result Assembled Refused
summary (accepted image labels lines) = Ok (record { length = length image; labels = length labels; lines = length lines })
summary (refused f n labels lines) = Err (record { refusal = f; line = n; labels = length labels; lines = length lines })

-- What it writes: into the image buffer, and into the two tables.
abbrev pub image_in : Answer → List ℕ
image_in (accepted image labels lines) = image
image_in (refused f n labels lines) = []

abbrev pub labels_in : Answer → List LabelRecord
labels_in (accepted image labels lines) = labels
labels_in (refused f n labels lines) = labels

abbrev pub lines_in : Answer → List LineRecord
lines_in (accepted image labels lines) = lines
lines_in (refused f n labels lines) = lines

-- Lent memory with something written from its beginning on; the rest is as it was.
abbrev pub over : {A : Type 0} → List A → List A → List A
over new old = new ++ drop (length new) old
