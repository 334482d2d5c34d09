-- Placing: at which address each label and each line stands, and the questions asked on the way.
use Rattle.std.specs.Prelude.{◌≡◌, ℕ, ◌+◌, ◌*◌, ◌/◌, min, cond, List, [], ◌∷◌, ◌++◌, length, take, drop, is_some, Some, None, Ok, Err, Option, Result, nat_lt}
use Rattle.std.specs.List.{find}
use Rattle.std.specs.Str.{bytes_eq}
use Rattle.syntax.specs.declared.statements.LineFault.{LineFault}
use Rattle.syntax.specs.Data.{Datum, data_in, data_bytes}
use Rattle.syntax.specs.Rows.{Row}
use Rattle.syntax.specs.Statements.{Statement, empty, labelled, code, statement_in, number_of as line_number}
use Rattle.assembler.specs.declared.records.LabelRecord.{LabelRecord}
use Rattle.assembler.specs.declared.records.LineKind.{LineKind}
use Rattle.assembler.specs.declared.records.LineKind.TheVariants.{Instruction, Data}
use Rattle.assembler.specs.declared.records.LineRecord.{LineRecord}
use Rattle.assembler.specs.declared.records.Position.{Position}
use Rattle.assembler.specs.declared.records.Refusal.{Refusal}
use Rattle.assembler.specs.declared.records.Stop.{Stop}
use Rattle.assembler.specs.declared.records.Refusal.TheVariants.{TextTooLong, TooManyLines, InLine, LabelTwice, NoLabelRecord, BadData, NoLineRecord, NameUndefined, ImageTooLong}
use Rattle.assembler.specs.Expansions.{word_count}

-- The number of each refusal.
abbrev pub number_of : Refusal → ℕ
number_of TextTooLong = 1
number_of TooManyLines = 2
number_of (InLine f) = line_number f
number_of LabelTwice = 6
number_of NoLabelRecord = 7
number_of BadData = 8
number_of NoLineRecord = 13
number_of NameUndefined = 14
number_of ImageTooLong = 15

-- The name of a label record: the bytes of the text at its place.
abbrev pub name_in : List ℕ → LabelRecord → List ℕ
name_in text r = take r.length (drop r.place text)

-- The first record of this name.
abbrev pub label_named : List ℕ → List ℕ → List LabelRecord → Option LabelRecord
label_named text n = find (λ r. bytes_eq (name_in text r) n)

-- How many label records and line records there are.
pub record Room : Type 0 where
  pub labels : ℕ
  pub lines : ℕ

-- How far placing has come: the next line's number, the bytes read, the next address, and the records so far.
pub record Placing : Type 0 where
  pub line : ℕ
  pub place : ℕ
  pub address : ℕ
  pub labels : List LabelRecord
  pub lines : List LineRecord

-- Behind a line of this many bytes, with this much memory for it and these records.
abbrev pub behind : Placing → ℕ → ℕ → List LabelRecord → List LineRecord → Placing
behind s bytes memory labels lines = record { line = s.line + 1; place = s.place + (bytes + 1); address = s.address + memory; labels = labels; lines = lines }

-- The record of a label on the next line, and of that line's words.
abbrev pub label_record : Placing → List ℕ → LabelRecord
label_record s n = record { place = s.place; length = length n; address = s.address }

abbrev pub line_record : Placing → ℕ → LineKind → LineRecord
line_record s words kind = record { line = s.line; address = s.address; words = words; kind = kind }

-- Is there a free line record? An instruction's words.
abbrev pub place_code : Room → Placing → ℕ → Row → Result Placing Refusal
place_code free s bytes r =
    cond (nat_lt (length s.lines) free.lines)
    (Ok (behind s bytes (2 * word_count r) s.labels (s.lines ++ (line_record s (word_count r) Instruction ∷ []))))
    (Err NoLineRecord)

-- Is data well formed? Is there a free line record? A label's data.
abbrev pub place_data : Room → Placing → ℕ → List ℕ → Option Datum → Result Placing Refusal
place_data free s bytes n None = Err BadData
place_data free s bytes n (Some d) =
    cond (nat_lt (length s.lines) free.lines)
    (Ok (behind s bytes (length (data_bytes d)) (s.labels ++ (label_record s n ∷ [])) (s.lines ++ (line_record s (length (data_bytes d) / 2) Data ∷ []))))
    (Err NoLineRecord)

abbrev pub place_rest : Room → Placing → ℕ → List ℕ → Option (List ℕ) → Result Placing Refusal
place_rest free s bytes n None = Ok (behind s bytes 0 (s.labels ++ (label_record s n ∷ [])) s.lines)
place_rest free s bytes n (Some t) = place_data free s bytes n (data_in t)

-- Is the label new? Is there a free label record, of 256 at most?
abbrev pub place_label : Room → List ℕ → Placing → ℕ → List ℕ → Option (List ℕ) → Result Placing Refusal
place_label free text s bytes n rest =
    cond (is_some (label_named text n s.labels)) (Err LabelTwice)
    (cond (nat_lt (length s.labels) (min 256 free.labels)) (place_rest free s bytes n rest) (Err NoLabelRecord))

-- One line.
abbrev pub place_statement : Room → List ℕ → Placing → ℕ → Result Statement LineFault → Result Placing Refusal
place_statement free text s bytes (Err f) = Err (InLine f)
place_statement free text s bytes (Ok empty) = Ok (behind s bytes 0 s.labels s.lines)
place_statement free text s bytes (Ok (labelled n rest)) = place_label free text s bytes n rest
place_statement free text s bytes (Ok (code r)) = place_code free s bytes r

abbrev pub place_line : Room → List ℕ → Placing → List ℕ → Result Placing Refusal
place_line free text s l = place_statement free text s (length l) (statement_in l)

-- The program's state: where it is, and the filled records of its two tables.
abbrev pub state_of : Position → List LabelRecord → List LineRecord → Placing
state_of at labels lines = record { line = at.line; place = at.place; address = at.address; labels = labels; lines = lines }

-- The two tables as far as they are lent.
abbrev pub room : ℕ → ℕ → Room
room labels lines = record { labels = labels; lines = lines }

-- What a line came to that was answered with the memory that it takes, or with a refusal, and left these records.
abbrev pub came_to : Result ℕ Refusal → Placing → ℕ → List LabelRecord → List LineRecord → Result Placing Refusal
came_to (Ok memory) s bytes labels lines = Ok (behind s bytes memory labels lines)
came_to (Err f) s bytes labels lines = Err f

-- A refused line leaves the records as they were.
abbrev pub Keeps : Result ℕ Refusal → (labels labels' : List LabelRecord) (lines lines' : List LineRecord) → Type 0
Keeps (Ok memory) labels labels' lines lines' = Unit {0}
Keeps (Err f) labels labels' lines lines' = (labels' ≡ labels) × (lines' ≡ lines)

-- Before the first line.
abbrev pub start : Placing
start = record { line = 1; place = 0; address = 0; labels = []; lines = [] }

-- What placing the lines of a text comes to: all are placed; or one is refused, with what stood before it.
pub data Course : Type 0 where
  Whole : Placing → Course
  Stopped : Placing → Refusal → Course

-- The lines in order, up to the first that is refused.
abbrev pub place : Room → List ℕ → Placing → List (List ℕ) → Course
place free text s [] = Whole s
place free text s (l ∷ ls) = elim (place_line free text s l) [ Ok s' ↦ place free text s' ls | Err f ↦ Stopped s f ]

-- What placing came to that was answered with where it came, or with where it stopped, and left these records.
abbrev pub course_of : Result Position Stop → List LabelRecord → List LineRecord → Course
course_of (Ok at) labels lines = Whole (state_of at labels lines)
course_of (Err stop) labels lines = Stopped (state_of stop.at labels lines) stop.refusal
