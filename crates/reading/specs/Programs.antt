-- The program of an accepted text, and what is promised of it: its bytes, where its lines stand, and that a board follows its reading.
use Rattle.std.specs.Prelude.{◌≡◌, ℕ, ◌<◌, List, [], ◌∷◌, ◌+◌, ◌++◌, length, Some, None, Option, slice_index}
use Rattle.bus.specs.Meaning.{Meaning, Facts}
use Rattle.bus.specs.Calls.{peek}
use Rattle.machine.specs.Board.{started}
use Rattle.machine.specs.Program.{Item, Code, Data, bytes as bytes_of, image}
use Rattle.machine.specs.Reading.{opened}
use Rattle.machine.specs.Calls.{calls, board_call, reading_call}
use Rattle.machine.specs.Agreement.{Follows}
use Rattle.board.specs.Core.{Core, Fits}
use Rattle.board.specs.Viking.{viking}
use Rattle.syntax.specs.Cuts.{lines}
use Rattle.syntax.specs.Data.{data_bytes}
use Rattle.syntax.specs.Statements.{statement_in}
use Rattle.assembler.specs.declared.records.LabelRecord.{LabelRecord}
use Rattle.assembler.specs.declared.records.LineRecord.{LineRecord}
use Rattle.assembler.specs.declared.records.LineKind.TheVariants as Kind
use Rattle.assembler.specs.Expansions.{value_in}
use Rattle.assembler.specs.Placing.{Room}
use Rattle.assembler.specs.Images.{Part, instruction, datum, part_of, address_in}
use Rattle.assembler.specs.Answers.{accepted, assembled}
use Rattle.reading.specs.Lines.{line}

-- What a part of a text is in the program: an instruction line with the value that it takes in, or data. A line of the text that puts
-- nothing into memory is not in the program.
abbrev pub items : (List ℕ → ℕ) → Option Part → List (Item viking)
items address None = []
items address (Some (instruction r)) = Code (line (value_in address r) r) ∷ []
items address (Some (datum d)) = Data (data_bytes d) ∷ []

-- The program of some lines of a text, with the addresses of names.
abbrev pub program_of : (List ℕ → ℕ) → List (List ℕ) → List (Item viking)
program_of address [] = []
program_of address (l ∷ ls) = items address (part_of (statement_in l)) ++ program_of address ls

-- The program of a text with these labels.
abbrev pub program : List ℕ → List LabelRecord → List (Item viking)
program text labels = program_of (address_in text labels) (lines text)

-- The image stands at 0 on a bus: peek answers its bytes from there on.
abbrev pub Stands : List ℕ → Meaning → Type 0
Stands bytes b = (x : ℕ) → x < length bytes → peek b x ≡ Some (slice_index bytes x)

-- The program of every accepted text has the bytes of its image.
abbrev pub ImagesMatch : Type 0
ImagesMatch = (free : Room) (most : ℕ) (text bytes : List ℕ) (labels : List LabelRecord) (records : List LineRecord)
    → assembled free most text ≡ accepted bytes labels records → image viking (program text labels) ≡ bytes

-- The instruction lines of a program, each by the address at which it begins and how many words it has, where the program's parts stand
-- from the address a on.
abbrev pub begins : List (Item viking) → ℕ → List (ℕ × ℕ)
begins [] a = []
begins (Code l ∷ is) a = (a, length l.words) ∷ begins is (a + length (bytes_of viking l.words))
begins (Data bs ∷ is) a = begins is (a + length bs)

-- The instruction lines among line records, each by its address and its words.
abbrev pub recorded : List LineRecord → List (ℕ × ℕ)
recorded [] = []
recorded (r ∷ rs) = elim r.kind [ Kind.Instruction ↦ (r.address, r.words) ∷ recorded rs | Kind.Data ↦ recorded rs ]

-- The instruction lines of an accepted text's program are those of its line records, with the same addresses and as many words.
abbrev pub LinesStand : Type 0
LinesStand = (free : Room) (most : ℕ) (text image : List ℕ) (labels : List LabelRecord) (records : List LineRecord)
    → assembled free most text ≡ accepted image labels records → recorded records ≡ begins (program text labels) 0

-- The promise: for every accepted text, every core that fits and every bus on which the image stands at 0, a newly started board follows
-- the reading of the text's program.
abbrev pub BoardFollows : Type 0
BoardFollows = (free : Room) (most : ℕ) (text bytes : List ℕ) (labels : List LabelRecord) (records : List LineRecord)
    → assembled free most text ≡ accepted bytes labels records
    → (c : Core) (b : Meaning) → Fits c → Facts b → Stands bytes b
    → Follows viking (λ cs. calls (reading_call viking (program text labels)) cs (opened viking c b)) (λ cs. calls (board_call viking) cs (started viking c b))
