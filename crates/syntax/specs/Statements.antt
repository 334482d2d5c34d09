-- Lines: what each says, and the questions that a line answers by itself.
use Rattle.std.specs.Prelude.{ℕ, Bool, cond, ◌&&◌, ◌||◌, List, [], ◌∷◌, length, ℤ, Some, None, Ok, Err, Option, Result, nat_le}
use Rattle.std.specs.List.{list_all}
use Rattle.std.specs.Option.{option_map}
use Rattle.syntax.specs.declared.cuts.Separator.TheVariants.{Blank}
use Rattle.syntax.specs.declared.mnemonics.Mnemonic.{Mnemonic}
use Rattle.syntax.specs.declared.rows.InstructionFault.{InstructionFault}
use Rattle.syntax.specs.declared.rows.InstructionFault.TheVariants.{UnknownMnemonic, NoSuchRow}
use Rattle.syntax.specs.declared.statements.Beginning.{Beginning}
use Rattle.syntax.specs.declared.statements.Beginning.TheVariants.{Semicolon, Tab, Space, Other}
use Rattle.syntax.specs.declared.statements.LineFault.{LineFault}
use Rattle.syntax.specs.declared.statements.LineFault.TheVariants.{BadCharacters, Indented, BadLabel, BadInstruction}
use Rattle.syntax.specs.declared.statements.Line as CodeLine
use Rattle.syntax.specs.declared.statements.Line.TheVariants as L
use Rattle.syntax.specs.declared.statements.Statement as CodeStatement
use Rattle.syntax.specs.declared.statements.Statement.TheVariants as S
use Rattle.syntax.specs.Characters.{is, from}
use Rattle.syntax.specs.Cuts.{before, behind}
use Rattle.syntax.specs.Names.{is_name}
use Rattle.syntax.specs.Numbers.{number}
use Rattle.syntax.specs.Mnemonics.{mnemonic_in}
use Rattle.syntax.specs.Operands.{Operands, operands_by, said_all}
use Rattle.syntax.specs.Rows.{Row, row_of, judged, said_row, number_of as instruction_number}

-- Is a byte a tab, or one from space to tilde?
abbrev pub is_plain : ℕ → Bool
is_plain c = is "\t" c || from " " "~" c

-- Has a line at most 120 bytes, all of them such?
abbrev pub is_clean : List ℕ → Bool
is_clean l = nat_le (length l) 120 && list_all is_plain l

-- A line taken apart: empty, a comment, a label with what stands behind its separator, or an instruction.
pub data Line : Type 0 where
  blank : Line
  comment : Line
  label : List ℕ → Option (List ℕ) → Line
  instruction : Mnemonic → Operands → Line

-- What a line says: an instruction with its row.
pub data Statement : Type 0 where
  empty : Statement
  labelled : List ℕ → Option (List ℕ) → Statement
  code : Row → Statement

-- The number of each refusal of a line by itself.
abbrev pub number_of : LineFault → ℕ
number_of BadCharacters = 3
number_of Indented = 4
number_of BadLabel = 5
number_of (BadInstruction f) = instruction_number f

-- Is all before the first space or tab a name?
abbrev pub label_in : List ℕ → Result Line LineFault
label_in l = cond (is_name (before Blank l)) (Ok (label (before Blank l) (behind Blank l))) (Err BadLabel)

-- An instruction, behind its tab: a known mnemonic, and well-formed operands.
abbrev pub with_operands : Mnemonic → Option Operands → Result Line LineFault
with_operands m None = Err (BadInstruction NoSuchRow)
with_operands m (Some os) = Ok (instruction m os)

abbrev pub with_mnemonic : Option Mnemonic → Option Operands → Result Line LineFault
with_mnemonic None os = Err (BadInstruction UnknownMnemonic)
with_mnemonic (Some m) os = with_operands m os

abbrev pub instruction_by : (List ℕ → Option ℤ) → List ℕ → Result Line LineFault
instruction_by read t = with_mnemonic (mnemonic_in (before Blank t)) (operands_by read (behind Blank t))

-- The first byte decides: a semicolon begins a comment, a tab an instruction, a space is refused, and anything else
-- begins a label. How numbers are read is left open.
abbrev pub beginning : ℕ → Beginning
beginning c = cond (is ";" c) Semicolon (cond (is "\t" c) Tab (cond (is " " c) Space Other))

abbrev pub kind_of : (List ℕ → Option ℤ) → Beginning → ℕ → List ℕ → Result Line LineFault
kind_of read Semicolon c cs = Ok comment
kind_of read Tab c cs = instruction_by read cs
kind_of read Space c cs = Err Indented
kind_of read Other c cs = label_in (c ∷ cs)

abbrev pub kind_by : (List ℕ → Option ℤ) → List ℕ → Result Line LineFault
kind_by read [] = Ok blank
kind_by read (c ∷ cs) = kind_of read (beginning c) c cs

abbrev pub line_by : (List ℕ → Option ℤ) → List ℕ → Result Line LineFault
line_by read l = cond (is_clean l) (kind_by read l) (Err BadCharacters)

-- The row of an instruction, with its questions.
abbrev pub with_row : Result Row InstructionFault → Result Statement LineFault
with_row (Ok r) = Ok (code r)
with_row (Err f) = Err (BadInstruction f)

abbrev pub said : Line → Result Statement LineFault
said blank = Ok empty
said comment = Ok empty
said (label n rest) = Ok (labelled n rest)
said (instruction m os) = with_row (judged (row_of m os))

abbrev pub said_by : Result Line LineFault → Result Statement LineFault
said_by (Ok l) = said l
said_by (Err f) = Err f

-- What a line says, or the first of its own questions that it fails.
abbrev pub statement_by : (List ℕ → Option ℤ) → List ℕ → Result Statement LineFault
statement_by read l = said_by (line_by read l)

abbrev pub statement_in : List ℕ → Result Statement LineFault
statement_in = statement_by number

-- What the program's values say.
abbrev pub line_of : CodeLine.Line → Line
line_of L.Empty = blank
line_of L.Comment = comment
line_of (L.Label n rest) = label n.now (option_map (λ x. x.now) rest)
line_of (L.Instruction i) = instruction i.mnemonic (said_all i.operands)

abbrev pub statement_of : CodeStatement.Statement → Statement
statement_of S.Empty = empty
statement_of (S.Label n rest) = labelled n.now (option_map (λ x. x.now) rest)
statement_of (S.Code r) = code (said_row r)
