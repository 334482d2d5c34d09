-- The image: the bytes of all lines, one behind the other.
use Rattle.std.specs.Prelude.{◌≡◌, ℕ, ◌+◌, Bool, true, false, not, List, [], ◌∷◌, ◌++◌, is_some, Some, None, Ok, Err, Option, Result}
use Rattle.std.specs.List.{position}
use Rattle.std.specs.Option.{option_map}
use Rattle.syntax.specs.declared.statements.LineFault.{LineFault}
use Rattle.syntax.specs.Data.{Datum, string, numbers, all_fit, data_in, data_bytes, bytes_of}
use Rattle.syntax.specs.Rows.{Value, plain, address_of, Row, registers, immediate, negation, constant, load_from, store_to, branch_to, long_shift}
use Rattle.syntax.specs.Statements.{Statement, empty, labelled, code, statement_in}
use Rattle.assembler.specs.declared.records.LabelRecord.{LabelRecord}
use Rattle.assembler.specs.Expansions.{value_in, words}
use Rattle.assembler.specs.Placing.{label_named}

-- The name that a value, or a row, uses.
abbrev pub name_of : Value → Option (List ℕ)
name_of (plain z) = None
name_of (address_of t) = Some t

abbrev pub used : Row → Option (List ℕ)
used (registers x a b c) = None
used (immediate x r z) = None
used (negation r) = None
used (constant r v) = name_of v
used (load_from w r v) = name_of v
used (store_to w r v) = name_of v
used (branch_to c r t) = Some t
used (long_shift d r s) = None

-- What a line puts into memory: an instruction's words, or data.
pub data Part : Type 0 where
  instruction : Row → Part
  datum : Datum → Part

abbrev pub data_part : Option (List ℕ) → Option Part
data_part None = None
data_part (Some t) = option_map datum (data_in t)

abbrev pub part_of : Result Statement LineFault → Option Part
part_of (Err f) = None
part_of (Ok empty) = None
part_of (Ok (labelled n rest)) = data_part rest
part_of (Ok (code r)) = Some (instruction r)

-- The name that a line uses, if it uses one.
abbrev pub used_by : Result Statement LineFault → Option (List ℕ)
used_by (Err f) = None
used_by (Ok empty) = None
used_by (Ok (labelled n rest)) = None
used_by (Ok (code r)) = used r

-- Is a used name no label?
abbrev pub is_undefined : List ℕ → List LabelRecord → Option (List ℕ) → Bool
is_undefined text labels None = false
is_undefined text labels (Some n) = not (is_some (label_named text n labels))

-- The number of the first line, from 1, that uses an undefined name.
abbrev pub first_undefined : List ℕ → List LabelRecord → List (List ℕ) → Option ℕ
first_undefined text labels ls = option_map (λ i. i + 1) (position (λ l. is_undefined text labels (used_by (statement_in l))) ls)

-- The address of a name: that of its label.
abbrev pub record_address : Option LabelRecord → ℕ
record_address None = 0
record_address (Some r) = r.address

abbrev pub address_in : List ℕ → List LabelRecord → List ℕ → ℕ
address_in text labels n = record_address (label_named text n labels)

-- The bytes of words, high byte first.
abbrev pub word_bytes : List ℕ → List ℕ
word_bytes [] = []
word_bytes (w ∷ ws) = bytes_of w ++ word_bytes ws

-- The bytes of a part, and of a line.
abbrev pub part_bytes : (List ℕ → ℕ) → Option Part → List ℕ
part_bytes address None = []
part_bytes address (Some (instruction r)) = word_bytes (words (value_in address r) r)
part_bytes address (Some (datum d)) = data_bytes d

abbrev pub line_bytes : (List ℕ → ℕ) → List ℕ → List ℕ
line_bytes address l = part_bytes address (part_of (statement_in l))

-- The image of some lines.
abbrev pub image_of : (List ℕ → ℕ) → List (List ℕ) → List ℕ
image_of address [] = []
image_of address (l ∷ ls) = line_bytes address l ++ image_of address ls

-- Data whose numbers are well formed and in range.
abbrev pub FitData : Datum → Type 0
FitData (string t) = Unit {0}
FitData (numbers ps) = all_fit ps ≡ true
