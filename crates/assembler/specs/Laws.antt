-- What is promised of expansions.
use Rattle.std.specs.Prelude.{◌≡◌, ℕ, ◌+◌, ◌*◌, ◌<◌, true, List, length}
use Rattle.std.specs.List.{All}
use Rattle.syntax.specs.Rows.{Row, in_range, registers_fit}
use Rattle.assembler.specs.declared.records.LabelRecord.{LabelRecord}
use Rattle.assembler.specs.declared.records.LineRecord.{LineRecord}
use Rattle.assembler.specs.Expansions.{spelled, word_count}
use Rattle.assembler.specs.Placing.{Room}
use Rattle.assembler.specs.Answers.{accepted, assembled}

-- A row whose numbers are in range and whose registers are right spells as many words as are counted for it.
abbrev pub CountsStand : Type 0
CountsStand = (v : ℕ) (r : Row) → in_range r ≡ true → registers_fit r ≡ true → length (spelled v r) ≡ word_count r

-- Every address of an accepted text is below 0xF000, where the ports begin: the end of its image, its labels', and its
-- lines' with their ends.
abbrev pub AddressesFit : Type 0
AddressesFit = (free : Room) (most : ℕ) (text image : List ℕ) (labels : List LabelRecord) (lines : List LineRecord) → assembled free most text ≡ accepted image labels lines
    → (length image < 61440) × (All (λ r. r.address < 61440) labels) × All (λ r. r.address + 2 * r.words < 61440) lines
