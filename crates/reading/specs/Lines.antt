-- Rows as lines of the machine, and what each owes.
use Rattle.std.specs.Prelude.{◌≡◌, ℕ, ◌<◌, true}
use Rattle.machine.specs.Program.{Line}
use Rattle.machine.specs.Obligation.{Owes}
use Rattle.board.specs.Viking.{viking}
use Rattle.syntax.specs.Rows.{Row, in_range, registers_fit}
use Rattle.assembler.specs.Expansions.{spelled}
use Rattle.reading.specs.Strokes.{stroke, cost}

-- A row with the value that it takes in, as a line.
abbrev pub line : ℕ → Row → Line viking
line v r = record { words = spelled v r; cost = cost r; stroke = stroke v r }

-- Each row that has passed its questions keeps what it owes, with every value that a word can hold.
abbrev pub RowsKeep : Type 0
RowsKeep = (v : ℕ) (r : Row) → v < 65536 → in_range r ≡ true → registers_fit r ≡ true → Owes viking (line v r)
