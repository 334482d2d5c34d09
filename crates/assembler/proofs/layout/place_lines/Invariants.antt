use Rattle.std.proofs.Common.{◌≡◌, ◌+◌, ◌*◌, ◌≤◌, length}
use Rattle.syntax.specs.Cuts.{lines}
use Rattle.assembler.specs.Tables.{filled, size, Spared}
use Rattle.assembler.specs.Placing.{room, state_of, start, place}
use Rattle.assembler.proofs.Cutting.{bytes_with_ends}
use Rattle.assembler.proofs.layout.place_lines.Given as goal

-- What is left of the text gives the whole, and nothing has grown too large.
abbrev pub invariant-loop-line : goal.invariant-loop-line
invariant-loop-line l =
    (place (room (size l.initial.labels) (size l.initial.lines)) l.text (state_of l.at (filled l.labels) (filled l.lines)) (lines l.line-iterator.rest.now)
    ≡ place (room (size l.initial.labels) (size l.initial.lines)) l.text start (lines l.text))
    × Spared l.initial.labels l.labels
    × Spared l.initial.lines l.lines
    × (l.at.line + length (lines l.line-iterator.rest.now) ≡ length (lines l.text) + 1)
    × (l.at.place + bytes_with_ends (lines l.line-iterator.rest.now) ≤ length l.text + 1)
    × (l.at.address ≤ 6 * l.at.line + l.at.place)
