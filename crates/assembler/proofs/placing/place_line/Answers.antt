use Rattle.std.proofs.Common.{◌≡◌, length, rules}
use Rattle.assembler.specs.Tables.{filled, size}
use Rattle.assembler.specs.Placing.{Placing, Room, room, state_of, place_line, came_to}
use Rattle.assembler.proofs.Bounds.{memory_bound}
use Rattle.assembler.proofs.placing.place_line.Goals as goal

pub returns-in-Label-clause-bound : goal.returns-in-Label-clause-bound
returns-in-Label-clause-bound c =
    let free : Room = room (size c.args.labels.now) (size c.args.lines.now) in
    let s : Placing = state_of c.args.at (filled c.args.labels.now) (filled c.args.lines.now) in
    let comes : place_line free c.args.text.now s c.args.line.now
    ≡ came_to c.place_label.result s (length c.args.line.now) (filled c.place_label.new.labels) (filled c.place_label.new.lines) =
    search rules in
    memory_bound free c.args.text.now s c.args.line.now c.place_label.result _ _ comes
