use Rattle.std.proofs.Common.{◌≡◌, arith}
use Rattle.syntax.specs.Cuts.{lines}
use Rattle.assembler.specs.Images.{address_in}
use Rattle.assembler.specs.Placing.{Whole, room, state_of, start, place}
use Rattle.assembler.specs.Tables.{filled, size}
use Rattle.assembler.proofs.Lengths.{image_long}
use Rattle.assembler.proofs.assembling.assemble_lines.Goals as goal

pub put_placed-requires-clause-long : goal.put_placed-requires-clause-long
put_placed-requires-clause-long c =
    let comes : place (room (size c.args.labels.now) (size c.args.lines.now)) c.args.text.now start (lines c.args.text.now)
    ≡ Whole (state_of c.in-Ok.end (filled c.place_lines.new.labels) (filled c.place_lines.new.lines)) = c.in-Ok.ensures.comes in
    let long = image_long (address_in c.args.text.now (filled c.place_lines.new.labels)) _ c.args.text.now start _ (lines c.args.text.now) comes in
    omega arith
