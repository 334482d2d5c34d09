use Rattle.std.proofs.Common.{rules}
use Rattle.assembler.proofs.Cutting.{parts_fit, parted_fit, rest_shorter, first_line}
use Rattle.assembler.proofs.lines.next_line.Goals as goal

pub returns : goal.returns
returns c = search (rules, parts_fit, parted_fit, rest_shorter, first_line)
