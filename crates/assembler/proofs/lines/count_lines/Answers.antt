use Rattle.std.proofs.Common.{rules}
use Rattle.assembler.proofs.Cutting.{lines_bound}
use Rattle.assembler.proofs.lines.count_lines.Goals as goal

pub count-requires-clause-fits : goal.count-requires-clause-fits
count-requires-clause-fits c = search (rules, lines_bound)
