use Rattle.std.proofs.Common.{arith}
use Rattle.std.proofs.lemmas.Bool.Decides.{nat_tests}
use Rattle.console.proofs.Rings.{held_none}
use Rattle.console.proofs.queue.Queue.new.Goals as goal

pub returns : goal.returns
returns g c = held_none g.row.N _ 0 0 (grind (arith, nat_tests))
