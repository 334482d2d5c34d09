use Rattle.std.proofs.Common.{rules}
use Rattle.console.proofs.Rings.{held-pop, held_none}
use Rattle.console.proofs.queue.Queue.pop.Goals as goal

pub returns-then-count-eq0 : goal.returns-then-count-eq0
returns-then-count-eq0 g c = search (rules, held_none)

pub returns : goal.returns
returns g c = search (rules, held-pop)
