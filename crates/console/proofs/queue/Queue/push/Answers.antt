use Rattle.std.proofs.Common.{rules}
use Rattle.console.proofs.Rings.{held-push}
use Rattle.console.proofs.queue.Queue.push.Goals as goal

pub returns : goal.returns
returns g c = search (rules, held-push)
