use Rattle.machine.proofs.ReadyMade.{rules}
use Rattle.machine.proofs.rules_hold.Goals as goal

pub returns : goal.returns
returns g c = rules _ g.T.Lawful.keeps
