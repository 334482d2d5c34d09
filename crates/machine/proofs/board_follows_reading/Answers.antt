use Rattle.machine.proofs.AllCalls.{agreement}
use Rattle.machine.proofs.board_follows_reading.Goals as goal

pub returns : goal.returns
returns g c = agreement _ g.T.Lawful.keeps
