use Rattle.board.proofs.Asked.{asked_before}
use Rattle.board.proofs.asked_before.Goals as goal

pub returns : goal.returns
returns c = asked_before
