use Rattle.board.proofs.Computed.{sums}
use Rattle.board.proofs.sums_stand.Goals as goal

pub returns : goal.returns
returns c = sums
