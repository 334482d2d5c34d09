use Rattle.board.proofs.Written.{registers_stand}
use Rattle.board.proofs.registers_stand.Goals as goal

pub returns : goal.returns
returns c = registers_stand
