use Rattle.reading.proofs.Standing.{lines_stand}
use Rattle.reading.proofs.lines_stand.Goals as goal

pub returns : goal.returns
returns c = lines_stand
