use Rattle.reading.proofs.Computed.{sums}
use Rattle.reading.proofs.sums_stand.Goals as goal

pub returns : goal.returns
returns c = sums
