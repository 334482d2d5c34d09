use Rattle.assembler.proofs.Counts.{counts_stand}
use Rattle.assembler.proofs.expansion.counts_stand.Goals as goal

pub returns : goal.returns
returns c = counts_stand
