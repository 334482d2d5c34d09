use Rattle.reading.proofs.KeySums.{key_sums}
use Rattle.reading.proofs.key_sums_stand.Goals as goal

pub returns : goal.returns
returns c = key_sums
