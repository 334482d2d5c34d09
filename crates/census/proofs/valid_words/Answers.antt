use Rattle.census.proofs.Blocks.{counted}
use Rattle.census.proofs.valid_words.Goals as goal

pub returns : goal.returns
returns c = counted
