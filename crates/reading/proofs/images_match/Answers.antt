use Rattle.reading.proofs.Programs.{images_match}
use Rattle.reading.proofs.images_match.Goals as goal

pub returns : goal.returns
returns c = images_match
