use Rattle.worked.proofs.Pages.{pages_follow}
use Rattle.worked.proofs.pages_follow.Goals as goal

pub returns : goal.returns
returns c = pages_follow
