use Rattle.longest.proofs.LongestLoop.{longest-page}
use Rattle.longest.proofs.longest_page.Goals as goal

pub returns : goal.returns
returns c = longest-page
