use Rattle.worked.proofs.Pages.{first-page}
use Rattle.worked.proofs.first_page.Goals as goal

pub returns : goal.returns
returns c = first-page
