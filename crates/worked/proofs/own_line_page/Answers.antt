use Rattle.worked.proofs.Pages.{own_line-page}
use Rattle.worked.proofs.own_line_page.Goals as goal

pub returns : goal.returns
returns c = own_line-page
