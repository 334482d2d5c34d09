use Rattle.worked.proofs.Pages.{off_the_lines-page}
use Rattle.worked.proofs.off_the_lines_page.Goals as goal

pub returns : goal.returns
returns c = off_the_lines-page
