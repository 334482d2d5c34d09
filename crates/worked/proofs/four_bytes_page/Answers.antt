use Rattle.worked.proofs.Pages.{four-bytes-page}
use Rattle.worked.proofs.four_bytes_page.Goals as goal

pub returns : goal.returns
returns c = four-bytes-page
