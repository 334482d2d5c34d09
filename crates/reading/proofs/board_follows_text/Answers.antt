use Rattle.reading.proofs.Programs.{follows}
use Rattle.reading.proofs.board_follows_text.Goals as goal

pub returns : goal.returns
returns c = follows c.boards_follow.ensures
