-- Each sum, computed.
use Rattle.std.proofs.Common.{refl}
use Rattle.machine.specs.Board.{execute, step, fetch}
use Rattle.machine.specs.Program.{line_at, in_line}
use Rattle.machine.specs.Reading.{current, read}
use Rattle.machine.specs.Calls.{board_call, reading_call}
use Rattle.reading.specs.Sums.{PlainSums, AccessSums, BranchSums, ShiftSums, PageSums, Sums}

plain_sums : PlainSums
plain_sums = record { negative = λ m. refl; constant = λ m. refl }

access_sums : AccessSums
access_sums = record { signed_byte = refl; word = refl; odd_load = λ m. refl; low_byte_stored = refl; word_stored = refl; fixed = refl }

branch_sums : BranchSums
branch_sums = record { taken = λ m. refl; not_taken = λ m. refl; odd = λ m. refl }

shift_sums : ShiftSums
shift_sums = record {
  logical = λ m. refl;
  arithmetic = λ m. refl;
  leftward = λ m. refl;
  all_out = λ m. refl;
  all_signs = λ m. refl;
  no_sign = λ m. refl;
  all_left = λ m. refl;
  spent = refl;
  most_spent = refl;
}

page_sums : PageSums
unfolding board_call reading_call execute step fetch read current line_at in_line
page_sums = record { spelled = refl; board = refl; reading = refl }

pub sums : Sums
sums = record { plains = plain_sums; accesses = access_sums; branches = branch_sums; shifting = shift_sums; pages = page_sums }
