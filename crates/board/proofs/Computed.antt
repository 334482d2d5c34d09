-- Each sum, computed.
use Rattle.std.proofs.Common.{refl}
use Rattle.machine.specs.Board.{execute, step, fetch}
use Rattle.board.specs.Sums.{RegisterSums, ImmediateSums, BranchSums, BusSums, RunSums, Sums}

register_sums : RegisterSums
register_sums = record {
  signed_less = refl;
  unsigned_less = refl;
  added = refl;
  subtracted = refl;
  both_bits = refl;
  either_bit = refl;
  one_bit = refl;
  halved = refl;
  halved_signed = refl;
}

immediate_sums : ImmediateSums
immediate_sums = record {
  and_byte = refl;
  or_byte = refl;
  xor_minus_one = refl;
  less_than_minus_one = refl;
  below_65535 = refl;
  minus_one_added = refl;
  minus_one_subtracted = refl;
  minus_one = refl;
  constant = refl;
}

branch_sums : BranchSums
branch_sums = record {
  word_behind = refl;
  to_register = refl;
  not_zero = refl;
  on = refl;
  back = refl;
  on_beyond = refl;
  back_below = refl;
  odd_register = λ b. refl;
  odd_immediate = λ b. refl;
  odd_not_taken = refl;
  odd_number = refl;
}

bus_sums : BusSums
bus_sums = record {
  byte = refl;
  signed_byte = refl;
  word = refl;
  received = refl;
  low_byte_stored = refl;
  word_stored = refl;
  fixed = refl;
  fixed_number = refl;
  odd_load = λ b. refl;
  odd_store = λ b. refl;
  odd_number = refl;
  halts = λ b. refl;
}

run_sums : RunSums
unfolding execute step fetch
run_sums = record {
  whole = refl;
  part = refl;
  rest = refl;
  off = refl;
  refused = refl;
}

pub sums : Sums
sums = record { registers = register_sums; immediates = immediate_sums; branches = branch_sums; accesses = bus_sums; runs = run_sums }
