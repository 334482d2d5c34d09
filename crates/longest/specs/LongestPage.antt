-- The page of the longest loop: `lsrm r1,r2` with r2 0, and behind it an `hcf`, on the board and in the reading.
use Rattle.std.specs.Prelude.{◌≡◌, true, false, List, [], ◌∷◌}
use Rattle.machine.specs.Board.{Halted, Spent, started}
use Rattle.machine.specs.Reading.{opened}
use Rattle.machine.specs.Calls.{Call, Run, Answer, Ran}
use Rattle.worked.specs.Worked.{Two, Core, Denial, Refusal, worked}
use Rattle.worked.specs.Page.{bus_of, reads, runs, longest}

-- Calls that pause the loop after 100,000 words.
abbrev pub long_calls : List Call
long_calls = Run 100000 ∷ (Run 100000 ∷ [])

-- Their answers: 196,608 words of the loop and one that halts.
abbrev pub long_page : List (Answer Refusal Denial)
long_page = Ran 100000 Spent ∷ (Ran 96609 Halted ∷ [])

-- The core behind the loop: every register 0, at the `hcf`.
abbrev pub behind_the_loop : Core
behind_the_loop = record { regs = λ q. 0; next = 6 }

-- The page: the loop, paused and up to the halt; and in one run that spends its budget on the loop alone. Either way with all
-- that is left: the core, the bus and the marks.
pub record LongestPage : Type 0 where
  pub board : (runs Two longest long_calls).answers ≡ long_page
  pub reading : (reads Two longest long_calls).answers ≡ long_page
  pub board_halts : (runs Two longest long_calls).left ≡ record { core = behind_the_loop; bus = bus_of Two longest; held = false; halted = true }
  pub reading_halts : (reads Two longest long_calls).left ≡ record { core = behind_the_loop; bus = bus_of Two longest; halted = true; stored = false; u = 0; over = false }
  pub board_loop : (runs Two longest (Run 196608 ∷ [])).answers ≡ Ran 196608 Spent ∷ []
  pub reading_loop : (reads Two longest (Run 196608 ∷ [])).answers ≡ Ran 196608 Spent ∷ []
  pub board_passes : (runs Two longest (Run 196608 ∷ [])).left ≡ started (worked Two) behind_the_loop (bus_of Two longest)
  pub reading_passes : (reads Two longest (Run 196608 ∷ [])).left ≡ opened (worked Two) behind_the_loop (bus_of Two longest)
