-- Board against reading: what is promised of every list of calls.
use Rattle.std.specs.Prelude.{◌≡◌, ℕ, ◌<◌, ◌≤◌, true, false, List, [], ◌∷◌, ◌++◌, length}
use Rattle.std.specs.List.{list_any}
use Rattle.machine.specs.Machine.{Machine}
use Rattle.machine.specs.Board.{End, Spent, started}
use Rattle.machine.specs.Program.{Item, image, Stands}
use Rattle.machine.specs.Obligation.{Keeps}
use Rattle.machine.specs.Reading.{opened}
use Rattle.machine.specs.Calls.{Call, Run, Ran, ReadingTranscript, BoardTranscript, calls, board_call, reading_call, answer_unfetched}

-- After some calls, with the reading not over: the answers are equal and none is 23 or 24, the buses are equal, and so are the halt marks;
-- and where no line is begun, the cores.
pub record Agree (M : Machine) (read : ReadingTranscript M) (ran : BoardTranscript M) : Type 0 where
  pub answers : read.answers ≡ ran.answers
  pub fetched : list_any answer_unfetched ran.answers ≡ false
  pub bus : read.left.bus ≡ ran.left.bus
  pub halted : read.left.halted ≡ ran.left.halted
  pub core : read.left.u ≡ 0 → read.left.core ≡ ran.left.core

-- The call that ends the reading is a run with budget, and the board executes in it at least the words that the reading spends in it.
-- (The transcripts before that call, and those with it.)
pub record Ends (M : Machine) (call : Call) (read read' : ReadingTranscript M) (ran ran' : BoardTranscript M) : Type 0 where
  pub budget : ℕ
  pub spent : ℕ
  pub executed : ℕ
  pub end : End M.Refusal
  pub is_run : call ≡ Run budget
  pub some_budget : 0 < budget
  pub reads : read'.answers ≡ read.answers ++ (Ran spent Spent ∷ [])
  pub runs : ran'.answers ≡ ran.answers ++ (Ran executed end ∷ [])
  pub least : spent ≤ executed

-- The board follows the reading, each given as what every list of calls comes to: they agree after each list that leaves the reading not
-- over; a call that ends the reading is as above; and once over, the reading stays over.
pub record Follows (M : Machine) (read : List Call → ReadingTranscript M) (ran : List Call → BoardTranscript M) : Type 0 where
  pub agree : (cs : List Call) → (read cs).left.over ≡ false → Agree M (read cs) (ran cs)
  pub ends : (cs : List Call) (c : Call) → (read cs).left.over ≡ false → (read (cs ++ (c ∷ []))).left.over ≡ true →
      Ends M c (read cs) (read (cs ++ (c ∷ []))) (ran cs) (ran (cs ++ (c ∷ [])))
  pub stays : (cs more : List Call) → (read cs).left.over ≡ true → (read (cs ++ more)).left.over ≡ true

-- The agreement, for one machine: for every program whose lines keep what they owe and whose image lies below the limit, every core that
-- fits and every sound bus on which the image stands at 0, a newly started board follows the reading.
abbrev pub Agreement : Machine → Type 0
Agreement M =
    (program : List (Item M)) → Keeps M program → length (image M program) ≤ M.limit →
    (c : M.Core) (b : M.Bus) → M.Fits c → M.Sound b → Stands M program b →
    Follows M (λ cs. calls (reading_call M program) cs (opened M c b)) (λ cs. calls (board_call M) cs (started M c b))
