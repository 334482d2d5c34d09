-- The calls to a board on its bus, and to a reading: run, give and take.
use Rattle.std.specs.Prelude.{ℕ, Bool, true, false, List, [], ◌∷◌, Ok, Err, Result}
use Rattle.machine.specs.Machine.{Machine}
use Rattle.machine.specs.Board.{Fault, Held, HaltedBefore, NotThere, NotValid, OfWord, End, Halted, Spent, Faulted, Course, Board, board_run}
use Rattle.machine.specs.Program.{Item}
use Rattle.machine.specs.Reading.{Reading, reading_run}

-- A call: run with a budget of words, give a byte, take a byte.
pub data Call : Type 0 where
  Run Give : ℕ → Call
  Take : Call

-- A call's answer: the words of a run and how it ended; a byte given; a byte taken; or why the bus refused.
pub data Answer (Refusal Denial : Type 0) : Type 0 where
  Ran : ℕ → End Refusal → Answer Refusal Denial
  Given : Answer Refusal Denial
  Taken : ℕ → Answer Refusal Denial
  Denied : Denial → Answer Refusal Denial

-- A call's answer, and what it left.
pub record Reply (Refusal Denial S : Type 0) : Type 0 where
  pub answer : Answer Refusal Denial
  pub left : S

-- The reply to a run.
abbrev pub told : {Refusal Denial S : Type 0} → Course Refusal S → Reply Refusal Denial S
told r = record { answer = Ran r.words r.end; left = r.left }

-- The reply to a give, from a state s and the state with another bus: a refused give changes nothing.
abbrev pub gave : {Refusal Denial Bus S : Type 0} → S → (Bus → S) → Result (Unit {0} × Bus) Denial → Reply Refusal Denial S
gave s on (Ok p) = record { answer = Given; left = on p.1 }
gave s on (Err why) = record { answer = Denied why; left = s }

-- The reply to a take: a refused take changes nothing.
abbrev pub took : {Refusal Denial Bus S : Type 0} → S → (Bus → S) → Result (ℕ × Bus) Denial → Reply Refusal Denial S
took s on (Ok p) = record { answer = Taken p.0; left = on p.1 }
took s on (Err why) = record { answer = Denied why; left = s }

module _ (M : Machine) where
  -- A board with another bus; nothing else is changed.
  abbrev pub board_on : Board M → M.Bus → Board M
  board_on b x = record { core = b.core; bus = x; held = b.held; halted = b.halted }

  -- A reading with another bus; nothing else is changed.
  abbrev pub reading_on : Reading M → M.Bus → Reading M
  reading_on r x = record { core = r.core; bus = x; halted = r.halted; stored = r.stored; u = r.u; over = r.over }

  -- One call to a board.
  unfoldable pub board_call : Call → Board M → Reply M.Refusal M.Denial (Board M)
  board_call (Run budget) b = told (board_run M budget b)
  board_call (Give v) b = gave b (board_on b) (M.give b.bus v)
  board_call Take b = took b (board_on b) (M.take b.bus)

  -- One call to the reading of a program.
  unfoldable pub reading_call : List (Item M) → Call → Reading M → Reply M.Refusal M.Denial (Reading M)
  reading_call p (Run budget) r = told (reading_run M p budget r)
  reading_call p (Give v) r = gave r (reading_on r) (M.give r.bus v)
  reading_call p Take r = took r (reading_on r) (M.take r.bus)

-- What a list of calls came to: their answers, and what they left.
pub record Transcript (Refusal Denial S : Type 0) : Type 0 where
  pub answers : List (Answer Refusal Denial)
  pub left : S

-- A list of calls, one after the other.
abbrev pub calls : {Refusal Denial S : Type 0} → (Call → S → Reply Refusal Denial S) → List Call → S → Transcript Refusal Denial S
calls f [] s = record { answers = []; left = s }
calls f (c ∷ cs) s =
    record { answers = (f c s).answer ∷ (calls f cs (f c s).left).answers; left = (calls f cs (f c s).left).left }

-- What calls to a machine's reading came to.
abbrev pub ReadingTranscript : Machine → Type 0
ReadingTranscript M = Transcript M.Refusal M.Denial (Reading M)

-- What calls to a machine's board came to.
abbrev pub BoardTranscript : Machine → Type 0
BoardTranscript M = Transcript M.Refusal M.Denial (Board M)

-- Is a fault 23 or 24: a word's byte that does not peek, or a word that is not valid?
abbrev pub unfetched : {Refusal : Type 0} → Fault Refusal → Bool
unfetched Held = false
unfetched HaltedBefore = false
unfetched (NotThere a) = true
unfetched (NotValid a) = true
unfetched (OfWord a why) = false

-- Is the end of a run such a fault?
abbrev pub end_unfetched : {Refusal : Type 0} → End Refusal → Bool
end_unfetched Halted = false
end_unfetched Spent = false
end_unfetched (Faulted f) = unfetched f

-- Is an answer such a fault?
abbrev pub answer_unfetched : {Refusal Denial : Type 0} → Answer Refusal Denial → Bool
answer_unfetched (Ran n end) = end_unfetched end
answer_unfetched Given = false
answer_unfetched (Taken v) = false
answer_unfetched (Denied why) = false
