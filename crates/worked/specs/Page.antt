-- The worked page: a few programs on the worked machine, the calls sent, and the answers, on the board and in the reading.
use Rattle.std.specs.Prelude.{◌≡◌, ℕ, ◌-◌, true, false, List, [], ◌∷◌, ◌++◌, length, None, Option, nat_lt, slice_index, slice_index_or}
use Rattle.machine.specs.Board.{HaltedBefore, NotThere, NotValid, OfWord, number, address, End, Halted, Spent, Faulted, started}
use Rattle.machine.specs.Program.{Item, Code, Data, image}
use Rattle.machine.specs.Reading.{opened}
use Rattle.machine.specs.Calls.{Call, Run, Give, Take, Answer, Ran, Given, Taken, Denied, ReadingTranscript, BoardTranscript, calls, board_call, reading_call}
use Rattle.machine.specs.Agreement.{Follows}
use Rattle.worked.specs.Worked.{Size, Two, Four, Core, Place, Cell, CharacterPort, InputPort, Nothing, Bus, NoneWaiting, NoneSent, OnBus, Denial, Refusal, refusal_number, denial_number, Hcf, worked, Row, One, Ldi, LdwAt, StwAt, Lsrm, LsrmOrNone, line}

-- A core with every register 0, at address 0.
abbrev pub blank : Core
blank = record { regs = λ q. 0; next = 0 }

-- The ports, from 0xF000 on: a character port, and behind a gap an input port.
abbrev pub port : ℕ → Place
port d = slice_index_or (CharacterPort ∷ (CharacterPort ∷ (Nothing ∷ (Nothing ∷ (InputPort ∷ (InputPort ∷ [])))))) d Nothing

-- What stands at each address of a page's bus: these bytes as cells from 0 on, and the ports.
abbrev pub place_of : List ℕ → ℕ → Place
place_of bytes x = elim (nat_lt x (length bytes)) [ true ↦ Cell (slice_index bytes x) | false ↦ elim (nat_lt x 0xF000) [ true ↦ Nothing | false ↦ port (x - 0xF000) ] ]

module _ (z : Size) (program : List (Item (worked z))) where
  -- The bus on which the program's image stands at 0; at most two bytes wait, and at most two are sent and not taken.
  abbrev pub bus_of : Bus
  bus_of = record { place = place_of (image (worked z) program); waiting = []; sent = []; max_waiting = 2; max_sent = 2 }

  -- What calls come to in the reading of the program, from blank registers on that bus.
  unfoldable pub reads : List Call → ReadingTranscript (worked z)
  reads cs = calls (reading_call (worked z) program) cs (opened (worked z) blank bus_of)

  -- What they come to on a board, from the same start.
  unfoldable pub runs : List Call → BoardTranscript (worked z)
  runs cs = calls (board_call (worked z)) cs (started (worked z) blank bus_of)

-- Lines with words of two bytes.
abbrev pub two : Row → Item (worked Two)
two k = Code (line Two k)

-- The first program, and the address of each line: 0 `ldi r1,2080`, 4 `ldi r2,5`, 8 `lsrm r1,r2`, 14 `ldw r3,0xF004`, 20 `stw r1,0xF000`, 26 `hcf`.
abbrev pub shift_and_send : List (Item (worked Two))
shift_and_send = two (Ldi 1 2080) ∷ (two (Ldi 2 5) ∷ (two (Lsrm 1 2) ∷ (two (LdwAt 3 0xF004) ∷ (two (StwAt 1 0xF000) ∷ (two (One Hcf) ∷ [])))))

-- Its calls: paused in mid-line; refused in mid-line, twice; cured by a give; paused again; halted; the byte sent is taken, and there is no
-- second one; and a run of the halted board.
abbrev pub script : List Call
script = Run 3 ∷ (Run 2 ∷ (Run 100 ∷ (Run 9 ∷ (Give 7 ∷ (Run 2 ∷ (Run 100 ∷ (Take ∷ (Take ∷ (Run 1 ∷ [])))))))))

-- The fault of the `ldw` at 18, the last word of its line: no byte waits.
abbrev pub nothing_waits : End Refusal
nothing_waits = Faulted (OfWord 18 (OnBus NoneWaiting))

-- The answers.
abbrev pub page : List (Answer Refusal Denial)
page =
    Ran 3 Spent ∷ (Ran 2 Spent ∷ (Ran 16 nothing_waits ∷ (Ran 0 nothing_waits ∷ (Given ∷ (Ran 2 Spent ∷ (Ran 3 Halted ∷ (Taken 65 ∷ (Denied NoneSent ∷
    (Ran 0 (Faulted HaltedBefore) ∷ [])))))))))

-- A store into its own line: 0 `stw r1,0`, 6 `hcf`.
abbrev pub own_line_rows : List (Item (worked Two))
own_line_rows = two (StwAt 1 0) ∷ (two (One Hcf) ∷ [])

-- Its calls: the store with the budget just used up, then a give and a run without budget. With one more run, of one word, the reading is over.
abbrev pub used_up : List Call
used_up = Run 3 ∷ (Give 7 ∷ (Run 0 ∷ []))

-- Their answers.
abbrev pub used_up_page : List (Answer Refusal Denial)
used_up_page = Ran 3 Spent ∷ (Given ∷ (Ran 0 Spent ∷ []))

-- A store into data: 0 `stw r1,8`, 6 `hcf`, 8 two bytes of data.
abbrev pub into_data : List (Item (worked Two))
into_data = two (StwAt 1 8) ∷ (two (One Hcf) ∷ (Data (1 ∷ (2 ∷ [])) ∷ []))

-- The longest loop: 0 `lsrm r1,r2` with r2 0, 6 `hcf`.
abbrev pub longest : List (Item (worked Two))
longest = two (Lsrm 1 2) ∷ (two (One Hcf) ∷ [])

-- Lines with words of four bytes.
abbrev pub four : Row → Item (worked Four)
four k = Code (line Four k)

-- A program of such lines: 0 `ldi r1,40`, 8 `ldi r2,3`, 16 `lsrm r1,r2` behind a `bez`, 24 the same again, by nothing now, 32 `hcf`.
abbrev pub shift_twice : List (Item (worked Four))
shift_twice = four (Ldi 1 40) ∷ (four (Ldi 2 3) ∷ (four (LsrmOrNone 1 2) ∷ (four (LsrmOrNone 1 2) ∷ (four (One Hcf) ∷ []))))

-- Its calls: they stop behind the `bez`, in the loop, behind the loop, behind the second `bez`, and at the halt.
abbrev pub four_calls : List Call
four_calls = Run 9 ∷ (Run 8 ∷ (Run 1 ∷ (Run 1 ∷ (Run 9 ∷ []))))

-- Their answers.
abbrev pub four_page : List (Answer Refusal Denial)
four_page = Ran 9 Spent ∷ (Ran 8 Spent ∷ (Ran 1 Spent ∷ (Ran 1 Spent ∷ (Ran 1 Halted ∷ []))))

-- The words of a run.
abbrev pub words_of : Answer Refusal Denial → ℕ
words_of (Ran n end) = n
words_of Given = 0
words_of (Taken v) = 0
words_of (Denied why) = 0

-- The byte taken.
abbrev pub byte_of : Answer Refusal Denial → ℕ
byte_of (Ran n end) = 0
byte_of Given = 0
byte_of (Taken v) = v
byte_of (Denied why) = 0

-- The number of a run's fault; 0 where there is none.
abbrev pub end_number : End Refusal → ℕ
end_number Halted = 0
end_number Spent = 0
end_number (Faulted f) = number refusal_number f

-- The number for a no; 0 where there is none.
abbrev pub number_of : Answer Refusal Denial → ℕ
number_of (Ran n end) = end_number end
number_of Given = 0
number_of (Taken v) = 0
number_of (Denied why) = denial_number why

-- The address that a run's fault carries.
abbrev pub end_address : End Refusal → Option ℕ
end_address Halted = None
end_address Spent = None
end_address (Faulted f) = address f

-- The address that an answer carries.
abbrev pub address_of : Answer Refusal Denial → Option ℕ
address_of (Ran n end) = end_address end
address_of Given = None
address_of (Taken v) = None
address_of (Denied why) = None

-- The answer to the call at a place of a list, from 0 on.
abbrev pub answer_at : List (Answer Refusal Denial) → ℕ → Answer Refusal Denial
answer_at xs i = slice_index_or xs i Given

-- A program that goes off its lines: 0 `ldi r1,5`, and nothing behind it.
abbrev pub nothing_behind : List (Item (worked Two))
nothing_behind = two (Ldi 1 5) ∷ []

-- The same with two bytes of data behind it that are no word.
abbrev pub data_behind : List (Item (worked Two))
data_behind = two (Ldi 1 5) ∷ (Data (255 ∷ (0 ∷ [])) ∷ [])

-- The calls that bring them there, with the budget just used up.
abbrev pub off_the_lines_calls : List Call
off_the_lines_calls = Run 2 ∷ (Run 0 ∷ [])

-- Their answers.
abbrev pub off_page : List (Answer Refusal Denial)
off_page = Ran 2 Spent ∷ (Ran 0 Spent ∷ [])

-- The first page: paused, refused, cured, halted.
pub record FirstPage : Type 0 where
  pub board : (runs Two shift_and_send script).answers ≡ page
  pub reading : (reads Two shift_and_send script).answers ≡ page
  pub begun : (reads Two shift_and_send (Run 3 ∷ [])).left.u ≡ 1
  pub stuck : (reads Two shift_and_send (Run 3 ∷ (Run 2 ∷ (Run 100 ∷ [])))).left.u ≡ 2
  pub still_stuck : (reads Two shift_and_send (Run 3 ∷ (Run 2 ∷ (Run 100 ∷ (Run 9 ∷ []))))).left.u ≡ 2

-- The second page: a store into its own line sets the mark and ends nothing; the next run with budget ends the reading. A store into data
-- sets no mark.
pub record OwnLinePage : Type 0 where
  pub board : (runs Two own_line_rows used_up).answers ≡ used_up_page
  pub reading : (reads Two own_line_rows used_up).answers ≡ used_up_page
  pub marked : (reads Two own_line_rows used_up).left.stored ≡ true
  pub goes_on : (reads Two own_line_rows used_up).left.over ≡ false
  pub is_over : (reads Two own_line_rows (used_up ++ (Run 1 ∷ []))).left.over ≡ true
  pub read_at_once : (reads Two own_line_rows (Run 9 ∷ [])).answers ≡ Ran 3 Spent ∷ []
  pub over_at_once : (reads Two own_line_rows (Run 9 ∷ [])).left.over ≡ true
  pub run_at_once : (runs Two own_line_rows (Run 9 ∷ [])).answers ≡ Ran 4 Halted ∷ []
  pub read_into_data : (reads Two into_data (Run 9 ∷ [])).answers ≡ Ran 4 Halted ∷ []
  pub unmarked : (reads Two into_data (Run 9 ∷ [])).left.stored ≡ false
  pub run_into_data : (runs Two into_data (Run 9 ∷ [])).answers ≡ Ran 4 Halted ∷ []

-- The third page: off the lines with the budget just used up, and then a run with budget: over, and on the board 23 or 24.
pub record OffTheLinesPage : Type 0 where
  pub board : (runs Two nothing_behind off_the_lines_calls).answers ≡ off_page
  pub reading : (reads Two nothing_behind off_the_lines_calls).answers ≡ off_page
  pub goes_on : (reads Two nothing_behind off_the_lines_calls).left.over ≡ false
  pub is_over : (reads Two nothing_behind (off_the_lines_calls ++ (Run 1 ∷ []))).left.over ≡ true
  pub not_there : (runs Two nothing_behind (off_the_lines_calls ++ (Run 1 ∷ []))).answers ≡ off_page ++ (Ran 0 (Faulted (NotThere 4)) ∷ [])
  pub not_valid : (runs Two data_behind (off_the_lines_calls ++ (Run 1 ∷ []))).answers ≡ off_page ++ (Ran 0 (Faulted (NotValid 4)) ∷ [])

-- The fourth page: words of four bytes, and a loop behind a word that may skip it; 40 is shifted by 3 places, once.
pub record FourBytesPage : Type 0 where
  pub board : (runs Four shift_twice four_calls).answers ≡ four_page
  pub reading : (reads Four shift_twice four_calls).answers ≡ four_page
  pub board_shifts : (runs Four shift_twice four_calls).left.core.regs 1 ≡ 5
  pub reading_shifts : (reads Four shift_twice four_calls).left.core.regs 1 ≡ 5

-- The agreement is about these programs: on each the board follows the reading.
pub record PagesFollow : Type 0 where
  pub first : Follows (worked Two) (reads Two shift_and_send) (runs Two shift_and_send)
  pub own_line : Follows (worked Two) (reads Two own_line_rows) (runs Two own_line_rows)
  pub off_the_lines : Follows (worked Two) (reads Two nothing_behind) (runs Two nothing_behind)
  pub off_to_data : Follows (worked Two) (reads Two data_behind) (runs Two data_behind)
  pub longest_loop : Follows (worked Two) (reads Two longest) (runs Two longest)
  pub four_bytes : Follows (worked Four) (reads Four shift_twice) (runs Four shift_twice)
