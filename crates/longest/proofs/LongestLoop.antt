-- The longest loop, computed on either side: the reading at a stroke, the board word by word, in eight parts.
use Rattle.std.proofs.Common.{◌≡◌, ℕ, zero, suc, ◌+◌, ◌-◌, ◌/◌, ◌%◌, ◌<◌, ◌≤◌, Bool, true, false, eqb, List, [], ◌∷◌, get_or, drop, Some, None, Ok, Err, Option, Result, sym, refl, ap, ◌∙◌, arith}
use mathlib.Core.Path.{fun_ext}
use Rattle.std.specs.Prelude.{not}
use Rattle.machine.specs.Machine.{Outcome, Done, Halts, Refused, outcome}
use Rattle.machine.specs.Board.{Fault, placed, End, Halted, Spent, Course, behind, Board, started, decoded, fetched, fetch, does, step, execute}
use Rattle.machine.specs.Program.{line_at, in_line}
use Rattle.machine.specs.Reading.{Reading, current, read}
use Rattle.machine.specs.Calls.{Call, Run, Ran, Reply, told, BoardTranscript, calls, board_call, reading_call}
use Rattle.worked.specs.Worked.{Size, Two, modulus, Registers, put, Core, Bus, Denial, Refusal, peek, load, store, Word, Ldc, Lsr, Sub, Bez, Bnz, Ldw, Stw, Hcf, fields, table, decode, branch, loaded, stored, act, worked}
use Rattle.worked.specs.Page.{blank, bus_of, reads, runs, longest}
use Rattle.longest.specs.LongestPage.{long_calls, long_page, behind_the_loop, LongestPage}
use Rattle.machine.proofs.Ticks.{execute_done, execute_halts, execute-refused}
use Rattle.machine.proofs.InParts.{goes_on}
use Rattle.worked.specs.WorkedLaws.{put_other, put_self}

-- a word that two bytes spell names a register below 8
abbrev Low : Option Word → Type 0
Low None = Unit {0}
Low (Some w) = (fields w).1 < 8

abbrev AllLow : List (Option Word) → Type 0
AllLow [] = Unit {0}
AllLow (o ∷ os) = Low o × AllLow os

low-at : (os : List (Option Word)) → AllLow os → (i : ℕ) → Low (get_or os i None)
low-at [] h i = tt
low-at (o ∷ os) h zero = h.0
low-at (o ∷ os) h (suc i) = low-at os h.1 i

decode-low : (h l : ℕ) → Low (decode h l)
decode-low h l =
    let r : h % 8 < 8 = omega arith in
    low-at (table (h % 8) l) (r, (r, (r, (r, (r, (r, (r, (omega arith, tt)))))))) (h / 8)

-- so a run leaves the register q as it is, from 8 on
module _ (z : Size) (q : ℕ) (high : 8 ≤ q) where
  abbrev Kept : Registers → Outcome Core Bus (Fault Refusal) → Type 0
  Kept g (Done c b stores) = c.regs q ≡ g q
  Kept g (Halts c) = c.regs q ≡ g q
  Kept g (Refused why) = Unit {0}

  put_kept : (r v : ℕ) (g : Registers) → r < 8 → put r v g q ≡ g q
  put_kept r v g h = put_other r v g q (λ e. omega arith)

  branch_kept : (c : Core) (t : Bool) (x : ℕ) → (branch z c t x).regs q ≡ c.regs q
  branch_kept c true x = refl
  branch_kept c false x = refl

  load_kept : (r : ℕ) (c : Core) → r < 8 → (o : Result (ℕ × Bus) Refusal) → Kept c.regs (placed c.next (loaded z r c o))
  load_kept r c h (Ok p) = put_kept r p.0 c.regs h
  load_kept r c h (Err why) = tt

  store_kept : (c : Core) (a : ℕ) (o : Result Bus Refusal) → Kept c.regs (placed c.next (stored z c a o))
  store_kept c a (Ok b) = refl
  store_kept c a (Err why) = tt

  word_kept : (w : Word) → (fields w).1 < 8 → (c : Core) (b : Bus) → Kept c.regs (placed c.next (outcome (act z w c) b))
  word_kept (Ldc r n) h c b = put_kept r _ c.regs h
  word_kept (Lsr r s) h c b = put_kept r _ c.regs h
  word_kept (Sub r n) h c b = put_kept r _ c.regs h
  word_kept (Bez r n) h c b = branch_kept c (eqb (c.regs r) 0) (c.next + 2 + n)
  word_kept (Bnz r n) h c b = branch_kept c (not (eqb (c.regs r) 0)) (c.next + 2 + (modulus z - n))
  word_kept (Ldw r s) h c b = load_kept r c h (load z b (c.regs s))
  word_kept (Stw r s) h c b = store_kept c (c.regs s) (store z b (c.regs s) (c.regs r))
  word_kept Hcf h c b = refl

  decoded_kept : (c : Core) (b : Bus) (o : Option Word) → Low o → Kept c.regs (does (worked z) (decoded c.next o) c b)
  decoded_kept c b None h = tt
  decoded_kept c b (Some w) h = word_kept w h c b

  fetched_kept : (c : Core) (b : Bus) (first second : Option ℕ) → Kept c.regs (does (worked z) (fetched (worked z) c.next first second) c b)
  fetched_kept c b None second = tt
  fetched_kept c b (Some h) None = tt
  fetched_kept c b (Some h) (Some l) = decoded_kept c b (decode h l) (decode-low h l)

  step_kept : (c : Core) (b : Bus) → Kept c.regs (step (worked z) c b)
  unfolding step fetch
  step_kept c b = fetched_kept c b (peek b c.next) (peek b (c.next + 1))

  turn_kept : (n : ℕ) → ((b : Board (worked z)) → (execute (worked z) n b).left.core.regs q ≡ b.core.regs q) →
      (b : Board (worked z)) (o : Outcome Core Bus (Fault Refusal)) → step (worked z) b.core b.bus ≡ o → Kept b.core.regs o →
      (execute (worked z) (suc n) b).left.core.regs q ≡ b.core.regs q
  turn_kept n ih b (Done c s stores) e k =
      ap (λ r. r.left.core.regs q) (execute_done (worked z) n b c s stores e) ∙ (ih (record { core = c; bus = s; held = b.held; halted = b.halted }) ∙ k)
  turn_kept n ih b (Halts c) e k = ap (λ r. r.left.core.regs q) (execute_halts (worked z) n b c e) ∙ k
  turn_kept n ih b (Refused f) e k = ap (λ r. r.left.core.regs q) (execute-refused (worked z) n b f e)

  execute_kept : (n : ℕ) (b : Board (worked z)) → (execute (worked z) n b).left.core.regs q ≡ b.core.regs q
  unfolding execute
  execute_kept zero b = refl
  execute_kept (suc n) b = turn_kept n (execute_kept n) b (step (worked z) b.core b.bus) refl (step_kept b.core b.bus)

-- a run's course is what can be seen of it: words, end, next address, bus, marks and the first eight registers; and the registers from 8 on
abbrev firsts : ℕ → Registers → List ℕ
firsts zero g = []
firsts (suc n) g = g 0 ∷ firsts n (λ q. g (suc q))

same_firsts : (n : ℕ) (g h : Registers) → firsts n g ≡ firsts n h → ((q : ℕ) → n ≤ q → g q ≡ h q) → (q : ℕ) → g q ≡ h q
same_firsts zero g h e k q = k q (omega arith)
same_firsts (suc n) g h e k zero = ap (λ xs. get_or xs 0 0) e
same_firsts (suc n) g h e k (suc q) = same_firsts n (λ x. g (suc x)) (λ x. h (suc x)) (ap (λ xs. drop 1 xs) e) (λ x l. k (suc x) (omega arith)) q

abbrev Ended : Type 0
Ended = Course Refusal (Board (worked Two))

abbrev seen : Ended → ℕ × End Refusal × ℕ × Bus × Bool × Bool × List ℕ
seen r = (r.words, r.end, r.left.core.next, r.left.bus, r.left.held, r.left.halted, firsts 8 r.left.core.regs)

same_seen : (r s : Ended) → seen r ≡ seen s → ((q : ℕ) → 8 ≤ q → r.left.core.regs q ≡ s.left.core.regs q) → r ≡ s
same_seen r s e k =
    let regs : r.left.core.regs ≡ s.left.core.regs = fun_ext (same_firsts 8 r.left.core.regs s.left.core.regs (ap (λ t. t.6) e) k) in
    λ i. record {
      words = (e i).0;
      end = (e i).1;
      left = record { core = record { regs = regs i; next = (e i).2 }; bus = (e i).3; held = (e i).4; halted = (e i).5 };
    }

-- the board in the middle of the loop, with v in r2 and the next address a; the other registers stay 0
abbrev nothing : Registers
nothing = λ q. 0

abbrev paused : ℕ → ℕ → Board (worked Two)
paused v a = started (worked Two) (record { regs = put 2 v nothing; next = a }) (bus_of Two longest)

-- n words are executed, and the budget is spent
abbrev spent : ℕ → Board (worked Two) → Ended
spent n b = record { words = n; end = Spent; left = b }

part : (n v a v' a' : ℕ) → seen (execute (worked Two) n (paused v a)) ≡ seen (spent n (paused v' a')) → execute (worked Two) n (paused v a) ≡ spent n (paused v' a')
part n v a v' a' e =
    same_seen (execute (worked Two) n (paused v a)) (spent n (paused v' a')) e
    (λ q h. execute_kept Two q h n (paused v a) ∙ (put_kept Two q h 2 v nothing (omega arith) ∙ sym (put_kept Two q h 2 v' nothing (omega arith))))

-- the parts
words_25000 : seen (execute (worked Two) 25000 (paused 0 0)) ≡ seen (spent 25000 (paused 57203 2))
unfolding execute step fetch put
words_25000 = refl

words_50000 : seen (execute (worked Two) 25000 (paused 57203 2)) ≡ seen (spent 25000 (paused 48869 4))
unfolding execute step fetch put
words_50000 = refl

words_75000 : seen (execute (worked Two) 25000 (paused 48869 4)) ≡ seen (spent 25000 (paused 40536 0))
unfolding execute step fetch put
words_75000 = refl

words_100000 : seen (execute (worked Two) 25000 (paused 40536 0)) ≡ seen (spent 25000 (paused 32203 2))
unfolding execute step fetch put
words_100000 = refl

words_124152 : seen (execute (worked Two) 24152 (paused 32203 2)) ≡ seen (spent 24152 (paused 24152 0))
unfolding execute step fetch put
words_124152 = refl

words_148304 : seen (execute (worked Two) 24152 (paused 24152 0)) ≡ seen (spent 24152 (paused 16101 4))
unfolding execute step fetch put
words_148304 = refl

words_172456 : seen (execute (worked Two) 24152 (paused 16101 4)) ≡ seen (spent 24152 (paused 8051 2))
unfolding execute step fetch put
words_172456 = refl

words_196608 : seen (execute (worked Two) 24152 (paused 8051 2)) ≡ seen (spent 24152 (paused 0 6))
unfolding execute step fetch put
words_196608 = refl

-- the board halted at the `hcf`
abbrev halted_with : Registers → Board (worked Two)
halted_with g = record { core = record { regs = g; next = 6 }; bus = bus_of Two longest; held = false; halted = true }

last_word : execute (worked Two) 3392 (paused 0 6) ≡ record { words = 1; end = Halted; left = halted_with (put 2 0 nothing) }
unfolding execute step fetch
last_word = refl

-- one part behind the other
joined : (m n : ℕ) (b c d : Board (worked Two)) → execute (worked Two) m b ≡ spent m c → execute (worked Two) n c ≡ spent n d → execute (worked Two) (m + n) b ≡ spent (m + n) d
joined m n b c d e k = goes_on (worked Two) m n m b c e ∙ ap (λ r. behind m r) k

first_run : execute (worked Two) 100000 (paused 0 0) ≡ spent 100000 (paused 32203 2)
first_run =
    joined 75000 25000 (paused 0 0) (paused 40536 0) (paused 32203 2)
    (joined 50000 25000 (paused 0 0) (paused 48869 4) (paused 40536 0)
    (joined 25000 25000 (paused 0 0) (paused 57203 2) (paused 48869 4) (part 25000 0 0 57203 2 words_25000) (part 25000 57203 2 48869 4 words_50000))
    (part 25000 48869 4 40536 0 words_75000))
    (part 25000 40536 0 32203 2 words_100000)

second_run : execute (worked Two) 96608 (paused 32203 2) ≡ spent 96608 (paused 0 6)
second_run =
    joined 72456 24152 (paused 32203 2) (paused 8051 2) (paused 0 6)
    (joined 48304 24152 (paused 32203 2) (paused 16101 4) (paused 8051 2)
    (joined 24152 24152 (paused 32203 2) (paused 24152 0) (paused 16101 4) (part 24152 32203 2 24152 0 words_124152) (part 24152 24152 0 16101 4 words_148304))
    (part 24152 16101 4 8051 2 words_172456))
    (part 24152 8051 2 0 6 words_196608)

whole-loop : execute (worked Two) 196608 (paused 0 0) ≡ spent 196608 (paused 0 6)
whole-loop = joined 100000 96608 (paused 0 0) (paused 32203 2) (paused 0 6) first_run second_run

up_to_the_halt : execute (worked Two) 100000 (paused 32203 2) ≡ record { words = 96609; end = Halted; left = halted_with (put 2 0 nothing) }
up_to_the_halt = goes_on (worked Two) 96608 3392 96608 (paused 32203 2) (paused 0 6) second_run ∙ ap (λ r. behind 96608 r) last_word

-- the calls
abbrev Told : Type 0
Told = Reply Refusal Denial (Board (worked Two))

call_first : ◌≡◌ {A = Told} (board_call (worked Two) (Run 100000) (paused 0 0)) (record { answer = Ran 100000 Spent; left = paused 32203 2 })
unfolding board_call
call_first = ap (λ r. told r) first_run

call_second : ◌≡◌ {A = Told} (board_call (worked Two) (Run 100000) (paused 32203 2)) (record { answer = Ran 96609 Halted; left = halted_with (put 2 0 nothing) })
unfolding board_call
call_second = ap (λ r. told r) up_to_the_halt

call_whole : ◌≡◌ {A = Told} (board_call (worked Two) (Run 196608) (paused 0 0)) (record { answer = Ran 196608 Spent; left = paused 0 6 })
unfolding board_call
call_whole = ap (λ r. told r) whole-loop

-- what calls come to behind a reply
abbrev onwards : List Call → Told → BoardTranscript (worked Two)
onwards cs r = record { answers = r.answer ∷ (calls (board_call (worked Two)) cs r.left).answers; left = (calls (board_call (worked Two)) cs r.left).left }

abbrev two-answers : Told → BoardTranscript (worked Two)
two-answers r = record { answers = Ran 100000 Spent ∷ (r.answer ∷ []); left = r.left }

abbrev halts_with : Registers → BoardTranscript (worked Two)
halts_with g = record { answers = long_page; left = halted_with g }

abbrev passes_with : Registers → BoardTranscript (worked Two)
passes_with g = record { answers = Ran 196608 Spent ∷ []; left = started (worked Two) (record { regs = g; next = 6 }) (bus_of Two longest) }

-- 0 in r2 is no change
nothing_put : put 2 0 nothing ≡ nothing
nothing_put = put_self 2 nothing

start : started (worked Two) blank (bus_of Two longest) ≡ paused 0 0
start = ap (λ g. started (worked Two) (record { regs = g; next = 0 }) (bus_of Two longest)) (sym nothing_put)

board-runs : runs Two longest long_calls ≡ record { answers = long_page; left = halted_with nothing }
unfolding runs
board-runs =
    ap (λ b. calls (board_call (worked Two)) long_calls b) start ∙
    (ap (λ r. onwards (Run 100000 ∷ []) r) call_first ∙
    (ap (λ r. two-answers r) call_second ∙
    ap (λ g. halts_with g) nothing_put))

board_loops : runs Two longest (Run 196608 ∷ []) ≡ record { answers = Ran 196608 Spent ∷ []; left = started (worked Two) behind_the_loop (bus_of Two longest) }
unfolding runs
board_loops =
    ap (λ b. calls (board_call (worked Two)) (Run 196608 ∷ []) b) start ∙
    (ap (λ r. onwards [] r) call_whole ∙
    ap (λ g. passes_with g) nothing_put)

-- the reading; r1, shifted by all those places, is 0 as well
abbrev reading_with : Registers → Bool → Reading (worked Two)
reading_with g h = record { core = record { regs = g; next = 6 }; bus = bus_of Two longest; halted = h; stored = false; u = 0; over = false }

nothing_shifted : put 2 0 (put 1 0 nothing) ≡ nothing
nothing_shifted = ap (λ g. put 2 0 g) (put_self 1 nothing) ∙ nothing_put

read-answers : ((reads Two longest long_calls).answers ≡ long_page) × ((reads Two longest (Run 196608 ∷ [])).answers ≡ Ran 196608 Spent ∷ [])
unfolding reads reading_call read current line_at in_line
read-answers = (refl, refl)

read_left : ((reads Two longest long_calls).left ≡ reading_with (put 2 0 (put 1 0 nothing)) true) × ((reads Two longest (Run 196608 ∷ [])).left ≡ reading_with (put 2 0 (put 1 0 nothing)) false)
unfolding reads reading_call read current line_at in_line
read_left = (refl, refl)

pub longest-page : LongestPage
longest-page =
    record {
      board = ap (λ t. t.answers) board-runs;
      reading = read-answers.0;
      board_halts = ap (λ t. t.left) board-runs;
      reading_halts = read_left.0 ∙ ap (λ g. reading_with g true) nothing_shifted;
      board_loop = ap (λ t. t.answers) board_loops;
      reading_loop = read-answers.1;
      board_passes = ap (λ t. t.left) board_loops;
      reading_passes = read_left.1 ∙ ap (λ g. reading_with g false) nothing_shifted;
    }
