-- The reading: the meaning of a program, line by line. It sees lines, and never fetches a word.
use Rattle.std.specs.Prelude.{ℕ, zero, suc, ◌+◌, ◌-◌, Bool, true, false, ◌||◌, List, Some, None, Option, nat_lt}
use Rattle.std.specs.List.{list_any}
use Rattle.machine.specs.Machine.{Machine, Done, Halts, Refused}
use Rattle.machine.specs.Board.{Halted, Spent, Faulted, Course, behind, asked, unless}
use Rattle.machine.specs.Program.{Line, Item, line_at, in_line}

-- A reading: the core, the bus, the halt mark, the stored mark (an accepted store has hit an instruction line), u, the words spent on the
-- line begun at the next address (0: none is begun), and whether the reading is over.
pub record Reading (M : Machine) : Type 0 where
  pub core : M.Core
  pub bus : M.Bus
  pub halted : Bool
  pub stored : Bool
  pub u : ℕ
  pub over : Bool

-- A reading at its beginning: no mark, u 0, not over.
abbrev pub opened : (M : Machine) → M.Core → M.Bus → Reading M
opened M c b = record { core = c; bus = b; halted = false; stored = false; u = 0; over = false }

module _ (M : Machine) (program : List (Item M)) where
  -- The line to execute: the one that begins at the next address. There is none where no line begins there, or the stored mark is set.
  unfoldable pub current : Reading M → Option (Line M)
  current r = elim r.stored [ true ↦ None | false ↦ line_at M program 0 (M.at r.core) ]

  -- The reading with n words spent on the line begun; nothing else is changed.
  abbrev pub spending : Reading M → ℕ → Reading M
  spending r n = record { core = r.core; bus = r.bus; halted = r.halted; stored = r.stored; u = n; over = r.over }

  -- The reading after a line that is done: the stored mark is set if one of the stored bytes lies in an instruction line.
  abbrev pub struck : Reading M → M.Core → M.Bus → List ℕ → Reading M
  struck r c b stores =
      record { core = c; bus = b; halted = r.halted; stored = r.stored || list_any (in_line M program 0) stores; u = 0; over = r.over }

  -- The reading after a line that halts.
  abbrev pub stopped : Reading M → M.Core → Reading M
  stopped r c = record { core = c; bus = r.bus; halted = true; stored = r.stored; u = 0; over = r.over }

  -- The reading, over.
  abbrev pub ended : Reading M → Reading M
  ended r = record { core = r.core; bus = r.bus; halted = r.halted; stored = r.stored; u = r.u; over = true }

  -- The lines of a run, while budget is left. With budget left and no line to execute, the reading is over. A line has its cost, less u,
  -- yet to spend. Where the budget is below that, all of it is spent and u grows by it. Else the line is executed, and is done or halts,
  -- with all of that spent; or it is refused, and then all of that but the last word is spent, and u grows by that.
  -- Each line executed spends a word or more, so that as many turns as there is budget suffice.
  unfoldable pub read : ℕ → ℕ → Reading M → Course M.Refusal (Reading M)
  read zero budget r = record { words = 0; end = Spent; left = r }
  read (suc turns) zero r = record { words = 0; end = Spent; left = r }
  read (suc turns) (suc budget) r = elim (current r) [
    | None ↦ record { words = 0; end = Spent; left = ended r }
    | Some line ↦ let yet : ℕ = line.cost r.core - r.u in
        elim (nat_lt (suc budget) yet) [
          | true ↦ record { words = suc budget; end = Spent; left = spending r (r.u + suc budget) }
          | false ↦ elim (line.stroke r.core r.bus) [
            | Done c b stores ↦ behind yet (read turns (suc budget - yet) (struck r c b stores))
            | Halts c ↦ record { words = yet; end = Halted; left = stopped r c }
            | Refused f ↦ record { words = yet - 1; end = Faulted f; left = spending r (r.u + (yet - 1)) }
          ]
        ]
  ]

  -- A run of the reading with a budget of words. Nobody holds a reading.
  abbrev pub reading_run : ℕ → Reading M → Course M.Refusal (Reading M)
  reading_run budget r = unless (asked false r.halted) r (read budget budget r)
