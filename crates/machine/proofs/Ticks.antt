-- The reading's run once more, a word at a time: the form that goes in step with the board. And what the runs come to, case by case.
use Rattle.std.proofs.Common.{◌≡◌, ℕ, zero, suc, ◌+◌, ◌-◌, true, false, ltb, List, Some, None, refl}
use Rattle.machine.specs.Machine.{Machine, Done, Halts, Refused}
use Rattle.machine.specs.Board.{Fault, Halted, Spent, Faulted, Course, behind, Board, step, execute}
use Rattle.machine.specs.Program.{Line, Item}
use Rattle.machine.specs.Reading.{Reading, current, spending, struck, stopped, ended, read}

module _ (M : Machine) (p : List (Item M)) where
  unfoldable pub tick : ℕ → Reading M → Course M.Refusal (Reading M)
  tick zero r = record { words = 0; end = Spent; left = r }
  tick (suc n) r = elim (current M p r) [
    | None ↦ record { words = 0; end = Spent; left = ended M p r }
    | Some l ↦ elim (ltb (suc r.u) (l.cost r.core)) [
      | true ↦ behind 1 (tick n (spending M p r (suc r.u)))
      | false ↦ elim (l.stroke r.core r.bus) [
        | Done c b stores ↦ behind 1 (tick n (struck M p r c b stores))
        | Halts c ↦ record { words = 1; end = Halted; left = stopped M p r c }
        | Refused f ↦ record { words = 0; end = Faulted f; left = r }
      ]
    ]
  ]

  pub tick_zero : (r : Reading M) → tick 0 r ≡ record { words = 0; end = Spent; left = r }
  unfolding tick
  tick_zero r = refl

module _ (M : Machine) (n : ℕ) (b : Board M) where
  pub execute_done : (c : M.Core) (s : M.Bus) (stores : List ℕ) → step M b.core b.bus ≡ Done c s stores →
      execute M (suc n) b ≡ behind 1 (execute M n (record { core = c; bus = s; held = b.held; halted = b.halted }))
  unfolding execute
  execute_done c s stores e = rw (e, execute)

  pub execute_halts : (c : M.Core) → step M b.core b.bus ≡ Halts c →
      execute M (suc n) b ≡ record { words = 1; end = Halted; left = record { core = c; bus = b.bus; held = b.held; halted = true } }
  unfolding execute
  execute_halts c e = rw (e, execute)

  pub execute-refused : (f : Fault M.Refusal) → step M b.core b.bus ≡ Refused f →
      execute M (suc n) b ≡ record { words = 0; end = Faulted f; left = b }
  unfolding execute
  execute-refused f e = rw (e, execute)

module _ (M : Machine) (p : List (Item M)) (n : ℕ) (r : Reading M) where
  pub tick_over : current M p r ≡ None → tick M p (suc n) r ≡ record { words = 0; end = Spent; left = ended M p r }
  unfolding tick
  tick_over e = rw (e, tick)

  module _ (l : Line M) (e : current M p r ≡ Some l) where
    pub tick_spend : ltb (suc r.u) (l.cost r.core) ≡ true → tick M p (suc n) r ≡ behind 1 (tick M p n (spending M p r (suc r.u)))
    unfolding tick
    tick_spend k = rw (e, k, tick)

    module _ (k : ltb (suc r.u) (l.cost r.core) ≡ false) where
      pub tick_done : (c : M.Core) (b : M.Bus) (stores : List ℕ) → l.stroke r.core r.bus ≡ Done c b stores →
          tick M p (suc n) r ≡ behind 1 (tick M p n (struck M p r c b stores))
      unfolding tick
      tick_done c b stores s = rw (e, k, s, tick)

      pub tick_halts : (c : M.Core) → l.stroke r.core r.bus ≡ Halts c →
          tick M p (suc n) r ≡ record { words = 1; end = Halted; left = stopped M p r c }
      unfolding tick
      tick_halts c s = rw (e, k, s, tick)

      pub tick_refused : (f : Fault M.Refusal) → l.stroke r.core r.bus ≡ Refused f →
          tick M p (suc n) r ≡ record { words = 0; end = Faulted f; left = r }
      unfolding tick
      tick_refused f s = rw (e, k, s, tick)

module _ (M : Machine) (p : List (Item M)) (turns n : ℕ) (r : Reading M) where
  pub read-over : current M p r ≡ None → read M p (suc turns) (suc n) r ≡ record { words = 0; end = Spent; left = ended M p r }
  unfolding read
  read-over e = rw (e, read)

  module _ (l : Line M) (e : current M p r ≡ Some l) where
    pub read-part : ltb (suc n) (l.cost r.core - r.u) ≡ true →
        read M p (suc turns) (suc n) r ≡ record { words = suc n; end = Spent; left = spending M p r (r.u + suc n) }
    unfolding read
    read-part k = rw (e, k, read)

    module _ (k : ltb (suc n) (l.cost r.core - r.u) ≡ false) where
      pub read_done : (c : M.Core) (b : M.Bus) (stores : List ℕ) → l.stroke r.core r.bus ≡ Done c b stores →
          read M p (suc turns) (suc n) r ≡ behind (l.cost r.core - r.u) (read M p turns (suc n - (l.cost r.core - r.u)) (struck M p r c b stores))
      unfolding read
      read_done c b stores s = rw (e, k, s, read)

      pub read_halts : (c : M.Core) → l.stroke r.core r.bus ≡ Halts c →
          read M p (suc turns) (suc n) r ≡ record { words = l.cost r.core - r.u; end = Halted; left = stopped M p r c }
      unfolding read
      read_halts c s = rw (e, k, s, read)

      pub read-refused : (f : Fault M.Refusal) → l.stroke r.core r.bus ≡ Refused f →
          read M p (suc turns) (suc n) r ≡ record { words = l.cost r.core - r.u - 1; end = Faulted f; left = spending M p r (r.u + (l.cost r.core - r.u - 1)) }
      unfolding read
      read-refused f s = rw (e, k, s, read)
