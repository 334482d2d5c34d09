-- What no call on a bus changes.
use Rattle.std.specs.Prelude.{List, ◌∷◌}
use Rattle.bus.specs.Meaning.{Meaning}
use Rattle.bus.specs.Loans.{Loan}

-- The memory that was lent to a bus, and what it holds but does not show, layer by layer, outermost first.
pub record Kept : Type 0 where
  pub lent : List Loan
  pub hidden : List Meaning

-- What a layer keeps that hides `m` of the bus below it, which keeps `below`.
abbrev pub hiding : Meaning → Kept → Kept
hiding m below = record { lent = below.lent; hidden = m ∷ below.hidden }
