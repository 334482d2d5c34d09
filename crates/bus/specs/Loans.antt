-- What a lender of memory to a bus goes by.
use Rattle.std.specs.Prelude.{ℕ, List}
use Rattle.std.specs.Borrow.{GName}

-- One piece of lent memory: its ghost name, by which the lender gets back what it holds last, and those of its bytes that are no cells.
pub record Loan : Type 0 where
  pub lender : GName
  pub spare : List ℕ
