-- Flat memory: lent bytes as cells.
use Rattle.std.specs.Prelude.{ℕ, ◌%◌, cond, List, [], ◌∷◌, length, drop, take, nat_lt, slice_index}
use Rattle.std.specs.Borrow.{GName}
use Rattle.bus.specs.Sizes.{byte_values, addresses, whole_words}
use Rattle.bus.specs.Meaning.{Place, Cell, Nothing, Meaning}
use Rattle.bus.specs.Loans.{Loan}

-- How many of `n` lent bytes are cells: at most 65,536, and an even number of them.
abbrev pub flat_size : ℕ → ℕ
flat_size n = whole_words addresses n

-- Which of the lent bytes are cells: the first of them.
abbrev pub flat_cells : List ℕ → List ℕ
flat_cells bytes = take (flat_size (length bytes)) bytes

-- What stands at `k`: a cell while the cells last, then nothing.
abbrev pub flat_place : List ℕ → ℕ → Place
flat_place bytes k = cond (nat_lt k (flat_size (length bytes))) (Cell (slice_index bytes k % byte_values)) Nothing

-- The meaning of flat memory over these bytes: nothing can wait, and nothing can be sent.
abbrev pub flat : List ℕ → Meaning
flat bytes = record { place = flat_place bytes; waiting = []; most_waiting = 0; sent = []; most_sent = 0 }

-- What the lender goes by: one loan, whose bytes past the cells are no part of the bus.
abbrev pub flat_loans : GName → List ℕ → List Loan
flat_loans owner bytes = record { lender = owner; spare = drop (flat_size (length bytes)) bytes } ∷ []
