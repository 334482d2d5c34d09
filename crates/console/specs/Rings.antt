-- The queue of a console: a ring of bytes, oldest first.
use Rattle.std.specs.Prelude.{◌≡◌, ℕ, ◌+◌, ◌-◌, ◌%◌, cond, List, [], ◌∷◌, map, Some, None, Option, nat_lt, slice_index}
use Rattle.std.specs.List.{range_with_len}
use Rattle.bus.specs.Sizes.{byte_values}
use Rattle.console.specs.declared.queue.Queue.{Queue}

-- Where in a ring of `n` the byte stands that comes `i` after the one at `first`.
abbrev pub turn : ℕ → ℕ → ℕ → ℕ
turn n first i = cond (nat_lt i (n - first)) (first + i) (i - (n - first))

-- That byte.
abbrev pub at_turn : ℕ → List ℕ → ℕ → ℕ → ℕ
at_turn n bytes first i = slice_index bytes (turn n first i) % byte_values

-- `count` bytes of a ring of `n`, from the one at `first` on.
unfoldable pub ring : ℕ → List ℕ → ℕ → ℕ → List ℕ
ring n bytes first count = map (at_turn n bytes first) (range_with_len 0 count)

-- A first place past the ring, which no call makes, counts as 0.
abbrev pub from : ℕ → ℕ → ℕ
from n first = cond (nat_lt first n) first 0

-- A count past the ring, which no call makes, counts as all of it.
abbrev pub up_to : ℕ → ℕ → ℕ
up_to n count = cond (nat_lt n count) n count

-- The bytes in a queue, oldest first.
abbrev pub items : {n : ℕ} → Queue n → List ℕ
items {n} q = ring n q.bytes (from n q.first) (up_to n q.count)

-- A pop of `xs` answered `r` and left `ys`.
abbrev pub Popped : List ℕ → Option ℕ → List ℕ → Type 0
Popped xs None ys = (xs ≡ []) × (ys ≡ [])
Popped xs (Some b) ys = xs ≡ b ∷ ys
