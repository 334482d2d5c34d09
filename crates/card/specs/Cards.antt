-- The program card: fixed cells from address 0 over another bus.
use Rattle.std.specs.Prelude.{ℕ, ◌%◌, min, Bool, false, cond, List, [], length, take, Ok, Err, ◌==◌, nat_le, nat_lt, slice_index}
use Rattle.bus.specs.Sizes.{byte_values, word_bytes, whole_words}
use Rattle.bus.specs.Meaning.{Place, Fixed, Nothing, Meaning}
use Rattle.bus.specs.Calls.{Outcome}
use Rattle.card.specs.declared.FillFault.{FillFault}
use Rattle.card.specs.declared.FillFault.TheVariants.{WrongLength}
use Rattle.card.specs.declared.ProgramCard.{ProgramCard}

-- The number of the one refusal of filling.
abbrev pub fill_number : FillFault → ℕ
fill_number WrongLength = 38

-- The most bytes that a card holds.
abbrev pub card_most : ℕ
card_most = 4096

-- May a card hold `n` bytes? An even number of them, up to the most.
abbrev pub fillable : ℕ → Bool
fillable n = cond (n % word_bytes == 0) (nat_le n card_most) false

-- Filling a card that holds `old`: the bytes take its place whole, or, with 38, nothing changes.
abbrev pub fill : List ℕ → List ℕ → Outcome (List ℕ) (Unit {0}) FillFault
fill old bytes = cond (fillable (length bytes)) (Ok (tt, bytes)) (Err WrongLength)

-- How many bytes of its memory count: those that it counts, in whole words, and never more than it has.
abbrev pub card_size : ProgramCard → ℕ
card_size c = whole_words card_most (min c.count (length c.bytes))

-- The bytes on a card.
abbrev pub on_card : ProgramCard → List ℕ
on_card c = take (card_size c) c.bytes

-- What stands at `k`: a fixed cell where the card has a byte, else what stands below.
abbrev pub card_place : List ℕ → (ℕ → Place) → ℕ → Place
card_place fixed below k = cond (nat_lt k (length fixed)) (Fixed (slice_index fixed k % byte_values)) (below k)

-- The meaning of a card with these bytes over a bus: all but its fixed cells is as below.
abbrev pub card : List ℕ → Meaning → Meaning
card fixed m = record { place = card_place fixed m.place; waiting = m.waiting; most_waiting = m.most_waiting; sent = m.sent; most_sent = m.most_sent }

-- What a card with these bytes hides of a bus: the places that it covers; it hides no other place and no queue.
abbrev pub card_hides : List ℕ → Meaning → Meaning
card_hides fixed m = record { place = λ k. cond (nat_lt k (length fixed)) (m.place k) Nothing; waiting = []; most_waiting = 0; sent = []; most_sent = 0 }
