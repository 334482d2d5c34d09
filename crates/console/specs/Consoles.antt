-- The console: three ports with queues of their own over another bus.
use Rattle.std.specs.Prelude.{ℕ, ◌+◌, ◌-◌, ◌*◌, ◌%◌, Bool, cond, List, ◌++◌, length, Ok, Err, nat_le, ◌==◌}
use Rattle.bus.specs.Sizes.{word_bytes}
use Rattle.bus.specs.Meaning.{Place, Cell, Fixed, CharacterPort, NumberPort, InputPort, Nothing, Meaning}
use Rattle.bus.specs.Calls.{Outcome, port}
use Rattle.bus.specs.declared.faults.BusFault.{BusFault}
use Rattle.bus.specs.declared.faults.BusFault.TheVariants.{NoRoom}

-- Where the character port stands; each port takes one word.
abbrev pub character_port : ℕ
character_port = 0xF000

-- The number port is the next word.
abbrev pub number_port : ℕ
number_port = character_port + word_bytes

-- The input port is the word after that.
abbrev pub input_port : ℕ
input_port = character_port + 2 * word_bytes

-- The most bytes that wait at a console.
abbrev pub console_waiting : ℕ
console_waiting = 256

-- The most sent bytes that stand at a console.
abbrev pub console_sent : ℕ
console_sent = 1024

-- A text after `xs`, all of it or, with 35, none of it, where `most` bytes may stand.
abbrev pub added : ℕ → List ℕ → List ℕ → Outcome (List ℕ) (Unit {0}) BusFault
added most xs text = cond (nat_le (length xs + length text) most) (Ok (tt, xs ++ text)) (Err NoRoom)

-- Where the word begins that an address lies in.
abbrev pub word_start : ℕ → ℕ
word_start k = k - k % word_bytes

-- What a place below a console counts as: a port there is nothing.
abbrev pub covered : Place → Place
covered (Cell b) = Cell b
covered (Fixed b) = Fixed b
covered CharacterPort = Nothing
covered NumberPort = Nothing
covered InputPort = Nothing
covered Nothing = Nothing

-- What stands at `k`: a port of the console's own, whatever lies below it, or what is left of the place below.
abbrev pub console_place : (ℕ → Place) → ℕ → Place
console_place below k =
    cond (word_start k == character_port) CharacterPort
    (cond (word_start k == number_port) NumberPort
    (cond (word_start k == input_port) InputPort
    (covered (below k))))

-- Does one of its ports cover `k`?
abbrev pub at_port : ℕ → Bool
at_port k = port (console_place (λ _. Nothing) k)

-- The meaning of a console over a bus: its own waiting and sent bytes, with those below hidden.
abbrev pub console : List ℕ → List ℕ → Meaning → Meaning
console waiting sent m = record { place = console_place m.place; waiting = waiting; most_waiting = console_waiting; sent = sent; most_sent = console_sent }

-- What stands at `k` and is hidden: whatever lies below a port of the console's own, and elsewhere a port below.
abbrev pub hidden_place : (ℕ → Place) → ℕ → Place
hidden_place below k = cond (at_port k) (below k) (cond (port (below k)) (below k) Nothing)

-- What a console hides of a bus: these places, and all that waits there or was sent, with the most of each.
abbrev pub console_hides : Meaning → Meaning
console_hides m = record { place = hidden_place m.place; waiting = m.waiting; most_waiting = m.most_waiting; sent = m.sent; most_sent = m.most_sent }
