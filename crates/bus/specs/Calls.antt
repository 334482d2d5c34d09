-- What each call does to a bus, and which question refuses it.
use Rattle.std.specs.Prelude.{◌≡◌, ℕ, ◌+◌, ◌-◌, ◌*◌, ◌/◌, ◌%◌, Bool, true, false, cond, not, List, [], ◌∷◌, ◌++◌, length, Some, None, Ok, Err, decimal, Option, Result, ◌==◌, nat_le, nat_lt}
use Rattle.bus.specs.Sizes.{byte_values, word_bytes, word_values}
use Rattle.bus.specs.Meaning.{Place, Cell, Fixed, CharacterPort, NumberPort, InputPort, Nothing, Meaning}
use Rattle.bus.specs.declared.faults.BusFault.{BusFault}
use Rattle.bus.specs.declared.faults.BusFault.TheVariants.{OddAddress, NothingThere, ByteAtPort, WrongWay, NoneWaiting, NoRoom, WaitingFull, NoneSent}

-- The number of each refusal of a bus.
abbrev pub fault_number : BusFault → ℕ
fault_number OddAddress = 30
fault_number NothingThere = 31
fault_number ByteAtPort = 32
fault_number WrongWay = 33
fault_number NoneWaiting = 34
fault_number NoRoom = 35
fault_number WaitingFull = 36
fault_number NoneSent = 37

-- What a call should come to: a value and the state after it, or a refusal.
abbrev pub Outcome : Type 0 → Type 0 → Type 0 → Type 0
Outcome State Value Fault = Result (Value × State) Fault

-- A call that should come to `o` in the state `s` answered `r` and left the state `t`; a refusal changes nothing.
abbrev pub Comes : {State Value Fault : Type 0} → Outcome State Value Fault → State → Result Value Fault → State → Type 0
Comes o s (Ok v) t = o ≡ Ok (v, t)
Comes o s (Err f) t = (o ≡ Err f) × (t ≡ s)

-- What a call on a bus should come to.
abbrev pub OnBus : Type 0 → Type 0
OnBus Value = Outcome Meaning Value BusFault

-- A question: a yes goes on, and a no is refused.
abbrev pub ask : {Value : Type 0} → Bool → BusFault → OnBus Value → OnBus Value
ask answer fault further = cond answer further (Err fault)

-- Bytes and words, the two widths of a load or store.
pub data Width : Type 0 where
  Byte : Width
  Word : Width

-- The two ways between a board and a bus.
pub data Way : Type 0 where
  ToLoad : Way
  ToStore : Way

-- Is a word's address even? A byte may lie anywhere.
abbrev pub aligned : Width → ℕ → Bool
aligned Byte a = true
aligned Word a = a % word_bytes == 0

-- Is there something?
abbrev pub something : Place → Bool
something (Cell b) = true
something (Fixed b) = true
something CharacterPort = true
something NumberPort = true
something InputPort = true
something Nothing = false

-- Is it a port?
abbrev pub port : Place → Bool
port (Cell b) = false
port (Fixed b) = false
port CharacterPort = true
port NumberPort = true
port InputPort = true
port Nothing = false

-- Is it a word, if at a port?
abbrev pub wide : Width → Place → Bool
wide Byte p = not (port p)
wide Word p = true

-- Is it a way that this kind goes? Cells go both ways; fixed cells and input ports are loaded; character and number ports are stored to.
abbrev pub goes : Way → Place → Bool
goes ToLoad (Cell b) = true
goes ToLoad (Fixed b) = true
goes ToLoad CharacterPort = false
goes ToLoad NumberPort = false
goes ToLoad InputPort = true
goes ToLoad Nothing = false
goes ToStore (Cell b) = true
goes ToStore (Fixed b) = false
goes ToStore CharacterPort = true
goes ToStore NumberPort = true
goes ToStore InputPort = false
goes ToStore Nothing = false

-- The questions 30 to 33, in order, of a load or store at `a`, and then what is further.
abbrev pub questions : {Value : Type 0} → Width → Way → Meaning → ℕ → OnBus Value → OnBus Value
questions width way m a further =
    ask (aligned width a) OddAddress
    (ask (something (m.place a)) NothingThere
    (ask (wide width (m.place a)) ByteAtPort
    (ask (goes way (m.place a)) WrongWay
    further)))

-- A bus with another place at `a`.
abbrev pub with_place : Meaning → ℕ → Place → Meaning
with_place m a p = record { place = λ k. cond (k == a) p (m.place k); waiting = m.waiting; most_waiting = m.most_waiting; sent = m.sent; most_sent = m.most_sent }

-- A bus with other bytes waiting.
abbrev pub with_waiting : Meaning → List ℕ → Meaning
with_waiting m bytes = record { place = m.place; waiting = bytes; most_waiting = m.most_waiting; sent = m.sent; most_sent = m.most_sent }

-- A bus with other bytes sent.
abbrev pub with_sent : Meaning → List ℕ → Meaning
with_sent m bytes = record { place = m.place; waiting = m.waiting; most_waiting = m.most_waiting; sent = bytes; most_sent = m.most_sent }

-- The byte that can be seen at a place: that of a cell or fixed cell.
abbrev pub seen : Place → Option ℕ
seen (Cell b) = Some b
seen (Fixed b) = Some b
seen CharacterPort = None
seen NumberPort = None
seen InputPort = None
seen Nothing = None

-- Peek: the byte of the cell or fixed cell at `a`, or none; no state is changed.
abbrev pub peek : Meaning → ℕ → Option ℕ
peek m a = seen (m.place a)

-- The byte of a cell or fixed cell, and 0 at a place without one.
abbrev pub byte_of : Place → ℕ
byte_of (Cell b) = b
byte_of (Fixed b) = b
byte_of CharacterPort = 0
byte_of NumberPort = 0
byte_of InputPort = 0
byte_of Nothing = 0

-- Load of a byte.
abbrev pub load_byte : Meaning → ℕ → OnBus ℕ
load_byte m a = questions Byte ToLoad m a (Ok (byte_of (m.place a), m))

-- A word of two bytes, high byte first.
abbrev pub word_of : ℕ → ℕ → ℕ
word_of high low = byte_values * high + low

-- The oldest waiting byte, which the load takes; none waiting is 34.
abbrev pub receive : Meaning → List ℕ → OnBus ℕ
receive m [] = Err NoneWaiting
receive m (oldest ∷ others) = Ok (oldest, with_waiting m others)

-- Is it an input port?
abbrev pub input : Place → Bool
input (Cell b) = false
input (Fixed b) = false
input CharacterPort = false
input NumberPort = false
input InputPort = true
input Nothing = false

-- The word from a place that can be loaded: from an input port the oldest waiting byte, else the two bytes from there on.
abbrev pub word_from : Meaning → ℕ → OnBus ℕ
word_from m a = cond (input (m.place a)) (receive m m.waiting) (Ok (word_of (byte_of (m.place a)) (byte_of (m.place (a + 1))), m))

-- Load of a word.
abbrev pub load_word : Meaning → ℕ → OnBus ℕ
load_word m a = questions Word ToLoad m a (word_from m a)

-- Store of a byte.
abbrev pub store_byte : Meaning → ℕ → ℕ → OnBus (Unit {0})
store_byte m a b = questions Byte ToStore m a (Ok (tt, with_place m a (Cell b)))

-- The low byte of a word.
abbrev pub low_byte : ℕ → ℕ
low_byte v = v % byte_values

-- The high byte of a word.
abbrev pub high_byte : ℕ → ℕ
high_byte v = v / byte_values

-- The minus sign's byte.
abbrev pub minus : ℕ
minus = 45

-- The shortest decimal text of a word as a signed number: words from half of their range up are below zero.
abbrev pub number_text : ℕ → List ℕ
number_text v = cond (nat_lt v (word_values / 2)) (decimal v) (minus ∷ decimal (word_values - v))

-- A text among the sent bytes, all of it or, with 35, nothing.
abbrev pub send : Meaning → List ℕ → OnBus (Unit {0})
send m text = ask (nat_le (length m.sent + length text) m.most_sent) NoRoom (Ok (tt, with_sent m (m.sent ++ text)))

-- Both bytes of a word in cells, high byte first.
abbrev pub write_word : Meaning → ℕ → ℕ → Meaning
write_word m a v = with_place (with_place m a (Cell (high_byte v))) (a + 1) (Cell (low_byte v))

-- Is it a character port?
abbrev pub character : Place → Bool
character (Cell b) = false
character (Fixed b) = false
character CharacterPort = true
character NumberPort = false
character InputPort = false
character Nothing = false

-- Is it a number port?
abbrev pub numeric : Place → Bool
numeric (Cell b) = false
numeric (Fixed b) = false
numeric CharacterPort = false
numeric NumberPort = true
numeric InputPort = false
numeric Nothing = false

-- A word to a place that can be stored to: a character port sends the low byte, a number port the number's text, and a cell and the next hold the two bytes.
abbrev pub word_to : Meaning → ℕ → ℕ → OnBus (Unit {0})
word_to m a v = cond (character (m.place a)) (send m (low_byte v ∷ [])) (cond (numeric (m.place a)) (send m (number_text v)) (Ok (tt, write_word m a v)))

-- Store of a word.
abbrev pub store_word : Meaning → ℕ → ℕ → OnBus (Unit {0})
store_word m a v = questions Word ToStore m a (word_to m a v)

-- Give: one more waiting byte, after the others; no room for it is 36.
abbrev pub give : Meaning → ℕ → OnBus (Unit {0})
give m b = ask (nat_lt (length m.waiting) m.most_waiting) WaitingFull (Ok (tt, with_waiting m (m.waiting ++ (b ∷ []))))

-- The oldest of the sent bytes; none sent is 37.
abbrev pub take_from : Meaning → List ℕ → OnBus ℕ
take_from m [] = Err NoneSent
take_from m (oldest ∷ others) = Ok (oldest, with_sent m others)

-- Take: the oldest sent byte, which is then no more among them.
abbrev pub take : Meaning → OnBus ℕ
take m = take_from m m.sent
