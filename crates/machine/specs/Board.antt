-- The board: it executes word after word, until its budget is spent, a word halts it, or a word is refused.
use Rattle.std.specs.Prelude.{ℕ, zero, suc, ◌+◌, Bool, true, false, Some, None, Ok, Err, Option, Result}
use Rattle.machine.specs.Machine.{Machine, Outcome, Done, Halts, Refused, outcome}

-- Why a run is refused: the board is held; it is halted; a byte of the word at an address does not peek; the two bytes there are no valid
-- word; or the word at an address is refused for a reason of the machine's own.
pub data Fault (Refusal : Type 0) : Type 0 where
  Held : Fault Refusal
  HaltedBefore : Fault Refusal
  NotThere : ℕ → Fault Refusal
  NotValid : ℕ → Fault Refusal
  OfWord : ℕ → Refusal → Fault Refusal

-- The number of a fault, from the numbers of the machine's own reasons.
abbrev pub number : {Refusal : Type 0} → (Refusal → ℕ) → Fault Refusal → ℕ
number own Held = 21
number own HaltedBefore = 22
number own (NotThere a) = 23
number own (NotValid a) = 24
number own (OfWord a why) = own why

-- The address that a fault carries: the word's, where the fault is of a word.
abbrev pub address : {Refusal : Type 0} → Fault Refusal → Option ℕ
address Held = None
address HaltedBefore = None
address (NotThere a) = Some a
address (NotValid a) = Some a
address (OfWord a why) = Some a

-- An outcome of the word at the address a, with that address in its fault.
abbrev pub placed : {Core Bus Refusal : Type 0} → ℕ → Outcome Core Bus Refusal → Outcome Core Bus (Fault Refusal)
placed a (Done c b stores) = Done c b stores
placed a (Halts c) = Halts c
placed a (Refused why) = Refused (OfWord a why)

-- How a run ended: by a word that halts, by its budget, or by a fault.
pub data End (Refusal : Type 0) : Type 0 where
  Halted Spent : End Refusal
  Faulted : Fault Refusal → End Refusal

-- A run's course: the words executed in it, how it ended, and what it left.
pub record Course (Refusal S : Type 0) : Type 0 where
  pub words : ℕ
  pub end : End Refusal
  pub left : S

-- The same course behind n words more.
abbrev pub behind : {Refusal S : Type 0} → ℕ → Course Refusal S → Course Refusal S
behind n r = record { words = n + r.words; end = r.end; left = r.left }

-- A board on its bus: the core, the bus, the held mark and the halt mark.
pub record Board (M : Machine) : Type 0 where
  pub core : M.Core
  pub bus : M.Bus
  pub held : Bool
  pub halted : Bool

-- A newly started board: nobody holds it, and it is not halted.
abbrev pub started : (M : Machine) → M.Core → M.Bus → Board M
started M c b = record { core = c; bus = b; held = false; halted = false }

-- The word that two bytes at the address a decode to, or the fault.
abbrev pub decoded : {Word Refusal : Type 0} → ℕ → Option Word → Result Word (Fault Refusal)
decoded a None = Err (NotValid a)
decoded a (Some w) = Ok w

-- The word of the two bytes shown at a and behind it: do both peek? Are they a valid word?
abbrev pub fetched : (M : Machine) → ℕ → Option ℕ → Option ℕ → Result M.Word (Fault M.Refusal)
fetched M a None low = Err (NotThere a)
fetched M a (Some high) None = Err (NotThere a)
fetched M a (Some high) (Some low) = decoded a (M.decode high low)

-- The word at the address a of a bus, or the fault.
unfoldable pub fetch : (M : Machine) → M.Bus → ℕ → Result M.Word (Fault M.Refusal)
fetch M b a = fetched M a (M.peek b a) (M.peek b (a + 1))

-- What a fetched word does, at its own address; a fault refuses.
abbrev pub does : (M : Machine) → Result M.Word (Fault M.Refusal) → M.Core → M.Bus → Outcome M.Core M.Bus (Fault M.Refusal)
does M (Err f) c b = Refused f
does M (Ok w) c b = placed (M.at c) (outcome (M.act w c) b)

-- One word of the board: the one at the next address.
unfoldable pub step : (M : Machine) → M.Core → M.Bus → Outcome M.Core M.Bus (Fault M.Refusal)
step M c b = does M (fetch M b (M.at c)) c b

-- The words of a run, at most as many as its budget. A word done or halting counts one; a refused word changes nothing and counts none.
unfoldable pub execute : (M : Machine) → ℕ → Board M → Course M.Refusal (Board M)
execute M zero b = record { words = 0; end = Spent; left = b }
execute M (suc budget) b = elim (step M b.core b.bus) [
  | Done c s stores ↦ behind 1 (execute M budget (record { core = c; bus = s; held = b.held; halted = b.halted }))
  | Halts c ↦ record { words = 1; end = Halted; left = record { core = c; bus = b.bus; held = b.held; halted = true } }
  | Refused f ↦ record { words = 0; end = Faulted f; left = b }
]

-- The questions before a run's first word, from the held mark and the halt mark: not held? Not halted?
abbrev pub asked : {Refusal : Type 0} → Bool → Bool → Option (Fault Refusal)
asked true halted = Some Held
asked false true = Some HaltedBefore
asked false false = None

-- A run from a state that may be refused with no word executed and nothing changed.
abbrev pub unless : {Refusal S : Type 0} → Option (Fault Refusal) → S → Course Refusal S → Course Refusal S
unless None s r = r
unless (Some f) s r = record { words = 0; end = Faulted f; left = s }

-- A run of the board with a budget of words.
abbrev pub board_run : (M : Machine) → ℕ → Board M → Course M.Refusal (Board M)
board_run M budget b = unless (asked b.held b.halted) b (execute M budget b)
