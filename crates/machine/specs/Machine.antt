-- A machine: a core with a next address, a bus, and words, each of which does something to the two.
use Rattle.std.specs.Prelude.{◌≡◌, ℕ, false, List, [], Some, Ok, Option, Result, nat_eq}
use Rattle.std.specs.List.{list_any}

-- What a word, or a whole line, comes to: done, with the core and the bus after it and the address of each byte that it stored;
-- halted, with the core at which it halts; or refused, with why.
pub data Outcome (Core Bus Why : Type 0) : Type 0 where
  Done : Core → Bus → List ℕ → Outcome Core Bus Why
  Halts : Core → Outcome Core Bus Why
  Refused : Why → Outcome Core Bus Why

-- What a word does at a core: it changes the core alone, whatever the bus is, or it asks the bus.
pub data Act (Core Bus Why : Type 0) : Type 0 where
  Quiet : Core → Act Core Bus Why
  Asks : (Bus → Outcome Core Bus Why) → Act Core Bus Why

-- What an act comes to on a bus.
abbrev pub outcome : {Core Bus Why : Type 0} → Act Core Bus Why → Bus → Outcome Core Bus Why
outcome (Quiet c) b = Done c b []
outcome (Asks f) b = f b

-- A machine of any word size.
pub record Machine : Type 1 where
  -- the registers with the next address, the bus's meaning, the words
  pub Core : Type 0
  pub Bus : Type 0
  pub Word : Type 0
  -- why a word is refused, and why the bus refuses a give or a take
  pub Refusal : Type 0
  pub Denial : Type 0
  -- the next address, and the number below which all addresses are
  pub at : Core → ℕ
  pub limit : ℕ
  -- what holds of each core: its registers and next address are of the machine's size
  pub Fits : Core → Type 0
  -- the facts that every bus shows
  pub Sound : Bus → Type 0
  -- the words that can be written, each as a high and a low byte, and the word that two bytes are, if any
  pub Valid : Word → Type 0
  pub high : Word → ℕ
  pub low : Word → ℕ
  pub decode : ℕ → ℕ → Option Word
  -- what a word does
  pub act : Word → Core → Act Core Bus Refusal
  -- the bus's calls besides those that words make: the byte shown at an address, one more byte waiting, the oldest byte sent
  pub peek : Bus → ℕ → Option ℕ
  pub give : Bus → ℕ → Result (Unit {0} × Bus) Denial
  pub take : Bus → Result (ℕ × Bus) Denial

-- From the bus b, stores led to the bus b': it is sound, and shows the same bytes but those stored.
pub record Shows (M : Machine) (b b' : M.Bus) (stores : List ℕ) : Type 0 where
  pub sound : M.Sound b'
  pub same : (x : ℕ) → list_any (nat_eq x) stores ≡ false → M.peek b' x ≡ M.peek b x

-- An outcome on the bus b is fair: it leaves a core that fits, and changes no shown byte but those that it stored.
abbrev pub Fair : (M : Machine) {Why : Type 0} → M.Bus → Outcome M.Core M.Bus Why → Type 0
Fair M b (Done c b' stores) = M.Fits c × Shows M b b' stores
Fair M b (Halts c) = M.Fits c
Fair M b (Refused why) = Unit {0}

-- An act is fair: a quiet one leaves a core that fits, any other is fair on every sound bus.
abbrev pub FairAct : (M : Machine) → Act M.Core M.Bus M.Refusal → Type 0
FairAct M (Quiet c) = M.Fits c
FairAct M (Asks f) = (b : M.Bus) → M.Sound b → Fair M b (f b)

-- The laws of a machine.
pub record Laws (M : Machine) : Type 0 where
  -- a word that can be written comes back from its two bytes
  pub coded : (w : M.Word) → M.Valid w → M.decode (M.high w) (M.low w) ≡ Some w
  -- what a word that can be written does at a core that fits is fair
  pub acts : (w : M.Word) (c : M.Core) → M.Valid w → M.Fits c → FairAct M (M.act w c)
  -- an accepted give, and an accepted take, store nothing
  pub given : (b : M.Bus) (v : ℕ) (p : Unit {0} × M.Bus) → M.Sound b → M.give b v ≡ Ok p → Shows M b p.1 []
  pub taken : (b : M.Bus) (p : ℕ × M.Bus) → M.Sound b → M.take b ≡ Ok p → Shows M b p.1 []
