-- A call on a bus as a value, and what every bus answers to it.
use Rattle.std.specs.Prelude.{◌≡◌, ℕ, List, [], Ok, Err, Result}
use Rattle.bus.specs.Meaning.{Meaning, kind}
use Rattle.bus.specs.Calls.{Byte, Word, OnBus, Comes, peek, load_byte, load_word, store_byte, store_word, give, take}
use Rattle.bus.specs.Stores.{Store, accepted}
use Rattle.bus.specs.declared.faults.BusFault.{BusFault}
use Rattle.any_bus.specs.declared.calls.BusCall.{BusCall}
use Rattle.any_bus.specs.declared.calls.BusCall.TheVariants.{Peek, LoadByte, LoadWord, StoreByte, StoreWord, Give, Take}
use Rattle.any_bus.specs.declared.calls.BusReply.{BusReply}
use Rattle.any_bus.specs.declared.calls.BusReply.TheVariants.{Seen, Loaded, Taken, Done}

-- An answer, a reply or a refusal, and the bus after it.
pub record Told : Type 0 where
  pub answer : Result BusReply BusFault
  pub after : Meaning

-- What is told of an outcome: its value by `say`, or its refusal, which changes nothing.
abbrev pub told : {Value : Type 0} → (Value → BusReply) → Meaning → OnBus Value → Told
told say m (Ok (v, n)) = record { answer = Ok (say v); after = n }
told say m (Err f) = record { answer = Err f; after = m }

-- The answer of a bus to each call.
abbrev pub answered : BusCall → Meaning → Told
answered (Peek a) m = record { answer = Ok (Seen (peek m a)); after = m }
answered (LoadByte a) m = told (λ v. Loaded v) m (load_byte m a)
answered (LoadWord a) m = told (λ v. Loaded v) m (load_word m a)
answered (StoreByte a b) m = told (λ _. Done) m (store_byte m a b)
answered (StoreWord a v) m = told (λ _. Done) m (store_word m a v)
answered (Give b) m = told (λ _. Done) m (give m b)
answered Take m = told (λ b. Taken b) m (take m)

-- What a call answered, of all that it came to.
abbrev pub value_of : {Value : Type 0} → OnBus Value → Result Value BusFault
value_of (Ok (v, n)) = Ok v
value_of (Err f) = Err f

-- The accepted stores of a call on a bus that means `m`.
abbrev pub stores_of : BusCall → Meaning → List Store
stores_of (Peek a) m = []
stores_of (LoadByte a) m = []
stores_of (LoadWord a) m = []
stores_of (StoreByte a b) m = accepted (value_of (store_byte m a b)) a b Byte
stores_of (StoreWord a v) m = accepted (value_of (store_word m a v)) a v Word
stores_of (Give b) m = []
stores_of Take m = []

-- Two buses have the same kinds of places.
abbrev pub SameKinds : Meaning → Meaning → Type 0
SameKinds m n = (k : ℕ) → kind (n.place k) ≡ kind (m.place k)

-- A store, and then a second call where it was accepted, answered `r` and left `n`.
abbrev pub Then : {Value : Type 0} → OnBus (Unit {0}) → Meaning → (Meaning → OnBus Value) → Result Value BusFault → Meaning → Type 0
Then (Ok (_, between)) m second r n = Comes (second between) between r n
Then (Err f) m second r n = (r ≡ Err f) × (n ≡ m)
