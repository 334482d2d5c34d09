-- What a bus means, apart from how it is built.
use Rattle.std.specs.Prelude.{◌≡◌, ℕ, ◌+◌, ◌%◌, ◌<◌, ◌≤◌, List}
use Rattle.std.specs.List.{AllByRecursion}
use Rattle.bus.specs.Sizes.{byte_values, word_bytes, addresses}

-- What stands at an address: a cell or a fixed cell with its byte, one of three ports, or nothing.
pub data Place : Type 0 where
  Cell : ℕ → Place
  Fixed : ℕ → Place
  CharacterPort : Place
  NumberPort : Place
  InputPort : Place
  Nothing : Place

-- The whole meaning of a bus: its places by address, the bytes that wait and those sent and not yet taken, oldest first, and the most of each.
pub record Meaning : Type 0 where
  pub place : ℕ → Place
  pub waiting : List ℕ
  pub most_waiting : ℕ
  pub sent : List ℕ
  pub most_sent : ℕ

-- The kind of a place is what is left of it without its byte.
pub data Kind : Type 0 where
  Cells : Kind
  FixedCells : Kind
  CharacterPorts : Kind
  NumberPorts : Kind
  InputPorts : Kind
  Nothings : Kind

-- The kind of each place.
abbrev pub kind : Place → Kind
kind (Cell b) = Cells
kind (Fixed b) = FixedCells
kind CharacterPort = CharacterPorts
kind NumberPort = NumberPorts
kind InputPort = InputPorts
kind Nothing = Nothings

-- The byte of a place, where it has one, is below 256.
abbrev pub HoldsByte : Place → Type 0
HoldsByte (Cell b) = b < byte_values
HoldsByte (Fixed b) = b < byte_values
HoldsByte CharacterPort = Unit {0}
HoldsByte NumberPort = Unit {0}
HoldsByte InputPort = Unit {0}
HoldsByte Nothing = Unit {0}

-- Each number of a list is below 256.
abbrev pub AllBytes : List ℕ → Type 0
AllBytes bs = AllByRecursion (λ b. b < byte_values) bs

-- What every bus shows of its meaning: an even address and the next are of one kind, nothing stands from 65,536 up, and every byte is below 256.
pub record Facts (m : Meaning) : Type 0 where
  pub paired : (k : ℕ) → k % word_bytes ≡ 0 → kind (m.place k) ≡ kind (m.place (k + 1))
  pub ends : (k : ℕ) → addresses ≤ k → m.place k ≡ Nothing
  pub standing : (k : ℕ) → HoldsByte (m.place k)
  pub waiting_bytes : AllBytes m.waiting
  pub sent_bytes : AllBytes m.sent
