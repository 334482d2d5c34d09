-- Programs: instruction lines and data, one behind the other from address 0 on.
use Rattle.std.specs.Prelude.{◌≡◌, ℕ, ◌+◌, ◌<◌, Bool, true, false, List, [], ◌∷◌, ◌++◌, length, Some, None, Option, ◌==◌, nat_le, nat_lt, slice_index}
use Rattle.machine.specs.Machine.{Machine, Outcome}
use Rattle.machine.specs.Board.{Fault}

-- An instruction line: the words that it spells, how many words it spends from the core at its beginning, and its stroke, what the
-- whole line does at once.
pub record Line (M : Machine) : Type 0 where
  pub words : List M.Word
  pub cost : M.Core → ℕ
  pub stroke : M.Core → M.Bus → Outcome M.Core M.Bus (Fault M.Refusal)

-- A part of a program: an instruction line, or the bytes of a line of data.
pub data Item (M : Machine) : Type 0 where
  Code : Line M → Item M
  Data : List ℕ → Item M

-- The bytes of words, two each, the high one first.
abbrev pub bytes : (M : Machine) → List M.Word → List ℕ
bytes M [] = []
bytes M (w ∷ ws) = M.high w ∷ (M.low w ∷ bytes M ws)

-- The bytes of one part of a program.
abbrev pub item_bytes : (M : Machine) → Item M → List ℕ
item_bytes M (Code l) = bytes M l.words
item_bytes M (Data bs) = bs

-- The image of a program: the bytes of its parts, one behind the other.
abbrev pub image : (M : Machine) → List (Item M) → List ℕ
image M [] = []
image M (i ∷ is) = item_bytes M i ++ image M is

-- The instruction line that begins at the address x, where the program's parts stand from the address a on.
unfoldable pub line_at : (M : Machine) → List (Item M) → ℕ → ℕ → Option (Line M)
line_at M [] a x = None
line_at M (Code l ∷ is) a x = elim (x == a) [ true ↦ Some l | false ↦ line_at M is (a + length (bytes M l.words)) x ]
line_at M (Data bs ∷ is) a x = line_at M is (a + length bs) x

-- Is x one of the n addresses from a on?
abbrev pub within : ℕ → ℕ → ℕ → Bool
within a n x = elim (nat_le a x) [ true ↦ nat_lt x (a + n) | false ↦ false ]

-- Is x the address of a byte of an instruction line, where the program's parts stand from the address a on?
unfoldable pub in_line : (M : Machine) → List (Item M) → ℕ → ℕ → Bool
in_line M [] a x = false
in_line M (Code l ∷ is) a x = elim (within a (length (bytes M l.words)) x) [ true ↦ true | false ↦ in_line M is (a + length (bytes M l.words)) x ]
in_line M (Data bs ∷ is) a x = in_line M is (a + length bs) x

-- The image of a program stands at 0 on a bus: peek answers its bytes from there on.
abbrev pub Stands : (M : Machine) → List (Item M) → M.Bus → Type 0
Stands M p b = (x : ℕ) → x < length (image M p) → M.peek b x ≡ Some (slice_index (image M p) x)
