-- A small machine on which the definitions are seen at work: eight words and six kinds of line, with words of two bytes or of four.
use Rattle.std.specs.Prelude.{ℕ, zero, suc, ◌+◌, ◌-◌, ◌*◌, ◌/◌, ◌%◌, ◌^◌, ◌<◌, Bool, true, false, cond, not, ◌≢◌, List, [], ◌∷◌, ◌++◌, length, Some, None, Ok, Err, Option, Result, ◌==◌, nat_lt, slice_index_or}
use Rattle.std.specs.List.{AllByRecursion, range_with_len}
use Rattle.machine.specs.Machine.{Outcome, Done, Halts, Refused, Act, Quiet, Asks, outcome, Machine}
use Rattle.machine.specs.Board.{Fault, OfWord, placed}
use Rattle.machine.specs.Program.{Line}
use Rattle.machine.specs.Obligation.{Owes}

-- The size of a word: two bytes or four.
pub data Size : Type 0 where
  Two Four : Size

-- The bytes of a word. An `ldi` spells as many `ldc`.
abbrev pub width : Size → ℕ
width Two = 2
width Four = 4

-- The size by the bytes of a word; any number of them but four stands for two.
abbrev pub size_of : ℕ → Size
size_of n = cond (n == 4) Four Two

-- The numbers of a register are below this.
abbrev pub modulus : Size → ℕ
modulus Two = 65536
modulus Four = 4294967296

-- The registers, by number.
abbrev pub Registers : Type 0
Registers = ℕ → ℕ

-- Register r is v now; the others are as before.
unfoldable pub put : ℕ → ℕ → Registers → Registers
put r v g q = elim (q == r) [ true ↦ v | false ↦ g q ]

-- The registers and the next address.
pub record Core : Type 0 where
  pub regs : Registers
  pub next : ℕ

-- What stands at an address of the bus.
pub data Place : Type 0 where
  Cell Fixed : ℕ → Place
  CharacterPort InputPort Nothing : Place

-- A bus: what stands at each address, the bytes that wait and those sent, oldest first, and the most that can wait and stand there.
pub record Bus : Type 0 where
  pub place : ℕ → Place
  pub waiting : List ℕ
  pub sent : List ℕ
  pub max_waiting : ℕ
  pub max_sent : ℕ

-- Why the bus refuses.
pub data Denial : Type 0 where
  NothingThere WrongWay NoneWaiting NoRoomToSend NoRoomToWait NoneSent : Denial

-- Why a word is refused: its address is no multiple of a word's bytes, or the bus refuses.
pub data Refusal : Type 0 where
  Uneven : Refusal
  OnBus : Denial → Refusal

-- The number of each refusal of the bus.
abbrev pub denial_number : Denial → ℕ
denial_number NothingThere = 31
denial_number WrongWay = 33
denial_number NoneWaiting = 34
denial_number NoRoomToSend = 35
denial_number NoRoomToWait = 36
denial_number NoneSent = 37

-- The number of each refusal of a word.
abbrev pub refusal_number : Refusal → ℕ
refusal_number Uneven = 25
refusal_number (OnBus why) = denial_number why

-- The byte that a place shows.
abbrev pub shown : Place → Option ℕ
shown (Cell v) = Some v
shown (Fixed v) = Some v
shown CharacterPort = None
shown InputPort = None
shown Nothing = None

-- The byte at a place; 0 where it shows none.
abbrev pub byte_at : Place → ℕ
byte_at (Cell v) = v
byte_at (Fixed v) = v
byte_at CharacterPort = 0
byte_at InputPort = 0
byte_at Nothing = 0

-- A place with a byte stored there: only a cell takes it.
abbrev pub over : Place → ℕ → Place
over (Cell v) x = Cell x
over (Fixed v) x = Fixed v
over CharacterPort x = CharacterPort
over InputPort x = InputPort
over Nothing x = Nothing

-- Places with bytes stored from the address a on.
unfoldable pub writes : (ℕ → Place) → ℕ → List ℕ → ℕ → Place
writes m a [] x = m x
writes m a (v ∷ vs) x = elim (x == a) [ true ↦ over (m x) v | false ↦ writes m (a + 1) vs x ]

-- The number whose n bytes stand from the address a on, high byte first, behind the bytes of v.
abbrev pub gathered : (ℕ → Place) → ℕ → ℕ → ℕ → ℕ
gathered m a zero v = v
gathered m a (suc n) v = gathered m (a + 1) n (v * 256 + byte_at (m a))

-- The last n bytes of a number, high byte first.
abbrev pub parts : ℕ → ℕ → List ℕ
parts zero v = []
parts (suc n) v = (v / 256 ^ n % 256) ∷ parts n v

-- A bus with other places.
abbrev pub on_places : Bus → (ℕ → Place) → Bus
on_places b m = record { place = m; waiting = b.waiting; sent = b.sent; max_waiting = b.max_waiting; max_sent = b.max_sent }

-- A bus with other waiting bytes.
abbrev pub on_waiting : Bus → List ℕ → Bus
on_waiting b vs = record { place = b.place; waiting = vs; sent = b.sent; max_waiting = b.max_waiting; max_sent = b.max_sent }

-- A bus with other sent bytes.
abbrev pub on_sent : Bus → List ℕ → Bus
on_sent b vs = record { place = b.place; waiting = b.waiting; sent = vs; max_waiting = b.max_waiting; max_sent = b.max_sent }

-- Peek: the byte shown at an address.
abbrev pub peek : Bus → ℕ → Option ℕ
peek b a = shown (b.place a)

-- A byte given, where there is room and where there is none.
abbrev pub given : Bus → ℕ → Bool → Result (Unit {0} × Bus) Denial
given b v true = Ok (tt, on_waiting b (b.waiting ++ ((v % 256) ∷ [])))
given b v false = Err NoRoomToWait

-- Give: one more byte waits, if fewer than the most that can wait do.
unfoldable pub give : Bus → ℕ → Result (Unit {0} × Bus) Denial
give b v = given b v (nat_lt (length b.waiting) b.max_waiting)

-- The oldest of the sent bytes, if there is one.
abbrev pub oldest : Bus → List ℕ → Result (ℕ × Bus) Denial
oldest b [] = Err NoneSent
oldest b (v ∷ vs) = Ok (v, on_sent b vs)

-- Take: the oldest sent byte goes out.
unfoldable pub take : Bus → Result (ℕ × Bus) Denial
take b = oldest b b.sent

-- A load from an input port: the oldest waiting byte.
abbrev pub received : Bus → List ℕ → Result (ℕ × Bus) Refusal
received b [] = Err (OnBus NoneWaiting)
received b (v ∷ vs) = Ok (v, on_waiting b vs)

-- A store to a character port: the low byte is sent, if there is room.
abbrev pub sends : Bus → ℕ → Bool → Result Bus Refusal
sends b v true = Ok (on_sent b (b.sent ++ ((v % 256) ∷ [])))
sends b v false = Err (OnBus NoRoomToSend)

-- Is a word's address a multiple of its bytes? If not, the word is refused.
abbrev pub even : {V : Type 0} → Bool → Result V Refusal → Result V Refusal
even true o = o
even false o = Err Uneven

module _ (z : Size) where
  -- A word loaded from what stands at the address a.
  abbrev pub load_from : Bus → ℕ → Place → Result (ℕ × Bus) Refusal
  load_from b a (Cell v) = Ok (gathered b.place a (width z) 0, b)
  load_from b a (Fixed v) = Ok (gathered b.place a (width z) 0, b)
  load_from b a CharacterPort = Err (OnBus WrongWay)
  load_from b a InputPort = received b b.waiting
  load_from b a Nothing = Err (OnBus NothingThere)

  -- Load: is the address even? Then by what stands there.
  unfoldable pub load : Bus → ℕ → Result (ℕ × Bus) Refusal
  load b a = even (a % width z == 0) (load_from b a (b.place a))

  -- A word stored to what stands at the address a.
  abbrev pub store_to : Bus → ℕ → ℕ → Place → Result Bus Refusal
  store_to b a v (Cell y) = Ok (on_places b (writes b.place a (parts (width z) v)))
  store_to b a v (Fixed y) = Err (OnBus WrongWay)
  store_to b a v CharacterPort = sends b v (nat_lt (length b.sent) b.max_sent)
  store_to b a v InputPort = Err (OnBus WrongWay)
  store_to b a v Nothing = Err (OnBus NothingThere)

  -- Store: is the address even? Then by what stands there.
  unfoldable pub store : Bus → ℕ → ℕ → Result Bus Refusal
  store b a v = even (a % width z == 0) (store_to b a v (b.place a))

-- The words: `ldc r,n`, `lsr r`, `sub r,n`, `bez r,n` (n bytes on), `bnz r,-n` (n bytes back), `ldw r,s`, `stw r,s` and `hcf`.
pub data Word : Type 0 where
  Ldc Lsr Sub Bez Bnz Ldw Stw : ℕ → ℕ → Word
  Hcf : Word

-- A word's operation, register and operand, by number.
abbrev pub fields : Word → ℕ × ℕ × ℕ
fields (Ldc r n) = (0, r, n)
fields (Lsr r s) = (1, r, s)
fields (Sub r n) = (2, r, n)
fields (Bez r n) = (3, r, n)
fields (Bnz r n) = (4, r, n)
fields (Ldw r s) = (5, r, s)
fields (Stw r s) = (6, r, s)
fields Hcf = (7, 0, 0)

-- The words that can be written: the register below 8, the operand a byte.
abbrev pub Valid : Word → Type 0
Valid w = ((fields w).1 < 8) × ((fields w).2 < 256)

-- The words of each operation, in order.
abbrev pub table : ℕ → ℕ → List (Option Word)
table r n = Some (Ldc r n) ∷ (Some (Lsr r n) ∷ (Some (Sub r n) ∷ (Some (Bez r n) ∷ (Some (Bnz r n) ∷ (Some (Ldw r n) ∷ (Some (Stw r n) ∷ (Some Hcf ∷ [])))))))

-- The word of two bytes: the high one is the operation, by eights, and the register; the low one is the operand.
abbrev pub decode : ℕ → ℕ → Option Word
decode h l = slice_index_or (table (h % 8) l) (h / 8) None

module _ (z : Size) where
  -- The address n words on.
  abbrev pub on : ℕ → Core → ℕ
  on n c = (c.next + 2 * n) % modulus z

  -- The core with other registers, n words on.
  abbrev pub past : Registers → ℕ → Core → Core
  past g n c = record { regs = g; next = on n c }

  -- The core after a word that puts v into register r.
  abbrev pub sets : ℕ → ℕ → Core → Core
  sets r v c = past (put r v c.regs) 1 c

  -- The core after a branch, taken or not.
  abbrev pub branch : Core → Bool → ℕ → Core
  branch c true x = record { regs = c.regs; next = x % modulus z }
  branch c false x = past c.regs 1 c

  -- A word's load: the value goes into register r.
  abbrev pub loaded : ℕ → Core → Result (ℕ × Bus) Refusal → Outcome Core Bus Refusal
  loaded r c (Ok p) = Done (sets r p.0 c) p.1 []
  loaded r c (Err why) = Refused why

  -- A word's store to the address a.
  abbrev pub stored : Core → ℕ → Result Bus Refusal → Outcome Core Bus Refusal
  stored c a (Ok b) = Done (past c.regs 1 c) b (range_with_len a (width z))
  stored c a (Err why) = Refused why

  -- What each word does.
  abbrev pub act : Word → Core → Act Core Bus Refusal
  act (Ldc r n) c = Quiet (sets r ((256 * c.regs r + n) % modulus z) c)
  act (Lsr r s) c = Quiet (sets r (c.regs s / 2) c)
  act (Sub r n) c = Quiet (sets r ((c.regs r + (modulus z - n)) % modulus z) c)
  act (Bez r n) c = Quiet (branch c (c.regs r == 0) (c.next + 2 + n))
  act (Bnz r n) c = Quiet (branch c (not (c.regs r == 0)) (c.next + 2 + (modulus z - n)))
  act (Ldw r s) c = Asks (λ b. loaded r c (load z b (c.regs s)))
  act (Stw r s) c = Asks (λ b. stored c (c.regs s) (store z b (c.regs s) (c.regs r)))
  act Hcf c = Asks (λ b. Halts c)

  -- Each register is below the modulus.
  abbrev pub Fits : Core → Type 0
  Fits c = (q : ℕ) → c.regs q < modulus z

-- Each number of a list is a byte.
abbrev pub Bytes : List ℕ → Type 0
Bytes vs = AllByRecursion (λ v. v < 256) vs

-- What every bus shows here: each byte that stands at an address or waits is below 256.
pub record Sound (b : Bus) : Type 0 where
  pub places : (x : ℕ) → byte_at (b.place x) < 256
  pub waits : Bytes b.waiting

-- The machine.
abbrev pub worked : Size → Machine
worked z = record {
  Core = Core;
  Bus = Bus;
  Word = Word;
  Refusal = Refusal;
  Denial = Denial;
  at = λ c. c.next;
  limit = modulus z;
  Fits = Fits z;
  Sound = Sound;
  Valid = Valid;
  high = λ w. (fields w).0 * 8 + (fields w).1;
  low = λ w. (fields w).2;
  decode = decode;
  act = act z;
  peek = peek;
  give = give;
  take = take;
}

-- The kinds of line: one word; `ldi r,n`; `ldw r,n` and `stw r,n`, which go by register 0; `lsrm r,s`, by a loop; and the same behind a
-- `bez s,6`, so that it shifts by nothing where s is 0.
pub data Row : Type 0 where
  One : Word → Row
  Ldi LdwAt StwAt Lsrm LsrmOrNone : ℕ → ℕ → Row

-- Register 0, which the lines of several words use.
abbrev pub at : ℕ
at = 0

-- An `ldc` for each of some bytes.
abbrev pub ldcs : ℕ → List ℕ → List Word
ldcs r [] = []
ldcs r (v ∷ vs) = Ldc r v ∷ ldcs r vs

-- The loop of a shift: `lsr r,r`, `sub s,1`, `bnz s,-6`.
abbrev pub shift_loop : ℕ → ℕ → List Word
shift_loop r s = Lsr r r ∷ (Sub s 1 ∷ (Bnz s 6 ∷ []))

module _ (z : Size) where
  -- The words of `ldi r,n`.
  abbrev pub ldi : ℕ → ℕ → List Word
  ldi r n = ldcs r (parts (width z) n)

  -- How often the loop turns: s times, or the modulus where s is 0.
  abbrev pub turns : ℕ → ℕ
  turns s = elim (s == 0) [ true ↦ modulus z | false ↦ s ]

  -- The words that each line spells.
  abbrev pub words : Row → List Word
  words (One w) = w ∷ []
  words (Ldi r n) = ldi r n
  words (LdwAt r n) = ldi at n ++ (Ldw r at ∷ [])
  words (StwAt r n) = ldi at n ++ (Stw r at ∷ [])
  words (Lsrm r s) = shift_loop r s
  words (LsrmOrNone r s) = Bez s 6 ∷ shift_loop r s

  -- The words that each line spends.
  abbrev pub cost : Row → Core → ℕ
  cost (One w) c = 1
  cost (Ldi r n) c = width z
  cost (LdwAt r n) c = suc (width z)
  cost (StwAt r n) c = suc (width z)
  cost (Lsrm r s) c = 3 * turns (c.regs s)
  cost (LsrmOrNone r s) c = 1 + 3 * c.regs s

  -- What a line's load comes to, with the address of the word behind its `ldc`s in its fault.
  abbrev pub load_stroke : ℕ → Registers → Core → Result (ℕ × Bus) Refusal → Outcome Core Bus (Fault Refusal)
  load_stroke r g c (Ok p) = Done (past z (put r p.0 g) (suc (width z)) c) p.1 []
  load_stroke r g c (Err why) = Refused (OfWord (on z (width z) c) why)

  -- What a line's store to the address a comes to, with the same address in its fault.
  abbrev pub store_stroke : Registers → Core → ℕ → Result Bus Refusal → Outcome Core Bus (Fault Refusal)
  store_stroke g c a (Ok b) = Done (past z g (suc (width z)) c) b (range_with_len a (width z))
  store_stroke g c a (Err why) = Refused (OfWord (on z (width z) c) why)

  -- The registers after r is shifted to the right by k places, with s 0.
  abbrev pub shifted : ℕ → ℕ → ℕ → Registers → Registers
  shifted r s k g = put s 0 (put r (g r / 2 ^ k) g)

  -- What each line does at a stroke.
  abbrev pub stroke : Row → Core → Bus → Outcome Core Bus (Fault Refusal)
  stroke (One w) c b = placed c.next (outcome (act z w c) b)
  stroke (Ldi r n) c b = Done (past z (put r n c.regs) (width z) c) b []
  stroke (LdwAt r n) c b = load_stroke r (put at n c.regs) c (load z b n)
  stroke (StwAt r n) c b = store_stroke (put at n c.regs) c n (store z b n (c.regs r))
  stroke (Lsrm r s) c b = Done (past z (shifted r s (turns (c.regs s)) c.regs) 3 c) b []
  stroke (LsrmOrNone r s) c b = Done (past z (shifted r s (c.regs s) c.regs) 4 c) b []

  -- The lines that can be written: registers below 8 and not register 0 where the line uses it, two different ones in a shift, numbers below
  -- the modulus.
  abbrev pub Proper : Row → Type 0
  Proper (One w) = Valid w
  Proper (Ldi r n) = (r < 8) × (n < modulus z)
  Proper (LdwAt r n) = (r < 8) × (n < modulus z)
  Proper (StwAt r n) = (0 < r) × (r < 8) × (n < modulus z)
  Proper (Lsrm r s) = (r < 8) × (s < 8) × (r ≢ s)
  Proper (LsrmOrNone r s) = (r < 8) × (s < 8) × (r ≢ s)

  -- The line of a row.
  abbrev pub line : Row → Line (worked z)
  line k = record { words = words k; cost = cost k; stroke = stroke k }

-- Each line that can be written keeps what it owes, at both sizes.
abbrev pub RowsKeep : Type 0
RowsKeep = (z : Size) (k : Row) → Proper z k → Owes (worked z) (line z k)
