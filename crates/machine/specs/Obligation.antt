-- What an instruction line owes: its words, executed one by one, do its stroke, and they are as many as its cost.
use Rattle.std.specs.Prelude.{◌≡◌, ℕ, zero, suc, ◌+◌, ◌*◌, ◌≤◌, true, false, List, [], ◌∷◌, length, Some, None, Option, ◌==◌}
use Rattle.machine.specs.Machine.{Machine, Outcome, Act, Quiet, Asks, outcome}
use Rattle.machine.specs.Board.{Fault, placed}
use Rattle.machine.specs.Program.{Line, Item, Code, Data}

-- The word at the address x, of words that stand one behind the other from the address a on.
abbrev pub word_at : {Word : Type 0} → List Word → ℕ → ℕ → Option Word
word_at [] a x = None
word_at (w ∷ ws) a x = elim (x == a) [ true ↦ Some w | false ↦ word_at ws (a + 2) x ]

-- The core that an act leads to, if it leaves the bus alone.
abbrev pub quiet : {Core Bus Why : Type 0} → Act Core Bus Why → Option Core
quiet (Quiet c) = Some c
quiet (Asks f) = None

-- What g makes of a value, if there is one.
abbrev pub and_then : {A B : Type 0} → Option A → (A → Option B) → Option B
and_then None g = None
and_then (Some a) g = g a

module _ (M : Machine) (ws : List M.Word) (a : ℕ) where
  -- The core after one word, if that word is one of those from a on and leaves the bus alone.
  unfoldable pub inside : M.Core → Option M.Core
  inside c = and_then (word_at ws a (M.at c)) (λ w. quiet (M.act w c))

  -- The core after n such words.
  unfoldable pub insides : ℕ → M.Core → Option M.Core
  insides zero c = Some c
  insides (suc n) c = and_then (insides n c) inside

  -- From the core c, the words that stand from a on do a stroke, and cost words of them are executed. Those before the last one executed
  -- are of the line and touch registers and next address alone; only the last may be refused, use the bus or leave the line.
  pub record Does (c : M.Core) (cost : ℕ) (stroke : M.Bus → Outcome M.Core M.Bus (Fault M.Refusal)) : Type 0 where
    pub before : ℕ
    pub counts : cost ≡ suc before
    pub reached : M.Core
    pub quietly : insides before c ≡ Some reached
    pub last : M.Word
    pub stands : word_at ws a (M.at reached) ≡ Some last
    pub strikes : (b : M.Bus) → M.Sound b → placed (M.at reached) (outcome (M.act last reached) b) ≡ stroke b

-- Each word of a list can be written.
abbrev pub AllValid : (M : Machine) → List M.Word → Type 0
AllValid M [] = Unit {0}
AllValid M (w ∷ ws) = M.Valid w × AllValid M ws

-- What a line owes: its words can be written, and from every core that fits they do its stroke at its cost, wherever the line stands
-- below the limit of the addresses.
pub record Owes (M : Machine) (l : Line M) : Type 0 where
  pub valid : AllValid M l.words
  pub does : (c : M.Core) → M.Fits c → M.at c + 2 * length l.words ≤ M.limit → Does M l.words (M.at c) c (l.cost c) (l.stroke c)

-- Each instruction line of a program keeps what it owes.
abbrev pub Keeps : (M : Machine) → List (Item M) → Type 0
Keeps M [] = Unit {0}
Keeps M (Code l ∷ is) = Owes M l × Keeps M is
Keeps M (Data bs ∷ is) = Keeps M is
