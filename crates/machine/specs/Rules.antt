-- Ready-made ways to show that a line keeps what it owes: words one behind the other, a loop, a loop behind a word that may skip it.
-- Nothing here knows the size of a word.
use Rattle.std.specs.Prelude.{◌≡◌, ℕ, suc, ◌+◌, ◌*◌, ◌<◌, List, [], ◌∷◌, ◌++◌, length}
use Rattle.machine.specs.Machine.{Machine, Outcome, Act, Quiet, Asks, outcome}
use Rattle.machine.specs.Board.{Fault, placed}
use Rattle.machine.specs.Program.{Line}
use Rattle.machine.specs.Obligation.{AllValid, Owes}

-- The core that an act leads to; the core c itself, where the act asks the bus.
abbrev pub led : {Core Bus Why : Type 0} → Core → Act Core Bus Why → Core
led c (Quiet c') = c'
led c (Asks f) = c

module _ (M : Machine) where
  -- The core after a word that leaves the bus alone.
  abbrev pub went : M.Word → M.Core → M.Core
  went w c = led c (M.act w c)

  -- The core after words that leave the bus alone.
  abbrev pub after : List M.Word → M.Core → M.Core
  after [] c = c
  after (w ∷ ws) c = after ws (went w c)

  -- A plain word leaves the bus alone and goes on to the word behind it.
  abbrev pub Plain : M.Word → Type 0
  Plain w = (c : M.Core) → M.Fits c → M.at c + 2 < M.limit → (M.act w c ≡ Quiet (went w c)) × (M.at (went w c) ≡ M.at c + 2)

  -- Each word of a list is plain.
  abbrev pub AllPlain : List M.Word → Type 0
  AllPlain [] = Unit {0}
  AllPlain (w ∷ ws) = Plain w × AllPlain ws

  -- What a line does from one core, on each bus.
  abbrev pub Stroke : Type 0
  Stroke = M.Bus → Outcome M.Core M.Bus (Fault M.Refusal)

  -- Two strokes do the same on every sound bus.
  abbrev pub Same : Stroke → Stroke → Type 0
  Same f g = (b : M.Bus) → M.Sound b → f b ≡ g b

  -- What one word does at a core, with its address in its fault.
  abbrev pub word_stroke : M.Word → M.Core → Stroke
  word_stroke w c b = placed (M.at c) (outcome (M.act w c) b)

  -- A line of plain words and one last word of any kind: it costs its words, and from every core the last word does the line's stroke.
  pub record Straight (l : Line M) : Type 0 where
    pub front : List M.Word
    pub last : M.Word
    pub spelled : l.words ≡ front ++ (last ∷ [])
    pub valid : AllValid M l.words
    pub plain : AllPlain front
    pub counts : (c : M.Core) → l.cost c ≡ suc (length front)
    pub strikes : (c : M.Core) → M.Fits c → M.at c + 2 * length front < M.limit → M.at (after front c) ≡ M.at c + 2 * length front →
        Same (word_stroke last (after front c)) (l.stroke c)

  -- A loop of plain words and one last word that goes back to the first of them or not, with the turns yet to make and the stroke, both
  -- from the core at its beginning. With one turn yet to make, the last word does the stroke; with more, it goes back, and then there is one
  -- turn less to make, with the same stroke.
  pub record Loop (body : List M.Word) (back : M.Word) (turns : M.Core → ℕ) (stroke : M.Core → Stroke) : Type 0 where
    pub plain : AllPlain body
    pub ends : (c : M.Core) → M.Fits c → M.at c + 2 * length body < M.limit → M.at (after body c) ≡ M.at c + 2 * length body → turns c ≡ 1 →
        Same (word_stroke back (after body c)) (stroke c)
    pub again : (c : M.Core) (k : ℕ) → M.Fits c → M.at c + 2 * length body < M.limit → M.at (after body c) ≡ M.at c + 2 * length body → turns c ≡ suc (suc k) →
        (c' : M.Core) × (M.act back (after body c) ≡ Quiet c') × (M.at c' ≡ M.at c) × (turns c' ≡ suc k) × Same (stroke c') (stroke c)

  -- A line that is plain words, perhaps none, and a loop: it costs the words in front and those of each turn.
  pub record Looped (l : Line M) : Type 0 where
    pub front : List M.Word
    pub body : List M.Word
    pub back : M.Word
    pub turns : M.Core → ℕ
    pub whole : M.Core → Stroke
    pub loop : Loop body back turns whole
    pub spelled : l.words ≡ front ++ (body ++ (back ∷ []))
    pub valid : AllValid M l.words
    pub plain : AllPlain front
    pub counts : (c : M.Core) → M.Fits c → M.at c + 2 * length front < M.limit → M.at (after front c) ≡ M.at c + 2 * length front →
        (k : ℕ) × (turns (after front c) ≡ suc k) × (l.cost c ≡ length front + suc (length body) * suc k) × Same (whole (after front c)) (l.stroke c)

  -- A line that is one word and a loop, where that word leaves the line if there is no turn to make, and goes on into the loop if there is.
  pub record Guarded (l : Line M) : Type 0 where
    pub guard : M.Word
    pub body : List M.Word
    pub back : M.Word
    pub turns : M.Core → ℕ
    pub whole : M.Core → Stroke
    pub loop : Loop body back turns whole
    pub spelled : l.words ≡ guard ∷ (body ++ (back ∷ []))
    pub valid : AllValid M l.words
    pub skips : (c : M.Core) → M.Fits c → M.at c + 2 * suc (length body) < M.limit → turns c ≡ 0 →
        (l.cost c ≡ 1) × Same (word_stroke guard c) (l.stroke c)
    pub enters : (c : M.Core) (k : ℕ) → M.Fits c → M.at c + 2 * suc (length body) < M.limit → turns c ≡ suc k →
        (c' : M.Core) × (M.act guard c ≡ Quiet c') × (M.at c' ≡ M.at c + 2) × (turns c' ≡ suc k) ×
        (l.cost c ≡ 1 + suc (length body) * suc k) × Same (whole c') (l.stroke c)

  -- The three rules: each such line keeps what it owes.
  pub record Rules : Type 0 where
    pub straight : (l : Line M) → Straight l → Owes M l
    pub looped : (l : Line M) → Looped l → Owes M l
    pub guarded : (l : Line M) → Guarded l → Owes M l
