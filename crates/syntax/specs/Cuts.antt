-- Bytes cut at a separator.
use Rattle.std.specs.Prelude.{ℕ, cond, List, [], ◌∷◌, Some, None, Option}
use Rattle.syntax.specs.declared.cuts.Separator.{Separator}
use Rattle.syntax.specs.declared.cuts.Separator.TheVariants.{LineFeed}
use Rattle.syntax.specs.Characters.{parts}

-- A byte put before the first of some pieces.
abbrev pub front : ℕ → List (List ℕ) → List (List ℕ)
front b [] = (b ∷ []) ∷ []
front b (l ∷ ls) = (b ∷ l) ∷ ls

-- The pieces between separators: one more than there are separators.
abbrev pub pieces : Separator → List ℕ → List (List ℕ)
pieces s [] = [] ∷ []
pieces s (b ∷ bs) = cond (parts s b) ([] ∷ pieces s bs) (front b (pieces s bs))

-- The lines of a text: what ends with LF; the last line may lack it.
abbrev pub lines : List ℕ → List (List ℕ)
lines [] = []
lines (b ∷ bs) = cond (parts LineFeed b) ([] ∷ lines bs) (front b (lines bs))

-- What stands before the first separator, and what stands behind it where there is one.
abbrev pub before : Separator → List ℕ → List ℕ
before s [] = []
before s (b ∷ bs) = cond (parts s b) [] (b ∷ before s bs)

abbrev pub behind : Separator → List ℕ → Option (List ℕ)
behind s [] = None
behind s (b ∷ bs) = cond (parts s b) (Some bs) (behind s bs)

-- The pieces and the lines of what stands behind a separator.
abbrev pub pieces_of : Separator → Option (List ℕ) → List (List ℕ)
pieces_of s None = []
pieces_of s (Some bs) = pieces s bs

abbrev pub lines_of : Option (List ℕ) → List (List ℕ)
lines_of None = []
lines_of (Some bs) = lines bs
