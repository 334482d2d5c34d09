-- How long the parts of a line are.
use Rattle.std.specs.Prelude.{ℕ, ◌≤◌, List, length, Some, None, Option}
use Rattle.syntax.specs.Statements.{Statement, empty, labelled, code}

-- What stands behind a label, where something does, has at most so many bytes.
abbrev pub RestShort : ℕ → Option (List ℕ) → Type 0
RestShort most None = Unit {0}
RestShort most (Some t) = length t ≤ most

-- On a line of so many bytes a label's name has at most 32, and what stands behind it no more than the line.
abbrev pub Short : ℕ → Statement → Type 0
Short most empty = Unit {0}
Short most (labelled n rest) = (length n ≤ 32) × RestShort most rest
Short most (code r) = Unit {0}
