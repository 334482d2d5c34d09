-- What the lister answers, and what it leaves in the buffer that was lent to it.
use Rattle.std.specs.Prelude.{ℕ, cond, List, ◌++◌, length, drop, Some, None, Ok, Err, Option, Result, nat_le}
use Rattle.word.specs.declared.instructions.Instruction.{Instruction}
use Rattle.word.specs.Words.{decoded}
use Rattle.lister.specs.declared.listing.Refusal.{Refusal}
use Rattle.lister.specs.declared.listing.Refusal.TheVariants.{NotValid, DoesNotFit}
use Rattle.lister.specs.Lines.{line_of}

-- The number of each refusal.
abbrev pub number_of : Refusal → ℕ
number_of NotValid = 16
number_of DoesNotFit = 17

-- The length of the line; a word that is not valid is refused first, then a line that does not fit.
abbrev pub answer_to : Option Instruction → List ℕ → Result ℕ Refusal
answer_to None buffer = Err NotValid
answer_to (Some i) buffer = cond (nat_le (length (line_of i)) (length buffer)) (Ok (length (line_of i))) (Err DoesNotFit)

abbrev pub answer : ℕ → List ℕ → Result ℕ Refusal
answer word buffer = answer_to (decoded word) buffer

-- The line, and behind it the buffer as it was; a refusal leaves the whole buffer as it was.
abbrev pub buffer_for : Option Instruction → List ℕ → List ℕ
buffer_for None buffer = buffer
buffer_for (Some i) buffer = cond (nat_le (length (line_of i)) (length buffer)) (line_of i ++ drop (length (line_of i)) buffer) buffer

abbrev pub buffer_after : ℕ → List ℕ → List ℕ
buffer_after word buffer = buffer_for (decoded word) buffer
