use Rattle.std.proofs.Common.{◌≡◌, ◌++◌, length}
use Rattle.printing.specs.Printed.{word_lines}
use Rattle.printing.proofs.print_words.Given as goal

abbrev pub invariant-loop-left : goal.invariant-loop-left
invariant-loop-left l = l.out.items ++ word_lines l.left ≡ word_lines l.image

abbrev pub decreases-loop-left : goal.decreases-loop-left
decreases-loop-left l = length l.left
