use Rattle.std.proofs.Common.{◌≡◌, ◌+◌, ◌≤◌, true, ◌++◌, length}
use Rattle.std.specs.Option.{option_map}
use Rattle.syntax.specs.declared.cuts.Separator.TheVariants.{Space}
use Rattle.syntax.specs.Cuts.{pieces, pieces_of}
use Rattle.syntax.specs.Data.{number_bytes, all_fit}
use Rattle.assembler.specs.Tables.{filled, size, Spared}
use Rattle.assembler.proofs.Cutting.{left_of}
use Rattle.assembler.proofs.image.put_numbers.Given as goal

-- What is left of the numbers goes behind what is there.
abbrev pub invariant-loop-left : goal.invariant-loop-left
invariant-loop-left l =
    (filled l.out ++ number_bytes (pieces_of Space (option_map (λ x. x.now) l.left)) ≡ filled l.initial.out ++ number_bytes (pieces Space l.text))
    × (l.out.count + length (number_bytes (pieces_of Space (option_map (λ x. x.now) l.left))) ≤ size l.initial.out)
    × (all_fit (pieces_of Space (option_map (λ x. x.now) l.left)) ≡ true)
    × Spared l.initial.out l.out

abbrev pub decreases-loop-left : goal.decreases-loop-left
decreases-loop-left l = left_of (option_map (λ x. x.now) l.left)
