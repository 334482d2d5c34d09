use Rattle.std.proofs.Common.{◌≡◌, ◌++◌}
use Rattle.syntax.specs.Cuts.{lines}
use Rattle.assembler.specs.Tables.{filled, Spared}
use Rattle.assembler.specs.Images.{address_in, image_of}
use Rattle.assembler.proofs.image.put_image.Given as goal

-- What is left of the image goes behind what is there.
abbrev pub invariant-loop-line : goal.invariant-loop-line
invariant-loop-line l =
    (filled l.out ++ image_of (address_in l.text l.labels) (lines l.line-iterator.rest.now) ≡ filled l.initial.out ++ image_of (address_in l.text l.labels) (lines l.text))
    × Spared l.initial.out l.out
