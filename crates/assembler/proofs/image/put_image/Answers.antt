use Rattle.std.proofs.Common.{◌≡◌, ℕ, ◌+◌, ◌≤◌, List, ◌∷◌, ◌++◌, length, sym, ap, ◌∙◌, append_assoc, length-append, arith, rules}
use Rattle.syntax.specs.Cuts.{lines}
use Rattle.assembler.specs.Tables.{filled, size}
use Rattle.assembler.specs.Images.{address_in, line_bytes, image_of}
use Rattle.assembler.proofs.Laying.{spared_on, room_left}
use Rattle.assembler.proofs.image.put_image.Goals as goal

pub put_line-requires : goal.put_line-requires
put_line-requires c =
    let address : List ℕ → ℕ = address_in c.args.text.now c.args.labels.now in
    let rest : List (List ℕ) = lines c.next.new.self.rest.now in
    let bytes : List ℕ = line_bytes address c.in-Some.line.now in
    let first : lines c.loop-line.line-iterator.rest.now ≡ c.in-Some.line.now ∷ rest = search rules in
    let left : image_of address (lines c.loop-line.line-iterator.rest.now) ≡ bytes ++ image_of address rest = ap (image_of address) first in
    let room : c.loop-line.out.count + length (image_of address (lines c.loop-line.line-iterator.rest.now)) ≤ size c.args.out.now =
    room_left c.args.out.now c.loop-line.out _ _ _ c.loop-line.invariant.0 c.loop-line.out.ok c.args.out.now.ok c.requires in
    let sizes = ap length left in
    let sum : length (bytes ++ image_of address rest) ≡ length bytes + length (image_of address rest) = length-append bytes (image_of address rest) in
    let same = c.loop-line.invariant.1.1 in
    omega arith

pub loop-line-preserved : goal.loop-line-preserved
loop-line-preserved c =
    let address : List ℕ → ℕ = address_in c.args.text.now c.args.labels.now in
    let rest : List (List ℕ) = lines c.next.new.self.rest.now in
    let done : List ℕ = filled c.loop-line.out in
    let bytes : List ℕ = line_bytes address c.in-Some.line.now in
    let first : lines c.loop-line.line-iterator.rest.now ≡ c.in-Some.line.now ∷ rest = search rules in
    let left : image_of address (lines c.loop-line.line-iterator.rest.now) ≡ bytes ++ image_of address rest = ap (image_of address) first in (
      ap (λ (l : List ℕ). l ++ image_of address rest) c.put_line.ensures.put ∙ append_assoc done bytes (image_of address rest)
          ∙ ap (λ (l : List ℕ). done ++ l) (sym left) ∙ c.loop-line.invariant.0,
      spared_on c.args.out.now c.loop-line.out c.put_line.new.out c.loop-line.invariant.1 c.put_line.ensures.spared,
    )
