use Rattle.std.proofs.Common.{◌≡◌, ℕ, length, IfOk, subst, rules}
use Rattle.assembler.specs.Answers.{assembled}
use Rattle.assembler.specs.Placing.{room}
use Rattle.printing.specs.Printed.{bytes_of, printed_for}
use Rattle.printing.proofs.print.Goals as goal

pub returns : goal.returns
returns c =
    let image : length c.as_mut_slice.result.now ≡ 65536 = search rules in
    let labels : length c.as_mut_slice-2.result.now ≡ 256 = search rules in
    let lines : length c.as_mut_slice-3.result.now ≡ 2048 = search rules in
    subst (λ (n : ℕ). IfOk c.print_over.result (λ r. bytes_of r ≡ printed_for (assembled (room 256 2048) n c.args.text.now))) image
    (subst (λ (n : ℕ). IfOk c.print_over.result (λ r. bytes_of r ≡ printed_for (assembled (room 256 n) (length c.as_mut_slice.result.now) c.args.text.now))) lines
    (subst (λ (n : ℕ). IfOk c.print_over.result (λ r. bytes_of r ≡ printed_for (assembled (room n (length c.as_mut_slice-3.result.now)) (length c.as_mut_slice.result.now) c.args.text.now))) labels
    c.print_over.ensures))
