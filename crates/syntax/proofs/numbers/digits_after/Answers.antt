use Rattle.std.proofs.Common.{sym, ap, ◌∙◌, rules, arith}
use Rattle.syntax.proofs.Caps.{digit_in, digit-in, step, stop, finish}
use Rattle.syntax.proofs.numbers.digits_after.Goals as goal

pub returns-in_err-d : goal.returns-in_err-d
returns-in_err-d c =
    let d = digit-in c.args.base c.from.result c.to_digit.result c.requires.1 c.to_digit.ensures.value ∙ ap (digit_in c.args.base) c.from.ensures in
    rw c.from_residual.ensures (stop _ _ _ _ c.loop-b-test.true (sym c.in_err-d.was ∙ d) ∙ c.loop-b.invariant.0)

pub loop-b-preserved : goal.loop-b-preserved
loop-b-preserved c =
    let d = digit-in c.args.base c.from.result c.to_digit.result c.requires.1 c.to_digit.ensures.value ∙ ap (digit_in c.args.base) c.from.ensures in
    let s = step _ c.loop-b.n _ _ _ (omega (arith, c.requires.0)) c.loop-b-test.true (sym c.in_ok-d.was ∙ d) in
    let i = c.loop-b.invariant.0 in
    (search rules, search rules)

pub returns : goal.returns
returns c = finish _ _ _ _ c.loop-b-test.false c.loop-b.invariant.1 ∙ c.loop-b.invariant.0
