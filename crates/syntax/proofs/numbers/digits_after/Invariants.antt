use Rattle.std.proofs.Common.{◌≡◌, ◌≤◌, drop}
use Rattle.syntax.specs.Numbers.{digits_after, bound, capped}
use Rattle.syntax.proofs.numbers.digits_after.Given as goal

abbrev pub invariant-loop-b : goal.invariant-loop-b
invariant-loop-b l =
    (capped (digits_after l.base l.n (drop l.b-index l.text)) ≡ capped (digits_after l.base 0 l.text)) × (l.n ≤ bound)
