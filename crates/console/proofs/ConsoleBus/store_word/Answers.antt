use Rattle.std.proofs.Common.{◌≡◌, ◌%◌, arith, rules}
use Rattle.std.proofs.lemmas.Bool.Decides.{nat_tests}
use Rattle.console.proofs.ConsoleBus.store_word.Goals as goal

pub returns-in_ok-ok_or-in_default-clause-keeps : goal.returns-in_ok-ok_or-in_default-clause-keeps
returns-in_ok-ok_or-in_default-clause-keeps g c =
    let even : c.args.a % 2 ≡ 0 = omega arith in
    let paired = (g.B.Bus.facts c.args.self.now.below).paired c.args.a even in
    search (rules, nat_tests)
