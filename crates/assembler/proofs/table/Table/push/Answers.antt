use Rattle.std.proofs.Common.{◌+◌, refl, arith, rules}
use Rattle.std.proofs.lemmas.List.{take_more_set, drop-set-lt}
use Rattle.assembler.proofs.table.Table.push.Goals as goal

pub returns-then-self : goal.returns-then-self
returns-then-self g c =
    record {
      told = search rules;
      kept = refl;
      counted = refl;
      filled = search (rules, take_more_set);
      spare = drop-set-lt (c.args.self.now.count + 1) _ c.args.self.now.count _ (omega arith);
      named = search rules;
    }
