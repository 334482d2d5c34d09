use Rattle.std.proofs.Common.{◌≡◌, rules}
use Rattle.std.specs.Option.{option_map}
use Rattle.syntax.specs.Data.{data_in, said_data}
use Rattle.syntax.proofs.Sizes.{bound_of}
use Rattle.syntax.proofs.data.read_data.Goals as goal

pub returns-in-34-clause-size : goal.returns-in-34-clause-size
returns-in-34-clause-size c = search (rules, bound_of)

pub returns-in_default-clause-size : goal.returns-in_default-clause-size
returns-in_default-clause-size c =
    let v : option_map said_data c.read_numbers.result ≡ data_in c.args.text.now = search rules in
    bound_of _ _ v
