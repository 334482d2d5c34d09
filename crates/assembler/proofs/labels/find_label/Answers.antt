use Rattle.std.proofs.Common.{◌≡◌, option_copied, rules, tests}
use Rattle.std.specs.Str.{bytes_eq}
use Rattle.std.proofs.lemmas.Iterator.{YieldsList-from_slice}
use Rattle.std.proofs.lemmas.Iterator.Search.{find_from_yields_List}
use Rattle.assembler.specs.Placing.{name_in, label_named}
use Rattle.assembler.proofs.labels.find_label.Goals as goal

pub returns : goal.returns
returns c =
    let found : option_copied c.find.result ≡ label_named c.args.text.now c.args.name.now c.args.records.now =
    find_from_yields_List (λ r. bytes_eq (name_in c.args.text.now r) c.args.name.now) _ _ c.find.result c.find.ensures.ran (YieldsList-from_slice c.args.records.now cc) (λ x b q k. search (rules, tests)) in
    search rules
