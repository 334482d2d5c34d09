use Rattle.std.proofs.Common.{◌≡◌, option_copied, rules, tests}
use Rattle.std.proofs.lemmas.Iterator.{YieldsList-from_slice}
use Rattle.std.proofs.lemmas.Iterator.Search.{find_from_yields_List}
use Rattle.word.specs.Table.{row_in, is_coded}
use Rattle.word.proofs.Firsts.{operation_in, find_in, first_found}
use Rattle.word.proofs.instructions.Operation.coded.Goals as goal

pub returns : goal.returns
returns c =
    let found : option_copied c.find.result ≡ find_in (is_coded c.args.opcode c.args.op2) c.mnemonics.result.now =
    find_from_yields_List (λ m. is_coded c.args.opcode c.args.op2 (row_in m)) _ _ c.find.result c.find.ensures.ran (YieldsList-from_slice c.mnemonics.result.now cc) (λ x b q k. search (rules, tests)) in
    let is : c.map.result ≡ operation_in (option_copied c.find.result) = search rules in
    first_found (is_coded c.args.opcode c.args.op2) _ _ _ c.mnemonics.ensures.rows found is
