use Rattle.std.proofs.Common.{◌≡◌, map, option_copied, sym, ap, ◌∙◌, rules, tests}
use Rattle.std.proofs.lemmas.Iterator.{YieldsList-from_slice}
use Rattle.std.proofs.lemmas.Iterator.Search.{find_from_yields_List}
use Rattle.std.specs.List.{find}
use Rattle.std.specs.Option.{option_map}
use Rattle.syntax.specs.declared.mnemonics.PseudoName.{PseudoName}
use Rattle.syntax.specs.Mnemonics.{entry_in, is_text, first}
use Rattle.syntax.proofs.Firsts.{first-found}
use Rattle.syntax.proofs.mnemonics.pseudo_named.Goals as goal

pub returns : goal.returns
returns c =
    let found : option_copied c.find.result ≡ find (λ p. is_text c.args.text.now (entry_in p)) c.iter.result.rest.now =
    find_from_yields_List (λ p. is_text c.args.text.now (entry_in p)) _ _ c.find.result c.find.ensures.ran (YieldsList-from_slice c.iter.result.rest.now cc) (λ x b q k. search (rules, tests)) in
    let is : c.map.result ≡ option_map (λ (p : PseudoName). p.pseudo) (option_copied c.find.result) = search rules in
    is ∙ ap (option_map (λ p. p.pseudo)) found ∙ sym (first-found (is_text c.args.text.now) c.iter.result.rest.now) ∙ ap (λ ps. first (is_text c.args.text.now) (map entry_in ps)) c.iter.ensures.rest
