use Rattle.std.proofs.Common.{rules}
use Rattle.std.proofs.lemmas.Iterator.Search.{all_from_yields_List}
use Rattle.syntax.specs.Data.{fits}
use Rattle.syntax.specs.Numbers.{number}
use Rattle.syntax.specs.declared.cuts.Separator.TheVariants.{Space}
use Rattle.syntax.proofs.Steps.{yields-pieces}
use Rattle.syntax.proofs.data.all_fit.Goals as goal

pub returns : goal.returns
returns c =
    all_from_yields_List (λ p. fits (number p)) _ _ _ c.all.ensures.ran
    (yields-pieces _ Space _ c.split.ensures.rest c.split.ensures.done c.split.ensures.closure (λ x b q k. search rules))
    (λ x b q k. search rules)
