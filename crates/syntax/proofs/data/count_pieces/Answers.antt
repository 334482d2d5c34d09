use Rattle.std.proofs.Common.{sym, ap, ◌∙◌, length, rules}
use Rattle.std.proofs.lemmas.List.{length-map}
use Rattle.std.proofs.lemmas.Iterator.{items_from_drains}
use Rattle.syntax.specs.declared.cuts.Separator.TheVariants.{Space}
use Rattle.syntax.proofs.Steps.{yields-pieces}
use Rattle.syntax.proofs.data.count_pieces.Goals as goal

pub returns : goal.returns
returns c =
    let d = c.count.ensures.ran in
    d.2 ∙ sym (length-map d.0 _)
    ∙ ap length (items_from_drains d.0 (d.1.1.0, d.1.1.1, λ u. (d.1.0, d.1.1.2)) (yields-pieces _ Space _ c.split.ensures.rest c.split.ensures.done c.split.ensures.closure (λ x b q k. search rules)))
