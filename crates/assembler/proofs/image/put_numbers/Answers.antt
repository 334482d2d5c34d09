use Rattle.std.proofs.Common.{◌≡◌, ℕ, suc, true, List, ◌∷◌, ◌++◌, length, sym, ap, ◌∙◌, append_assoc, arith, rules}
use Rattle.std.specs.Option.{option_map}
use Rattle.syntax.specs.declared.cuts.Separator.TheVariants.{Space}
use Rattle.syntax.specs.Cuts.{pieces_of}
use Rattle.syntax.specs.Data.{number_bytes, all_fit, bytes_of, value_of}
use Rattle.syntax.specs.Numbers.{number}
use Rattle.assembler.specs.Tables.{filled}
use Rattle.assembler.proofs.Laying.{spared_on}
use Rattle.assembler.proofs.image.put_numbers.Goals as goal

pub loop-left-preserved : goal.loop-left-preserved
loop-left-preserved c =
    let inv = c.loop-left.invariant in
    let piece : List ℕ = c.cut.result.0.now in
    let rest : List (List ℕ) = pieces_of Space (option_map (λ x. x.now) c.cut.result.1) in
    let left : pieces_of Space (option_map (λ x. x.now) c.loop-left.left) ≡ piece ∷ rest = search rules in
    let done : List ℕ = filled c.loop-left.out in
    let word : List ℕ = bytes_of (value_of (number piece)) in
    let put : filled c.put_words.new.out ≡ done ++ word = search rules in
    let all : number_bytes (pieces_of Space (option_map (λ x. x.now) c.loop-left.left)) ≡ word ++ number_bytes rest = ap number_bytes left in
    let counted = c.put_words.ensures.count in
    let sizes : length (number_bytes (pieces_of Space (option_map (λ x. x.now) c.loop-left.left))) ≡ suc (suc (length (number_bytes rest))) = ap length all in
    let room = inv.1 in
    let fit : all_fit (piece ∷ rest) ≡ true = sym (ap all_fit left) ∙ inv.2 in (
      ap (λ (l : List ℕ). l ++ number_bytes rest) put ∙ append_assoc done word (number_bytes rest) ∙ ap (λ (l : List ℕ). done ++ l) (sym all) ∙ inv.0,
      omega (arith, counted, sizes, room),
      search rules,
      spared_on c.args.out.now c.loop-left.out c.put_words.new.out inv.3 c.put_words.ensures.spared,
    )
