use Rattle.std.proofs.Common.{◌≡◌, ℕ, ◌+◌, ◌<◌, List, ◌∷◌, ◌++◌, length, drop, get_or, sym, ap, ◌∙◌, append_assoc, add-one, arith, rules}
use Rattle.std.proofs.Math.Seq.{drop-cons}
use Rattle.syntax.specs.Data.{bytes_of}
use Rattle.assembler.specs.Tables.{filled}
use Rattle.assembler.specs.Images.{word_bytes}
use Rattle.assembler.proofs.Laying.{spared_on}
use Rattle.assembler.proofs.output.put_words.Goals as goal

pub loop-word-preserved : goal.loop-word-preserved
loop-word-preserved c =
    let i : ℕ = c.loop-word.word-index in
    let ws : List ℕ = c.args.words.now in
    let done : List ℕ = filled c.loop-word.out in
    let inside : i < length ws = omega arith in
    let rest : drop i ws ≡ get_or ws i 0 ∷ drop (i + 1) ws = rw add-one (drop-cons ws i 0 inside) in
    let bytes : c.to_be_bytes.result ≡ bytes_of (get_or ws i 0) = search rules in
    let put = c.put_bytes.ensures.put ∙ ap (λ (l : List ℕ). done ++ l) bytes in
    let counted = c.put_bytes.ensures.count in
    let before = c.loop-word.invariant.1 in (
      ap (λ (l : List ℕ). l ++ word_bytes (drop (i + 1) ws)) put
          ∙ append_assoc done (bytes_of (get_or ws i 0)) (word_bytes (drop (i + 1) ws))
          ∙ ap (λ (l : List ℕ). done ++ word_bytes l) (sym rest)
          ∙ c.loop-word.invariant.0,
      search rules,
      spared_on c.args.out.now c.loop-word.out c.put_bytes.new.out c.loop-word.invariant.2 c.put_bytes.ensures.spared,
    )
