use Rattle.std.proofs.Common.{◌≡◌, ℕ, suc, List, ◌∷◌, length, Ok, sym, ap, ◌∙◌, rules}
use Rattle.syntax.specs.Cuts.{lines}
use Rattle.assembler.specs.Tables.{filled, size}
use Rattle.assembler.specs.Placing.{Room, Placing, place_line, place, room, state_of, behind}
use Rattle.assembler.proofs.Cutting.{bytes_with_ends, bytes_bound}
use Rattle.assembler.proofs.Laying.{place-goes, spared_on}
use Rattle.assembler.proofs.layout.place_lines.Goals as goal

pub loop-line-init : goal.loop-line-init
loop-line-init c = search (rules, bytes_bound)

pub loop-line-preserved : goal.loop-line-preserved
loop-line-preserved c =
    let inv = c.loop-line.invariant in
    let free : Room = room (size c.args.labels.now) (size c.args.lines.now) in
    let free' : Room = room (size c.loop-line.labels) (size c.loop-line.lines) in
    let s : Placing = state_of c.loop-line.at (filled c.loop-line.labels) (filled c.loop-line.lines) in
    let s' : Placing = state_of c.behind-at.result (filled c.place_line.new.labels) (filled c.place_line.new.lines) in
    let l : List ℕ = c.in-Some.line.now in
    let rest : List (List ℕ) = lines c.next.new.self.rest.now in
    let b : Placing = behind s (length l) c.in_ok-memory.memory (filled c.place_line.new.labels) (filled c.place_line.new.lines) in
    let rooms : free' ≡ free = (λ i. room (inv.1.1 i) (inv.2.1 i)) in
    let same : b ≡ s' =
    (λ i. record {
      line = sym c.behind-at.ensures.line i;
      place = sym c.behind-at.ensures.place i;
      address = sym c.behind-at.ensures.address i;
      labels = filled c.place_line.new.labels;
      lines = filled c.place_line.new.lines;
    }) in
    let comes : place_line free' c.args.text.now s l ≡ Ok b = search rules in
    let goes : place_line free c.args.text.now s l ≡ Ok s' =
    ap (λ (r : Room). place_line r c.args.text.now s l) (sym rooms) ∙ comes ∙ ap (λ (x : Placing). Ok x) same in
    let first : lines c.loop-line.line-iterator.rest.now ≡ l ∷ rest = search rules in
    let count : length (lines c.loop-line.line-iterator.rest.now) ≡ suc (length rest) = ap length first in
    let bytes = ap bytes_with_ends first in
    let n = c.behind-at.ensures.line in
    let p = c.behind-at.ensures.place in
    let a = c.behind-at.ensures.address in
    let k = c.place_line.ensures.bound in (
      sym (place-goes free c.args.text.now s l rest s' goes)
          ∙ ap (place free c.args.text.now s) (sym first) ∙ inv.0,
      spared_on c.args.labels.now c.loop-line.labels c.place_line.new.labels inv.1 c.place_line.ensures.spared.0,
      spared_on c.args.lines.now c.loop-line.lines c.place_line.new.lines inv.2 c.place_line.ensures.spared.1,
      search rules,
      search rules,
      search rules,
    )
