-- Placing line after line.
use Rattle.std.proofs.Common.{◌≡◌, ℕ, ◌+◌, ◌-◌, ◌≤◌, List, ◌∷◌, ◌++◌, length, drop, Ok, Err, Result, sym, ap, ◌∙◌, arith, drop-drop, length-append}
use Rattle.std.proofs.lemmas.List.{length-take-le}
use Rattle.assembler.specs.declared.records.Refusal.{Refusal}
use Rattle.assembler.specs.declared.table.Table.{Table}
use Rattle.assembler.specs.Tables.{filled, size, Spared}
use Rattle.assembler.specs.Placing.{Room, Placing, Course, Stopped, place_line, place}

module _ (free : Room) (text : List ℕ) (s : Placing) (l : List ℕ) (ls : List (List ℕ)) where
  next : Result Placing Refusal → Course
  next r = elim r [ Ok s' ↦ place free text s' ls | Err f ↦ Stopped s f ]

  pub place-goes : (s' : Placing) → place_line free text s l ≡ Ok s' → place free text s (l ∷ ls) ≡ place free text s' ls
  unfolding next
  place-goes s' e = ap next e

-- from a table to the next, and to the one behind that
pub spared_on : {R : Type 0} (a b c : Table R) → Spared a b → Spared b c → Spared a c
spared_on a b c (grown, sized, free, lent) (grown', sized', free', lent') =
    let n : ℕ = c.count - b.count in
    let e : b.count + n ≡ c.count = omega arith in
    let later : drop c.count b.records.now ≡ drop c.count a.records.now =
    ap (λ k. drop k b.records.now) (sym e) ∙ sym (drop-drop n b.count b.records.now)
    ∙ ap (drop n) free
    ∙ drop-drop n b.count a.records.now ∙ ap (λ k. drop k a.records.now) e in
    (omega arith, sized' ∙ sized, free' ∙ later, lent' ∙ lent)

-- a table filled further with room for what is left
pub room_left : {R : Type 0} (s t : Table R) (xs ys : List R) (n : ℕ)
    → filled t ++ xs ≡ filled s ++ ys → t.count ≤ size t → s.count ≤ size s → s.count + length ys ≤ n → t.count + length xs ≤ n
room_left s t xs ys n e h k r =
    let l = ap length e in
    let a : length (filled t ++ xs) ≡ length (filled t) + length xs = length-append (filled t) xs in
    let b : length (filled s ++ ys) ≡ length (filled s) + length ys = length-append (filled s) ys in
    let c : length (filled t) ≡ t.count = length-take-le t.count t.records.now h in
    let d : length (filled s) ≡ s.count = length-take-le s.count s.records.now k in
    omega arith
