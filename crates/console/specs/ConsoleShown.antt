-- Nothing of what a console is stands here, only the evidence that it hands over as a bus: that its meaning keeps the facts of every bus.
use Rattle.std.specs.Prelude.{◌≡◌, ℕ, zero, suc, ◌+◌, ◌%◌, ◌≤◌, cond, List, map, ◌==◌, refl}
use Rattle.std.proofs.Common.{sym, ap, ◌∙◌, arith, ne_eqb}
use Rattle.std.proofs.lemmas.Bool.{cond-false}
use Rattle.std.specs.List.{range_with_len}
use Rattle.bus.specs.Meaning.{Meaning, Place, Cell, Fixed, CharacterPort, NumberPort, InputPort, Nothing, Kind, Cells, FixedCells, CharacterPorts, NumberPorts, InputPorts, Nothings, kind, HoldsByte, AllBytes, Facts}
use Rattle.bus.specs.Shown.{byte, holds, one_kind}
use Rattle.console.specs.Rings.{at_turn, ring, from, up_to, items}
use Rattle.console.specs.Consoles.{word_start, covered, console}
use Rattle.console.specs.declared.queue.Queue.{Queue}

turns_bytes : (n : ℕ) (bytes : List ℕ) (first a count : ℕ) → AllBytes (map (at_turn n bytes first) (range_with_len a count))
turns_bytes n bytes first a zero = tt
turns_bytes n bytes first a (suc count) = (byte _, turns_bytes n bytes first (a + 1) count)

pub items_bytes : {n : ℕ} (q : Queue n) → AllBytes (items q)
unfolding ring
items_bytes {n} q = turns_bytes n q.bytes (from n q.first) 0 (up_to n q.count)

-- the kind of a covered place goes by the kind of the place
abbrev covered_kind : Kind → Kind
covered_kind Cells = Cells
covered_kind FixedCells = FixedCells
covered_kind CharacterPorts = Nothings
covered_kind NumberPorts = Nothings
covered_kind InputPorts = Nothings
covered_kind Nothings = Nothings

kind_covered : (p : Place) → kind (covered p) ≡ covered_kind (kind p)
kind_covered (Cell b) = refl
kind_covered (Fixed b) = refl
kind_covered CharacterPort = refl
kind_covered NumberPort = refl
kind_covered InputPort = refl
kind_covered Nothing = refl

covered_holds : (p : Place) → HoldsByte p → HoldsByte (covered p)
covered_holds (Cell b) h = h
covered_holds (Fixed b) h = h
covered_holds CharacterPort h = tt
covered_holds NumberPort h = tt
covered_holds InputPort h = tt
covered_holds Nothing h = tt

-- the console's ports by the word that an address lies in, and else a place
abbrev in_word : ℕ → Place → Place
in_word w p = cond (w == 0xF000) CharacterPort (cond (w == 0xF002) NumberPort (cond (w == 0xF004) InputPort p))

in_word_kind : (w : ℕ) (p q : Place) → kind p ≡ kind q → kind (in_word w p) ≡ kind (in_word w q)
in_word_kind w p q e =
    one_kind (w == 0xF000) _ _ _ _ refl (one_kind (w == 0xF002) _ _ _ _ refl (one_kind (w == 0xF004) InputPort p InputPort q refl e))

in_word_holds : (w : ℕ) (p : Place) → HoldsByte p → HoldsByte (in_word w p)
in_word_holds w p h =
    holds (w == 0xF000) CharacterPort _ tt (holds (w == 0xF002) NumberPort _ tt (holds (w == 0xF004) InputPort p tt h))

in_word_past : (w : ℕ) (p : Place) → 65536 ≤ w → in_word w p ≡ p
in_word_past w p out =
    cond-false (w == 0xF000) CharacterPort _ (ne_eqb w 0xF000 (λ e. omega arith))
    ∙ cond-false (w == 0xF002) NumberPort _ (ne_eqb w 0xF002 (λ e. omega arith))
    ∙ cond-false (w == 0xF004) InputPort p (ne_eqb w 0xF004 (λ e. omega arith))

same_word : (k : ℕ) → k % 2 ≡ 0 → word_start k ≡ word_start (k + 1)
same_word k even = omega arith

pub console_facts : (waiting sent : List ℕ) (m : Meaning) → AllBytes waiting → AllBytes sent → Facts m → Facts (console waiting sent m)
console_facts waiting sent m all-waiting all-sent below = record {
  paired = λ k even.
      in_word_kind (word_start k) (covered (m.place k)) (covered (m.place (k + 1))) (kind_covered (m.place k) ∙ ap covered_kind (below.paired k even) ∙ sym (kind_covered (m.place (k + 1))))
      ∙ ap (λ (w : ℕ). kind (in_word w (covered (m.place (k + 1))))) (same_word k even);
  ends = λ k out. in_word_past (word_start k) (covered (m.place k)) (omega arith) ∙ ap covered (below.ends k out);
  standing = λ k. in_word_holds (word_start k) (covered (m.place k)) (covered_holds (m.place k) (below.standing k));
  waiting_bytes = all-waiting;
  sent_bytes = all-sent;
}
