-- Nothing of what a card is stands here, only the evidence that it hands over as a bus: that its meaning keeps the facts of every bus.
use Rattle.std.specs.Prelude.{◌≡◌, ◌+◌, ◌%◌, ◌≤◌, min, length, nat_lt, slice_index, refl}
use Rattle.std.proofs.Common.{◌∙◌, arith, length-take-le}
use Rattle.std.proofs.Math.Nat.{min-le_right}
use Rattle.bus.specs.Meaning.{Meaning, Fixed, Facts}
use Rattle.bus.specs.Shown.{byte, holds, one_kind_below, past, whole, within, enough}
use Rattle.card.specs.Cards.{card_size, on_card, card}
use Rattle.card.specs.declared.ProgramCard.{ProgramCard}

pub length_on_card : (c : ProgramCard) → length (on_card c) ≡ card_size c
length_on_card c = length-take-le (card_size c) c.bytes (omega (arith, enough 4096 (min c.count (length c.bytes)), min-le_right c.count (length c.bytes)))

pub card_facts : (c : ProgramCard) (m : Meaning) → Facts m → Facts (card (on_card c) m)
card_facts c m below =
    let even : length (on_card c) % 2 ≡ 0 = rw length_on_card (whole 4096 (min c.count (length c.bytes)) refl) in
    let short : length (on_card c) ≤ 4096 = rw length_on_card (within 4096 (min c.count (length c.bytes))) in
    record {
      paired = λ k e. one_kind_below k (length (on_card c)) _ (m.place k) _ (m.place (k + 1)) e even refl (below.paired k e);
      ends = λ k out. past k (length (on_card c)) _ (m.place k) (omega arith) ∙ below.ends k out;
      standing = λ k. holds (nat_lt k (length (on_card c))) (Fixed (slice_index (on_card c) k % 256)) (m.place k) (byte (slice_index (on_card c) k)) (below.standing k);
      waiting_bytes = below.waiting_bytes;
      sent_bytes = below.sent_bytes;
    }
