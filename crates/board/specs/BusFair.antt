-- Nothing of what a bus is stands here, only the evidence that its calls keep the facts of every bus, and change no byte that peek shows
-- but those stored.
use Rattle.std.proofs.Common.{◌≡◌, ℕ, ◌+◌, ◌*◌, ◌-◌, ◌%◌, ◌<◌, ◌≤◌, Bool, true, false, cond, eqb, ltb, leb, List, [], ◌∷◌, ◌++◌, length, Ok, Err, refl, sym, ◌∙◌, ap, suc, arith, eqb-true, ltb-true}
use Rattle.std.specs.Prelude.{decimal, nat_eq}
use Rattle.std.specs.Str.{IsAscii}
use Rattle.std.proofs.lemmas.Bool.{cond_both, cond-false}
use Rattle.std.proofs.lemmas.Fmt.{IsAscii-decimal}
use Rattle.bus.specs.Meaning.{Place, Cell, Fixed, CharacterPort, NumberPort, InputPort, Nothing, Meaning, Cells, Nothings, kind, HoldsByte, AllBytes, Facts}
use Rattle.bus.specs.Calls.{OnBus, ask, Width, Byte, Word, Way, ToLoad, ToStore, aligned, wide, goes, questions, with_place, with_waiting, with_sent, seen, byte_of, load_byte, receive, input, word_from, load_word, store_byte, low_byte, high_byte, number_text, send, write_word, character, numeric, word_to, store_word, give, take_from, take}
use Rattle.bus.specs.declared.faults.BusFault.{BusFault}
use Rattle.bus.specs.declared.faults.BusFault.TheVariants.{NoRoom, WaitingFull}
use Rattle.machine.specs.Machine.{Shows}
use Rattle.machine.proofs.Facts.{any_not, true≢false}
use Rattle.board.specs.Viking.{viking}

-- a load leaves a value below a bound, and changes no byte that is shown
abbrev pub LoadFair : Meaning → ℕ → OnBus ℕ → Type 0
LoadFair m most (Ok p) = (p.0 < most) × Shows viking m p.1 []
LoadFair m most (Err f) = Unit {0}

-- a call that stores at these addresses changes no other byte that is shown
abbrev pub StoreFair : {V : Type 0} → Meaning → List ℕ → OnBus V → Type 0
StoreFair m stores (Ok p) = Shows viking m p.1 stores
StoreFair m stores (Err f) = Unit {0}

-- what holds of every refusal, and of what is further where the answers are yes, holds of a call
asked : {V : Type 0} (P : OnBus V → Type 0) (t : Bool) (f : BusFault) (further : OnBus V) → (t ≡ true → P further) → P (Err f) → P (ask t f further)
asked P true f further goes_on refused = goes_on refl
asked P false f further goes_on refused = refused

through : {V : Type 0} (P : OnBus V → Type 0) (width : Width) (way : Way) (m : Meaning) (a : ℕ) (further : OnBus V) → ((f : BusFault) → P (Err f))
    → (aligned width a ≡ true → wide width (m.place a) ≡ true → goes way (m.place a) ≡ true → P further) → P (questions width way m a further)
through P width way m a further refused goes_on =
    asked P _ _ _ (λ even. asked P _ _ _ (λ there. asked P _ _ _ (λ fits. asked P _ _ _ (λ right. goes_on even fits right) (refused _)) (refused _)) (refused _)) (refused _)

-- bytes
byte_small : (p : Place) → HoldsByte p → byte_of p < 256
byte_small (Cell b) h = h
byte_small (Fixed b) h = h
byte_small CharacterPort h = omega arith
byte_small NumberPort h = omega arith
byte_small InputPort h = omega arith
byte_small Nothing h = omega arith

more_bytes : (xs ys : List ℕ) → AllBytes xs → AllBytes ys → AllBytes (xs ++ ys)
more_bytes [] ys h k = k
more_bytes (x ∷ xs) ys h k = (h.0, more_bytes xs ys h.1 k)

-- the same bus
stays : (m : Meaning) → Facts m → Shows viking m m []
stays m h = record { sound = h; same = λ x _. refl }

-- other bytes waiting or sent
waits : (m : Meaning) (bytes : List ℕ) → Facts m → AllBytes bytes → (stores : List ℕ) → Shows viking m (with_waiting m bytes) stores
waits m bytes h k stores = record {
  sound = record { paired = h.paired; ends = h.ends; standing = h.standing; waiting_bytes = k; sent_bytes = h.sent_bytes };
  same = λ x _. refl;
}

sends : (m : Meaning) (bytes : List ℕ) → Facts m → AllBytes bytes → (stores : List ℕ) → Shows viking m (with_sent m bytes) stores
sends m bytes h k stores = record {
  sound = record { paired = h.paired; ends = h.ends; standing = h.standing; waiting_bytes = h.waiting_bytes; sent_bytes = k };
  same = λ x _. refl;
}

-- loads
pub load_byte_fair : (m : Meaning) (a : ℕ) → Facts m → LoadFair m 256 (load_byte m a)
load_byte_fair m a h = through (LoadFair m 256) Byte ToLoad m a _ (λ f. tt) (λ _ _ _. (byte_small (m.place a) (h.standing a), stays m h))

received : (m : Meaning) (bytes : List ℕ) → Facts m → AllBytes bytes → LoadFair m 65536 (receive m bytes)
received m [] h k = tt
received m (oldest ∷ others) h k = let small = k.0 in (omega arith, waits m others h k.1 [])

pub load_word_fair : (m : Meaning) (a : ℕ) → Facts m → LoadFair m 65536 (load_word m a)
load_word_fair m a h = through (LoadFair m 65536) Word ToLoad m a (word_from m a) (λ f. tt) (λ _ _ _. from (input (m.place a)))
  where
    from : (t : Bool) → LoadFair m 65536 (cond t (receive m m.waiting) (Ok (256 * byte_of (m.place a) + byte_of (m.place (a + 1)), m)))
    from true = received m m.waiting h h.waiting_bytes
    from false = (omega (arith, byte_small (m.place a) (h.standing a), byte_small (m.place (a + 1)) (h.standing (a + 1))), stays m h)

-- a place that takes a byte is a cell, and one that takes a word and is no port is too
takes_byte : (p : Place) → wide Byte p ≡ true → goes ToStore p ≡ true → kind p ≡ Cells
takes_byte (Cell b) w g = refl
takes_byte (Fixed b) w g = absurd (true≢false (sym g))
takes_byte CharacterPort w g = absurd (true≢false (sym w))
takes_byte NumberPort w g = absurd (true≢false (sym w))
takes_byte InputPort w g = absurd (true≢false (sym g))
takes_byte Nothing w g = absurd (true≢false (sym g))

takes_word : (p : Place) → goes ToStore p ≡ true → character p ≡ false → numeric p ≡ false → kind p ≡ Cells
takes_word (Cell b) g c n = refl
takes_word (Fixed b) g c n = absurd (true≢false (sym g))
takes_word CharacterPort g c n = absurd (true≢false c)
takes_word NumberPort g c n = absurd (true≢false n)
takes_word InputPort g c n = absurd (true≢false (sym g))
takes_word Nothing g c n = absurd (true≢false (sym g))

-- another byte in a cell
module _ (m : Meaning) (a b : ℕ) (cell : kind (m.place a) ≡ Cells) where
  same_kind : (k : ℕ) → kind ((with_place m a (Cell b)).place k) ≡ kind (m.place k)
  same_kind k = go (eqb k a) refl
    where
      go : (t : Bool) → eqb k a ≡ t → kind (cond t (Cell b) (m.place k)) ≡ kind (m.place k)
      go true e = sym (ap (λ x. kind (m.place x)) (eqb-true k a e) ∙ cell)
      go false e = refl

  other_place : (k : ℕ) → eqb k a ≡ false → (with_place m a (Cell b)).place k ≡ m.place k
  other_place k e = cond-false (eqb k a) (Cell b) (m.place k) e

  keeps_facts : b < 256 → Facts m → Facts (with_place m a (Cell b))
  keeps_facts small h = record {
    paired = λ k even. same_kind k ∙ h.paired k even ∙ sym (same_kind (k + 1));
    ends = λ k out. (λ (e : m.place k ≡ Nothing). off k e (eqb k a) refl) (h.ends k out);
    standing = λ k. cond_both (eqb k a) (Cell b) (m.place k) HoldsByte (λ _. small) (λ _. h.standing k);
    waiting_bytes = h.waiting_bytes;
    sent_bytes = h.sent_bytes;
  }
    where
      off : (k : ℕ) → m.place k ≡ Nothing → (t : Bool) → eqb k a ≡ t → cond t (Cell b) (m.place k) ≡ Nothing
      off k e true q =
          let c : Nothings ≡ Cells = ap kind (sym e) ∙ ap (λ x. kind (m.place x)) (eqb-true k a q) ∙ cell in
          absurd (let z : ◌≡◌ {A = ℕ} 0 1 = cc in omega arith)
      off k e false q = e

-- stores
pub store_byte_fair : (m : Meaning) (a b : ℕ) → b < 256 → Facts m → StoreFair m (a ∷ []) (store_byte m a b)
store_byte_fair m a b small h =
    through (StoreFair m (a ∷ [])) Byte ToStore m a _ (λ f. tt)
    (λ _ wide right. (let cell = takes_byte (m.place a) wide right in record {
      sound = keeps_facts m a b cell small h;
      same = λ x e. ap seen (other_place m a b cell x (any_not (nat_eq x) a [] e).0);
    }))

ascii_bytes : (xs : List ℕ) → IsAscii xs → AllBytes xs
ascii_bytes [] h = tt
ascii_bytes (x ∷ xs) h = (omega (arith, h 0), ascii_bytes xs (λ i. h (suc i)))

decimal_bytes : (n : ℕ) → n ≤ 65536 → AllBytes (decimal n)
decimal_bytes n h = ascii_bytes (decimal n) (IsAscii-decimal n (omega arith))

number_bytes : (v : ℕ) → AllBytes (number_text v)
number_bytes v =
    cond_both (ltb v 32768) (decimal v) (45 ∷ decimal (65536 - v)) AllBytes
    (λ e. decimal_bytes v (omega (arith, ltb-true v 32768 e)))
    (λ e. (omega arith, decimal_bytes (65536 - v) (omega arith)))

sent_fair : (m : Meaning) (text stores : List ℕ) → Facts m → AllBytes text → StoreFair m stores (send m text)
sent_fair m text stores h k =
    asked {V = Unit {0}} (StoreFair m stores) (leb (length m.sent + length text) m.most_sent) NoRoom (Ok (tt, with_sent m (m.sent ++ text)))
    (λ _. sends m (m.sent ++ text) h (more_bytes m.sent text h.sent_bytes k) stores) tt

written : (m : Meaning) (a v : ℕ) → v < 65536 → kind (m.place a) ≡ Cells → kind (m.place (a + 1)) ≡ Cells → Facts m
    → Shows viking m (write_word m a v) (a ∷ (a + 1) ∷ [])
written m a v small c d h =
    let first : Meaning = with_place m a (Cell (high_byte v)) in
    let e : kind (first.place (a + 1)) ≡ Cells = same_kind m a (high_byte v) c (a + 1) ∙ d in
    record {
      sound = keeps_facts first (a + 1) (low_byte v) e (omega arith) (keeps_facts m a (high_byte v) c (omega arith) h);
      same = λ x n. (let one = any_not (nat_eq x) a ((a + 1) ∷ []) n in let two = any_not (nat_eq x) (a + 1) [] one.1 in
          ap seen (other_place first (a + 1) (low_byte v) e x two.0 ∙ other_place m a (high_byte v) c x one.0));
    }

pub store_word_fair : (m : Meaning) (a v : ℕ) → v < 65536 → Facts m → StoreFair m (a ∷ (a + 1) ∷ []) (store_word m a v)
store_word_fair m a v small h =
    through (StoreFair m (a ∷ (a + 1) ∷ [])) Word ToStore m a (word_to m a v) (λ f. tt)
    (λ even _ right. to (eqb-true (a % 2) 0 even) right (character (m.place a)) refl (numeric (m.place a)) refl)
  where
    to : a % 2 ≡ 0 → goes ToStore (m.place a) ≡ true → (s : Bool) → character (m.place a) ≡ s → (t : Bool) → numeric (m.place a) ≡ t
        → StoreFair m (a ∷ (a + 1) ∷ []) (cond s (send m (low_byte v ∷ [])) (cond t (send m (number_text v)) (Ok (tt, write_word m a v))))
    to even right true c t n = sent_fair m (low_byte v ∷ []) (a ∷ (a + 1) ∷ []) h (omega arith, tt)
    to even right false c true n = sent_fair m (number_text v) (a ∷ (a + 1) ∷ []) h (number_bytes v)
    to even right false c false n =
        let cell = takes_word (m.place a) right c n in written m a v small cell (sym (h.paired a even) ∙ cell) h

-- give and take
pub give_fair : (m : Meaning) (b : ℕ) → b < 256 → Facts m → StoreFair m [] (give m b)
give_fair m b small h =
    asked {V = Unit {0}} (StoreFair m []) (ltb (length m.waiting) m.most_waiting) WaitingFull (Ok (tt, with_waiting m (m.waiting ++ (b ∷ []))))
    (λ _. waits m (m.waiting ++ (b ∷ [])) h (more_bytes m.waiting (b ∷ []) h.waiting_bytes (small, tt)) []) tt

taken : (m : Meaning) (bytes : List ℕ) → Facts m → AllBytes bytes → StoreFair m [] (take_from m bytes)
taken m [] h k = tt
taken m (oldest ∷ others) h k = sends m others h k.1 []

pub take_fair : (m : Meaning) → Facts m → StoreFair m [] (take m)
take_fair m h = taken m m.sent h h.sent_bytes
