-- The reading's run, line by line, is its run a word at a time.
use Rattle.std.proofs.Common.{◌≡◌, ℕ, zero, suc, ◌+◌, ◌-◌, ◌<◌, ◌≤◌, Bool, true, false, ltb, List, length, Some, None, Option, sym, refl, ap, ◌∙◌, not-suc-le-zero, add-zero, add_assoc, zero-add, arith, ltb-false, ltb-true}
use Rattle.machine.specs.Machine.{Machine, Laws, Fair, Outcome, Done, Halts, Refused}
use Rattle.machine.specs.Board.{Fault, Course, behind}
use Rattle.machine.specs.Program.{Line, Item, image, line_at}
use Rattle.machine.specs.Obligation.{Keeps}
use Rattle.machine.specs.Reading.{Reading, current, spending, struck, read}
use Rattle.std.proofs.lemmas.Bool.{lt-ltb, le-ltb}
use Rattle.machine.proofs.Placed.{line_does, line-valid}
use Rattle.machine.proofs.Strokes.{stroke_fair}
use Rattle.machine.proofs.Ticks.{tick, tick_zero, tick_over, tick_spend, tick_done, tick_halts, tick_refused, read-over, read-part, read_done, read_halts, read-refused}

-- the line to execute begins at the next address, and the stored mark is not set
pub current-line : (M : Machine) (p : List (Item M)) (r : Reading M) (l : Line M) → current M p r ≡ Some l →
    (r.stored ≡ false) × (line_at M p 0 (M.at r.core) ≡ Some l)
unfolding current
current-line M p r l e = go r.stored refl e
  where
    go : (t : Bool) → r.stored ≡ t → elim t [ true ↦ None | false ↦ line_at M p 0 (M.at r.core) ] ≡ Some l →
        (r.stored ≡ false) × (line_at M p 0 (M.at r.core) ≡ Some l)
    go true k q = let z : ◌≡◌ {A = ℕ} 0 1 = cc in absurd (omega arith)
    go false k q = (k, q)

-- a reading in order: its core fits, its bus is sound, and the words spent on the line begun are fewer than the line's
pub record InOrder (M : Machine) (p : List (Item M)) (r : Reading M) : Type 0 where
  pub fits : M.Fits r.core
  pub sound : M.Sound r.bus
  pub fewer : (l : Line M) → current M p r ≡ Some l → r.u < l.cost r.core

behind-behind : {R S : Type 0} (a b : ℕ) (x : Course R S) → behind a (behind b x) ≡ behind (a + b) x
behind-behind a b x = rw (add_assoc a b x.words)

same_line : (M : Machine) (p : List (Item M)) (r : Reading M) (l : Line M) → current M p r ≡ Some l → (n : ℕ) → current M p (spending M p r n) ≡ Some l
unfolding current
same_line M p r l e n = e

module _ (M : Machine) (p : List (Item M)) where
  -- words spent before a line's last
  spends : (d m : ℕ) (r : Reading M) (l : Line M) → current M p r ≡ Some l → r.u + d < l.cost r.core →
      tick M p (d + m) r ≡ behind d (tick M p m (spending M p r (r.u + d)))
  spends zero m r l e h = rw (zero-add, add-zero, zero-add)
  spends (suc d) m r l e h =
      let k : suc d + m ≡ suc (d + m) = omega arith in
      let v : suc r.u + d ≡ r.u + suc d = omega arith in
      let w : 1 + d ≡ suc d = omega arith in
      let ih = spends d m (spending M p r (suc r.u)) l (same_line M p r l e (suc r.u)) (omega arith) in
      rw k (tick_spend M p (d + m) r l e (lt-ltb (suc r.u) (l.cost r.core) (omega arith)) ∙
      (ap (behind 1) ih ∙ (behind-behind 1 d (tick M p m (spending M p r (suc r.u + d))) ∙ rw (v, w))))

  -- a run leaves a reading that is over, over
  module _ (turns n : ℕ) (ih : (m : ℕ) (r : Reading M) → r.over ≡ true → (read M p turns m r).left.over ≡ true) (r : Reading M) (h : r.over ≡ true) where
    over-stroke : (l : Line M) → current M p r ≡ Some l → ltb (suc n) (l.cost r.core - r.u) ≡ false →
        (o : Outcome M.Core M.Bus (Fault M.Refusal)) → l.stroke r.core r.bus ≡ o → (read M p (suc turns) (suc n) r).left.over ≡ true
    over-stroke l e k (Done c b stores) q =
        ap (λ x. x.left.over) (read_done M p turns n r l e k c b stores q) ∙ ih (suc n - (l.cost r.core - r.u)) (struck M p r c b stores) h
    over-stroke l e k (Halts c) q = ap (λ x. x.left.over) (read_halts M p turns n r l e k c q) ∙ h
    over-stroke l e k (Refused f) q = ap (λ x. x.left.over) (read-refused M p turns n r l e k f q) ∙ h

    over-line : (l : Line M) → current M p r ≡ Some l → (t : Bool) → ltb (suc n) (l.cost r.core - r.u) ≡ t → (read M p (suc turns) (suc n) r).left.over ≡ true
    over-line l e true k = ap (λ x. x.left.over) (read-part M p turns n r l e k) ∙ h
    over-line l e false k = over-stroke l e k (l.stroke r.core r.bus) refl

    over-turn : (o : Option (Line M)) → current M p r ≡ o → (read M p (suc turns) (suc n) r).left.over ≡ true
    over-turn None e = ap (λ x. x.left.over) (read-over M p turns n r e)
    over-turn (Some l) e = over-line l e (ltb (suc n) (l.cost r.core - r.u)) refl

  pub stays-over : (turns n : ℕ) (r : Reading M) → r.over ≡ true → (read M p turns n r).left.over ≡ true
  unfolding read
  stays-over zero n r h = h
  stays-over (suc turns) zero r h = h
  stays-over (suc turns) (suc n) r h = over-turn turns n (stays-over turns) r h (current M p r) refl

  -- a line with suc d words yet to spend, of a budget d + suc m
  module _ (turns n d m : ℕ) (r : Reading M) (l : Line M) (e : current M p r ≡ Some l) (yet : l.cost r.core - r.u ≡ suc d) (whole : suc n ≡ d + suc m) where
    first : tick M p (suc n) r ≡ behind d (tick M p (suc m) (spending M p r (r.u + d)))
    first = rw whole (spends d (suc m) r l e (omega arith))

    full : ltb (suc n) (l.cost r.core - r.u) ≡ false
    full = le-ltb (suc n) (l.cost r.core - r.u) (omega arith)

    last : ltb (suc (r.u + d)) (l.cost r.core) ≡ false
    last = le-ltb (suc (r.u + d)) (l.cost r.core) (omega arith)

    whole-line : (o : Outcome M.Core M.Bus (Fault M.Refusal)) → l.stroke r.core r.bus ≡ o →
        ((c : M.Core) (b : M.Bus) (stores : List ℕ) → o ≡ Done c b stores → read M p turns m (struck M p r c b stores) ≡ tick M p m (struck M p r c b stores)) →
        read M p (suc turns) (suc n) r ≡ tick M p (suc n) r
    whole-line (Done c b stores) q ih =
        let rest : suc n - suc d ≡ m = omega arith in
        let r' : Reading M = struck M p r c b stores in
        let w : d + 1 ≡ suc d = omega arith in
        let t = tick_done M p m (spending M p r (r.u + d)) l (same_line M p r l e (r.u + d)) last c b stores q in
        read_done M p turns n r l e full c b stores q ∙ rw (yet, rest, first, t, behind-behind d 1 (tick M p m r'), w, ih c b stores refl)
    whole-line (Halts c) q ih =
        let w : d + 1 ≡ suc d = omega arith in
        let t = tick_halts M p m (spending M p r (r.u + d)) l (same_line M p r l e (r.u + d)) last c q in
        read_halts M p turns n r l e full c q ∙ rw (yet, first, t, w)
    whole-line (Refused f) q ih =
        let w : suc d - 1 ≡ d = omega arith in
        let t = tick_refused M p m (spending M p r (r.u + d)) l (same_line M p r l e (r.u + d)) last f q in
        read-refused M p turns n r l e full f q ∙ rw (yet, w, first, t, add-zero)

module _ (M : Machine) (L : Laws M) (p : List (Item M)) (keeps : Keeps M p) (room : length (image M p) ≤ M.limit) where
  -- a reading in order, after a line is done
  struck_in_order : (r : Reading M) → InOrder M p r → (l : Line M) → current M p r ≡ Some l → (c : M.Core) (b : M.Bus) (stores : List ℕ) →
      l.stroke r.core r.bus ≡ Done c b stores → InOrder M p (struck M p r c b stores)
  struck_in_order r i l e c b stores q =
      let at = (current-line M p r l e).1 in
      let d = line_does M p keeps room r.core l at i.fits in
      let k = stroke_fair M L l.words (M.at r.core) r.core (l.cost r.core) (l.stroke r.core) (line-valid M p keeps (M.at r.core) l at) d r.bus i.sound i.fits in
      let f : Fair M {Why = Fault M.Refusal} r.bus (Done c b stores) = rw q at k in
      record {
        fits = f.0;
        sound = f.1.sound;
        fewer = λ l' e'. omega (arith, (line_does M p keeps room c l' (current-line M p (struck M p r c b stores) l' e').1 f.0).counts);
      }

  turn : (turns n : ℕ) → ((m : ℕ) (r' : Reading M) → m ≤ turns → InOrder M p r' → read M p turns m r' ≡ tick M p m r') →
      (r : Reading M) → suc n ≤ suc turns → InOrder M p r → (o : Option (Line M)) → current M p r ≡ o → read M p (suc turns) (suc n) r ≡ tick M p (suc n) r
  turn turns n ih r h i None e = read-over M p turns n r e ∙ sym (tick_over M p n r e)
  turn turns n ih r h i (Some l) e = go (ltb (suc n) (l.cost r.core - r.u)) refl
    where
      go : (t : Bool) → ltb (suc n) (l.cost r.core - r.u) ≡ t → read M p (suc turns) (suc n) r ≡ tick M p (suc n) r
      go true k =
          let j = ltb-true (suc n) (l.cost r.core - r.u) k in
          let s = spends M p (suc n) 0 r l e (omega arith) in
          read-part M p turns n r l e k ∙ sym ((rw (add-zero (suc n)) at s) ∙ rw (tick_zero M p (spending M p r (r.u + suc n)), add-zero))
      go false k =
          let c = l.cost r.core in
          let d : ℕ = c - r.u - 1 in
          let m : ℕ = suc n - suc d in
          let j = i.fewer l e in
          let j' = ltb-false (suc n) (c - r.u) k in
          whole-line M p turns n d m r l e (omega arith) (omega arith) (l.stroke r.core r.bus) refl
          (λ c b stores q. ih m (struck M p r c b stores) (omega arith) (struck_in_order r i l e c b stores q))

  pub by_ticks : (turns n : ℕ) (r : Reading M) → n ≤ turns → InOrder M p r → read M p turns n r ≡ tick M p n r
  unfolding read tick
  by_ticks zero zero r h i = refl
  by_ticks zero (suc n) r h i = absurd (not-suc-le-zero h)
  by_ticks (suc turns) zero r h i = refl
  by_ticks (suc turns) (suc n) r h i = turn turns n (by_ticks turns) r h i (current M p r) refl
