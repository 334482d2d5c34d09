-- Lists of calls, and the agreement.
use Rattle.std.proofs.Common.{◌≡◌, ℕ, zero, suc, ◌<◌, ◌≤◌, Bool, true, false, List, [], ◌∷◌, ◌++◌, length, Ok, Err, Result, sym, refl, ap, ◌∙◌, subst, ap₂, le_refl, arith}
use Rattle.std.specs.List.{list_any}
use Rattle.machine.specs.Machine.{Machine, Laws}
use Rattle.machine.specs.Board.{End, Spent, asked, unless, Board, started, execute}
use Rattle.machine.specs.Program.{Item, image}
use Rattle.machine.specs.Obligation.{Keeps}
use Rattle.machine.specs.Reading.{Reading, opened, current, read}
use Rattle.machine.specs.Calls.{Call, Run, Give, Take, Answer, Ran, Reply, told, gave, took, board_on, reading_on, board_call, reading_call, calls, answer_unfetched}
use Rattle.machine.specs.Agreement.{Ends, Follows, Agreement}
use Rattle.machine.proofs.Facts.{true≢false}
use Rattle.machine.proofs.Placed.{LinesStand, lines_stand}
use Rattle.machine.proofs.ByTicks.{by_ticks, stays-over}
use Rattle.machine.proofs.OneRun.{Rel, Post, fresh, in_step, in_order, at_rest}

-- the run that ends the reading, seen from its two answers
record Last (M : Machine) (c : Call) (t s : Answer M.Refusal M.Denial) : Type 0 where
  budget : ℕ
  spent : ℕ
  executed : ℕ
  end : End M.Refusal
  is_run : c ≡ Run budget
  some_budget : 0 < budget
  reads : t ≡ Ran spent Spent
  runs : s ≡ Ran executed end
  least : spent ≤ executed

-- a call's reply on either side, where the reading was not over before
record Both (M : Machine) (p : List (Item M)) (c : Call) (t : Reply M.Refusal M.Denial (Reading M)) (s : Reply M.Refusal M.Denial (Board M)) : Type 0 where
  answer : t.left.over ≡ false → t.answer ≡ s.answer
  fetched : t.left.over ≡ false → answer_unfetched s.answer ≡ false
  rel : t.left.over ≡ false → Rel M p t.left s.left
  last : t.left.over ≡ true → Last M c t.answer s.answer

-- the calls of two lists, one after the other
module _ {R D S : Type 0} (f : Call → S → Reply R D S) where
  left-append : (cs ds : List Call) (s : S) → (calls f (cs ++ ds) s).left ≡ (calls f ds (calls f cs s).left).left
  left-append [] ds s = refl
  left-append (c ∷ cs) ds s = left-append cs ds (f c s).left

  answers-append : (cs ds : List Call) (s : S) → (calls f (cs ++ ds) s).answers ≡ (calls f cs s).answers ++ (calls f ds (calls f cs s).left).answers
  answers-append [] ds s = refl
  answers-append (c ∷ cs) ds s = ap (λ xs. (f c s).answer ∷ xs) (answers-append cs ds (f c s).left)

-- a call leaves a reading that is over, over
module _ (M : Machine) (p : List (Item M)) where
  stays : (c : Call) (r : Reading M) → r.over ≡ true → (reading_call M p c r).left.over ≡ true
  unfolding reading_call
  stays (Run n) r e = go r.halted
    where
      go : (h : Bool) → (unless (asked false h) r (read M p n n r)).left.over ≡ true
      go true = e
      go false = stays-over M p n n r e
  stays (Give v) r e = go (M.give r.bus v)
    where
      go : (o : Result (Unit {0} × M.Bus) M.Denial) → (gave {Refusal = M.Refusal} r (reading_on M r) o).left.over ≡ true
      go (Ok x) = e
      go (Err why) = e
  stays Take r e = go (M.take r.bus)
    where
      go : (o : Result (ℕ × M.Bus) M.Denial) → (took {Refusal = M.Refusal} r (reading_on M r) o).left.over ≡ true
      go (Ok x) = e
      go (Err why) = e

  stay : (cs : List Call) (r : Reading M) → r.over ≡ true → (calls (reading_call M p) cs r).left.over ≡ true
  stay [] r e = e
  stay (c ∷ cs) r e = stay cs (reading_call M p c r).left (stays c r e)

module _ (M : Machine) (L : Laws M) (p : List (Item M)) (keeps : Keeps M p) (room : length (image M p) ≤ M.limit) where
  runs : (n : ℕ) (r : Reading M) (b : Board M) → r.over ≡ false → Rel M p r b → Post M p (read M p n n r) (execute M n b)
  runs n r b on h = rw (by_ticks M L p keeps room n n r (le_refl n) (in_order M p r b h)) (in_step M L p keeps room n r b on h)

  -- a run without budget does not end the reading
  budget : (n : ℕ) (r : Reading M) → r.over ≡ false → (read M p n n r).left.over ≡ true → 0 < n
  unfolding read
  budget zero r on k = absurd (true≢false (sym k ∙ on))
  budget (suc n) r on k = omega arith

  -- the bus alone changes
  other : (r : Reading M) (b : Board M) → Rel M p r b → (x : M.Bus) → M.Sound x → (LinesStand M p r.bus → LinesStand M p x) →
      Rel M p (reading_on M r x) (board_on M b x)
  unfolding current
  other r b h x s st =
      record {
        bus = refl;
        held = h.held;
        halted = h.halted;
        fits = h.fits;
        sound = s;
        stands = λ z. st (h.stands z);
        line = λ l e. record { fewer = (h.line l e).fewer; mid = (h.line l e).mid };
        none = h.none;
      }

  call : (c : Call) (r : Reading M) (b : Board M) → r.over ≡ false → Rel M p r b → Both M p c (reading_call M p c r) (board_call M c b)
  unfolding reading_call board_call
  call (Run n) r b on rel =
      subst (λ t. Both M p (Run n) (told (unless (asked false r.halted) r (read M p n n r))) (told (unless (asked b.held t) b (execute M n b)))) (sym rel.halted)
      (subst (λ t. Both M p (Run n) (told (unless (asked false r.halted) r (read M p n n r))) (told (unless (asked t r.halted) b (execute M n b)))) (sym rel.held)
      (go r.halted))
    where
      go : (h : Bool) → Both M p (Run n) (told (unless (asked false h) r (read M p n n r))) (told (unless (asked false h) b (execute M n b)))
      go true = record { answer = λ _. refl; fetched = λ _. refl; rel = λ _. rel; last = λ k. absurd (true≢false (sym k ∙ on)) }
      go false =
          let h = runs n r b on rel in
          record {
            answer = λ e. ap₂ Ran (h.words e) (h.end e);
            fetched = h.fetched;
            rel = h.rel;
            last = λ k. record {
              budget = n;
              spent = (read M p n n r).words;
              executed = (execute M n b).words;
              end = (execute M n b).end;
              is_run = refl;
              some_budget = budget n r on k;
              reads = ap (Ran (read M p n n r).words) (h.over k);
              runs = refl;
              least = h.least;
            };
          }
  call (Give v) r b on rel =
      subst (λ t. Both M p (Give v) (gave r (reading_on M r) (M.give r.bus v)) (gave b (board_on M b) (M.give t v))) (sym rel.bus) (go (M.give r.bus v) refl)
    where
      go : (o : Result (Unit {0} × M.Bus) M.Denial) → M.give r.bus v ≡ o → Both M p (Give v) (gave r (reading_on M r) o) (gave b (board_on M b) o)
      go (Err why) q = record { answer = λ _. refl; fetched = λ _. refl; rel = λ _. rel; last = λ k. absurd (true≢false (sym k ∙ on)) }
      go (Ok x) q =
          let s = L.given r.bus v x rel.sound q in
          record { answer = λ _. refl; fetched = λ _. refl; rel = λ _. other r b rel x.1 s.sound (λ st y i. s.same y refl ∙ st y i); last = λ k. absurd (true≢false (sym k ∙ on)) }
  call Take r b on rel =
      subst (λ t. Both M p Take (took r (reading_on M r) (M.take r.bus)) (took b (board_on M b) (M.take t))) (sym rel.bus) (go (M.take r.bus) refl)
    where
      go : (o : Result (ℕ × M.Bus) M.Denial) → M.take r.bus ≡ o → Both M p Take (took r (reading_on M r) o) (took b (board_on M b) o)
      go (Err why) q = record { answer = λ _. refl; fetched = λ _. refl; rel = λ _. rel; last = λ k. absurd (true≢false (sym k ∙ on)) }
      go (Ok x) q =
          let s = L.taken r.bus x rel.sound q in
          record { answer = λ _. refl; fetched = λ _. refl; rel = λ _. other r b rel x.1 s.sound (λ st y i. s.same y refl ∙ st y i); last = λ k. absurd (true≢false (sym k ∙ on)) }

  -- every list of calls, while the reading is not over
  abbrev Together : List Call → Reading M → Board M → Type 0
  Together cs r b =
      ((calls (reading_call M p) cs r).answers ≡ (calls (board_call M) cs b).answers) × (list_any answer_unfetched (calls (board_call M) cs b).answers ≡ false) ×
      Rel M p (calls (reading_call M p) cs r).left (calls (board_call M) cs b).left

  in_agreement : (cs : List Call) (r : Reading M) (b : Board M) → r.over ≡ false → Rel M p r b → (calls (reading_call M p) cs r).left.over ≡ false → Together cs r b
  in_agreement [] r b on rel e = (refl, refl, rel)
  in_agreement (c ∷ cs) r b on rel e = go (λ k x. in_agreement cs (reading_call M p c r).left (board_call M c b).left k x e) (reading_call M p c r).left.over refl
    where
      go : ((reading_call M p c r).left.over ≡ false → Rel M p (reading_call M p c r).left (board_call M c b).left → Together cs (reading_call M p c r).left (board_call M c b).left) →
          (t : Bool) → (reading_call M p c r).left.over ≡ t → Together (c ∷ cs) r b
      go ih true k = absurd (true≢false (sym (stay M p cs (reading_call M p c r).left k) ∙ e))
      go ih false k =
          let h = call c r b on rel in
          let i = ih k (h.rel k) in
          (ap₂ ◌∷◌ (h.answer k) i.0, rw (h.fetched k, list_any) i.1, i.2)

  follows : (r : Reading M) (b : Board M) → r.over ≡ false → Rel M p r b → Follows M (λ cs. calls (reading_call M p) cs r) (λ cs. calls (board_call M) cs b)
  follows r b on rel =
      record {
        agree = λ cs e. (let h = in_agreement cs r b on rel e in
            record {
              answers = h.0;
              fetched = h.1;
              bus = sym h.2.bus;
              halted = sym h.2.halted;
              core = at_rest M p (calls (reading_call M p) cs r).left (calls (board_call M) cs b).left h.2;
            });
        ends = ends;
        stays = λ cs more e. ap (λ x. x.over) (left-append (reading_call M p) cs more r) ∙ stay M p more (calls (reading_call M p) cs r).left e;
      }
    where
      ends : (cs : List Call) (c : Call) → (calls (reading_call M p) cs r).left.over ≡ false → (calls (reading_call M p) (cs ++ (c ∷ [])) r).left.over ≡ true →
          Ends M c (calls (reading_call M p) cs r) (calls (reading_call M p) (cs ++ (c ∷ [])) r) (calls (board_call M) cs b) (calls (board_call M) (cs ++ (c ∷ [])) b)
      ends cs c e k =
          let h = (in_agreement cs r b on rel e).2 in
          let l = (call c (calls (reading_call M p) cs r).left (calls (board_call M) cs b).left e h).last (sym (ap (λ x. x.over) (left-append (reading_call M p) cs (c ∷ []) r)) ∙ k) in
          record {
            budget = l.budget;
            spent = l.spent;
            executed = l.executed;
            end = l.end;
            is_run = l.is_run;
            some_budget = l.some_budget;
            least = l.least;
            reads = answers-append (reading_call M p) cs (c ∷ []) r ∙ ap (λ a. (calls (reading_call M p) cs r).answers ++ (a ∷ [])) l.reads;
            runs = answers-append (board_call M) cs (c ∷ []) b ∙ ap (λ a. (calls (board_call M) cs b).answers ++ (a ∷ [])) l.runs;
          }

-- the agreement, of every machine that keeps its laws
pub agreement : (M : Machine) → Laws M → Agreement M
agreement M L p keeps room c b fits sound stands =
    follows M L p keeps room (opened M c b) (started M c b) refl
    (fresh M L p keeps room (opened M c b) (started M c b) refl refl refl refl refl fits sound (λ _. lines_stand M p b stands))
