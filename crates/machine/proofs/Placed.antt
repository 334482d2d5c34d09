-- A program in its place: where its lines and words stand, what the board fetches there, and that it stays so.
use Rattle.std.proofs.Common.{◌≡◌, ℕ, suc, ◌+◌, ◌*◌, ◌<◌, ◌≤◌, Bool, true, false, eqb, ltb, leb, List, [], ◌∷◌, ◌++◌, length, get_or, Some, Ok, sym, refl, ap, ◌∙◌, subst, add_assoc, zero-add, arith, length-append, ltb-true, eqb-true}
use Rattle.std.specs.List.{list_any}
use lib.ListN.{get_or-append}
use Rattle.machine.specs.Machine.{Machine, Laws, outcome, Shows}
use Rattle.machine.specs.Board.{fetch, step, placed}
use Rattle.machine.specs.Program.{Line, Item, Code, Data, bytes, image, line_at, within, in_line, Stands}
use Rattle.machine.specs.Obligation.{word_at, Does, AllValid, Owes, Keeps}
use Rattle.machine.proofs.Facts.{true≢false, any_apart}
use Rattle.std.proofs.lemmas.Bool.{le-leb, lt-ltb, le-ltb}
use Rattle.machine.proofs.Inside.{valid-at}

-- the bytes of the instruction lines stand where the program has them
abbrev pub LinesStand : (M : Machine) → List (Item M) → M.Bus → Type 0
LinesStand M p b = (x : ℕ) → in_line M p 0 x ≡ true → M.peek b x ≡ Some (get_or (image M p) x 0)

get_d_past : (xs ys : List ℕ) (j : ℕ) → get_or (xs ++ ys) (length xs + j) 0 ≡ get_or ys j 0
get_d_past [] ys j = rw zero-add refl
get_d_past (x ∷ xs) ys j = let k : suc (length xs) + j ≡ suc (length xs + j) = omega arith in rw k (get_d_past xs ys j)

within_yes : (a n x : ℕ) → a ≤ x → x < a + n → within a n x ≡ true
within_yes a n x h k = rw (le-leb a x h, within) (lt-ltb x (a + n) k)

within_no : (a n x : ℕ) → a + n ≤ x → within a n x ≡ false
within_no a n x h = rw (le-leb a x (omega arith), within) (le-ltb x (a + n) h)

within_above : (a n x : ℕ) → within a n x ≡ true → x < a + n
within_above a n x h = go (leb a x) h
  where
    go : (t : Bool) → elim t [ true ↦ ltb x (a + n) | false ↦ false ] ≡ true → x < a + n
    go true q = ltb-true x (a + n) q
    go false q = absurd (true≢false (sym q))

pub bytes-length : (M : Machine) (ws : List M.Word) → length (bytes M ws) ≡ 2 * length ws
bytes-length M [] = refl
bytes-length M (w ∷ ws) = omega (arith, bytes-length M ws)

module _ (M : Machine) where
  -- where a word of a list of words stands
  word_bytes : (ws : List M.Word) (a x : ℕ) (w : M.Word) → word_at ws a x ≡ Some w →
      (d : ℕ) × (x ≡ a + d) × (suc d < length (bytes M ws)) × (get_or (bytes M ws) d 0 ≡ M.high w) × (get_or (bytes M ws) (suc d) 0 ≡ M.low w)
  word_bytes [] a x w e = let z : ◌≡◌ {A = ℕ} 0 1 = cc in absurd (omega arith)
  word_bytes (v ∷ ws) a x w e = go (eqb x a) refl e (word_bytes ws (a + 2) x w)
    where
      go : (t : Bool) → eqb x a ≡ t → elim t [ true ↦ Some v | false ↦ word_at ws (a + 2) x ] ≡ Some w →
          (word_at ws (a + 2) x ≡ Some w → (d : ℕ) × (x ≡ a + 2 + d) × (suc d < length (bytes M ws)) × (get_or (bytes M ws) d 0 ≡ M.high w) × (get_or (bytes M ws) (suc d) 0 ≡ M.low w)) →
          (d : ℕ) × (x ≡ a + d) × (suc d < length (bytes M (v ∷ ws))) × (get_or (bytes M (v ∷ ws)) d 0 ≡ M.high w) × (get_or (bytes M (v ∷ ws)) (suc d) 0 ≡ M.low w)
      go true p q ih = (0, omega (arith, eqb-true x a p), omega arith, cc, cc)
      go false p q ih = let h = ih q in (suc (suc h.0), omega arith, omega arith, h.3, h.4)

  -- where a line stands
  line-bytes : (p : List (Item M)) (o a : ℕ) (l : Line M) → line_at M p o a ≡ Some l →
      (d : ℕ) × (a ≡ o + d) × ((j : ℕ) → j < length (bytes M l.words) →
      (in_line M p o (a + j) ≡ true) × (get_or (image M p) (d + j) 0 ≡ get_or (bytes M l.words) j 0))
  unfolding line_at in_line
  line-bytes [] o a l e = let z : ◌≡◌ {A = ℕ} 0 1 = cc in absurd (omega arith)
  line-bytes (Data bs ∷ p) o a l e =
      let h = line-bytes p (o + length bs) a l e in
      (length bs + h.0, omega (arith, h.1), λ j k. ((h.2 j k).0, rw (add_assoc, get_d_past) (h.2 j k).1))
  line-bytes (Code v ∷ p) o a l e = go (eqb a o) refl e (line-bytes p (o + length (bytes M v.words)) a l)
    where
      go : (t : Bool) → eqb a o ≡ t → elim t [ true ↦ Some v | false ↦ line_at M p (o + length (bytes M v.words)) a ] ≡ Some l →
          (line_at M p (o + length (bytes M v.words)) a ≡ Some l → (d : ℕ) × (a ≡ o + length (bytes M v.words) + d) × ((j : ℕ) → j < length (bytes M l.words) →
          (in_line M p (o + length (bytes M v.words)) (a + j) ≡ true) × (get_or (image M p) (d + j) 0 ≡ get_or (bytes M l.words) j 0))) →
          (d : ℕ) × (a ≡ o + d) × ((j : ℕ) → j < length (bytes M l.words) →
          (in_line M (Code v ∷ p) o (a + j) ≡ true) × (get_or (image M (Code v ∷ p)) (d + j) 0 ≡ get_or (bytes M l.words) j 0))
      go true t q ih =
          let v≡l : v ≡ l = cc in
          let sz : length (bytes M v.words) ≡ length (bytes M l.words) = cc in
          let a≡o = eqb-true a o t in (
            0,
            omega arith,
            λ j k. (
              rw (within_yes o (length (bytes M v.words)) (a + j) (omega arith) (omega arith), in_line),
              rw (zero-add, get_or-append (bytes M v.words) (image M p) 0 j (omega arith), v≡l),
            ),
          )
      go false t q ih =
          let h = ih q in (
            length (bytes M v.words) + h.0,
            omega (arith, h.1),
            λ j k.
                (rw (within_no o (length (bytes M v.words)) (a + j) (omega (arith, h.1)), in_line) (h.2 j k).0, rw (add_assoc, get_d_past) (h.2 j k).1),
          )

  -- a line lies within the image
  line-room : (p : List (Item M)) (o a : ℕ) (l : Line M) → line_at M p o a ≡ Some l → a + length (bytes M l.words) ≤ o + length (image M p)
  unfolding line_at
  line-room [] o a l e = let z : ◌≡◌ {A = ℕ} 0 1 = cc in absurd (omega arith)
  line-room (Data bs ∷ p) o a l e = omega (arith, line-room p (o + length bs) a l e, length-append bs (image M p))
  line-room (Code v ∷ p) o a l e = go (eqb a o) refl e (line-room p (o + length (bytes M v.words)) a l)
    where
      go : (t : Bool) → eqb a o ≡ t → elim t [ true ↦ Some v | false ↦ line_at M p (o + length (bytes M v.words)) a ] ≡ Some l →
          (line_at M p (o + length (bytes M v.words)) a ≡ Some l → a + length (bytes M l.words) ≤ o + length (bytes M v.words) + length (image M p)) →
          a + length (bytes M l.words) ≤ o + length (image M (Code v ∷ p))
      go true t q ih =
          let sz : length (bytes M v.words) ≡ length (bytes M l.words) = cc in
          omega (arith, eqb-true a o t, length-append (bytes M v.words) (image M p))
      go false t q ih = omega (arith, ih q, length-append (bytes M v.words) (image M p))

  -- a byte of an instruction line is one of the image
  in_image : (p : List (Item M)) (o x : ℕ) → in_line M p o x ≡ true → x < o + length (image M p)
  unfolding in_line
  in_image [] o x e = absurd (true≢false (sym e))
  in_image (Data bs ∷ p) o x e = omega (arith, in_image p (o + length bs) x e, length-append bs (image M p))
  in_image (Code l ∷ p) o x e = go (in_image p (o + length (bytes M l.words)) x) (within o (length (bytes M l.words)) x) refl e
    where
      go : (in_line M p (o + length (bytes M l.words)) x ≡ true → x < o + length (bytes M l.words) + length (image M p)) → (t : Bool) →
          within o (length (bytes M l.words)) x ≡ t → elim t [ true ↦ true | false ↦ in_line M p (o + length (bytes M l.words)) x ] ≡ true → x < o + length (image M (Code l ∷ p))
      go ih true h q = omega (arith, within_above o (length (bytes M l.words)) x h, length-append (bytes M l.words) (image M p))
      go ih false h q = omega (arith, ih q, length-append (bytes M l.words) (image M p))

  -- where the image stands, the instruction lines do
  pub lines_stand : (p : List (Item M)) (b : M.Bus) → Stands M p b → LinesStand M p b
  lines_stand p b st x i = st x (omega (arith, in_image p 0 x i))

  -- a line found in a program keeps what it owes
  owed : (p : List (Item M)) → Keeps M p → (o a : ℕ) (l : Line M) → line_at M p o a ≡ Some l → Owes M l
  unfolding line_at
  owed [] k o a l e = let z : ◌≡◌ {A = ℕ} 0 1 = cc in absurd (omega arith)
  owed (Data bs ∷ p) k o a l e = owed p k (o + length bs) a l e
  owed (Code v ∷ p) k o a l e = go (eqb a o) (owed p k.1 (o + length (bytes M v.words)) a l) e
    where
      go : (t : Bool) → (line_at M p (o + length (bytes M v.words)) a ≡ Some l → Owes M l) →
          elim t [ true ↦ Some v | false ↦ line_at M p (o + length (bytes M v.words)) a ] ≡ Some l → Owes M l
      go true ih q = let y : v ≡ l = cc in subst (λ x. Owes M x) y k.0
      go false ih q = ih q

  -- so that it does its stroke where it stands
  pub line_does : (p : List (Item M)) → Keeps M p → length (image M p) ≤ M.limit → (c : M.Core) (l : Line M) → line_at M p 0 (M.at c) ≡ Some l → M.Fits c →
      Does M l.words (M.at c) c (l.cost c) (l.stroke c)
  line_does p k room c l e g = (owed p k 0 (M.at c) l e).does c g (omega (arith, line-room p 0 (M.at c) l e, bytes-length M l.words))

  pub line-valid : (p : List (Item M)) → Keeps M p → (a : ℕ) (l : Line M) → line_at M p 0 a ≡ Some l → AllValid M l.words
  line-valid p k a l e = (owed p k 0 a l e).valid

  -- a word of a line that stands is fetched
  fetches : (L : Laws M) (p : List (Item M)) (b : M.Bus) → LinesStand M p b → (a x : ℕ) (l : Line M) (w : M.Word) → line_at M p 0 a ≡ Some l →
      word_at l.words a x ≡ Some w → M.Valid w → fetch M b x ≡ Ok w
  unfolding fetch
  fetches L p b st a x l w e f valid =
      let h = line-bytes p 0 a l e in
      let k = word_bytes l.words a x w f in
      let d≡a : h.0 ≡ a = omega (arith, h.1) in
      let one = h.2 k.0 (omega (arith, k.2)) in
      let two = h.2 (suc k.0) k.2 in
      let x≡ : x ≡ a + k.0 = k.1 in
      let x1≡ : x + 1 ≡ a + suc k.0 = omega arith in
      let hi : M.peek b x ≡ Some (M.high w) = rw x≡ (st (a + k.0) one.0 ∙ ap Some (rw d≡a at one.1 ∙ k.3)) in
      let lo : M.peek b (x + 1) ≡ Some (M.low w) = rw x1≡ (st (a + suc k.0) two.0 ∙ ap Some (rw d≡a at two.1 ∙ k.4)) in
      rw (hi, lo, L.coded w valid)

  -- a step of the board at such a word
  pub steps : (L : Laws M) (p : List (Item M)) → Keeps M p → (b : M.Bus) → LinesStand M p b → (a : ℕ) (c : M.Core) (l : Line M) (w : M.Word) → line_at M p 0 a ≡ Some l →
      word_at l.words a (M.at c) ≡ Some w → step M c b ≡ placed (M.at c) (outcome (M.act w c) b)
  unfolding step
  steps L p k b st a c l w e f = rw (fetches L p b st a (M.at c) l w e f (valid-at M l.words (line-valid p k a l e) a (M.at c) w f))

  -- what stores outside the instruction lines leaves them standing
  pub still_stand : (p : List (Item M)) (b b' : M.Bus) (stores : List ℕ) → LinesStand M p b → Shows M b b' stores → list_any (in_line M p 0) stores ≡ false → LinesStand M p b'
  still_stand p b b' stores st s h x i = s.same x (any_apart (in_line M p 0) x i stores h) ∙ st x i
