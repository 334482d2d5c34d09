-- The worked pages but the longest loop, computed on either side; and that the agreement is about all of them.
use Rattle.std.proofs.Common.{◌≡◌, ℕ, zero, suc, ◌-◌, ◌<◌, ◌≤◌, Bool, true, false, ltb, List, [], ◌∷◌, length, get_or, sym, refl, arith, ltb-true}
use Rattle.machine.specs.Board.{fetch, step, execute}
use Rattle.machine.specs.Program.{Item, image, Stands, line_at, in_line}
use Rattle.machine.specs.Obligation.{Keeps}
use Rattle.machine.specs.Reading.{current, read}
use Rattle.machine.specs.Calls.{board_call, reading_call}
use Rattle.machine.specs.Agreement.{Follows}
use Rattle.worked.specs.Worked.{Size, Two, Four, modulus, put, writes, give, take, load, store, byte_at, Place, CharacterPort, InputPort, Nothing, Cell, Bytes, Sound, worked, Hcf, One, Ldi, LdwAt, StwAt, Lsrm, LsrmOrNone}
use Rattle.worked.specs.Page.{blank, port, place_of, bus_of, reads, runs, shift_and_send, own_line_rows, longest, shift_twice, nothing_behind, data_behind, FirstPage, OwnLinePage, OffTheLinesPage, FourBytesPage, PagesFollow}
use Rattle.machine.proofs.Facts.{true≢false}
use Rattle.std.proofs.lemmas.Bool.{lt-ltb}
use Rattle.machine.proofs.AllCalls.{agreement}
use Rattle.worked.specs.WorkedLaws.{worked_laws}
use Rattle.worked.proofs.WorkedRows.{rows}

pub first-page : FirstPage
unfolding reads runs board_call reading_call execute step fetch read current line_at in_line put writes give take load store
first-page = record { board = refl; reading = refl; begun = refl; stuck = refl; still_stuck = refl }

pub own_line-page : OwnLinePage
unfolding reads runs board_call reading_call execute step fetch read current line_at in_line put writes give take load store
own_line-page =
    record { board = refl; reading = refl; marked = refl; goes_on = refl; is_over = refl; read_at_once = refl; over_at_once = refl; run_at_once = refl; read_into_data = refl; unmarked = refl; run_into_data = refl }

pub off_the_lines-page : OffTheLinesPage
unfolding reads runs board_call reading_call execute step fetch read current line_at in_line put writes give take load store
off_the_lines-page = record { board = refl; reading = refl; goes_on = refl; is_over = refl; not_there = refl; not_valid = refl }

pub four-bytes-page : FourBytesPage
unfolding reads runs board_call reading_call execute step fetch read current line_at in_line put writes give take load store
four-bytes-page = record { board = refl; reading = refl; board_shifts = refl; reading_shifts = refl }

-- the premises of the agreement, on the bus of a page
abbrev all_bytes : List ℕ → Bool
all_bytes [] = true
all_bytes (v ∷ vs) = elim (ltb v 256) [ true ↦ all_bytes vs | false ↦ false ]

tested : (vs : List ℕ) → all_bytes vs ≡ true → Bytes vs
tested [] h = tt
tested (v ∷ vs) h = go (ltb v 256) refl (tested vs) h
  where
    go : (t : Bool) → ltb v 256 ≡ t → (all_bytes vs ≡ true → Bytes vs) → elim t [ true ↦ all_bytes vs | false ↦ false ] ≡ true → (v < 256) × Bytes vs
    go true e ih q = (ltb-true v 256 e, ih q)
    go false e ih q = absurd (true≢false (sym q))

get_d_small : (vs : List ℕ) → Bytes vs → (x : ℕ) → get_or vs x 0 < 256
get_d_small [] h x = omega arith
get_d_small (v ∷ vs) h zero = h.0
get_d_small (v ∷ vs) h (suc x) = get_d_small vs h.1 x

abbrev Small : List Place → Type 0
Small [] = Unit {0}
Small (p ∷ ps) = (byte_at p < 256) × Small ps

place-small : (ps : List Place) → Small ps → (d : ℕ) → byte_at (get_or ps d Nothing) < 256
place-small [] h d = omega arith
place-small (p ∷ ps) h zero = h.0
place-small (p ∷ ps) h (suc d) = place-small ps h.1 d

port-small : (d : ℕ) → byte_at (port d) < 256
port-small d =
    place-small (CharacterPort ∷ (CharacterPort ∷ (Nothing ∷ (Nothing ∷ (InputPort ∷ (InputPort ∷ []))))))
    (omega arith, (omega arith, (omega arith, (omega arith, (omega arith, (omega arith, tt)))))) d

module _ (z : Size) (p : List (Item (worked z))) where
  bus-sound : Bytes (image (worked z) p) → Sound (bus_of z p)
  bus-sound h = record { places = λ x. near x (ltb x (length (image (worked z) p))); waits = tt }
    where
      far : (x : ℕ) (t : Bool) → byte_at (elim t [ true ↦ Nothing | false ↦ port (x - 0xF000) ]) < 256
      far x true = omega arith
      far x false = port-small (x - 0xF000)

      near : (x : ℕ) (t : Bool) → byte_at (elim t [ true ↦ Cell (get_or (image (worked z) p) x 0) | false ↦ elim (ltb x 0xF000) [ true ↦ Nothing | false ↦ port (x - 0xF000) ] ]) < 256
      near x true = get_d_small (image (worked z) p) h x
      near x false = far x (ltb x 0xF000)

  image-stands : Stands (worked z) p (bus_of z p)
  image-stands x h = rw (lt-ltb x (length (image (worked z) p)) h, place_of)

  page_follows : Keeps (worked z) p → all_bytes (image (worked z) p) ≡ true → length (image (worked z) p) ≤ modulus z → 0 < modulus z → Follows (worked z) (reads z p) (runs z p)
  unfolding reads runs
  page_follows keeps h room pos = agreement (worked z) (worked_laws z) p keeps room blank (bus_of z p) (λ q. pos) (bus-sound (tested (image (worked z) p) h)) image-stands

pub pages_follow : PagesFollow
pages_follow =
    record {
      first = page_follows Two shift_and_send (
        rows Two (Ldi 1 2080) (omega arith, omega arith),
        (
          rows Two (Ldi 2 5) (omega arith, omega arith),
          (
            rows Two (Lsrm 1 2) (omega arith, omega arith, λ e. omega arith),
            (rows Two (LdwAt 3 0xF004) (omega arith, omega arith), (rows Two (StwAt 1 0xF000) (omega arith, omega arith, omega arith), (rows Two (One Hcf) (omega arith, omega arith), tt))),
          ),
        ),
      )
          refl (omega arith) (omega arith);
      own_line = page_follows Two own_line_rows (rows Two (StwAt 1 0) (omega arith, omega arith, omega arith), (rows Two (One Hcf) (omega arith, omega arith), tt)) refl (omega arith) (omega arith);
      off_the_lines = page_follows Two nothing_behind (rows Two (Ldi 1 5) (omega arith, omega arith), tt) refl (omega arith) (omega arith);
      off_to_data = page_follows Two data_behind (rows Two (Ldi 1 5) (omega arith, omega arith), tt) refl (omega arith) (omega arith);
      longest_loop = page_follows Two longest (rows Two (Lsrm 1 2) (omega arith, omega arith, λ e. omega arith), (rows Two (One Hcf) (omega arith, omega arith), tt)) refl (omega arith) (omega arith);
      four_bytes = page_follows Four shift_twice (
        rows Four (Ldi 1 40) (omega arith, omega arith),
        (
          rows Four (Ldi 2 3) (omega arith, omega arith),
          (
            rows Four (LsrmOrNone 1 2) (omega arith, omega arith, λ e. omega arith),
            (rows Four (LsrmOrNone 1 2) (omega arith, omega arith, λ e. omega arith), (rows Four (One Hcf) (omega arith, omega arith), tt)),
          ),
        ),
      )
          refl (omega arith) (omega arith);
    }
