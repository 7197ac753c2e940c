-- The print of every tape by the book model is the print by the reference model, which is lent nothing but lengths.
use mathlib.Core.Path.{◌≡◌, refl, sym, ap, ap₂, ◌∙◌}
use mathlib.Core.Logic.{◌⊎◌, inl, inr}
use Prim.Native.Nat.{ℕ, zero, suc, ◌≤◌, zero-le}
use native.Mathlib.Nat.{le_refl, le_trans}
use native.Mathlib.Omega.{arith}
use mathlib.Core.Bool.{Bool, true, false, cond}
use mathlib.Core.List.{List, [], ◌++◌}
use lib.ListN.{length, take, drop, replicate, length-replicate}
use lib.Seq.{take-append_seam, take_all}
use borrow.Author.Tests.{leb-false, ltb-false, not-false}
use Rattle.lists.specs.Lists.{laid}
use Rattle.lists.proofs.Writing.{length_laid}
use Rattle.head.specs.declared.Desk.{Desk}
use Rattle.head.specs.Desks.{watch_of}
use Rattle.refusals.specs.Refusals.{granted}
use Rattle.head.specs.Heads.{last_position}
use Rattle.refusals.proofs.Numbers.{zero_passed}
use Rattle.frames.specs.Frames.{Saying, told, ended, refused, read_at}
use Rattle.model.specs.Changes.{change_room}
use Rattle.model.specs.Reference.{Reference, Lengths, unopened, newest, is_open, head_of, tells, foretells, tells_both, reference_step}
use Rattle.model.specs.Calls.{Call, Open, Quote, Look, Watch, End, Past, Pair, Unpair, Due, Preview, Both, Outputs, Lent, book_step, lengths_of, shown, expected_step, runs, world_first}
use Rattle.model_claims.specs.Claims.{is_opening}
use Rattle.model.proofs.Simulation.{Simulation, Agree, reference_with, Bounded, bounded, in_range, in_pair_range}
use Rattle.model.proofs.Written.{written_fits, watch_written, pair_written}
use Rattle.model.proofs.Replay.{call_agrees, replay_ends}
use Rattle.model.proofs.Lengths.{either_way, long_after, lengths_kept, since_long}
use Rattle.model_claims.proofs.Places.{lengths_unread, opened_kept}
use Rattle.tape_asking.specs.Asking.{Asked, finished, unread, misplaced, request, asks, in_place, placed, asked}
use Rattle.tape_model.specs.Print.{Answered, lines_of, text_of}
use Rattle.tape_model.specs.Play.{Played, play_asked, play_at, print_from, print, reference_make, Player, book_make, begun}
use Rattle.tape_model.specs.Ample.{Reaches, start, onward}

-- ---- lengths

-- what a quote writes is no longer than the output for bytes, which has the room that is asked for
quote_fits : (x : List ℕ) (lengths : Lengths) (s : Reference) → Bounded s → length (reference_step (Quote x) lengths s).bytes ≤ lengths.bytes
unfolding reference_step tells
quote_fits x lengths s ok =
    either_way (λ (w : List ℕ). length w ≤ lengths.bytes) _ _ []
    (λ e.
    let a = zero_passed _ _ _ e in
    let c = zero_passed _ _ _ (zero_passed _ _ _ a.1).1 in
    let wide = ltb-false lengths.bytes change_room (zero_passed _ _ _ c.1).0 in
    le_trans (written_fits s x (not-false (is_open s) a.0) ok (leb-false last_position (newest s) c.0)) wide) zero-le

-- nor is what any call writes
bytes_fit : (c : Call) (lengths : Lengths) (s : Reference) → Bounded s → length (reference_step c lengths s).bytes ≤ lengths.bytes
unfolding reference_step tells foretells tells_both
bytes_fit (Open d N directions) lengths s ok = either_way (λ (w : List ℕ). length w ≤ lengths.bytes) _ [] [] (λ _. zero-le) zero-le
bytes_fit (Quote x) lengths s ok = quote_fits x lengths s ok
bytes_fit (Look n) lengths s ok = either_way (λ (w : List ℕ). length w ≤ lengths.bytes) _ [] [] (λ _. zero-le) zero-le
bytes_fit (Watch desk n) lengths s ok =
    either_way (λ (w : List ℕ). length w ≤ lengths.bytes) _ _ []
    (λ e.
    let a = zero_passed _ _ _ e in
    let b = zero_passed _ _ _ a.1 in
    let r = in_range s n b.0 in
    let wide = ltb-false lengths.bytes change_room (zero_passed _ _ _ (zero_passed _ _ _ (zero_passed _ _ _ b.1).1).1).0 in
    le_trans (watch_written s (not-false (is_open s) a.0) ok (watch_of desk n) n r.0 r.1) wide) zero-le
bytes_fit (End desk n) lengths s ok = either_way (λ (w : List ℕ). length w ≤ lengths.bytes) _ [] [] (λ _. zero-le) zero-le
bytes_fit (Past n1 n2) lengths s ok = either_way (λ (w : List ℕ). length w ≤ lengths.bytes) _ [] [] (λ _. zero-le) zero-le
bytes_fit (Pair n1 n2) lengths s ok =
    either_way (λ (w : List ℕ). length w ≤ lengths.bytes) _ _ []
    (λ e.
    let a = zero_passed _ _ _ e in
    let b = zero_passed _ _ _ a.1 in
    let c = zero_passed _ _ _ b.1 in
    let r = in_pair_range s n1 n2 b.0 c.0 in
    let two = r.two in
    let wide = ltb-false lengths.bytes change_room (zero_passed _ _ _ (zero_passed _ _ _ c.1).1).0 in
    le_trans (pair_written s (not-false (is_open s) a.0) ok n1 n2 (omega arith) r.order r.most) wide) zero-le
bytes_fit Unpair lengths s ok = either_way (λ (w : List ℕ). length w ≤ lengths.bytes) _ [] [] (λ _. zero-le) zero-le
bytes_fit Due lengths s ok = either_way (λ (w : List ℕ). length w ≤ lengths.bytes) _ [] [] (λ _. zero-le) zero-le
bytes_fit (Preview x) lengths s ok = quote_fits x lengths s ok
bytes_fit (Both x n) lengths s ok = either_way (λ (w : List ℕ). length w ≤ lengths.bytes) _ _ [] (λ _. quote_fits x lengths s ok) zero-le

-- and so no longer than the bytes that are lent
bytes_room : (l : Lent) (o : Outputs) (c : Call) (s : Reference) → Bounded s → length (reference_step c (lengths_of l o) s).bytes ≤ length o.bytes
unfolding lengths_of
bytes_room l o c s ok = bytes_fit c (lengths_of l o) s ok

-- outputs with bytes of the same length, and the same cells
outputs_alike : (l : Lent) (o : Outputs) (bytes : List ℕ) → length bytes ≡ length o.bytes → lengths_of l (record { bytes = bytes; cells = o.cells }) ≡ lengths_of l o
unfolding lengths_of
outputs_alike l o bytes e = rw e

-- ---- one call

-- what is granted has this length
granted_length : (n : ℕ) (w : List ℕ) → granted n (length w) 0 ≡ length (granted n w [])
unfolding granted
granted_length zero w = refl
granted_length (suc k) w = refl

-- what a call wrote, read from the output that it was laid into
read_laid : {count : ℕ} (written out : List ℕ) → count ≡ length written → take count (laid written out) ≡ take count written
unfolding laid
read_laid written out e =
    rw e (take-append_seam written (drop (length written) out) ∙ sym (take_all (length written) written (le_refl (length written))))

module _ (lengths : Lengths) (s : Reference) where
  -- the count of a quote, of a watch, of the two looks and of a pair is that of what it wrote
  quote_count : (x : List ℕ) → (reference_step (Quote x) lengths s).count ≡ length (reference_step (Quote x) lengths s).bytes
  unfolding reference_step tells
  quote_count x = granted_length _ _

  watch_count : (desk : Desk) (n : ℕ) → (reference_step (Watch desk n) lengths s).count ≡ length (reference_step (Watch desk n) lengths s).bytes
  unfolding reference_step tells
  watch_count desk n = granted_length _ _

  look_count : (n : ℕ) → (reference_step (Look n) lengths s).count ≡ length (reference_step (Look n) lengths s).cells
  unfolding reference_step tells
  look_count n = granted_length _ _

  past_count : (n1 n2 : ℕ) → (reference_step (Past n1 n2) lengths s).count ≡ length (reference_step (Past n1 n2) lengths s).cells
  unfolding reference_step tells
  past_count n1 n2 = granted_length _ _

  pair_count : (n1 n2 : ℕ) → (reference_step (Pair n1 n2) lengths s).count ≡ length (reference_step (Pair n1 n2) lengths s).bytes
  unfolding reference_step tells
  pair_count n1 n2 = granted_length _ _

  -- what a call answered, with its writing laid into these outputs
  abbrev laid_into : Call → Outputs → Answered
  laid_into c o =
      let told = reference_step c lengths s in record {
        outcome = record { number = told.number; head = told.head; count = told.count };
        outputs = record { bytes = laid told.bytes o.bytes; cells = laid told.cells o.cells };
      }

  -- prints the same lines
  laid_text : (c : Call) (o : Outputs) → text_of c (laid_into c o) ≡ text_of c (reference_make lengths c s).0
  unfolding text_of lines_of reference_make
  laid_text (Open d N directions) o = refl
  laid_text (Quote x) o = rw (read_laid (reference_step (Quote x) lengths s).bytes o.bytes (quote_count x))
  laid_text (Look n) o = rw (read_laid (reference_step (Look n) lengths s).cells o.cells (look_count n))
  laid_text (Watch desk n) o = rw (read_laid (reference_step (Watch desk n) lengths s).bytes o.bytes (watch_count desk n))
  laid_text (End desk n) o = refl
  laid_text (Past n1 n2) o = rw (read_laid (reference_step (Past n1 n2) lengths s).cells o.cells (past_count n1 n2))
  laid_text (Pair n1 n2) o = rw (read_laid (reference_step (Pair n1 n2) lengths s).bytes o.bytes (pair_count n1 n2))
  laid_text Unpair o = refl
  laid_text Due o = refl
  laid_text (Preview x) o = refl
  laid_text (Both x n) o = refl

-- lengths of a book's own give the answers of the reference model that is lent these: they are the same; or an opening was accepted, from
-- when on only those of the outputs count
abbrev pub Answering : Reference → Lengths → Lengths → Type 0
Answering s own lengths = (own ≡ lengths) ⊎ ((is_open s ≡ true) × (own.bytes ≡ lengths.bytes) × (own.cells ≡ lengths.cells))

-- a call is no second opening
abbrev Once : Reference → Call → Type 0
Once s c = is_open s ≡ true → is_opening c ≡ false

module _ (s : Reference) (own lengths : Lengths) (c : Call) (once : Once s c) where
  -- then the reference model tells the same
  told_same : Answering s own lengths → reference_step c own s ≡ reference_step c lengths s
  told_same (inl e) = ap (λ (n : Lengths). reference_step c n s) e
  told_same (inr t) = lengths_unread c (once t.0) own lengths t.1 t.2 s

  -- and answers so after it
  answering_still : (n : Lengths) → Answering s own lengths → Answering (reference_step c n s).next own lengths
  answering_still n (inl e) = inl e
  answering_still n (inr t) = inr (opened_kept c (once t.0) n s ∙ t.0, t.1, t.2)

-- between two frames: the book simulates the reference model, and what it is lent has lengths that give the same answers
pub record Alike (lengths : Lengths) (s : Reference) (k : Player) : Type 0 where
  pub simulation : Simulation (reference_with s k.world.lent) k.world
  pub lent : Answering s (lengths_of k.world.lent k.outputs) lengths

module _ (lengths : Lengths) (c : Call) (s : Reference) (k : Player) (v : Alike lengths s k) (once : Once s c) where
  -- what is lent
  abbrev l : Lent
  l = k.world.lent

  -- the reference model tells the same
  told_alike : reference_step c (lengths_of l k.outputs) s ≡ reference_step c lengths s
  told_alike = told_same s (lengths_of l k.outputs) lengths c once v.lent

  -- the call is seen alike, and the book simulates the reference model after it
  agree : Agree c k.outputs (reference_with s l) k.world
  agree = call_agrees c k.outputs (reference_with s l) k.world v.simulation

  -- what the book answered
  answered : (book_make c k).0 ≡ laid_into lengths s c k.outputs
  unfolding book_make expected_step
  answered = rw (agree.0, told_alike)

  -- a call has the same number in both models
  pub number_alike : (book_make c k).0.outcome.number ≡ (reference_make lengths c s).0.outcome.number
  unfolding reference_make
  number_alike = ap (λ (a : Answered). a.outcome.number) answered

  -- and prints the same lines
  pub text_alike : text_of c (book_make c k).0 ≡ text_of c (reference_make lengths c s).0
  text_alike = ap (text_of c) answered ∙ laid_text lengths s c k.outputs

  -- and leaves them alike
  pub left_alike : Alike lengths (reference_make lengths c s).1 (book_make c k).1
  unfolding book_make reference_make expected_step
  left_alike = rw (← told_alike) record {
    simulation = record { head = j.head; lent = refl; since = rw j.lent j.since };
    lent =
        rw (
          j.lent,
          agree.0,
          outputs_alike (shown next l) k.outputs _ (length_laid (reference_step c (lengths_of l k.outputs) s).bytes k.outputs.bytes (bytes_room l k.outputs c s (bounded s l v.simulation.since))),
          lengths_kept next l (shown next l) k.outputs (long_after l k.outputs c s (since_long s l v.simulation.since)) j.since,
        )
        (answering_still s (lengths_of l k.outputs) lengths c once (lengths_of l k.outputs) v.lent);
  }
    where
      next : Reference
      next = (reference_step c (lengths_of l k.outputs) s).next

      j : Simulation (expected_step c k.outputs (reference_with s l)).1 (book_step c k.outputs k.world).1
      j = agree.1

-- ---- one frame, and all of them

-- an opening was accepted by both models or by neither
pub begun_alike : {lengths : Lengths} (s : Reference) (k : Player) → Alike lengths s k → begun k ≡ is_open s
unfolding begun is_open head_of
begun_alike s k v = rw v.simulation.head

-- what is asked for is an opening
unfoldable asks_opening : Asked → Bool
asks_opening finished = false
asks_opening (unread e) = false
asks_opening misplaced = false
asks_opening (request c) = is_opening c

-- once one was accepted another is out of place
call_once : (c : Call) → asks_opening (placed true (request c)) ≡ false
unfolding placed in_place asks_opening is_opening
call_once (Open d N directions) = refl
call_once (Quote x) = refl
call_once (Look n) = refl
call_once (Watch desk n) = refl
call_once (End desk n) = refl
call_once (Past n1 n2) = refl
call_once (Pair n1 n2) = refl
call_once Unpair = refl
call_once Due = refl
call_once (Preview x) = refl
call_once (Both x n) = refl

placed_once : (a : Asked) → asks_opening (placed true a) ≡ false
unfolding placed asks_opening
placed_once finished = refl
placed_once (unread e) = refl
placed_once misplaced = refl
placed_once (request c) = call_once c

asked_once : (r : Saying) (columns : List ℕ) → asks_opening (asked true r columns) ≡ false
unfolding asked asks_opening
asked_once (told m) columns = placed_once (asks m columns)
asked_once ended columns = refl
asked_once (refused e) columns = refl

-- two players after one frame: the same number, the same lines and the same place, both over or neither, and the models alike
pub record Matches (lengths : Lengths) (one : Played Player) (other : Played Reference) : Type 0 where
  pub number : one.number ≡ other.number
  pub text : one.text ≡ other.text
  pub next : one.next ≡ other.next
  pub over : one.over ≡ other.over
  pub state : Alike lengths other.state one.state

module _ (lengths : Lengths) where
  -- what is asked at a place is played alike
  asked_matches : (a : Asked) (next : ℕ) (s : Reference) (k : Player) → Alike lengths s k → (is_open s ≡ true → asks_opening a ≡ false)
      → Matches lengths (play_asked begun book_make a next k) (play_asked is_open (reference_make lengths) a next s)
  unfolding play_asked asks_opening
  asked_matches finished next s k v once = record { number = refl; text = refl; next = refl; over = refl; state = v }
  asked_matches (unread e) next s k v once = record { number = refl; text = refl; next = refl; over = refl; state = v }
  asked_matches misplaced next s k v once = record { number = refl; text = refl; next = refl; over = refl; state = v }
  asked_matches (request c) next s k v once = record {
    number = number_alike lengths c s k v once;
    text = text_alike lengths c s k v once;
    next = refl;
    over = refl;
    state = left_alike lengths c s k v once;
  }

  -- one frame is played alike by both models
  pub frame_agrees : (tape : List ℕ) (place : ℕ) (s : Reference) (k : Player) → Alike lengths s k
      → Matches lengths (play_at begun book_make tape place k) (play_at is_open (reference_make lengths) tape place s)
  unfolding play_at
  frame_agrees tape place s k v =
      let read = read_at tape place in
      rw (begun_alike s k v)
      (asked_matches (asked (is_open s) read.says read.columns) read.next s k v (λ o. rw o (asked_once read.says read.columns)))

  -- and so is any number of frames
  pub frames_agree : (frames : ℕ) (tape : List ℕ) (place : ℕ) (s : Reference) (k : Player) → Alike lengths s k
      → print_from begun book_make frames tape place k ≡ print_from is_open (reference_make lengths) frames tape place s
  unfolding print_from
  frames_agree zero tape place s k v = refl
  frames_agree (suc frames) tape place s k v =
      let m = frame_agrees tape place s k v in
      let rest = frames_agree frames tape _ _ _ m.state in
      ap₂ {C = List ℕ} (λ (x y : List ℕ). x ++ y) m.text (ap₂ {C = List ℕ} (λ (o : Bool) (x : List ℕ). cond o [] x) m.over (rw m.next rest))

-- a book that has not been opened: a head of zeros, with anything lent
abbrev pub at_first : Lent → Outputs → Player
at_first l o = record { world = world_first l; outputs = o }

-- it stands alike with the reference model before any opening
pub at_first_lem : (l : Lent) (o : Outputs) → Alike (lengths_of l o) unopened (at_first l o)
unfolding runs
at_first_lem l o = record { simulation = replay_ends [] l; lent = inl refl }

-- the print of every tape by the book is the print by the reference model, whatever the tables, the watch records and the outputs hold
-- and however long they are
pub print_agrees : (tape : List ℕ) (l : Lent) (o : Outputs)
    → print begun book_make tape (record { world = world_first l; outputs = o }) ≡ print is_open (reference_make (lengths_of l o)) tape unopened
unfolding print
print_agrees tape l o = frames_agree (lengths_of l o) (suc (length tape)) tape 0 unopened (at_first l o) (at_first_lem l o)

-- the lines of the first frames of a tape are the reference model's too
pub prefix_agrees : (frames : ℕ) (tape : List ℕ) (l : Lent) (o : Outputs)
    → print_from begun book_make frames tape 0 (record { world = world_first l; outputs = o }) ≡ print_from is_open (reference_make (lengths_of l o)) frames tape 0 unopened
prefix_agrees frames tape l o = frames_agree (lengths_of l o) frames tape 0 unopened (at_first l o) (at_first_lem l o)

-- ---- where a tape comes to

-- tables and watch records of zeros with these lengths
abbrev blank : Lengths → Lent
blank lengths = record {
  tables = record {
    columns = replicate lengths.columns 0;
    positions = replicate lengths.positions 0;
    lower_ends = replicate lengths.lower_ends 0;
    upper_ends = replicate lengths.upper_ends 0;
  };
  watches = replicate lengths.watches 0;
}

-- and such outputs
abbrev blank_outputs : Lengths → Outputs
blank_outputs lengths = record { bytes = replicate lengths.bytes 0; cells = replicate lengths.cells 0 }

module _ (lengths : Lengths) where
  blank_lengths : lengths_of (blank lengths) (blank_outputs lengths) ≡ lengths
  unfolding lengths_of
  blank_lengths =
      rw (
        length-replicate {A = ℕ} lengths.columns 0,
        length-replicate {A = ℕ} lengths.positions 0,
        length-replicate {A = ℕ} lengths.lower_ends 0,
        length-replicate {A = ℕ} lengths.upper_ends 0,
        length-replicate {A = ℕ} lengths.watches 0,
        length-replicate {A = ℕ} lengths.bytes 0,
        length-replicate {A = ℕ} lengths.cells 0,
      )

  -- for all lengths there is a book that begins alike
  pub begins_alike : (k : Player) × Alike lengths unopened k
  begins_alike = (at_first (blank lengths) (blank_outputs lengths), rw blank_lengths at (at_first_lem (blank lengths) (blank_outputs lengths)))

  -- and wherever a tape comes to, the book has come to stand alike
  pub reached_alike : (tape : List ℕ) {place : ℕ} {s : Reference} → Reaches is_open (reference_make lengths) tape unopened place s → (k : Player) × Alike lengths s k
  reached_alike tape start = begins_alike
  reached_alike tape (onward {place} {s} h o) =
      let t = reached_alike tape h in
      ((play_at begun book_make tape place t.0).state, (frame_agrees lengths tape place s t.0 t.1).state)
