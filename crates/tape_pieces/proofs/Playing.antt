-- The steps along a piece of a tape: what holds from one to the next, and whether one is played.
use mathlib.Core.Path.{◌≡◌, refl, sym, ◌∙◌}
use Prim.Native.Nat.{ℕ, ◌-◌, ◌≤◌, ◌<◌}
use mathlib.Core.Bool.{Bool, true, false, ◌&&◌, ◌||◌, not, true≢false}
use mathlib.Core.List.{List, [], ◌++◌}
use lib.Dec.{leb}
use lib.ListN.{length}
use borrow.Author.Tests.{leb-true, le-leb, lt-leb}
use Rattle.lists.proofs.Booleans.{and_left, and_right}
use Rattle.tape_model.specs.Play.{Played, Player}
use Rattle.tape_model.specs.Streams.{settled}
use Rattle.tape_model.proofs.Streaming.{may_play}
use Rattle.model.specs.Rows.{Tables}
use Rattle.model.specs.Calls.{Reached}
use Rattle.tape_both.specs.Tried.{step_bytes}
use Rattle.tape_steps.specs.Stepping.{play_step}
use Rattle.tape_playback.specs.declared.Playback.{Playback}
use Rattle.table_starts.specs.declared.Start.{Start}
use Rattle.table_starts.specs.Starts.{Long, Within, onward, Moved}
use Rattle.table_starts.proofs.Rewinding.{long_same}
use Rattle.tape_playback.specs.Played.{player_of, Resumes, resumes, Gathered, SameInput, StepPlayed, Plays, none, moved}
use Rattle.tape_playback.proofs.Advancing.{left, step_advanced, step_frames, plays_inside}
use Rattle.tape_playback.proofs.Gathering.{gathered_none, gathered_more, gathered_fits}
use Rattle.tape_playback.proofs.Starting.{plays_reached}
use Rattle.tape_pieces.specs.Pieces.{GoesOn, PiecePlayed}

-- what holds from step to step: the tables and the text are as long as they were, and the frames that were played left what is promised once
-- the piece is played
pub record Playing (piece : List ℕ) (t₀ : Tables) (bytes₀ text₀ : List ℕ) (now₀ : Playback) (t : Tables) (bytes text : List ℕ) (now : Playback) : Type 0 where
  pub columns : length t.columns ≡ length t₀.columns
  pub positions : length t.positions ≡ length t₀.positions
  pub lower_ends : length t.lower_ends ≡ length t₀.lower_ends
  pub upper_ends : length t.upper_ends ≡ length t₀.upper_ends
  pub text_long : length text ≡ length text₀
  pub tables_long : Long t
  pub begun : now₀.used ≤ length text₀
  pub first_inside : now₀.place ≤ length piece
  pub first_reached : Reached (player_of now₀ t₀ bytes₀).world
  pub lines : List ℕ
  pub plays : Plays piece now₀.ended now₀.place (player_of now₀ t₀ bytes₀) now₀.over lines now.place (player_of now t bytes) now.over
  pub gathered : Gathered now₀ now lines text₀ text
  pub same : SameInput now₀ now
  pub starts : Within 1023 now.start

-- before the first step
pub start : (piece : List ℕ) (t : Tables) (bytes text : List ℕ) (now : Playback) → (now.used ≤ length text) × (now.place ≤ length piece) → Long t → Within 1023 now.start
    → Reached (player_of now t bytes).world → Playing piece t bytes text now t bytes text now
start piece t bytes text now h k w c = record {
  columns = refl;
  positions = refl;
  lower_ends = refl;
  upper_ends = refl;
  text_long = refl;
  tables_long = k;
  begun = h.0;
  first_inside = h.1;
  first_reached = c;
  lines = [];
  plays = none;
  gathered = gathered_none now text h.0;
  same = record { end = refl; ended = refl };
  starts = w;
}

-- ---- whether a step is played

-- one whose lines may find no room is not
pub no_room : {over may : Bool} {room : ℕ} → over ≡ false → room < step_bytes → GoesOn over room may false
no_room {room = room} e h = record { is = rw (e, lt-leb step_bytes room h) }

-- where they find room, it is played if it may be
pub some_room : {over may result : Bool} {room : ℕ} → over ≡ false → step_bytes ≤ room → result ≡ may → GoesOn over room may result
some_room {room = room} e h r = record { is = r ∙ rw (e, le-leb step_bytes room h) }

-- nor is one where the tape is over
pub none_over : {over may : Bool} {room : ℕ} → over ≡ true → GoesOn over room may false
none_over e = record { is = rw e }

module _ {over may result : Bool} {room : ℕ} (g : GoesOn over room may result) (t : result ≡ true) where
  -- the tape is not over where one is played
  pub not_over : over ≡ false
  not_over = go over g.is
    where
      go : (o : Bool) → result ≡ (not o && (leb step_bytes room && may)) → o ≡ false
      go true e = absurd (true≢false (sym t ∙ e))
      go false e = refl

  rest_true : leb step_bytes room && may ≡ true
  rest_true = and_right (not over) (leb step_bytes room && may) (sym g.is ∙ t)

  -- its lines have room
  pub lines_room : step_bytes ≤ room
  lines_room = leb-true step_bytes room (and_left (leb step_bytes room) may rest_true)

  -- and it may be played
  pub may_be : may ≡ true
  may_be = and_right (leb step_bytes room) may rest_true

-- ---- a step is played, and its rows are moved to the front where they find no place more

-- one step more
step_more : {piece : List ℕ} {ended : Bool} {place : ℕ} {k : Player} {over : Bool} {lines : List ℕ} {now : Playback} {t : Tables} {bytes text : List ℕ} {r : Playback} {t' : Tables}
    {bytes' text' : List ℕ} → Plays piece ended place k over lines now.place (player_of now t bytes) now.over → now.over ≡ false → (ended || settled piece now.place) ≡ true
    → StepPlayed piece now t bytes text r t' bytes' text'
    → Plays piece ended place k over (lines ++ (play_step piece now.place (player_of now t bytes)).text) r.place (player_of r t' bytes') r.over
step_more {piece} {ended} {place} {k} {over} {lines} {now} {t} {bytes} p o h f = rw (f.place, f.over) (go f.book)
  where
    one : Played Player
    one = play_step piece now.place (player_of now t bytes)

    go : {q : Player} → Resumes one.state q → Plays piece ended place k over (lines ++ one.text) one.next q one.over
    go (resumes m) = moved (step_frames (rw o at p) (may_play piece now.place ended h)) m

module _ {piece : List ℕ} {t₀ : Tables} {bytes₀ text₀ : List ℕ} {now₀ : Playback} {t : Tables} {bytes text : List ℕ} {now : Playback}
    (i : Playing piece t₀ bytes₀ text₀ now₀ t bytes text now) where
  -- what is gathered stands within the text, and the place within the piece
  pub fits : now.used ≤ length text
  fits = gathered_fits i.gathered i.begun

  pub inside : now.place ≤ length piece
  inside = plays_inside i.plays i.first_inside

  -- the book is one that calls left
  pub reached : Reached (player_of now t bytes).world
  reached = plays_reached i.plays i.first_reached

  -- what a piece leaves where the next step is not played
  pub finish : {result : Bool} → GoesOn now.over (length text - now.used) (now.ended || settled piece now.place) result → result ≡ false
      → PiecePlayed piece now₀ t₀ bytes₀ text₀ now t bytes text
  finish g e = record { lines = i.lines; plays = i.plays; gathered = i.gathered; same = i.same; starts = i.starts; stops = rw e at g }

  module _ {room : ℕ} {result : Bool} (g : GoesOn now.over room (now.ended || settled piece now.place) result) (e : result ≡ true)
      {r : Playback} {t' : Tables} {bytes' text' : List ℕ} (f : StepPlayed piece now t bytes text r t' bytes' text') where
    -- less is left of the piece
    pub less : left piece r.place r.over < left piece now.place now.over
    unfolding left
    less = rw (f.place, f.over, not_over g e) (step_advanced piece now.place (player_of now t bytes) inside).less

    -- the step is played, and the player goes on where its rows were moved to
    pub more : length text' ≡ length text → {t'' : Tables} → length t''.columns ≡ length t.columns → length t''.positions ≡ length t.positions
        → length t''.lower_ends ≡ length t.lower_ends → length t''.upper_ends ≡ length t.upper_ends → {s : Start} → Within 1023 s
        → Moved r.head (onward r.start t') (onward s t'')
        → Playing piece t₀ bytes₀ text₀ now₀ t'' bytes' text'
        (record { head = r.head; watches = r.watches; start = s; place = r.place; end = r.end; used = r.used; ended = r.ended; over = r.over })
    more long c p l u w m =
        let may = rw i.same.ended at (may_be g e) in
        let all = gathered_more i.gathered i.begun f.gathered in
        record {
          columns = c ∙ i.columns;
          positions = p ∙ i.positions;
          lower_ends = l ∙ i.lower_ends;
          upper_ends = u ∙ i.upper_ends;
          text_long = long ∙ i.text_long;
          tables_long = long_same c p l u i.tables_long;
          begun = i.begun;
          first_inside = i.first_inside;
          first_reached = i.first_reached;
          lines = _;
          plays = moved (step_more i.plays (not_over g e) may f) m;
          gathered = record { used = all.used; text = all.text };
          same = record { end = f.same.end ∙ i.same.end; ended = f.same.ended ∙ i.same.ended };
          starts = w;
        }
