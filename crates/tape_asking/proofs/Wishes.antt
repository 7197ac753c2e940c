-- What a message wants is what it asks for, in its place and out of it.
use mathlib.Core.Path.{◌≡◌, refl, ap, ◌∙◌}
use Prim.Native.Nat.{ℕ}
use mathlib.Core.Bool.{Bool, true, false, cond}
use mathlib.Core.List.{List}
use Rattle.std.specs.Prelude.{Option, Some, None, Result, Ok, Err}
use Rattle.refusals.specs.declared.Refusal.{Refusal}
use Rattle.frames.specs.declared.Message.{Message}
use Rattle.frames.specs.Frames.{saying}
use Rattle.tape_asking.specs.declared.Wanted.{Wanted}
use Rattle.tape_asking.specs.declared.Wanted.TheVariants.{Quote, Look, Past, Watch, End, Pair, Unpair, Open, Misplaced}
use Rattle.tape_asking.specs.Asking.{misplaced, asks, in_place, placed, asked}
use Rattle.tape_asking.specs.Placing.{frame_wants, wants, out_of_place}

-- what is asked in its place, of a message
message_asked : (b : Bool) (m : Message) (columns : List ℕ) → placed b (asks m columns) ≡ asked b (saying m) columns
unfolding asked saying asks placed
message_asked b (Message.Quote k) columns = refl
message_asked b (Message.Sized kind n) columns = refl
message_asked b (Message.Change kind n p) columns = refl
message_asked b (Message.Pair kind n1 n2) columns = refl
message_asked b (Message.Bare kind) columns = refl
message_asked b (Message.Position kind p) columns = refl
message_asked b (Message.Open d N directions) columns = refl
message_asked b Message.EndOfTape columns = refl
message_asked b (Message.Refused k) columns = refl

-- what is wanted in its place
wanted_placed : (b : Bool) (w : Wanted) (columns : List ℕ) → cond (out_of_place b w) misplaced (frame_wants w columns) ≡ placed b (frame_wants w columns)
unfolding frame_wants out_of_place placed in_place
wanted_placed true (Quote n) columns = refl
wanted_placed true (Look n) columns = refl
wanted_placed true (Past n1 n2) columns = refl
wanted_placed true (Watch desk n) columns = refl
wanted_placed true (End desk n) columns = refl
wanted_placed true (Pair n1 n2) columns = refl
wanted_placed true Unpair columns = refl
wanted_placed true (Open d N directions) columns = refl
wanted_placed false (Quote n) columns = refl
wanted_placed false (Look n) columns = refl
wanted_placed false (Past n1 n2) columns = refl
wanted_placed false (Watch desk n) columns = refl
wanted_placed false (End desk n) columns = refl
wanted_placed false (Pair n1 n2) columns = refl
wanted_placed false Unpair columns = refl
wanted_placed false (Open d N directions) columns = refl
wanted_placed b Misplaced columns = refl

module _ (b : Bool) (m : Message) (r : Result (Option Wanted) Refusal) (e : (columns : List ℕ) → wants r columns ≡ asks m columns) (columns : List ℕ) where
  -- what a message wants, in its place, is what it asks for
  asks_placed : placed b (wants r columns) ≡ asked b (saying m) columns
  asks_placed = ap (placed b) (e columns) ∙ message_asked b m columns

  -- what cannot be read
  pub placed_unread : {k : Refusal} → r ≡ Err k → wants (Err k) columns ≡ asked b (saying m) columns
  unfolding wants placed
  placed_unread f = rw f at asks_placed

  -- the end of the tape
  pub placed_end : r ≡ Ok None → wants (Ok None) columns ≡ asked b (saying m) columns
  unfolding wants placed
  placed_end f = rw f at asks_placed

  module _ {w : Wanted} (f : r ≡ Ok (Some w)) where
    -- a frame, by whether it is out of place
    frame_placed : {test : Bool} → out_of_place b w ≡ test → cond test misplaced (frame_wants w columns) ≡ asked b (saying m) columns
    unfolding wants
    frame_placed t = rw (← t) (wanted_placed b w columns ∙ rw f at asks_placed)

    -- a frame out of place
    pub placed_out : out_of_place b w ≡ true → wants (Ok (Some Misplaced)) columns ≡ asked b (saying m) columns
    unfolding wants frame_wants
    placed_out t = frame_placed t

    -- and one in its place
    pub placed_in : out_of_place b w ≡ false → wants (Ok (Some w)) columns ≡ asked b (saying m) columns
    unfolding wants
    placed_in t = frame_placed t
