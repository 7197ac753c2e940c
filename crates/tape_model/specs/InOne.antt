-- A quote's frame and, directly behind it, a look's: played one after the other, and what the quote and look in one shows of them.
use Rattle.std.specs.Prelude.{◌≡◌, ℕ, false, List, ◌∷◌, ◌++◌, take}
use Rattle.lists.specs.Lists.{head_or}
use Rattle.frames.specs.Frames.{read_at}
use Rattle.model.specs.Calls.{Quote, Look, Both, Seen, book_seen}
use Rattle.tape_asking.specs.Asking.{request, asked}
use Rattle.text.specs.Text.{line}
use Rattle.tape_model.specs.Print.{Answered, lines_of, text_of}
use Rattle.tape_model.specs.Play.{Played, Player, book_make, begun, book_play}

-- the place behind the frame at a place
abbrev pub behind : List ℕ → ℕ → ℕ
behind tape place = (read_at tape place).next

module _ (x : List ℕ) (n : ℕ) (k : Player) where
  -- what is seen of the quote and look in one
  abbrev pub seen_both : Seen
  seen_both = book_seen (Both x n) k.outputs k.world

  -- the player that it leaves
  abbrev pub after_both : Player
  after_both = (book_make (Both x n) k).1

  -- the quote's lines, from its outcome and its bytes
  abbrev pub quote_lines : List ℕ
  quote_lines = lines_of (Quote x) (record { outcome = seen_both.outcome; outputs = seen_both.outputs })

  -- the look's line, from its second count and its cells
  abbrev pub look_line : List ℕ
  look_line = line 76 (n ∷ take (head_or 0 seen_both.counts) seen_both.outputs.cells)

  -- the quote, and the look behind it
  abbrev pub quoted : Answered × Player
  quoted = book_make (Quote x) k

  abbrev pub looked : Answered × Player
  looked = book_make (Look n) quoted.1

  -- the two calls, one after the other, show what the one shows: both are accepted, their lines, and the player after them
  pub record ShownInTwo : Type 0 where
    pub quote_number : quoted.0.outcome.number ≡ 0
    pub quote_text : text_of (Quote x) quoted.0 ≡ quote_lines
    pub look_number : looked.0.outcome.number ≡ 0
    pub look_text : text_of (Look n) looked.0 ≡ look_line
    pub state : looked.1 ≡ after_both

  module _ (tape : List ℕ) (place : ℕ) where
    -- the frame at a place asks for the quote, and the one directly behind it for the look
    pub record InARow : Type 0 where
      pub quote_asked : asked (begun k) (read_at tape place).says (read_at tape place).columns ≡ request (Quote x)
      pub look_asked : asked (begun k) (read_at tape (behind tape place)).says (read_at tape (behind tape place)).columns ≡ request (Look n)

    -- the two frames, played one after the other: both are accepted, the lines of each and the place behind it, the tape goes on, and the player
    -- after both is the one that the call leaves
    pub record PlayedInTwo : Type 0 where
      pub first : book_play tape place k ≡ record { number = 0; text = quote_lines; state = quoted.1; next = behind tape place; over = false }
      pub second : book_play tape (behind tape place) quoted.1
          ≡ record { number = 0; text = look_line; state = after_both; next = behind tape (behind tape place); over = false }

-- two frames of a tape in a row, from a place on: the lines of both, and what the second comes to
unfoldable pub play_two : List ℕ → ℕ → Player → Played Player
play_two tape place k =
    let one = book_play tape place k in
    let two = book_play tape one.next one.state in
    record { number = two.number; text = one.text ++ two.text; state = two.state; next = two.next; over = two.over }
