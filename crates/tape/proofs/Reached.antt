-- A book that calls left, once a frame is played on it: each frame makes one call more, or none.
use Prim.Native.Nat.{ℕ}
use mathlib.Core.List.{List}
use Rattle.head.specs.declared.Head.{Head}
use Rattle.model.specs.Rows.{Tables}
use Rattle.model.specs.Calls.{Reached}
use Rattle.model.proofs.Reached.{reached_step}
use Rattle.frames.specs.Frames.{read_at}
use Rattle.model.specs.Promises.{world}
use Rattle.tape_asking.specs.Asking.{Asked, finished, unread, misplaced, request, asked}
use Rattle.tape_model.specs.Play.{play_asked, play_at, Player, book_make, begun, book_play}
use Rattle.line_answers.specs.Turns.{player}
use Rattle.line_answers.specs.declared.Step.{Step}
use Rattle.tape.specs.Steps.{Stepped}

module _ (k : Player) (c : Reached k.world) where
  -- what stands at a place, played
  asked_reached : (a : Asked) (next : ℕ) → Reached (play_asked begun book_make a next k).state.world
  unfolding play_asked book_make
  asked_reached finished next = c
  asked_reached (unread refusal) next = c
  asked_reached misplaced next = c
  asked_reached (request r) next = reached_step r k.outputs c

  -- one frame
  pub frame_reached : (tape : List ℕ) (place : ℕ) → Reached (book_play tape place k).state.world
  unfolding play_at
  frame_reached tape place = asked_reached (asked (begun k) (read_at tape place).says (read_at tape place).columns) (read_at tape place).next

-- what playing one frame leaves
pub step_reached : (tape : List ℕ) (place : ℕ) (h : Head) (t : Tables) (ws bytes : List ℕ) {t' : Tables} {before bytes' after : List ℕ} {r : Step}
    → Stepped tape place (player h t ws bytes) before r t' bytes' after → Reached (world h t ws) → Reached (world r.turn.head t' r.turn.watches)
step_reached tape place h t ws bytes s c =
    rw (s.head, s.watches, s.lent) (frame_reached (player h t ws bytes) c tape place)
