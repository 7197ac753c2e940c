-- What holds from piece to piece of a tape that is printed.
use mathlib.Core.Path.{◌≡◌}
use Prim.Native.Nat.{ℕ, ◌≤◌}
use native.Mathlib.Omega.{arith}
use mathlib.Core.List.{List}
use lib.ListN.{length}
use Rattle.model.specs.Rows.{Tables}
use Rattle.model.specs.Calls.{Reached}
use Rattle.head.specs.declared.Head.{Head}
use Rattle.head.specs.Heads.{fresh_head}
use Rattle.model.specs.Promises.{world}
use Rattle.model.proofs.Reached.{reached_first}
use Rattle.tape_playback.specs.declared.Playback.{Playback}
use Rattle.table_starts.specs.Starts.{Long, Within, onward}

-- the buffers are as long as they are declared, the lines stand within the text and what has come of the tape within its buffer, and the book is
-- one that calls left
pub record Printing (t : Tables) (tape text : List ℕ) (playback : Playback) : Type 0 where
  pub columns : length t.columns ≡ 12288
  pub positions : length t.positions ≡ 2048
  pub lower_ends : length t.lower_ends ≡ 2048
  pub upper_ends : length t.upper_ends ≡ 2048
  pub tape_long : length tape ≡ 65536
  pub text_long : length text ≡ 311378
  pub fits : playback.used ≤ length text
  pub inside : playback.place ≤ playback.end
  pub come : playback.end ≤ length tape
  pub starts : Within 1023 playback.start
  pub reached : Reached (world playback.head (onward playback.start t) playback.watches)

-- the tables are long enough for the rows to slide through
pub slides_through : {t : Tables} {tape text : List ℕ} {playback : Playback} → Printing t tape text playback → Long t
slides_through p = record {
  columns = omega (arith, p.columns);
  positions = omega (arith, p.positions);
  lower_ends = omega (arith, p.lower_ends);
  upper_ends = omega (arith, p.upper_ends);
}

-- at first no call was made
pub first_reached : (t : Tables) (ws : List ℕ) {h : Head} → h ≡ fresh_head 0 0 0 → Reached (world h t ws)
first_reached t ws e = rw e (reached_first _)
