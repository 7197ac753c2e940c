-- What a watch and its end hand back and leave before the watches change.
use Rattle.std.specs.Prelude.{◌≡◌, ℕ, List, length}
use Rattle.head.specs.declared.Head.{Head}
use Rattle.head.specs.declared.Desk.{Desk}
use Rattle.head.specs.declared.replies.Reply.{Reply}
use Rattle.head.specs.Replies.{outcome}
use Rattle.model.specs.Rows.{Tables}
use Rattle.model.specs.Book.{watch_reply, watch_out, end_reply}

-- a desk's watch of n is answered so and leaves the output so; accepted, n is inserted after it
pub record WatchJudged (h : Head) (desk : Desk) (n : ℕ) (t : Tables) (ws before : List ℕ) (r : Reply) (after : List ℕ) : Type 0 where
  pub reply : outcome r ≡ watch_reply h desk n t ws (length before)
  pub out : after ≡ watch_out h desk n t ws before

-- the end of a desk's watch of n is answered so; accepted, n is removed after it
pub record EndJudged (h : Head) (desk : Desk) (n : ℕ) (t : Tables) (ws : List ℕ) (r : Reply) : Type 0 where
  pub reply : outcome r ≡ end_reply h desk n t ws
