-- What each call promises: what it hands back and the final contents of everything lent, as the book model says.
use Rattle.std.specs.Prelude.{◌≡◌, ℕ, List, [], ◌∷◌, length}
use Rattle.head.specs.declared.Head.{Head}
use Rattle.head.specs.declared.Desk.{Desk}
use Rattle.head.specs.declared.replies.Reply.{Reply}
use Rattle.head.specs.declared.replies.Effect.{Effect}
use Rattle.head.specs.declared.replies.BothReply.{BothReply}
use Rattle.head.specs.Replies.{outcome}
use Rattle.model.specs.Rows.{Tables}
use Rattle.model.specs.Book
use Rattle.model.specs.Calls.{World}

-- the four lent tables
abbrev pub tables : List ℕ → List ℕ → List ℕ → List ℕ → Tables
tables columns positions lower_ends upper_ends =
    record { columns = columns; positions = positions; lower_ends = lower_ends; upper_ends = upper_ends }

-- a book: the head, the lent tables and the watches
abbrev pub world : Head → Tables → List ℕ → World
world h t ws = record { head = h; lent = record { tables = t; watches = ws } }

-- what an opening with these settings leaves of tables t and watches ws
pub record Opened (d N directions : ℕ) (t : Tables) (ws : List ℕ) (r : Reply) (t' : Tables) (ws' : List ℕ) : Type 0 where
  pub reply : outcome r ≡ Book.open_reply d N directions t ws
  pub lent : t' ≡ Book.open_tables d N directions t ws
  pub watches : ws' ≡ Book.open_watches d N directions t ws

-- what quote x leaves of tables t and output
pub record Quoted (h : Head) (x : List ℕ) (t : Tables) (ws before : List ℕ) (r : Reply) (t' : Tables) (after : List ℕ) : Type 0 where
  pub reply : outcome r ≡ Book.quote_reply h x t ws (length before)
  pub lent : t' ≡ Book.quote_tables h x t ws (length before)
  pub out : after ≡ Book.quote_out h x t ws before

-- what a look at the list of n leaves of the output
pub record Looked (h : Head) (n : ℕ) (t : Tables) (before : List ℕ) (r : Reply) (after : List ℕ) : Type 0 where
  pub reply : outcome r ≡ Book.look_reply h n t (length before)
  pub out : after ≡ Book.look_out h n t before

-- what a look at the past list of n1 and n2 leaves of the output
pub record PastLooked (h : Head) (n1 n2 : ℕ) (t : Tables) (before : List ℕ) (r : Reply) (after : List ℕ) : Type 0 where
  pub reply : outcome r ≡ Book.past_reply h n1 n2 t (length before)
  pub out : after ≡ Book.past_out h n1 n2 t before

-- what a desk's watch of n leaves of watches ws and output
pub record Watched (h : Head) (desk : Desk) (n : ℕ) (t : Tables) (ws before : List ℕ) (r : Reply) (ws' after : List ℕ) : Type 0 where
  pub reply : outcome r ≡ Book.watch_reply h desk n t ws (length before)
  pub watches : ws' ≡ Book.watch_watches h desk n t ws (length before)
  pub out : after ≡ Book.watch_out h desk n t ws before

-- what the end of a desk's watch of n leaves of watches ws
pub record Ended (h : Head) (desk : Desk) (n : ℕ) (t : Tables) (ws : List ℕ) (r : Reply) (ws' : List ℕ) : Type 0 where
  pub reply : outcome r ≡ Book.end_reply h desk n t ws
  pub watches : ws' ≡ Book.end_watches h desk n t ws

-- what a watch of the pair n1 and n2 leaves of the output; tables and watches stay
pub record Paired (h : Head) (n1 n2 : ℕ) (t : Tables) (ws before : List ℕ) (r : Reply) (after : List ℕ) : Type 0 where
  pub reply : outcome r ≡ Book.pair_reply h n1 n2 t ws (length before)
  pub out : after ≡ Book.pair_out h n1 n2 t ws before

-- what the end of the pair hands back; everything lent stays
pub record Unpaired (h : Head) (t : Tables) (ws : List ℕ) (r : Reply) : Type 0 where
  pub reply : outcome r ≡ Book.unpair_reply h t ws

-- what a look at what is due leaves of the output
pub record DueLooked (h : Head) (t : Tables) (before : List ℕ) (r : Reply) (after : List ℕ) : Type 0 where
  pub reply : outcome r ≡ Book.due_reply h t (length before)
  pub out : after ≡ Book.due_out h t before

-- what a preview of quote x leaves of the output; tables and watches stay
pub record Previewed (h : Head) (x : List ℕ) (t : Tables) (ws before : List ℕ) (e : Effect) (after : List ℕ) : Type 0 where
  pub reply : outcome e.reply ≡ Book.preview_reply h x t ws (length before)
  pub counts : e.live ∷ e.held ∷ [] ≡ Book.preview_counts h x t ws (length before)
  pub out : after ≡ Book.preview_out h x t ws before

-- what quote x and, behind it, a look at the list of n, in one, leave of tables t and of both outputs
pub record QuotedLooked (h : Head) (x : List ℕ) (n : ℕ) (t : Tables) (ws before cells : List ℕ) (r : BothReply) (t' : Tables) (after cells' : List ℕ) : Type 0 where
  pub reply : outcome r.reply ≡ Book.both_reply h x n t ws (length before) (length cells)
  pub listed : r.listed ≡ Book.both_listed h x n t ws (length before) (length cells)
  pub lent : t' ≡ Book.both_tables h x n t ws (length before) (length cells)
  pub out : after ≡ Book.both_out h x n t ws before (length cells)
  pub positions : cells' ≡ Book.both_cells h x n t ws (length before) cells
