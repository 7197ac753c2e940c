-- What a quote leaves of the tables: in a reachable book no row is moved, and where the oldest one expires the rows are those from one place
-- later on.
use Rattle.std.specs.Prelude.{◌≡◌, ℕ, ◌+◌, ◌*◌, ◌≤◌, Bool, true, false, List, [], ◌∷◌, length, drop}
use Rattle.head.specs.declared.Head.{Head}
use Rattle.head.specs.Heads.{settings_hold}
use Rattle.refusals.specs.Refusals.{granted}
use Rattle.model.specs.Rows.{Tables, expiring}
use Rattle.model_claims.specs.Places.{SamePlaces}
use Rattle.model.specs.Book.{quote_answer, quote_tables}
use Rattle.model.specs.Promises.{tables, Quoted}
use Rattle.call_settling.specs.Findings.{expired_places, position_of, retired_places, youngest_over, named_before}
use Rattle.call_settling.specs.Settled.{rows_settled, lowers_settled, uppers_settled}
use Rattle.call_quoting.specs.declared.Entered.{Entered}

-- the tables, of d columns a row, from so many places on
unfoldable pub later : ℕ → ℕ → Tables → Tables
later d by t = tables (drop (by * d) t.columns) (drop by t.positions) (drop by t.lower_ends) (drop by t.upper_ends)

-- a book with this head that stands in tables t stands in tables u so many places on: they are the same and nothing slid, or an opening
-- was accepted and its N places there hold what those of t hold
pub data Slid (h : Head) (t u : Tables) : ℕ → Type 0 where
  stayed : u ≡ t → Slid h t u 0
  slid : {by : ℕ} → by ≤ 1 → settings_hold h.dimensions h.capacity h.directions ≡ true
      → SamePlaces h.dimensions h.capacity t (later h.dimensions by u) → Slid h t u by

-- the tables of a reachable book with the row of quote x behind the others
unfoldable pub row_behind : Head → List ℕ → Tables → Tables
row_behind h x t =
    let g = expiring h.newest h.capacity in
    let lower = position_of h (youngest_over h x t.columns t.upper_ends) in
    tables (rows_settled h true h.dimensions (expired_places h) x t.columns)
    (rows_settled h true 1 (expired_places h) ((h.newest + 1) ∷ []) t.positions)
    (lowers_settled h true (expired_places h) g (named_before h t.upper_ends) lower t.lower_ends)
    (uppers_settled h true (expired_places h) (retired_places h x t.columns t.upper_ends) t.upper_ends)

-- what quote x hands back and leaves on tables t: where nothing is known of them, what the book model says; in a reachable book its row
-- behind the others, so that the book which it leaves stands in the tables so many places on. Refused, all is as it was
pub record QuoteEntered (reachable : Bool) (h : Head) (x : List ℕ) (t : Tables) (ws before : List ℕ) (s : Entered) (t' : Tables) (after : List ℕ) : Type 0 where
  pub quoted : Quoted h x t ws before s.reply (quote_tables h x t ws (length before)) after
  pub moved : reachable ≡ false → t' ≡ quote_tables h x t ws (length before)
  pub behind : reachable ≡ true → t' ≡ granted (quote_answer h x t ws (length before)) (row_behind h x t) t
  pub later_by : reachable ≡ true → s.by ≡ granted (quote_answer h x t ws (length before)) (expired_places h) 0
  pub slides : reachable ≡ true → Slid s.reply.head (quote_tables h x t ws (length before)) t' s.by
