-- The audit's rules, and the tape that leaves a book.
use Rattle.std.specs.Prelude.{◌≡◌, ◌↔◌, ℕ, zero, suc, ◌-◌, ◌*◌, ◌≤◌, Bool, true, false, ◌&&◌, ◌||◌, not, List, [], ◌∷◌, map, ltb, eqb, length, get_or, take, drop}
use Rattle.lists.specs.Lists.{filter, any, head_or, last_or}
use Rattle.head.specs.declared.Head.{Head}
use Rattle.refusals.specs.declared.Refusal.TheVariants.{Settings, ShortLoan}
use Rattle.refusals.specs.Refusals.{number, first_of}
use Rattle.head.specs.Replies.{Finding, yes, no, refused}
use Rattle.head.specs.Heads.{settings_hold}
use Rattle.model.specs.Rows.{Row, Tables, filled, over_older, over_younger}
use Rattle.model.specs.Reference.{Reference, unopened, ample, Told, head_of, rows_of, reference_step}
use Rattle.model.specs.Book.{short_tables, torn_rows, book_rows}
use Rattle.model.specs.Calls.{Open, Quote}

-- the largest value of a column
abbrev pub largest : ℕ
largest = 4294967295

-- each column holds what a cell can
abbrev pub Small : List ℕ → Type 0
Small x = (i : ℕ) → get_or x i 0 ≤ largest

-- the cells from one place up to another are 0
unfoldable pub zero_from : ℕ → ℕ → List ℕ → Bool
zero_from a b cells = not (any (ltb 0) (take (b - a) (drop a cells)))

module _ (d directions : ℕ) (rs : List Row) where
  -- the lower end that this row is to have: the youngest older row that is over it, or 0
  unfoldable pub right_lower : Row → ℕ
  right_lower r = last_or 0 (map Row.position (filter (λ q. ltb q.position r.position && over_younger d directions q r.columns) rs))

  -- the upper end that this row is to have: the oldest younger row that is over it, or 0
  unfoldable pub right_upper : Row → ℕ
  right_upper r = head_or 0 (map Row.position (filter (λ q. ltb r.position q.position && over_older d directions q.columns r) rs))

  -- an end of this row is not as the columns ask
  unfoldable pub wrong_end : Row → Bool
  wrong_end r = not (eqb r.lower_end (right_lower r)) || not (eqb r.upper_end (right_upper r))

-- the rules of the audit, on a head and tables that are not refused
unfoldable pub passes : Head → Tables → Bool
passes h t =
    let d = h.dimensions in
    let N = h.capacity in
    let rs = book_rows h t in
    not (torn_rows h rs)
    && not (any (wrong_end d h.directions rs) rs)
    && (zero_from (h.held * d) (N * d) t.columns && zero_from h.held N t.positions
    && zero_from h.held N t.lower_ends && zero_from h.held N t.upper_ends)

-- yes or no by the rules, unless refused with this number
unfoldable pub finding_of : ℕ → Bool → Finding
finding_of zero true = yes
finding_of zero false = no
finding_of (suc k) b = refused (suc k)

-- what the audit says: 3, then 11, else by its rules
unfoldable pub audit_finding : Head → Tables → Finding
audit_finding h t =
    let d = h.dimensions in
    let N = h.capacity in
    finding_of (first_of ((not (settings_hold d N h.directions), number Settings) ∷ (short_tables t d N, number ShortLoan) ∷ [])) (passes h t)

-- the opening of a tape with a head's settings, by the reference model
unfoldable pub tape_opening : Head → Told
tape_opening h = reference_step (Open h.dimensions h.capacity h.directions) ample unopened

-- the reference model after these quotes
unfoldable pub plays : List (List ℕ) → Reference → Reference
plays [] s = s
plays (x ∷ xs) s = plays xs (reference_step (Quote x) ample s).next

-- a tape that leaves this newest position, these counts and these N places of each table: an accepted opening with the head's settings, and M quotes; that the
-- newest position is M says that every quote was accepted
pub record Tape (h : Head) (t : Tables) : Type 0 where
  pub quotes : List (List ℕ)
  pub values : (k : ℕ) → Small (get_or quotes k [])
  pub accepted : (tape_opening h).number ≡ 0
  pub count : length quotes ≡ h.newest
  pub newest : (head_of (plays quotes (tape_opening h).next)).newest ≡ h.newest
  pub live : (head_of (plays quotes (tape_opening h).next)).live ≡ h.live
  pub held : (head_of (plays quotes (tape_opening h).next)).held ≡ h.held
  pub tables : filled h.dimensions h.capacity (rows_of (plays quotes (tape_opening h).next)) t ≡ t

-- what an audit finds: what its rules say, and yes exactly if some tape leaves the book
pub record Audited (h : Head) (t : Tables) (finding : Finding) : Type 0 where
  pub found : finding ≡ audit_finding h t
  pub tape : (finding ≡ yes) ↔ Tape h t
