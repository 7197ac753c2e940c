-- The changes told by the rows held are those of the model, on any rows that are not torn.
use mathlib.Core.Path.{◌≡◌, refl, sym, ap, ap₂, ◌∙◌}
use mathlib.Core.Logic.{◌⊎◌, inl, inr}
use Prim.Native.Nat.{ℕ, suc, ◌+◌, ◌≤◌, ◌<◌}
use native.Mathlib.Nat.{zero-add}
use native.Mathlib.Decide.{dec_lt}
use native.Mathlib.Omega.{arith}
use mathlib.Core.Bool.{Bool, true, false, ◌&&◌, not, cond}
use mathlib.Core.List.{List, [], ◌∷◌, ◌++◌, map, Memᴰ}
use lib.Dec.{ltb, eqb}
use lib.ListN.{get_or, take}
use borrow.Author.Tests.{lt-ltb, le-ltb}
use Rattle.lists.specs.Lists.{keep, filter, flat, run}
use Rattle.lists.proofs.Members.{mem_none, into_map, of_map}
use Rattle.lists.proofs.Runs.{into_run, of_run}
use Rattle.skyline.specs.Skyline.{window_start, stabbed}
use Rattle.skyline.specs.Past.{covers}
use Rattle.skyline.proofs.Past.{covers_live}
use Rattle.head.specs.declared.Head.{Head}
use Rattle.head.specs.Heads.{after_quote, last_position}
use Rattle.head.specs.Desks.{size_in}
use Rattle.frames.specs.declared.Message.{Message}
use Rattle.frames.specs.declared.Message.TheVariants.{Change}
use Rattle.model.specs.Rows.{Row, Tables, row_at, rows_in, listed, expiring, over_older, lower_end_among, rows_after}
use Rattle.model.specs.Changes.{changes_by, changes, all_changes, frames}
use Rattle.model.specs.Book.{torn_watches, book_rows, standing, list_of, quote_rows, quote_head}
use Rattle.model.proofs.Torn.{Whole, upper_astray, upper_place}
use Rattle.table_listing.proofs.UntornLists.{list_after_lem}
use Rattle.table_finding.specs.Found.{live, Rows, rows, over}
use Rattle.table_finding.specs.Found as found
use Rattle.table_listing.specs.Picked.{picked}
use Rattle.table_listing.proofs.Listing.{Consecutive, whole_consecutive, rows_picked}
use Rattle.model.proofs.ChangeFrames.{frames_append}
use Rattle.table_changes.specs.declared.Shift.{Shift}
use Rattle.table_changes.specs.declared.kinds.Kinds.{Kinds}
use Rattle.table_changes.specs.Kinds.{kinds_of}
use Rattle.table_changes.specs.Held.{Held, stands, was_listed, now_listed, moves, moving, joining, changed}
use Rattle.table_changes.specs.Watches.{shift_of, held_in, Sized, watch_frames, all_frames}
use Rattle.table_changes.proofs.Distinct.{missing_picked, missing_behind}
use Rattle.table_changes.proofs.Records.{watches_sized}
use Rattle.table_changes.proofs.Watching.{watch_none, watch_some}

-- a book that is not torn, with space for a quote, and the lower end of the quote's row
module _ (h : Head) (t : Tables) (x : List ℕ) (lower : ℕ) (whole : Whole h (book_rows h t)) (space : h.newest < last_position) (some : 1 ≤ h.capacity)
    (sought : lower ≡ lower_end_among h.dimensions h.directions x (filter (λ r. not (eqb r.position (expiring h.newest h.capacity))) (book_rows h t))) where
  abbrev M : ℕ
  M = h.newest

  abbrev d : ℕ
  d = h.dimensions

  abbrev rs : List Row
  rs = book_rows h t

  -- the rows and the quote, as they are lent
  abbrev pub lent : Rows
  lent = rows d h.directions t.columns t.upper_ends x

  abbrev s : Held
  s = held_in h t.lower_ends lent

  abbrev first : ℕ
  first = window_start M h.capacity

  places : Consecutive first h.held t.positions
  places = (whole_consecutive h t whole).0

  filled : M + 1 ≡ first + h.held
  filled = (whole_consecutive h t whole).1

  -- the row at a place is one of the rows
  member : (i : ℕ) → i < h.held → Memᴰ (row_at d t i) rs
  unfolding book_rows rows_in
  member i l = into_map (row_at d t) i (run 0 h.held) (into_run 0 h.held i (omega arith) (omega arith))

  placed : (r : Row) → Memᴰ r rs → r.position ≤ M
  unfolding book_rows rows_in row_at
  placed r m =
      let at = of_map (row_at d t) r (run 0 h.held) m in
      let low : at.0 < h.held = rw zero-add at (of_run 0 h.held at.0 at.1).1 in
      let is : r.position ≡ first + at.0 = ap Row.position at.2 ∙ places.at at.0 low in
      omega (arith, filled)

  upper_low : (i : ℕ) → i < h.held → get_or t.upper_ends i 0 ≤ M
  unfolding row_at
  upper_low i l = go (upper_place M (row_at d t i) (mem_none (upper_astray M) (row_at d t i) rs (member i l) whole.upper_ends_lem))
    where
      go : (get_or t.upper_ends i 0 ≡ 0) ⊎ ((get_or t.positions i 0 < get_or t.upper_ends i 0) × (get_or t.upper_ends i 0 ≤ M)) → get_or t.upper_ends i 0 ≤ M
      go (inl e) = omega arith
      go (inr p) = p.1

  -- a row is on the list of a window up to the newest if it is live and the start stabs it
  pub on_list_lem : (a i : ℕ) → i < h.held → covers a M (get_or t.lower_ends i 0) (get_or t.positions i 0) (get_or t.upper_ends i 0) ≡ live t.upper_ends i && stabbed a (get_or t.lower_ends i 0) (first + i)
  unfolding live
  on_list_lem a i l =
      rw (places.at i l)
      (covers_live a M (get_or t.lower_ends i 0) (first + i) (get_or t.upper_ends i 0) (omega (arith, filled)) (upper_low i l))

  module _ (n : ℕ) (least : 0 < n) (most : n ≤ h.capacity) where
    abbrev w : Shift
    w = shift_of M n

    abbrev was : ℕ → Bool
    was = was_listed s w

    abbrev is : ℕ → Bool
    is = now_listed s w

    -- the list before the quote
    before_is : listed w.before M rs ≡ picked was first h.held
    unfolding listed book_rows was_listed row_at
    before_is =
        rows_picked first d h.held t places (λ r. covers w.before M r.lower_end r.position r.upper_end) was (λ i l. on_list_lem w.before i l)

    -- a row is on the list after if it was, but for the start, and the quote is not over it
    now_on : (i : ℕ) → i < h.held → covers w.after M (get_or t.lower_ends i 0) (get_or t.positions i 0) (get_or t.upper_ends i 0) && not (over_older d h.directions x (row_at d t i)) ≡ is i
    unfolding now_listed stands over_older over row_at found.row_at
    now_on i l = rw (on_list_lem w.after i l) (go (live t.upper_ends i) (stabbed w.after (get_or t.lower_ends i 0) (first + i)) (over lent i))
      where
        go : (a k o : Bool) → (a && k) && not o ≡ (a && not o) && k
        go true true true = refl
        go true true false = refl
        go true false true = refl
        go true false false = refl
        go false k o = refl

    -- the list after the quote
    pub after_is : listed w.after (M + 1) (rows_after d h.directions h.capacity M x rs) ≡ picked is first h.held ++ keep (ltb lower w.after) (first + h.held) []
    unfolding shift_of window_start expiring book_rows row_at
    after_is =
        list_after_lem d h.directions h.capacity M x rs placed whole.upper_ends_lem w.after (omega arith) (omega arith)
        ∙ ap₂ {C = List ℕ} (λ (l m : List ℕ). l ++ m) olds new
      where
        on : Row → Bool
        on r = covers w.after M r.lower_end r.position r.upper_end && not (over_older d h.directions x r)

        olds : map Row.position (filter on rs) ≡ picked is first h.held
        olds = rows_picked first d h.held t places on is (λ i l. now_on i l)

        new : cond (ltb (lower_end_among d h.directions x (filter (λ r. not (eqb r.position (expiring M h.capacity))) rs)) w.after) ((M + 1) ∷ []) [] ≡ keep (ltb lower w.after) (first + h.held) []
        new = rw (← sought) (go (ltb lower w.after) (M + 1) (first + h.held) filled)
          where
            go : (b : Bool) (p q : ℕ) → p ≡ q → cond b (p ∷ []) [] ≡ keep b q []
            go true p q e = rw e
            go false p q e = refl

    -- the changes told by the rows are those between the model's lists
    changed_is : (kinds : Kinds) (m : ℕ)
        → changed s w lower kinds m ≡ changes_by (Change kinds.leave m) (Change kinds.join m) (listed w.before M rs) (listed w.after (M + 1) (rows_after d h.directions h.capacity M x rs))
    unfolding changed changes_by moving joining moves
    changed_is kinds m =
        rw (before_is, after_is, missing_picked first h.held is was (ltb lower w.after), missing_behind first h.held was is (ltb lower w.after))

  -- the frames of one watch are those of the model's changes
  watch_frames_lem : (all : List ℕ) (watch : ℕ) → Sized h.capacity watch → 0 < watch
      → watch_frames h t.lower_ends lent lower watch ≡ frames (changes watch (list_of h rs (size_in watch)) (list_of (quote_head h x t all) (quote_rows h x t all) (size_in watch)))
  unfolding list_of quote_head quote_rows after_quote shift_of changes kinds_of
  watch_frames_lem all watch fit some =
      watch_some h t.lower_ends lent lower watch (λ e. omega arith) refl refl refl
      ∙ ap frames (changed_is (size_in watch) (fit.least some) fit.most (kinds_of watch) (size_in watch))
      ∙ rw (lt-ltb M last_position space)

  module _ (all : List ℕ) where
    -- the model's changes of these watches
    abbrev messages : List ℕ → List Message
    messages ws = all_changes ws (list_of h rs) (list_of (quote_head h x t all) (quote_rows h x t all))

    records_frames : (ws : List ℕ) → ((i : ℕ) → Sized h.capacity (get_or ws i 0)) → all_frames h t.lower_ends lent lower ws ≡ frames (messages (filter (ltb 0) ws))
    unfolding all_frames all_changes frames flat filter
    records_frames [] fit = refl
    records_frames (watch ∷ ws) fit = go (dec_lt 0 watch) (records_frames ws (λ i. fit (suc i)))
      where
        C : List Message
        C = changes watch (list_of h rs (size_in watch)) (list_of (quote_head h x t all) (quote_rows h x t all) (size_in watch))

        go : Dec (0 < watch) → all_frames h t.lower_ends lent lower ws ≡ frames (messages (filter (ltb 0) ws))
            → all_frames h t.lower_ends lent lower (watch ∷ ws) ≡ frames (messages (keep (ltb 0 watch) watch (filter (ltb 0) ws)))
        go (yes l) e =
            rw (lt-ltb 0 watch l, watch_frames_lem all watch (fit 0) l)
            (ap (λ (r : List ℕ). frames C ++ r) e ∙ sym (frames_append C (messages (filter (ltb 0) ws))))
        go (no l) e = rw (le-ltb 0 watch (omega arith), watch_none h t.lower_ends lent lower watch (omega arith)) e

  -- the frames of the first eight records are those of the model's changes of every watch
  pub quote_frames : (ws : List ℕ) → torn_watches h.capacity ws ≡ false
      → all_frames h t.lower_ends lent lower (take 8 ws) ≡ frames (all_changes (standing ws) (list_of h rs) (list_of (quote_head h x t ws) (quote_rows h x t ws)))
  unfolding standing
  quote_frames ws e = records_frames ws (take 8 ws) (watches_sized h.capacity ws e)
