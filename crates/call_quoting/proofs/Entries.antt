-- A quote entered by what was found: where each table has room, and that the rows which it leaves are those of the book model, moved, or from
-- the rows that are left on.
use Rattle.std.specs.Prelude.{Result, Err}
use mathlib.Core.Path.{◌≡◌, refl, sym, ap, ◌∙◌}
use Prim.Native.Nat.{ℕ, ◌+◌, ◌-◌, ◌*◌, ◌≤◌, ◌<◌}
use native.Mathlib.Nat.{mul-le-mul}
use native.Mathlib.Omega.{arith}
use mathlib.Core.Bool.{Bool, true, false}
use mathlib.Core.List.{List, [], ◌∷◌}
use lib.ListN.{length, take, drop}
use borrow.Author.Tests.{lt-ltb}
use Rattle.lists.specs.Lists.{laid}
use Rattle.lists.proofs.Booleans.{clash}
use Rattle.head.specs.declared.Head.{Head}
use Rattle.refusals.specs.declared.Refusal.{Refusal}
use Rattle.head.specs.declared.replies.Reply.{Reply}
use Rattle.head.specs.Replies.{refusing}
use Rattle.head.specs.Heads.{settings_hold, last_position, after_quote}
use Rattle.refusals.specs.Refusals.{number_of, granted}
use Rattle.refusals.proofs.Numbers.{accepted_granted}
use Rattle.model.specs.Rows.{Tables}
use Rattle.model_claims.specs.Places.{SamePlaces}
use Rattle.model.specs.Book.{quote_answer, quote_tables}
use Rattle.model.specs.Promises.{tables}
use Rattle.model.proofs.Replying.{refused_left}
use Rattle.call_settling.specs.declared.Finding.{Finding}
use Rattle.call_settling.specs.Findings.{held_rows, named_before, named_if}
use Rattle.call_settling.specs.Settled.{rows_put, lowers_put, uppers_put, rows_settled, lowers_settled, uppers_settled, Ready}
use Rattle.call_settling.proofs.Standing.{within, places}
use Rattle.call_settling.proofs.Findings.{found_by, found_gone, found_named}
use Rattle.call_settling.proofs.Numbers.{named_most}
use Rattle.call_settling.proofs.Putting.{put_rows, put_lowers, put_uppers}
use Rattle.call_settling.proofs.Settled.{ready_columns, ready_positions, ready_lowers, ready_uppers, settled, placed}
use Rattle.call_settling.proofs.Reaching.{reached_clear, reached_unnamed}
use Rattle.call_writing.specs.Bytes.{change_bytes, accepted_reply}
use Rattle.call_quoting.specs.Known.{Known}
use Rattle.call_quoting.specs.Entered.{later, Slid, stayed, slid, row_behind, QuoteEntered}
use Rattle.call_quoting.proofs.Quotes.{Entering, book, retired_low, retired_is, uppers_settled_lem, quote_done, quote_refused}
use Rattle.call_quoting.proofs.Behind.{rows_slid, cells_slid, lowers_slid, uppers_slid}

-- the head that an accepted quote hands back has the same settings
slid_head : (h : Head) (live held : ℕ) {by : ℕ} {t u : Tables} → h.newest < last_position → by ≤ 1 → settings_hold h.dimensions h.capacity h.directions ≡ true
    → SamePlaces h.dimensions h.capacity t (later h.dimensions by u) → Slid (after_quote h live held) t u by
unfolding after_quote
slid_head h live held below bounded holds same = rw (lt-ltb h.newest last_position below) (slid bounded holds same)

-- ---- an accepted quote

module _ {h : Head} {x : List ℕ} {t : Tables} {ws : List ℕ} {room : ℕ} {f : Finding} {ps : List ℕ} (v : Entering h x t ws room f ps) (w : Known f.reachable h t ws) where
  -- each table has room
  pub columns_ready : Ready h f.reachable h.dimensions f.by t.columns
  columns_ready =
      ready_columns (book v) v.finds
      (λ e. omega (arith, mul-le-mul (within (book v)).small_capacity (within (book v)).bounded_columns, (within (book v)).bounded_columns, (w.roomy e).columns))

  cell_room : {n : ℕ} → 1025 ≤ n → h.capacity + 1 ≤ n
  cell_room l = omega (arith, (within (book v)).small_capacity)

  pub positions_ready : Ready h f.reachable 1 f.by t.positions
  positions_ready = ready_positions (book v) v.finds (λ e. cell_room (w.roomy e).positions)

  pub lowers_ready : Ready h f.reachable 1 f.by t.lower_ends
  lowers_ready = ready_lowers (book v) v.finds (λ e. cell_room (w.roomy e).lower_ends)

  pub uppers_ready : Ready h f.reachable 1 f.by t.upper_ends
  uppers_ready = ready_uppers (book v) v.finds (λ e. cell_room (w.roomy e).upper_ends)

  -- the lower ends that may name the expired position are those of rows held
  pub named_held : f.named ≤ h.held
  named_held = rw (found_named (book v) v.finds) (named_most f.reachable (placed (book v)))

  -- the places of the retired rows
  abbrev retired : List ℕ
  retired = take (length ps - f.at) (drop f.at ps)

  -- the tables as they would have been moved
  abbrev put : Tables
  put = tables (rows_put h h.dimensions f.by x t.columns) (rows_put h 1 f.by ((h.newest + 1) ∷ []) t.positions) (lowers_put h f.by f.gone f.lower t.lower_ends) (uppers_put h f.by retired t.upper_ends)

  -- all held places may hold such a lower end, in any book
  named_any : f.reachable ≡ false → f.named ≡ h.held
  unfolding named_if
  named_any e = rw e at (found_named (book v) v.finds)

  -- those before the expired row's upper end, in a reachable one
  named_some : f.reachable ≡ true → f.named ≡ named_before h t.upper_ends
  unfolding named_if
  named_some e = rw e at (found_named (book v) v.finds)

  module _ {cs qs ls us : List ℕ} (c : cs ≡ rows_settled h f.reachable h.dimensions f.by x t.columns) (q : qs ≡ rows_settled h f.reachable 1 f.by ((h.newest + 1) ∷ []) t.positions)
      (l : ls ≡ lowers_settled h f.reachable f.by f.gone f.named f.lower t.lower_ends) (u : us ≡ uppers_settled h f.reachable f.by retired t.upper_ends) where
    -- in any book they are moved
    pub moved_is : f.reachable ≡ false → tables cs qs ls us ≡ put
    moved_is e =
        rw (
          put_rows h h.dimensions f.by x t.columns e c,
          put_rows h 1 f.by ((h.newest + 1) ∷ []) t.positions e q,
          put_lowers f.gone f.named f.lower lowers_ready e (named_any e) l,
          put_uppers retired uppers_ready (retired_low v) e u,
        )

    -- in a reachable one the row is put behind the others
    pub behind_is : f.reachable ≡ true → tables cs qs ls us ≡ row_behind h x t
    unfolding row_behind
    behind_is e =
        let g = v.finds in
        rw (c, q, l, u, e, retired_is v, g.listed, found_by (book v) g, found_gone (book v) g, named_some e, ap Finding.lower g.tells)

    -- and from the rows that are left on they are those that would have been moved
    pub behind_same : f.reachable ≡ true → SamePlaces h.dimensions h.capacity put (later h.dimensions f.by (tables cs qs ls us))
    unfolding later
    behind_same e =
        let a = book v in
        let g = v.finds in
        let z = reached_clear (w.reached e) (within a).some_capacity in
        record {
          columns = rows_slid (rw e at columns_ready) z.columns (found_by a g) x a.wide (rw e at c);
          positions = cells_slid (rw e at positions_ready) z.positions (found_by a g) (h.newest + 1) (rw e at q);
          lower_ends = lowers_slid (rw e at lowers_ready) z.lower_ends (found_by a g) f.lower (rw (named_some e, found_gone a g) (reached_unnamed (w.reached e) (within a).some_capacity)) (rw e at l);
          upper_ends = uppers_slid (rw e at uppers_ready) z.upper_ends (found_by a g) (retired_low v) (rw e at u);
        }

-- what is handed back by what was found
pub entered : {h : Head} {x : List ℕ} {t : Tables} {ws : List ℕ} {f : Finding} {ps : List ℕ} (out : List ℕ) (v : Entering h x t ws (length out) f ps) → Known f.reachable h t ws
    → {after : List ℕ} {count : ℕ} {r : Reply} → count ≡ length (change_bytes h f.lower t.lower_ends (held_rows h x t.columns t.upper_ends) ws)
    → r ≡ accepted_reply h f.live f.held count → after ≡ laid (change_bytes h f.lower t.lower_ends (held_rows h x t.columns t.upper_ends) ws) out
    → {cs qs ls us : List ℕ} → cs ≡ rows_settled h f.reachable h.dimensions f.by x t.columns → qs ≡ rows_settled h f.reachable 1 f.by ((h.newest + 1) ∷ []) t.positions
    → ls ≡ lowers_settled h f.reachable f.by f.gone f.named f.lower t.lower_ends → us ≡ uppers_settled h f.reachable f.by (take (length ps - f.at) (drop f.at ps)) t.upper_ends
    → QuoteEntered f.reachable h x t ws out (record { reply = r; by = f.by }) (tables cs qs ls us) after
entered {h} {x} {t} {ws} {f} out v w c e o cs qs ls us =
    let a = book v in
    let done = quote_done out v c e o (settled a v.finds refl refl refl (uppers_settled_lem v refl)) in
    record {
      quoted = record { reply = done.reply; lent = refl; out = done.out };
      moved = λ k. moved_is v w cs qs ls us k ∙ done.lent;
      behind = λ k. behind_is v w cs qs ls us k ∙ sym (accepted_granted (quote_answer h x t ws (length out)) v.accepted (row_behind h x t) t);
      later_by = λ k. found_by a v.finds ∙ sym (accepted_granted (quote_answer h x t ws (length out)) v.accepted _ 0);
      slides = λ k. rw (e, ← done.lent) (slid_head h f.live f.held a.below (rw (found_by a v.finds) (places a).0) a.passed.held (behind_same v w cs qs ls us k));
    }

-- ---- a refused one

pub entry_refused : (reachable : Bool) (h : Head) (x : List ℕ) (t : Tables) (ws out : List ℕ) {a : Result (Unit {0}) Refusal} {k : Refusal} → number_of a ≡ quote_answer h x t ws (length out) → a ≡ Err k
    → {r : Reply} → r ≡ refusing k h → QuoteEntered reachable h x t ws out (record { reply = r; by = 0 }) t out
entry_refused reachable h x t ws out {k = k} e f g =
    let refused : number_of (Err k) ≡ quote_answer h x t ws (length out) = ap number_of (sym f) ∙ e in
    let done = quote_refused h x t ws out refused refl in
    rw g (record {
      quoted = record { reply = done.reply; lent = refl; out = done.out };
      moved = λ k. done.lent;
      behind = λ k. refused_left refused refl t (row_behind h x t);
      later_by = λ k. refused_left refused refl 0 _;
      slides = λ k. stayed done.lent;
    })
