-- The list of n after a quote, read off the tables that the quote leaves: from their front, or from the rows that are left on.
use mathlib.Core.Path.{◌≡◌, refl, sym, ap, ◌∙◌}
use Prim.Native.Nat.{ℕ, ◌+◌, ◌-◌, ◌≤◌, ◌<◌}
use native.Mathlib.Omega.{arith}
use mathlib.Core.Bool.{Bool, true, false, cond}
use mathlib.Core.List.{List, []}
use lib.ListN.{length, get_or, take, drop, length-drop}
use lib.Seq.{take_all, get_or-take}
use Rattle.skyline.specs.Skyline.{window_start}
use Rattle.head.specs.declared.Head.{Head}
use Rattle.refusals.specs.Refusals.{first_of, granted}
use Rattle.head.specs.Replies.{Outcome}
use Rattle.model.specs.Rows.{Tables}
use Rattle.model.specs.Book.{list_of, reply_of, quote_head, quote_answer, quote_reply, quote_tables, look_cells, both_list}
use Rattle.model.proofs.LookAfter.{head_after_lem, judged_after}
use Rattle.model_claims.specs.Places.{SameFront}
use Rattle.table_listing.specs.Picked.{listed_at, listed_in}
use Rattle.table_listing.proofs.Picking.{picked_same}
use Rattle.call_judging.proofs.Answering.{Passed, InRange, answer_passed}
use Rattle.call_looking.proofs.Listing.{filled, list_cells, start_in}
use Rattle.call_quoting.specs.declared.Entered.{Entered}
use Rattle.call_quoting.specs.Entered.{later, Slid, stayed, slid, QuoteEntered}
use Rattle.call_quote_looking.specs.Looks.{first_place, list_after, Writable}

-- the rest of a table, as it is lent on
pub rest_is : (from : ℕ) (l : List ℕ) → take (length l - from) (drop from l) ≡ drop from l
rest_is from l = take_all (length l - from) (drop from l) (omega (arith, length-drop from l))

-- cells that agree at the front
front_at : {n : ℕ} {a b : List ℕ} → SameFront n a b → (i : ℕ) → i < n → get_or b i 0 ≡ get_or a i 0
front_at {n} {a} {b} s i l = sym (get_or-take n b i 0 l) ∙ ap (λ (c : List ℕ). get_or c i 0) s.same ∙ get_or-take n a i 0 l

-- the ends of the rows in tables u from a place on are those of tables t, for N rows
pub record SameEnds (N : ℕ) (t u : Tables) (from : ℕ) : Type 0 where
  pub lower_ends : SameFront N t.lower_ends (drop from u.lower_ends)
  pub upper_ends : SameFront N t.upper_ends (drop from u.upper_ends)

-- tables that are long enough
unmoved : {N : ℕ} {t u : Tables} → N ≤ length t.lower_ends → N ≤ length t.upper_ends → u ≡ t → SameEnds N t u 0
unmoved l k e = rw e (record { lower_ends = record { long = l; same = refl }; upper_ends = record { long = k; same = refl } })

-- a book that slid
slid_ends : {h : Head} {t u : Tables} {by : ℕ} → h.capacity ≤ length t.lower_ends → h.capacity ≤ length t.upper_ends → Slid h t u by
    → SameEnds h.capacity t u by
unfolding later
slid_ends l k (stayed e) = unmoved l k e
slid_ends l k (slid b s p) = record { lower_ends = p.lower_ends; upper_ends = p.upper_ends }

module _ (h : Head) (x : List ℕ) (t : Tables) (ws out : List ℕ) (accepted : quote_answer h x t ws (length out) ≡ 0) where
  -- the head and the tables after the quote
  abbrev next : Head
  next = quote_head h x t ws

  abbrev after : Tables
  after = quote_tables h x t ws (length out)

  passed_after : Passed next after
  unfolding first_of
  passed_after = (answer_passed next after [] (judged_after h x t ws (length out) accepted [])).0

  module _ (reachable : Bool) {s : Entered} {t' : Tables} {bytes : List ℕ} (m : QuoteEntered reachable h x t ws out s t' bytes) where
    -- the head that is handed back
    head_is : s.reply.head ≡ next
    unfolding quote_reply reply_of granted
    head_is = ap Outcome.head m.quoted.reply ∙ rw accepted

    -- the place at which the rows begin
    abbrev from : ℕ
    from = first_place reachable s.by

    -- their ends from there on
    same_ends : SameEnds next.capacity after t' from
    same_ends = go reachable refl
      where
        go : (b : Bool) → reachable ≡ b → SameEnds next.capacity after t' (cond b s.by 0)
        go false e = unmoved passed_after.long.lower_ends passed_after.long.upper_ends (m.moved e)
        go true e = slid_ends passed_after.long.lower_ends passed_after.long.upper_ends (rw head_is at (m.slides e))

    module _ {n : ℕ} (r : InRange h n) {start : ℕ} (starts : start ≡ window_start (h.newest + 1) n) where
      abbrev M : ℕ
      M = next.newest

      abbrev first : ℕ
      first = window_start M next.capacity

      -- the window of n after the quote
      start_after_lem : start ≡ window_start M n
      start_after_lem = starts ∙ rw (head_after_lem h x t ws (length out) accepted).0

      inside : (first ≤ start) × (start ≤ M + 1)
      inside =
          let e = (head_after_lem h x t ws (length out) accepted).3 in
          start_in next after passed_after (record { low = r.low; high = rw e r.high }) start_after_lem

      below : (i : ℕ) → i < M + 1 - first → i < next.capacity
      below i l = omega (arith, filled next after passed_after, passed_after.bounded_held)

      -- the list by the tables is the model's
      pub list_is : list_after reachable s start t'.lower_ends t'.upper_ends ≡ both_list h x n t ws (length out)
      unfolding list_after both_list look_cells list_of listed_in listed_at
      list_is =
          rw (head_is, ← start_after_lem)
          (picked_same (listed_at start M first (drop from t'.lower_ends) (drop from t'.upper_ends)) (listed_at start M first after.lower_ends after.upper_ends)
          first (M + 1 - first)
          (λ i l. rw (front_at same_ends.lower_ends i (below i l), front_at same_ends.upper_ends i (below i l)))
          ∙ sym (list_cells next after passed_after start M inside.0 inside.1 (omega arith)))

      -- and it may be written where there is room for it
      pub writable : {space : ℕ} → length (both_list h x n t ws (length out)) ≤ space → Writable reachable s start t'.lower_ends t'.upper_ends space
      unfolding window_start
      writable l =
          let some = passed_after.settings.some_capacity in
          let held = passed_after.bounded_held in
          let rows = filled next after passed_after in
          let lower_long = same_ends.lower_ends.long in
          let upper_long = same_ends.upper_ends.long in
          record {
            low_newest = rw head_is passed_after.whole.low_newest;
            lower_from = omega (arith, some, length-drop from t'.lower_ends, lower_long);
            upper_from = omega (arith, some, length-drop from t'.upper_ends, upper_long);
            window = rw head_is (record {
              starts = omega arith;
              low = inside.0;
              near = inside.1;
              lower_room = omega (arith, rows, held, lower_long);
              upper_room = omega (arith, rows, held, upper_long);
            });
            fits = rw list_is l;
          }
