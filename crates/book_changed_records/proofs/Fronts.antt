-- What a call leaves of lent records is told by the first eight of them: it is what the call leaves of those, with the rest behind.
use mathlib.Core.Path.{◌≡◌, refl, sym, ◌∙◌, ap}
use Prim.Native.Nat.{ℕ, zero, suc, ◌-◌, ◌≤◌}
use native.Mathlib.Omega.{arith}
use mathlib.Core.Bool.{Bool, true, false}
use mathlib.Core.List.{List, [], ◌∷◌, ◌++◌, append_assoc, append-nil}
use lib.Dec.{ltb}
use lib.ListN.{length, take, drop, replicate, length-map, length-take, take-append-drop, drop_of_length-le}
use lib.Seq.{take_all, take-nil}
use borrow.Author.Tests.{ltb-false}
use Rattle.lists.specs.Lists.{insert, without, laid, padded}
use Rattle.lists.proofs.Booleans.{none_right}
use Rattle.head.specs.declared.Head.{Head}
use Rattle.head.specs.declared.Desk.{Desk}
use Rattle.head.specs.declared.Watch.{Watch}
use Rattle.head.specs.Desks.{watch_of}
use Rattle.std.specs.Prelude.{Ok, Err}
use Rattle.refusals.specs.declared.Refusal.{Refusal}
use Rattle.refusals.specs.Refusals.{granted}
use Rattle.refusals.proofs.Numbers.{zero_passed}
use Rattle.head.specs.declared.replies.Reply.{Reply}
use Rattle.model.specs.Rows.{Tables}
use Rattle.model.specs.Book.{short_tables, short_loan, standing, watchful_answer, open_answer, open_reply, open_tables, open_watches, watch_bytes, watch_answer, watch_reply, watch_out, end_answer, end_reply}
use Rattle.watch_records.specs.Records.{record_number, watched, first_eight, stored}
use Rattle.watch_numbers.specs.Vacancy.{Vacant}
use Rattle.model.specs.Promises.{Opened, Watched, Ended}
use Rattle.call_watching.specs.Judged.{WatchJudged, EndJudged}
use Rattle.call_watching.proofs.Watches as watching
use Rattle.book_shared_records.proofs.Fronts.{standing_front, short_front, watchful_front, front}

-- an accepted call on the watches was lent eight records
eight_lent : (h : Head) (t : Tables) (ws : List ℕ) (more : List (Bool × ℕ)) → watchful_answer h t ws more ≡ 0 → 8 ≤ length ws
unfolding watchful_answer short_loan
eight_lent h t ws more e = ltb-false (length ws) 8 (none_right (short_tables t h.dimensions h.capacity) (ltb (length ws) 8) (zero_passed _ _ _ (zero_passed _ _ _ e).1).0)

-- numbers stored in records, as far as there are any, with the rest of the records behind
stored_front : (ms ws : List ℕ) → stored ms ws ≡ take (length ws) ms ++ drop (length ms) ws
unfolding stored laid
stored_front [] ws = take_all (length ws) ws (omega arith) ∙ sym (ap (λ (l : List ℕ). l ++ ws) (take-nil (length ws)))
stored_front (m ∷ ms) [] = refl
stored_front (m ∷ ms) (w ∷ ws) = ap (λ (l : List ℕ). m ∷ l) (stored_front ms ws)

module _ (ws : List ℕ) where
  -- what a call leaves of the first eight, with the rest behind, is what it leaves of all
  front_left : (answer : ℕ) (l : List ℕ) → granted answer (padded 8 l (take 8 ws)) (take 8 ws) ++ drop 8 ws ≡ granted answer (padded 8 l ws) ws
  unfolding granted padded
  front_left zero l =
      let none : drop 8 (take 8 ws) ≡ [] = drop_of_length-le (take 8 ws) {i = 8} (omega (arith, length-take 8 ws)) in
      let zeros : List ℕ = replicate (8 - length l) 0 in
      rw (none, append-nil zeros, append_assoc l zeros (drop 8 ws))
  front_left (suc a) l = take-append-drop 8 ws

  end_front : (h : Head) (desk : Desk) (n : ℕ) (t : Tables) → end_answer h desk n t (take 8 ws) ≡ end_answer h desk n t ws
  unfolding end_answer
  end_front h desk n t = rw (standing_front ws, watchful_front ws h t)

  watch_front : (h : Head) (desk : Desk) (n : ℕ) (t : Tables) (room : ℕ) → watch_answer h desk n t (take 8 ws) room ≡ watch_answer h desk n t ws room
  unfolding watch_answer
  watch_front h desk n t room = rw (standing_front ws, watchful_front ws h t)

  open_front : (d N directions : ℕ) (t : Tables) → open_answer d N directions t (take 8 ws) ≡ open_answer d N directions t ws
  unfolding open_answer
  open_front d N directions t = rw (short_front ws t d N)

-- ---- the records ys, of which the numbers are read off
module _ (ys : List Watch) {ns : List ℕ} (e : ns ≡ first_eight (watched ys)) where
  abbrev ws : List ℕ
  ws = watched ys

  as_many : length ws ≡ length ys
  unfolding watched
  as_many = length-map ys record_number

  module _ (h : Head) (desk : Desk) (n : ℕ) (t : Tables) (j : Reply) (f : EndJudged h desk n t (take (length ys) ns) j) where
    end_judged : EndJudged h desk n t ws j
    unfolding end_reply
    end_judged = record { reply = f.reply ∙ rw (front ys e, end_front ws h desk n t) }

    -- a refused end leaves the records
    pub end_left : {k : Refusal} → j.answer ≡ Err k → Ended h desk n t ws j ws
    end_left off = watching.end_left end_judged off

    -- an accepted one was lent eight, and removes n
    module _ (on : j.answer ≡ Ok tt) where
      pub end_enough : 8 ≤ length ys
      unfolding end_answer
      end_enough = rw as_many at (eight_lent h t ws _ (watching.end_accepted_is end_judged on))

      pub end_removed : (last : List ℕ) → last ≡ padded 8 (without (watch_of desk n) (standing ws)) ws → Ended h desk n t ws j last
      end_removed last m = watching.end_removed end_judged on m

  module _ (h : Head) (desk : Desk) (n : ℕ) (t : Tables) {before after : List ℕ} (j : Reply) (f : WatchJudged h desk n t (take (length ys) ns) before j after) where
    watch_judged : WatchJudged h desk n t ws before j after
    unfolding watch_reply watch_out watch_bytes
    watch_judged =
        record {
          reply = f.reply ∙ rw (front ys e, watch_front ws h desk n t);
          out = f.out ∙ rw (front ys e, watch_front ws h desk n t);
        }

    -- a refused watch leaves the records
    pub watch_left : {k : Refusal} → j.answer ≡ Err k → Watched h desk n t ws before j ws after
    watch_left off = watching.watch_left watch_judged off

    -- an accepted one was lent eight, of which one is free, and inserts n
    module _ (on : j.answer ≡ Ok tt) where
      watch_is : watch_answer h desk n t ws (length before) ≡ 0
      watch_is = watching.watch_accepted watch_judged on

      pub watch_asks : (8 ≤ length ys) × Vacant ws
      unfolding watch_answer
      watch_asks = (rw as_many at (eight_lent h t ws _ watch_is), (watching.watch_free h desk n t ws (length before) watch_is).vacant)

      pub watch_inserted : (last : List ℕ) → last ≡ padded 8 (insert (watch_of desk n) (standing ws)) ws → Watched h desk n t ws before j last after
      watch_inserted last m = watching.watch_inserted watch_judged on m

  -- an opening's eight numbers stored in the records are what it leaves of them
  pub open_stored : (d N directions : ℕ) (t : Tables) (ms : List ℕ) {last : List ℕ} {r : Reply} {t' : Tables} → length ms ≡ 8 → last ≡ stored ms ws
      → Opened d N directions t (take (length ys) ns) r t' (take (length ys) ms) → Opened d N directions t ws r t' last
  unfolding open_reply open_tables open_watches
  open_stored d N directions t ms eight s m =
      let left : take (length ys) ms ≡ granted (open_answer d N directions t ws) (padded 8 [] (take 8 ws)) (take 8 ws) = m.watches ∙ rw (front ys e, open_front ws d N directions t) in
      record {
        reply = m.reply ∙ rw (front ys e, open_front ws d N directions t);
        lent = m.lent ∙ rw (front ys e, open_front ws d N directions t);
        watches = s ∙ stored_front ms ws ∙ rw (as_many, eight, left) (front_left ws (open_answer d N directions t ws) []);
      }
