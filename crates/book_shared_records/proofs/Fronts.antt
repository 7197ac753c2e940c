-- What a call that changes no record leaves is told by the first eight of them.
use mathlib.Core.Path.{◌≡◌, refl, sym, ◌∙◌, ap}
use Prim.Native.Nat.{ℕ, zero, suc}
use native.Mathlib.Omega.{arith}
use mathlib.Core.Bool.{Bool}
use mathlib.Core.List.{List, [], ◌∷◌, ◌++◌, map}
use lib.Dec.{ltb, leb-suc-zero, leb-suc-suc}
use lib.ListN.{length, take, replicate, length-map}
use lib.Seq.{take-take, take-nil}
use Rattle.head.specs.declared.Head.{Head}
use Rattle.head.specs.declared.replies.Reply.{Reply}
use Rattle.head.specs.declared.replies.Effect.{Effect}
use Rattle.head.specs.declared.replies.BothReply.{BothReply}
use Rattle.head.specs.declared.Watch.{Watch}
use Rattle.model.specs.Rows.{Tables}
use Rattle.model.specs.Book.{short_loan, standing, torn_watches, watchful_answer, quote_rows, quote_head, quote_bytes, quote_answer, quote_reply, quote_tables, quote_out, both_list, both_answer, both_reply, both_listed, both_tables, both_out, both_cells, preview_reply, preview_counts, preview_out, pair_bytes, pair_answer, pair_reply, pair_out, unpair_answer, unpair_reply}
use Rattle.watch_records.specs.Records.{record_number, watched, first_eight}
use Rattle.model.specs.Promises.{Quoted, QuotedLooked, Previewed, Paired, Unpaired}

-- as many numbers as there are records, of eight that are read off them
pub lent_front : (ws : List ℕ) → take (length ws) (first_eight ws) ≡ take 8 ws
unfolding first_eight
lent_front ws = go 8 ws (replicate 8 0)
  where
    go : (n : ℕ) (xs ys : List ℕ) → take (length xs) (take n (xs ++ ys)) ≡ take n xs
    go zero xs ys = take-nil (length xs)
    go (suc n) [] ys = refl
    go (suc n) (x ∷ xs) ys = ap (λ (l : List ℕ). x ∷ l) (go n xs ys)

-- a list is too short exactly if its front is
bounded_in : (n : ℕ) (ws : List ℕ) → ltb (length (take n ws)) n ≡ ltb (length ws) n
bounded_in zero ws = sym (leb-suc-zero (length ws))
bounded_in (suc n) [] = refl
bounded_in (suc n) (w ∷ ws) = leb-suc-suc (suc (length (take n ws))) n ∙ bounded_in n ws ∙ sym (leb-suc-suc (suc (length ws)) n)

module _ (ws : List ℕ) where
  pub standing_front : standing (take 8 ws) ≡ standing ws
  unfolding standing
  standing_front = rw (take-take 8 8 ws (omega arith))

  torn_front : (N : ℕ) → torn_watches N (take 8 ws) ≡ torn_watches N ws
  unfolding torn_watches
  torn_front N = rw (take-take 8 8 ws (omega arith), standing_front)

  pub short_front : (t : Tables) (d N : ℕ) → short_loan t (take 8 ws) d N ≡ short_loan t ws d N
  unfolding short_loan
  short_front t d N = rw (bounded_in 8 ws)

  pub watchful_front : (h : Head) (t : Tables) (more : List (Bool × ℕ)) → watchful_answer h t (take 8 ws) more ≡ watchful_answer h t ws more
  unfolding watchful_answer
  watchful_front h t more = rw (short_front t h.dimensions h.capacity, torn_front h.capacity)

  quote_front : (h : Head) (x : List ℕ) (t : Tables) (room : ℕ) → quote_answer h x t (take 8 ws) room ≡ quote_answer h x t ws room
  unfolding quote_answer
  quote_front h x t room = watchful_front h t _

  bytes_front : (h : Head) (x : List ℕ) (t : Tables) → quote_bytes h x t (take 8 ws) ≡ quote_bytes h x t ws
  unfolding quote_bytes quote_head quote_rows
  bytes_front h x t = rw standing_front

-- ---- the records ys, of which the numbers are read off
module _ (ys : List Watch) where
  abbrev ws : List ℕ
  ws = watched ys

  pub front : {ns : List ℕ} → ns ≡ first_eight ws → take (length ys) ns ≡ take 8 ws
  unfolding watched
  front e = rw (e, ← length-map ys record_number) (lent_front (map record_number ys))

  -- a quote on as many numbers as records are lent is one on the records
  pub quote_records : (h : Head) (x : List ℕ) (t : Tables) {ns : List ℕ} → ns ≡ first_eight ws → {before : List ℕ} {r : Reply} {t' : Tables} {after : List ℕ} → Quoted h x t (take (length ys) ns) before r t' after → Quoted h x t ws before r t' after
  unfolding quote_reply quote_tables quote_out quote_head quote_rows
  quote_records h x t e m =
      record {
        reply = m.reply ∙ rw (front e, quote_front ws h x t, bytes_front ws h x t);
        lent = m.lent ∙ rw (front e, quote_front ws h x t);
        out = m.out ∙ rw (front e, quote_front ws h x t, bytes_front ws h x t);
      }

  -- so is a quote and look in one
  pub both_records : (h : Head) (x : List ℕ) (n : ℕ) (t : Tables) {ns : List ℕ} → ns ≡ first_eight ws → {before cells : List ℕ} {r : BothReply} {t' : Tables} {after list : List ℕ}
      → QuotedLooked h x n t (take (length ys) ns) before cells r t' after list → QuotedLooked h x n t ws before cells r t' after list
  unfolding both_list both_answer both_reply both_listed both_tables both_out both_cells quote_tables quote_out quote_head quote_rows
  both_records h x n t e m =
      record {
        reply = m.reply ∙ rw (front e, quote_front ws h x t, bytes_front ws h x t);
        listed = m.listed ∙ rw (front e, quote_front ws h x t);
        lent = m.lent ∙ rw (front e, quote_front ws h x t);
        out = m.out ∙ rw (front e, quote_front ws h x t, bytes_front ws h x t);
        positions = m.positions ∙ rw (front e, quote_front ws h x t);
      }

  -- and a preview
  pub preview_records : (h : Head) (x : List ℕ) (t : Tables) {ns : List ℕ} → ns ≡ first_eight ws → {before : List ℕ} {r : Effect} {after : List ℕ} → Previewed h x t (take (length ys) ns) before r after → Previewed h x t ws before r after
  unfolding preview_reply preview_counts preview_out quote_reply quote_out quote_head quote_rows
  preview_records h x t e m =
      record {
        reply = m.reply ∙ rw (front e, quote_front ws h x t, bytes_front ws h x t);
        counts = m.counts ∙ rw (front e, quote_front ws h x t, bytes_front ws h x t);
        out = m.out ∙ rw (front e, quote_front ws h x t, bytes_front ws h x t);
      }

  -- and a watch of the pair
  pub pair_records : (h : Head) (n1 n2 : ℕ) (t : Tables) {ns : List ℕ} → ns ≡ first_eight ws → {before : List ℕ} {r : Reply} {after : List ℕ}
      → Paired h n1 n2 t (take (length ys) ns) before r after → Paired h n1 n2 t ws before r after
  unfolding pair_reply pair_out pair_answer pair_bytes
  pair_records h n1 n2 t e m = record { reply = m.reply ∙ rw (front e, watchful_front ws h t); out = m.out ∙ rw (front e, watchful_front ws h t) }

  -- and its end
  pub unpair_records : (h : Head) (t : Tables) {ns : List ℕ} → ns ≡ first_eight ws → {r : Reply}
      → Unpaired h t (take (length ys) ns) r → Unpaired h t ws r
  unfolding unpair_reply unpair_answer
  unpair_records h t e m = record { reply = m.reply ∙ rw (front e, watchful_front ws h t) }
