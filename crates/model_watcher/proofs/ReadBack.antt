-- The frames of changes read back: the messages that a watcher reads are the messages that were written.
use mathlib.Core.Path.{◌≡◌, refl, ap, ◌∙◌}
use Prim.Native.Nat.{ℕ, zero, suc, ◌+◌, ◌≤◌, ◌<◌}
use native.Mathlib.Nat.{le_refl}
use native.Mathlib.Omega.{arith}
use mathlib.Core.Bool.{Bool, true, false, not, cond}
use mathlib.Core.List.{List, [], ◌∷◌, ◌++◌, map, append-nil, append_assoc}
use lib.Dec.{eqb}
use lib.ListN.{length, length-append}
use borrow.Author.Tests.{le-ltb, eq-eqb}
use Rattle.lists.specs.Lists.{any, flat, contains, rising}
use Rattle.lists.proofs.Booleans.{or_left, or_right}
use Rattle.lists.proofs.Rising.{rising_cons, rising_filter}
use Rattle.head.specs.declared.Desk.TheVariants.{Two}
use Rattle.head.specs.Desks.{desk_number, desk_in, size_in}
use Rattle.frames.specs.declared.Message.{Message}
use Rattle.frames.specs.declared.Message.TheVariants.{Change}
use Rattle.frame_kinds.specs.Kinds.{leave_kind, join_kind, leave_two_kind, join_two_kind, kinds, shape_in, shape_of, has_shape}
use Rattle.frames.specs.Frames.{frame, stays, read_at, told_first, messages_from}
use Rattle.frames.specs.Messages.{Writable}
use Rattle.frames.proofs.FrameSizes.{frame_size}
use Rattle.frames.proofs.RoundTrips.{read_after_write, change_writable, leave_writable, join_writable, pair_leave_writable, pair_join_writable}
use Rattle.model.specs.Changes.{leave_kind_of, join_kind_of, leave, join, pair_leave, pair_join, missing, changes_by, changes, all_changes, pair_changes, frames}

-- messages that have frames without columns
pub data Sent : List Message → Type 0 where
  none : Sent []
  more : {m : Message} {ms : List Message} → Writable m [] → Sent ms → Sent (m ∷ ms)

-- nothing is read at the end
read_end : (tape : List ℕ) (k place : ℕ) → place ≡ length tape → messages_from k tape place ≡ []
unfolding messages_from read_at stays told_first
read_end tape zero place e = refl
read_end tape (suc k) place e = rw (e, le-ltb (length tape) (length tape) (le_refl (length tape)), eq-eqb (length tape) (length tape) refl)

-- a message is read, and the reading goes on behind its frame
read_on : (k : ℕ) (before after : List ℕ) (m : Message) → Writable m []
    → messages_from (suc k) (before ++ (frame m [] ++ after)) (length before) ≡ m ∷ messages_from k (before ++ (frame m [] ++ after)) (length before + length (frame m []))
unfolding messages_from told_first
read_on k before after m w = rw (read_after_write before after m [] w)

-- the messages that are read are those that were written
pub read_back : (ms : List Message) → Sent ms → (before : List ℕ) (k : ℕ) → length (frames ms) ≤ k → messages_from k (before ++ frames ms) (length before) ≡ ms
unfolding frames flat
read_back _ none before k h = rw append-nil (read_end before k (length before) refl)
read_back _ (more {m} {ms} w s) before zero h = absurd (omega (arith, frame_size m [] w.has_frame w.enough, length-append (frame m []) (frames ms)))
read_back _ (more {m} {ms} w s) before (suc k) h =
    read_on k before (frames ms) m w
    ∙ ap (λ (l : List Message). m ∷ l)
    (rw (← (length-append before (frame m [])), ← (append_assoc before (frame m []) (frames ms)))
    (read_back ms s (before ++ frame m []) k (omega (arith, frame_size m [] w.has_frame w.enough, length-append (frame m []) (frames ms)))))

-- ---- the messages of the calls have frames

sent_append : {ms ns : List Message} → Sent ms → Sent ns → Sent (ms ++ ns)
sent_append none t = t
sent_append (more c s) t = more c (sent_append s t)

-- a message for each position of a rising list
sent_map : (message : ℕ → Message) (lo hi : ℕ) → ((p : ℕ) → p ≤ hi → Writable (message p) []) → (l : List ℕ) → rising lo hi l ≡ true → Sent (map message l)
sent_map message lo hi fits [] e = none
sent_map message lo hi fits (p ∷ l) e = let r = rising_cons lo hi p l e in more (fits p r.high) (sent_map message (suc p) hi fits l r.rest)

-- the leaves and the joins of a watch have frames, whichever desk's it is
module _ (w p : ℕ) (u : size_in w < 65536) (v : p < 4294967296) where
  leave_sent : Writable (leave w p) []
  unfolding leave_kind_of has_shape shape_of shape_in kinds
  leave_sent = go (eqb (desk_in w) (desk_number Two))
    where
      go : (b : Bool) → Writable (Change (cond b leave_two_kind leave_kind) (size_in w) p) []
      go true = change_writable leave_two_kind (size_in w) p refl (omega arith) u v
      go false = leave_writable (size_in w) p u v

  join_sent : Writable (join w p) []
  unfolding join_kind_of has_shape shape_of shape_in kinds
  join_sent = go (eqb (desk_in w) (desk_number Two))
    where
      go : (b : Bool) → Writable (Change (cond b join_two_kind join_kind) (size_in w) p) []
      go true = change_writable join_two_kind (size_in w) p refl (omega arith) u v
      go false = join_writable (size_in w) p u v

module _ (lo hi : ℕ) (short : hi < 4294967296) where
  -- joins, and the changes of one watch
  pub sent_joins : (w : ℕ) (l : List ℕ) → size_in w < 65536 → rising lo hi l ≡ true → Sent (map (join w) l)
  sent_joins w l h = sent_map (join w) lo hi (λ p u. join_sent w p h (omega arith)) l

  sent_by : (leaves joins : ℕ → Message) → ((p : ℕ) → p ≤ hi → Writable (leaves p) []) → ((p : ℕ) → p ≤ hi → Writable (joins p) []) → (before after : List ℕ)
      → rising lo hi before ≡ true → rising lo hi after ≡ true → Sent (changes_by leaves joins before after)
  unfolding changes_by missing
  sent_by leaves joins l j before after e f =
      sent_append
      (sent_map leaves lo hi l (missing before after) (rising_filter (λ p. not (contains p after)) lo hi before e))
      (sent_map joins lo hi j (missing after before) (rising_filter (λ p. not (contains p before)) lo hi after f))

  sent_changes : (w : ℕ) (before after : List ℕ) → size_in w < 65536 → rising lo hi before ≡ true → rising lo hi after ≡ true → Sent (changes w before after)
  unfolding changes
  sent_changes w before after h = sent_by (leave w) (join w) (λ p u. leave_sent w p h (omega arith)) (λ p u. join_sent w p h (omega arith)) before after

  -- joins and changes of the pair
  pub sent_pair_joins : (l : List ℕ) → rising lo hi l ≡ true → Sent (map pair_join l)
  sent_pair_joins l = sent_map pair_join lo hi (λ p u. pair_join_writable p (omega arith)) l

  sent_pair : (before after : List ℕ) → rising lo hi before ≡ true → rising lo hi after ≡ true → Sent (pair_changes before after)
  unfolding pair_changes
  sent_pair before after = sent_by pair_leave pair_join (λ p u. pair_leave_writable p (omega arith)) (λ p u. pair_join_writable p (omega arith)) before after

  -- the changes of every watch
  sent_all : (before after : ℕ → List ℕ) → ((n : ℕ) → rising lo hi (before n) ≡ true) → ((n : ℕ) → rising lo hi (after n) ≡ true)
      → (watched : List ℕ) → ((w : ℕ) → contains w watched ≡ true → size_in w < 65536) → Sent (all_changes watched before after)
  unfolding all_changes flat contains any
  sent_all before after e f [] small = none
  sent_all before after e f (w ∷ ws) small =
      let n = size_in w in
      sent_append (sent_changes w (before n) (after n) (small w (or_left (eqb w w) (contains w ws) (eq-eqb w w refl))) (e n) (f n))
      (sent_all before after e f ws (λ v t. small v (or_right (eqb v w) (contains v ws) t)))

  -- and those of the pair behind them
  pub sent_both : (before after : ℕ → List ℕ) → ((n : ℕ) → rising lo hi (before n) ≡ true) → ((n : ℕ) → rising lo hi (after n) ≡ true)
      → (watched : List ℕ) → ((w : ℕ) → contains w watched ≡ true → size_in w < 65536)
      → (pair pair' : List ℕ) → rising lo hi pair ≡ true → rising lo hi pair' ≡ true → Sent (all_changes watched before after ++ pair_changes pair pair')
  sent_both before after e f watched small pair pair' u v = sent_append (sent_all before after e f watched small) (sent_pair pair pair' u v)
