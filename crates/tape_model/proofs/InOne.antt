-- A quote's frame and a look's directly behind it print what the quote and look in one shows, where that is accepted; where it is refused the
-- player stays.
use mathlib.Core.Path.{◌≡◌, refl, sym, ap, ◌∙◌}
use mathlib.Core.Logic.{◌⊎◌}
use Prim.Native.Nat.{ℕ, zero, suc, ◌+◌, ◌≤◌}
use native.Mathlib.Omega.{arith}
use mathlib.Core.Bool.{Bool, true, false, cond}
use mathlib.Core.List.{List, [], ◌++◌, append_assoc}
use lib.Dec.{ltb}
use lib.ListN.{length, get_or}
use borrow.Author.Tests.{lt-ltb, le-ltb, le-leb, ne_eqb}
use Rattle.lists.specs.Lists.{head_or}
use Rattle.head.specs.declared.Head.{Head}
use Rattle.head.specs.Heads.{settings_hold, last_position, after_quote}
use Rattle.refusals.specs.Refusals.{granted}
use Rattle.octets.specs.Bytes.{number2}
use Rattle.frames.specs.declared.Message.TheVariants.{Sized}
use Rattle.frame_kinds.specs.declared.Shape.TheVariants.{Size}
use Rattle.frame_kinds.specs.Kinds.{look_kind, kinds, shape_in, shape_of, body_length}
use Rattle.frame_kinds.proofs.Shapes.{size_body}
use Rattle.frames.specs.Frames.{message_by, message_at, columns_at, told, Reading, read_at}
use Rattle.model.specs.Reference.{Reference, Lengths, is_open}
use Rattle.model.specs.Book.{reply_of, quote_head, quote_reply, look_answer, look_reply}
use Rattle.head.specs.Replies.{Outcome}
use Rattle.model.specs.Calls.{Call, Quote, Look, Seen, book_seen, head_after, world_after, book_step}
use Rattle.model_claims.specs.Claims.{BothTaken, InOne}
use Rattle.model_claims.proofs.InOne.{both_in_one}
use Rattle.tape_asking.specs.Asking.{request, sized_asks, asks, in_place, placed, asked}
use Rattle.tape_model.specs.Print.{Answered, lines_of, text_of}
use Rattle.tape_model.specs.Play.{play_asked, play_at, reference_make, Player, book_make, begun}
use Rattle.tape_model.specs.Streams.{ready, Streams}
use Rattle.tape_model.specs.InOne.{seen_both, after_both, quote_lines, look_line, quoted, looked, ShownInTwo, behind, InARow, PlayedInTwo, play_two}
use Rattle.tape_model.proofs.Agrees.{Alike}
use Rattle.tape_model.proofs.Sliding.{plays_alike}

-- ---- the calls

-- a look leaves the player as it was
look_stays : (n : ℕ) (k : Player) → (book_make (Look n) k).1 ≡ k
unfolding book_make book_step book_seen world_after head_after look_reply reply_of granted
look_stays n k = go (look_answer k.world.head n k.world.lent.tables (length k.outputs.cells))
  where
    go : (a : ℕ)
        → ◌≡◌ {A = Player} (record { world = record { head = granted a k.world.head k.world.head; lent = k.world.lent }; outputs = k.outputs }) k
    go zero = refl
    go (suc j) = refl

-- the settings of a head hold
abbrev holds : Head → Bool
holds h = settings_hold h.dimensions h.capacity h.directions

-- those of the head that a quote leaves are those of the head before it
after_holds : (h : Head) (live held : ℕ) → holds (after_quote h live held) ≡ holds h
unfolding after_quote
after_holds h live held = go (ltb h.newest last_position) _ refl
  where
    go : (b : Bool) (next : Head) → holds next ≡ holds h → holds (cond b next h) ≡ holds h
    go true next e = e
    go false next e = refl

-- a head that is granted or not
granted_holds : (a : ℕ) (next h : Head) → holds next ≡ holds h → holds (granted a next h) ≡ holds h
unfolding granted
granted_holds zero next h e = e
granted_holds (suc j) next h e = refl

-- so an opening was accepted before a quote if it was after it, and not otherwise
quote_begun : (x : List ℕ) (k : Player) → begun (book_make (Quote x) k).1 ≡ begun k
unfolding begun book_make book_step book_seen world_after head_after quote_reply reply_of quote_head
quote_begun x k = granted_holds _ _ k.world.head (after_holds k.world.head _ _)

-- where neither of two answers, the first in front, is a refusal, the second is none
both_accepted : (a b : ℕ) → granted a b a ≡ 0 → b ≡ 0
unfolding granted
both_accepted zero b e = e
both_accepted (suc j) b e = absurd (omega (arith, e))

-- an accepted call prints its lines
accepted_text : (c : Call) (a : Answered) → a.outcome.number ≡ 0 → text_of c a ≡ lines_of c a
unfolding text_of granted
accepted_text c a e = rw e

module _ (x : List ℕ) (n : ℕ) (k : Player) where
  -- what is seen of the quote, and of the look on the book after it, each with the player's outputs
  abbrev quote : Seen
  quote = book_seen (Quote x) k.outputs k.world

  abbrev look : Seen
  look = book_seen (Look n) k.outputs (world_after (Quote x) quote k.world)

  abbrev shows : InOne k.outputs k.world quote look (seen_both x n k)
  shows = both_in_one x n k.outputs k.world

  -- the look does not read the bytes that the quote leaves
  look_outcome : (looked x n k).0.outcome ≡ look.outcome
  unfolding book_make book_step book_seen
  look_outcome = refl

  look_cells_lem : (looked x n k).0.outputs.cells ≡ look.outputs.cells
  unfolding book_make book_step book_seen
  look_cells_lem = refl

  -- the player after the quote is the one after both, where they are taken
  after_quote_lem : BothTaken quote look (seen_both x n k) → (quoted x n k).1 ≡ after_both x n k
  unfolding book_make book_step world_after head_after
  after_quote_lem t = rw (t.outcome, t.bytes, t.lent)

  -- where the one is accepted, the two calls show what it shows
  pub shown_in_two : (seen_both x n k).outcome.number ≡ 0 → ShownInTwo x n k
  unfolding book_make book_step lines_of head_or
  shown_in_two e =
      let t = shows.both_accepted e in
      let q : quote.outcome.number ≡ 0 = sym (ap Outcome.number t.outcome) ∙ e in
      let accepted : (looked x n k).0.outcome.number ≡ 0 = ap Outcome.number look_outcome ∙ both_accepted _ _ (sym shows.number ∙ e) in
      record {
        quote_number = q;
        quote_text = accepted_text (Quote x) (quoted x n k).0 q ∙ rw (t.outcome, t.bytes);
        look_number = accepted;
        look_text = accepted_text (Look n) (looked x n k).0 accepted ∙ rw (look_outcome, look_cells_lem, t.counts, t.cells);
        state = look_stays n (quoted x n k).1 ∙ after_quote_lem t;
      }

  -- where it is refused the player stays
  pub both_stays : 1 ≤ (seen_both x n k).outcome.number → after_both x n k ≡ k
  unfolding book_make book_step world_after head_after
  both_stays h = let t = shows.both_refused h in rw (t.head, t.outputs, t.lent)

  -- ---- the frames

  module _ (tape : List ℕ) (place : ℕ) (here : InARow x n k tape place) (e : (seen_both x n k).outcome.number ≡ 0) where
    -- where the one is accepted, the two frames play what it shows
    pub two_is_both : PlayedInTwo x n k tape place
    unfolding play_at play_asked
    two_is_both =
        let shown = shown_in_two e in
        record {
          first = rw (here.quote_asked, shown.quote_number, shown.quote_text);
          second = rw (quote_begun x k, here.look_asked, shown.look_number, shown.look_text, shown.state);
        }

    -- and what they print, and what both come to, is printed by the reference model that stands alike, from a buffer that holds both
    pub both_alike : (lengths : Lengths) (s : Reference) → Alike lengths s k → {rest text : List ℕ}
        → (ready tape place ≡ true) ⊎ (rest ≡ []) → (ready tape (behind tape place) ≡ true) ⊎ (rest ≡ [])
        → ((next : Reference) → Alike lengths next (after_both x n k)
        → Streams is_open (reference_make lengths) tape (behind tape (behind tape place)) next rest text)
        → Streams is_open (reference_make lengths) tape place s rest ((quote_lines x n k ++ look_line x n k) ++ text)
    both_alike lengths s v {rest} {text} c d more =
        let one = two_is_both.first in
        let two = two_is_both.second in
        let look_next : (next : Reference) → Alike lengths next (quoted x n k).1
        → Streams is_open (reference_make lengths) tape (behind tape place) next rest (look_line x n k ++ text) =
        λ next w. rw two at (plays_alike lengths next (quoted x n k).1 w d {text = text} (rw two) (rw two more)) in
        rw (append_assoc (quote_lines x n k) (look_line x n k) text)
        (rw one at (plays_alike lengths s k v c {text = look_line x n k ++ text} (rw one) (rw one look_next)))

    -- so two frames in a row come to its lines and to the player that it leaves
    pub played_two : play_two tape place k
        ≡ record { number = 0; text = quote_lines x n k ++ look_line x n k; state = after_both x n k; next = behind tape (behind tape place); over = false }
    unfolding play_two
    played_two = rw (two_is_both.first, two_is_both.second)

-- ---- a look's frame

-- its shape, and how many bytes its body has
look_shape : shape_of look_kind ≡ Size
unfolding shape_of shape_in kinds
look_shape = refl

look_body : body_length look_kind ≡ 2
look_body = size_body look_kind look_shape

module _ (tape : List ℕ) (place : ℕ) (kind : get_or tape place 0 ≡ look_kind) (inside : place + 3 ≤ length tape) where
  -- kind and body
  three : place + 1 + 2 ≡ place + 3
  three = omega arith

  -- a whole one is read
  look_read : read_at tape place ≡ record { says = told (Sized look_kind (number2 tape (place + 1))); columns = columns_at tape (place + 1) look_kind; next = place + 3 }
  unfolding read_at message_at message_by
  look_read =
      rw (
        kind,
        look_body,
        look_shape,
        three,
        le-ltb (length tape) place (omega arith),
        ne_eqb place (length tape) (λ z. omega arith),
        le-ltb (length tape) (place + 3) inside,
      )

  -- the place behind it
  pub look_next : (read_at tape place).next ≡ place + 3
  look_next = ap Reading.next look_read

  -- once an opening was accepted it asks for the look of its n
  pub look_there : (columns : List ℕ) → asked true (read_at tape place).says columns ≡ request (Look (number2 tape (place + 1)))
  unfolding asked asks sized_asks placed in_place
  look_there columns = rw look_read

  -- and what is read stays the same however the tape goes on
  pub look_ready : ready tape place ≡ true
  unfolding ready
  look_ready = rw (kind, look_body, three, lt-ltb place (length tape) (omega arith), le-leb (place + 3) (length tape) inside)
