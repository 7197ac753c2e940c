-- From the contract of the player to the reference model: whatever its own code prints of a tape, read in whatever pieces, is the reference
-- model's print of that tape.
use mathlib.Core.Path.{◌≡◌, refl, sym, ap, ◌∙◌}
use Prim.Native.Nat.{ℕ}
use mathlib.Core.List.{List, []}
use lib.ListN.{length, take, drop, replicate}
use lib.Seq.{take-append_seam}
use Rattle.lists.specs.Lists.{laid}
use Rattle.head.specs.Heads.{fresh_head}
use Rattle.frames.specs.Frames.{read_at}
use Rattle.model.specs.Rows.{Tables}
use Rattle.model.specs.Reference.{Reference, Lengths, is_open, unopened}
use Rattle.model.specs.Calls.{Lent, Outputs, lengths_of}
use Rattle.tape_asking.specs.Asking.{Asked, finished, unread, misplaced, request, asked}
use Rattle.tape_model.specs.Play.{Played, play_asked, play_at, print, reference_make, Player, book_make, begun, book_play}
use Rattle.tape_model.specs.Streams.{Streams, drops, fills}
use Rattle.tape_model.proofs.Agrees.{Alike, at_first_lem}
use Rattle.tape_model.proofs.Streaming.{printed_in_pieces}
use Rattle.tape_model.proofs.Sliding.{slide_alike, plays_alike, stops_alike}
use Rattle.line_answers.specs.Turns.{player}
use Rattle.line_answers.specs.declared.Step.{Step}
use Rattle.tape.specs.Steps.{SteppedTo}
use Rattle.tape.specs.Prints.{left, Prints, goes_on_lem, ends, forgets, reads, slides}

-- a player keeps its cells for positions
asked_cells : (a : Asked) (next : ℕ) (k : Player) → (play_asked begun book_make a next k).state.outputs.cells ≡ k.outputs.cells
unfolding play_asked book_make
asked_cells finished next k = refl
asked_cells (unread n) next k = refl
asked_cells misplaced next k = refl
asked_cells (request c) next k = refl

pub cells_kept : (tape : List ℕ) (place : ℕ) (k : Player) → (book_play tape place k).state.outputs.cells ≡ k.outputs.cells
unfolding play_at
cells_kept tape place k = let read = read_at tape place in asked_cells (asked (begun k) read.says read.columns) read.next k

-- a step that met its contract played its frames: the text that it laid, and the player that it leaves, are the definition's
module _ {one : Played Player} {before after bytes' : List ℕ} {r : Step} {t' : Tables} (m : SteppedTo one before r t' bytes' after) where
  pub its_text : take r.turn.count after ≡ one.text
  unfolding laid
  its_text = rw (m.count, m.text) (take-append_seam one.text (drop (length one.text) before))

  pub its_player : (k : Player) → one.state.outputs.cells ≡ k.outputs.cells → left k r t' bytes' ≡ one.state
  its_player k e =
      let next = one.state in
      rw (m.head, m.watches, m.lent, m.bytes)
      (ap (λ (cells : List ℕ). let p : Player = record { world = next.world; outputs = record { bytes = next.outputs.bytes; cells = cells } } in p) (sym e))

-- what is printed by steps that were made is what the reference model prints of the same pieces, on whatever tables that agree in the places
-- of the book the player goes on
prints_stream : (lengths : Lengths) {piece rest text : List ℕ} {place : ℕ} {k : Player} → Prints piece place k rest text → (s : Reference) → Alike lengths s k
    → Streams is_open (reference_make lengths) piece place s rest text
prints_stream lengths (goes_on_lem {piece = piece} {place = place} {k = k} h m o more) s v =
    rw (its_text m)
    (plays_alike lengths s k v h (sym m.over ∙ o)
    (λ next w. rw (← m.next) (prints_stream lengths more next (rw (its_player m k (cells_kept piece place k)) w))))
prints_stream lengths (ends {k = k} h m o) s v = rw (its_text m) (stops_alike lengths s k v h (sym m.over ∙ o))
prints_stream lengths (forgets played p) s v = drops played (prints_stream lengths p s v)
prints_stream lengths (reads more p) s v = fills more (prints_stream lengths p s v)
prints_stream lengths (slides {k = k} {u = u} holds same p) s v = prints_stream lengths p s (slide_alike lengths s k v u holds same)

-- from a head of zeros, the lines that the player's steps print of a tape, read in any pieces, are the reference model's print of it
pub played_agrees : (tape : List ℕ) (t : Tables) (ws bytes : List ℕ) {text : List ℕ} → Prints [] 0 (player (fresh_head 0 0 0) t ws bytes) tape text
    → text ≡ print is_open (reference_make (lengths_of (record { tables = t; watches = ws }) (record { bytes = bytes; cells = replicate 1024 0 }))) tape unopened
played_agrees tape t ws bytes p =
    let l : Lent = record { tables = t; watches = ws } in
    let o : Outputs = record { bytes = bytes; cells = replicate 1024 0 } in
    printed_in_pieces is_open (reference_make (lengths_of l o)) tape unopened (prints_stream (lengths_of l o) p unopened (at_first_lem l o))
