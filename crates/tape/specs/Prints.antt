-- What the player's own code prints of a tape, read in whatever pieces.
use Rattle.std.specs.Prelude.{◌≡◌, ◌⊎◌, ℕ, ◌+◌, true, false, List, [], ◌++◌, length, take}
use Rattle.head.specs.Heads.{settings_hold}
use Rattle.model.specs.Rows.{Tables}
use Rattle.model_claims.specs.Places.{SamePlaces}
use Rattle.model.specs.Promises.{world}
use Rattle.tape_model.specs.Play.{Player, on}
use Rattle.tape_model.specs.Streams.{ready}
use Rattle.line_answers.specs.declared.Step.{Step}
use Rattle.tape.specs.Steps.{Stepped}

-- the player that a step leaves: it keeps its cells for positions
abbrev pub left : Player → Step → Tables → List ℕ → Player
left k r t' bytes' = record { world = world r.turn.head t' r.turn.watches; outputs = record { bytes = bytes'; cells = k.outputs.cells } }

-- what a player prints from a buffer with this piece of a tape, from a place of it on, while the rest is still to come: each frame by a
-- step that was made and met its contract, on what the step before left; it is ready, or nothing more comes; the bytes
-- before the place may be dropped, more bytes may come in, and once an opening was accepted the player may go on with other tables that
-- agree in the places of its book
pub data Prints : List ℕ → ℕ → Player → List ℕ → List ℕ → Type 0 where
  goes_on_lem : {piece rest text before after bytes' : List ℕ} {place : ℕ} {k : Player} {r : Step} {t' : Tables} → (ready piece place ≡ true) ⊎ (rest ≡ [])
      → Stepped piece place k before r t' bytes' after → r.over ≡ false
      → Prints piece r.next (left k r t' bytes') rest text
      → Prints piece place k rest (take r.turn.count after ++ text)
  ends : {piece rest before after bytes' : List ℕ} {place : ℕ} {k : Player} {r : Step} {t' : Tables} → (ready piece place ≡ true) ⊎ (rest ≡ [])
      → Stepped piece place k before r t' bytes' after → r.over ≡ true
      → Prints piece place k rest (take r.turn.count after)
  forgets : (played : List ℕ) {piece rest text : List ℕ} {place : ℕ} {k : Player} → Prints piece place k rest text → Prints (played ++ piece) (length played + place) k rest text
  reads : (more : List ℕ) {piece rest text : List ℕ} {place : ℕ} {k : Player} → Prints (piece ++ more) place k rest text → Prints piece place k (more ++ rest) text
  slides : {piece rest text : List ℕ} {place : ℕ} {k : Player} {u : Tables}
      → settings_hold k.world.head.dimensions k.world.head.capacity k.world.head.directions ≡ true
      → SamePlaces k.world.head.dimensions k.world.head.capacity k.world.lent.tables u → Prints piece place (on u k) rest text → Prints piece place k rest text
