-- Playing a tape from a buffer that holds a piece of it: the steps of a program that reads its input bit by bit, and what it prints.
use Rattle.std.specs.Prelude.{◌≡◌, ◌⊎◌, ℕ, suc, ◌+◌, ◌-◌, Bool, true, false, ◌&&◌, ◌||◌, not, List, [], ◌++◌, ltb, leb, eqb, length, get_or}
use Rattle.frame_kinds.specs.Kinds.{within, look_kind, body_length}
use Rattle.model.specs.Calls.{Call}
use Rattle.tape_model.specs.Print.{Answered}
use Rattle.tape_model.specs.Play.{Played, play_at, print_from}

-- what is read at a place stays the same however the tape goes on: a whole frame stands there, or a kind that is unknown
unfoldable pub ready : List ℕ → ℕ → Bool
ready tape place =
    let body = body_length (get_or tape place 0) in
    ltb place (length tape) && (eqb body 255 || leb (place + 1 + body) (length tape))

-- a frame is ready, and of a quote's it is known whether a look follows: a byte has come behind it, and if it is a look's kind, the whole look
unfoldable pub settled : List ℕ → ℕ → Bool
settled tape place =
    let kind = get_or tape place 0 in
    let next = place + 1 + body_length kind in
    ready tape place && (not (within 1 6 kind) || (ltb next (length tape) && (not (eqb (get_or tape next 0) look_kind) || ready tape next)))

module _ {S : Type 0} (begun : S → Bool) (make : Call → S → Answered × S) where
  -- the lines of all frames from a place on
  unfoldable pub lines_from : List ℕ → ℕ → S → List ℕ
  lines_from tape place s = print_from begun make (suc (length tape - place)) tape place s

-- one frame played where it stands with this many bytes before it
abbrev pub further : {S : Type 0} → ℕ → Played S → Played S
further n one = record { number = one.number; text = one.text; state = one.state; next = n + one.next; over = one.over }

-- what is printed from a buffer with this piece of the tape, from a place of it on, by this player, while the rest is still to come:
-- a frame is played where it is ready or nothing more comes; the bytes before the place may be dropped; more bytes may come in
pub data Streams {S : Type 0} (begun : S → Bool) (make : Call → S → Answered × S) : List ℕ → ℕ → S → List ℕ → List ℕ → Type 0 where
  plays : {piece rest text : List ℕ} {place : ℕ} {s : S} → (ready piece place ≡ true) ⊎ (rest ≡ []) → (play_at begun make piece place s).over ≡ false
      → Streams begun make piece (play_at begun make piece place s).next (play_at begun make piece place s).state rest text
      → Streams begun make piece place s rest ((play_at begun make piece place s).text ++ text)
  stops : {piece rest : List ℕ} {place : ℕ} {s : S} → (ready piece place ≡ true) ⊎ (rest ≡ []) → (play_at begun make piece place s).over ≡ true
      → Streams begun make piece place s rest (play_at begun make piece place s).text
  drops : (played : List ℕ) {piece rest text : List ℕ} {place : ℕ} {s : S} → Streams begun make piece place s rest text
      → Streams begun make (played ++ piece) (length played + place) s rest text
  fills : (more : List ℕ) {piece rest text : List ℕ} {place : ℕ} {s : S} → Streams begun make (piece ++ more) place s rest text
      → Streams begun make piece place s (more ++ rest) text
