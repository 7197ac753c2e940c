-- A step along a tape: a quote's frame and a whole look's directly behind it, where one call takes both; or one frame.
use Rattle.std.specs.Prelude.{ℕ, ◌+◌, Bool, true, false, ◌&&◌, cond, List, [], ◌∷◌, leb, eqb, length, get_or, take}
use Rattle.head.specs.declared.Head.{Head}
use Rattle.head.specs.Heads.{settings_hold}
use Rattle.octets.specs.Bytes.{number2}
use Rattle.frame_kinds.specs.Kinds.{within, look_kind, body_length}
use Rattle.frames.specs.Frames.{read_at}
use Rattle.tape_model.specs.Play.{Played, Player, begun, book_play}
use Rattle.tape_model.specs.InOne.{behind, play_two}
use Rattle.tape_both.specs.Tried.{takes_both}
use Rattle.tape_steps.specs.declared.BothAt.{BothAt}

-- ---- what stands at a place

-- a quote's frame stands at a place, and a whole look's directly behind it
unfoldable pub look_behind : List ℕ → ℕ → Bool
look_behind tape place =
    let kind = get_or tape place 0 in
    let next = place + 1 + body_length kind in
    within 1 6 kind && (leb (next + 3) (length tape) && eqb (get_or tape next 0) look_kind)

-- the quote, and the n of the look
abbrev pub quote_at : List ℕ → ℕ → List ℕ
quote_at tape place = take (get_or tape place 0) (read_at tape place).columns

abbrev pub size_at : List ℕ → ℕ → ℕ
size_at tape place = number2 tape (behind tape place + 1)

-- nothing is found
abbrev pub none_at : ℕ → BothAt
none_at place = record { found = false; kind = 0; columns = 0 ∷ 0 ∷ 0 ∷ 0 ∷ 0 ∷ 0 ∷ []; n = 0; next = place }

-- what a player with this head finds at a place: both, once an opening was accepted
unfoldable pub both_at : List ℕ → ℕ → Head → BothAt
both_at tape place h =
    cond (settings_hold h.dimensions h.capacity h.directions && look_behind tape place)
    (record { found = true; kind = get_or tape place 0; columns = (read_at tape place).columns; n = size_at tape place; next = behind tape place + 3 })
    (none_at place)

-- ---- the step

-- the frame at a place is a quote's with a whole look's directly behind it, an opening was accepted, and one call takes both
unfoldable pub in_one : List ℕ → ℕ → Player → Bool
in_one tape place k = (begun k && look_behind tape place) && takes_both (quote_at tape place) (size_at tape place) k

-- one step from a place on: such two frames, or the one at the place
unfoldable pub play_step : List ℕ → ℕ → Player → Played Player
play_step tape place k = cond (in_one tape place k) (play_two tape place k) (book_play tape place k)
