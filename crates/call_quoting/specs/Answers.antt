-- The answers of a quote in parts, as the functions that judge them give them.
use Rattle.std.specs.Prelude.{ℕ, Bool, not, List, [], ◌∷◌, ltb, leb, eqb, length}
use Rattle.head.specs.declared.Head.{Head}
use Rattle.refusals.specs.declared.Refusal.TheVariants.{Settings, ColumnCount, TapeFull, ShortOutput}
use Rattle.head.specs.Heads.{settings_hold, last_position}
use Rattle.refusals.specs.Refusals.{number, first_of}
use Rattle.model.specs.Changes.{change_room}

-- the tests of quote x itself and of the room for its changes: 4, 6, 13
abbrev pub quote_tests : Head → List ℕ → ℕ → List (Bool × ℕ)
quote_tests h x room =
    (not (eqb (length x) h.dimensions), number ColumnCount) ∷ (leb last_position h.newest, number TapeFull) ∷ (ltb room change_room, number ShortOutput) ∷ []

-- the answer of quote x on a reachable book, of which neither 11 nor 12 is said, 0 if accepted: 3, 4, 6, 13
unfoldable pub reached_answer : Head → List ℕ → ℕ → ℕ
reached_answer h x room = first_of ((not (settings_hold h.dimensions h.capacity h.directions), number Settings) ∷ quote_tests h x room)
