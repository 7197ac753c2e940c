-- The head of a book: fresh, judged, after an accepted quote, and with the pair set or unset.
use Rattle.std.specs.Prelude.{ℕ, ◌+◌, ◌/◌, ◌^◌, Bool, ◌&&◌, ◌||◌, not, cond, leb, ltb, eqb}
use Rattle.head.specs.declared.Head.{Head}

-- the most columns of a quote (01: the largest d)
abbrev pub max_dimensions : ℕ
max_dimensions = 6

-- the most quotes that a book remembers (01: the largest N)
abbrev pub max_capacity : ℕ
max_capacity = 1024

-- the largest position a book takes
abbrev pub last_position : ℕ
last_position = 16777215

-- the head of a book that was opened with these settings and has taken no quote
abbrev pub fresh_head : ℕ → ℕ → ℕ → Head
fresh_head d N directions = record { dimensions = d; capacity = N; directions = directions; newest = 0; live = 0; held = 0; n1 = 0; n2 = 0 }

-- d from 1 to 6, N from 1 to 1,024, and no bit of the directions at d or above
unfoldable pub settings_hold : ℕ → ℕ → ℕ → Bool
settings_hold d N directions = (leb 1 d && leb d max_dimensions) && (leb 1 N && leb N max_capacity) && eqb (directions / 2 ^ d) 0

-- the head after an accepted quote that leaves this many live rows and rows held; a head at the last position stays
unfoldable pub after_quote : Head → ℕ → ℕ → Head
after_quote h live held =
    cond (ltb h.newest last_position)
    (record {
      dimensions = h.dimensions;
      capacity = h.capacity;
      directions = h.directions;
      newest = h.newest + 1;
      live = live;
      held = held;
      n1 = h.n1;
      n2 = h.n2;
    })
    h

-- the head with this pair; 0 and 0 where none is watched
unfoldable pub with_pair : Head → ℕ → ℕ → Head
with_pair h n1 n2 = record {
  dimensions = h.dimensions;
  capacity = h.capacity;
  directions = h.directions;
  newest = h.newest;
  live = h.live;
  held = h.held;
  n1 = n1;
  n2 = n2;
}

-- a pair that could not be set (02, 2/13: torn): neither 0 and 0 nor 2 ≤ n1 ≤ n2 ≤ N
unfoldable pub torn_pair : Head → Bool
torn_pair h = not ((eqb h.n1 0 && eqb h.n2 0) || (leb 2 h.n1 && leb h.n1 h.n2 && leb h.n2 h.capacity))
