-- What a quote finds among the rows that a book holds.
use Rattle.std.specs.Prelude.{◌≡◌, ◌⊎◌, ℕ, suc, ◌+◌, ◌-◌, ◌≤◌, ◌<◌, Bool, cond, List, eqb, length, get_or, drop}
use Rattle.skyline.specs.Skyline.{window_start}
use Rattle.head.specs.declared.Head.{Head}
use Rattle.head.specs.Heads.{max_capacity, last_position}
use Rattle.model.specs.Rows.{expiring}
use Rattle.table_finding.specs.Found.{Rows, rows, live_in, retired, youngest, Fits}
use Rattle.call_settling.specs.declared.Finding.{Finding}

-- how many places at the front expire with the next quote: one where all N hold a row, else none
unfoldable pub expired_places : Head → ℕ
expired_places h = h.held + 1 - h.capacity

-- the position of the held row with this number, counted from 1, or 0
unfoldable pub position_of : Head → ℕ → ℕ
position_of h number = cond (eqb number 0) 0 (h.newest - h.held + number)

-- the rows that a book holds in these tables, and a quote
abbrev pub held_rows : Head → List ℕ → List ℕ → List ℕ → Rows
held_rows h x columns uppers = rows h.dimensions h.directions columns uppers x

-- the held rows may be compared with quote x: they fill the window of N, the live ones are as many as the head says, the tables and
-- the places are long enough, and one position is left
pub record Findable (h : Head) (x columns uppers places : List ℕ) : Type 0 where
  pub below : h.newest < last_position
  pub some : 1 ≤ h.capacity
  pub bounded : h.capacity ≤ max_capacity
  pub full : h.held ≡ suc h.newest - window_start h.newest h.capacity
  pub fits : Fits (held_rows h x columns uppers) h.held
  pub counted : h.live ≡ live_in uppers 0 h.held
  pub room : h.held ≤ length places

-- what is found may be told: the numbers are those of rows held
pub record Tellable (h : Head) (uppers : List ℕ) (last count : ℕ) : Type 0 where
  pub below : h.newest < last_position
  pub held_bounded : h.held ≤ max_capacity
  pub held_fits : h.held ≤ h.capacity
  pub held_most : h.held ≤ h.newest
  pub some : 1 ≤ h.capacity
  pub uppers_fit : h.held ≤ length uppers
  pub last_held : last ≤ h.held
  pub lost : live_in uppers 0 (expired_places h) + count ≤ h.live
  pub live_bounded : h.live ≤ h.held

-- where a row expires its upper end is 0 or not below its position, and not above the newest
pub record Placed (h : Head) (uppers : List ℕ) : Type 0 where
  pub below : h.newest < last_position
  pub some : 1 ≤ h.capacity
  pub full : h.held ≡ suc h.newest - window_start h.newest h.capacity
  pub uppers_fit : h.held ≤ length uppers
  pub upper : 0 < expiring h.newest h.capacity
      → (get_or uppers 0 0 ≡ 0) ⊎ ((expiring h.newest h.capacity ≤ get_or uppers 0 0) × (get_or uppers 0 0 ≤ h.newest))

-- how many places may hold a lower end that names the expired position, in a reachable book: those before the expired row's upper end
unfoldable pub named_before : Head → List ℕ → ℕ
named_before h uppers =
    let g = expiring h.newest h.capacity in
    cond (eqb g 0) 0 (cond (eqb (get_or uppers 0 0) 0) h.held (get_or uppers 0 0 - g))

-- how many places may hold one that names it: fewer than all of those held in a book that is known to be reachable
unfoldable pub named_if : Bool → Head → List ℕ → ℕ
named_if reachable h uppers = cond reachable (named_before h uppers) h.held

-- what is found, whether the book is known to be reachable, from where the retired rows are listed, the number of the youngest row over
-- the quote, and how many are retired
abbrev pub told : Head → List ℕ → Bool → ℕ → ℕ → ℕ → Finding
told h uppers reachable at last count =
    record {
      by = expired_places h;
      gone = expiring h.newest h.capacity;
      named = named_if reachable h uppers;
      at = at;
      lower = position_of h last;
      live = h.live - (live_in uppers 0 (expired_places h) + count) + 1;
      held = h.held - expired_places h + 1;
      reachable = reachable;
    }

module _ (h : Head) (x columns uppers : List ℕ) where
  -- the places of the rows that quote x retires, but the expired one
  abbrev pub retired_places : List ℕ
  retired_places = retired (held_rows h x columns uppers) (expired_places h) h.held

  -- the number of the youngest row over quote x, but the expired one
  abbrev pub youngest_over : ℕ
  youngest_over = youngest (held_rows h x columns uppers) (expired_places h) h.held

  -- what is found of quote x
  pub record Finds (places : List ℕ) (f : Finding) : Type 0 where
    pub listed : drop f.at places ≡ retired_places
    pub most : f.at ≤ length places
    pub tells : f ≡ told h uppers f.reachable f.at youngest_over (length retired_places)
