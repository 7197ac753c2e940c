-- What a quote finds among the rows of a table: those that it retires, and the youngest row over it.
use Rattle.std.specs.Prelude.{◌≡◌, ℕ, suc, ◌-◌, ◌*◌, ◌≤◌, ◌<◌, Bool, true, false, ◌&&◌, not, cond, List, ltb, eqb, length, get_or, take, drop, Option, Some, None}
use Rattle.lists.specs.Lists.{filter, any, last_or, run}
use Rattle.dominance.specs.Dominance.{no_worse, dominates, some_better}
use Rattle.table_finding.specs.declared.ComparedRows.{ComparedRows}
use Rattle.table_finding.specs.declared.Found.{Found}

-- the row at place i is live: its upper end is 0
unfoldable pub live : List ℕ → ℕ → Bool
live uppers i = eqb (get_or uppers i 0) 0

-- how many of the k rows from place a on are live
unfoldable pub live_in : List ℕ → ℕ → ℕ → ℕ
live_in uppers a k = length (filter (live uppers) (run a k))

-- how many of the 64 rows below a place are taken for live: one where there are fewer, all in a dense book, else those that are
unfoldable pub taken_live : Bool → List ℕ → ℕ → ℕ
taken_live dense uppers to = cond (ltb to 64) 1 (cond dense 64 (live_in uppers (to - 64) 64))

-- a table of rows of d columns, the directions, the rows' upper ends, and a quote
pub record Rows : Type 0 where
  pub d : ℕ
  pub directions : ℕ
  pub columns : List ℕ
  pub uppers : List ℕ
  pub quote : List ℕ

abbrev pub rows : ℕ → ℕ → List ℕ → List ℕ → List ℕ → Rows
rows d directions columns uppers quote = record { d = d; directions = directions; columns = columns; uppers = uppers; quote = quote }

-- the rows that a quote is compared with
abbrev pub rows_of : ComparedRows → Rows
rows_of r = rows r.d r.directions r.columns.now r.uppers.now r.quote.now

-- the number of the row at a place, counted from 1, or 0 where there is none
abbrev pub last_number : Option ℕ → ℕ
last_number None = 0
last_number (Some i) = suc i

module _ (s : Rows) where
  -- the columns of the row at place i
  unfoldable pub row_at : ℕ → List ℕ
  row_at i = take s.d (drop (i * s.d) s.columns)

  -- the quote is over the row at place i, which is older: it is no worse in every column
  unfoldable pub over : ℕ → Bool
  over i = no_worse s.d s.directions s.quote (row_at i)

  -- the row at place i is over the quote, which is younger: it dominates it
  unfoldable pub under : ℕ → Bool
  under i = dominates s.d s.directions (row_at i) s.quote

  -- the quote is better than the row at place i in some column, and worse in another
  unfoldable pub crosses : ℕ → Bool
  crosses i = some_better s.d s.directions s.quote (row_at i) && some_better s.d s.directions (row_at i) s.quote

  -- so it is with each of the k rows from place a on
  unfoldable pub dull_in : ℕ → ℕ → Bool
  dull_in a k = not (any (λ i. not (crosses i)) (run a k))

  -- the quote retires the row at place i: it is live, and the quote is over it
  unfoldable pub retires : ℕ → Bool
  retires i = live s.uppers i && over i

  -- the places from a on and below b whose rows the quote retires, rising
  unfoldable pub retired : ℕ → ℕ → List ℕ
  retired a b = filter retires (run a (b - a))

  -- the number of the youngest row over the quote from place a on and below b, counted from 1, or 0
  unfoldable pub youngest : ℕ → ℕ → ℕ
  youngest a b = last_or 0 (filter (λ n. under (n - 1)) (run (suc a) (b - a)))

  -- the rows below b lie within the table, and the quote has their columns
  pub record Fits (b : ℕ) : Type 0 where
    pub quoted : s.d ≤ length s.quote
    pub columns : b * s.d ≤ length s.columns
    pub uppers : b ≤ length s.uppers
    pub bounded : b ≤ 1024

  -- there is room in the list for the places below i
  pub record Room (i : ℕ) (places : List ℕ) (at : ℕ) : Type 0 where
    pub least : i ≤ at
    pub most : at ≤ length places

  -- the rows from place a on and below b are as calls leave them: the youngest row over the quote is live, and each live row that
  -- the quote is over is younger than every row over the quote
  pub record Sound (a b : ℕ) : Type 0 where
    pub alive : (i : ℕ) → a ≤ i → i < b → under i ≡ true → ((j : ℕ) → i < j → j < b → under j ≡ false) → live s.uppers i ≡ true
    pub younger : (i j : ℕ) → a ≤ i → i < b → retires i ≡ true → a ≤ j → j < b → under j ≡ true → j < i

  -- the row at place i says nothing: the quote does not retire it, and it is not over the quote if one that is is sought
  pub record Idle (sought : Bool) (i : ℕ) : Type 0 where
    pub kept : retires i ≡ false
    pub not_over : sought ≡ true → under i ≡ false

  -- place i is that of the youngest row from place a on and below b that may say something, or there is none
  abbrev pub NextSaid : Bool → ℕ → ℕ → Option ℕ → Type 0
  NextSaid sought a b None = (q : ℕ) → a ≤ q → q < b → Idle sought q
  NextSaid sought a b (Some i) = (a ≤ i) × (i < b) × ((q : ℕ) → i < q → q < b → Idle sought q)

  -- what is to be found: the retired rows listed from at on, and the number of the youngest row over the quote
  pub record Finds (a b : ℕ) (places : List ℕ) (r : Found) : Type 0 where
    pub listed : drop r.at places ≡ retired a b
    pub last : last_number r.last ≡ youngest a b
    pub most : r.at ≤ length places

  -- what was found from place i on and below b goes on to what is found from place a on, if the ends of the rows there are sound where
  -- they are taken for it
  abbrev pub Passing : Bool → ℕ → ℕ → ℕ → List ℕ → Found → List ℕ → Found → Type 0
  Passing sound a i b before f places r = (sound ≡ true → Sound a b) → Finds i b before f → Finds a b places r
