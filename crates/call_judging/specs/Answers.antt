-- The first answers of a call that is lent tables and watch records, in the parts that one function judges.
use Rattle.std.specs.Prelude.{ℕ, true, ◌||◌, not, [], ◌∷◌, ltb}
use Rattle.head.specs.declared.Head.{Head}
use Rattle.head.specs.Desks.{record_count}
use Rattle.refusals.specs.declared.Refusal.TheVariants.{Settings, ShortLoan, Torn}
use Rattle.head.specs.Heads.{settings_hold, torn_pair}
use Rattle.refusals.specs.Refusals.{number, first_of}
use Rattle.model.specs.Rows.{Tables}
use Rattle.model.specs.Book.{short_tables, torn_rows, book_rows}

-- the answer of a call that is lent the tables and so many watch records, before it reads them, 0 if accepted: 3, 11
unfoldable pub loan_answer : Head → Tables → ℕ → ℕ
loan_answer h t lent =
    first_of ((not (settings_hold h.dimensions h.capacity h.directions), number Settings)
    ∷ (short_tables t h.dimensions h.capacity || ltb lent record_count, number ShortLoan) ∷ [])

-- the answer of such a call once it has read the tables: 3, 11, 12
unfoldable pub rows_answer : Head → Tables → ℕ → ℕ
rows_answer h t lent =
    first_of ((not (settings_hold h.dimensions h.capacity h.directions), number Settings)
    ∷ (short_tables t h.dimensions h.capacity || ltb lent record_count, number ShortLoan) ∷ (torn_rows h (book_rows h t) || torn_pair h, number Torn) ∷ [])

-- the answer of a call that is lent fewer than eight watch records, with the settings of h: 3, 11
unfoldable pub short_loan_answer : Head → ℕ
short_loan_answer h = first_of ((not (settings_hold h.dimensions h.capacity h.directions), number Settings) ∷ (true, number ShortLoan) ∷ [])
