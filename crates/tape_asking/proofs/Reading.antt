-- What was read at a place of a tape is wanted there.
use mathlib.Core.Path.{◌≡◌, refl, ap, ◌∙◌}
use Prim.Native.Nat.{ℕ}
use mathlib.Core.Bool.{Bool}
use mathlib.Core.List.{List}
use lib.ListN.{length}
use Rattle.std.specs.Prelude.{Option, Result}
use Rattle.refusals.specs.declared.Refusal.{Refusal}
use Rattle.lists.specs.Lists.{run}
use Rattle.head.specs.declared.Head.{Head}
use Rattle.head.specs.Heads.{settings_hold}
use Rattle.frames.specs.declared.Read.{Read}
use Rattle.frames.specs.Frames.{columns_at, saying, Reading, reading, stays, read_at}
use Rattle.frames.proofs.Reading.{read_columns, read_next, Found, beyond, at_end_lem, unknown, cut, whole, found}
use Rattle.tape_asking.specs.declared.Wanted.{Wanted}
use Rattle.tape_asking.specs.Asking.{asked}
use Rattle.tape_asking.specs.Placing.{wants}
use Rattle.tape_asking.specs.Reading.{WishAt}
use Rattle.tape_asking.proofs.Places.{wanted_asked, quote_bounded}

-- what is read has six columns, with zeros behind those of its quote
read_six : (tape : List ℕ) (place : ℕ) {r : Reading} → Found tape place r → length r.columns ≡ 6
unfolding stays columns_at run
read_six tape place (beyond h) = refl
read_six tape place (at_end_lem e) = refl
read_six tape place unknown = refl
read_six tape place cut = refl
read_six tape place (whole k h) = refl

-- what was read at a place, judged by whether an opening was accepted
pub wish_there : (tape : List ℕ) (place : ℕ) (h : Head) (r : Read) {held : Bool} (w : Result (Option Wanted) Refusal) → reading r ≡ read_at tape place
    → held ≡ settings_hold h.dimensions h.capacity h.directions → ((columns : List ℕ) → wants w columns ≡ asked held (saying r.message) columns)
    → WishAt tape place h w r.columns r.next
wish_there tape place h r {held} w e f g =
    record {
      asks = λ columns. wanted_asked tape place held r w e g columns ∙ ap (λ (b : Bool). asked b (read_at tape place).says columns) f;
      columns = read_columns r e;
      next = read_next r e;
      six = rw (read_columns r e) (read_six tape place (found tape place));
      bounded = λ n q. quote_bounded tape place held r w e g q;
    }
