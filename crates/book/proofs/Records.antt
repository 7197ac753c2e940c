-- Lists of calls on lent watch records: what the model is told of records is their numbers, and these are all that they hold.
use mathlib.Core.Path.{◌≡◌, refl, sym, ap, ap₂, ◌∙◌}
use Prim.Native.Nat.{ℕ, ◌<◌}
use mathlib.Core.List.{List, [], ◌∷◌, map, Memᴰ}
use Rattle.head.specs.declared.Watch as Record
use Rattle.head.specs.Desks.{desk_unit, desk_in, size_in}
use Rattle.model.specs.Rows.{Tables}
use Rattle.model.specs.Calls.{Lending, Lent, Seen, World, world_first}
use Rattle.model_claims.specs.Claims.{AllMade, Refines}
use Rattle.model.proofs.Desks.{desk_of_record, size_of_record}
use Rattle.model_claims.proofs.Refining.{calls_refine}
use Rattle.watch_records.specs.Records.{record_number, watched}

-- what the model is told of lent tables and records
abbrev pub told : Tables → List Record.Watch → Lent
told t ys = record { tables = t; watches = watched ys }

-- calls of a book that were made from a head of zeros on any tables and records refine the reference model
pub book_refines : (cs : List Lending) (t : Tables) (ys : List Record.Watch) (ss : List Seen) (end : World) → AllMade cs (world_first (told t ys)) ss end
    → Refines cs (told t ys) ss end
book_refines cs t ys = calls_refine cs (told t ys)

-- each n has 32 bits, as its type says
abbrev pub Fitting : List Record.Watch → Type 0
Fitting ys = (y : Record.Watch) → Memᴰ y ys → y.n < desk_unit

-- the record of a number
abbrev recorded : ℕ → Record.Watch
recorded w = record { n = size_in w; desk = desk_in w }

-- records are their numbers again
again : (ys : List Record.Watch) → Fitting ys → map recorded (watched ys) ≡ ys
unfolding watched
again [] fits = refl
again (y ∷ ys) fits =
    ap₂ (λ (r : Record.Watch) (l : List Record.Watch). r ∷ l) (one (fits y (Memᴰ.head refl))) (again ys (λ z m. fits z (Memᴰ.tail m)))
  where
    one : y.n < desk_unit → recorded (record_number y) ≡ y
    one h = ap₂ (λ (a b : ℕ). record { n = a; desk = b }) (size_of_record y.desk y.n h) (desk_of_record y.desk y.n h)

-- so what is said of the numbers of records is said of the records
pub records_fixed : (ys zs : List Record.Watch) → Fitting ys → Fitting zs → watched ys ≡ watched zs → ys ≡ zs
records_fixed ys zs f g e = sym (again ys f) ∙ ap (map recorded) e ∙ again zs g
