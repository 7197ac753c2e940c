-- What stands at a place of a tape, and is wanted of the player.
use Rattle.std.specs.Prelude.{◌≡◌, ℕ, ◌≤◌, List, length, Option, Some, Result, Ok}
use Rattle.refusals.specs.declared.Refusal.{Refusal}
use Rattle.head.specs.declared.Head.{Head}
use Rattle.head.specs.Heads.{settings_hold}
use Rattle.frames.specs.Frames.{read_at}
use Rattle.tape_asking.specs.declared.Wanted.{Wanted}
use Rattle.tape_asking.specs.declared.Wanted.TheVariants.{Quote}
use Rattle.tape_asking.specs.Asking.{asked}
use Rattle.tape_asking.specs.Placing.{wants}

-- what stands at a place of a tape is wanted of a player with this head, with at most six columns, and ends before next
pub record WishAt (tape : List ℕ) (place : ℕ) (h : Head) (w : Result (Option Wanted) Refusal) (x : List ℕ) (after : ℕ) : Type 0 where
  pub asks : (columns : List ℕ) → wants w columns ≡ asked (settings_hold h.dimensions h.capacity h.directions) (read_at tape place).says columns
  pub columns : x ≡ (read_at tape place).columns
  pub next : after ≡ (read_at tape place).next
  pub six : length x ≡ 6
  pub bounded : (n : ℕ) → w ≡ Ok (Some (Quote n)) → n ≤ 6
