-- The last list of the drill is the reference model's list of n, after it was opened and fed the quotes laid, each accepted. Assumes nothing.
use mathlib.Core.Path.{◌≡◌, sym, ap, ◌∙◌}
use mathlib.Core.Bool.{true}
use mathlib.Core.List.{List, map}
use Prim.Native.Nat.{ℕ, ◌≤◌}
use lib.ListN.{length}
use Rattle.head.specs.Heads.{fresh_head, settings_hold, last_position}
use Rattle.model.specs.Reference.{opening, skyline_of, reference_step, tells}
use Rattle.refusals.specs.Refusals.{granted}
use Rattle.model_audit.specs.Audit.{tape_opening, plays}
use Rattle.model_audit.proofs.Plays.{WideAll, opening_plays, opening_accepted}
use Rattle.drill_model.specs.Drill.{Held, fed_book, last_list}

module _ (d N directions n : ℕ) (hold : settings_hold d N directions ≡ true) where
  -- an accepted opening leaves a book just opened
  opened : (tape_opening (fresh_head d N directions)).next ≡ opening d N directions
  unfolding tape_opening reference_step tells granted
  opened = rw (opening_accepted (fresh_head d N directions) hold)

  pub laid_list : (laid : List Held) → WideAll d (map (λ q. q.columns) laid) → length (map (λ (q : Held). q.columns) laid) ≤ last_position
      → last_list d N directions n laid ≡ skyline_of (plays (map (λ q. q.columns) laid) (tape_opening (fresh_head d N directions)).next) n
  unfolding last_list fed_book opening
  laid_list laid wide room =
      ap (λ s. skyline_of s n) (sym (ap (plays (map (λ (q : Held). q.columns) laid)) opened
      ∙ opening_plays d N directions hold (map (λ q. q.columns) laid) wide room))
