-- Where a read leaves the place: as it was where the end or a refusal is read, else past the frame.
use mathlib.Core.Path.{◌≡◌, refl, sym, ap, ◌∙◌}
use Prim.Native.Nat.{ℕ, ◌-◌, ◌<◌, ◌≤◌}
use mathlib.Core.List.{List}
use lib.ListN.{length, get_or, take, drop}
use Rattle.frames.specs.declared.Message.{Message}
use Rattle.frames.specs.declared.Place.{Place}
use Rattle.frames.specs.declared.Read.{Read}
use Rattle.frames.specs.Frames.{frame, told, saying, Reading, stays, read_at}
use Rattle.frames.specs.Moved.{Moved}
use Rattle.frames.proofs.Reading.{read_says, read_columns, Found, beyond, at_end_lem, unknown, cut, whole, found}
use Rattle.frames.proofs.RoundTrips.{write_after_read}

-- where no message is told, but the end or a refusal, the place is as it was
pub place_stays : {tape : List ℕ} {before after : Place} {r : Read} → Moved tape before r after → ((m : Message) → saying r.message ≡ told m → ⊥) → after ≡ before
unfolding stays
place_stays {tape} {before} {after} {r} moved none =
    moved.moved ∙ ap (λ (n : ℕ). record { at = n }) (go (read_at tape place) (found tape place) (λ m e. none m (read_says r moved.found ∙ e)))
  where
    place : ℕ
    place = before.at

    go : (read : Reading) → Found tape place read → ((m : Message) → read.says ≡ told m → ⊥) → read.next ≡ place
    go _ (beyond t) h = refl
    go _ (at_end_lem t) h = refl
    go _ unknown h = refl
    go _ cut h = refl
    go _ (whole k t) h = absurd (h _ refl)

-- the place stands past the frame of what was read: it went onward, not beyond the end, and passed the bytes of that frame
pub record Past (tape : List ℕ) (before : Place) (m : Message) (columns : List ℕ) (after : Place) : Type 0 where
  pub onward : before.at < after.at
  pub inside : after.at ≤ length tape
  pub passed : frame m columns ≡ take (after.at - before.at) (drop before.at tape)

-- where a message is told, the place is past its frame
pub place_moves : {tape : List ℕ} {before after : Place} {r : Read} (m : Message) → Moved tape before r after → ((i : ℕ) → get_or tape i 0 < 256) → saying r.message ≡ told m
    → Past tape before m r.columns after
place_moves {tape} {before} {after} {r} m moved bytes e =
    let w = write_after_read tape before.at m bytes (sym (read_says r moved.found) ∙ e) in
    rw (moved.moved, read_columns r moved.found) (record { onward = w.onward; inside = w.inside; passed = w.same_bytes })
