-- A watcher that reads the frames the calls on a book write holds its list after every call, until its watch ends: the skyline of its
-- desk's n, or the past list of the pair.
use mathlib.Core.Path.{◌≡◌, refl, sym, ap, ◌∙◌}
use mathlib.Core.List.{List, [], ◌∷◌}
use Prim.Native.Nat.{ℕ}
use Rattle.lists.specs.Lists.{any}
use Rattle.head.specs.declared.Desk.{Desk}
use Rattle.model.specs.Reference.{unopened, paired}
use Rattle.model.specs.Calls.{Lending, Lent, Seen, World, Expected, book_step, expected_step, runs, world_first, expected_first, reference_at_end}
use Rattle.model_watcher.specs.Watcher.{Follower, OfSize, OfPair, Held, Nothing, watcher_step, watcher, watched_for, held_by}
use Rattle.model.proofs.Simulation.{Simulation, bounded}
use Rattle.model.proofs.Replay.{call_agrees, replay_ends}
use Rattle.model_watcher.proofs.Following.{follows}

module _ (f : Follower) where
  -- over a list of calls, from what it is to hold on
  holds_on : (cs : List Lending) (k : Expected) (w : World) → Simulation k w
      → watcher f cs (runs book_step cs w).0 (held_by f k.reference) ≡ held_by f (runs expected_step cs k).1.reference
  unfolding watcher runs
  holds_on [] k w j = refl
  holds_on (c ∷ cs) k w j =
      let one = call_agrees c.call c.outputs k w j in
      let next = (book_step c.call c.outputs w).1 in
      ap (λ (held : Held). watcher f cs (runs book_step cs next).0 held)
      (ap (λ (seen : Seen). watcher_step f c.call seen (held_by f k.reference)) one.0
      ∙ follows f k.reference k.lent (bounded k.reference k.lent j.since) c.outputs c.call)
      ∙ holds_on cs (expected_step c.call c.outputs k).1 next one.1

-- at first nothing is watched
none_first : (f : Follower) → held_by f unopened ≡ Nothing
unfolding held_by watched_for any paired
none_first (OfSize desk n) = refl
none_first OfPair = refl

-- after every list of calls a watcher holds nothing where its list is not watched, and else its list
pub watcher_holds : (f : Follower) (cs : List Lending) (l : Lent) → watcher f cs (runs book_step cs (world_first l)).0 Nothing ≡ held_by f (reference_at_end cs l)
unfolding runs
watcher_holds f cs l =
    ap (λ (held : Held). watcher f cs (runs book_step cs (world_first l)).0 held) (sym (none_first f))
    ∙ holds_on f cs (expected_first l) (world_first l) (replay_ends [] l)

-- a desk's watcher of n holds the skyline of n
pub watcher_holds_skyline : (desk : Desk) (n : ℕ) (cs : List Lending) (l : Lent)
    → watcher (OfSize desk n) cs (runs book_step cs (world_first l)).0 Nothing ≡ held_by (OfSize desk n) (reference_at_end cs l)
watcher_holds_skyline desk n = watcher_holds (OfSize desk n)

-- the watcher of the pair holds its past list
pub pair_holds_past : (cs : List Lending) (l : Lent)
    → watcher OfPair cs (runs book_step cs (world_first l)).0 Nothing ≡ held_by OfPair (reference_at_end cs l)
pair_holds_past = watcher_holds OfPair
