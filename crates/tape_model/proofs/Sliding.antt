-- A book that goes on with other tables that agree in its places: it stands alike with the same reference model, and so prints the same of
-- a tape that is read in pieces.
use mathlib.Core.Path.{◌≡◌, refl, sym, ap, ◌∙◌}
use mathlib.Core.Logic.{◌⊎◌, inl, inr}
use Prim.Native.Nat.{ℕ}
use mathlib.Core.Bool.{true, false}
use mathlib.Core.List.{List, [], ◌++◌}
use Rattle.lists.proofs.Booleans.{clash}
use Rattle.head.specs.declared.Head.{Head}
use Rattle.head.specs.Heads.{settings_hold}
use Rattle.model.specs.Rows.{Tables}
use Rattle.model_claims.specs.Places.{SamePlaces}
use Rattle.model.specs.Reference.{Reference, Lengths, unopened, head_of, is_open}
use Rattle.model.specs.Calls.{Lent, lengths_of}
use Rattle.model.proofs.Simulation.{Invariant}
use Rattle.model_claims.proofs.Places.{not_opened, invariant_alike}
use Rattle.tape_model.specs.Play.{reference_make, Player, on, begun, book_play}
use Rattle.tape_model.specs.Streams.{ready, Streams, plays, stops}
use Rattle.tape_model.proofs.Agrees.{Answering, Alike, begun_alike, frame_agrees}

module _ (lengths : Lengths) (s : Reference) (k : Player) (v : Alike lengths s k) where
  -- what is lent
  abbrev l : Lent
  l = k.world.lent

  -- its head
  abbrev h : Head
  h = k.world.head

  module _ (u : Tables) (holds : settings_hold h.dimensions h.capacity h.directions ≡ true) (p : SamePlaces h.dimensions h.capacity l.tables u) where
    taken : is_open s ≡ true
    unfolding begun
    taken = sym (begun_alike s k v) ∙ holds

    invariant : Invariant s (on u k).world.lent
    unfolding head_of
    invariant = go v.simulation.since
      where
        go : (s ≡ unopened) ⊎ Invariant s l → Invariant s (on u k).world.lent
        go (inl e) = absurd (clash (is_open s) taken (rw e not_opened))
        go (inr f) = invariant_alike s l f u (rw v.simulation.head at p)

    -- the lengths of the outputs stay
    answering : Answering s (lengths_of l k.outputs) lengths → Answering s (lengths_of (on u k).world.lent k.outputs) lengths
    unfolding lengths_of
    answering (inl e) = inr (taken, ap Lengths.bytes e, ap Lengths.cells e)
    answering (inr t) = inr (taken, t.1, t.2)

    -- an opened book stands alike on all tables that agree in its places
    pub slide_alike : Alike lengths s (on u k)
    slide_alike = record { simulation = record { head = v.simulation.head; lent = refl; since = inr invariant }; lent = answering v.lent }

  module _ {piece rest : List ℕ} {place : ℕ} (c : (ready piece place ≡ true) ⊎ (rest ≡ [])) where
    -- a frame that the book plays is played by the reference model, and then what both come to
    pub plays_alike : {text : List ℕ} → (book_play piece place k).over ≡ false
        → ((next : Reference) → Alike lengths next (book_play piece place k).state → Streams is_open (reference_make lengths) piece (book_play piece place k).next next rest text)
        → Streams is_open (reference_make lengths) piece place s rest ((book_play piece place k).text ++ text)
    plays_alike {text} o more =
        let m = frame_agrees lengths piece place s k v in
        rw m.text (plays {text = text} c (sym m.over ∙ o) (rw (← m.next) (more _ m.state)))

    -- and so is one that ends the tape
    pub stops_alike : (book_play piece place k).over ≡ true → Streams is_open (reference_make lengths) piece place s rest (book_play piece place k).text
    stops_alike o = let m = frame_agrees lengths piece place s k v in rw m.text (stops c (sym m.over ∙ o))
