-- Whether a frame is ready, and whether it is settled, by the tests that the code makes.
use mathlib.Core.Path.{◌≡◌, sym, ◌∙◌}
use Prim.Native.Nat.{ℕ, ◌+◌, ◌-◌, ◌≤◌, ◌<◌}
use native.Mathlib.Omega.{arith}
use mathlib.Core.Bool.{Bool, true, false, ◌&&◌, ◌||◌, not}
use mathlib.Core.List.{List}
use lib.Dec.{ltb, leb, eqb}
use lib.ListN.{length, get_or}
use borrow.Author.Tests.{ltb-true, lt-ltb, le-ltb, leb-true, le-leb, eq-eqb, ne_eqb, not-true, not-false}
use Rattle.lists.proofs.Booleans.{agree, refute, and_left}
use Rattle.frame_kinds.specs.Kinds.{within, look_kind, body_length}
use Rattle.frame_kinds.proofs.Shapes.{within_bounds}
use Rattle.tape_model.specs.Streams.{ready, settled}

module _ (tape : List ℕ) (place : ℕ) where
  -- nothing stands at the end or beyond it
  pub not_ready : length tape ≤ place → false ≡ ready tape place
  unfolding ready
  not_ready h = rw (le-ltb place (length tape) h)

  -- a frame of a known kind is whole if its body is shorter than what stands from its kind on
  pub ready_known : {body : ℕ} → place < length tape → (body ≡ body_length (get_or tape place 0)) × (body ≤ 24) → ltb body (length tape - place) ≡ ready tape place
  unfolding ready
  ready_known {body} h b =
      let same : ltb body (length tape - place) ≡ leb (place + 1 + body) (length tape) =
      agree _ _ (λ t. le-leb (place + 1 + body) (length tape) (omega (arith, ltb-true body (length tape - place) t)))
      (λ t. lt-ltb body (length tape - place) (omega (arith, leb-true (place + 1 + body) (length tape) t))) in
      let known : (body ≡ 255) → ⊥ = λ e. omega (arith, e, b.1) in
      rw (lt-ltb place (length tape) h, ← b.0, ne_eqb body 255 known, same)

  -- and one of an unknown kind is ready
  pub ready_unknown : place < length tape → body_length (get_or tape place 0) ≡ 255 → true ≡ ready tape place
  unfolding ready
  ready_unknown h e = rw (lt-ltb place (length tape) h, e)

  abbrev kind : ℕ
  kind = get_or tape place 0

  -- ---- whether it is settled

  -- a frame that is not ready is not
  pub not_settled : {r : Bool} → r ≡ ready tape place → not r ≡ true → false ≡ settled tape place
  unfolding settled
  not_settled {r} e t = rw (← e, not-true r t)

  module _ {r : Bool} (e : r ≡ ready tape place) (t : not r ≡ false) where
    is_ready : ready tape place ≡ true
    is_ready = sym e ∙ not-false r t

    -- a kind stands there
    pub stands : place < length tape
    unfolding ready
    stands = ltb-true place (length tape) (and_left (ltb place (length tape)) _ is_ready)

    -- another frame than a quote's is settled
    pub low_settled : kind ≡ 0 → true ≡ settled tape place
    unfolding settled
    low_settled k = rw (is_ready, k)

    pub high_settled : 6 < kind → true ≡ settled tape place
    unfolding settled
    high_settled k = rw (is_ready, refute (within 1 6 kind) (λ w. let b = within_bounds 1 6 kind w in omega arith))

    -- and a quote's if what follows is known
    module _ (low : 1 ≤ kind) (high : kind ≤ 6) {body : ℕ} (b : body ≡ body_length kind) where
      pub by_next : let next = place + 1 + body in (ltb next (length tape) && (not (eqb (get_or tape next 0) look_kind) || ready tape next)) ≡ settled tape place
      unfolding settled
      by_next = rw (is_ready, le-leb 1 kind low, le-leb kind 6 high, b)

-- what follows, by what stands at the next place
module _ (tape : List ℕ) (next : ℕ) where
  abbrev follower : ℕ
  follower = get_or tape next 0

  -- nothing has come
  pub none_follows : length tape ≤ next → false ≡ (ltb next (length tape) && (not (eqb follower look_kind) || ready tape next))
  none_follows h = rw (le-ltb next (length tape) h)

  -- no look follows
  pub other_follows : next < length tape → (follower ≡ look_kind → ⊥) → true ≡ (ltb next (length tape) && (not (eqb follower look_kind) || ready tape next))
  other_follows h n = rw (lt-ltb next (length tape) h, ne_eqb follower look_kind n)

  -- a look follows
  pub look_follows : next < length tape → follower ≡ look_kind → ready tape next ≡ (ltb next (length tape) && (not (eqb follower look_kind) || ready tape next))
  look_follows h n = rw (lt-ltb next (length tape) h, eq-eqb follower look_kind n)
