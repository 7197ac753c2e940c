-- The reference model fed with quotes, from an opening or later: which it takes, and what it holds after them.
use mathlib.Core.Path.{◌≡◌, refl, sym, ap, ◌∙◌}
use Prim.Native.Nat.{ℕ, zero, suc, ◌+◌, ◌*◌, ◌≤◌, ◌<◌, zero-le}
use native.Mathlib.Nat.{zero-add, mul-le-mul_right}
use native.Mathlib.Omega.{arith}
use mathlib.Core.Bool.{Bool, true, false, ◌&&◌, not, cond}
use mathlib.Core.List.{List, [], ◌∷◌, ◌++◌, append-nil, append_assoc}
use lib.Dec.{ltb, leb, eqb}
use lib.ListN.{length, get_or, length-append}
use borrow.Author.Tests.{eqb-true, leb-false, eq-eqb, lt-leb, le-ltb, not-false}
use Rattle.head.specs.declared.Head.{Head}
use Rattle.refusals.specs.declared.Refusal.TheVariants.{ColumnCount, TapeFull, ShortOutput}
use Rattle.refusals.specs.Refusals.{number, first_of, granted}
use Rattle.head.specs.Heads.{settings_hold, last_position}
use Rattle.head.proofs.Settings.{settings_within}
use Rattle.refusals.proofs.Numbers.{zero_passed}
use Rattle.model.specs.Changes.{change_room}
use Rattle.model.specs.Reference.{Reference, Quote, ample, newest, opening, is_open, with_quote, with_quotes, too_short, tells, reference_step}
use Rattle.model_audit.specs.Audit.{tape_opening, plays}

-- the reference model that holds these quotes, with no watch standing
abbrev pub holding : ℕ → ℕ → ℕ → List (List ℕ) → Reference
holding d N directions qs = record { dimensions = d; capacity = N; directions = directions; quotes = qs; watched = []; n1 = 0; n2 = 0 }

-- every quote has d columns
abbrev pub WideAll : ℕ → List (List ℕ) → Type 0
WideAll d qs = (k : ℕ) → k < length qs → length (get_or qs k []) ≡ d

plays_nil : (s : Reference) → plays [] s ≡ s
unfolding plays
plays_nil s = refl

module _ (s : Reference) (hold : is_open s ≡ true) where
  -- the columns of a quote
  abbrev d : ℕ
  d = s.dimensions

  -- the model with other quotes
  abbrev at : List (List ℕ) → Reference
  at qs = record {
    dimensions = s.dimensions;
    capacity = s.capacity;
    directions = s.directions;
    quotes = qs;
    watched = s.watched;
    n1 = s.n1;
    n2 = s.n2;
  }

  -- a quote is taken if it has d columns and the tape is not full
  quote_next : (x : List ℕ) (qs : List (List ℕ))
      → (reference_step (Quote x) ample (at qs)).next ≡ cond (eqb (length x) d && not (leb last_position (length qs))) (at (qs ++ (x ∷ []))) (at qs)
  unfolding reference_step tells is_open first_of granted with_quote
  quote_next x qs = rw hold (go (eqb (length x) d) (leb last_position (length qs)))
    where
      go : (a b : Bool)
          → granted (first_of ((not a, number ColumnCount) ∷ (b, number TapeFull) ∷ (ltb change_room change_room, number ShortOutput) ∷ []))
          (at (qs ++ (x ∷ []))) (at qs)
          ≡ cond (a && not b) (at (qs ++ (x ∷ []))) (at qs)
      go true true = refl
      go true false = refl
      go false b = refl

  -- the first quote, and then the others
  plays_cons : (x : List ℕ) (xs qs : List (List ℕ))
      → plays (x ∷ xs) (at qs) ≡ plays xs (cond (eqb (length x) d && not (leb last_position (length qs))) (at (qs ++ (x ∷ []))) (at qs))
  unfolding plays
  plays_cons x xs qs = ap (plays xs) (quote_next x qs)

  -- quotes of d columns are all taken while the tape is not full
  plays_all : (xs qs : List (List ℕ)) → WideAll d xs → length qs + length xs ≤ last_position → plays xs (at qs) ≡ at (qs ++ xs)
  unfolding plays
  plays_all [] qs wide room = ap at (sym (append-nil qs))
  plays_all (x ∷ xs) qs wide room =
      rw (quote_next x qs, eq-eqb (length x) d (wide 0 (omega arith)), lt-leb last_position (length qs) (omega arith))
      (plays_all xs (qs ++ (x ∷ [])) (λ k h. wide (suc k) (omega arith)) (simp length-append (omega arith))
      ∙ ap at (append_assoc qs (x ∷ []) xs))

  -- never more are held than were fed
  fed_bound : (xs qs : List (List ℕ)) → length (plays xs (at qs)).quotes ≤ length qs + length xs
  fed_bound [] qs = rw (plays_nil (at qs)) (omega arith)
  fed_bound (x ∷ xs) qs =
      rw (plays_cons x xs qs)
      (go (eqb (length x) d && not (leb last_position (length qs))) (simp length-append at (fed_bound xs (qs ++ (x ∷ [])))) (fed_bound xs qs))
    where
      go : (b : Bool) → length (plays xs (at (qs ++ (x ∷ [])))).quotes ≤ length qs + 1 + length xs → length (plays xs (at qs)).quotes ≤ length qs + length xs
          → length (plays xs (cond b (at (qs ++ (x ∷ []))) (at qs))).quotes ≤ length qs + suc (length xs)
      go true f g = omega arith
      go false f g = omega arith

  -- where as many are held as were fed, every quote had d columns and found room
  taken : (xs qs : List (List ℕ)) → length qs ≤ last_position → length (plays xs (at qs)).quotes ≡ length qs + length xs
      → WideAll d xs × (length qs + length xs ≤ last_position)
  taken [] qs room e = (λ k h. absurd (omega arith), omega arith)
  taken (x ∷ xs) qs room e =
      go (eqb (length x) d) refl (leb last_position (length qs)) refl (rw (plays_cons x xs qs) at e) (fed_bound xs qs)
      (λ h f. taken xs (qs ++ (x ∷ [])) (simp length-append (omega arith)) (f ∙ simp length-append (omega arith)))
    where
      go : (a : Bool) → eqb (length x) d ≡ a → (b : Bool) → leb last_position (length qs) ≡ b
          → length (plays xs (cond (a && not b) (at (qs ++ (x ∷ []))) (at qs))).quotes ≡ length qs + suc (length xs)
          → length (plays xs (at qs)).quotes ≤ length qs + length xs
          → (length qs < last_position → length (plays xs (at (qs ++ (x ∷ [])))).quotes ≡ length qs + suc (length xs) → WideAll d xs × (length (qs ++ (x ∷ [])) + length xs ≤ last_position))
          → WideAll d (x ∷ xs) × (length qs + suc (length xs) ≤ last_position)
      go true u true v e f r = absurd (omega arith)
      go true u false v e f r =
          let t = r (leb-false last_position (length qs) v) e in
          (wide t.0, let n = length-append qs (x ∷ []) in let m = t.1 in omega arith)
        where
          wide : WideAll d xs → WideAll d (x ∷ xs)
          wide w zero h = eqb-true (length x) d u
          wide w (suc k) h = w k (omega arith)
      go false u b v e f r = absurd (omega arith)

  -- an opened model takes quotes of d columns while the tape has space for them
  pub plays_on : (more : List (List ℕ)) → WideAll d more → newest s + length more ≤ last_position → plays more s ≡ with_quotes s more
  plays_on more wide room = plays_all more s.quotes wide room

module _ (d N directions : ℕ) (hold : settings_hold d N directions ≡ true) where
  fresh_opened : is_open (holding d N directions []) ≡ true
  unfolding is_open
  fresh_opened = hold

  -- a book just opened holds a tape of quotes of d columns that is not too long
  pub opening_plays : (qs : List (List ℕ)) → WideAll d qs → length qs ≤ last_position → plays qs (opening d N directions) ≡ holding d N directions qs
  unfolding opening
  opening_plays qs wide room = plays_all (holding d N directions []) fresh_opened qs [] wide (omega arith)

  -- one that holds as many quotes as the tape has took a tape of quotes of d columns that is not too long
  pub opening_took : (qs : List (List ℕ)) → length (plays qs (opening d N directions)).quotes ≡ length qs → WideAll d qs × (length qs ≤ last_position)
  unfolding opening
  opening_took qs e = rw zero-add at (taken (holding d N directions []) fresh_opened qs [] zero-le (e ∙ sym (zero-add (length qs))))

-- lengths that are ample are long enough for settings that hold
ample_long : (d N directions : ℕ) → settings_hold d N directions ≡ true → too_short ample d N ≡ false
unfolding too_short
ample_long d N directions hold =
    let w = settings_within d N directions hold in
    let cells : N * d ≤ 6144 = omega (arith, mul-le-mul_right {m = N} {n = 1024} d w.small_capacity, w.bounded_columns) in
    rw (le-ltb 6144 (N * d) cells, le-ltb 1024 N w.small_capacity)

module _ (h : Head) where
  -- the opening of a tape is accepted exactly if the head's settings hold
  pub opening_accepted : settings_hold h.dimensions h.capacity h.directions ≡ true → (tape_opening h).number ≡ 0
  unfolding tape_opening reference_step tells first_of
  opening_accepted hold = rw (hold, ample_long h.dimensions h.capacity h.directions hold)

  pub accepted_settings : (tape_opening h).number ≡ 0 → settings_hold h.dimensions h.capacity h.directions ≡ true
  unfolding tape_opening reference_step tells
  accepted_settings e = not-false (settings_hold h.dimensions h.capacity h.directions) (zero_passed _ _ _ e).0

  -- and then it is a book just opened
  pub opening_next : settings_hold h.dimensions h.capacity h.directions ≡ true → (tape_opening h).next ≡ opening h.dimensions h.capacity h.directions
  unfolding tape_opening reference_step tells first_of granted
  opening_next hold = rw (hold, ample_long h.dimensions h.capacity h.directions hold)
