-- Laws of the kinds: the shape of kinds in a row, the kinds of a shape, and the body lengths of known kinds.
use mathlib.Core.Path.{◌≡◌, refl, sym, ap, ◌∙◌}
use mathlib.Core.Logic.{◌⊎◌, inl, inr}
use Prim.Native.Nat.{ℕ, zero, suc, ◌+◌, ◌-◌, ◌*◌, ◌≤◌, ◌<◌}
use native.Mathlib.Omega.{arith}
use mathlib.Core.Bool.{Bool, true, false, ◌&&◌, ◌||◌, not, cond}
use mathlib.Core.List.{List, [], ◌∷◌, map}
use lib.Dec.{leb, eqb}
use lib.ListN.{get_or, replicate, get_or-replicate}
use borrow.Author.Tests.{leb-true, le-leb, eqb-true, eq-eqb}
use Rattle.lists.specs.Lists.{run}
use Rattle.lists.proofs.Booleans.{either, clash, refute, and_left, and_right}
use Rattle.lists.proofs.Runs.{get_or_run}
use Rattle.frame_kinds.specs.declared.Shape.{Shape}
use Rattle.frame_kinds.specs.declared.Shape.TheVariants.{Columns, Size, SizePosition, SizePair, Bare, Position, Settings, Unknown}
use Rattle.frame_kinds.specs.Kinds.{within, open_kind, kinds, shape_in, shape_of, code_of, has_shape, length_of, body_length}

-- ---- kinds in a row

-- kinds in a row whose shapes compute to one shape have it
pub in_row : (shape : Shape) (low n : ℕ) → map shape_of (run low n) ≡ replicate n shape → (kind : ℕ) → low ≤ kind → kind < low + n → shape ≡ shape_of kind
in_row shape low n e kind h l =
    let place : low + (kind - low) ≡ kind = omega arith in
    sym (get_or-replicate n (kind - low) shape shape (omega arith))
    ∙ ap (λ (l : List Shape). get_or l (kind - low) shape) (sym e)
    ∙ get_or_run shape_of shape low n (kind - low) (omega arith)
    ∙ ap shape_of place

-- ---- the kinds of a shape

-- a shape that frames have
abbrev pub KnownShape : Shape → Type 0
KnownShape shape = code_of shape < code_of Unknown

-- every kind of a table that has this shape passes a test
unfoldable pub all_pass : Shape → (ℕ → Bool) → List (ℕ × Shape) → Bool
all_pass shape test [] = true
all_pass shape test (k ∷ ks) = (not (eqb (code_of k.1) (code_of shape)) || test k.0) && all_pass shape test ks

-- so a kind to which the table gives this shape passes it
passes : (shape : Shape) (test : ℕ → Bool) (ks : List (ℕ × Shape)) (kind : ℕ) → KnownShape shape → all_pass shape test ks ≡ true → shape_in ks kind ≡ shape → test kind ≡ true
unfolding all_pass shape_in
passes shape test [] kind known all e = absurd (omega (arith, ap code_of e))
passes shape test (k ∷ ks) kind known all e = go (either (eqb kind k.0)) (passes shape test ks kind known)
  where
    one : Bool
    one = not (eqb (code_of k.1) (code_of shape)) || test k.0

    go : (eqb kind k.0 ≡ true) ⊎ (eqb kind k.0 ≡ false) → (all_pass shape test ks ≡ true → shape_in ks kind ≡ shape → test kind ≡ true) → test kind ≡ true
    go (inl t) more =
        let mine : k.1 ≡ shape = rw t at e in
        rw (eqb-true kind k.0 t) (rw (mine, eq-eqb (code_of shape) (code_of shape) refl) at (and_left one (all_pass shape test ks) all))
    go (inr t) more = more (and_right one (all_pass shape test ks) all) (rw t at e)

-- the bounds of a number that passes the test
pub within_bounds : (a b k : ℕ) → within a b k ≡ true → (a ≤ k) × (k ≤ b)
within_bounds a b k e = (leb-true a k (and_left (leb a k) (leb k b) e), leb-true k b (and_right (leb a k) (leb k b) e))

-- the kinds 1 to 6 are quotes'
pub quote_shape : (kind : ℕ) → 1 ≤ kind → kind ≤ 6 → shape_of kind ≡ Columns
unfolding shape_of
quote_shape kind u v = rw (le-leb 1 kind u, le-leb kind 6 v)

-- and no others are
pub quote_kinds : (kind : ℕ) → shape_of kind ≡ Columns → (1 ≤ kind) × (kind ≤ 6)
unfolding shape_of kinds all_pass
quote_kinds kind e = go (either (within 1 6 kind))
  where
    go : (within 1 6 kind ≡ true) ⊎ (within 1 6 kind ≡ false) → (1 ≤ kind) × (kind ≤ 6)
    go (inl t) = within_bounds 1 6 kind t
    go (inr t) = absurd (clash false (passes Columns (λ k. false) kinds kind (omega arith) refl (rw t at e)) refl)

-- a kind of another shape is none of them
pub no_quote_lem : (shape : Shape) (kind : ℕ) → shape_of kind ≡ shape → 0 < code_of shape → within 1 6 kind ≡ false
no_quote_lem shape kind e l =
    refute (within 1 6 kind) (λ t. let r = within_bounds 1 6 kind t in omega (arith, ap code_of (sym e ∙ quote_shape kind r.0 r.1)))

-- one kind is an opening's
pub open_shape : has_shape Settings open_kind ≡ true
unfolding has_shape shape_of shape_in kinds
open_shape = refl

pub open_kind_lem : (kind : ℕ) → shape_of kind ≡ Settings → kind ≡ open_kind
unfolding shape_of kinds all_pass
open_kind_lem kind e = go (either (within 1 6 kind))
  where
    go : (within 1 6 kind ≡ true) ⊎ (within 1 6 kind ≡ false) → kind ≡ open_kind
    go (inl t) = absurd (omega (arith, ap code_of (rw t at e)))
    go (inr t) = eqb-true kind open_kind (passes Settings (λ k. eqb k open_kind) kinds kind (omega arith) refl (rw t at e))

-- ---- shapes by their codes

-- the shape with a code
shape_coded : ℕ → Shape
shape_coded code = cond (eqb code 0) Columns (cond (eqb code 1) Size (cond (eqb code 2) SizePosition (cond (eqb code 3) SizePair (cond (eqb code 4) Bare (cond (eqb code 5) Position (cond (eqb code 6) Settings Unknown))))))

code_back : (shape : Shape) → shape_coded (code_of shape) ≡ shape
unfolding shape_coded
code_back Columns = refl
code_back Size = refl
code_back SizePosition = refl
code_back SizePair = refl
code_back Bare = refl
code_back Position = refl
code_back Settings = refl
code_back Unknown = refl

-- a kind has the shape that its test tells
pub shape_told : (shape : Shape) (kind : ℕ) → has_shape shape kind ≡ true → shape_of kind ≡ shape
unfolding has_shape
shape_told shape kind e = sym (code_back (shape_of kind)) ∙ ap shape_coded (eqb-true (code_of (shape_of kind)) (code_of shape) e) ∙ code_back shape

-- ---- body lengths

-- a kind that has frames
abbrev pub Known : ℕ → Type 0
Known kind = KnownShape (shape_of kind)

-- the body length of a kind by its shape
pub body_by : (shape : Shape) (kind : ℕ) → shape_of kind ≡ shape → body_length kind ≡ length_of shape kind
unfolding body_length
body_by shape kind e = rw e

-- the body of a quote of k columns
pub quote_body : (k : ℕ) → 1 ≤ k → k ≤ 6 → body_length k ≡ 4 * k
unfolding length_of
quote_body k u v = body_by Columns k (quote_shape k u v)

-- the bodies of the other shapes
module _ (kind : ℕ) where
  pub size_body : shape_of kind ≡ Size → body_length kind ≡ 2
  unfolding length_of
  size_body = body_by Size kind

  pub change_body : shape_of kind ≡ SizePosition → body_length kind ≡ 6
  unfolding length_of
  change_body = body_by SizePosition kind

  pub pair_body : shape_of kind ≡ SizePair → body_length kind ≡ 4
  unfolding length_of
  pair_body = body_by SizePair kind

  pub position_body : shape_of kind ≡ Position → body_length kind ≡ 4
  unfolding length_of
  position_body = body_by Position kind

  pub open_body : shape_of kind ≡ Settings → body_length kind ≡ 4
  unfolding length_of
  open_body = body_by Settings kind

-- a body length other than 255 belongs to a kind that has frames
pub kind_known : (kind : ℕ) → (body_length kind ≡ 255 → ⊥) → Known kind
unfolding body_length length_of
kind_known kind h = go (shape_of kind) h
  where
    go : (shape : Shape) → (length_of shape kind ≡ 255 → ⊥) → KnownShape shape
    go Columns h = omega arith
    go Size h = omega arith
    go SizePosition h = omega arith
    go SizePair h = omega arith
    go Bare h = omega arith
    go Position h = omega arith
    go Settings h = omega arith
    go Unknown h = absurd (h refl)

-- and a kind that has frames has a body of at most 24 bytes
pub known_body : (kind : ℕ) → Known kind → body_length kind ≤ 24
unfolding body_length length_of
known_body kind known = go (shape_of kind) refl known
  where
    go : (shape : Shape) → shape_of kind ≡ shape → KnownShape shape → length_of shape kind ≤ 24
    go Columns e l = let r = quote_kinds kind e in omega (arith, r.1)
    go Size e l = omega arith
    go SizePosition e l = omega arith
    go SizePair e l = omega arith
    go Bare e l = omega arith
    go Position e l = omega arith
    go Settings e l = omega arith
    go Unknown e l = absurd (omega arith)

-- 0 is no known kind
pub low_quote : (kind : ℕ) → (body_length kind ≡ 255 → ⊥) → 1 ≤ kind
unfolding body_length length_of shape_of shape_in kinds
low_quote zero known = absurd (known refl)
low_quote (suc k) known = omega arith
