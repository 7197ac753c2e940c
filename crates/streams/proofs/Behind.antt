-- What stands behind the bytes that are kept is what a reader gave.
use Rattle.std.proofs.Common.{◌≡◌, ℕ, List, [], ◌++◌, length, drop, refl, sym, ap, ◌∙◌, subst, drop_at}
use Rattle.std.specs.Prelude.{Option}
use Rattle.std.specs.Io.KnownBytes.{Consumes}
use Rattle.std.proofs.KnownBytes.{Consumes-nil}

module _ (known known' : Option (List ℕ)) (kept came all : List ℕ) where
  pub given_behind : all ≡ kept ++ came → Consumes known known' came → Consumes known known' (drop (length kept) all)
  given_behind e h = subst (Consumes known known') (sym (ap (drop (length kept)) e ∙ drop_at kept came (length kept) refl)) h

-- nothing was read
pub given_none : (known : Option (List ℕ)) (kept all : List ℕ) → all ≡ kept ++ [] → Consumes known known (drop (length kept) all)
given_none known kept all e = given_behind known known kept [] all e (Consumes-nil known)
