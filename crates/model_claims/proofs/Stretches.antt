-- Parts of a list of calls: the first calls of it, and those between two places.
use mathlib.Core.Path.{◌≡◌, refl, sym, ap}
use Prim.Native.Nat.{ℕ, zero, suc, ◌≤◌}
use native.Mathlib.Omega.{arith}
use mathlib.Core.List.{List, [], ◌∷◌}
use lib.ListN.{take}
use Rattle.model.specs.Calls.{Call, Outputs, Lending, Seen, runs}
use Rattle.model_claims.specs.Claims.{stretch}

module _ {S : Type 0} (step : Call → Outputs → S → Seen × S) where
  -- what is seen of the first calls of a list
  pub first_seen : (k : ℕ) (cs : List Lending) (s : S) → (runs step (take k cs) s).0 ≡ take k (runs step cs s).0
  unfolding runs
  first_seen zero cs s = refl
  first_seen (suc k) [] s = refl
  first_seen (suc k) (c ∷ cs) s =
      let one = step c.call c.outputs s in
      ap (λ (l : List Seen). one.0 ∷ l) (first_seen k cs one.1)

  -- the calls behind the first i, of the first j, run from where the first i end
  pub stretch_ends : (i j : ℕ) → i ≤ j → (cs : List Lending) (s : S)
      → (runs step (take j cs) s).1 ≡ (runs step (stretch i j cs) (runs step (take i cs) s).1).1
  unfolding runs
  stretch_ends zero j h cs s = refl
  stretch_ends (suc i) zero h cs s = absurd (omega arith)
  stretch_ends (suc i) (suc j) h [] s = refl
  stretch_ends (suc i) (suc j) h (c ∷ cs) s = stretch_ends i j (omega arith) cs (step c.call c.outputs s).1

  -- and this is seen of them
  pub stretch_seen : (i j : ℕ) → i ≤ j → (cs : List Lending) (s : S)
      → stretch i j (runs step cs s).0 ≡ (runs step (stretch i j cs) (runs step (take i cs) s).1).0
  unfolding runs
  stretch_seen zero j h cs s = sym (first_seen j cs s)
  stretch_seen (suc i) zero h cs s = absurd (omega arith)
  stretch_seen (suc i) (suc j) h [] s = refl
  stretch_seen (suc i) (suc j) h (c ∷ cs) s = stretch_seen i j (omega arith) cs (step c.call c.outputs s).1
