-- What calls feed the reference model: its quotes are those that were accepted since the last accepted opening, and its settings stay where
-- none is accepted.
use mathlib.Core.Path.{◌≡◌, refl, sym, ap, ◌∙◌}
use mathlib.Core.Logic.{◌⊎◌, inl, inr}
use Prim.Native.Nat.{ℕ, zero, suc, ◌+◌, ◌≤◌}
use native.Mathlib.Omega.{arith}
use mathlib.Core.Bool.{Bool, true, false, ◌&&◌, cond}
use mathlib.Core.List.{List, [], ◌∷◌, ◌++◌, append-nil, append_assoc}
use lib.Dec.{eqb}
use Rattle.lists.specs.Lists.{insert, without}
use Rattle.lists.proofs.Booleans.{clash}
use Rattle.refusals.specs.Refusals.{granted}
use Rattle.head.specs.Desks.{watch_of}
use Rattle.model.specs.Reference.{Reference, with_quote, with_watched, with_pair_of, opening, tells, foretells, reference_step}
use Rattle.model.specs.Calls.{Call, Open, Quote, Look, Watch, End, Past, Pair, Unpair, Due, Preview, Both, Outputs, Lending, Seen, Expected, lengths_of, expected_step, runs}
use Rattle.model_claims.specs.Claims.{is_opening, accepted_in}
use Rattle.model.proofs.Both.{Taken, Left, both_told}
use Rattle.model_late.specs.Feeding.{offers, quotes_after, quotes_taken}

-- the settings of a reference model
abbrev pub settings : Reference → ℕ × ℕ × ℕ
settings s = (s.dimensions, s.capacity, s.directions)

-- what a call with this answer leaves of the reference model: its quotes with those that it takes, and its settings unless it is an
-- accepted opening
record Feeds (c : Call) (a : ℕ) (s next : Reference) : Type 0 where
  quotes : next.quotes ≡ quotes_after c a s.quotes
  settled : is_opening c && eqb a 0 ≡ false → settings next ≡ settings s

-- a call that offers no quote and is no opening leaves quotes and settings
feeds_none : (c : Call) (a : ℕ) (s next : Reference) → offers c ≡ [] → is_opening c ≡ false → next.quotes ≡ s.quotes → settings next ≡ settings s
    → Feeds c a s (granted a next s)
unfolding granted quotes_after
feeds_none c zero s next o i q e = record { quotes = rw (o, i) (q ∙ sym (append-nil s.quotes)); settled = λ t. e }
feeds_none c (suc k) s next o i q e = record { quotes = refl; settled = λ t. refl }

-- an opening drops the quotes
feeds_opening : (d N directions a : ℕ) (s : Reference) → Feeds (Open d N directions) a s (granted a (opening d N directions) s)
unfolding granted quotes_after offers is_opening opening
feeds_opening d N directions zero s = record { quotes = refl; settled = λ t. absurd (clash true refl t) }
feeds_opening d N directions (suc k) s = record { quotes = refl; settled = λ t. refl }

-- the quote that a call offers goes behind the others
feeds_quote : (c : Call) (x : List ℕ) (a : ℕ) (s : Reference) → offers c ≡ x ∷ [] → is_opening c ≡ false → Feeds c a s (granted a (with_quote s x) s)
unfolding granted quotes_after with_quote
feeds_quote c x zero s o i = record { quotes = rw (o, i); settled = λ t. refl }
feeds_quote c x (suc k) s o i = record { quotes = refl; settled = λ t. refl }

-- a refused call leaves the model as it is
feeds_refused : (c : Call) (a : ℕ) (s : Reference) → 1 ≤ a → Feeds c a s s
unfolding granted quotes_after
feeds_refused c zero s h = absurd (omega (arith, h))
feeds_refused c (suc k) s h = record { quotes = refl; settled = λ t. refl }

-- a preview leaves the model as it is, whatever its answer
feeds_preview : (x : List ℕ) (a : ℕ) (s : Reference) → Feeds (Preview x) a s s
unfolding granted quotes_after offers is_opening
feeds_preview x zero s = record { quotes = sym (append-nil s.quotes); settled = λ t. refl }
feeds_preview x (suc k) s = record { quotes = refl; settled = λ t. refl }

module _ (o : Outputs) (k : Expected) where
  abbrev s : Reference
  s = k.reference

  -- the number of the reference model's answer
  abbrev pub answered : Call → ℕ
  answered c = (expected_step c o k).0.outcome.number

  -- a quote and look in one: both taken, as the quote, or both left
  feeds_both : (x : List ℕ) (n : ℕ) → Feeds (Both x n) (answered (Both x n)) s (expected_step (Both x n) o k).1.reference
  unfolding expected_step granted is_opening offers
  feeds_both x n = go (both_told x n (lengths_of k.lent o) s)
    where
      go : Taken x n (lengths_of k.lent o) s ⊎ Left x n (lengths_of k.lent o) s
          → Feeds (Both x n) (answered (Both x n)) s (expected_step (Both x n) o k).1.reference
      go (inl taken) = rw (taken.next, taken.number) (feeds_quote (Both x n) x 0 s refl refl)
      go (inr left) = rw left.next (feeds_refused (Both x n) (answered (Both x n)) s left.number)

  -- one call
  feeds : (c : Call) → Feeds c (answered c) s (expected_step c o k).1.reference
  unfolding expected_step reference_step tells foretells lengths_of is_opening offers with_watched with_pair_of
  feeds (Open d N directions) = feeds_opening d N directions (answered (Open d N directions)) s
  feeds (Quote x) = feeds_quote (Quote x) x (answered (Quote x)) s refl refl
  feeds (Look n) = feeds_none (Look n) (answered (Look n)) s s refl refl refl refl
  feeds (Watch desk n) =
      feeds_none (Watch desk n) (answered (Watch desk n)) s (with_watched s (insert (watch_of desk n) s.watched)) refl refl refl refl
  feeds (End desk n) = feeds_none (End desk n) (answered (End desk n)) s (with_watched s (without (watch_of desk n) s.watched)) refl refl refl refl
  feeds (Past n1 n2) = feeds_none (Past n1 n2) (answered (Past n1 n2)) s s refl refl refl refl
  feeds (Pair n1 n2) = feeds_none (Pair n1 n2) (answered (Pair n1 n2)) s (with_pair_of s n1 n2) refl refl refl refl
  feeds Unpair = feeds_none Unpair (answered Unpair) s (with_pair_of s 0 0) refl refl refl refl
  feeds Due = feeds_none Due (answered Due) s s refl refl refl refl
  feeds (Preview x) = feeds_preview x (answered (Preview x)) s
  feeds (Both x n) = feeds_both x n

-- after a list of calls its quotes are those that were taken
pub quotes_taken_lem : (cs : List Lending) (k : Expected)
    → (runs expected_step cs k).1.reference.quotes ≡ quotes_taken cs (runs expected_step cs k).0 k.reference.quotes
unfolding runs quotes_taken
quotes_taken_lem [] k = refl
quotes_taken_lem (c ∷ cs) k =
    let one = expected_step c.call c.outputs k in
    quotes_taken_lem cs one.1 ∙ ap (quotes_taken cs (runs expected_step cs one.1).0) (feeds c.outputs k c.call).quotes

-- no opening accepted of a list: none of the first call
none_first : (b : Bool) (rest : ℕ) → cond b 1 0 + rest ≡ 0 → (b ≡ false) × (rest ≡ 0)
none_first true rest e = absurd (omega arith)
none_first false rest e = (refl, omega arith)

-- its settings stay where no opening is accepted
pub settings_stay : (cs : List Lending) (k : Expected) → accepted_in is_opening cs (runs expected_step cs k).0 ≡ 0
    → settings (runs expected_step cs k).1.reference ≡ settings k.reference
unfolding runs accepted_in
settings_stay [] k e = refl
settings_stay (c ∷ cs) k e =
    let one = expected_step c.call c.outputs k in
    let t = none_first (is_opening c.call && eqb one.0.outcome.number 0) (accepted_in is_opening cs (runs expected_step cs one.1).0) e in
    settings_stay cs one.1 t.1 ∙ (feeds c.outputs k c.call).settled t.0

-- ---- quotes behind others

-- what a call that is no accepted opening does to quotes, it does behind others
after_behind : (c : Call) (a : ℕ) (front quotes : List (List ℕ)) → is_opening c && eqb a 0 ≡ false
    → quotes_after c a (front ++ quotes) ≡ front ++ quotes_after c a quotes
unfolding quotes_after granted
after_behind c zero front quotes e = go (is_opening c) e
  where
    go : (b : Bool) → b && true ≡ false → cond b [] (front ++ quotes) ++ offers c ≡ front ++ (cond b [] quotes ++ offers c)
    go true e = absurd (clash true refl e)
    go false e = append_assoc front quotes (offers c)
after_behind c (suc k) front quotes e = refl

-- so do calls among which no opening is accepted
pub taken_behind : (cs : List Lending) (ss : List Seen) (front quotes : List (List ℕ)) → accepted_in is_opening cs ss ≡ 0
    → quotes_taken cs ss (front ++ quotes) ≡ front ++ quotes_taken cs ss quotes
unfolding quotes_taken accepted_in
taken_behind [] ss front quotes e = refl
taken_behind (c ∷ cs) [] front quotes e = refl
taken_behind (c ∷ cs) (s ∷ ss) front quotes e =
    let a = s.outcome.number in
    let t = none_first (is_opening c.call && eqb a 0) (accepted_in is_opening cs ss) e in
    rw (after_behind c.call a front quotes t.0) (taken_behind cs ss front (quotes_after c.call a quotes) t.1)
