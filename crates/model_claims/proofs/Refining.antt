-- The one theorem of demand 3: calls that were made, each on what the one before left and each meeting its promise, refine the reference
-- model.
use mathlib.Core.Path.{◌≡◌, refl, sym, ap, subst, ◌∙◌}
use Prim.Native.Nat.{ℕ}
use mathlib.Core.List.{List, [], ◌∷◌}
use lib.ListN.{take}
use mathlib.Core.Bool.{Bool, cond}
use Rattle.refusals.specs.declared.Refusal.TheVariants.{Settings}
use Rattle.refusals.specs.Refusals.{number, first_of}
use Rattle.head.specs.Replies.{yes, refused}
use Rattle.head.specs.Heads.{fresh_head, settings_hold}
use Rattle.model.specs.Reference.{unopened, head_of, is_open}
use Rattle.model.specs.Calls.{Call, Quote, Look, Preview, Both, Outputs, Lending, Lent, Seen, Expected, World, book_seen, world_after, book_step, runs, world_first, expected_at_end, world_at_end, reference_at_end}
use Rattle.model_watcher.specs.Watcher.{Follower, OfSize, OfPair, Nothing, watcher, held_by}
use Rattle.model_claims.specs.Claims.{Made, opened, quoted, looked, watched, ended, past_looked, paired, unpaired, due_looked, previewed, both, AllMade, none, next, last_head, last_lent, AsQuoted, InOne, Refines}
use Rattle.model_audit.specs.Audit.{finding_of, audit_finding}
use Rattle.model.proofs.Simulation.{Simulation, reference_with, book_with, simulation, simulation_by, shown_same}
use Rattle.model.proofs.Replay.{replay, replay_ends}
use Rattle.model_claims.proofs.Kept.{live_row_iff_listed, retired_row_never_listed, held_row_listed_alone, held_row_iff_past}
use Rattle.model_watcher.proofs.Watcher.{watcher_holds}
use Rattle.model_claims.proofs.Stretches.{first_seen}
use Rattle.model_claims.proofs.Due.{due_row_joins, due_row_not_before, due_space}
use Rattle.model_claims.proofs.Previews.{preview_is_quote}
use Rattle.model_claims.proofs.InOne.{both_in_one}
use Rattle.model_audit.proofs.Passing.{simulation_passes}

-- what is seen of a call that met its promise is what the book model says
pub made_seen : {c : Call} {o : Outputs} {w : World} {s : Seen} → Made c o w s → s ≡ book_seen c o w
unfolding book_seen
made_seen (opened m) = rw (m.reply, m.lent, m.watches)
made_seen (quoted m) = rw (m.reply, m.lent, m.out)
made_seen (looked m) = rw (m.reply, m.out)
made_seen (watched m) = rw (m.reply, m.watches, m.out)
made_seen (ended m) = rw (m.reply, m.watches)
made_seen (past_looked m) = rw (m.reply, m.out)
made_seen (paired m) = rw (m.reply, m.out)
made_seen (unpaired m) = rw m.reply
made_seen (due_looked m) = rw (m.reply, m.out)
made_seen (previewed m) = rw (m.reply, m.counts, m.out)
made_seen (both m) = rw (m.reply, m.listed, m.lent, m.out, m.positions)

-- so is what is seen of a list of calls, and the book at its end
pub all_made : {cs : List Lending} {w : World} {ss : List Seen} {end : World} → AllMade cs w ss end
    → (ss ≡ (runs book_step cs w).0) × (end ≡ (runs book_step cs w).1)
unfolding runs book_step
all_made none = (refl, refl)
all_made (next {c} {cs} {w} {s} {ss} {end} m rest) =
    let r = all_made rest in
    subst (λ (v : Seen). let on = runs book_step cs (world_after c.call v w) in (◌≡◌ {A = List Seen} (s ∷ ss) (v ∷ on.0)) × (end ≡ on.1)) (made_seen m)
    (ap (λ (l : List Seen). s ∷ l) r.0, r.1)

-- the head at the end is the one last handed back by a call that was no refused opening
head_made : {cs : List Lending} {w : World} {ss : List Seen} {end : World} → AllMade cs w ss end → end.head ≡ last_head cs ss w.head
unfolding last_head world_after
head_made none = refl
head_made (next m rest) = head_made rest

-- the head and what is lent at the end of a list of calls are those last seen
head_seen : (cs : List Lending) (w : World) → (runs book_step cs w).1.head ≡ last_head cs (runs book_step cs w).0 w.head
unfolding runs book_step world_after last_head
head_seen [] w = refl
head_seen (c ∷ cs) w = head_seen cs (book_step c.call c.outputs w).1

lent_seen : (cs : List Lending) (w : World) → (runs book_step cs w).1.lent ≡ last_lent (runs book_step cs w).0 w.lent
unfolding runs book_step world_after last_lent
lent_seen [] w = refl
lent_seen (c ∷ cs) w = lent_seen cs (book_step c.call c.outputs w).1

-- a preview and a quote that were made on a book show the same
as_quoted : (x : List ℕ) (o : Outputs) (w : World) (quote preview : Seen) → Made (Quote x) o w quote → Made (Preview x) o w preview → AsQuoted quote preview
unfolding book_step
as_quoted x o w quote preview q p = rw (made_seen q, made_seen p) (preview_is_quote x o w)

-- a quote and look in one that was made on a book shows what the quote, and the look on the book after it, show
as_in_one : (x : List ℕ) (n : ℕ) (o : Outputs) (w : World) (quote look two : Seen) → Made (Quote x) o w quote → Made (Look n) o (world_after (Quote x) quote w) look
    → Made (Both x n) o w two → InOne o w quote look two
unfolding book_step
as_in_one x n o w quote look two q k b = rw (made_seen q, made_seen b, rw (made_seen q) at (made_seen k)) (both_in_one x n o w)

-- the audit of a book before any opening, and of one that simulates the reference model
unopened_audited : (l : Lent) → audit_finding (head_of unopened) l.tables ≡ cond (is_open unopened) yes (refused (number Settings))
unfolding audit_finding finding_of first_of settings_hold is_open head_of
unopened_audited l = refl

simulation_audited : (k : Expected) (w : World) → Simulation k w
    → audit_finding w.head w.lent.tables ≡ cond (is_open k.reference) yes (refused (number Settings))
simulation_audited =
    simulation_by (λ k w. audit_finding w.head w.lent.tables ≡ cond (is_open k.reference) yes (refused (number Settings)))
    unopened_audited
    (λ s l f.
    simulation_passes (reference_with s l) (book_with s l) (simulation s l f) f.settings
    ∙ ap (λ (b : Bool). cond b yes (refused (number Settings))) (sym f.settings))

-- calls that were made from a head of zeros on anything lent refine the reference model
pub calls_refine : (cs : List Lending) (l : Lent) (ss : List Seen) (end : World) → AllMade cs (world_first l) ss end → Refines cs l ss end
calls_refine cs l ss end m =
    let made = all_made m in
    let j = replay_ends cs l in
    rw (made.0, made.1) record {
      seen_alike = replay cs l;
      head_alike = j.head;
      head_last = rw (made.0, made.1) at (head_made m);
      lent_alike = j.lent;
      lent_filled = rw j.lent (shown_same (reference_at_end cs l) (expected_at_end cs l).lent j.since);
      live_iff_listed = live_row_iff_listed cs l;
      retired_never_listed = retired_row_never_listed cs l;
      held_listed_alone = held_row_listed_alone cs l;
      held_iff_past = held_row_iff_past cs l;
      watcher_holds_list = λ desk n k. holds k (OfSize desk n);
      pair_holds_past = λ k. holds k OfPair;
      due_joins = λ i j p due h closed. due_row_joins cs l i j h closed p due;
      due_not_before = λ i j p due h closed. due_row_not_before cs l i j h closed p;
      due_space = λ i j h opened closed. due_space cs l i j h closed opened;
      preview_is_quote = λ x o quote preview q p. as_quoted x o (runs book_step cs (world_first l)).1 quote preview q p;
      both_in_one = λ x n o quote look two q k b. as_in_one x n o (runs book_step cs (world_first l)).1 quote look two q k b;
      audit_says = audits;
    }
  where
    audits : (k : ℕ)
        → audit_finding (last_head (take k cs) (take k (runs book_step cs (world_first l)).0) (fresh_head 0 0 0))
        (last_lent (take k (runs book_step cs (world_first l)).0) l).tables
        ≡ cond (is_open (reference_at_end (take k cs) l)) yes (refused (number Settings))
    audits k =
        rw (← (first_seen book_step k cs (world_first l)), ← (head_seen (take k cs) (world_first l)), ← (lent_seen (take k cs) (world_first l)))
        (simulation_audited (expected_at_end (take k cs) l) (world_at_end (take k cs) l) (replay_ends (take k cs) l))

    holds : (k : ℕ) (f : Follower) → watcher f (take k cs) (take k (runs book_step cs (world_first l)).0) Nothing ≡ held_by f (reference_at_end (take k cs) l)
    holds k f = ap (λ (seen : List Seen). watcher f (take k cs) seen Nothing) (sym (first_seen book_step k cs (world_first l))) ∙ watcher_holds f (take k cs) l
