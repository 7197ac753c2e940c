-- A preview tells what the quote's reply says and leaves the output as the quote does.
use mathlib.Core.Path.{◌≡◌, ap, ◌∙◌, subst}
use Prim.Native.Nat.{ℕ, ◌-◌}
use mathlib.Core.List.{List, [], ◌∷◌}
use lib.ListN.{length, take, drop}
use Rattle.head.specs.declared.Head.{Head}
use Rattle.head.specs.declared.replies.Reply.{Reply}
use Rattle.head.specs.declared.replies.Effect.{Effect}
use Rattle.head.specs.Replies.{Outcome, outcome}
use Rattle.model.specs.Rows.{Tables}
use Rattle.model.specs.Book.{reply_of, quote_reply, quote_out, preview_reply, preview_counts, preview_out}
use Rattle.model.specs.Promises.{Previewed}
use Rattle.call_settling.specs.declared.Finding.{Finding}
use Rattle.call_settling.specs.Findings.{held_rows}
use Rattle.call_writing.specs.Bytes.{Writable}
use Rattle.call_quoting.proofs.Quotes.{Entering, writable}
use Rattle.call_previewing.specs.Effects.{effect_of}

-- what is told of a reply that is the quote's is the quote's preview
pub tells_quote : (h : Head) (x : List ℕ) (t : Tables) (ws : List ℕ) (r : Reply) {before after : List ℕ} {e : Effect} → e ≡ effect_of h r
    → outcome r ≡ quote_reply h x t ws (length before) → after ≡ quote_out h x t ws before → Previewed h x t ws before e after
unfolding quote_reply reply_of preview_reply preview_counts preview_out
tells_quote h x t ws r e q o =
    record {
      reply = ap (λ (y : Effect). outcome y.reply) e ∙ ap (λ (y : Outcome). record { number = y.number; head = h; count = y.count }) q;
      counts = ap (λ (y : Effect). y.live ∷ y.held ∷ []) e ∙ ap (λ (y : Outcome). y.head.live ∷ y.head.held ∷ []) q;
      out = o;
    }

-- the changes may be written by places of which there are n
pub writable_in : {h : Head} {x : List ℕ} {t : Tables} {ws : List ℕ} {room : ℕ} {f : Finding} {ps : List ℕ} → Entering h x t ws room f ps → {n : ℕ} → length ps ≡ n
    → Writable h f.lower (take (n - f.at) (drop f.at ps)) t.lower_ends (held_rows h x t.columns t.upper_ends) ws room
writable_in {h} {x} {t} {ws} {room} {f} {ps} v e =
    subst (λ (n : ℕ). Writable h f.lower (take (n - f.at) (drop f.at ps)) t.lower_ends (held_rows h x t.columns t.upper_ends) ws room) e (writable v)
