-- What a host is told of a call that only reads: the call's promise at the head that the cells hold.
use mathlib.Core.Path.{◌≡◌, subst, ◌∙◌, ap}
use Prim.Native.Nat.{ℕ}
use mathlib.Core.List.{List}
use Rattle.head.specs.declared.Head.{Head}
use Rattle.refusals.specs.Refusals.{number_of}
use Rattle.head.specs.declared.replies.Reply.{Reply}
use Rattle.head.specs.Replies.{Finding}
use Rattle.model_audit.specs.Audit.{audit_finding}
use Rattle.model.specs.Rows.{Tables}
use Rattle.model.specs.Promises.{Looked, PastLooked, DueLooked}
use Rattle.host_cells.specs.Cells.{Answered, Counts}

module _ {h at : Head} {t : Tables} {before after : List ℕ} {r : Reply} {number count : ℕ} (e : h ≡ at) where
  pub look_told_lem : {n : ℕ} → Looked h n t before r after → number ≡ number_of r.answer → count ≡ r.count
      → Answered number (λ reply. Looked at n t before reply after × Counts reply count)
  look_told_lem {n} p a k = record { reply = r; answer = a; promised = (subst (λ (g : Head). Looked g n t before r after) e p, k) }

  pub past_told : {n1 n2 : ℕ} → PastLooked h n1 n2 t before r after → number ≡ number_of r.answer → count ≡ r.count
      → Answered number (λ reply. PastLooked at n1 n2 t before reply after × Counts reply count)
  past_told {n1} {n2} p a k = record { reply = r; answer = a; promised = (subst (λ (g : Head). PastLooked g n1 n2 t before r after) e p, k) }

  pub due_told : DueLooked h t before r after → number ≡ number_of r.answer → count ≡ r.count
      → Answered number (λ reply. DueLooked at t before reply after × Counts reply count)
  due_told p a k = record { reply = r; answer = a; promised = (subst (λ (g : Head). DueLooked g t before r after) e p, k) }

-- a number made of what the audit finds, at the head that the cells hold
pub audit_told : (f : Finding → ℕ) (t : Tables) {h at : Head} {found : Finding} {number : ℕ} → h ≡ at → found ≡ audit_finding h t
    → number ≡ f found → number ≡ f (audit_finding at t)
audit_told f t e p a = a ∙ ap f (p ∙ ap (λ (g : Head). audit_finding g t) e)
