-- The promises of the calls at the records that a host's cells hold: of sixteen cells or more those of the eight records, and of fewer a refusal with 3 or 11.
use mathlib.Core.Path.{◌≡◌, refl, sym, subst, ◌∙◌, ap}
use Prim.Native.Nat.{ℕ, zero, suc, ◌<◌, ◌≤◌, ◌/◌}
use native.Mathlib.Omega.{arith}
use mathlib.Core.Bool.{Bool, true, false, not, cond}
use mathlib.Core.List.{List, [], ◌∷◌}
use lib.Dec.{ltb}
use lib.ListN.{length, take, drop, length-take}
use lib.Seq.{take_all}
use borrow.Author.Tests.{lt-ltb}
use Rattle.lists.specs.Lists.{run}
use Rattle.head.specs.declared.Head.{Head}
use Rattle.head.specs.declared.Desk.{Desk}
use Rattle.head.specs.declared.Watch.{Watch}
use Rattle.head.specs.Heads.{fresh_head, settings_hold}
use Rattle.refusals.specs.declared.Refusal.{Refusal}
use Rattle.refusals.specs.declared.Refusal.TheVariants.{Settings, ShortLoan}
use Rattle.std.specs.Prelude.{Err}
use Rattle.refusals.specs.Refusals.{number, number_of, first_of, granted}
use Rattle.refusals.proofs.Numbers.{granted_refused, refused_granted, accepted_granted}
use Rattle.head.specs.declared.replies.Reply.{Reply}
use Rattle.head.specs.declared.replies.Effect.{Effect}
use Rattle.head.specs.declared.replies.BothReply.{BothReply}
use Rattle.head.specs.Replies.{Outcome, outcome}
use Rattle.model.specs.Rows.{Tables}
use Rattle.model.specs.Book.{watchful_answer, reply_of, open_reply, open_tables, open_watches, quote_answer, both_answer, both_reply, both_listed, both_tables, both_out, both_cells, watch_answer, watch_reply, watch_watches, end_answer, end_reply, end_watches, pair_answer, unpair_answer, unpair_reply}
use Rattle.model.specs.Promises.{Opened, Quoted, QuotedLooked, Previewed, Watched, Ended, Paired, Unpaired}
use Rattle.model.proofs.Replying.{refused_reply}
use Rattle.watch_records.specs.Records.{watched}
use Rattle.call_judging.specs.Answers.{short_loan_answer}
use Rattle.call_judging.proofs.Answering.{short_watchful, short_open}
use Rattle.call_watching.proofs.Watches as watching
use Rattle.call_watching.proofs.Pairs.{pair_refused}
use Rattle.call_quoting.proofs.Quotes.{quote_refused}
use Rattle.call_previewing.specs.Effects.{effect_of}
use Rattle.call_previewing.proofs.Previews.{tells_quote}
use Rattle.host_cells.specs.Cells.{eight_records, records_in, Answered, OnlyEight}

-- ---- sixteen cells or more

length_eight : (cells : List ℕ) → length (eight_records cells) ≡ 8
unfolding eight_records run
length_eight cells = refl

-- eight records are then all that the cells hold for a call
eight_lent : (cells : List ℕ) → 16 ≤ length cells → eight_records cells ≡ records_in cells
unfolding records_in
eight_lent cells enough = sym (take_all (length cells / 2) (eight_records cells) (omega (arith, length_eight cells)))

-- ---- fewer than eight

-- the refusal where fewer than eight records are lent
unfoldable short_refusal : Head → Refusal
short_refusal h = cond (settings_hold h.dimensions h.capacity h.directions) ShortLoan Settings

-- the reply that it comes in, with this head
abbrev short_reply : Head → Head → Reply
short_reply h back = record { answer = Err (short_refusal h); head = back; count = 0 }

short_number : (h : Head) → number (short_refusal h) ≡ short_loan_answer h
unfolding short_refusal short_loan_answer first_of
short_number h = go (settings_hold h.dimensions h.capacity h.directions)
  where
    go : (s : Bool) → number (cond s ShortLoan Settings) ≡ first_of ((not s, number Settings) ∷ (true, number ShortLoan) ∷ [])
    go true = refl
    go false = refl

-- where it is the call's answer nothing is as it is after an accepted call
unchanged : {A : Type 0} (h : Head) {k : ℕ} (x y : A) → number (short_refusal h) ≡ k → y ≡ granted k x y
unchanged h x y e = sym (ap (λ (n : ℕ). granted n x y) (sym e) ∙ refused_granted (short_refusal h) x y)

replied : (h back next : Head) (count : ℕ) {k : ℕ} → number (short_refusal h) ≡ k → outcome (short_reply h back) ≡ reply_of k back next count
replied h back next count e = refused_reply {a = Err (short_refusal h)} e refl back next count

-- the number of the answer is the one that the host is given
short_answered : (h at : Head) {n : ℕ} → h ≡ at → n ≡ short_loan_answer h → n ≡ number (short_refusal at)
short_answered h at e a = a ∙ ap short_loan_answer e ∙ sym (short_number at)

module _ (cells : List ℕ) (lacking : length cells < 16) where
  abbrev ws : List ℕ
  ws = records_in cells

  fewer : ltb (length ws) 8 ≡ true
  unfolding records_in
  fewer = lt-ltb (length (take (length cells / 2) (eight_records cells))) 8 (omega (arith, length-take (length cells / 2) (eight_records cells)))

  -- its number is the call's answer
  short_answers : (h : Head) (t : Tables) (more : List (Bool × ℕ)) → number (short_refusal h) ≡ watchful_answer h t ws more
  short_answers h t more = short_number h ∙ sym (short_watchful ws fewer h t more)

  quote_lacking : (h : Head) (x : List ℕ) (t : Tables) (before : List ℕ) → Quoted h x t ws before (short_reply h h) t before
  unfolding quote_answer
  quote_lacking h x t before = quote_refused h x t ws before (short_answers h t _) refl

  both_lacking : (h : Head) (x : List ℕ) (n : ℕ) (t : Tables) (before list : List ℕ)
      → QuotedLooked h x n t ws before list (record { reply = short_reply h h; listed = 0 }) t before list
  unfolding quote_answer both_answer both_reply both_listed both_tables both_out both_cells
  both_lacking h x n t before list =
      let answered : number (short_refusal h) ≡ quote_answer h x t ws (length before) = short_answers h t _ in
      let e : number (short_refusal h) ≡ both_answer h x n t ws (length before) (length list) = answered ∙ unchanged h _ _ answered in
      record { reply = replied h h _ _ e; listed = unchanged h _ 0 e; lent = unchanged h _ t e; out = unchanged h _ before e; positions = unchanged h _ list e }

  preview_lacking : (h : Head) (x : List ℕ) (t : Tables) (before : List ℕ) → Previewed h x t ws before (effect_of h (short_reply h h)) before
  preview_lacking h x t before = let m = quote_lacking h x t before in tells_quote h x t ws (short_reply h h) refl m.reply m.out

  pair_lacking : (h : Head) (n1 n2 : ℕ) (t : Tables) (before : List ℕ) → Paired h n1 n2 t ws before (short_reply h h) before
  unfolding pair_answer
  pair_lacking h n1 n2 t before = pair_refused h n1 n2 t ws before {a = Err (short_refusal h)} (short_answers h t _) refl refl

  unpair_lacking : (h : Head) (t : Tables) → Unpaired h t ws (short_reply h h)
  unfolding unpair_reply unpair_answer
  unpair_lacking h t = record { reply = replied h h _ _ (short_answers h t _) }

  watch_lacking : (h : Head) (desk : Desk) (n : ℕ) (t : Tables) (before : List ℕ) → Watched h desk n t ws before (short_reply h h) ws before
  unfolding watch_answer
  watch_lacking h desk n t before = watching.watch_left (watching.watch_refused h desk n t ws before {a = Err (short_refusal h)} (short_answers h t _) refl refl) refl

  end_lacking : (h : Head) (desk : Desk) (n : ℕ) (t : Tables) → Ended h desk n t ws (short_reply h h) ws
  unfolding end_answer
  end_lacking h desk n t = watching.end_left (watching.end_refused h desk n t ws {a = Err (short_refusal h)} (short_answers h t _) refl refl) refl

  open_lacking : (d N directions : ℕ) (t : Tables) → Opened d N directions t ws (short_reply (fresh_head d N directions) (fresh_head 0 0 0)) t ws
  unfolding open_reply open_tables open_watches
  open_lacking d N directions t =
      let fresh = fresh_head d N directions in
      let e = short_number fresh ∙ sym (short_open ws fewer d N directions t) in
      record { reply = replied fresh (fresh_head 0 0 0) _ _ e; lent = unchanged fresh _ t e; watches = unchanged fresh _ ws e }

-- the records that are lent by value are those that the cells hold
pub lent_eight : (held : List Watch) (cells : List ℕ) → watched held ≡ eight_records cells → 16 ≤ length cells → watched held ≡ records_in cells
lent_eight held cells same enough = same ∙ eight_lent cells enough

-- ---- what the host is told

-- a promise of a desk, by another name for it
pub watch_desk : {h : Head} {desk own : Desk} {m : ℕ} {t : Tables} {ws before left after : List ℕ} {r : Reply} → desk ≡ own → Watched h desk m t ws before r left after → Watched h own m t ws before r left after
watch_desk {h} {desk} {own} {m} {t} {ws} {before} {left} {after} {r} e p = subst (λ (d : Desk). Watched h d m t ws before r left after) e p

pub end_desk : {h : Head} {desk own : Desk} {m : ℕ} {t : Tables} {ws left : List ℕ} {r : Reply} → desk ≡ own → Ended h desk m t ws r left → Ended h own m t ws r left
end_desk {h} {desk} {own} {m} {t} {ws} {left} {r} e p = subst (λ (d : Desk). Ended h d m t ws r left) e p

-- cells that a refused call left
pub untouched : {n : ℕ} {cells : List ℕ} → OnlyEight n cells cells
unfolding granted
untouched {n} {cells} = record { beyond = refl; refused = same n }
  where
    same : (k : ℕ) → cells ≡ granted k cells cells
    same zero = refl
    same (suc k) = refl

-- cells that an accepted call left
pub changed : {n : ℕ} {before after : List ℕ} → n ≡ 0 → drop 16 after ≡ drop 16 before → OnlyEight n before after
changed {n} {before} {after} e b = record { beyond = b; refused = sym (accepted_granted n e after before) }

module _ {h at : Head} {t : Tables} (e : h ≡ at) where
  module _ {held ws : List ℕ} (lent : held ≡ ws) {r : Reply} {n : ℕ} where
    pub quote_told_lem : {x before after : List ℕ} {t' : Tables} {next : Head} {count : ℕ} → Quoted h x t held before r t' after
        → n ≡ number_of r.answer → next ≡ r.head → count ≡ r.count
        → Answered n (λ reply. Quoted at x t ws before reply t' after × (next ≡ reply.head) × (count ≡ reply.count))
    quote_told_lem {x} {before} {after} {t'} p a b k =
        record { reply = r; answer = a; promised = (subst (λ (g : Head). Quoted g x t ws before r t' after) e (subst (λ (l : List ℕ). Quoted h x t l before r t' after) lent p), b, k) }

    pub pair_told : {n1 n2 : ℕ} {before after : List ℕ} {next : Head} {count : ℕ} → Paired h n1 n2 t held before r after
        → n ≡ number_of r.answer → next ≡ r.head → count ≡ r.count
        → Answered n (λ reply. Paired at n1 n2 t ws before reply after × (next ≡ reply.head) × (count ≡ reply.count))
    pair_told {n1} {n2} {before} {after} p a b k =
        record { reply = r; answer = a; promised = (subst (λ (g : Head). Paired g n1 n2 t ws before r after) e (subst (λ (l : List ℕ). Paired h n1 n2 t l before r after) lent p), b, k) }

    pub unpair_told : {next : Head} → Unpaired h t held r → n ≡ number_of r.answer → next ≡ r.head → Answered n (λ reply. Unpaired at t ws reply × (next ≡ reply.head))
    unpair_told p a b = record { reply = r; answer = a; promised = (subst (λ (g : Head). Unpaired g t ws r) e (subst (λ (l : List ℕ). Unpaired h t l r) lent p), b) }

    -- the records after an accepted call are stored; a refused one leaves them
    module _ {desk : Desk} {m : ℕ} {left : List ℕ} where
      pub watch_told : {before after ws' : List ℕ} {count : ℕ} → Watched h desk m t held before r left after → n ≡ number_of r.answer → count ≡ r.count → left ≡ ws'
          → Answered n (λ reply. Watched at desk m t ws before reply ws' after × (count ≡ reply.count))
      watch_told {before} {after} {ws'} p a k s =
          let q = subst (λ (l : List ℕ). Watched h desk m t l before r left after) lent p in
          record { reply = r; answer = a; promised = (subst (λ (g : Head). Watched g desk m t ws before r ws' after) e (subst (λ (l : List ℕ). Watched h desk m t ws before r l after) s q), k) }

      pub end_told : {ws' : List ℕ} → Ended h desk m t held r left → n ≡ number_of r.answer → left ≡ ws' → Answered n (λ reply. Ended at desk m t ws reply ws')
      end_told {ws'} p a s =
          let q = subst (λ (l : List ℕ). Ended h desk m t l r left) lent p in
          record { reply = r; answer = a; promised = subst (λ (g : Head). Ended g desk m t ws r ws') e (subst (λ (l : List ℕ). Ended h desk m t ws r l) s q) }

      pub watch_refused : {before after : List ℕ} {count : ℕ} → Watched h desk m t held before r left after → n ≡ number_of r.answer → 0 < n → count ≡ r.count
          → Answered n (λ reply. Watched at desk m t ws before reply ws after × (count ≡ reply.count))
      unfolding watch_reply watch_watches reply_of
      watch_refused {before} {after} p a above k =
          let q = subst (λ (l : List ℕ). Watched h desk m t l before r left after) lent p in
          let kept : ws ≡ watch_watches h desk m t ws (length before) =
          sym (granted_refused _ (subst (λ (i : ℕ). 0 < i) (a ∙ ap Outcome.number q.reply) above) _ ws) in
          record { reply = r; answer = a; promised = (subst (λ (g : Head). Watched g desk m t ws before r ws after) e (record { reply = q.reply; watches = kept; out = q.out }), k) }

      pub end_refused : Ended h desk m t held r left → n ≡ number_of r.answer → 0 < n → Answered n (λ reply. Ended at desk m t ws reply ws)
      unfolding end_reply end_watches reply_of
      end_refused p a above =
          let q = subst (λ (l : List ℕ). Ended h desk m t l r left) lent p in
          let kept : ws ≡ end_watches h desk m t ws = sym (granted_refused _ (subst (λ (i : ℕ). 0 < i) (a ∙ ap Outcome.number q.reply) above) _ ws) in
          record { reply = r; answer = a; promised = subst (λ (g : Head). Ended g desk m t ws r ws) e (record { reply = q.reply; watches = kept }) }

  pub both_told : {held ws x before list after listed : List ℕ} {m : ℕ} {t' : Tables} {f : BothReply} {next : Head} {n count : ℕ} → held ≡ ws
      → QuotedLooked h x m t held before list f t' after listed → n ≡ number_of f.reply.answer → next ≡ f.reply.head → count ≡ f.reply.count
      → Answered n (λ reply. QuotedLooked at x m t ws before list (record { reply = reply; listed = f.listed }) t' after listed × (next ≡ reply.head) × (count ≡ reply.count))
  both_told {ws = ws} {x = x} {before = before} {list = list} {after = after} {listed = listed} {m = m} {t' = t'} {f = f} lent p a b k =
      let q = subst (λ (l : List ℕ). QuotedLooked h x m t l before list f t' after listed) lent p in
      record { reply = f.reply; answer = a; promised = (subst (λ (g : Head). QuotedLooked g x m t ws before list f t' after listed) e q, b, k) }

  pub preview_told : {held ws x before after : List ℕ} {f : Effect} {n count : ℕ} → held ≡ ws → Previewed h x t held before f after → n ≡ number_of f.reply.answer → count ≡ f.reply.count
      → Answered n (λ reply. Previewed at x t ws before (record { reply = reply; live = f.live; held = f.held }) after × (count ≡ reply.count))
  preview_told {ws = ws} {x = x} {before = before} {after = after} {f = f} lent p a k =
      record { reply = f.reply; answer = a; promised = (subst (λ (g : Head). Previewed g x t ws before f after) e (subst (λ (l : List ℕ). Previewed h x t l before f after) lent p), k) }

  module _ (ws : List ℕ) (lacking : length ws < 16) {n : ℕ} (a : n ≡ short_loan_answer h) where
    pub quote_short_told : {x before : List ℕ} → Answered n (λ reply. Quoted at x t (records_in ws) before reply t before × (at ≡ reply.head) × (0 ≡ reply.count))
    quote_short_told {x} {before} = record { reply = short_reply at at; answer = short_answered h at e a; promised = (quote_lacking ws lacking at x t before, refl, refl) }

    pub both_short_told : {x before list : List ℕ} {m : ℕ}
        → Answered n (λ reply. QuotedLooked at x m t (records_in ws) before list (record { reply = reply; listed = 0 }) t before list × (at ≡ reply.head) × (0 ≡ reply.count))
    both_short_told {x} {before} {list} {m} =
        record { reply = short_reply at at; answer = short_answered h at e a; promised = (both_lacking ws lacking at x m t before list, refl, refl) }

    pub preview_short_told : {x before : List ℕ}
        → Answered n (λ reply. Previewed at x t (records_in ws) before (record { reply = reply; live = h.live; held = h.held }) before × (0 ≡ reply.count))
    preview_short_told {x} {before} =
        let counts = subst (λ (g : Head). Previewed at x t (records_in ws) before (record { reply = short_reply at at; live = g.live; held = g.held }) before) (sym e) (preview_lacking ws lacking at x t before) in
        record { reply = short_reply at at; answer = short_answered h at e a; promised = (counts, refl) }

    pub pair_short_told : {n1 n2 : ℕ} {before : List ℕ} → Answered n (λ reply. Paired at n1 n2 t (records_in ws) before reply before × (at ≡ reply.head) × (0 ≡ reply.count))
    pair_short_told {n1} {n2} {before} = record { reply = short_reply at at; answer = short_answered h at e a; promised = (pair_lacking ws lacking at n1 n2 t before, refl, refl) }

    pub unpair_short_told : Answered n (λ reply. Unpaired at t (records_in ws) reply × (at ≡ reply.head))
    unpair_short_told = record { reply = short_reply at at; answer = short_answered h at e a; promised = (unpair_lacking ws lacking at t, refl) }

    pub watch_short_told : {desk : Desk} {m : ℕ} {before : List ℕ} → Answered n (λ reply. Watched at desk m t (records_in ws) before reply (records_in ws) before × (0 ≡ reply.count))
    watch_short_told {desk} {m} {before} = record { reply = short_reply at at; answer = short_answered h at e a; promised = (watch_lacking ws lacking at desk m t before, refl) }

    pub end_short_told : {desk : Desk} {m : ℕ} → Answered n (λ reply. Ended at desk m t (records_in ws) reply (records_in ws))
    end_short_told {desk} {m} = record { reply = short_reply at at; answer = short_answered h at e a; promised = end_lacking ws lacking at desk m t }

-- ---- the opening

module _ {d N directions : ℕ} {t : Tables} where
  module _ {held ws left : List ℕ} {t' : Tables} {r : Reply} {n : ℕ} (lent : held ≡ ws) (p : Opened d N directions t held r t' left) (a : n ≡ number_of r.answer) where
    at_cells : Opened d N directions t ws r t' left
    at_cells = subst (λ (l : List ℕ). Opened d N directions t l r t' left) lent p

    pub open_told : (head : Head) {next : Head} {ws' : List ℕ} → n ≡ 0 → next ≡ r.head → left ≡ ws'
        → Answered n (λ reply. Opened d N directions t ws reply t' ws' × (next ≡ granted n reply.head head))
    open_told head {next} {ws'} z b s =
        record { reply = r; answer = a; promised = (subst (λ (l : List ℕ). Opened d N directions t ws r t' l) s at_cells, b ∙ sym (accepted_granted n z r.head head)) }

    pub open_refused : {head : Head} → 0 < n → Answered n (λ reply. Opened d N directions t ws reply t' ws × (head ≡ granted n reply.head head))
    unfolding open_reply open_watches reply_of
    open_refused {head} above =
        let kept : ws ≡ open_watches d N directions t ws = sym (granted_refused _ (subst (λ (i : ℕ). 0 < i) (a ∙ ap Outcome.number at_cells.reply) above) _ ws) in
        record { reply = r; answer = a; promised = (record { reply = at_cells.reply; lent = at_cells.lent; watches = kept }, sym (granted_refused n above r.head head)) }

  pub open_short_told : (ws : List ℕ) {h head : Head} {n : ℕ} → length ws < 16 → h ≡ fresh_head d N directions → n ≡ short_loan_answer h
      → Answered n (λ reply. Opened d N directions t (records_in ws) reply t (records_in ws) × (head ≡ granted n reply.head head))
  open_short_told ws {h} {head} {n} lacking f a =
      let fresh = fresh_head d N directions in
      let b : number (short_refusal fresh) ≡ n = short_number fresh ∙ sym (a ∙ ap short_loan_answer f) in
      record { reply = short_reply fresh (fresh_head 0 0 0); answer = sym b; promised = (open_lacking ws lacking d N directions t, unchanged fresh _ _ b) }
