-- What a quote and look in one leaves, as the turn of a quote and of a look directly behind it: the lines of both, and the player after them.
use mathlib.Core.Path.{◌≡◌, refl, sym, ap, ◌∙◌}
use Prim.Native.Nat.{ℕ, ◌≤◌}
use mathlib.Core.Bool.{false}
use mathlib.Core.List.{List, ◌++◌}
use lib.ListN.{replicate}
use Rattle.lists.specs.Lists.{head_or}
use Rattle.head.specs.declared.Head.{Head}
use Rattle.head.specs.declared.Desk.TheVariants.{One}
use Rattle.head.specs.declared.replies.BothReply.{BothReply}
use Rattle.refusals.specs.Refusals.{number_of, granted}
use Rattle.head.specs.Replies.{Outcome}
use Rattle.model.specs.Rows.{Tables}
use Rattle.model.specs.Calls.{book_seen, head_after, world_after, book_step}
use Rattle.model.specs.Promises.{QuotedLooked}
use Rattle.text.specs.Text.{line, Laid}
use Rattle.tape_model.specs.Print.{desk_line, lines_of}
use Rattle.tape_model.specs.Play.{Player, book_make}
use Rattle.tape_model.specs.InOne.{seen_both, after_both, quote_lines, look_line, behind, InARow, play_two}
use Rattle.tape_model.proofs.InOne.{shown_in_two, both_stays, played_two}
use Rattle.line_answers.specs.Turns.{player, answer_line, both_text, made, made_two, Turned}
use Rattle.line_answers.proofs.Turning.{laid_as}

-- ---- the two turns

module _ (x : List ℕ) (n : ℕ) (k : Player) (e : (seen_both x n k).outcome.number ≡ 0) where
  -- where the one is accepted, the two come to its lines and to the player that it leaves
  pub two_made : made_two x n k ≡ record { number = 0; text = quote_lines x n k ++ look_line x n k; state = after_both x n k }
  unfolding made_two made
  two_made = let shown = shown_in_two x n k e in rw (shown.quote_text, shown.look_number, shown.look_text, shown.state)

  -- and the two frames of a tape come to the two turns
  pub two_played : (tape : List ℕ) (place : ℕ) → InARow x n k tape place
      → let two = made_two x n k in
      play_two tape place k ≡ record { number = two.number; text = two.text; state = two.state; next = behind tape (behind tape place); over = false }
  two_played tape place here = played_two x n k tape place here e ∙ rw two_made

-- the lines of two accepted answers
pub both_lines : (number : ℕ) (quote changes look : List ℕ) → number ≡ 0
    → (answer_line number (desk_line One 81 quote) ++ changes) ++ answer_line number (desk_line One 76 look) ≡ (line 81 quote ++ changes) ++ line 76 look
unfolding answer_line desk_line granted
both_lines number quote changes look e = rw e

-- ---- the call

module _ (h : Head) (t : Tables) (ws bytes : List ℕ) (x : List ℕ) (n : ℕ) {r : BothReply} {t' : Tables} {bytes' cells : List ℕ}
    (q : QuotedLooked h x n t ws bytes (replicate 1024 0) r t' bytes' cells) where
  -- the player before the call
  abbrev k : Player
  k = player h t ws bytes

  -- its number
  answered : (seen_both x n k).outcome.number ≡ number_of r.reply.answer
  unfolding book_seen
  answered = sym (ap Outcome.number q.reply)

  -- the lines of both, from what it handed back and wrote
  lines_alike : both_text n r bytes' cells ≡ quote_lines x n k ++ look_line x n k
  unfolding book_seen lines_of head_or
  lines_alike = rw (← q.reply, ← q.out, ← q.listed, ← q.positions)

  -- where it is accepted
  pub both_turned : {before after : List ℕ} {count : ℕ} → number_of r.reply.answer ≡ 0 → Laid (both_text n r bytes' cells) before count after
      → Turned (made_two x n k) before (record { answer = r.reply.answer; count = count; head = r.reply.head; watches = ws }) t' bytes' after
  unfolding book_make book_step book_seen world_after head_after
  both_turned e l =
      let all = laid_as lines_alike l in
      rw (two_made x n k (answered ∙ e))
      record { answer = e; count = all.counted; head = ap Outcome.head q.reply; watches = refl; lent = q.lent; bytes = q.out; text = all.text }

  -- where it is refused the player is as it was
  pub both_left : 1 ≤ number_of r.reply.answer → player r.reply.head t' ws bytes' ≡ k
  unfolding book_make book_step book_seen world_after head_after
  both_left e = rw (ap Outcome.head q.reply, q.lent, q.out) (both_stays x n k (rw answered e))
