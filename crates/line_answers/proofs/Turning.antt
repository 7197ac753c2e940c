-- What each call of a tape leaves: its lines, from what it answered and wrote, and the player after it.
use mathlib.Core.Path.{◌≡◌, refl, ap, ◌∙◌}
use Prim.Native.Nat.{ℕ, zero, suc, ◌+◌}
use native.Mathlib.Numerals.{add-one}
use native.Mathlib.Omega.{arith}
use mathlib.Core.List.{List, [], ◌∷◌, ◌++◌, append-nil}
use lib.ListN.{length, take, replicate}
use Rattle.lists.specs.Lists.{flat}
use Rattle.head.specs.declared.Head.{Head}
use Rattle.head.specs.declared.Desk.{Desk}
use Rattle.head.specs.declared.Desk.TheVariants.{One}
use Rattle.std.specs.Prelude.{Result, Ok, Err}
use Rattle.head.specs.declared.replies.Reply.{Reply}
use Rattle.refusals.specs.declared.Refusal.{Refusal}
use Rattle.refusals.specs.Refusals.{number, number_of, granted}
use Rattle.head.specs.Replies.{Outcome}
use Rattle.head.specs.Heads.{with_pair}
use Rattle.refusals.proofs.Numbers.{refused_granted}
use Rattle.frames.specs.Frames.{messages_from}
use Rattle.model.specs.Rows.{Tables}
use Rattle.model.specs.Book.{reply_of, quote_bytes, quote_head, quote_answer, quote_reply, look_reply, past_reply, watch_bytes, watch_answer, watch_reply, pair_bytes, pair_answer, pair_reply}
use Rattle.model.specs.Calls.{Call, book_seen, head_after, world_after, book_step}
use Rattle.model.specs.Promises.{Opened, Quoted, Looked, PastLooked, Watched, Ended, Paired, Unpaired}
use Rattle.text.specs.Text.{line, Laid}
use Rattle.line_changes.specs.Printed.{change_lines, changes_text}
use Rattle.tape_model.specs.Print.{desk_line, lines_of, refusal_line, text_of}
use Rattle.tape_model.specs.Play.{Player, book_make}
use Rattle.line_answers.specs.Turns.{player, answer_line, turn_of, made, refused_with, Turned}

-- ---- lines

-- the line of an answer with the lines of its changes behind it: a refused call has none
changed_lines : (number : ℕ) (accepted : List ℕ) (count : ℕ) (bytes : List ℕ)
    → let changes = changes_text (take (granted number count 0) bytes) in
    answer_line number accepted ++ changes ≡ granted number (accepted ++ changes) (refusal_line number)
unfolding answer_line granted changes_text change_lines messages_from flat
changed_lines zero accepted count bytes = refl
changed_lines (suc k) accepted count bytes = append-nil (refusal_line (suc k))

-- the line of an accepted call, and of a refused one
pub accepted_line : {a : Result (Unit {0}) Refusal} (accepted : List ℕ) → a ≡ Ok tt → answer_line (number_of a) accepted ≡ accepted
unfolding answer_line granted
accepted_line accepted e = rw e

pub refused_line : {a : Result (Unit {0}) Refusal} {n : ℕ} (k : Refusal) (accepted : List ℕ) → a ≡ Err k → n ≡ number k → answer_line (number_of a) accepted ≡ line 82 (n ∷ [])
unfolding answer_line refusal_line
refused_line k accepted e f = rw (e, f, refused_granted k accepted (line 82 (number k ∷ [])))

-- the same lines laid
pub laid_as : {lines lines' before after : List ℕ} {count : ℕ} → lines ≡ lines' → Laid lines before count after → Laid lines' before count after
laid_as e l = rw (← e) l

-- the line of an answer laid with the lines of its changes behind it, as what the call promises says them
module _ (accepted : Outcome → List ℕ) (answer : ℕ) (h next : Head) (count : ℕ) where
  changes_said : {a : Outcome} {out written before after : List ℕ} {used : ℕ} → a ≡ reply_of answer h next count → out ≡ written
      → Laid (answer_line a.number (accepted a) ++ changes_text (take a.count out)) before used after
      → let b = reply_of answer h next count in
      Laid (granted b.number (accepted b ++ changes_text (take b.count written)) (refusal_line b.number)) before used after
  unfolding reply_of
  changes_said {out = out} {written = written} e o l =
      let b = reply_of answer h next count in
      let lines : Outcome → List ℕ → List ℕ = λ a bytes. answer_line a.number (accepted a) ++ changes_text (take a.count bytes) in
      laid_as (ap (λ (a : Outcome). lines a out) e ∙ ap (lines b) o ∙ changed_lines answer (accepted b) count written) l

-- the parts of the same outcome
module _ {a b : Outcome} (e : a ≡ b) where
  answered : a.number ≡ b.number
  answered = ap (λ (o : Outcome). o.number) e

  handed : a.head ≡ b.head
  handed = ap (λ (o : Outcome). o.head) e

-- ---- calls
module _ (h : Head) (t : Tables) (ws bytes : List ℕ) where
  -- the player before the call
  abbrev k : Player
  k = player h t ws bytes

  module _ {before after : List ℕ} {count : ℕ} where
    -- an opening
    pub open_turned : (d N directions : ℕ) {r : Reply} {t' : Tables} {ws' : List ℕ} {next : Head} → Opened d N directions t ws r t' ws'
        → next ≡ granted (number_of r.answer) r.head h
        → Laid (answer_line (number_of r.answer) (desk_line One 79 (d ∷ N ∷ directions ∷ []))) before count after
        → Turned (made (Call.Open d N directions) k) before (record { answer = r.answer; count = count; head = next; watches = ws' }) t' bytes after
    unfolding made book_make book_step book_seen world_after head_after text_of lines_of desk_line answer_line
    open_turned d N directions o e l =
        let all = laid_as (ap (λ (a : Outcome). answer_line a.number (desk_line One 79 (d ∷ N ∷ directions ∷ []))) o.reply) l in
        record {
          answer = answered o.reply;
          count = all.counted;
          head = e ∙ ap (λ (a : Outcome). granted a.number a.head h) o.reply;
          watches = o.watches;
          lent = o.lent;
          bytes = refl;
          text = all.text;
        }

    -- a quote
    pub quote_turned : (x : List ℕ) {r : Reply} {t' : Tables} {bytes' : List ℕ} → Quoted h x t ws bytes r t' bytes'
        → Laid (answer_line (number_of r.answer) (desk_line One 81 (r.head.newest ∷ r.head.live ∷ [])) ++ changes_text (take r.count bytes')) before count after
        → Turned (made (Call.Quote x) k) before (turn_of r ws count) t' bytes' after
    unfolding made book_make book_step book_seen world_after head_after text_of lines_of desk_line quote_reply reply_of
    quote_turned x q l =
        let all = changes_said (λ a. desk_line One 81 (a.head.newest ∷ a.head.live ∷ [])) (quote_answer h x t ws (length bytes)) h (quote_head h x t ws) (length (quote_bytes h x t ws))
        q.reply q.out l in
        record { answer = answered q.reply; count = all.counted; head = handed q.reply; watches = refl; lent = q.lent; bytes = q.out; text = all.text }

    -- a watch
    pub watch_turned : (desk : Desk) (n : ℕ) {r : Reply} {ws' bytes' : List ℕ} → Watched h desk n t ws bytes r ws' bytes'
        → Laid (answer_line (number_of r.answer) (desk_line desk 87 (n ∷ [])) ++ changes_text (take r.count bytes')) before count after
        → Turned (made (Call.Watch desk n) k) before (turn_of r ws' count) t bytes' after
    unfolding made book_make book_step book_seen world_after head_after text_of lines_of watch_reply reply_of
    watch_turned desk n w l =
        let all = changes_said (λ _. desk_line desk 87 (n ∷ [])) (watch_answer h desk n t ws (length bytes)) h h (length (watch_bytes h desk n t ws)) w.reply w.out l in
        record { answer = answered w.reply; count = all.counted; head = handed w.reply; watches = w.watches; lent = refl; bytes = w.out; text = all.text }

    -- a pair
    pub pair_turned : (n1 n2 : ℕ) {r : Reply} {bytes' : List ℕ} → Paired h n1 n2 t ws bytes r bytes'
        → Laid (answer_line (number_of r.answer) (desk_line One 66 (n1 ∷ n2 ∷ [])) ++ changes_text (take r.count bytes')) before count after
        → Turned (made (Call.Pair n1 n2) k) before (turn_of r ws count) t bytes' after
    unfolding made book_make book_step book_seen world_after head_after text_of lines_of desk_line pair_reply reply_of
    pair_turned n1 n2 p l =
        let all = changes_said (λ _. desk_line One 66 (n1 ∷ n2 ∷ [])) (pair_answer h n1 n2 t ws (length bytes)) h (with_pair h n1 n2) (length (pair_bytes h n1 n2 t ws)) p.reply p.out l in
        record { answer = answered p.reply; count = all.counted; head = handed p.reply; watches = refl; lent = refl; bytes = p.out; text = all.text }

    -- the end of a watch
    pub end_turned : (desk : Desk) (n : ℕ) {r : Reply} {ws' : List ℕ} → Ended h desk n t ws r ws' → Laid (answer_line (number_of r.answer) (desk_line desk 85 (n ∷ []))) before count after
        → Turned (made (Call.End desk n) k) before (turn_of r ws' count) t bytes after
    unfolding made book_make book_step book_seen world_after head_after text_of lines_of answer_line
    end_turned desk n e l =
        let all = laid_as (ap (λ (a : Outcome). answer_line a.number (desk_line desk 85 (n ∷ []))) e.reply) l in
        record { answer = answered e.reply; count = all.counted; head = handed e.reply; watches = e.watches; lent = refl; bytes = refl; text = all.text }

    -- the end of the pair
    pub unpair_turned : {r : Reply} → Unpaired h t ws r → Laid (answer_line (number_of r.answer) (desk_line One 69 [])) before count after
        → Turned (made Call.Unpair k) before (turn_of r ws count) t bytes after
    unfolding made book_make book_step book_seen world_after head_after text_of lines_of desk_line answer_line
    unpair_turned e l =
        let all = laid_as (ap (λ (a : Outcome). answer_line a.number (desk_line One 69 [])) e.reply) l in
        record { answer = answered e.reply; count = all.counted; head = handed e.reply; watches = refl; lent = refl; bytes = refl; text = all.text }

    -- a look, whose positions stand in cells behind n, leaves the player as it was
    pub look_turned : (n : ℕ) {r : Reply} {cells : List ℕ} → Looked h n t (replicate 1024 0) r cells
        → Laid (answer_line (number_of r.answer) (desk_line One 76 (take (r.count + 1) (n ∷ (cells ++ []))))) before count after
        → Turned (made (Call.Look n) k) before (turn_of r ws count) t bytes after
    unfolding made book_make book_step book_seen world_after head_after text_of lines_of desk_line answer_line look_reply reply_of
    look_turned n {r} {cells} o l =
        let lines : Outcome → List ℕ → List ℕ = λ a written. answer_line a.number (desk_line One 76 (n ∷ take a.count written)) in
        let same : Laid (answer_line (number_of r.answer) (desk_line One 76 (n ∷ take r.count cells))) before count after = rw (add-one r.count, append-nil cells) at l in
        let all = laid_as (ap (λ (a : Outcome). lines a cells) o.reply ∙ ap (lines (look_reply h n t 1024)) o.out) same in
        record {
          answer = answered o.reply;
          count = all.counted;
          head = handed o.reply;
          watches = refl;
          lent = refl;
          bytes = refl;
          text = all.text;
        }

    -- a past look, whose positions stand in cells behind n1 and n2, leaves the player as it was
    pub past_turned : (n1 n2 : ℕ) {r : Reply} {cells : List ℕ} → PastLooked h n1 n2 t (replicate 1024 0) r cells
        → Laid (answer_line (number_of r.answer) (desk_line One 80 (take (r.count + 2) (n1 ∷ n2 ∷ (cells ++ []))))) before count after
        → Turned (made (Call.Past n1 n2) k) before (turn_of r ws count) t bytes after
    unfolding made book_make book_step book_seen world_after head_after text_of lines_of desk_line answer_line past_reply reply_of
    past_turned n1 n2 {r} {cells} o l =
        let lines : Outcome → List ℕ → List ℕ = λ a written. answer_line a.number (desk_line One 80 (n1 ∷ n2 ∷ take a.count written)) in
        let two : r.count + 2 ≡ suc (suc r.count) = omega arith in
        let same : Laid (answer_line (number_of r.answer) (desk_line One 80 (n1 ∷ n2 ∷ take r.count cells))) before count after = rw (two, append-nil cells) at l in
        let all = laid_as (ap (λ (a : Outcome). lines a cells) o.reply ∙ ap (lines (past_reply h n1 n2 t 1024)) o.out) same in
        record {
          answer = answered o.reply;
          count = all.counted;
          head = handed o.reply;
          watches = refl;
          lent = refl;
          bytes = refl;
          text = all.text;
        }

    -- what is refused before any call
    pub refusal_turned : (refusal : Refusal) {n : ℕ} → n ≡ number refusal → Laid (line 82 (n ∷ [])) before count after
        → Turned (refused_with (number refusal) k) before (record { answer = Err refusal; count = count; head = h; watches = ws }) t bytes after
    unfolding refused_with refusal_line
    refusal_turned refusal e l =
        let all = laid_as (ap (λ (n : ℕ). line 82 (n ∷ [])) e) l in
        record { answer = refl; count = all.counted; head = refl; watches = refl; lent = refl; bytes = refl; text = all.text }
