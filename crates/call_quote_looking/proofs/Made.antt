-- What a quote and look in one hands back and leaves, where both are taken and where neither is.
use Rattle.std.specs.Prelude.{Result, Err}
use mathlib.Core.Path.{◌≡◌, refl, sym, ap, ◌∙◌}
use Prim.Native.Nat.{ℕ, ◌+◌}
use mathlib.Core.Bool.{Bool, true, false, ◌&&◌}
use mathlib.Core.List.{List}
use lib.Dec.{ltb}
use lib.ListN.{length, drop}
use Rattle.lists.specs.Lists.{laid}
use Rattle.skyline.specs.Skyline.{window_start}
use Rattle.head.specs.declared.Head.{Head}
use Rattle.refusals.specs.declared.Refusal.{Refusal}
use Rattle.refusals.specs.declared.Refusal.TheVariants.{ShortOutput}
use Rattle.refusals.specs.Refusals.{number_of, granted}
use Rattle.model.specs.Rows.{Tables}
use Rattle.model.specs.Book.{reply_of, out_of_range, quote_reply, both_list, both_answer, both_reply, both_listed, both_tables, both_out, both_cells}
use Rattle.model.proofs.Replying.{refused_reply, refused_left}
use Rattle.call_judging.proofs.Answering.{in_range}
use Rattle.call_settling.specs.declared.Finding.{Finding}
use Rattle.call_quoting.specs.declared.Entered.{Entered}
use Rattle.call_quoting.specs.Entered.{stayed, QuoteEntered}
use Rattle.call_quote_looking.specs.declared.BothEntered.{BothEntered}
use Rattle.call_quoting.proofs.Quotes.{Entering}
use Rattle.call_quote_looking.specs.Looks.{count_after, list_after, Writable}
use Rattle.call_quote_looking.specs.Made.{refusal, acceptance, BothMade}
use Rattle.call_quote_looking.proofs.Answers.{room_refused, room_accepted}
use Rattle.call_quote_looking.proofs.Counting.{cells_short, cells_fit}
use Rattle.call_quote_looking.proofs.Lists.{list_is, writable}

-- refused, all is as it was
pub made_refused : (reachable : Bool) (h : Head) (x : List ℕ) (n : ℕ) (t : Tables) (ws out cells : List ℕ) {a : Result (Unit {0}) Refusal} {k : Refusal}
    → number_of a ≡ both_answer h x n t ws (length out) (length cells) → a ≡ Err k → {s : BothEntered} → s ≡ refusal h (Err k)
    → BothMade reachable h x n t ws out cells s t out cells
unfolding both_reply both_listed both_tables both_out both_cells
made_refused reachable h x n t ws out cells {k = why} e' f' g =
    let e : number_of (Err why) ≡ both_answer h x n t ws (length out) (length cells) = ap number_of (sym f') ∙ e' in
    rw g (record {
      made = record {
        reply = refused_reply e refl h _ _;
        listed = refused_left e refl 0 _;
        lent = refl;
        out = refused_left e refl out _;
        positions = refused_left e refl cells _;
      };
      moved = λ k. refused_left e refl t _;
      behind = λ k. refused_left e refl t _;
      later_by = λ k. refused_left e refl 0 _;
      slides = λ k. stayed (refused_left e refl t _);
    })

-- once the quote and the size are judged and the rows are compared with the quote; short: whether the cells are too few
module _ (reachable : Bool) {h : Head} {x : List ℕ} (n : ℕ) {t : Tables} {ws : List ℕ} (out cells : List ℕ) {f : Finding} {ps : List ℕ}
    (v : Entering h x t ws (length out) f ps) (o : out_of_range h n ≡ false) {start : ℕ} (starts : start ≡ window_start (h.newest + 1) n) {short : Bool}
    (e : short ≡ (ltb (length cells) n && ltb (length cells) (count_after h start f.lower (drop f.at ps) t.lower_ends t.upper_ends))) where
  -- the list after the quote
  abbrev list : List ℕ
  list = both_list h x n t ws (length out)

  -- too few, all is as it was
  pub made_short : short ≡ true → {r : BothEntered} → r ≡ refusal h (Err ShortOutput) → BothMade reachable h x n t ws out cells r t out cells
  made_short s g =
      let refused = room_refused h x n t ws (length out) v.accepted o (length cells) (cells_short v (in_range h n o) starts e s) in
      made_refused reachable h x n t ws out cells refused refl g

  -- else the quote is entered, and the list of the book after it stands in the cells
  module _ (fit : short ≡ false) {s : Entered} {t' : Tables} {after : List ℕ} (m : QuoteEntered reachable h x t ws out s t' after) where
    pub list_fits : Writable reachable s start t'.lower_ends t'.upper_ends (length cells)
    list_fits = writable h x t ws out v.accepted reachable m (in_range h n o) starts (cells_fit v (in_range h n o) starts e fit)

    pub made_both : {cells' : List ℕ} {r : BothEntered} → r ≡ acceptance s (length (list_after reachable s start t'.lower_ends t'.upper_ends))
        → cells' ≡ laid (list_after reachable s start t'.lower_ends t'.upper_ends) cells → BothMade reachable h x n t ws out cells r t' after cells'
    unfolding both_reply both_listed both_tables both_out both_cells quote_reply reply_of granted
    made_both g p =
        let z = room_accepted h x n t ws (length out) v.accepted o (length cells) (cells_fit v (in_range h n o) starts e fit) in
        let same = list_is h x t ws out v.accepted reachable m (in_range h n o) starts in
        let q = v.accepted in
        rw g (record {
          made = record {
            reply = rw z (rw q at m.quoted.reply);
            listed = rw z (ap length same);
            lent = refl;
            out = rw z m.quoted.out;
            positions = rw z (p ∙ ap (λ (l : List ℕ). laid l cells) same);
          };
          moved = λ k. rw z (m.moved k);
          behind = λ k. rw z (rw q at (m.behind k));
          later_by = λ k. rw z (rw q at (m.later_by k));
          slides = λ k. rw z (m.slides k);
        })
