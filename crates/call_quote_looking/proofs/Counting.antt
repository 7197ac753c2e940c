-- The length of the list of n after a quote, counted by the rows before it: the loop that counts those at listed places, and that the count
-- is so by the book model.
use mathlib.Core.Path.{◌≡◌, refl, sym, ap, ap₂, ◌∙◌}
use Prim.Native.Nat.{ℕ, ◌+◌, ◌-◌, ◌≤◌, ◌<◌}
use native.Mathlib.Nat.{zero-add}
use native.Mathlib.Numerals.{add-one}
use native.Mathlib.Omega.{arith}
use mathlib.Core.Bool.{Bool, true, false, ◌&&◌, not, cond}
use mathlib.Core.List.{List, [], ◌++◌, map}
use lib.Dec.{ltb, leb}
use lib.ListN.{length, get_or, take, drop, length-append, length-map}
use lib.Seq.{take_all, take-suc}
use borrow.Author.Tests.{le-ltb, lt-ltb, lt-leb, ltb-true, ltb-false}
use mir.Val.{bool_byte}
use Rattle.lists.specs.Lists.{keep, filter, run}
use Rattle.lists.proofs.Booleans.{agree, and_right, both}
use Rattle.lists.proofs.Filters.{filter_append, filter_filter, length_filter}
use Rattle.lists.proofs.Runs.{filter_same, filter_from}
use Rattle.skyline.specs.Skyline.{window_start, stabbed}
use Rattle.skyline.specs.Past.{covers}
use Rattle.head.specs.declared.Head.{Head}
use Rattle.model.specs.Rows.{Tables, listed}
use Rattle.model.specs.Book.{list_of, quote_rows, quote_head, both_list}
use Rattle.model.proofs.LookAfter.{head_after_lem, list_after_quote, both_list_most}
use Rattle.table_finding.specs.Found.{Rows, live, over, retires, retired}
use Rattle.table_listing.specs.Picked.{picked, listed_at, listed_in}
use Rattle.table_listing.proofs.Picking.{byte_small, picked_bounded, picked_same}
use Rattle.table_listing.proofs.Listing.{whole_consecutive}
use Rattle.table_changes.specs.declared.Shift.{Shift}
use Rattle.table_changes.specs.Held.{stands, now_listed}
use Rattle.table_changes.specs.Watches.{shift_of}
use Rattle.table_changes.proofs.Quoting.{on_list_lem, after_is}
use Rattle.call_judging.proofs.Answering.{InRange}
use Rattle.call_settling.specs.declared.Finding.{Finding}
use Rattle.call_settling.specs.Findings.{expired_places, held_rows}
use Rattle.call_settling.proofs.Standing.{within, long, whole, held_is, places}
use Rattle.call_settling.proofs.Findings.{found_lower}
use Rattle.call_settling.proofs.Numbers.{split_counted}
use Rattle.call_settling.proofs.Settled.{retired_below}
use Rattle.call_quoting.proofs.Quotes.{Entering, book}
use Rattle.call_quote_looking.specs.Looks.{stabbed_places, count_after, Countable}

-- ---- rows at listed places

module _ (first start : ℕ) (lowers places : List ℕ) where
  -- the first k places are counted
  pub record Counting (count k : ℕ) : Type 0 where
    pub within : k ≤ length places
    pub bounded : count ≤ k
    pub sum : count ≡ length (stabbed_places first start lowers (take k places))

  pub counting_start : Counting 0 0
  unfolding stabbed_places filter
  counting_start = record { within = omega arith; bounded = omega arith; sum = refl }

  pub counting_more : {count k : ℕ} → Counting count k → k < length places → {b : Bool}
      → b ≡ (ltb (get_or lowers (get_or places k 0) 0) start && leb start (first + get_or places k 0)) → Counting (count + bool_byte b) (k + 1)
  unfolding stabbed_places stabbed filter
  counting_more {count} {k} v l {b} e = record {
    within = omega arith;
    bounded = omega (arith, v.bounded, byte_small b);
    sum = rw (add-one, take-suc places k 0 l, filter_append, length-append, ← e, ← v.sum) (go b);
  }
    where
      go : (b : Bool) → count + bool_byte b ≡ count + length (keep b (get_or places k 0) [])
      go true = refl
      go false = refl

  pub counting_all : {count k : ℕ} → Counting count k → length places ≤ k → count ≡ length (stabbed_places first start lowers places)
  counting_all {k = k} v l = v.sum ∙ ap (λ (p : List ℕ). length (stabbed_places first start lowers p)) (take_all k places l)

  -- they are no more than the places
  pub stabbed_few : {count : ℕ} → count ≡ length (stabbed_places first start lowers places) → count ≤ length places
  unfolding stabbed_places
  stabbed_few e = omega (arith, e, length_filter (λ i. stabbed start (get_or lowers i 0) (first + i)) places)

-- a list has no more positions than there are up to its end
pub listed_few : (a b first : ℕ) (lowers uppers : List ℕ) {count : ℕ} → count ≡ length (listed_in a b first lowers uppers) → count ≤ b + 1
unfolding listed_in
listed_few a b first lowers uppers e = omega (arith, e, picked_bounded (listed_at a b first lowers uppers) first (b + 1 - first))

-- ---- the test of the cells

-- fewer than what is left of so many
less_by : (space lost all : ℕ) {m : ℕ} → m ≡ all - lost → ltb (space + lost) all ≡ ltb space m
less_by space lost all {m} e =
    agree (ltb (space + lost) all) (ltb space m) (λ t. lt-ltb space m (omega (arith, ltb-true (space + lost) all t)))
    (λ t. lt-ltb (space + lost) all (omega (arith, ltb-true space m t)))

-- space that is short of n, and of so many
pub short_by : (space n kept lost : ℕ) (new : Bool) {m : ℕ} → m ≡ kept + cond new 1 0 - lost → space < n
    → ltb (space + lost) (kept + bool_byte new) ≡ ltb space n && ltb space m
short_by space n kept lost new {m} e l = rw (lt-ltb space n l) (go new e)
  where
    go : (new : Bool) → m ≡ kept + cond new 1 0 - lost → ltb (space + lost) (kept + bool_byte new) ≡ ltb space m
    go true e = less_by space lost (kept + 1) e
    go false e = less_by space lost (kept + 0) e

-- where n fit nothing is short
pub wide_enough : {space n : ℕ} (b : Bool) → n ≤ space → false ≡ ltb space n && b
wide_enough {space} {n} b l = rw (le-ltb space n l)

-- ---- by the book model

-- where the window of n starts after the quote
pub starts_at : (M n : ℕ) {w : Shift} → w ≡ shift_of M n → w.after ≡ window_start (M + 1) n
unfolding shift_of
starts_at M n e = ap Shift.after e

turn : (a o k : Bool) → (a && o) && k ≡ (a && k) && o
turn true true true = refl
turn true true false = refl
turn true false true = refl
turn true false false = refl
turn false o k = refl

module _ {h : Head} {x : List ℕ} {t : Tables} {ws : List ℕ} {room : ℕ} {f : Finding} {ps : List ℕ} (v : Entering h x t ws room f ps)
    {n : ℕ} (r : InRange h n) {start : ℕ} (starts : start ≡ window_start (h.newest + 1) n) where
  abbrev M : ℕ
  M = h.newest

  abbrev S : ℕ
  S = window_start M h.capacity

  -- the rows as they are compared with the quote
  abbrev rows : Rows
  rows = held_rows h x t.columns t.upper_ends

  -- the retired places
  abbrev gone : List ℕ
  gone = drop f.at ps

  -- the start stabs the row at place i
  abbrev stabs : ℕ → Bool
  stabs i = stabbed start (get_or t.lower_ends i 0) (S + i)

  filled : M + 1 ≡ S + h.held
  filled = (whole_consecutive h t (whole (book v))).1

  -- the rows may be counted
  pub countable : Countable h start gone t.lower_ends t.upper_ends
  unfolding window_start
  countable = let low = (retired_below (book v) v.finds).low in record {
    below = (book v).below;
    window = record {
      starts = omega arith;
      low = omega (arith, starts, r.high);
      near = omega (arith, starts, r.low);
      lower_room = omega (arith, filled, places (book v), (long (book v)).lower_ends);
      upper_room = omega (arith, filled, places (book v), (long (book v)).upper_ends);
    };
    held = record { low = λ k l. omega (arith, low k l, places (book v), (long (book v)).lower_ends) };
  }

  -- the rows on the list of the new window before the quote
  before_length : length (listed_in start M S t.lower_ends t.upper_ends) ≡ length (filter (λ i. live t.upper_ends i && stabs i) (run 0 h.held))
  unfolding listed_in picked listed_at
  before_length =
      let e : M + 1 - S ≡ h.held = omega (arith, filled) in
      rw e
      (ap length (picked_same (listed_at start M S t.lower_ends t.upper_ends) (λ i. live t.upper_ends i && stabs i) S h.held at)
      ∙ length-map (filter (λ i. live t.upper_ends i && stabs i) (run 0 h.held)) (λ i. S + i))
    where
      at : (i : ℕ) → i < h.held → covers start M (get_or t.lower_ends i 0) (S + i) (get_or t.upper_ends i 0) ≡ live t.upper_ends i && stabs i
      at i l =
          rw ((whole_consecutive h t (whole (book v))).0.at i l) at
          (on_list_lem h t x f.lower (whole (book v)) (book v).below (within (book v)).some_capacity (found_lower (book v) v.finds) start i l)

  -- those of them that the quote retires
  retired_length : length (stabbed_places S start t.lower_ends gone) ≡ length (filter (λ i. (live t.upper_ends i && stabs i) && over rows i) (run 0 h.held))
  unfolding stabbed_places retired retires window_start expired_places stabbed
  retired_length =
      let e = expired_places h in
      let k = h.held - e in
      let z : e + k ≡ h.held = (places (book v)).5 in
      rw v.finds.listed
      (ap length
      (filter_filter stabs (retires rows) (run e k)
      ∙ filter_same (λ i. retires rows i && stabs i) lost e k (λ i _ _. turn (live t.upper_ends i) (over rows i) (stabs i))
      ∙ ap (λ (a : ℕ). filter lost (run a k)) (sym (zero-add e))
      ∙ sym (filter_from lost 0 e k early)
      ∙ ap (λ (m : ℕ). filter lost (run 0 m)) z))
    where
      lost : ℕ → Bool
      lost i = (live t.upper_ends i && stabs i) && over rows i

      early : (i : ℕ) → 0 ≤ i → i < 0 + expired_places h → lost i ≡ false
      early i _ l =
          rw (lt-leb start (S + i) (omega (arith, starts, held_is (book v), r.high, (within (book v)).some_capacity)))
          (none (live t.upper_ends i) (ltb (get_or t.lower_ends i 0) start) (over rows i))
        where
          none : (a b o : Bool) → (a && (b && false)) && o ≡ false
          none true true o = refl
          none true false o = refl
          none false b o = refl

  -- the list after the quote
  after_length : length (both_list h x n t ws room)
      ≡ length (filter (λ i. (live t.upper_ends i && stabs i) && not (over rows i)) (run 0 h.held)) + cond (ltb f.lower start) 1 0
  unfolding list_of quote_rows picked now_listed stands shift_of
  after_length =
      ap length (list_after_quote h x t ws room v.accepted n ∙ list)
      ∙ length-append (map (λ i. S + i) (filter now (run 0 h.held))) (keep (ltb f.lower start) (S + h.held) [])
      ∙ rw length-map (ap₂ (λ (a b : ℕ). a + b) olds (new (ltb f.lower start)))
    where
      now : ℕ → Bool
      now i = (live t.upper_ends i && not (over rows i)) && stabs i

      list : list_of (quote_head h x t ws) (quote_rows h x t ws) n ≡ picked now S h.held ++ keep (ltb f.lower start) (S + h.held) []
      list =
          rw ((head_after_lem h x t ws room v.accepted).0, starts)
          (after_is h t x f.lower (whole (book v)) (book v).below (within (book v)).some_capacity (found_lower (book v) v.finds) n r.low r.high)

      olds : length (filter now (run 0 h.held)) ≡ length (filter (λ i. (live t.upper_ends i && stabs i) && not (over rows i)) (run 0 h.held))
      olds =
          ap length
          (filter_same now (λ i. (live t.upper_ends i && stabs i) && not (over rows i)) 0 h.held
          (λ i _ _. turn (live t.upper_ends i) (not (over rows i)) (stabs i)))

      new : (b : Bool) → length (keep b (S + h.held) []) ≡ cond b 1 0
      new true = refl
      new false = refl

  -- so many are counted
  pub counted : count_after h start f.lower gone t.lower_ends t.upper_ends ≡ length (both_list h x n t ws room)
  unfolding count_after
  counted =
      let split = split_counted (λ i. live t.upper_ends i && stabs i) (over rows) (run 0 h.held) in
      omega (arith, before_length, retired_length, after_length, split)

  -- the cells are too few exactly if the list after the quote is longer
  short_is : {short : Bool} (space : ℕ) → short ≡ (ltb space n && ltb space (count_after h start f.lower gone t.lower_ends t.upper_ends))
      → short ≡ ltb space (length (both_list h x n t ws room))
  short_is space e = e ∙ rw counted (most (both_list_most h x t ws room v.accepted n))
    where
      most : {m : ℕ} → m ≤ n → ltb space n && ltb space m ≡ ltb space m
      most {m} k =
          agree (ltb space n && ltb space m) (ltb space m) (λ t. and_right (ltb space n) (ltb space m) t)
          (λ t. both (ltb space n) (ltb space m) (lt-ltb space n (omega (arith, ltb-true space m t))) t)

  module _ {short : Bool} {space : ℕ} (e : short ≡ (ltb space n && ltb space (count_after h start f.lower gone t.lower_ends t.upper_ends))) where
    pub cells_short : short ≡ true → space < length (both_list h x n t ws room)
    cells_short s = ltb-true space _ (sym (short_is space e) ∙ s)

    pub cells_fit : short ≡ false → length (both_list h x n t ws room) ≤ space
    cells_fit s = ltb-false space _ (sym (short_is space e) ∙ s)
