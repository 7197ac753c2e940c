-- What eight steps over the records leave: the numbers that are read, and the records that numbers are stored in.
use mathlib.Core.Path.{◌≡◌, refl, sym, ap, ◌∙◌}
use Prim.Native.Nat.{ℕ, zero, suc, ◌+◌, ◌-◌, ◌≤◌, min}
use native.Mathlib.Decide.{dec_le}
use native.Mathlib.Numerals.{add-one}
use native.Mathlib.Omega.{arith}
use mathlib.Core.List.{List, [], ◌∷◌, ◌++◌, map, append-nil}
use lib.ListN.{length, get_or, take, drop, set, replicate, length-append, length-drop, length-set, length-take, length-map, get_or-map}
use lib.Seq.{take-suc, take_all, take-length, drop-length, take-append-le, length-take-le}
use Rattle.lists.specs.Lists.{laid, padded}
use Rattle.lists.proofs.Growing.{padded_more, laid_more}
use Rattle.head.specs.declared.Watch.{Watch}
use Rattle.head.specs.Desks.{record_of}
use Rattle.watch_records.specs.Records.{record_number, record_at, watched, first_eight, stored}
use Rattle.watch_numbers.proofs.RecordNumbers.{made_up}
use Rattle.watch_records.proofs.Records.{front_is}

-- the numbers after i steps of reading
unfoldable pub copied : List ℕ → ℕ → List ℕ
copied ws zero = replicate 8 0
copied ws (suc i) = set (copied ws i) i (get_or ws i 0)

-- the record that is empty
abbrev pub empty : Watch
empty = record { n = 0; desk = 0 }

-- the records after i steps of storing
unfoldable pub put_in : List Watch → List ℕ → ℕ → List Watch
put_in records watches zero = records
put_in records watches (suc i) = set (put_in records watches i) i (record_at (get_or watches i 0))

pub length_put_in : (records : List Watch) (watches : List ℕ) (i : ℕ) → length (put_in records watches i) ≡ length records
unfolding put_in
length_put_in records watches zero = refl
length_put_in records watches (suc i) = rw length-set (length_put_in records watches i)

pub length_copied : (ws : List ℕ) (i : ℕ) → length (copied ws i) ≡ 8
unfolding copied
length_copied ws zero = refl
length_copied ws (suc i) = rw length-set (length_copied ws i)

-- ---- reading

none_copied : (ws : List ℕ) → copied ws 0 ≡ padded 8 [] []
unfolding copied padded
none_copied ws = refl

copied_is : (ws : List ℕ) (i : ℕ) → i ≤ 8 → i ≤ length ws → copied ws i ≡ padded 8 (take i ws) []
unfolding copied
copied_is ws zero h k = none_copied ws
copied_is ws (suc i) h k =
    let len : length (take i ws) ≡ i = length-take-le i ws (omega arith) in
    let more = padded_more 8 (take i ws) [] (get_or ws i 0) (omega arith) in
    rw (copied_is ws i (omega arith) (omega arith), take-suc ws i 0 k) (rw len at more)

take_least : (n : ℕ) (l : List ℕ) → take (min n (length l)) l ≡ take n l
take_least n l = go (dec_le n (length l))
  where
    go : Dec (n ≤ length l) → take (min n (length l)) l ≡ take n l
    go (yes h) = let e : min n (length l) ≡ n = omega arith in rw e
    go (no h) = let e : min n (length l) ≡ length l = omega arith in rw (e, take-length l, take_all n l (omega arith))

-- nothing is read
pub none_read : (ws : List ℕ) → replicate 8 0 ≡ copied ws 0
unfolding copied
none_read ws = refl

-- one more is read
pub read_on : (records : List Watch) (i : ℕ)
    → set (copied (watched records) i) i (record_number (get_or records i empty)) ≡ copied (watched records) (i + 1)
unfolding copied watched record_of
read_on records i = rw add-one (ap (set (copied (map record_number records) i) i) (sym (get_or-map record_number records i empty)))

-- what reading comes to
pub all_read : (records : List Watch) → copied (watched records) (min 8 (length records)) ≡ first_eight (watched records)
unfolding first_eight padded watched
all_read records =
    let ws = map record_number records in
    let many : length ws ≡ length records = length-map records record_number in
    let e : 8 - min 8 (length ws) ≡ 8 - length ws = omega arith in
    ap (λ (k : ℕ). copied ws (min 8 k)) (sym many)
    ∙ copied_is ws (min 8 (length ws)) (omega arith) (omega arith)
    ∙ (rw (take_least 8 ws, length-take 8 ws, e, append-nil, front_is 8 8 ws (omega arith)))

-- ---- storing

-- nothing is stored
pub put_none : (records : List Watch) (watches : List ℕ) → records ≡ put_in records watches 0
unfolding put_in
put_none records watches = refl

-- one more is stored
pub put_on : (records : List Watch) (watches : List ℕ) (i : ℕ) → set (put_in records watches i) i (record_at (get_or watches i 0)) ≡ put_in records watches (i + 1)
unfolding put_in
put_on records watches i = rw add-one refl

map_set : {A B : Type 0} (f : A → B) (l : List A) (i : ℕ) (y : A) → map f (set l i y) ≡ set (map f l) i (f y)
map_set f [] i y = refl
map_set f (x ∷ xs) zero y = refl
map_set {B = B} f (x ∷ xs) (suc i) y = ap (λ (r : List B). f x ∷ r) (map_set f xs i y)

nothing_laid : (before : List ℕ) → laid [] before ≡ before
unfolding laid
nothing_laid before = refl

put_is : (records : List Watch) (watches : List ℕ) (i : ℕ) → i ≤ length watches → i ≤ length records
    → watched (put_in records watches i) ≡ laid (take i watches) (watched records)
unfolding watched put_in
put_is records watches zero h k = sym (nothing_laid (watched records))
put_is records watches (suc i) h k =
    let len : length (take i watches) ≡ i = length-take-le i watches (omega arith) in
    let many : length (map record_number records) ≡ length records = length-map records record_number in
    let more = laid_more (take i watches) (map record_number records) (get_or watches i 0) (omega arith) in
    rw (map_set record_number (put_in records watches i) i (record_at (get_or watches i 0)), made_up (get_or watches i 0), put_is records watches i (omega arith) (omega arith), take-suc watches i 0 h) (rw len at more)

-- as much of a list as there is room for, laid over another
laid_least : (l before : List ℕ) → laid (take (min (length l) (length before)) l) before ≡ take (length before) (laid l before)
unfolding laid
laid_least l before = go (dec_le (length l) (length before))
  where
    go : Dec (length l ≤ length before)
        → take (min (length l) (length before)) l ++ drop (length (take (min (length l) (length before)) l)) before ≡ take (length before) (l ++ drop (length l) before)
    go (yes h) =
        let e : min (length l) (length before) ≡ length l = omega arith in
        let bounded : length (l ++ drop (length l) before) ≤ length before = simp (length-append, length-drop) (omega arith) in
        rw (e, take-length l, take_all (length before) (l ++ drop (length l) before) bounded)
    go (no h) =
        let e : min (length l) (length before) ≡ length before = omega arith in
        let fits : length before ≤ length l = omega arith in
        rw (e, length-take-le (length before) l fits, drop-length before, append-nil, take-append-le (length before) l (drop (length l) before) fits)

-- what storing comes to
pub all_put : (records : List Watch) (watches : List ℕ) → length watches ≡ 8 → watched (put_in records watches (min 8 (length records))) ≡ stored watches (watched records)
unfolding watched stored
all_put records watches e =
    put_is records watches (min 8 (length records)) (omega arith) (omega arith)
    ∙ ap (λ (k : ℕ). laid (take (min 8 k) watches) (map record_number records)) (sym (length-map records record_number))
    ∙ rw e at (laid_least watches (map record_number records))
