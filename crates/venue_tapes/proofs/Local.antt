-- What a tape has next depends on at most thirty bytes from its place, and on whether fewer are left.
use mathlib.Core.Path.{◌≡◌, refl, sym, ap, ◌∙◌}
use mathlib.Core.Logic.{◌⊎◌, inl, inr}
use Prim.Native.Nat.{ℕ, ◌+◌, ◌≤◌, ◌<◌}
use native.Mathlib.Nat.{add-zero, add_assoc}
use native.Mathlib.Omega.{arith}
use mathlib.Core.Bool.{Bool, true, false, cond}
use mathlib.Core.List.{List}
use lib.Dec.{ltb, leb, eqb}
use lib.ListN.{length, get_or, take, drop, length-drop, length-take}
use lib.Seq.{get_or-drop, get_or-take, drop-drop, drop_at, take-add, take_all, length-take-le}
use borrow.Author.Tests.{lt-ltb, le-ltb, ltb-true, leb-true, leb-false, eq-eqb, ne_eqb, eqb-true, eqb-false}
use Rattle.lists.proofs.Booleans.{either, agree}
use Rattle.octets.specs.Bytes.{number2, number4}
use Rattle.frame_kinds.specs.declared.Shape.{Shape}
use Rattle.frame_kinds.specs.Kinds.{stamp_kind, shape_of, body_length}
use Rattle.frame_kinds.proofs.Shapes.{kind_known, known_body}
use Rattle.frames.specs.declared.Message.{Message}
use Rattle.frames.specs.Frames.{message_by, message_at, told, ended, refused, stays, read_at}
use Rattle.frames.proofs.Reading.{message_drop}
use Rattle.venue_tapes.specs.VenueTapes.{Sort, quote, stamp, stray, at_end, unread, sort_by, sort_said, sort_of, pair, refuses, out_of_order}
use Rattle.venue_tapes.specs.VenueTapes.{alone, after_stamp, ahead_by, next, further}
use Rattle.venue_tapes.proofs.Pairs.{Stamped, stamped}

-- ---- what stands at a place, with more bytes before it

sort_further : ℕ → Sort → Sort
sort_further n (quote behind) = quote (n + behind)
sort_further n (stamp ms behind) = stamp ms (n + behind)
sort_further n stray = stray
sort_further n at_end = at_end
sort_further n (unread k) = unread k

by_further : (n : ℕ) (m : Message) (behind : ℕ) → sort_by m (n + behind) ≡ sort_further n (sort_by m behind)
unfolding sort_by sort_further
by_further n (Message.Quote k) behind = refl
by_further n (Message.Sized k x) behind = refl
by_further n (Message.Change k x p) behind = refl
by_further n (Message.Pair k x y) behind = refl
by_further n (Message.Bare k) behind = refl
by_further n (Message.Position k ms) behind = go (eqb k stamp_kind)
  where
    go : (b : Bool) → cond b (stamp ms (n + behind)) stray ≡ sort_further n (cond b (stamp ms behind) stray)
    go true = refl
    go false = refl
by_further n (Message.Open d N directions) behind = refl
by_further n Message.EndOfTape behind = refl
by_further n (Message.Refused k) behind = refl

module _ (tape : List ℕ) (n i : ℕ) (h : n ≤ length tape) where
  abbrev rest : List ℕ
  rest = drop n tape

  abbrev kind : ℕ
  kind = get_or rest i 0

  less : (x : ℕ) → ltb (length tape) (n + x) ≡ ltb (length rest) x
  less x =
      agree (ltb (length tape) (n + x)) (ltb (length (drop n tape)) x)
      (λ t. lt-ltb (length (drop n tape)) x (omega (arith, length-drop n tape, ltb-true (length tape) (n + x) t)))
      (λ t. lt-ltb (length tape) (n + x) (omega (arith, length-drop n tape, ltb-true (length (drop n tape)) x t)))

  same : eqb (n + i) (length tape) ≡ eqb i (length rest)
  same =
      agree (eqb (n + i) (length tape)) (eqb i (length (drop n tape)))
      (λ t. eq-eqb i (length (drop n tape)) (omega (arith, length-drop n tape, eqb-true (n + i) (length tape) t)))
      (λ t. eq-eqb (n + i) (length tape) (omega (arith, length-drop n tape, eqb-true i (length (drop n tape)) t)))

  said : message_at tape (n + i + 1) kind ≡ message_at rest (i + 1) kind
  said =
      message_drop tape (n + i + 1) kind
      ∙ ap (λ (l : List ℕ). message_at l 0 kind) (ap (λ (x : ℕ). drop x tape) (add_assoc n i 1) ∙ sym (drop-drop (i + 1) n tape))
      ∙ sym (message_drop (drop n tape) (i + 1) kind)

  -- the tests of reading, one by one
  tests : (m : Message) (x : ℕ) (a b c d : Bool) (cs ds : List ℕ)
      → sort_of
      (cond a (stays (refused 2) (n + i))
      (cond b (stays ended (n + i))
      (cond c (stays (refused 1) (n + i))
      (cond d (stays (refused 2) (n + i)) (record { says = told m; columns = cs; next = n + x })))))
      ≡ sort_further n
      (sort_of
      (cond a (stays (refused 2) i)
      (cond b (stays ended i)
      (cond c (stays (refused 1) i)
      (cond d (stays (refused 2) i) (record { says = told m; columns = ds; next = x }))))))
  unfolding sort_of sort_said stays sort_further
  tests m x true b c d cs ds = refl
  tests m x false true c d cs ds = refl
  tests m x false false true d cs ds = refl
  tests m x false false false true cs ds = refl
  tests m x false false false false cs ds = by_further n m x

  -- what stands at a place is what stands in the rest of the tape
  sort_drop : sort_of (read_at tape (n + i)) ≡ sort_further n (sort_of (read_at rest i))
  unfolding read_at
  sort_drop =
      let there : get_or tape (n + i) 0 ≡ kind = sym (get_or-drop n tape i 0) in
      let behind : n + i + 1 + body_length kind ≡ n + (i + 1 + body_length kind) = omega arith in
      rw (there, less i, same, behind, less (i + 1 + body_length kind), said)
      (tests (message_at rest (i + 1) kind) (i + 1 + body_length kind) (ltb (length rest) i) (eqb i (length rest)) (eqb (body_length kind) 255) (ltb (length rest) (i + 1 + body_length kind)) _ _)

-- ---- what stands at the front, with fewer bytes behind it

module _ (l : List ℕ) (n : ℕ) (h : 25 ≤ n) where
  kept : (i : ℕ) → i < 25 → get_or (take n l) i 0 ≡ get_or l i 0
  kept i b = get_or-take n l i 0 (omega arith)

  message_near : (kind : ℕ) → message_at (take n l) 1 kind ≡ message_at l 1 kind
  unfolding message_at message_by number2 number4
  message_near kind = go (shape_of kind)
    where
      go : (shape : Shape) → message_by shape (take n l) 1 kind ≡ message_by shape l 1 kind
      go Shape.Columns = refl
      go Shape.Size = rw (kept 1 (omega arith), kept 2 (omega arith))
      go Shape.SizePosition =
          rw (kept 1 (omega arith), kept 2 (omega arith), kept 3 (omega arith), kept 4 (omega arith), kept 5 (omega arith), kept 6 (omega arith))
      go Shape.SizePair = rw (kept 1 (omega arith), kept 2 (omega arith), kept 3 (omega arith), kept 4 (omega arith))
      go Shape.Bare = refl
      go Shape.Position = rw (kept 1 (omega arith), kept 2 (omega arith), kept 3 (omega arith), kept 4 (omega arith))
      go Shape.Settings = rw (kept 1 (omega arith), kept 2 (omega arith), kept 3 (omega arith), kept 4 (omega arith))
      go Shape.Unknown = refl

  -- the last tests of reading
  tests_near : (kind : ℕ) (c : Bool) → eqb (body_length kind) 255 ≡ c → n < length l → (cs ds : List ℕ)
      → sort_of (cond c (stays (refused 1) 0) (cond (ltb n (0 + 1 + body_length kind)) (stays (refused 2) 0) (record { says = told (message_at l 1 kind); columns = cs; next = 0 + 1 + body_length kind })))
      ≡ sort_of (cond c (stays (refused 1) 0) (cond (ltb (length l) (0 + 1 + body_length kind)) (stays (refused 2) 0) (record { says = told (message_at l 1 kind); columns = ds; next = 0 + 1 + body_length kind })))
  unfolding sort_of sort_said
  tests_near kind true e long cs ds = refl
  tests_near kind false e long cs ds =
      let small = known_body kind (kind_known kind (eqb-false (body_length kind) 255 e)) in
      rw (le-ltb n (0 + 1 + body_length kind) (omega arith), le-ltb (length l) (0 + 1 + body_length kind) (omega arith))

  -- a frame has at most 25 bytes
  sort_near : sort_of (read_at (take n l) 0) ≡ sort_of (read_at l 0)
  unfolding read_at
  sort_near = split (either (leb (length l) n))
    where
      kind : ℕ
      kind = get_or l 0 0

      split : (leb (length l) n ≡ true) ⊎ (leb (length l) n ≡ false) → sort_of (read_at (take n l) 0) ≡ sort_of (read_at l 0)
      split (inl t) = rw (take_all n l (leb-true (length l) n t))
      split (inr t) =
          let long : n < length l = leb-false (length l) n t in
          rw (
            length-take-le n l (omega arith),
            kept 0 (omega arith),
            message_near kind,
            le-ltb n 0 (omega arith),
            ne_eqb 0 n (λ e. omega arith),
            le-ltb (length l) 0 (omega arith),
            ne_eqb 0 (length l) (λ e. omega arith),
          ) (tests_near kind (eqb (body_length kind) 255) refl long _ _)

-- ---- what a tape has next

after_further : (n last ms : ℕ) (s : Sort) → after_stamp last ms (sort_further n s) ≡ further n (after_stamp last ms s)
unfolding after_stamp sort_further further alone
after_further n last ms s = go s (out_of_order last ms)
  where
    lone : (b : Bool) → cond b (refuses 15) (refuses 16) ≡ further n (cond b (refuses 15) (refuses 16))
    lone true = refl
    lone false = refl

    two : (b : Bool) (behind : ℕ) → cond b (refuses 15) (pair ms (n + behind)) ≡ further n (cond b (refuses 15) (pair ms behind))
    two true behind = refl
    two false behind = refl

    go : (s : Sort) (b : Bool) → after_stamp last ms (sort_further n s) ≡ further n (after_stamp last ms s)
    go (quote behind) b = two (out_of_order last ms) behind
    go (stamp x behind) b = lone (out_of_order last ms)
    go stray b = refl
    go at_end b = lone (out_of_order last ms)
    go (unread k) b = refl

-- the frame behind a stamp stands within the first thirty bytes
behind_near : (l : List ℕ) → 5 ≤ length l → sort_of (read_at (take 30 l) 5) ≡ sort_of (read_at l 5)
behind_near l h =
    let long : 5 ≤ length (take 30 l) = simp length-take (omega arith) in
    let cut : drop 5 (take 30 l) ≡ take 25 (drop 5 l) = ap (drop 5) (take-add 5 25 l) ∙ drop_at (take 5 l) (take 25 (drop 5 l)) 5 (length-take-le 5 l h) in
    sort_drop (take 30 l) 5 0 long
    ∙ ap (λ (x : List ℕ). sort_further 5 (sort_of (read_at x 0))) cut
    ∙ ap (sort_further 5) (sort_near (drop 5 l) 25 (omega arith))
    ∙ sym (sort_drop l 5 0 h)

-- what is judged depends on at most thirty bytes from the place, fewer where fewer are left
pub next_local : (tape : List ℕ) (place last : ℕ) → place ≤ length tape → next tape place last ≡ further place (next (take 30 (drop place tape)) 0 last)
unfolding next ahead_by further sort_further
next_local tape place last h =
    ap (ahead_by tape last) (ap (λ (x : ℕ). sort_of (read_at tape x)) (sym (add-zero place)) ∙ sort_drop tape place 0 h)
    ∙ go (sort_of (read_at l 0)) refl
    ∙ ap (λ (s : Sort). further place (ahead_by (take 30 l) last s)) (sym (sort_near l 30 (omega arith)))
  where
    l : List ℕ
    l = drop place tape

    behind : {ms middle : ℕ} → Stamped l 0 ms middle
        → after_stamp last ms (sort_of (read_at tape (place + middle))) ≡ further place (after_stamp last ms (sort_of (read_at (take 30 l) middle)))
    behind {ms} {middle} t =
        let five : middle ≡ 5 = t.size in
        rw five
        (ap (after_stamp last ms) (sort_drop tape place 5 h)
        ∙ after_further place last ms (sort_of (read_at l 5))
        ∙ ap (λ (s : Sort). further place (after_stamp last ms s)) (sym (behind_near l (omega (arith, t.inside)))))

    go : (s : Sort) → sort_of (read_at l 0) ≡ s → ahead_by tape last (sort_further place s) ≡ further place (ahead_by (take 30 l) last s)
    go (quote x) e = refl
    go (stamp ms middle) e = behind (stamped l 0 e)
    go stray e = refl
    go at_end e = refl
    go (unread k) e = refl
