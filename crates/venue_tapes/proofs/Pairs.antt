-- A pair that a tape has next: a stamp and a quote behind it, both whole frames of the tape.
use mathlib.Core.Path.{◌≡◌, refl, ap, ◌∙◌}
use Prim.Native.Nat.{ℕ, ◌+◌, ◌*◌, ◌≤◌}
use native.Mathlib.Omega.{arith}
use mathlib.Core.Bool.{Bool, true, false, cond}
use mathlib.Core.List.{List}
use lib.Dec.{eqb}
use lib.ListN.{length, get_or}
use borrow.Author.Tests.{eqb-true}
use Rattle.lists.proofs.Booleans.{clash}
use Rattle.octets.specs.Bytes.{number4}
use Rattle.frame_kinds.specs.declared.Shape.{Shape}
use Rattle.frame_kinds.specs.Kinds.{stamp_kind, shape_of, body_length}
use Rattle.frame_kinds.proofs.Shapes.{quote_kinds, quote_body}
use Rattle.frames.specs.declared.Message.{Message}
use Rattle.frames.specs.declared.Message.TheVariants.{Quote, Position}
use Rattle.frames.specs.Frames.{message_by, message_at, columns_at, told, Reading, stays, read_at}
use Rattle.frames.proofs.Reading.{Found, beyond, at_end_lem, unknown, cut, whole, found}
use Rattle.venue_tapes.specs.VenueTapes.{Sort, quote, stamp, stray, at_end, unread, sort_by, sort_said, sort_of, pair, done, refuses}
use Rattle.venue_tapes.specs.VenueTapes.{out_of_order, alone, after_stamp, ahead_by, next}
use Rattle.venue_tapes.proofs.Glimpses.{stamp_body}

-- a stamp stands whole at a place
pub record Stamped (tape : List ℕ) (place ms behind : ℕ) : Type 0 where
  pub says : (read_at tape place).says ≡ told (Position stamp_kind ms)
  pub next : (read_at tape place).next ≡ behind
  pub size : behind ≡ place + 5
  pub inside : behind ≤ length tape

-- a quote stands whole at a place
pub record Quoted (tape : List ℕ) (place behind : ℕ) : Type 0 where
  pub count : ℕ
  pub some : 1 ≤ count
  pub bounded : count ≤ 6
  pub says : (read_at tape place).says ≡ told (Quote count)
  pub columns : (read_at tape place).columns ≡ columns_at tape (place + 1) count
  pub next : (read_at tape place).next ≡ behind
  pub size : behind ≡ place + 1 + 4 * count
  pub inside : behind ≤ length tape

-- a frame is seen, and not that there is none
is_frame : Sort → Bool
is_frame (quote behind) = true
is_frame (stamp ms behind) = true
is_frame stray = true
is_frame at_end = false
is_frame (unread k) = false

told_frame : (m : Message) (behind : ℕ) → is_frame (sort_by m behind) ≡ true
unfolding sort_by is_frame
told_frame (Message.Quote k) behind = refl
told_frame (Message.Sized k n) behind = refl
told_frame (Message.Change k n p) behind = refl
told_frame (Message.Pair k n1 n2) behind = refl
told_frame (Message.Bare k) behind = refl
told_frame (Message.Position k ms) behind = go (eqb k stamp_kind)
  where
    go : (b : Bool) → is_frame (cond b (stamp ms behind) stray) ≡ true
    go true = refl
    go false = refl
told_frame (Message.Open d N directions) behind = refl
told_frame Message.EndOfTape behind = refl
told_frame (Message.Refused k) behind = refl

module _ (tape : List ℕ) (place : ℕ) where
  kind : ℕ
  kind = get_or tape place 0

  message : Shape → Message
  message shape = message_by shape tape (place + 1) kind

  -- where a stamp is seen, one stands whole
  pub stamped : {ms behind : ℕ} → sort_of (read_at tape place) ≡ stamp ms behind → Stamped tape place ms behind
  unfolding sort_of sort_said sort_by stays message_at message_by kind message
  stamped {ms} {behind} h = go (read_at tape place) (found tape place) refl h
    where
      by_kind : (b : Bool) {x n : ℕ} → cond b (stamp x n) stray ≡ stamp ms behind → (b ≡ true) × (x ≡ ms) × (n ≡ behind)
      by_kind true e = (refl, cc, cc)
      by_kind false e = cc

      by_shape : (shape : Shape) {next : ℕ} → sort_by (message shape) next ≡ stamp ms behind
          → (kind ≡ stamp_kind) × (message shape ≡ Position stamp_kind ms) × (next ≡ behind)
      by_shape Shape.Columns e = cc
      by_shape Shape.Size e = cc
      by_shape Shape.SizePosition e = cc
      by_shape Shape.SizePair e = cc
      by_shape Shape.Bare e = cc
      by_shape Shape.Position e =
          let r = by_kind (eqb kind stamp_kind) e in
          let k : kind ≡ stamp_kind = eqb-true kind stamp_kind r.0 in
          (k, rw (k, r.1), r.2)
      by_shape Shape.Settings e = cc
      by_shape Shape.Unknown e = cc

      go : (read : Reading) → Found tape place read → read_at tape place ≡ read → sort_of read ≡ stamp ms behind → Stamped tape place ms behind
      go _ (beyond t) e s = cc
      go _ (at_end_lem t) e s = cc
      go _ unknown e s = cc
      go _ cut e s = cc
      go _ (whole k t) e s =
          let r = by_shape (shape_of kind) s in
          let five : body_length kind ≡ 4 = ap body_length r.0 ∙ stamp_body in
          record {
            says = ap (λ (g : Reading). g.says) e ∙ ap told r.1;
            next = ap (λ (g : Reading). g.next) e ∙ r.2;
            size = omega (arith, r.2);
            inside = omega (arith, r.2);
          }

  -- where a quote is seen, one stands whole
  pub quoted : {behind : ℕ} → sort_of (read_at tape place) ≡ quote behind → Quoted tape place behind
  unfolding sort_of sort_said sort_by stays message_at message_by kind message
  quoted {behind} h = go (read_at tape place) (found tape place) refl h
    where
      by_kind : (b : Bool) (x n : ℕ) → cond b (stamp x n) stray ≡ quote behind → ⊥
      by_kind true x n e = cc
      by_kind false x n e = cc

      by_shape : (shape : Shape) {next : ℕ} → sort_by (message shape) next ≡ quote behind → (shape ≡ Shape.Columns) × (next ≡ behind)
      by_shape Shape.Columns e = (refl, cc)
      by_shape Shape.Size e = cc
      by_shape Shape.SizePosition e = cc
      by_shape Shape.SizePair e = cc
      by_shape Shape.Bare e = cc
      by_shape Shape.Position {next} e = absurd (by_kind (eqb kind stamp_kind) (number4 tape (place + 1)) next e)
      by_shape Shape.Settings e = cc
      by_shape Shape.Unknown e = cc

      go : (read : Reading) → Found tape place read → read_at tape place ≡ read → sort_of read ≡ quote behind → Quoted tape place behind
      go _ (beyond t) e s = cc
      go _ (at_end_lem t) e s = cc
      go _ unknown e s = cc
      go _ cut e s = cc
      go _ (whole k t) e s =
          let r = by_shape (shape_of kind) s in
          let b = quote_kinds kind r.0 in
          let size : body_length kind ≡ 4 * kind = quote_body kind b.0 b.1 in
          record {
            count = kind;
            some = b.0;
            bounded = b.1;
            says = ap (λ (g : Reading). g.says) e ∙ ap (λ s. told (message s)) r.0;
            columns = ap (λ (g : Reading). g.columns) e;
            next = ap (λ (g : Reading). g.next) e ∙ r.1;
            size = omega (arith, r.1);
            inside = omega (arith, r.1);
          }

  -- the end is seen at the end alone
  end_seen : sort_of (read_at tape place) ≡ at_end → place ≡ length tape
  unfolding sort_of sort_said stays is_frame
  end_seen h = go (read_at tape place) (found tape place) h
    where
      go : (read : Reading) → Found tape place read → sort_of read ≡ at_end → place ≡ length tape
      go _ (beyond t) e = cc
      go _ (at_end_lem t) e = t
      go _ unknown e = cc
      go _ cut e = cc
      go _ (whole k t) e = absurd (clash false (rw e at (told_frame (message_at tape (place + 1) (get_or tape place 0)) (place + 1 + body_length (get_or tape place 0)))) refl)

  -- what cannot be read is 1 or 2
  unread_range : {k : ℕ} → sort_of (read_at tape place) ≡ unread k → (1 ≤ k) × (k ≤ 2)
  unfolding sort_of sort_said stays is_frame
  unread_range {k} h = go (read_at tape place) (found tape place) h
    where
      of : (n : ℕ) → unread n ≡ unread k → 1 ≤ n → n ≤ 2 → (1 ≤ k) × (k ≤ 2)
      of n e low high = let same : n ≡ k = cc in (omega arith, omega arith)

      go : (read : Reading) → Found tape place read → sort_of read ≡ unread k → (1 ≤ k) × (k ≤ 2)
      go _ (beyond t) e = of 2 e (omega arith) (omega arith)
      go _ (at_end_lem t) e = cc
      go _ unknown e = of 1 e (omega arith) (omega arith)
      go _ cut e = of 2 e (omega arith) (omega arith)
      go _ (whole x t) e = absurd (clash false (rw e at (told_frame (message_at tape (place + 1) (get_or tape place 0)) (place + 1 + body_length (get_or tape place 0)))) refl)

-- ---- a pair

-- a stamp in order, and a quote directly behind it
pub record IsPair (tape : List ℕ) (place last ms behind : ℕ) : Type 0 where
  pub middle : ℕ
  pub stamped : Stamped tape place ms middle
  pub quoted : Quoted tape middle behind
  pub ordered : out_of_order last ms ≡ false

-- where a tape has a pair next, it is one
pub is_pair : (tape : List ℕ) (place last : ℕ) {ms behind : ℕ} → next tape place last ≡ pair ms behind → IsPair tape place last ms behind
unfolding next ahead_by after_stamp alone
is_pair tape place last {ms} {behind} h = go (sort_of (read_at tape place)) refl h
  where
    lone : (b : Bool) → cond b (refuses 15) (refuses 16) ≡ pair ms behind → ⊥
    lone true e = cc
    lone false e = cc

    in_order : (b : Bool) {x n : ℕ} → cond b (refuses 15) (pair x n) ≡ pair ms behind → (b ≡ false) × (x ≡ ms) × (n ≡ behind)
    in_order true e = cc
    in_order false e = (refl, cc, cc)

    after : {x middle : ℕ} → Stamped tape place x middle → (s : Sort) → sort_of (read_at tape middle) ≡ s → after_stamp last x s ≡ pair ms behind
        → IsPair tape place last ms behind
    after {x} {middle} st (quote n) q e =
        let r = in_order (out_of_order last x) e in
        record {
          middle = middle;
          stamped = rw (← r.1) st;
          quoted = quoted tape middle (q ∙ ap quote r.2);
          ordered = rw r.1 at r.0;
        }
    after {x} st (stamp y n) q e = absurd (lone (out_of_order last x) e)
    after st stray q e = cc
    after {x} st at_end q e = absurd (lone (out_of_order last x) e)
    after st (unread k) q e = cc

    go : (s : Sort) → sort_of (read_at tape place) ≡ s → ahead_by tape last s ≡ pair ms behind → IsPair tape place last ms behind
    go (quote n) q e = cc
    go (stamp x middle) q e = after (stamped tape place q) (sort_of (read_at tape middle)) refl e
    go stray q e = cc
    go at_end q e = cc
    go (unread k) q e = cc

-- a pair has at least ten bytes, at most thirty, and lies within the tape
pub pair_size : {tape : List ℕ} {place last ms behind : ℕ} → IsPair tape place last ms behind
    → (place + 10 ≤ behind) × (behind ≤ place + 30) × (behind ≤ length tape)
pair_size p =
    let s = p.stamped in
    let q = p.quoted in
    (omega (arith, s.size, q.size, q.some), omega (arith, s.size, q.size, q.bounded), q.inside)

-- ---- the end, and the numbers of the refusals

-- a tape is done at its end alone
pub done_at_end : (tape : List ℕ) (place last : ℕ) → next tape place last ≡ done → place ≡ length tape
unfolding next ahead_by after_stamp alone
done_at_end tape place last h = go (sort_of (read_at tape place)) refl h
  where
    lone : (b : Bool) → cond b (refuses 15) (refuses 16) ≡ done → ⊥
    lone true e = cc
    lone false e = cc

    two : (b : Bool) (x n : ℕ) → cond b (refuses 15) (pair x n) ≡ done → ⊥
    two true x n e = cc
    two false x n e = cc

    after : (x : ℕ) (s : Sort) → after_stamp last x s ≡ done → ⊥
    after x (quote n) e = two (out_of_order last x) x n e
    after x (stamp y n) e = lone (out_of_order last x) e
    after x stray e = cc
    after x at_end e = lone (out_of_order last x) e
    after x (unread k) e = cc

    go : (s : Sort) → sort_of (read_at tape place) ≡ s → ahead_by tape last s ≡ done → place ≡ length tape
    go (quote n) q e = cc
    go (stamp x middle) q e = absurd (after x (sort_of (read_at tape middle)) e)
    go stray q e = cc
    go at_end q e = end_seen tape place q
    go (unread k) q e = cc

-- each refusal has a number from 1 to 16
pub refusal_range : (tape : List ℕ) (place last : ℕ) {k : ℕ} → next tape place last ≡ refuses k → (1 ≤ k) × (k ≤ 16)
unfolding next ahead_by after_stamp alone
refusal_range tape place last {k} h = go (sort_of (read_at tape place)) refl h
  where
    of : (n : ℕ) → refuses n ≡ refuses k → 1 ≤ n → n ≤ 16 → (1 ≤ k) × (k ≤ 16)
    of n e low high = let same : n ≡ k = cc in (omega arith, omega arith)

    lone : (b : Bool) → cond b (refuses 15) (refuses 16) ≡ refuses k → (1 ≤ k) × (k ≤ 16)
    lone true e = of 15 e (omega arith) (omega arith)
    lone false e = of 16 e (omega arith) (omega arith)

    two : (b : Bool) (x n : ℕ) → cond b (refuses 15) (pair x n) ≡ refuses k → (1 ≤ k) × (k ≤ 16)
    two true x n e = of 15 e (omega arith) (omega arith)
    two false x n e = cc

    unreadable : (at n : ℕ) → sort_of (read_at tape at) ≡ unread n → refuses n ≡ refuses k → (1 ≤ k) × (k ≤ 16)
    unreadable at n q e = let r = unread_range tape at q in of n e r.0 (omega (arith, r.1))

    after : (x middle : ℕ) (s : Sort) → sort_of (read_at tape middle) ≡ s → after_stamp last x s ≡ refuses k → (1 ≤ k) × (k ≤ 16)
    after x middle (quote n) q e = two (out_of_order last x) x n e
    after x middle (stamp y n) q e = lone (out_of_order last x) e
    after x middle stray q e = of 7 e (omega arith) (omega arith)
    after x middle at_end q e = lone (out_of_order last x) e
    after x middle (unread n) q e = unreadable middle n q e

    go : (s : Sort) → sort_of (read_at tape place) ≡ s → ahead_by tape last s ≡ refuses k → (1 ≤ k) × (k ≤ 16)
    go (quote n) q e = of 16 e (omega arith) (omega arith)
    go (stamp x middle) q e = after x middle (sort_of (read_at tape middle)) refl e
    go stray q e = of 7 e (omega arith) (omega arith)
    go at_end q e = cc
    go (unread n) q e = unreadable place n q e
