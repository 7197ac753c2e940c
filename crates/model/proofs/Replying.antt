-- From a call's own answer to the model's: what it hands back and leaves where it is refused, and where it is accepted.
use mathlib.Core.Path.{◌≡◌}
use Prim.Native.Nat.{ℕ}
use Rattle.head.specs.declared.Head.{Head}
use Rattle.refusals.specs.declared.Refusal.{Refusal}
use Rattle.std.specs.Prelude.{Result, Ok, Err}
use Rattle.refusals.specs.Refusals.{number_of, granted}
use Rattle.head.specs.Replies.{outcome}
use Rattle.refusals.proofs.Numbers.{accepted_number, refused_number, refused_granted}
use Rattle.model.specs.Book.{reply_of}

module _ {a : Result (Unit {0}) Refusal} {answer : ℕ} (e : number_of a ≡ answer) where
  module _ {k : Refusal} (f : a ≡ Err k) where
    -- a refused call hands back the head as it came and a count of 0
    pub refused_reply : (h next : Head) (count : ℕ) → outcome (record { answer = a; head = h; count = 0 }) ≡ reply_of answer h next count
    unfolding reply_of
    refused_reply h next count = rw (e, refused_number a k e f, refused_granted k next h, refused_granted k count 0)

    -- and leaves what was lent as it was
    pub refused_left : {A : Type 0} (x y : A) → x ≡ granted answer y x
    refused_left x y = rw (refused_number a k e f, refused_granted k y x)

  module _ (f : a ≡ Ok tt) where
    -- an accepted call hands back the next head and its count
    pub accepted_reply_lem : (h : Head) {next head : Head} {count n : ℕ} → head ≡ next → n ≡ count
        → outcome (record { answer = a; head = head; count = n }) ≡ reply_of answer h next count
    unfolding reply_of granted
    accepted_reply_lem h d c = rw (e, accepted_number a e f, d, c)

    -- and leaves what it says
    pub accepted_left : {A : Type 0} (x : A) {y z : A} → z ≡ y → z ≡ granted answer y x
    unfolding granted
    accepted_left x g = rw (accepted_number a e f) g
