-- What the answers of the calls say, by 01's numbers and values: one definition for each enum that is an answer.
use Rattle.std.specs.Prelude.{ℕ, Bool, true, false, Result, Ok, Err}
use Rattle.head.specs.declared.Head.{Head}
use Rattle.head.specs.declared.replies.Reply.{Reply}
use Rattle.refusals.specs.declared.Refusal.{Refusal}
use Rattle.refusals.specs.Refusals.{number, number_of}

-- what a call hands back: 0 or the number of its refusal, the head, and the count
pub record Outcome : Type 0 where
  pub number : ℕ
  pub head : Head
  pub count : ℕ

-- what a reply says
abbrev pub outcome : Reply → Outcome
outcome r = record { number = number_of r.answer; head = r.head; count = r.count }

-- what an audit can say: yes, no, or the number of a refusal
pub data Finding : Type 0 where
  yes : Finding
  no : Finding
  refused : ℕ → Finding

-- what a verdict says
abbrev pub finding : Result Bool Refusal → Finding
finding (Ok true) = yes
finding (Ok false) = no
finding (Err k) = refused (number k)

-- the reply of a call that is refused: the head that it hands back, and a count of 0
abbrev pub refusing : Refusal → Head → Reply
refusing k h = record { answer = Err k; head = h; count = 0 }

-- the reply of a call that is accepted
abbrev pub accepting : Head → ℕ → Reply
accepting h n = record { answer = Ok tt; head = h; count = n }
