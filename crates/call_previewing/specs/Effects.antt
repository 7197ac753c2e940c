-- What a preview tells of a quote's reply.
use Rattle.head.specs.declared.Head.{Head}
use Rattle.head.specs.declared.replies.Reply.{Reply}
use Rattle.head.specs.declared.replies.Effect.{Effect}

-- the reply's answer and count with head h, and the live and the held rows of the reply's own head
abbrev pub effect_of : Head → Reply → Effect
effect_of h r = record { reply = record { answer = r.answer; head = h; count = r.count }; live = r.head.live; held = r.head.held }
