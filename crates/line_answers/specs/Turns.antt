-- A call of a tape made by the book model on what is lent: its number, its lines, and what it leaves.
use Rattle.std.specs.Prelude.{◌≡◌, ℕ, ◌+◌, ◌*◌, ◌/◌, List, [], ◌∷◌, ◌++◌, length, take, replicate}
use Rattle.lists.specs.Lists.{laid}
use Rattle.head.specs.declared.Head.{Head}
use Rattle.head.specs.Heads.{max_capacity}
use Rattle.refusals.specs.Refusals.{number_of, granted}
use Rattle.head.specs.declared.replies.Reply.{Reply}
use Rattle.head.specs.declared.replies.BothReply.{BothReply}
use Rattle.model.specs.Rows.{Tables}
use Rattle.model.specs.Changes.{change_length, change_room}
use Rattle.model.specs.Calls.{Call}
use Rattle.model.specs.Promises.{world}
use Rattle.text.specs.Text.{line}
use Rattle.line_changes.specs.Printed.{changes_text}
use Rattle.tape_model.specs.Print.{desk_line, refusal_line, text_of}
use Rattle.tape_model.specs.Play.{Player, book_make}
use Rattle.line_answers.specs.declared.DeskLine.{DeskLine}
use Rattle.line_answers.specs.declared.Turn.{Turn}

-- ---- lengths

-- how many bytes the line of so many numbers has at most: its letter, desk two's 2 and newline, and a space and ten digits for each
abbrev pub line_bytes : ℕ → ℕ
line_bytes numbers = 3 + 11 * numbers

-- how many bytes the lines of any frame have room in: the longest list, n1, n2 and 1,024 positions, and for every 7 bytes of changes a line
abbrev pub text_bytes : ℕ
text_bytes = line_bytes (max_capacity + 2) + line_bytes 2 * (change_room / change_length)

-- ---- the player

-- the player with this head, these tables and watches, these bytes for changes, and 1,024 cells of its own for positions
abbrev pub player : Head → Tables → List ℕ → List ℕ → Player
player h t ws bytes = record { world = world h t ws; outputs = record { bytes = bytes; cells = replicate max_capacity 0 } }

-- ---- lines

-- the line of an accepted call
abbrev pub line_of : DeskLine → List ℕ
line_of l = desk_line l.desk l.letter l.numbers.now

-- the line of an accepted call, or that of a refusal with this number
unfoldable pub answer_line : ℕ → List ℕ → List ℕ
answer_line number accepted = granted number accepted (refusal_line number)

-- the lines of an accepted quote and look in one, from what it handed back, its bytes and its cells: those of the quote, and that of the look
abbrev pub both_text : ℕ → BothReply → List ℕ → List ℕ → List ℕ
both_text n r bytes cells =
    (line 81 (r.reply.head.newest ∷ r.reply.head.live ∷ []) ++ changes_text (take r.reply.count bytes)) ++ line 76 (n ∷ take r.listed cells)

-- what a frame comes to: its number (0: accepted), its lines, and the player after it
pub record Effect : Type 0 where
  pub number : ℕ
  pub text : List ℕ
  pub state : Player

-- a call of the book model
unfoldable pub made : Call → Player → Effect
made c k = let one = book_make c k in record { number = one.0.outcome.number; text = text_of c one.0; state = one.1 }

-- a quote and, directly behind it, a look: the lines of both, and what the look comes to
unfoldable pub made_two : List ℕ → ℕ → Player → Effect
made_two x n k =
    let one = made (Call.Quote x) k in
    let two = made (Call.Look n) one.state in
    record { number = two.number; text = one.text ++ two.text; state = two.state }

-- what is refused with this number before any call
unfoldable pub refused_with : ℕ → Player → Effect
refused_with number k = record { number = number; text = refusal_line number; state = k }

-- what a call with this reply leaves, whose lines have so many bytes
abbrev pub turn_of : Reply → List ℕ → ℕ → Turn
turn_of r ws count = record { answer = r.answer; count = count; head = r.head; watches = ws }

-- what is handed back after this, and left of tables, bytes and text
pub record Turned (one : Effect) (before : List ℕ) (r : Turn) (t' : Tables) (bytes' after : List ℕ) : Type 0 where
  pub answer : number_of r.answer ≡ one.number
  pub count : r.count ≡ length one.text
  pub head : r.head ≡ one.state.world.head
  pub watches : r.watches ≡ one.state.world.lent.watches
  pub lent : t' ≡ one.state.world.lent.tables
  pub bytes : bytes' ≡ one.state.outputs.bytes
  pub text : after ≡ laid one.text before
