-- The turns, which call each other: the quotes in hand grow fewer, and each loop tries one of them after another.
use Rattle.std.proofs.Common.{◌+◌, ◌*◌}
use Rattle.drill_turns.proofs.Turning.{Trying, Facing}
use Rattle.drill_turns.proofs.game.Game.+turns.Given as goal

abbrev pub decreases-first_turn : goal.decreases-first_turn
decreases-first_turn l = 2 * (l.play.first.count + l.play.second.count)

abbrev pub decreases-second_turn : goal.decreases-second_turn
decreases-second_turn l = 2 * (l.play.first.count + l.play.second.count)

abbrev pub decreases-wins : goal.decreases-wins
decreases-wins l = 2 * (l.play.first.count + l.play.second.count) + 1

abbrev pub invariant-first_turn-loop-i : goal.invariant-first_turn-loop-i
invariant-first_turn-loop-i l = Trying l.self.quotes.now l.self.rules l.play l.i

abbrev pub invariant-second_turn-loop-i : goal.invariant-second_turn-loop-i
invariant-second_turn-loop-i l = Facing l.self.quotes.now l.self.rules l.play l.i
