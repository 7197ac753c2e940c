-- 01's tape and its print as 02 has it (5/13), and those of a tape with past looks (02, 1/13), of one with a pair (02, 2/13) and of one with
-- two desks (02, 6/13).
use Rattle.std.specs.Prelude.{ℕ, ◌+◌, List, [], ◌∷◌, ◌++◌, map}
use Rattle.lists.specs.Lists.{flat}
use Rattle.frames.specs.declared.Message.TheVariants.{Open, Quote, Sized, Pair, Bare}
use Rattle.frame_kinds.specs.Kinds.{look_kind, watch_kind, unwatch_kind, watch_two_kind, unwatch_two_kind, pair_kind, unpair_kind, past_kind}
use Rattle.frames.specs.Frames.{frame}

-- the frame of a quote of two columns
abbrev two : ℕ → ℕ → List ℕ
two a b = frame (Quote 2) (a ∷ b ∷ [])

-- 01's tape
abbrev pub worked_tape : List ℕ
worked_tape =
    flat (frame (Open 2 5 0) [] ∷ two 5 5 ∷ two 3 8 ∷ two 4 4 ∷ two 7 2 ∷ two 4 4 ∷ frame (Sized watch_kind 2) [] ∷ two 6 6 ∷ frame (Sized look_kind 5) [] ∷ two 2 9 ∷ two 4 3 ∷ frame (Sized look_kind 3) [] ∷ [])

-- a line of numbers of one digit each
abbrev plain : ℕ → List ℕ → List ℕ
plain letter numbers = letter ∷ (flat (map (λ n. 32 ∷ (48 + n) ∷ []) numbers) ++ (10 ∷ []))

-- its print
abbrev pub worked_text : List ℕ
worked_text = flat (
    plain 79 (2 ∷ 5 ∷ 0 ∷ [])
    ∷ plain 81 (1 ∷ 1 ∷ [])
    ∷ plain 81 (2 ∷ 2 ∷ [])
    ∷ plain 81 (3 ∷ 2 ∷ [])
    ∷ plain 81 (4 ∷ 3 ∷ [])
    ∷ plain 81 (5 ∷ 3 ∷ [])
    ∷ plain 87 (2 ∷ [])
    ∷ plain 43 (2 ∷ 4 ∷ [])
    ∷ plain 43 (2 ∷ 5 ∷ [])
    ∷ plain 81 (6 ∷ 4 ∷ [])
    ∷ plain 45 (2 ∷ 4 ∷ [])
    ∷ plain 76 (5 ∷ 2 ∷ 4 ∷ 5 ∷ [])
    ∷ plain 81 (7 ∷ 4 ∷ [])
    ∷ plain 45 (2 ∷ 5 ∷ [])
    ∷ plain 43 (2 ∷ 6 ∷ [])
    ∷ plain 43 (2 ∷ 7 ∷ [])
    ∷ plain 81 (8 ∷ 3 ∷ [])
    ∷ plain 45 (2 ∷ 6 ∷ [])
    ∷ plain 43 (2 ∷ 8 ∷ [])
    ∷ plain 76 (3 ∷ 7 ∷ 8 ∷ [])
    ∷ [])

-- the frame of a past look
abbrev past : ℕ → ℕ → List ℕ
past n1 n2 = frame (Pair past_kind n1 n2) []

-- a tape with past looks
abbrev pub past_tape : List ℕ
past_tape =
    flat (frame (Open 2 5 0) [] ∷ two 5 5 ∷ two 3 8 ∷ two 4 4 ∷ past 3 3 ∷ past 2 3 ∷ two 7 2 ∷ two 4 4 ∷ two 6 6 ∷ past 1 3 ∷ past 2 3 ∷ past 3 5 ∷ two 2 9 ∷ two 4 3 ∷ past 1 5 ∷ past 2 5 ∷ past 2 2 ∷ past 5 5 ∷ frame (Sized look_kind 5) [] ∷ [])

-- and its print
abbrev pub past_text : List ℕ
past_text = flat (
    plain 79 (2 ∷ 5 ∷ 0 ∷ [])
    ∷ plain 81 (1 ∷ 1 ∷ [])
    ∷ plain 81 (2 ∷ 2 ∷ [])
    ∷ plain 81 (3 ∷ 2 ∷ [])
    ∷ plain 80 (3 ∷ 3 ∷ 1 ∷ [])
    ∷ plain 80 (2 ∷ 3 ∷ 1 ∷ 2 ∷ [])
    ∷ plain 81 (4 ∷ 3 ∷ [])
    ∷ plain 81 (5 ∷ 3 ∷ [])
    ∷ plain 81 (6 ∷ 4 ∷ [])
    ∷ plain 80 (1 ∷ 3 ∷ 4 ∷ 5 ∷ [])
    ∷ plain 80 (2 ∷ 3 ∷ 4 ∷ 5 ∷ [])
    ∷ plain 80 (3 ∷ 5 ∷ 2 ∷ 3 ∷ 4 ∷ [])
    ∷ plain 81 (7 ∷ 4 ∷ [])
    ∷ plain 81 (8 ∷ 3 ∷ [])
    ∷ plain 80 (1 ∷ 5 ∷ 4 ∷ 7 ∷ 8 ∷ [])
    ∷ plain 80 (2 ∷ 5 ∷ 4 ∷ 5 ∷ 7 ∷ [])
    ∷ plain 80 (2 ∷ 2 ∷ 7 ∷ [])
    ∷ plain 80 (5 ∷ 5 ∷ 4 ∷ [])
    ∷ plain 76 (5 ∷ 4 ∷ 7 ∷ 8 ∷ [])
    ∷ [])

-- a tape with a pair, seven quotes and the pair's end
abbrev pub pair_tape : List ℕ
pair_tape =
    flat (frame (Open 2 6 0) [] ∷ frame (Pair pair_kind 3 5) [] ∷ two 3 3 ∷ two 4 4 ∷ two 1 5 ∷ two 2 2 ∷ two 9 9 ∷ two 1 1 ∷ two 5 5 ∷ frame (Bare unpair_kind) [] ∷ [])

-- a line whose letter stands twice
abbrev doubled : ℕ → List ℕ → List ℕ
doubled letter numbers = letter ∷ plain letter numbers

-- and its print
abbrev pub pair_text : List ℕ
pair_text = flat (
    plain 79 (2 ∷ 6 ∷ 0 ∷ [])
    ∷ plain 66 (3 ∷ 5 ∷ [])
    ∷ plain 81 (1 ∷ 1 ∷ [])
    ∷ plain 81 (2 ∷ 2 ∷ [])
    ∷ plain 81 (3 ∷ 3 ∷ [])
    ∷ doubled 43 (1 ∷ [])
    ∷ plain 81 (4 ∷ 2 ∷ [])
    ∷ plain 81 (5 ∷ 3 ∷ [])
    ∷ doubled 43 (3 ∷ [])
    ∷ plain 81 (6 ∷ 1 ∷ [])
    ∷ doubled 45 (1 ∷ [])
    ∷ doubled 43 (4 ∷ [])
    ∷ plain 81 (7 ∷ 2 ∷ [])
    ∷ plain 69 []
    ∷ [])

-- the frame of a quote of one column
abbrev one : ℕ → List ℕ
one a = frame (Quote 1) (a ∷ [])

-- the frame of a desk's watch, or of its end
abbrev sized : ℕ → ℕ → List ℕ
sized kind n = frame (Sized kind n) []

-- a tape with two desks: watches until no record is free for either, some given back and taken by the other desk, then a pair and two quotes
abbrev pub desks_tape : List ℕ
desks_tape =
    flat (frame (Open 1 8 0) [] ∷ sized watch_kind 1 ∷ sized watch_kind 2 ∷ sized watch_kind 3 ∷ sized watch_kind 4 ∷ sized watch_kind 5 ∷ sized watch_kind 6
    ∷ sized watch_two_kind 1 ∷ sized watch_two_kind 2 ∷ sized watch_two_kind 3 ∷ sized watch_two_kind 4 ∷ sized unwatch_kind 5 ∷ sized watch_two_kind 4 ∷ sized watch_kind 5
    ∷ sized watch_two_kind 5 ∷ sized unwatch_two_kind 1 ∷ sized watch_kind 5 ∷ sized watch_two_kind 1 ∷ frame (Pair pair_kind 2 2) [] ∷ one 5 ∷ one 3 ∷ [])

-- a line of desk two
abbrev second : ℕ → List ℕ → List ℕ
second letter numbers = letter ∷ plain 50 numbers

-- and its print: the changes of desk one, those of desk two, and that of the pair
abbrev pub desks_text : List ℕ
desks_text = flat (
    plain 79 (1 ∷ 8 ∷ 0 ∷ [])
    ∷ plain 87 (1 ∷ [])
    ∷ plain 87 (2 ∷ [])
    ∷ plain 87 (3 ∷ [])
    ∷ plain 87 (4 ∷ [])
    ∷ plain 87 (5 ∷ [])
    ∷ plain 82 (9 ∷ [])
    ∷ second 87 (1 ∷ [])
    ∷ second 87 (2 ∷ [])
    ∷ second 87 (3 ∷ [])
    ∷ plain 82 (9 ∷ [])
    ∷ plain 85 (5 ∷ [])
    ∷ second 87 (4 ∷ [])
    ∷ plain 82 (9 ∷ [])
    ∷ plain 82 (9 ∷ [])
    ∷ second 85 (1 ∷ [])
    ∷ plain 87 (5 ∷ [])
    ∷ plain 82 (9 ∷ [])
    ∷ plain 66 (2 ∷ 2 ∷ [])
    ∷ plain 81 (1 ∷ 1 ∷ [])
    ∷ plain 43 (1 ∷ 1 ∷ [])
    ∷ plain 43 (2 ∷ 1 ∷ [])
    ∷ plain 43 (3 ∷ 1 ∷ [])
    ∷ plain 43 (4 ∷ 1 ∷ [])
    ∷ plain 43 (5 ∷ 1 ∷ [])
    ∷ second 43 (2 ∷ 1 ∷ [])
    ∷ second 43 (3 ∷ 1 ∷ [])
    ∷ second 43 (4 ∷ 1 ∷ [])
    ∷ plain 81 (2 ∷ 1 ∷ [])
    ∷ plain 45 (1 ∷ 1 ∷ [])
    ∷ plain 43 (1 ∷ 2 ∷ [])
    ∷ plain 45 (2 ∷ 1 ∷ [])
    ∷ plain 43 (2 ∷ 2 ∷ [])
    ∷ plain 45 (3 ∷ 1 ∷ [])
    ∷ plain 43 (3 ∷ 2 ∷ [])
    ∷ plain 45 (4 ∷ 1 ∷ [])
    ∷ plain 43 (4 ∷ 2 ∷ [])
    ∷ plain 45 (5 ∷ 1 ∷ [])
    ∷ plain 43 (5 ∷ 2 ∷ [])
    ∷ second 45 (2 ∷ 1 ∷ [])
    ∷ second 43 (2 ∷ 2 ∷ [])
    ∷ second 45 (3 ∷ 1 ∷ [])
    ∷ second 43 (3 ∷ 2 ∷ [])
    ∷ second 45 (4 ∷ 1 ∷ [])
    ∷ second 43 (4 ∷ 2 ∷ [])
    ∷ doubled 43 (1 ∷ [])
    ∷ [])
