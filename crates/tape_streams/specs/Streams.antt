-- What a printer leaves once it wrote out what is gathered, and once it read on.
use Rattle.std.specs.Prelude.{◌≡◌, ℕ, ◌≤◌, Bool, true, false, ◌||◌, not, List, [], ◌++◌, ltb, length, take, drop}
use Rattle.tape_model.specs.Streams.{settled}
use Rattle.tape_playback.specs.declared.Playback.{Playback}
use Rattle.tape_playback.specs.Played.{SameBook, SameInput}

-- what has come of the tape and is not played
abbrev pub pending : Playback → List ℕ → List ℕ
pending s tape = drop s.place (take s.end tape)

-- the printer goes on without reading: the tape is over, the input has ended, or a frame is settled
abbrev pub supplied : Playback → List ℕ → Bool
supplied s tape = (s.over || s.ended) || settled (take s.end tape) s.place

-- what is gathered was handed on, and nothing else changed; where that failed the tape is over
pub record Flushed (s r : Playback) : Type 0 where
  pub used : r.used ≡ 0
  pub place : r.place ≡ s.place
  pub same : SameInput s r
  pub book : SameBook s r
  pub over : s.over ≡ true → r.over ≡ true

-- what is not played is kept, these bytes came behind it, and the input has ended if none did; none comes where the printer goes on without
pub record Refilled (s : Playback) (tape : List ℕ) (r : Playback) (tape' : List ℕ) : Type 0 where
  pub came : List ℕ
  pub kept : pending r tape' ≡ pending s tape ++ came
  pub quiet : supplied s tape ≡ true → (came ≡ []) × (r.ended ≡ s.ended)
  pub read : supplied s tape ≡ false → r.ended ≡ not (ltb 0 (length came))
  pub inside : r.place ≤ r.end
  pub within : r.end ≤ length tape
  pub long : length tape' ≡ length tape
  pub used : r.used ≡ s.used
  pub over : r.over ≡ s.over
  pub book : SameBook s r
