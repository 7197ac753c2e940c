-- Runs of a tape writer: what it holds between two calls, and the calls that it makes, each of which met its contract on what the one before left.
use Rattle.std.specs.Prelude.{◌≡◌, ℕ, true, false, cond, List, [], ◌∷◌, ◌++◌, take}
use Rattle.line_writer.specs.declared.Writer.{Writer}
use Rattle.line_writer.specs.Written.{comes, LineTaken, Flushed, Refilled}

-- what a tape writer holds: where it stands, the buffer with what has come of its input, and that with the bytes that are gathered
pub record Holding : Type 0 where
  pub writer : Writer
  pub text : List ℕ
  pub out : List ℕ

-- before the first call: nothing is taken, nothing has come, nothing is gathered; the buffers hold anything
pub record Fresh (h : Holding) : Type 0 where
  pub lines : h.writer.lines ≡ 0
  pub place : h.writer.place ≡ 0
  pub end : h.writer.end ≡ 0
  pub used : h.writer.used ≡ 0
  pub ended : h.writer.ended ≡ false

-- what has come of the input
abbrev pub arrived : Holding → List ℕ
arrived h = take h.writer.end h.text

-- the number of the line that was taken last, if it said no message
abbrev pub naming : Writer → List ℕ
naming r = cond r.unsaid (r.lines ∷ []) []

-- the runs of a writer: what it holds, the pieces of the input that came, the bytes that were handed on, and the numbers of the lines that were
-- named; a write that failed is none of them, since after it all is over without the input's end
pub data Runs (first : Holding) : Holding → List (List ℕ) → List (List ℕ) → List ℕ → Type 0 where
  begins : Runs first first [] [] []
  flushes : {h : Holding} {came handed : List (List ℕ)} {names : List ℕ} {r : Writer} → Runs first h came handed names
      → Flushed h.writer r → r.over ≡ h.writer.over
      → Runs first (record { writer = r; text = h.text; out = h.out }) came (handed ++ (take h.writer.used h.out ∷ [])) names
  refills : {h : Holding} {came handed : List (List ℕ)} {names : List ℕ} {r : Writer} {text' : List ℕ} → Runs first h came handed names
      → (f : Refilled h.writer h.text r text')
      → Runs first (record { writer = r; text = text'; out = h.out }) (came ++ (f.came ∷ [])) handed names
  takes : {h : Holding} {came handed : List (List ℕ)} {names : List ℕ} {r : Writer} {out' : List ℕ} → Runs first h came handed names
      → comes (arrived h) h.writer ≡ true → LineTaken (arrived h) h.writer h.out r out'
      → Runs first (record { writer = r; text = h.text; out = out' }) came handed (names ++ naming r)

-- a run is finished: the input has ended, every line is taken, and everything is handed on
pub record Finished (h : Holding) : Type 0 where
  pub ended : h.writer.ended ≡ true
  pub taken : h.writer.place ≡ h.writer.end
  pub used : h.writer.used ≡ 0
