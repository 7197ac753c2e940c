-- Runs of a printer: what it holds between two calls, and the calls that it makes, each of which met its contract on what the one before left.
use Rattle.std.specs.Prelude.{◌≡◌, ℕ, ◌+◌, ◌≤◌, true, false, List, [], ◌∷◌, ◌++◌, length, take}
use Rattle.head.specs.Heads.{fresh_head}
use Rattle.model.specs.Rows.{Tables}
use Rattle.model.specs.Reference.{Lengths}
use Rattle.model.specs.Calls.{lengths_of}
use Rattle.tape_model.specs.Play.{Player}
use Rattle.table_starts.specs.declared.Start.{Start}
use Rattle.tape_playback.specs.declared.Playback.{Playback}
use Rattle.tape_playback.specs.Played.{player_of}
use Rattle.tape_pieces.specs.Pieces.{PiecePlayed}
use Rattle.tape_streams.specs.Streams.{Flushed, Refilled}

-- what a printer holds: where it stands, the tables, the bytes for changes, the buffer with what has come of the tape, and that with its text
pub record Printer : Type 0 where
  pub playback : Playback
  pub tables : Tables
  pub bytes : List ℕ
  pub tape : List ℕ
  pub text : List ℕ

-- the player in it, and the lengths that this is lent
abbrev pub playing : Printer → Player
playing p = player_of p.playback p.tables p.bytes

abbrev pub loans : Printer → Lengths
loans p = lengths_of (playing p).world.lent (playing p).outputs

-- where rows start at the front of the tables
abbrev pub front : Start
front = record { row = 0; cell = 0 }

-- before the first call: a head of zeros, the rows at the front, nothing has come, nothing is gathered; tables, watches and buffers hold anything
pub record Fresh (p : Printer) : Type 0 where
  pub head : p.playback.head ≡ fresh_head 0 0 0
  pub start : p.playback.start ≡ front
  pub place : p.playback.place ≡ 0
  pub end : p.playback.end ≡ 0
  pub used : p.playback.used ≡ 0
  pub ended : p.playback.ended ≡ false
  pub over : p.playback.over ≡ false

-- a tape cut into pieces that come one after the other into a buffer of this length: each has a byte, and leaves 27 for what is held,
-- a quote of 25 bytes and two of a look
pub data Cut (room : ℕ) : List (List ℕ) → Type 0 where
  no_piece : 27 ≤ room → Cut room []
  piece_more : {byte : ℕ} {bytes : List ℕ} {pieces : List (List ℕ)} → 27 + length (byte ∷ bytes) ≤ room → Cut room pieces → Cut room ((byte ∷ bytes) ∷ pieces)

-- a piece behind those that came before; a read that gave nothing brought none
unfoldable pub behind : List (List ℕ) → List ℕ → List (List ℕ)
behind pieces [] = pieces
behind pieces (byte ∷ bytes) = pieces ++ ((byte ∷ bytes) ∷ [])

-- the runs of a printer: what it holds, the pieces of the tape that came, and the texts that were handed on; a write that failed is none of
-- them, since after it the tape is over without its end
pub data Runs (first : Printer) : Printer → List (List ℕ) → List (List ℕ) → Type 0 where
  begins : Runs first first [] []
  flushes : {p : Printer} {came texts : List (List ℕ)} {r : Playback} → Runs first p came texts → Flushed p.playback r → r.over ≡ p.playback.over
      → Runs first (record { playback = r; tables = p.tables; bytes = p.bytes; tape = p.tape; text = p.text }) came (texts ++ (take p.playback.used p.text ∷ []))
  refills : {p : Printer} {came texts : List (List ℕ)} {r : Playback} {tape' : List ℕ} → Runs first p came texts → (f : Refilled p.playback p.tape r tape')
      → Runs first (record { playback = r; tables = p.tables; bytes = p.bytes; tape = tape'; text = p.text }) (behind came f.came) texts
  plays : {p : Printer} {came texts : List (List ℕ)} {r : Playback} {t' : Tables} {bytes' text' : List ℕ} → Runs first p came texts
      → PiecePlayed (take p.playback.end p.tape) p.playback p.tables p.bytes p.text r t' bytes' text'
      → Runs first (record { playback = r; tables = t'; bytes = bytes'; tape = p.tape; text = text' }) came texts

-- a run is finished: the tape is over, and everything is handed on
pub record Finished (p : Printer) : Type 0 where
  pub over : p.playback.over ≡ true
  pub used : p.playback.used ≡ 0

-- a finished run of a tape in these pieces: those that came, and those that the tape was over before
pub record Ran (first : Printer) (pieces : List (List ℕ)) : Type 0 where
  pub p : Printer
  pub came : List (List ℕ)
  pub rest : List (List ℕ)
  pub texts : List (List ℕ)
  pub run : Runs first p came texts
  pub finished : Finished p
  pub cut : pieces ≡ came ++ rest
  pub ended : p.playback.ended ≡ true → rest ≡ []
