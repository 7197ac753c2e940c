-- What an audit says, as the two numbers that a C host is given.
use Rattle.std.specs.Prelude.{ℕ}
use Rattle.head.specs.Replies.{Finding, yes, no, refused}

-- 0 for a verdict, else the number of the refusal
abbrev pub finding_number : Finding → ℕ
finding_number yes = 0
finding_number no = 0
finding_number (refused k) = k

-- 1 for yes; 0 for no, and where the audit is refused
abbrev pub finding_verdict : Finding → ℕ
finding_verdict yes = 1
finding_verdict no = 0
finding_verdict (refused k) = 0
