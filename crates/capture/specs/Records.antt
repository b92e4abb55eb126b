-- The records of a capture, one after the other: what a step gives, and what is left behind it.
-- Assumes nothing.
use Rattle.std.specs.Prelude.{ℕ, ◌+◌, ◌-◌, ◌≡◌, List, Result, Ok, Err, Option, Some, None, length}
use Rattle.std.specs.Iterator.{Count, at_most}
use Rattle.std.specs.Option.{option_transpose}
use Rattle.refusal.specs.declared.Refusal.{Refusal}
use Rattle.capture.specs.declared.Record.{Record}
use Rattle.capture.specs.Record.{next_of}
use Rattle.capture.specs.Paper.{next_paper}

-- the place behind a record; none behind a refusal; at the end it stays
abbrev pub place_behind : ℕ → Option (Result Record Refusal) → Option ℕ
place_behind at None = Some at
place_behind at (Some (Ok r)) = Some r.next
place_behind at (Some (Err why)) = None

-- what is told at a place of the bytes, and the place behind it; nothing more behind a refusal
abbrev pub GivesRecord : List ℕ → Option ℕ → Option (Result Record Refusal) → Option ℕ → Type 0
GivesRecord s None r behind = (r ≡ None) × (behind ≡ None)
GivesRecord s (Some at) r behind = (next_paper (option_transpose r) ≡ next_of s at 0) × (behind ≡ place_behind at r)

-- no record is empty
abbrev pub left_from : List ℕ → Option ℕ → Count
left_from s None = at_most 0
left_from s (Some at) = at_most (1 + (length s - at))
