-- The number and values of what is told of a place.
-- Assumes nothing.
use Rattle.std.specs.Prelude.{ℕ, List, [], ◌∷◌, Result, Option, Some, None}
use Rattle.paper.specs.Paper.{Paper}
use Rattle.refusal.specs.Told.{told}
use Rattle.refusal.specs.declared.Refusal.{Refusal}
use Rattle.capture.specs.declared.Record.{Record}

-- of a record: hop limit, places of source, destination and packet, length of the packet, next place; of the end: none
abbrev pub next_numbers : Option Record → List ℕ
next_numbers (Some r) = r.hop_limit ∷ r.source ∷ r.destination ∷ r.packet ∷ r.len ∷ r.next ∷ []
next_numbers None = []

abbrev pub next_paper : Result (Option Record) Refusal → Paper
next_paper = told next_numbers
