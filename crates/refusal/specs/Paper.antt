-- A refusal on paper: its number (docs/RULES.md N1 to N23) and the values that it carries.
-- Assumes nothing.
use Rattle.std.specs.Prelude.{ℕ, List, [], ◌∷◌, get_or, length}
use Rattle.paper.specs.Paper.{Paper, refuses}
use Rattle.refusal.specs.declared.Refusal.{Refusal}
use Rattle.refusal.specs.declared.Numbers.{Numbers}
use Rattle.refusal.specs.Table.{number, values}

abbrev pub refusal : Refusal → Paper
refusal r = refuses (number r) (values r)

-- the first five numbers of a list, 0 past its last
abbrev pub slots : List ℕ → List ℕ
slots l = get_or l 0 0 ∷ get_or l 1 0 ∷ get_or l 2 0 ∷ get_or l 3 0 ∷ get_or l 4 0 ∷ []

abbrev pub numbers_of : Paper → Numbers
numbers_of p = record { number = p.number; count = length p.values; values = slots p.values }
