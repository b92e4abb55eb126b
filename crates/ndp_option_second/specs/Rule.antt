-- docs/RULES.md O10: an option of the second edition read by itself, by the tests of an option of any size and then by the walk's own rule.
-- Assumes nothing.
use Rattle.std.specs.Prelude.{ℕ, List, [], ◌∷◌, Result}
use Rattle.paper.specs.Paper.{Paper, gives}
use Rattle.refusal.specs.Told.{told}
use Rattle.ndp_option_read.specs.Rule.{sized_of, if_read}
use Rattle.ndp_walk.specs.Judge.{Ruling, Fits, Misfits}
use Rattle.ndp_options.specs.Second.{second}
use Rattle.ndp_options.specs.Told.{option_kind_number}
use Rattle.refusal.specs.declared.Refusal.{Refusal}
use Rattle.ndp_options.specs.declared.NdpOptionKind.{NdpOptionKind}

-- the kind, or the refusal
abbrev pub ruled_told : Ruling → Paper
ruled_told (Fits kind) = gives (kind ∷ [])
ruled_told (Misfits why) = why

unfoldable pub judged_of : ℕ → List ℕ → Paper
judged_of id s = if_read (sized_of id s) (ruled_told (second s)) (sized_of id s)

-- the kind and the place of an option, or the refusal
abbrev pub second_numbers : NdpOptionKind × ℕ → List ℕ
second_numbers (kind, place) = option_kind_number kind ∷ place ∷ []

abbrev pub second_told : Result (NdpOptionKind × ℕ) Refusal → Paper
second_told r = told second_numbers r
