-- The index for C. On paper an answer is the list's bytes and the index's entries, or a refusal; a lookup's is a place, or nothing.
-- Assumes nothing.
use Rattle.std.specs.Prelude.{ℕ, cond, List, [], ◌∷◌, eqb, length}
use Rattle.paper.specs.Paper.{Paper, gives, value, ◌or_else◌}
use Rattle.refusal.specs.Paper.{slots}
use Rattle.ndp_options.specs.declared.Edition.{Edition}
use Rattle.ndp_option_index.specs.Index.{build_of}
use Rattle.c_answer.specs.Answer.{REFUSED, INDEXED, FOUND, NONE, none}
use Rattle.c_index.specs.declared.Indexed.{Indexed}
use Rattle.c_index.specs.declared.Found.{Found}

abbrev pub indexed : ℕ → ℕ → List ℕ → ℕ → ℕ → Indexed
indexed answer refusal values length entries = record { answer = answer; refusal = refusal; value = values; length = length; entries = entries }

unfoldable pub indexed_for : Paper → Indexed
indexed_for p =
    cond (eqb p.number 0) (indexed INDEXED 0 none (value 0 p) (value 1 p))
    (indexed REFUSED p.number (slots p.values) 0 0)

-- of a list that is indexed its bytes are told too, so that each answer has what the next append takes
abbrev pub built_told : Edition → List ℕ → List ℕ → Paper
built_told e s index = build_of e s index or_else gives (length s ∷ value 0 (build_of e s index) ∷ [])

abbrev pub place_for : List ℕ → Found
place_for [] = record { answer = NONE; refusal = 0; value = none; at = 0 }
place_for (p ∷ l) = record { answer = FOUND; refusal = 0; value = none; at = p }

abbrev pub found_for : Paper → Found
found_for p = place_for p.values
