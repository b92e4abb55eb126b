-- What a list builds, and what a lent index then holds (docs/RULES.md I1 to I3).
-- Assumes nothing.
use Rattle.std.specs.Prelude.{ℕ, ◌*◌, cond, List, [], ◌∷◌, ltb, length}
use Rattle.paper.specs.Paper.{Paper, refuses, gives, ◌or_else◌}
use Rattle.ndp_options.specs.Walk.{walk, walk_from}
use Rattle.ndp_options.specs.declared.Edition.{Edition}
use Rattle.ndp_option_list.specs.Whole.{count_of}
use Rattle.ndp_option_index.specs.Entries.{entries_of, numbers_of}

-- the numbers of the options of bytes whose first is at a place of the list
abbrev pub index_from : Edition → ℕ → List ℕ → List ℕ
index_from e at s = numbers_of (entries_of (walk_from e at s).items)

-- the index of a list
abbrev pub index_of : Edition → List ℕ → List ℕ
index_of e s = index_from e 0 s

-- the most options that have an index
abbrev pub most : ℕ
most = 64

-- of n options in a buffer of so many numbers: more than 64, refusal 20; fewer than two numbers for each, refusal 9; else how many
unfoldable pub built_of : ℕ → ℕ → Paper
built_of n numbers =
    cond (ltb most n) (refuses 20 [])
    (cond (ltb numbers (n * 2)) (refuses 9 (n * 8 ∷ []))
    (gives (n ∷ [])))

-- the walk's own refusal, or what its options build
abbrev pub build_of : Edition → List ℕ → List ℕ → Paper
build_of e s index = count_of e 0 s or_else built_of (length (walk e s).items) (length index)
