-- What appending to a list and its index answers, and what the two then hold (docs/RULES.md I6 to I8).
-- Assumes nothing.
use Rattle.std.specs.Prelude.{ℕ, ◌+◌, ◌*◌, Bool, false, cond, List, [], ◌∷◌, ltb, eqb, length, take}
use Rattle.paper.specs.Paper.{Paper, refuses, gives, ◌or_else◌}
use Rattle.wire.specs.Prefix.{begins}
use Rattle.ndp_options.specs.Walk.{walk}
use Rattle.ndp_options.specs.declared.Edition.{Edition}
use Rattle.ndp_option_list.specs.Whole.{count_of}
use Rattle.ndp_option_index.specs.Index.{index_from, index_of, most}

-- whether the first n entries of a buffer are the index that a list builds: a list of more than 64 options builds none
unfoldable pub is_index : Edition → List ℕ → List ℕ → ℕ → Bool
is_index e s index n =
    cond (ltb most (length (walk e s).items)) false
    (cond (eqb n (length (walk e s).items)) (begins (index_of e s) index) false)

-- the walk's own refusal of the list, then 23 where the index is not its own
abbrev pub matched_of : Edition → List ℕ → List ℕ → ℕ → Paper
matched_of e s index n = count_of e 0 s or_else cond (is_index e s index n) (gives []) (refuses 23 [])

-- of a list of so many bytes and options in buffers of so many bytes and numbers: more than 64 options, 20; the bytes do not fit, 9; the entries
-- do not, 9; else both
unfoldable pub grown_of : ℕ → ℕ → ℕ → ℕ → Paper
grown_of bytes options room numbers =
    cond (ltb most options) (refuses 20 [])
    (cond (ltb room bytes) (refuses 9 (bytes ∷ []))
    (cond (ltb numbers (options * 2)) (refuses 9 (options * 8 ∷ []))
    (gives (bytes ∷ options ∷ []))))

-- the list is the first `used` bytes of its buffer, the index the first n entries of its own: where the buffer has fewer bytes there is no such list.
-- The new bytes' places are those of the joined list
unfoldable pub append_of : Edition → List ℕ → ℕ → List ℕ → ℕ → List ℕ → Paper
append_of e list used index n new =
    cond (ltb (length list) used) (refuses 23 [])
    (matched_of e (take used list) index n
    or_else (count_of e used new
    or_else grown_of (used + length new) (n + length (walk e new).items) (length list) (length index)))

-- the numbers of the new entries
abbrev pub more_of : Edition → ℕ → List ℕ → List ℕ
more_of e used new = index_from e used new
