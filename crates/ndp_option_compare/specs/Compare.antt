-- What is answered of two option lists, each at an offset of its packet, and the options with which they begin alike (docs/RULES.md V1, V2, V7).
-- Assumes nothing.
use Rattle.std.specs.Prelude.{ℕ, Bool, cond, ◌&&◌, List, [], ◌∷◌, map, eqb, length}
use Rattle.paper.specs.Paper.{Paper, gives}
use Rattle.output.specs.Output.{numbers_for, leaves}
use Rattle.ndp_walk.specs.Laws.{bytes_in, concat}
use Rattle.ndp_options.specs.Walk.{walk}
use Rattle.ndp_options.specs.declared.Edition.{Edition}
use Rattle.ndp_option_list.specs.Whole.{count_of}
use Rattle.ndp_option_compare.specs.Entry.{entries_from, leading}

-- the options of a list, each as its bytes
abbrev pub options_of : Edition → List ℕ → List (List ℕ)
options_of e s = map (bytes_in s) (walk e s).items

-- the entries: the first list is at an offset o, the second at p
unfoldable pub report_of : Edition → ℕ → List ℕ → ℕ → List ℕ → List (List ℕ)
report_of e o s p t = entries_from o p (options_of e s) (options_of e t)

-- and their numbers, one entry after the other
abbrev pub numbers_of : Edition → ℕ → List ℕ → ℕ → List ℕ → List ℕ
numbers_of e o s p t = concat (report_of e o s p t)

-- an answer on paper, and the list that it is about: 1 the first, 2 the second, 0 neither
pub record Told : Type 0 where
  pub paper : Paper
  pub list : ℕ

abbrev pub told : Paper → ℕ → Told
told p list = record { paper = p; list = list }

-- a refusal, told of a list; where there is none, what follows
abbrev pub refused_or : ℕ → Paper → Told → Told
refused_or list p next = cond (eqb p.number 0) next (told p list)

-- the walk's refusal of the first list; that of the second; 9 with the bytes of the whole report; or how many entries it has
unfoldable pub compared_of : Edition → ℕ → List ℕ → ℕ → List ℕ → List ℕ → Told
compared_of e o s p t out =
    refused_or 1 (count_of e o s)
    (refused_or 2 (count_of e p t)
    (refused_or 0 (numbers_for (length (numbers_of e o s p t)) out 0)
    (told (gives (length (report_of e o s p t) ∷ [])) 0)))

-- the report afterwards: as it was where the answer refuses, else with the entries at its start
abbrev pub report_after : Edition → ℕ → List ℕ → ℕ → List ℕ → List ℕ → List ℕ
report_after e o s p t out = leaves (compared_of e o s p t out).paper out 0 (numbers_of e o s p t)

-- whether a list is not refused
abbrev pub is_whole : Edition → List ℕ → Bool
is_whole e s = eqb (count_of e 0 s).number 0

-- the bytes of the options with which two lists begin alike; none where one of the lists is refused
unfoldable pub common_of : Edition → List ℕ → List ℕ → List ℕ
common_of e s t = cond (is_whole e s && is_whole e t) (concat (leading (options_of e s) (options_of e t))) []
