-- What the private functions promise of lists that walk clean: what stands at a place of one, and the entry of what stands at two.
-- Assumes nothing.
use Rattle.std.specs.Prelude.{ℕ, ◌+◌, ◌*◌, ◌≤◌, ◌<◌, ◌≡◌, cond, List, [], ◌∷◌, eqb, ltb, length, take, drop, Result, Ok, Err}
use Rattle.paper.specs.Paper.{gives, value}
use Rattle.packet_length.specs.Length.{limit}
use Rattle.ndp_walk.specs.Walk.{Clean}
use Rattle.ndp_walk.specs.Laws.{concat}
use Rattle.ndp_options.specs.Walk.{walk_from}
use Rattle.ndp_options.specs.declared.Edition.{Edition}
use Rattle.ndp_option_list.specs.Whole.{count_of}
use Rattle.ndp_option_compare.specs.Entry.{entry_of, longer, leading}
use Rattle.ndp_option_compare.specs.Compare.{Told, told, refused_or, options_of, report_of}
use Rattle.ndp_option_compare.specs.Told.{error_told}
use Rattle.ndp_option_compare.specs.declared.CompareError.{CompareError}

-- a place of a list from which the walk is clean
pub record Cleanly (e : Edition) (s : List ℕ) (at : ℕ) : Type 0 where
  pub within : at ≤ length s
  pub short : length s ≤ limit
  pub clean : (walk_from e at (drop at s)).ending ≡ Clean

-- what stands there: nothing, at the list's end; or an option of so many bytes, behind which the walk is clean too
pub data Stands (e : Edition) (s : List ℕ) (at : ℕ) : ℕ → Type 0 where
  over : at ≡ length s → Stands e s at 0
  option : {n : ℕ} → 0 < n → at + n ≤ length s → options_of e (drop at s) ≡ take n (drop at s) ∷ options_of e (drop (at + n) s) → Cleanly e s (at + n) → Stands e s at n

-- the entry of what two rests begin with: options of n and m bytes, 0 where a list is over
abbrev pub entry_at : ℕ → ℕ → List ℕ → ℕ → ℕ → List ℕ → List ℕ
entry_at p n l q m r = cond (eqb n 0) (longer p q 2) (cond (eqb m 0) (longer p q 1) (entry_of p q (take n l) (take m r)))

-- two lists that walk clean and are not too far on, so many entries, and a report that has room for them
pub record Ready (e : Edition) (o : ℕ) (s : List ℕ) (p : ℕ) (t : List ℕ) (entries size : ℕ) : Type 0 where
  pub first : Cleanly e s 0
  pub second : Cleanly e t 0
  pub near : o + length s ≤ limit
  pub near-too : p + length t ≤ limit
  pub count : entries ≡ length (report_of e o s p t)
  pub room : entries * 5 ≤ size

-- how many options each list has, or the first refusal
abbrev pub counts_of : Edition → ℕ → List ℕ → ℕ → List ℕ → Told
counts_of e o s p t =
    refused_or 1 (count_of e o s)
    (refused_or 2 (count_of e p t)
    (told (gives (value 0 (count_of e o s) ∷ value 0 (count_of e p t) ∷ [])) 0))

abbrev pub counts_told : Result (ℕ × ℕ) CompareError → Told
counts_told (Ok (n, m)) = told (gives (n ∷ m ∷ [])) 0
counts_told (Err e) = error_told e

-- the smaller of two numbers, and 1 where they differ
abbrev pub lesser : ℕ → ℕ → ℕ
lesser n m = cond (ltb n m) n m

abbrev pub one_more : ℕ → ℕ → ℕ
one_more n m = cond (eqb n m) 0 1

-- so many bytes of the first list are the options with which it and the second begin alike
pub record Shared (e : Edition) (s t : List ℕ) (n : ℕ) : Type 0 where
  pub within : n ≤ length s
  pub bytes : take n s ≡ concat (leading (options_of e s) (options_of e t))
