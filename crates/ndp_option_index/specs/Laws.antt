-- What an accepted append comes to, in words of lists.
-- Assumes nothing.
use Rattle.std.specs.Prelude.{ℕ, ◌+◌, ◌*◌, ◌≤◌, ◌≡◌, List, [], ◌∷◌, length, take}
use Rattle.packet_length.specs.Length.{limit}
use Rattle.ndp_walk.specs.Walk.{Clean}
use Rattle.ndp_options.specs.Walk.{walk}
use Rattle.ndp_options.specs.declared.Edition.{Edition}
use Rattle.ndp_option_index.specs.Index.{index_of, most}

-- a list that walks clean and has an index: it is no longer than a packet, and has no more options than an index has entries
pub record Indexable (ed : Edition) (s : List ℕ) : Type 0 where
  pub near : length s ≤ limit
  pub clean : (walk ed s).ending ≡ Clean
  pub few : length (walk ed s).items ≤ most

-- the first n entries of a buffer are the index that a list builds
pub record Own (ed : Edition) (s index : List ℕ) (n : ℕ) : Type 0 where
  pub list : Indexable ed s
  pub number : n ≡ length (walk ed s).items
  pub numbers : take (n * 2) index ≡ index_of ed s

-- an append that is accepted, and what it answers
pub record Accepted (ed : Edition) (list : List ℕ) (used : ℕ) (index : List ℕ) (n : ℕ) (new v : List ℕ) : Type 0 where
  pub within : used ≤ length list
  pub own : Own ed (take used list) index n
  pub near : used + length new ≤ limit
  pub clean : (walk ed new).ending ≡ Clean
  pub few : n + length (walk ed new).items ≤ most
  pub room : used + length new ≤ length list
  pub numbers : (n + length (walk ed new).items) * 2 ≤ length index
  pub answer : v ≡ (used + length new) ∷ (n + length (walk ed new).items) ∷ []
