-- The words in which the laws are said.
-- Assumes nothing.
use Rattle.std.specs.Prelude.{ℕ, ◌+◌, ◌*◌, ◌≤◌, ◌<◌, ◌≡◌, true, List, [], ◌∷◌, length, get_or, take, drop}
use Rattle.paper.specs.Paper.{gives}
use Rattle.message_table.specs.Table.{known, fixed_len, is_ndp}
use Rattle.ndp_walk.specs.Walk.{Clean}
use Rattle.ndp_options.specs.Walk.{walk}
use Rattle.ndp_options.specs.declared.Edition.{Edition}
use Rattle.quotes.specs.Chain.{chain_of}

-- a number at a place of a list
pub record Has (n x : ℕ) (v : List ℕ) : Type 0 where
  pub there : n < length v
  pub is : get_or v n 0 ≡ x

-- in a chain, level i (counted from 0) quotes a packet at a place, which holds a message
pub record Holds (i place : ℕ) (v : List ℕ) : Type 0 where
  pub quote : Has (3 * i + 1) place v
  pub message : Has (3 * i + 2) 58 v

-- a chain with each place moved on by d
abbrev pub move_levels : ℕ → List ℕ → List ℕ
move_levels d [] = []
move_levels d (place ∷ []) = []
move_levels d (place ∷ next ∷ []) = []
move_levels d (place ∷ next ∷ kind ∷ l) = (d + place) ∷ next ∷ kind ∷ move_levels d l

abbrev pub move : ℕ → List ℕ → List ℕ
move d [] = []
move d (kind ∷ l) = kind ∷ move_levels d l

-- a message of Neighbor Discovery has a list that walks clean to its end
abbrev pub CleanList : Edition → List ℕ → Type 0
CleanList e s = known (get_or s 0 0) (get_or s 1 0) ≡ true → is_ndp (get_or s 0 0) ≡ true → (walk e (drop (8 + fixed_len (get_or s 0 0)) s)).ending ≡ Clean

-- the message of level i, 40 bytes behind its quote at a place: so many bytes within the packet, whose chain, read by themselves, is what stands behind the
-- level, but for the places, which are so much further on
pub record Message (e : Edition) (packet : List ℕ) (i place : ℕ) : Type 0 where
  pub bytes : ℕ
  pub within : place + 40 + bytes ≤ length packet
  pub own : List ℕ
  pub alone : chain_of e (take bytes (drop (place + 40) packet)) ≡ gives own
  pub behind : drop (3 * i + 3) (chain_of e packet).values ≡ move (place + 40) own
  pub whole : CleanList e (take bytes (drop (place + 40) packet))
