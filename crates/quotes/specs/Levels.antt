-- The words in which the laws of a chain are said.
-- Assumes nothing.
use Rattle.std.specs.Prelude.{ℕ, suc, ◌+◌, ◌≤◌, ◌<◌, ◌≢◌, List, [], ◌∷◌, get_or}

-- the levels of a chain, at most so many, in bytes that end at a place: each quote begins at a place or later and has its 40 bytes within them. A next
-- header of 58 has a message 40 bytes on, whose own quote begins behind its head; any other has no message, the kind 0, and nothing below it
pub data Levels : ℕ → ℕ → ℕ → List ℕ → Type 0 where
  none : {most from end : ℕ} → Levels most from end []
  last : {most from end place next : ℕ} → from ≤ place → place + 40 ≤ end → next ≢ 58 → Levels (suc most) from end (place ∷ next ∷ 0 ∷ [])
  level : {most from end place : ℕ} (kind : ℕ) {l : List ℕ} → from ≤ place → place + 40 ≤ end → Levels most (place + 40 + 8) end l → Levels (suc most) from end (place ∷ 58 ∷ kind ∷ l)

-- a message at a place: its kind, and the levels below it
pub data Chained (most place end : ℕ) : List ℕ → Type 0 where
  chained : (kind : ℕ) {l : List ℕ} → Levels most (place + 8) end l → Chained most place end (kind ∷ l)

-- bytes
abbrev pub Bytes : List ℕ → Type 0
Bytes s = (i : ℕ) → get_or s i 0 < 256

-- numbers of a chain, of which each next header and each kind is a byte
pub data LevelBytes : List ℕ → Type 0 where
  no_more : LevelBytes []
  more : {place next kind : ℕ} {l : List ℕ} → next < 256 → kind < 256 → LevelBytes l → LevelBytes (place ∷ next ∷ kind ∷ l)

pub data ChainBytes : List ℕ → Type 0 where
  bytes : {kind : ℕ} {l : List ℕ} → kind < 256 → LevelBytes l → ChainBytes (kind ∷ l)
