-- Which lengths a mark does not allow; and the two readers, the one before there were longer records and the one now, side by side.
-- Assumes nothing.
use Rattle.std.specs.Prelude.{◌≡◌, ℕ, ◌/◌, ◌%◌, ◌<◌, ◌≤◌, true, ◌⊎◌, List, [], ◌∷◌, ◌++◌, take, replicate}
use Rattle.paper.specs.Paper.{Paper, refuses, gives}
use Rattle.wire.specs.Prefix.{begins}
use Rattle.capture.specs.Record.{mark, long_mark, longest_short, longest, packet_len, record_of}
use Rattle.capture.specs.Before as before

-- over 9,000; over 2,048 under the first mark; at most 2,048 under the second
abbrev pub WrongLength : List ℕ → Type 0
WrongLength s =
    (longest < packet_len s)
    ⊎ (((begins mark s ≡ true) × (longest_short < packet_len s)) ⊎ ((begins long_mark s ≡ true) × (packet_len s ≤ longest_short)))

-- bytes at a place, what was told of them, and what is told now
pub record Row : Type 0 where
  pub bytes : List ℕ
  pub was : ℕ → Paper
  pub is : ℕ → Paper

-- at every place
abbrev pub Claim : Row → Type 0
Claim r = (place : ℕ) → (before.record_of r.bytes place ≡ r.was place) × (record_of r.bytes place ≡ r.is place)

-- a mark, hop limit 255, addresses of zeros, a length, and so many bytes behind it
abbrev pub bytes_of : List ℕ → ℕ → ℕ → List ℕ
bytes_of m len body = m ++ 255 ∷ (replicate 32 0 ++ len / 256 ∷ len % 256 ∷ replicate body 0)

-- the answers
abbrev pub found : ℕ → ℕ → Paper
found len place = gives (255 ∷ len ∷ [])

abbrev pub unmarked : ℕ → Paper
unmarked place = refuses 12 (place ∷ [])

abbrev pub misfit : ℕ → ℕ → Paper
misfit len place = refuses 13 (len ∷ [])

abbrev pub cut : ℕ → Paper
cut place = refuses 14 (place ∷ [])

abbrev pub row : List ℕ → (ℕ → Paper) → (ℕ → Paper) → Row
row bytes was is = record { bytes = bytes; was = was; is = is }

abbrev pub table : List Row
table =
    -- the first mark: nothing changed
    row (bytes_of mark 0 0) (found 0) (found 0)
    ∷ row (bytes_of mark 1 1) (found 1) (found 1)
    ∷ row (bytes_of mark 2048 2048) (found 2048) (found 2048)
    ∷ row (bytes_of mark 2048 2047) cut cut
    ∷ row (bytes_of mark 2049 2049) (misfit 2049) (misfit 2049)
    ∷ row (bytes_of mark 2049 0) (misfit 2049) (misfit 2049)
    ∷ row (bytes_of mark 9000 0) (misfit 9000) (misfit 9000)
    ∷ row (bytes_of mark 9001 0) (misfit 9001) (misfit 9001)
    -- the second: a short packet, with or without its body
    ∷ row (bytes_of long_mark 0 0) unmarked (misfit 0)
    ∷ row (bytes_of long_mark 2048 2048) unmarked (misfit 2048)
    ∷ row (bytes_of long_mark 2048 0) unmarked (misfit 2048)
    -- a long one, whole and one byte short
    ∷ row (bytes_of long_mark 2049 2049) unmarked (found 2049)
    ∷ row (bytes_of long_mark 9000 9000) unmarked (found 9000)
    ∷ row (bytes_of long_mark 2049 2048) unmarked cut
    -- a packet that no record holds
    ∷ row (bytes_of long_mark 9001 0) unmarked (misfit 9001)
    ∷ row (bytes_of long_mark 65535 0) unmarked (misfit 65535)
    -- 36 bytes in all; the mark alone; its first byte alone; the marks on either side of the two
    ∷ row (take 36 (bytes_of long_mark 2049 0)) unmarked cut
    ∷ row long_mark unmarked cut
    ∷ row (73 ∷ []) cut cut
    ∷ row (73 ∷ 53 ∷ []) unmarked unmarked
    ∷ row (73 ∷ 56 ∷ []) unmarked unmarked
    ∷ []
