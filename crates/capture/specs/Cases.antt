-- Captures and addresses worked out by hand, with what is told of them: a record is a mark, 49 36 or 49 37, a hop limit, 16 and 16 bytes of addresses, the
-- packet's length high byte first, and the packet; 12 and 14 tell the record's place from the start of the capture, 13 the packet's length.
-- Assumes nothing.
use Rattle.std.specs.Prelude.{◌≡◌, ℕ, List, [], ◌∷◌, ◌++◌, take, replicate}
use Rattle.paper.specs.Paper.{Paper, refuses, gives}
use Rattle.capture.specs.Record.{address_at, next_of, recorded}

-- what is told at a place of a piece that begins so far on in the capture; the address at a place; what is told of a packet that a record is to hold
pub data Case : Type 0 where
  tells : List ℕ → ℕ → ℕ → Paper → Case
  holds : List ℕ → ℕ → List ℕ → Case
  takes : List ℕ → Paper → Case

abbrev pub Claim : Case → Type 0
Claim (tells bytes at base answer) = next_of bytes at base ≡ answer
Claim (holds bytes at address) = address_at bytes at ≡ address
Claim (takes packet answer) = recorded packet (gives []) ≡ answer

-- the 37 bytes before a packet, with two bytes of length
abbrev pub record_head : ℕ → ℕ → List ℕ
record_head high low = 0x49 ∷ 0x36 ∷ 255 ∷ (replicate 32 0 ++ high ∷ low ∷ [])

abbrev pub table : List Case
table =
    -- 12: another mark, whatever is behind it; after a record of 37 bytes; 1,000 bytes on
    tells (0x49 ∷ 0x38 ∷ []) 0 0 (refuses 12 (0 ∷ []))
    ∷ tells (record_head 0 0 ++ (0x49 ∷ 0x38 ∷ [])) 37 0 (refuses 12 (37 ∷ []))
    ∷ tells (record_head 0 0 ++ (0x49 ∷ 0x35 ∷ [])) 37 1000 (refuses 12 (1037 ∷ []))
    -- 14: under 2 bytes, under 37, a packet that is cut off, a place beyond the bytes
    ∷ tells (0x49 ∷ []) 0 1000 (refuses 14 (1000 ∷ []))
    ∷ tells (take 36 (record_head 0 0)) 0 1000 (refuses 14 (1000 ∷ []))
    ∷ tells (record_head 0 0 ++ record_head 8 0) 37 1000 (refuses 14 (1037 ∷ []))
    ∷ tells (0x49 ∷ 0x36 ∷ 255 ∷ []) 5 1000 (refuses 14 (1005 ∷ []))
    -- 13: 2,049 bytes and 65,535, read; 9,001 written
    ∷ tells (record_head 8 1) 0 1000 (refuses 13 (2049 ∷ []))
    ∷ tells (record_head 255 255) 0 1000 (refuses 13 (65535 ∷ []))
    ∷ takes (replicate 9001 0) (refuses 13 (9001 ∷ []))
    -- none of them: a packet of one byte, with the places of its parts; 9,000 bytes; the end
    ∷ tells (record_head 0 1 ++ 9 ∷ []) 0 1000 (gives (255 ∷ 3 ∷ 19 ∷ 37 ∷ 1 ∷ 38 ∷ []))
    ∷ takes (replicate 9000 0) (gives [])
    ∷ tells (record_head 0 0) 37 1000 (gives [])
    -- 0 in place of the bytes of an address that are not there
    ∷ holds (7 ∷ 8 ∷ 9 ∷ []) 1 (8 ∷ 9 ∷ replicate 14 0)
    ∷ holds (7 ∷ 8 ∷ 9 ∷ []) 5 (replicate 16 0)
    ∷ []
