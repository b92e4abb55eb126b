-- A record of a capture: its parts, and what is found at a place (docs/RULES.md C1 to C4, C7, C9).
-- Assumes nothing.
use Rattle.std.specs.Prelude.{ℕ, ◌+◌, ◌-◌, ◌/◌, ◌%◌, ◌^◌, Bool, cond, not, ◌&&◌, ◌||◌, List, [], ◌∷◌, ◌++◌, length, take, drop, replicate, ◌==◌, nat_le, nat_lt, slice_index}
use Rattle.paper.specs.Paper.{Paper, refuses, gives}
use Rattle.wire.specs.Prefix.{begins}
use Rattle.output.specs.Output.{over, room_for}
use Rattle.wire.specs.Wire.{word16_at}

-- the mark of a short packet, "I6" in ASCII, and of a long one, "I7"
abbrev pub mark : List ℕ
mark = 73 ∷ 54 ∷ []

abbrev pub long_mark : List ℕ
long_mark = 73 ∷ 55 ∷ []

-- the most bytes of a short packet, and of any
abbrev pub longest_short : ℕ
longest_short = 2048

abbrev pub longest : ℕ
longest = 9000

-- the mark of a packet's length (C9)
abbrev pub mark_of : ℕ → List ℕ
mark_of n = cond (nat_lt longest_short n) long_mark mark

-- whether the length is one that the mark at hand allows: the long mark, or the other
abbrev pub allows : Bool → ℕ → Bool
allows long n = cond long (nat_lt longest_short n && nat_le n longest) (nat_le n longest_short)

-- the parts of a record that begins with the first byte of s
abbrev pub hop_limit : List ℕ → ℕ
hop_limit s = slice_index s 2

abbrev pub source : List ℕ → List ℕ
source s = take 16 (drop 3 s)

abbrev pub destination : List ℕ → List ℕ
destination s = take 16 (drop 19 s)

abbrev pub packet_len : List ℕ → ℕ
packet_len s = word16_at s 35

abbrev pub packet : List ℕ → List ℕ
packet s = take (packet_len s) (drop 37 s)

-- whether s begins with one of the two marks, and whether its mark allows its length
unfoldable pub marked : List ℕ → Bool
marked s = begins mark s || begins long_mark s

unfoldable pub allowed : List ℕ → Bool
allowed s = allows (begins long_mark s) (packet_len s)

-- the address at a place: 16 bytes, 0 in place of those that are not there
abbrev pub address_at : List ℕ → ℕ → List ℕ
address_at s at = over (replicate 16 0) 0 (take 16 (drop at s))

-- a record from its parts: its mark follows from its packet's length
unfoldable pub record_bytes : ℕ → List ℕ → List ℕ → List ℕ → List ℕ
record_bytes hop src dst p = mark_of (length p) ++ (hop ∷ []) ++ src ++ dst ++ (length p / 256 ∷ length p % 256 ∷ []) ++ p

-- What stands at the head of s, the bytes from a place of the capture to its end: the tests of C2, in its order. If no byte is left the
-- capture ends. Told of a record: its hop limit and its packet's length.
unfoldable pub record_of : List ℕ → ℕ → Paper
record_of s place =
    cond (length s == 0) (gives [])
    (cond (nat_lt (length s) 2) (refuses 14 (place ∷ []))
    (cond (not (marked s)) (refuses 12 (place ∷ []))
    (cond (nat_lt (length s) 37) (refuses 14 (place ∷ []))
    (cond (not (allowed s)) (refuses 13 (packet_len s ∷ []))
    (cond (nat_lt (length s - 37) (packet_len s)) (refuses 14 (place ∷ []))
    (gives (hop_limit s ∷ packet_len s ∷ [])))))))

-- of a record alone two values are told
abbrev pub is_record : Paper → Bool
is_record p = length p.values == 2

-- and where its parts are, the record being at a place of some bytes: hop limit, places of source, destination and packet, the
-- packet's length, the next place
abbrev pub places : ℕ → ℕ → ℕ → List ℕ
places at hop len = hop ∷ (at + 3) ∷ (at + 19) ∷ (at + 37) ∷ len ∷ (at + 37 + len) ∷ []

abbrev pub record_placed : ℕ → Paper → Paper
record_placed at p = cond (is_record p) (gives (places at (slice_index p.values 0) (slice_index p.values 1))) p

-- a place of some bytes, counted from the start of the capture, in 64 bits
abbrev pub place_in : ℕ → ℕ → ℕ
place_in base at = (base + at) % 2 ^ 64

-- the record at a place of some bytes; a place beyond them is refused 14
unfoldable pub next_of : List ℕ → ℕ → ℕ → Paper
next_of s at base =
    cond (nat_lt (length s) at) (refuses 14 (place_in base at ∷ []))
    (record_placed at (record_of (drop at s) (place_in base at)))

-- an answer that is given only where a record can hold the packet, else refusal 13
unfoldable pub recorded : List ℕ → Paper → Paper
recorded p answer = cond (nat_lt longest (length p)) (refuses 13 (length p ∷ [])) answer

-- a record of a packet written at the start of an output: refusal 13, then 9, or its length
abbrev pub write_record_of : List ℕ → List ℕ → Paper
write_record_of p out = recorded p (room_for (37 + length p) out 0)
