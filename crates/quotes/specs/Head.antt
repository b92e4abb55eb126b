-- The head of a quoted packet (RFC 8200, section 3): 40 bytes, of which two fields are looked at.
-- Assumes nothing.
use Rattle.std.specs.Prelude.{ℕ, ◌/◌, List, get_or}

abbrev pub head_len : ℕ
head_len = 40

-- the high half of the first byte
abbrev pub version : List ℕ → ℕ
version s = get_or s 0 0 / 16

abbrev pub next_header : List ℕ → ℕ
next_header s = get_or s 6 0

-- the next header of an ICMPv6 message (RFC 4443, section 1)
abbrev pub icmpv6 : ℕ
icmpv6 = 58
