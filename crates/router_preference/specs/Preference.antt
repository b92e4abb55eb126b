-- RFC 4191, section 2.1: how far a router or a route is preferred, told by bits 16 and 8 of a byte of flags. 01 is high, 00 medium, 11 low; 10 is
-- reserved. What is made of a reserved one depends on who told it: a router's is medium (section 2.2), a route's is ignored (section 2.3).
-- Assumes nothing.
use Rattle.std.specs.Prelude.{ℕ, ◌/◌, ◌%◌, Bool, cond, eqb}
use Rattle.router_preference.specs.declared.RouterPreference.{RouterPreference}
use Rattle.router_preference.specs.declared.RouterPreference.TheVariants.{Medium, High, Low}

-- the two bits as a number
abbrev pub preference_bits : ℕ → ℕ
preference_bits flags = flags / 8 % 4

abbrev pub is_reserved : ℕ → Bool
is_reserved flags = eqb (preference_bits flags) 2

-- what is told of them: themselves, and medium for the reserved ones
abbrev pub preference_of : ℕ → ℕ
preference_of flags = cond (is_reserved flags) 0 (preference_bits flags)

abbrev pub preference_number : RouterPreference → ℕ
preference_number Medium = 0
preference_number High = 1
preference_number Low = 3

-- the preference that a number tells
abbrev pub preference_from : ℕ → RouterPreference
preference_from n = cond (eqb n 1) High (cond (eqb n 3) Low Medium)
