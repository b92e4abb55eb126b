-- docs/RULES.md O13 and O14 (RFC 8106, section 5.1): 25, units, two reserved bytes, which are not looked at, the lifetime, and the addresses.
-- Assumes nothing.
use Rattle.std.specs.Prelude.{ℕ, ◌+◌, ◌-◌, ◌*◌, ◌/◌, List, [], ◌∷◌, Result, length, take, drop}
use Rattle.paper.specs.Paper.{Paper, gives}
use Rattle.refusal.specs.Told.{told}
use Rattle.wire.specs.Wire.{word32_at}
use Rattle.ndp_option_read.specs.Rule.{if_read}
use Rattle.ndp_option_second.specs.Rule.{judged_of}
use Rattle.refusal.specs.declared.Refusal.{Refusal}
use Rattle.recursive_dns_servers.specs.declared.RecursiveDnsServers.{RecursiveDnsServers}

-- how many addresses of 16 bytes
abbrev pub count_in : List ℕ → ℕ
count_in s = (length s - 8) / 16

-- by the rule's answer: the lifetime and how many servers
unfoldable pub servers_of : List ℕ → Paper
servers_of s = if_read (judged_of 25 s) (gives (word32_at s 4 ∷ count_in s ∷ [])) (judged_of 25 s)

-- the 16 bytes of an address; none past the last, and none where the option is refused
unfoldable pub address_of : ℕ → List ℕ → List ℕ
address_of i s = if_read (judged_of 25 s) (take 16 (drop (8 + 16 * i) s)) []

-- lifetime, count and place
abbrev pub servers_numbers : RecursiveDnsServers → List ℕ
servers_numbers r = r.lifetime ∷ r.count ∷ r.place ∷ []

abbrev pub servers_told : Result RecursiveDnsServers Refusal → Paper
servers_told r = told servers_numbers r
