-- docs/RULES.md O4 to O6 (RFC 4861, section 4.6.2): the prefix information option, read and written.
-- Assumes nothing.
use Rattle.std.specs.Prelude.{ℕ, ◌+◌, false, List, [], ◌∷◌, ◌++◌, Result, Ok, Err, get_or, drop, replicate}
use Rattle.paper.specs.Paper.{Paper, gives}
use Rattle.refusal.specs.declared.Refusal.{Refusal}
use Rattle.refusal.specs.Paper.{refusal}
use Rattle.packet_place.specs.Place.{placed}
use Rattle.wire.specs.Wire.{word32_at, bytes32, has_flag, flag_of}
use Rattle.prefix_information.specs.declared.PrefixInformation.{PrefixInformation}
use Rattle.ndp_option_read.specs.Rule.{headed, exactly_of, if_read}

-- what the bytes say: 128 is on-link, 64 autonomous; the other bits of the flags and the bytes 12 to 15 are reserved
abbrev pub information_at : List ℕ → PrefixInformation
information_at s =
    record {
      prefix_length = get_or s 2 0;
      on_link = has_flag (get_or s 3 0) 128;
      autonomous_address_configuration = has_flag (get_or s 3 0) 64;
      valid_lifetime = word32_at s 4;
      preferred_lifetime = word32_at s 8;
      prefix = drop 16 s;
    }

-- the bytes that say so, every reserved bit 0
abbrev pub bytes_of : PrefixInformation → List ℕ
bytes_of i =
    3 ∷ 4 ∷ i.prefix_length ∷ (flag_of i.on_link 128 + flag_of i.autonomous_address_configuration 64)
    ∷ bytes32 i.valid_lifetime ++ bytes32 i.preferred_lifetime ++ replicate 4 0 ++ i.prefix

abbrev pub no_information : PrefixInformation
no_information =
    record {
      prefix_length = 0;
      on_link = false;
      autonomous_address_configuration = false;
      valid_lifetime = 0;
      preferred_lifetime = 0;
      prefix = replicate 16 0;
    }

-- an answer: the number and values, and what the option says beside them
pub record PrefixTold : Type 0 where
  pub paper : Paper
  pub information : PrefixInformation

abbrev pub told_with : Paper → PrefixInformation → PrefixTold
told_with p i = record { paper = p; information = i }

-- the place of the option, and what it says; nothing where it is refused
abbrev pub prefix_told : Result (PrefixInformation × ℕ) Refusal → PrefixTold
prefix_told (Ok (i, place)) = told_with (gives (place ∷ [])) i
prefix_told (Err why) = told_with (refusal why) no_information

-- by the rule's answer: what the bytes say, and nothing where it refuses
abbrev pub prefix_by : Paper → List ℕ → PrefixTold
prefix_by p s = told_with p (if_read p (information_at s) no_information)

-- 32 bytes at an offset: the header is judged alone
unfoldable pub prefix_of32 : ℕ → List ℕ → PrefixTold
prefix_of32 offset s = prefix_by (placed offset s (headed 3 4 s)) s

-- any bytes at an offset: first their number
unfoldable pub prefix_of : ℕ → List ℕ → PrefixTold
prefix_of offset s = prefix_by (placed offset s (exactly_of 3 4 s)) s
