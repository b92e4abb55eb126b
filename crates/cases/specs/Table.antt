-- docs/RULES.md P1 to P14, the worked cases: what each call answers, as one table over the definitions that the calls promise. Walks and
-- steps are those of the first edition.
-- Assumes nothing.
use Rattle.std.specs.Prelude.{ℕ, ◌≡◌, true, List, [], ◌∷◌, ◌++◌, length, replicate}
use Rattle.paper.specs.Paper.{Paper, refuses, gives}
use Rattle.icmpv6.specs.Head.{decode_of}
use Rattle.ndp_walk.specs.Walk.{Walk, clean, refused}
use Rattle.ndp_walk.specs.Step.{Told, told, ended, stopped}
use Rattle.ndp_options.specs.Walk.{walk_from, step_of}
use Rattle.ndp_options.specs.declared.Edition.TheVariants.{First}
use Rattle.prefix_information.specs.declared.PrefixInformation.{PrefixInformation}
use Rattle.prefix_information.specs.Prefix.{prefix_of, information_at, bytes_of, no_information}
use Rattle.prefix_information.specs.Prefix as prefix
use Rattle.checksum.specs.Icmpv6.{verdict_of, valid, invalid}
use Rattle.icmpv6_payload_slice.specs.Dispatch.{payload_of}

-- a call, what it is given, and what it answers
pub data Case : Type 0 where
  decodes : List ℕ → Paper → Case
  -- of option bytes, the first number is the offset at which they begin in the packet
  walks : ℕ → List ℕ → Walk → Case
  steps : ℕ → List ℕ → ℕ → Told → Case
  reads : ℕ → List ℕ → Paper → PrefixInformation → Case
  rewrites : List ℕ → List ℕ → Case
  validates : List ℕ → List ℕ → List ℕ → Paper → Case
  dispatches : ℕ → List ℕ → Paper → Case

abbrev pub Claim : Case → Type 0
Claim (decodes packet answer) = decode_of packet ≡ answer
Claim (walks offset options answer) = walk_from First offset options ≡ answer
Claim (steps offset options at answer) = step_of First offset options at ≡ answer
Claim (reads offset option answer information) = prefix_of offset option ≡ prefix.told_with answer information
Claim (rewrites option bytes) = bytes_of (information_at option) ≡ bytes
Claim (validates source destination packet answer) = verdict_of source destination packet ≡ answer
Claim (dispatches kind payload answer) = payload_of 0 kind (length payload) ≡ answer

abbrev pub zeros : ℕ → List ℕ
zeros n = replicate n 0

-- fe80::1 and ff02::2
abbrev pub router : List ℕ
router = 0xfe ∷ 0x80 ∷ (zeros 13 ++ 1 ∷ [])

abbrev pub everyone : List ℕ
everyone = 0xff ∷ 0x02 ∷ (zeros 13 ++ 2 ∷ [])

-- the first packet of the dump's listing, with a field
abbrev pub solicitation : ℕ → ℕ → List ℕ
solicitation a b = 0x85 ∷ 0 ∷ a ∷ b ∷ 0 ∷ 0 ∷ 0 ∷ 0 ∷ 1 ∷ 1 ∷ 2 ∷ 0 ∷ 0 ∷ 0 ∷ 0 ∷ 1 ∷ []

abbrev echo : ℕ → ℕ → List ℕ
echo a b = 0x80 ∷ 0 ∷ a ∷ b ∷ 0x7f ∷ 0xbd ∷ 0 ∷ 0 ∷ []

-- P9's option with these flags
abbrev pub option : ℕ → List ℕ
option flags =
    3 ∷ 4 ∷ 0x40 ∷ flags ∷ 0 ∷ 1 ∷ 0x51 ∷ 0x80 ∷ 0 ∷ 0 ∷ 0x38 ∷ 0x40 ∷ (zeros 4 ++ (0x20 ∷ 1 ∷ 0x0d ∷ 0xb8 ∷ zeros 12))

-- 64, both flags, 86,400, 14,400
abbrev information : PrefixInformation
information =
    record {
      prefix_length = 64;
      on_link = true;
      autonomous_address_configuration = true;
      valid_lifetime = 86400;
      preferred_lifetime = 14400;
      prefix = 0x20 ∷ 1 ∷ 0x0d ∷ 0xb8 ∷ zeros 12;
    }

abbrev pub table : List Case
table =
    -- P1 7 bytes: 1 (8, 7)
    decodes (zeros 7) (refuses 1 (8 ∷ 7 ∷ []))
    -- P2 type 128 code 1: Unknown
    ∷ decodes (128 ∷ 1 ∷ zeros 6) (gives (0 ∷ 0 ∷ 0 ∷ 128 ∷ 1 ∷ 0 ∷ []))
    -- P3 02 00 00 00 00 00 05 00: too big, MTU 1,280
    ∷ decodes (2 ∷ zeros 5 ++ (5 ∷ 0 ∷ [])) (gives (0 ∷ 1280 ∷ 2 ∷ 1280 ∷ []))
    -- P4 no options: End
    ∷ walks 0 [] clean
    ∷ walks 8 [] clean
    ∷ steps 0 [] 0 ended
    ∷ steps 8 [] 0 ended
    -- P5 01: 5 (1, 2, 1) and its place, then Stopped
    ∷ steps 0 (1 ∷ []) 0 (told (refuses 5 (1 ∷ 2 ∷ 1 ∷ 0 ∷ [])) 2)
    ∷ steps 8 (1 ∷ []) 0 (told (refuses 5 (1 ∷ 2 ∷ 1 ∷ 8 ∷ [])) 2)
    ∷ steps 0 (1 ∷ []) 2 stopped
    ∷ steps 8 (1 ∷ []) 2 stopped
    -- P6 01 00: 6 (1) and its place
    ∷ walks 0 (1 ∷ 0 ∷ []) (refused 0 (refuses 6 (1 ∷ [])))
    ∷ steps 0 (1 ∷ 0 ∷ []) 0 (told (refuses 6 (1 ∷ 0 ∷ [])) 3)
    ∷ steps 8 (1 ∷ 0 ∷ []) 0 (told (refuses 6 (1 ∷ 8 ∷ [])) 3)
    -- P7 01 02 and six 00: 7 (1, 16, 8) and its place
    ∷ walks 8 (1 ∷ 2 ∷ zeros 6) (refused 8 (refuses 7 (1 ∷ 16 ∷ 8 ∷ [])))
    ∷ steps 0 (1 ∷ 2 ∷ zeros 6) 0 (told (refuses 7 (1 ∷ 16 ∷ 8 ∷ 0 ∷ [])) 9)
    ∷ steps 8 (1 ∷ 2 ∷ zeros 6) 0 (told (refuses 7 (1 ∷ 16 ∷ 8 ∷ 8 ∷ [])) 9)
    -- P8 24 bytes from 03 03: 5 (3, 32, 24) and their place
    ∷ reads 0 (3 ∷ 3 ∷ zeros 22) (refuses 5 (3 ∷ 32 ∷ 24 ∷ 0 ∷ [])) no_information
    ∷ reads 8 (3 ∷ 3 ∷ zeros 22) (refuses 5 (3 ∷ 32 ∷ 24 ∷ 8 ∷ [])) no_information
    -- P9: 64, both flags, 86,400, 14,400
    ∷ reads 0 (option 0xc0) (gives (0 ∷ [])) information
    -- P10 flags ff: same value, written c0
    ∷ reads 0 (option 0xff) (gives (0 ∷ [])) information
    ∷ rewrites (option 0xff) (option 0xc0)
    -- P11 the first dump packet validates
    ∷ validates router everyone (solicitation 0x7a 0x2c) valid
    -- P12 with field 7a2d it does not
    ∷ validates router everyone (solicitation 0x7a 0x2d) invalid
    -- P13 zero addresses: validates, also with field ff ff
    ∷ validates (zeros 16) (zeros 16) (echo 0 0) valid
    ∷ validates (zeros 16) (zeros 16) (echo 0xff 0xff) valid
    -- P14 type 135, payload 15: 4 (16, 15)
    ∷ dispatches 135 (zeros 15) (refuses 4 (16 ∷ 15 ∷ []))
    ∷ []
