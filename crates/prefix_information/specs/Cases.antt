-- The cases P8 to P10 of docs/RULES.md, and three beside them: bytes with what reading them answers, and what reading and writing them gives.
-- Assumes nothing.
use Rattle.std.specs.Prelude.{ℕ, ◌≡◌, true, List, [], ◌∷◌, ◌++◌, replicate}
use Rattle.paper.specs.Paper.{refuses, gives}
use Rattle.prefix_information.specs.declared.PrefixInformation.{PrefixInformation}
use Rattle.prefix_information.specs.Prefix.{PrefixTold, told_with, prefix_of, no_information, information_at, bytes_of}

-- an option with this header, prefix length and flags; what follows is P9's
abbrev option : ℕ → ℕ → ℕ → ℕ → List ℕ
option id units length flags =
    id ∷ units ∷ length ∷ flags ∷ 0 ∷ 1 ∷ 81 ∷ 128 ∷ 0 ∷ 0 ∷ 56 ∷ 64 ∷ replicate 4 0 ++ 32 ∷ 1 ∷ 13 ∷ 184 ∷ replicate 12 0

-- a prefix length, both flags, 86,400 and 14,400 seconds, 2001:db8::
abbrev information : ℕ → PrefixInformation
information length =
    record {
      prefix_length = length;
      on_link = true;
      autonomous_address_configuration = true;
      valid_lifetime = 86400;
      preferred_lifetime = 14400;
      prefix = 32 ∷ 1 ∷ 13 ∷ 184 ∷ replicate 12 0;
    }

pub data Case : Type 0 where
  -- these bytes at an offset are answered so
  reads : ℕ → List ℕ → PrefixTold → Case
  -- what these bytes say is written so
  writes : List ℕ → List ℕ → Case

abbrev pub Claim : Case → Type 0
Claim (reads o s t) = prefix_of o s ≡ t
Claim (writes s t) = bytes_of (information_at s) ≡ t

abbrev pub table : List Case
table =
    -- P8
    reads 0 (3 ∷ 3 ∷ replicate 22 0) (told_with (refuses 5 (3 ∷ 32 ∷ 24 ∷ 0 ∷ [])) no_information)
    ∷ reads 8 (3 ∷ 3 ∷ replicate 22 0) (told_with (refuses 5 (3 ∷ 32 ∷ 24 ∷ 8 ∷ [])) no_information)
    -- P9
    ∷ reads 0 (option 3 4 64 192) (told_with (gives (0 ∷ [])) (information 64))
    ∷ reads 16 (option 3 4 64 192) (told_with (gives (16 ∷ [])) (information 64))
    -- P10
    ∷ reads 0 (option 3 4 64 255) (told_with (gives (0 ∷ [])) (information 64))
    ∷ writes (option 3 4 64 255) (option 3 4 64 192)
    -- a prefix length above 128
    ∷ reads 0 (option 3 4 200 192) (told_with (gives (0 ∷ [])) (information 200))
    -- 32 bytes with another header
    ∷ reads 0 (option 4 4 64 192) (told_with (refuses 8 (3 ∷ 4 ∷ 4 ∷ 4 ∷ 0 ∷ [])) no_information)
    ∷ reads 40 (option 3 5 64 192) (told_with (refuses 8 (3 ∷ 3 ∷ 4 ∷ 5 ∷ 40 ∷ [])) no_information)
    -- the last place that can be told, and one further on
    ∷ reads 4294967263 (option 3 4 64 192) (told_with (gives (4294967263 ∷ [])) (information 64))
    ∷ reads 4294967264 (option 3 4 64 192) (told_with (refuses 22 []) no_information)
    ∷ []
