-- RFC 4861, section 4.6.4: 5, 1, two reserved bytes, which are not looked at, and the MTU.
-- Assumes nothing.
use Rattle.std.specs.Prelude.{ℕ, List, [], ◌∷◌, Result}
use Rattle.paper.specs.Paper.{Paper, gives}
use Rattle.refusal.specs.Told.{told}
use Rattle.wire.specs.Wire.{word32_at}
use Rattle.ndp_option.specs.declared.mtu_option.MtuOption.{MtuOption}
use Rattle.ndp_option_read.specs.Rule.{exactly_of, if_read}
use Rattle.refusal.specs.declared.Refusal.{Refusal}

abbrev pub mtu_numbers : MtuOption → List ℕ
mtu_numbers m = m.mtu ∷ m.place ∷ []

abbrev pub mtu_told : Result MtuOption Refusal → Paper
mtu_told r = told mtu_numbers r

unfoldable pub mtu_of : List ℕ → Paper
mtu_of s = if_read (exactly_of 5 1 s) (gives (word32_at s 4 ∷ [])) (exactly_of 5 1 s)
