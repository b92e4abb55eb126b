-- A list of reasons in the order in which they are tested: the first that holds is the one that is named.
-- Assumes nothing.
use Rattle.std.specs.Prelude.{ℕ, ◌≡◌, Bool, true, false, cond, List, [], ◌∷◌, Option, Some}
use Rattle.std.specs.Prelude as std
use Rattle.receive_rules.specs.declared.Reason as declared
use Rattle.receive_rules.specs.declared.Reason.TheVariants.{HopLimit, Checksum, Code, Length, Options, Addresses, Target, OptionAgainstSource}

-- the number of a reason not to receive a packet, and whether it holds
pub record Reason : Type 0 where
  pub number : ℕ
  pub holds : Bool

abbrev pub reason : ℕ → Bool → Reason
reason n b = record { number = n; holds = b }

-- the number of the first that holds, 0 where none does
unfoldable pub first_of : List Reason → ℕ
first_of [] = 0
first_of (r ∷ rs) = cond r.holds r.number (first_of rs)

-- none holds
abbrev pub None : List Reason → Type 0
None [] = Unit {0}
None (r ∷ rs) = (r.holds ≡ false) × None rs

-- n holds, and none before it
pub data First (n : ℕ) : List Reason → Type 0 where
  here : {r : Reason} {rs : List Reason} → r.number ≡ n → r.holds ≡ true → First n (r ∷ rs)
  later : {r : Reason} {rs : List Reason} → r.holds ≡ false → First n rs → First n (r ∷ rs)

-- the number of a reason, and of an answer: 0 where there is none
abbrev pub reason_number : declared.Reason → ℕ
reason_number HopLimit = 1
reason_number Checksum = 2
reason_number Code = 3
reason_number Length = 4
reason_number Options = 5
reason_number Addresses = 6
reason_number Target = 7
reason_number OptionAgainstSource = 8

abbrev pub reason_told : Option declared.Reason → ℕ
reason_told std.None = 0
reason_told (Some r) = reason_number r
