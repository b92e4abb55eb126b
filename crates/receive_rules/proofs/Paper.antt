-- The number of a reason loses nothing: it can be taken back.
-- Assumes nothing.
use Rattle.std.proofs.Common.{ℕ, ◌≡◌, refl, Option, None, Some, cond, false}
use lib.Dec.{eqb}
use Rattle.paper.proofs.Lossless.{lossless}
use Rattle.receive_rules.specs.declared.Reason.{Reason}
use Rattle.receive_rules.specs.declared.Reason.TheVariants.{HopLimit, Checksum, Code, Length, Options, Addresses, Target, OptionAgainstSource}
use Rattle.receive_rules.specs.Reasons.{reason_number, reason_told}

abbrev reason_of : ℕ → Option Reason
reason_of n =
    cond (eqb n 0) None
    (cond (eqb n 1) (Some HopLimit)
    (cond (eqb n 2) (Some Checksum)
    (cond (eqb n 3) (Some Code)
    (cond (eqb n 4) (Some Length)
    (cond (eqb n 5) (Some Options)
    (cond (eqb n 6) (Some Addresses)
    (cond (eqb n 7) (Some Target) (Some OptionAgainstSource))))))))

reason_back : (r : Option Reason) → reason_of (reason_told r) ≡ r
reason_back None = refl
reason_back (Some HopLimit) = refl
reason_back (Some Checksum) = refl
reason_back (Some Code) = refl
reason_back (Some Length) = refl
reason_back (Some Options) = refl
reason_back (Some Addresses) = refl
reason_back (Some Target) = refl
reason_back (Some OptionAgainstSource) = refl

pub reason-lossless : (x y : Option Reason) → reason_told x ≡ reason_told y → x ≡ y
reason-lossless = lossless reason_told reason_of reason_back

-- no reason has the number 0, which is that of none
pub numbered : (r : Reason) → eqb (reason_number r) 0 ≡ false
numbered HopLimit = refl
numbered Checksum = refl
numbered Code = refl
numbered Length = refl
numbered Options = refl
numbered Addresses = refl
numbered Target = refl
numbered OptionAgainstSource = refl
