-- Two lists of one length, put one behind the other over a list of both lengths.
-- Assumes nothing.
use Rattle.std.proofs.Common.{ℕ, ◌≡◌, List, refl}
use lib.ListN.{length, take, drop, drop_of_length-le}
use mathlib.Core.List.{◌++◌}
use lib.Seq.{take_at, drop_at}
use native.Mathlib.Omega.{arith}
use Rattle.std.proofs.lemmas.List.{append-nil}

module _ (n : ℕ) (a b z : List ℕ) (first : length a ≡ n) (behind : length z ≡ n) where
  pub both : take n (a ++ z) ++ (b ++ drop n (drop n (a ++ z))) ≡ a ++ b
  both =
      rw (take_at a z n first, drop_at a z n first, drop_of_length-le z {i = n} (omega arith), append-nil b) refl
