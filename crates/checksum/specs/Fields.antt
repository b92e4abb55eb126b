-- Which of all values of the checksum field validate.
-- Assumes nothing.
use Rattle.std.specs.Prelude.{ℕ, zero, suc, Bool, false, cond, List, [], ◌∷◌, ◌++◌, eqb, get_or}
use Rattle.paper.specs.Paper.{Paper}
use Rattle.checksum.specs.Icmpv6.{with_field, verdict_of}

-- the numbers below n that pass a test, in order
unfoldable pub passing : (ℕ → Bool) → ℕ → List ℕ
passing t zero = []
passing t (suc n) = passing t n ++ cond (t n) (n ∷ []) []

-- whether an answer is that of a packet that validates
abbrev pub is_valid : Paper → Bool
is_valid p = cond (eqb p.number 0) (eqb (get_or p.values 0 0) 1) false

abbrev pub valid_fields : List ℕ → List ℕ → List ℕ → List ℕ
valid_fields source destination packet = passing (λ f. is_valid (verdict_of source destination (with_field packet f))) 65536
