-- The prefix information that a C program gives number by number: a flag is set by any number but 0.
-- Assumes nothing.
use Rattle.std.specs.Prelude.{ℕ, not, List, eqb}
use Rattle.prefix_information.specs.declared.PrefixInformation.{PrefixInformation}

abbrev pub information_for : ℕ → ℕ → ℕ → ℕ → ℕ → List ℕ → PrefixInformation
information_for length on_link autonomous valid preferred prefix =
    record {
      prefix_length = length;
      on_link = not (eqb on_link 0);
      autonomous_address_configuration = not (eqb autonomous 0);
      valid_lifetime = valid;
      preferred_lifetime = preferred;
      prefix = prefix;
    }
