-- A prefix information option for C: the numbers of the option beside those of the answer. All of them are 0 where it is refused.
-- Assumes nothing.
use Rattle.std.specs.Prelude.{ℕ, cond, List, eqb, get_or}
use Rattle.refusal.specs.Paper.{slots}
use Rattle.wire.specs.Wire.{flag_of}
use Rattle.prefix_information.specs.declared.PrefixInformation.{PrefixInformation}
use Rattle.prefix_information.specs.Prefix.{PrefixTold}
use Rattle.c_answer.specs.Answer.{REFUSED, PREFIX, none}
use Rattle.c_prefix.specs.declared.Prefix.{Prefix}

abbrev pub prefix : ℕ → ℕ → List ℕ → PrefixInformation → ℕ → Prefix
prefix answer refusal value i place =
    record {
      answer = answer;
      refusal = refusal;
      value = value;
      prefix_length = i.prefix_length;
      on_link = flag_of i.on_link 1;
      autonomous = flag_of i.autonomous_address_configuration 1;
      valid_lifetime = i.valid_lifetime;
      preferred_lifetime = i.preferred_lifetime;
      prefix = i.prefix;
      place = place;
    }

abbrev pub prefix_for : PrefixTold → Prefix
prefix_for t =
    cond (eqb t.paper.number 0) (prefix PREFIX 0 none t.information (get_or t.paper.values 0 0))
    (prefix REFUSED t.paper.number (slots t.paper.values) t.information 0)
