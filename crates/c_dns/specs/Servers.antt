-- A recursive DNS server option for C: the numbers of the option beside those of the answer. All of them are 0 where it is refused.
-- Assumes nothing.
use Rattle.std.specs.Prelude.{ℕ, cond, List, eqb, get_or}
use Rattle.paper.specs.Paper.{Paper}
use Rattle.refusal.specs.Paper.{slots}
use Rattle.c_answer.specs.Answer.{REFUSED, SERVERS, none}
use Rattle.c_dns.specs.declared.Servers.{Servers}

abbrev pub servers : ℕ → ℕ → List ℕ → ℕ → ℕ → ℕ → Servers
servers answer refusal value lifetime count place =
    record { answer = answer; refusal = refusal; value = value; lifetime = lifetime; count = count; place = place }

unfoldable pub servers_for : Paper → Servers
servers_for p =
    cond (eqb p.number 0) (servers SERVERS 0 none (get_or p.values 0 0) (get_or p.values 1 0) (get_or p.values 2 0))
    (servers REFUSED p.number (slots p.values) 0 0 0)
