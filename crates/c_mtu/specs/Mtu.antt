-- An MTU option for C: the MTU and the option's place, beside the numbers of the answer. All of them are 0 where it is refused.
-- Assumes nothing.
use Rattle.std.specs.Prelude.{ℕ, cond, List, eqb}
use Rattle.paper.specs.Paper.{Paper, value}
use Rattle.refusal.specs.Paper.{slots}
use Rattle.c_answer.specs.Answer.{REFUSED, MTU, none}
use Rattle.c_mtu.specs.declared.Mtu.{Mtu}

abbrev pub mtu_with : ℕ → ℕ → List ℕ → ℕ → ℕ → ℕ → Mtu
mtu_with answer refusal value kind mtu place =
    record { answer = answer; refusal = refusal; value = value; kind = kind; mtu = mtu; place = place }

-- 5 is the kind of the option
unfoldable pub mtu_for : Paper → Mtu
mtu_for p =
    cond (eqb p.number 0) (mtu_with MTU 0 none 5 (value 0 p) (value 1 p))
    (mtu_with REFUSED p.number (slots p.values) 0 0 0)
