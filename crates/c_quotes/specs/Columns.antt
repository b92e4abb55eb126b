-- The chain for C: its numbers in columns of eight, a row for each level, 0 behind the last. All are 0 where it is refused.
-- Assumes nothing.
use Rattle.std.specs.Prelude.{ℕ, ◌+◌, ◌<◌, cond, List, [], ◌∷◌, eqb, get_or}
use Rattle.paper.specs.Each.{Each}
use Rattle.refusal.specs.Paper.{slots}
use Rattle.quotes.specs.declared.Chain as quotes
use Rattle.quotes.specs.Told.{ChainTold}
use Rattle.c_answer.specs.Answer.{REFUSED, CHAIN, none}
use Rattle.c_quotes.specs.declared.Chain.{Chain}

-- every third number from the i-th on, eight of them
abbrev pub column : ℕ → List ℕ → List ℕ
column i n =
    get_or n i 0 ∷ get_or n (3 + i) 0 ∷ get_or n (6 + i) 0 ∷ get_or n (9 + i) 0 ∷ get_or n (12 + i) 0 ∷ get_or n (15 + i) 0 ∷ get_or n (18 + i) 0 ∷ get_or n (21 + i) 0 ∷ []

abbrev pub chain_with : ℕ → ℕ → List ℕ → quotes.Chain → Chain
chain_with answer refusal value c =
    record {
      answer = answer;
      refusal = refusal;
      value = value;
      kind = get_or c.numbers 0 0;
      levels = c.levels;
      quote = column 1 c.numbers;
      next_header = column 2 c.numbers;
      level_kind = column 3 c.numbers;
    }

unfoldable pub chain_for : ChainTold → Chain
chain_for t =
    cond (eqb t.paper.number 0) (chain_with CHAIN 0 none t.chain)
    (chain_with REFUSED t.paper.number (slots t.paper.values) t.chain)

-- numbers that fit: few levels, and bytes for next headers and kinds
abbrev pub Byte : ℕ → Type 0
Byte x = x < 256

pub record Narrow (c : quotes.Chain) : Type 0 where
  pub few : c.levels < 9
  pub next : Each Byte (column 2 c.numbers)
  pub kind : Each Byte (column 3 c.numbers)
