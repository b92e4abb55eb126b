-- The number and values of each case of the answers, and what a lent list of numbers then holds.
-- Assumes nothing.
use Rattle.std.specs.Prelude.{ℕ, ◌+◌, ◌*◌, ◌/◌, cond, List, [], ◌∷◌, ◌++◌, ◌≡◌, eqb, length, take, drop, replicate}
use Rattle.paper.specs.Paper.{Paper, gives}
use Rattle.output.specs.Output.{over}
use Rattle.ndp_options.specs.declared.Edition.{Edition}
use Rattle.quotes.specs.Chain.{onward, chain_of}
use Rattle.quotes.specs.declared.Found.{Found}
use Rattle.quotes.specs.declared.Span.{Span}
use Rattle.quotes.specs.declared.Chain.{Chain}
use Rattle.std.specs.Prelude.{Result, Ok, Err, Option, Some, None}
use Rattle.refusal.specs.Told.{told}
use Rattle.refusal.specs.declared.Refusal.{Refusal}

-- ---- the public call
-- the numbers that a chain says are its own
abbrev pub chain_numbers : Chain → List ℕ
chain_numbers c = take (1 + 3 * c.levels) c.numbers

-- the answer: the chain's numbers, or the refusal
abbrev pub answer_told : Result Chain Refusal → Paper
answer_told = told chain_numbers

-- the answer on paper, and the chain beside it
pub record ChainTold : Type 0 where
  pub paper : Paper
  pub chain : Chain

abbrev pub told_with : Paper → Chain → ChainTold
told_with p c = record { paper = p; chain = c }

-- a chain of these numbers, and 0 behind them: as many as eight levels have (docs/RULES.md Q10, Q11)
abbrev pub chain_with : List ℕ → Chain
chain_with v = record { levels = length v / 3; numbers = v ++ drop (length v) (replicate (1 + 3 * 8) 0) }

-- the chain itself, and beside a refusal no numbers, so that all are 0
abbrev pub beside : Result Chain Refusal → Chain
beside (Ok c) = c
beside (Err why) = chain_with []

abbrev pub chain_told : Result Chain Refusal → ChainTold
chain_told r = told_with (answer_told r) (beside r)

-- by the answer: the chain's numbers beside it, and of a refusal no numbers, so that all are 0
abbrev pub chain_by : Paper → ChainTold
chain_by p = told_with p (chain_with (cond (eqb p.number 0) p.values []))

unfoldable pub read_of : Edition → List ℕ → ChainTold
read_of e packet = chain_by (chain_of e packet)

-- ---- within
-- a kind, and behind it from where to where the quote stands, if there is one
abbrev pub span_numbers : Option Span → List ℕ
span_numbers None = []
span_numbers (Some q) = q.from ∷ q.to ∷ []

abbrev pub found_told : Result Found Refusal → Paper
found_told = told (λ f. f.kind ∷ span_numbers f.quote)

abbrev pub read_told : Result ℕ Refusal → Paper
read_told = told (λ n. n ∷ [])

-- the place behind a chain's numbers, which begin at a place of the list; or its refusal
abbrev pub told_at : ℕ → Paper → Paper
told_at at p = onward (λ (v : List ℕ). gives ((at + length v) ∷ [])) p

-- what a chain leaves in the list that was lent: its numbers, over those from a place on. Of a refusal nothing is said
abbrev pub Puts : Paper → ℕ → List ℕ → List ℕ → Type 0
Puts p at before behind = p.number ≡ 0 → behind ≡ over before at p.values
