-- The edition picks the rule, and nothing else knows it.
-- Assumes nothing.
use Rattle.std.specs.Prelude.{ℕ, cond, ltb, eqb}
use Rattle.ndp_walk.specs.Judge.{Rule}
use Rattle.ndp_options.specs.Rule.{rule}
use Rattle.ndp_options.specs.Second.{second}
use Rattle.ndp_options.specs.declared.Edition.{Edition}
use Rattle.ndp_options.specs.declared.Edition.TheVariants.{First, Second}

unfoldable pub rule_by : Edition → Rule
rule_by First = rule
rule_by Second = second

-- of a number: 2 is the second, every other the first
abbrev pub edition_of : ℕ → Edition
edition_of n = cond (eqb n 2) Second First

abbrev pub edition_number : Edition → ℕ
edition_number First = 1
edition_number Second = 2

-- the kind that the first edition shows of a type: the types above 5 are unknown to it
abbrev pub shown_first : ℕ → ℕ → ℕ
shown_first type kind = cond (ltb 5 type) 0 kind
