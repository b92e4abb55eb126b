-- The walk of docs/RULES.md, W1 to W6, and a step of it: those of the edition's rule of the types.
-- Assumes nothing.
use Rattle.std.specs.Prelude.{ℕ, List}
use Rattle.ndp_walk.specs.Walk.{Walk}
use Rattle.ndp_walk.specs.Walk as by
use Rattle.ndp_walk.specs.Step.{Told, step_by}
use Rattle.ndp_options.specs.Editions.{rule_by}
use Rattle.ndp_options.specs.declared.Edition.{Edition}

abbrev pub walk : Edition → List ℕ → Walk
walk e s = by.walk (rule_by e) s

abbrev pub walk_from : Edition → ℕ → List ℕ → Walk
walk_from e at l = by.walk_from (rule_by e) at l

abbrev pub step_of : Edition → ℕ → List ℕ → ℕ → Told
step_of e offset s at = step_by (rule_by e) offset s at
