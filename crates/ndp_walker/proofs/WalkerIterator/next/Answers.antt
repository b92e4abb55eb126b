-- `next` gives what a step hands out or refuses, and goes on at the next place; at an end and in a walk that is stopped nothing is left, and the walker
-- stays where it is.
-- Assumes nothing.
use Rattle.std.proofs.Common.{◌∷◌, ap, inl, inr, rules, sym, ◌∙◌, ◌≡◌, ℕ}
use Rattle.paper.specs.Paper.{gives}
use Rattle.refusal.specs.Paper.{refusal}
use Rattle.ndp_options.specs.Editions.{edition_of}
use Rattle.ndp_options.specs.Told.{step_told}
use Rattle.ndp_options.specs.Walk.{step_of}
use Rattle.ndp_walker.specs.Left.{option_numbers, left_of, place_after, walker_after}
use Rattle.ndp_walker.specs.declared.Walker.{Walker}
use Rattle.ndp_walker.proofs.Left.{left-handed, left-refused, left-ended, left-stopped, on-handed, on-refused, shorter}
use Rattle.ndp_walker.proofs.WalkerIterator.next.Goals as goal
use Rattle.ndp_walker.proofs.WalkerIterator.next.Goals.{In-Handed, In-Refused}

handed : (c : In-Handed) → let w = c.args.self.now in
    left_of (edition_of w.edition) w.offset w.options.now w.at ≡ gives (option_numbers c.in-Handed.option) ∷ left_of (edition_of w.edition) w.offset w.options.now c.in-Handed.next.at
handed c =
    let w = c.args.self.now in
    left-handed (edition_of w.edition) w.offset w.options.now w.at c.in-Handed.option c.in-Handed.next c.in-Handed.ensures

refused : (c : In-Refused) → let w = c.args.self.now in
    left_of (edition_of w.edition) w.offset w.options.now w.at ≡ refusal c.in-Refused.why ∷ left_of (edition_of w.edition) w.offset w.options.now c.in-Refused.next.at
refused c =
    let w = c.args.self.now in
    left-refused (edition_of w.edition) w.offset w.options.now w.at c.in-Refused.why c.in-Refused.next c.in-Refused.ensures

-- a walker that is moved to the place behind its step
behind : (w : Walker) {n : ℕ} → n ≡ place_after w.at (step_of (edition_of w.edition) w.offset w.options.now w.at) →
    record { options = w.options; offset = w.offset; edition = w.edition; at = n } ≡ walker_after w
behind w e = ap (λ (n : ℕ). record { options = w.options; offset = w.offset; edition = w.edition; at = n }) e

pub returns-in-Handed-clause-steps : goal.returns-in-Handed-clause-steps
returns-in-Handed-clause-steps c =
    let a = (goal.at.returns-in-Handed-clause-steps c).In-Handed in
    let w = a.args.self.now in
    (behind w (on-handed (edition_of w.edition) w.offset w.options.now w.at a.in-Handed.option a.in-Handed.next a.in-Handed.ensures), handed a)

pub returns-in-Handed-clause-goes : goal.returns-in-Handed-clause-goes
returns-in-Handed-clause-goes c = let less = shorter (handed (goal.at.returns-in-Handed-clause-goes c).In-Handed) in search (rules, less)

pub returns-in-Refused-clause-steps : goal.returns-in-Refused-clause-steps
returns-in-Refused-clause-steps c =
    let a = (goal.at.returns-in-Refused-clause-steps c).In-Refused in
    let w = a.args.self.now in
    (behind w (on-refused (edition_of w.edition) w.offset w.options.now w.at a.in-Refused.why a.in-Refused.next a.in-Refused.ensures), refused a)

pub returns-in-Refused-clause-goes : goal.returns-in-Refused-clause-goes
returns-in-Refused-clause-goes c = let less = shorter (refused (goal.at.returns-in-Refused-clause-goes c).In-Refused) in search (rules, less)

pub returns-in-End-clause-steps : goal.returns-in-End-clause-steps
returns-in-End-clause-steps c =
    let w = c.args.self.now in
    elim c.in-End.is [
      | inl e ↦
          let q = sym (ap step_told e) ∙ c.step_at.ensures in
          let nothing = left-ended (edition_of w.edition) w.offset w.options.now w.at q in
          (behind w (rw (← q)), (nothing, nothing))
      | inr e ↦
          let q = sym (ap step_told e) ∙ c.step_at.ensures in
          let nothing = left-stopped (edition_of w.edition) w.offset w.options.now w.at q in
          (behind w (rw (← q)), (nothing, nothing))
    ]
