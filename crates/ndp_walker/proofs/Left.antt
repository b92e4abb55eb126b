-- A step, and what is left of a walk: what a step hands out or refuses stands first, and the rest is what is left at the next place. That place is not 0,
-- so a walker goes on there.
-- Assumes nothing.
use Prim.Native.Nat.{ℕ, ◌+◌, ◌-◌, ◌≤◌, ◌<◌}
use mathlib.Core.Path.{◌≡◌, refl, ◌∙◌, ap}
use mathlib.Core.List.{List, [], ◌∷◌}
use native.Mathlib.Omega.{arith}
use native.Mathlib.Decide.{dec_le}
use lib.ListN.{length, get_or, drop}
use borrow.Author.Tests.{lt-ltb, le-ltb, ne_eqb}
use Rattle.paper.specs.Paper.{Paper, gives}
use Rattle.refusal.specs.declared.Refusal.{Refusal}
use Rattle.refusal.specs.Paper.{refusal}
use Rattle.packet_length.specs.Length.{limit}
use Rattle.packet_place.proofs.Laws.{near, beyond}
use Rattle.ndp_walk.specs.Step.{Told, stopped}
use Rattle.ndp_walk.proofs.Steps as by
use Rattle.ndp_walk.proofs.Steps.{Onward, Refusing, far-on, there}
use Rattle.ndp_options.specs.Editions.{rule_by}
use Rattle.ndp_options.specs.Walk.{walk_from, step_of}
use Rattle.ndp_options.specs.Told.{step_told}
use Rattle.ndp_options.specs.declared.Edition.{Edition}
use Rattle.ndp_options.specs.declared.NdpOption.{NdpOption}
use Rattle.ndp_options.specs.declared.Cursor.{Cursor}
use Rattle.ndp_options.specs.declared.Step.TheVariants.{Handed, End, Refused, Stopped}
use Rattle.ndp_options.proofs.Steps.{handed-on, ended_at, refused-at, not_stopped, refuses-some}
use Rattle.ndp_walker.specs.Left.{option_numbers, said, left_of, place_after}

module _ (ed : Edition) (o : ℕ) (s : List ℕ) where
  -- beyond the bytes nothing is left
  pub left-beyond : (at : ℕ) → length s < at → left_of ed o s at ≡ []
  left-beyond at h = rw (lt-ltb (length s) at h)

  left-within : (at : ℕ) → at ≤ length s → o + length s ≤ limit → left_of ed o s at ≡ said o (walk_from ed (o + at) (drop at s))
  left-within at h f = rw (le-ltb (length s) at h, near o (length s) f)

  -- beyond them the step is Stopped, and no other
  past : (at : ℕ) {t : Told} → length s < at → t ≡ step_of ed o s at → t ≡ stopped
  past at h e = e ∙ (by.beyond (rule_by ed) o s at h).1

  module _ (at : ℕ) where
    pub left-handed : (option : NdpOption) (next : Cursor) → step_told (Handed option next) ≡ step_of ed o s at →
        left_of ed o s at ≡ gives (option_numbers option) ∷ left_of ed o s next.at
    left-handed option next e = elim (dec_le at (length s)) [
      | no h ↦ absurd (let z = ap (λ (t : Told). get_or t.paper.values 0 0) (past at (omega arith) e) in omega arith)
      | yes h ↦
          let on = handed-on ed o s at h e refl in
          let place : o + option.at ≡ option.place = omega (arith, on.here, on.there) in
          let back : (o + option.at) - o ≡ option.at = omega arith in
          left-within at h on.near
          ∙ rw (on.walk, left-within next.at on.inside on.near, back, place)
    ]

    pub left-refused : (why : Refusal) (next : Cursor) → step_told (Refused why next) ≡ step_of ed o s at →
        left_of ed o s at ≡ refusal why ∷ left_of ed o s next.at
    left-refused why next e = elim (dec_le at (length s)) [
      | no h ↦ absurd (let z = ap (λ (t : Told). t.paper.number) (past at (omega arith) e) in let n = refuses-some why in omega arith)
      | yes h ↦
          let r = refused-at ed o s at h e refl in
          rw (left-beyond next.at (omega (arith, r.0))) (go h r.1)
    ]
      where
        go : {p : Paper} → at ≤ length s → Refusing (rule_by ed) o s at p → left_of ed o s at ≡ p ∷ []
        go h (far-on f) = rw (le-ltb (length s) at h, beyond o (length s) f)
        go h (there f reason w) = left-within at h f ∙ rw w

    pub left-ended : step_told End ≡ step_of ed o s at → left_of ed o s at ≡ []
    left-ended e = elim (dec_le at (length s)) [
      | no h ↦ left-beyond at (omega arith)
      | yes h ↦ let end = ended_at ed o s at h e refl in left-within at h end.0 ∙ rw end.2
    ]

    pub left-stopped : step_told Stopped ≡ step_of ed o s at → left_of ed o s at ≡ []
    left-stopped e = elim (dec_le at (length s)) [
      | no h ↦ left-beyond at (omega arith)
      | yes h ↦ absurd (not_stopped ed o s at h e refl)
    ]

    pub on-handed : (option : NdpOption) (next : Cursor) → step_told (Handed option next) ≡ step_of ed o s at → next.at ≡ place_after at (step_of ed o s at)
    on-handed option next e = elim (dec_le at (length s)) [
      | no h ↦ absurd (let z = ap (λ (t : Told). get_or t.paper.values 0 0) (past at (omega arith) e) in omega arith)
      | yes h ↦ let on = handed-on ed o s at h e refl in rw (← e, ne_eqb next.at 0 (λ z. omega (arith, on.on)))
    ]

    pub on-refused : (why : Refusal) (next : Cursor) → step_told (Refused why next) ≡ step_of ed o s at → next.at ≡ place_after at (step_of ed o s at)
    on-refused why next e = elim (dec_le at (length s)) [
      | no h ↦ absurd (let z = ap (λ (t : Told). t.paper.number) (past at (omega arith) e) in let n = refuses-some why in omega arith)
      | yes h ↦ let r = refused-at ed o s at h e refl in rw (← e, ne_eqb next.at 0 (λ z. omega (arith, r.0)))
    ]

-- what is behind the first is shorter
pub shorter : {A : Type 0} {x : A} {l m : List A} → l ≡ x ∷ m → length m < length l
shorter e = rw e (omega arith)
