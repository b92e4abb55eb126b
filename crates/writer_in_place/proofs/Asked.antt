-- What the writer's answer without room says of its answer over the packet itself.
-- Assumes nothing.
use Prim.Native.Nat.{ℕ, ◌+◌}
use mathlib.Core.Path.{◌≡◌, sym, ap, ◌∙◌}
use mathlib.Core.List.{List, [], ◌∷◌}
use native.Mathlib.Omega.{arith}
use native.Mathlib.Decide.{ℕ_discrete}
use lib.ListN.{length, drop}
use borrow.Author.Tests.{eq-eqb, ne_eqb}
use Rattle.paper.specs.Paper.{Paper, refuses, gives, ◌or_else◌}
use Rattle.output.specs.Output.{room_for}
use Rattle.icmpv6_type.specs.declared.Icmpv6Type.{Icmpv6Type}
use Rattle.ndp_options.specs.declared.Edition.{Edition}
use Rattle.writer.specs.Write.{sendable_of, write_of}
use Rattle.writer_in_place.proofs.Never.{sendable-not-9}

module _ (ed : Edition) (t : Icmpv6Type) (p : List ℕ) where
  abbrev pub payload : List ℕ
  payload = drop 8 p

  -- the writer's answer without room
  abbrev pub asked : Paper
  asked = sendable_of ed t payload or_else refuses 9 ((8 + length payload) ∷ [])

  -- a refusal that is not 9 is the writer's
  pub refused : (q : Paper) → q ≡ asked → (q.number ≡ 9 → ⊥) → q ≡ write_of ed t payload p
  refused q e n = elim (ℕ_discrete (sendable_of ed t payload).number 0) [
    | yes z ↦
        let none : asked ≡ refuses 9 ((8 + length payload) ∷ []) = rw (eq-eqb _ _ z) in
        absurd (n (ap (λ (x : Paper). x.number) (e ∙ none)))
    | no z ↦
        let own : asked ≡ write_of ed t payload p = rw (ne_eqb _ _ z) in
        e ∙ own
  ]

  -- 9 comes where every other test passed
  pub passed : (q : Paper) → q ≡ asked → q.number ≡ 9 → write_of ed t payload p ≡ room_for (8 + length payload) p 0
  passed q e n = elim (ℕ_discrete (sendable_of ed t payload).number 0) [
    | yes z ↦ rw (eq-eqb _ _ z)
    | no z ↦
        let own : asked ≡ sendable_of ed t payload = rw (ne_eqb _ _ z) in
        absurd (sendable-not-9 ed t payload (sym (ap (λ (x : Paper). x.number) (e ∙ own)) ∙ n))
  ]

  -- nothing is written without room
  pub never : (v : List ℕ) → gives v ≡ asked → ⊥
  never v e = elim (ℕ_discrete (sendable_of ed t payload).number 0) [
    | yes z ↦
        let none : asked ≡ refuses 9 ((8 + length payload) ∷ []) = rw (eq-eqb _ _ z) in
        let q = ap (λ (x : Paper). x.number) (e ∙ none) in omega arith
    | no z ↦
        let own : asked ≡ sendable_of ed t payload = rw (ne_eqb _ _ z) in
        z (sym (ap (λ (x : Paper). x.number) (e ∙ own)))
  ]
