-- Each record that a capture gives leaves fewer bytes, and a refusal none. A step gives one answer, and leaves one place.
-- Assumes nothing.
use Rattle.std.proofs.Common.{◌≡◌, ℕ, ◌+◌, ◌-◌, ◌<◌, ◌≤◌, List, Result, Ok, Err, Option, Some, None, length, refl, sym, ap, ◌∙◌, arith}
use Rattle.std.specs.Iterator.{IsFinite, size}
use Rattle.std.specs.Option.{option_transpose}
use Rattle.refusal.specs.declared.Refusal.{Refusal}
use Rattle.capture.specs.declared.Record.{Record}
use Rattle.capture.specs.Record.{next_of}
use Rattle.capture.specs.Paper.{next_paper}
use Rattle.capture.specs.Records.{GivesRecord, left_from, place_behind}
use Rattle.capture.proofs.Calls.{found_at}
use Rattle.capture.proofs.Paper.{next-lossless}

-- t: the bytes that are read from then on
module _ (s : List ℕ) (at : ℕ) where
  fewer : (r : Record) → next_paper (Ok (Some r)) ≡ next_of s at 0 → (t : List ℕ) → length t ≤ length s → 1 + (length t - r.next) < 1 + (length s - at)
  fewer r e t h = let f = found_at s at 0 e refl in omega (arith, f.next, f.within)

  pub nearer : (r : Result Record Refusal) (behind : Option ℕ) → GivesRecord s (Some at) (Some r) behind → (t : List ℕ) → length t ≤ length s
      → IsFinite (left_from t behind) × (size (left_from t behind) < size (left_from s (Some at)))
  nearer (Ok r) behind g t h = rw g.1 (tt, fewer r g.0 t h)
  nearer (Err why) behind g t h = rw g.1 (tt, omega arith)

-- the answer of a step from what is told of a place
abbrev back : Result (Option Record) Refusal → Option (Result Record Refusal)
back (Ok None) = None
back (Ok (Some r)) = Some (Ok r)
back (Err why) = Some (Err why)

back-of : (r : Option (Result Record Refusal)) → back (option_transpose r) ≡ r
back-of None = refl
back-of (Some (Ok r)) = refl
back-of (Some (Err why)) = refl

pub same-step : (s : List ℕ) (at : Option ℕ) (r q : Option (Result Record Refusal)) (t u : Option ℕ) → GivesRecord s at r t → GivesRecord s at q u
    → (r ≡ q) × (t ≡ u)
same-step s None r q t u g h = (g.0 ∙ sym h.0, g.1 ∙ sym h.1)
same-step s (Some at) r q t u g h =
    let e : r ≡ q = sym (back-of r) ∙ ap back (next-lossless _ _ (g.0 ∙ sym h.0)) ∙ back-of q in
    (e, g.1 ∙ ap (place_behind at) e ∙ sym h.1)
