-- An answer on paper loses nothing, where its numbers lose nothing, and can be taken back where they can: proved once for the whole house.
use Rattle.std.proofs.Common.{ℕ, ◌≡◌, List, Result, Ok, Err, refl, ap, sym, true, false, cond}
use lib.Dec.{eqb}
use Rattle.paper.specs.Paper.{Paper, gives}
use Rattle.refusal.specs.declared.Refusal.{Refusal}
use Rattle.refusal.specs.Paper.{refusal}
use Rattle.refusal.specs.Told.{told}
use Rattle.refusal.proofs.Paper.{refusal_of, refusal-back, refusal-lossless, refusal-numbered}

pub apart : (p q : Paper) → eqb p.number 0 ≡ true → eqb q.number 0 ≡ false → p ≡ q → {A : Type 0} → A
apart p q e f same = cc

pub told-lossless : {A : Type 0} (numbers : A → List ℕ) → ((x y : A) → numbers x ≡ numbers y → x ≡ y)
    → (r s : Result A Refusal) → told numbers r ≡ told numbers s → r ≡ s
told-lossless numbers kept (Ok x) (Ok y) e = ap Ok (kept x y (ap (λ (p : Paper). p.values) e))
told-lossless numbers kept (Ok x) (Err why) e = apart (gives (numbers x)) (refusal why) refl (refusal-numbered why) e
told-lossless numbers kept (Err why) (Ok y) e = apart (gives (numbers y)) (refusal why) refl (refusal-numbered why) (sym e)
told-lossless numbers kept (Err w) (Err v) e = ap Err (refusal-lossless w v e)

-- the answer that a paper is of, `of` being what takes its value back from the numbers
abbrev pub told_from : {A : Type 0} → (List ℕ → A) → Paper → Result A Refusal
told_from of p = cond (eqb p.number 0) (Ok (of p.values)) (Err (refusal_of p))

pub told-back : {A : Type 0} (numbers : A → List ℕ) (of : List ℕ → A) → ((x : A) → of (numbers x) ≡ x)
    → (r : Result A Refusal) → told_from of (told numbers r) ≡ r
told-back numbers of back (Ok x) = ap Ok (back x)
told-back numbers of back (Err why) = simp (refusal-numbered why, refusal-back why)
