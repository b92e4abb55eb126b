-- The numbers of an option lose nothing, so what a walk says first is of one item alone.
-- Assumes nothing.
use Prim.Native.Nat.{ℕ}
use mathlib.Core.Path.{◌≡◌, refl, sym, ◌∙◌, ap}
use mathlib.Core.List.{List}
use native.Mathlib.Omega.{arith}
use lib.ListN.{length, get_or}
use Rattle.std.specs.Prelude.{Result, Option, Some, None}
use Rattle.std.specs.Iterator.{YieldsFirstBy}
use Rattle.paper.proofs.Lossless.{lossless}
use Rattle.refusal.specs.declared.Refusal.{Refusal}
use Rattle.refusal.specs.Told.{told}
use Rattle.refusal.proofs.Told.{told-lossless}
use Rattle.ndp_options.specs.declared.NdpOption.{NdpOption}
use Rattle.ndp_options.proofs.Told.{kind_taken_back, kind-back}
use Rattle.ndp_walker.specs.Left.{option_numbers}

abbrev option_taken_back : List ℕ → NdpOption
option_taken_back l =
    record {
      kind = kind_taken_back (get_or l 0 0);
      option_type = record { 0 = get_or l 1 0 };
      at = get_or l 2 0;
      place = get_or l 3 0;
      len = get_or l 4 0;
    }

option_back : (o : NdpOption) → option_taken_back (option_numbers o) ≡ o
option_back o = rw (kind-back o.kind)

pub item-lossless : (x y : Result NdpOption Refusal) → told option_numbers x ≡ told option_numbers y → x ≡ y
item-lossless = told-lossless option_numbers (lossless option_numbers option_taken_back option_back)

-- from one state an iterator of this kind gives one item, whatever it leaves
pub one-first : {S A B : Type 0} (view : A → B) (rest : S → List B) → ((x y : A) → view x ≡ view y → x ≡ y) →
    (s t u : S) (x y : Option A) → YieldsFirstBy view rest s x t → YieldsFirstBy view rest s y u → x ≡ y
one-first view rest kept s t u None None p q = refl
one-first view rest kept s t u None (Some y) p q = absurd (let z = ap length (sym p.0 ∙ q) in omega arith)
one-first view rest kept s t u (Some x) None p q = absurd (let z = ap length (sym q.0 ∙ p) in omega arith)
one-first view rest kept s t u (Some x) (Some y) p q = ap Some (kept x y (ap (λ l. get_or l 0 (view x)) (sym p ∙ q)))
