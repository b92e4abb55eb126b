-- A walker is taken apart: it is Copy, so what it owns is had twice. One copy is kept whole for the exit; of the other, what the slice owns is taken
-- out. What a number owns are facts of it, which a function that is passed it makes anew.
-- Assumes nothing.
use mathlib.Core.Path.{◌≡◌}
use mathlib.Core.List.{[], ◌∷◌}
use lib.ListN.{length}
use seplogic.Ra.Ura.{Ura}
use mir.Syntax.{named}
use mir.Val.{Val}
use base.Logic.{ent}
use base.Fml.{Lft, Share, Fml, ftrue, flft}
use types.Logic.{Logic}
use contract.Lifetimes.{Lfts}
use types.Kit.{‵, ◌⊛◌, given, ⋆, ◌$◌, ◌∵◌, !, qed, move, drop, use1, split, learn, fsplit, frame, done}
use denote.RattleType.{RattleType, owns}
use denote.Builtin.{u8}
use denote.Signature.{named_lft}
use denote.Slice.{slice_val, ShrSlice}
use denote.Struct.Declared.{Declared}
use denote.Struct.Laws as LL
use denote.Struct.Rest.{all_own, field_own, rest, own_open, own_out}
use denote.Struct.Values.{Values}
use Rattle.ndp_walker.specs.declared.Walker.{Walker}
use Rattle.ndp_walker.specs.contracts.Walker as T
use Rattle.ndp_walker.proofs.Walker.TheLaws as T'

-- the struct's type, over the signature's lifetimes
abbrev pub B : Lfts 1 → RattleType
B κs = T.the_row (named_lft 1 0 tt κs)

-- the machine values of the walker and of its slice
abbrev pub mach : Walker → Val
mach d = T'.lowered d

abbrev pub slice : Walker → Val
slice d = slice_val d.options.ref_ptr (length d.options.now)

-- what the walker owns, and what its slice owns
abbrev pub Own : Lft → Walker → Fml
Own κ d = (B (κ, tt)).own_val d (mach d ∷ [])

abbrev pub OwnSlice : Lft → Walker → Fml
OwnSlice κ d = (ShrSlice (named 0) κ u8).own_val d.options (slice d ∷ [])

module _ {M : Type 1} {𝓤 : Ura M} (𝓛 : Logic 𝓤) (κ : Lft) (q : Share) (d : Walker) where
  -- the struct's type and laws, and d's fields' values
  abbrev D : Declared
  D = T.the_type (named_lft 1 0 tt (κ, tt))

  abbrev L : LL.Laws D
  L = T'.the_laws (named_lft 1 0 tt (κ, tt))

  abbrev vd : Values D.parts
  vd = (d.options, (d.offset, (d.edition, (d.at, tt))))

  pub apart : ent 𝓤 (⋆ 𝓛 ((‵ (flft κ q) ⊛ ‵ ftrue) ∷ ‵ (owns (B (κ, tt) ∷ []) (d, tt) (mach d ∷ [], tt)) ∷ []))
      (⋆ 𝓛 ((‵ (flft κ q) ⊛ ‵ ftrue) ∷ ‵ (OwnSlice κ d) ∷ ‵ (Own κ d) ∷ []))
  apart =
      qed 𝓛 ((‵ (flft κ q) ⊛ ‵ ftrue) ∷ ‵ (owns (B (κ, tt) ∷ []) (d, tt) (mach d ∷ [], tt)) ∷ []) ∵
      move ! (1 ∷ []) $ fsplit ! $ move ! (1 ∷ []) $ drop ! $ use1 𝓛 (‵ (Own κ d) ⊛ ‵ (Own κ d)) ((LL.copy D (T'.the_copy (named_lft 1 0 tt (κ, tt))) 𝓛).twice d (mach d ∷ [])) $ split ! $
      use1 𝓛 (given (mach d ∷ [] ≡ mach d ∷ []) (‵ (all_own D.parts L vd))) (own_open 𝓛 D L vd (mach d)) $ learn ! (λ _. use1 𝓛 (‵ (field_own D.parts L 0 d.options) ⊛ ‵ (rest D.parts L 0 vd)) (own_out 𝓛 D.parts L 0 vd) $ split ! $
      -- [what the slice owns; what the numbers own; what the struct owns; the token]
      move ! (1 ∷ []) $ drop ! $ move ! (2 ∷ 0 ∷ []) $ frame ! $ frame ! $ done !)
