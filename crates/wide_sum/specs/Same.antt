-- Two contracts over the same arguments that leave the same answer (docs/RULES.md Y2): what one allows and what the other allows is one.
-- Assumes nothing.
use Rattle.std.specs.Prelude.{◌≡◌}
use seplogic.Ra.Ura.{Ura}
use base.Logic.{SProp, ent, sep}
use prog.Memory.{Memory}
use prog.Routine.{Routine}
use types.Logic.{Logic}
use contract.Lifetimes.{Lfts}
use contract.Monad.{Fun, fact}
use denote.Triple.Entry.{Args, Res}
use denote.Triple.Clauses.{Ended, Clauses, Lasts, at_exit}

module _ (T : Ended) (c d : (M : Type 1) (𝓤 : Ura M) (𝓛 : Logic 𝓤) → (Memory → SProp 𝓤) → (Routine → Fun 𝓤) → Clauses 𝓤 T) where
  abbrev pub Same : Type 2
  Same =
      (M : Type 1) (𝓤 : Ura M) (𝓛 : Logic 𝓤) (m : Memory → SProp 𝓤) (f : Routine → Fun 𝓤)
      (κs : Lfts T.signature.lifetimes) (a : Args T.signature κs) (g : (c M 𝓤 𝓛 m f κs a).ghost) (h : (d M 𝓤 𝓛 m f κs a).ghost)
      (x y : Res T.signature κs) (v w : Lasts T κs a) →
      ent 𝓤
      (sep 𝓤 ((c M 𝓤 𝓛 m f κs a).ensures g x (at_exit T κs a v)) ((d M 𝓤 𝓛 m f κs a).ensures h y (at_exit T κs a w)))
      (fact 𝓤 ((x ≡ y) × (v ≡ w)))
