-- Worked cases of the readers: each refusal of each rule, and what is handed back.
-- Assumes nothing.
use Rattle.std.specs.Prelude.{ℕ, ◌≡◌, List, [], ◌∷◌, ◌++◌, replicate}
use Rattle.paper.specs.Paper.{Paper, refuses, gives}
use Rattle.ndp_option_read.specs.Rule.{sized_of, part_from}
use Rattle.ndp_option.specs.Mtu.{mtu_of}

pub data Case : Type 0 where
  -- the MTU reader answers these bytes so
  mtu : List ℕ → Paper → Case
  -- the reader of this type
  sized : ℕ → List ℕ → Paper → Case
  -- the part of an option of this type, from this place on
  part : ℕ → ℕ → List ℕ → List ℕ → Case

abbrev pub Claim : Case → Type 0
Claim (mtu s p) = mtu_of s ≡ p
Claim (sized id s p) = sized_of id s ≡ p
Claim (part id n s t) = part_from n (sized_of id s) s ≡ t

abbrev pub table : List Case
table =
    mtu (5 ∷ 1 ∷ 0 ∷ 0 ∷ 0 ∷ 0 ∷ 5 ∷ 220 ∷ []) (gives (1500 ∷ []))
    ∷ mtu (5 ∷ 2 ∷ replicate 14 0) (refuses 5 (5 ∷ 8 ∷ 16 ∷ []))
    ∷ mtu (3 ∷ 1 ∷ replicate 6 0) (refuses 8 (5 ∷ 3 ∷ 1 ∷ 1 ∷ []))
    ∷ mtu (5 ∷ 2 ∷ replicate 6 0) (refuses 8 (5 ∷ 5 ∷ 1 ∷ 2 ∷ []))
    -- a redirected header
    ∷ sized 4 (4 ∷ 1 ∷ replicate 5 0) (refuses 5 (4 ∷ 8 ∷ 7 ∷ []))
    ∷ sized 4 (3 ∷ 0 ∷ replicate 6 0) (refuses 8 (4 ∷ 3 ∷ 0 ∷ 0 ∷ []))
    ∷ sized 4 (4 ∷ 0 ∷ replicate 6 0) (refuses 6 (4 ∷ []))
    ∷ sized 4 (4 ∷ 2 ∷ replicate 22 0) (refuses 5 (4 ∷ 16 ∷ 24 ∷ []))
    ∷ sized 4 (4 ∷ 2 ∷ replicate 14 0) (gives [])
    ∷ part 4 8 (4 ∷ 2 ∷ replicate 6 0 ++ 96 ∷ replicate 7 1) (96 ∷ replicate 7 1)
    ∷ part 4 8 (4 ∷ 3 ∷ replicate 6 0 ++ 96 ∷ replicate 7 1) []
    -- a source link-layer address, and the same read as a target's
    ∷ part 1 2 (1 ∷ 1 ∷ 2 ∷ 0 ∷ 0 ∷ 0 ∷ 0 ∷ 1 ∷ []) (2 ∷ 0 ∷ 0 ∷ 0 ∷ 0 ∷ 1 ∷ [])
    ∷ sized 2 (1 ∷ 1 ∷ 2 ∷ 0 ∷ 0 ∷ 0 ∷ 0 ∷ 1 ∷ []) (refuses 8 (2 ∷ 1 ∷ 1 ∷ 1 ∷ []))
    ∷ []
