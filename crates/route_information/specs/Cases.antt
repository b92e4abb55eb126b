-- Worked cases of a route that is read by itself: the bounds of the second edition's rule, the preferences, and the tests of any option before them.
-- Assumes nothing.
use Rattle.std.specs.Prelude.{ℕ, ◌≡◌, List, [], ◌∷◌, ◌++◌, replicate}
use Rattle.paper.specs.Paper.{refuses, gives}
use Rattle.router_preference.specs.declared.RouterPreference.{RouterPreference}
use Rattle.router_preference.specs.declared.RouterPreference.TheVariants.{Medium, High, Low}
use Rattle.route_information.specs.Route.{RouteTold, told_with, route_of, no_information}

-- an option of this prefix length and flags, for 600 seconds; then its units of prefix
abbrev option : ℕ → ℕ → ℕ → List ℕ → List ℕ
option units length flags prefix = 24 ∷ units ∷ length ∷ flags ∷ 0 ∷ 0 ∷ 2 ∷ 88 ∷ prefix

-- 2001:db8::, eight bytes of it
abbrev eight : List ℕ
eight = 32 ∷ 1 ∷ 13 ∷ 184 ∷ replicate 4 0

abbrev route : ℕ → RouterPreference → List ℕ → RouteTold
route length preference prefix =
    told_with (gives (24 ∷ 40 ∷ [])) (record { prefix_length = length; preference = preference; lifetime = 600; prefix = prefix })

-- read at place 40
pub data Case : Type 0 where
  reads : List ℕ → RouteTold → Case

abbrev pub Claim : Case → Type 0
Claim (reads s t) = route_of 40 s ≡ t

abbrev refused : ℕ → List ℕ → RouteTold
refused n v = told_with (refuses n (v ++ 40 ∷ [])) no_information

abbrev pub table : List Case
table =
    reads (option 1 0 0 []) (route 0 Medium (replicate 16 0))
    ∷ reads (option 2 64 8 eight) (route 64 High (eight ++ replicate 8 0))
    ∷ reads (option 3 65 24 (eight ++ replicate 8 7)) (route 65 Low (eight ++ replicate 8 7))
    ∷ reads (option 3 128 231 (eight ++ replicate 8 7)) (route 128 Medium (eight ++ replicate 8 7))
    ∷ reads (option 3 0 0 (eight ++ replicate 8 7)) (route 0 Medium (eight ++ replicate 8 7))
    -- the reserved preference: nothing is told of it
    ∷ reads (option 2 64 16 eight) (told_with (gives (0 ∷ 40 ∷ [])) no_information)
    -- the bounds, in their order
    ∷ reads (option 1 1 0 []) (refused 5 (24 ∷ 16 ∷ 8 ∷ []))
    ∷ reads (option 2 65 0 eight) (refused 5 (24 ∷ 24 ∷ 16 ∷ []))
    ∷ reads (option 1 129 0 []) (refused 18 [])
    ∷ reads (option 3 129 16 (eight ++ eight)) (refused 18 [])
    ∷ reads (option 4 255 0 (eight ++ eight ++ eight)) (refused 5 (24 ∷ 24 ∷ 32 ∷ []))
    -- what every option of any size is tested for, before them
    ∷ reads (24 ∷ 1 ∷ 200 ∷ []) (refused 5 (24 ∷ 8 ∷ 3 ∷ []))
    ∷ reads (25 ∷ 1 ∷ 200 ∷ replicate 5 0) (refused 8 (24 ∷ 25 ∷ 1 ∷ 1 ∷ []))
    ∷ reads (option 0 200 0 []) (refused 6 (24 ∷ []))
    ∷ reads (option 3 200 0 eight) (refused 5 (24 ∷ 24 ∷ 16 ∷ []))
    ∷ []
