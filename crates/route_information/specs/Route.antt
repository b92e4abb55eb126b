-- docs/RULES.md O11 (RFC 4191, section 2.3): the route information option, read. An ignored one and a refused one say nothing.
-- Assumes nothing.
use Rattle.std.specs.Prelude.{ℕ, zero, suc, Bool, cond, ◌&&◌, List, [], ◌∷◌, Result, Ok, Err, eqb, get_or, replicate}
use Rattle.paper.specs.Paper.{Paper, gives}
use Rattle.refusal.specs.declared.Refusal.{Refusal}
use Rattle.refusal.specs.Paper.{refusal}
use Rattle.packet_place.specs.Place.{placed}
use Rattle.wire.specs.Wire.{word32_at}
use Rattle.router_preference.specs.Preference.{preference_of, preference_from}
use Rattle.router_preference.specs.declared.RouterPreference.TheVariants.{Medium}
use Rattle.ndp_option_second.specs.Rule.{judged_of}
use Rattle.route_information.specs.declared.RouteInformation.{RouteInformation}
use Rattle.route_information.specs.declared.RouteAnswer.{RouteAnswer}
use Rattle.route_information.specs.declared.RouteAnswer.TheVariants.{Route, Ignored}

-- n bytes from a place on, 0 for one that is not there
abbrev pub bytes_from : ℕ → ℕ → List ℕ → List ℕ
bytes_from zero at s = []
bytes_from (suc n) at s = get_or s at 0 ∷ bytes_from n (suc at) s

-- what the bytes say
abbrev pub information_at : List ℕ → RouteInformation
information_at s =
    record {
      prefix_length = get_or s 2 0;
      preference = preference_from (preference_of (get_or s 3 0));
      lifetime = word32_at s 4;
      prefix = bytes_from 16 8 s;
    }

abbrev pub no_information : RouteInformation
no_information = record { prefix_length = 0; preference = Medium; lifetime = 0; prefix = replicate 16 0 }

-- an answer: the number and values, and what the option says beside them
pub record RouteTold : Type 0 where
  pub paper : Paper
  pub information : RouteInformation

abbrev pub told_with : Paper → RouteInformation → RouteTold
told_with p i = record { paper = p; information = i }

-- the kind that a walk hands it out as, and its place: 24 is a route, 0 an ignored one
abbrev pub answer_told : Result RouteAnswer Refusal → Paper
answer_told (Ok (Route i place)) = gives (24 ∷ place ∷ [])
answer_told (Ok (Ignored place)) = gives (0 ∷ place ∷ [])
answer_told (Err why) = refusal why

-- what a route says
abbrev pub said_by : Result RouteAnswer Refusal → RouteInformation
said_by (Ok (Route i place)) = i
said_by (Ok (Ignored place)) = no_information
said_by (Err why) = no_information

abbrev pub route_told : Result RouteAnswer Refusal → RouteTold
route_told r = told_with (answer_told r) (said_by r)

-- whether the rule answers that it is a route
abbrev pub is_route : Paper → Bool
is_route p = eqb p.number 0 && eqb (get_or p.values 0 0) 24

abbrev pub route_by : Paper → List ℕ → RouteTold
route_by p s = told_with p (cond (is_route p) (information_at s) no_information)

unfoldable pub route_of : ℕ → List ℕ → RouteTold
route_of offset s = route_by (placed offset s (judged_of 24 s)) s
