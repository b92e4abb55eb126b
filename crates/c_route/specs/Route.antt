-- A route information option for C: the numbers of the option beside those of the answer. All of them are 0 where it is ignored or refused.
-- Assumes nothing.
use Rattle.std.specs.Prelude.{ℕ, cond, List, eqb, get_or}
use Rattle.refusal.specs.Paper.{slots}
use Rattle.router_preference.specs.Preference.{preference_number}
use Rattle.route_information.specs.declared.RouteInformation.{RouteInformation}
use Rattle.route_information.specs.Route.{RouteTold, is_route}
use Rattle.c_answer.specs.Answer.{REFUSED, ROUTE, IGNORED, none}
use Rattle.c_route.specs.declared.Route.{Route}

abbrev pub route : ℕ → ℕ → List ℕ → RouteInformation → ℕ → Route
route answer refusal value i place =
    record {
      answer = answer;
      refusal = refusal;
      value = value;
      prefix_length = i.prefix_length;
      preference = preference_number i.preference;
      lifetime = i.lifetime;
      prefix = i.prefix;
      place = place;
    }

abbrev pub route_for : RouteTold → Route
route_for t =
    cond (eqb t.paper.number 0) (route (cond (is_route t.paper) ROUTE IGNORED) 0 none t.information (get_or t.paper.values 1 0))
    (route REFUSED t.paper.number (slots t.paper.values) t.information 0)
