-- What a step answers at a place of the option bytes.
-- Assumes nothing.
use Rattle.std.specs.Prelude.{ℕ, ◌+◌, List, [], ◌∷◌, cond, ltb, length, drop}
use Rattle.paper.specs.Paper.{Paper, gives}
use Rattle.packet_place.specs.Place.{is_far, far, with_place}
use Rattle.ndp_walk.specs.Judge.{Rule, Judgement, Over, Bad, Good, judge}
use Rattle.ndp_walk.specs.Walk.{Item, item}

-- a step's answer on paper, and the place in the bytes that goes with it: the next, 0 where there is none
pub record Told : Type 0 where
  pub paper : Paper
  pub place : ℕ

abbrev pub told : Paper → ℕ → Told
told p n = record { paper = p; place = n }

-- a step's answers that refuse nothing: 0 End; 1 Stopped; 2 an option, with its kind, type, place in the bytes, length and place in the packet
abbrev pub ended : Told
ended = told (gives (0 ∷ [])) 0

abbrev pub stopped : Told
stopped = told (gives (1 ∷ [])) 0

abbrev pub handed : Item → ℕ → ℕ → Told
handed i place next = told (gives (2 ∷ i.kind ∷ i.type ∷ i.at ∷ i.len ∷ place ∷ [])) next

-- a judgement at a place of n bytes that begin at an offset of the packet: the next place is behind an option, and beyond the bytes after a refusal
abbrev pub answer : ℕ → ℕ → ℕ → Judgement → Told
answer offset n at Over = ended
answer offset n at (Bad why) = told (with_place (offset + at) why) (n + 1)
answer offset n at (Good kind type len) = handed (item kind type at len) (offset + at) (at + len)

-- a place beyond the bytes: Stopped; bytes too far on: 22; else what stands at the head of the rest
unfoldable pub step_by : Rule → ℕ → List ℕ → ℕ → Told
step_by rule offset s at =
    cond (ltb (length s) at) stopped
    (cond (is_far offset (length s)) (told far (length s + 1))
    (answer offset (length s) at (judge rule (drop at s))))
