-- Plans for the options of an advertisement, which has 16 bytes of its own, its head and its fixed part: what is answered of option bytes, which begin
-- at place 0 (docs/RULES.md Z3 to Z8).
-- Assumes nothing.
use Rattle.std.specs.Prelude.{ℕ, zero, suc, ◌+◌, ◌-◌, ◌≤◌, ◌<◌, ◌≡◌, cond, ◌&&◌, List, [], ◌∷◌, ◌++◌, map, ltb, eqb, length, take, drop}
use Rattle.paper.specs.Each.{Each}
use Rattle.paper.specs.Paper.{Paper, refuses, ◌or_else◌, one_if, value}
use Rattle.output.specs.Output.{numbers_for}
use Rattle.packet_length.specs.Length as packet
use Rattle.ndp_walk.specs.Walk.{Item, Clean}
use Rattle.ndp_options.specs.Walk.{walk}
use Rattle.ndp_options.specs.declared.Edition.{Edition}
use Rattle.ndp_option_list.specs.Whole.{whole_of, count_of}
use Rattle.split_plan.specs.Plan.{accepts, possible, plan_of, start_of}

-- the lengths of the options, in order
abbrev pub lengths : List Item → List ℕ
lengths is = map (λ (i : Item). i.len) is

abbrev pub sizes_of : Edition → List ℕ → List ℕ
sizes_of e s = lengths (walk e s).items

-- the head of an advertisement and its fixed part
abbrev pub own_bytes : ℕ
own_bytes = 16

-- ---- the checker
-- the walk's own refusal; else 1 where the plan is accepted and 0 where it is not
abbrev pub check_of : Edition → ℕ → List ℕ → List ℕ → Paper
check_of e limit s plan = whole_of e 0 s (λ is. one_if (accepts own_bytes limit (lengths is) plan) ∷ [])

-- ---- the planner
-- 21 where no plan is possible, else the room for as many numbers as our plan has
abbrev pub planned_of : ℕ → List ℕ → List ℕ → Paper
planned_of limit sizes out = cond (possible own_bytes limit sizes) (numbers_for (length (plan_of own_bytes limit sizes)) out 0) (refuses 21 [])

-- the walk's own refusal before these
abbrev pub plan_for : Edition → ℕ → List ℕ → List ℕ → Paper
plan_for e limit s out = count_of e 0 s or_else planned_of limit (sizes_of e s) out

-- ---- the options of a message
-- where message i of an accepted plan begins, and how many bytes of options it has: up to where the next begins. No numbers where there is none
abbrev pub span_of : ℕ → List ℕ → List ℕ → ℕ → List ℕ
span_of limit sizes plan i =
    cond (accepts own_bytes limit sizes plan && ltb i (length plan))
    (start_of sizes plan i ∷ (start_of sizes plan (suc i) - start_of sizes plan i) ∷ [])
    []

abbrev pub place_of : Edition → ℕ → List ℕ → List ℕ → ℕ → Paper
place_of e limit s plan i = whole_of e 0 s (λ is. span_of limit (lengths is) plan i)

-- the bytes at a place that was told: none where it was not
abbrev pub part_by : Paper → List ℕ → List ℕ
part_by p s = cond (eqb p.number 0) (take (value 1 p) (drop (value 0 p) s)) []

abbrev pub message_of : Edition → ℕ → List ℕ → List ℕ → ℕ → List ℕ
message_of e limit s plan i = part_by (place_of e limit s plan i) s

-- so many parts, one behind the other
unfoldable pub sent_by : (ℕ → List ℕ) → ℕ → List ℕ
sent_by part zero = []
sent_by part (suc k) = sent_by part k ++ part k

-- what may be sent with the 16 bytes: within the limit, and by itself a whole list of so many options
pub record Sendable (e : Edition) (limit : ℕ) (part : List ℕ) (n : ℕ) : Type 0 where
  pub fits : own_bytes + length part ≤ limit
  pub clean : (walk e part).ending ≡ Clean
  pub many : length (walk e part).items ≡ n

-- a plan that can be asked about: its numbers have 32 bits
abbrev pub Numbers : List ℕ → Type 0
Numbers plan = Each (λ (n : ℕ). n < 4294967296) plan

-- ---- of which lists more than the walk's own refusal is answered
-- no longer than a packet, and walked clean
pub record Whole (e : Edition) (s : List ℕ) : Type 0 where
  pub near : length s ≤ packet.limit
  pub clean : (walk e s).ending ≡ Clean
