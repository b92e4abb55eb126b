-- The whole walk as an iterator gives it: how many options, and the first of a type.
-- Assumes nothing.
use Prim.Native.Nat.{ℕ, ◌+◌, ◌≤◌, ◌<◌}
use mathlib.Core.Path.{◌≡◌, refl, ◌∙◌, ap}
use mathlib.Core.Bool.{Bool, true, false, cond}
use mathlib.Core.List.{List, [], ◌∷◌, ◌++◌, map}
use native.Mathlib.Nat.{add-zero, zero-add}
use native.Mathlib.Omega.{arith}
use lib.Dec.{eqb}
use lib.ListN.{length, get_or, length-append}
use borrow.Author.Tests.{le-ltb, ne_eqb}
use Rattle.std.proofs.lemmas.List.{length-map}
use Rattle.paper.specs.Paper.{Paper, gives}
use Rattle.packet_place.specs.Place.{is_far, far}
use Rattle.ndp_walk.specs.Walk.{Item, Ending, Clean, RefusedAt, Walk, shift_item}
use Rattle.ndp_walk.specs.Placed.{end_by}
use Rattle.ndp_walk.proofs.Placed.{items-from}
use Rattle.ndp_options.specs.Editions.{rule_by}
use Rattle.ndp_options.specs.Walk.{walk, walk_from}
use Rattle.ndp_options.specs.declared.Edition.{Edition}
use Rattle.ndp_options.proofs.Laws.{at_most}
use Rattle.ndp_walker.specs.Left.{item_numbers, last_said, said, left_of}
use Rattle.ndp_option_list.specs.Told.{earlier_or}
use Rattle.ndp_option_list.specs.Whole.{whole_of, first_by, first, tally_of}
use Rattle.ndp_option_list.proofs.Whole.{walk_refused}

-- the i-th value
abbrev value : ℕ → Paper → ℕ
value i p = get_or p.values i 0

-- what a walk comes to, where n options and these numbers were found before
abbrev pub tally_in : ℕ → ℕ → List ℕ → List Paper → Paper
tally_in wanted n found [] = gives (n ∷ found)
tally_in wanted n found (p ∷ ps) = cond (eqb p.number 0) (tally_in wanted (n + 1) (earlier_or found wanted (value 1 p) (value 3 p) (value 4 p)) ps) p

-- the numbers that were found before, and else these
abbrev or_else : List ℕ → List ℕ → List ℕ
or_else [] l = l
or_else (x ∷ k) l = x ∷ k

-- what was found by an option, and then by others
turn : (wanted type place len : ℕ) (found more : List ℕ) → or_else (earlier_or found wanted type place len) more ≡ or_else found (cond (eqb type wanted) (place ∷ len ∷ []) more)
turn wanted type place len (x ∷ k) more = refl
turn wanted type place len [] more = by (eqb type wanted)
  where
    by : (b : Bool) → or_else (cond b (place ∷ len ∷ []) []) more ≡ cond b (place ∷ len ∷ []) more
    by true = refl
    by false = refl

none_more : (found : List ℕ) → or_else found [] ≡ found
none_more [] = refl
none_more (x ∷ k) = refl

tally-said : (wanted o n : ℕ) (found : List ℕ) (is : List Item) (e : Ending) → ((place : ℕ) (why : Paper) → e ≡ RefusedAt place why → 0 < why.number) →
    tally_in wanted n found (map (λ i. gives (item_numbers o i)) is ++ last_said e) ≡ end_by e (gives ((n + length is) ∷ or_else found (first wanted is)))
unfolding first_by
tally-said wanted o n found [] Clean h = rw (add-zero n, none_more found)
tally-said wanted o n found [] (RefusedAt place why) h = rw (ne_eqb why.number 0 (λ z. let m = h place why refl in omega arith))
tally-said wanted o n found (i ∷ is) e h =
    let same : n + 1 + length is ≡ n + length (i ∷ is) = omega arith in
    tally-said wanted o (n + 1) (earlier_or found wanted i.type i.at i.len) is e h
    ∙ ap (end_by e) (rw (same, turn wanted i.type i.at i.len found (first wanted is)))

module _ (ed : Edition) (wanted o : ℕ) (s : List ℕ) where
  pub tally-whole : tally_in wanted 0 [] (left_of ed o s 0) ≡ tally_of ed wanted o s
  unfolding whole_of
  tally-whole = rw (le-ltb (length s) 0 (omega arith), add-zero o) (by (is_far o (length s)))
    where
      w : Walk
      w = walk_from ed o s

      by : (b : Bool) → tally_in wanted 0 [] (cond b (far ∷ []) (said o w)) ≡ cond b far (end_by w.ending (gives (length w.items ∷ first wanted w.items)))
      by true = refl
      by false = tally-said wanted o 0 [] w.items w.ending (λ place why q. walk_refused ed o s q) ∙ rw (zero-add (length w.items))

-- ---- a walk has no more options than there are bytes
few_last : (e : Ending) → length (last_said e) ≤ 1
few_last Clean = omega arith
few_last (RefusedAt place why) = omega arith

pub few-left : (ed : Edition) (o : ℕ) (s : List ℕ) → length (left_of ed o s 0) ≤ length s + 1
few-left ed o s = rw (le-ltb (length s) 0 (omega arith), add-zero o) (by (is_far o (length s)))
  where
    w : Walk
    w = walk_from ed o s

    items : length w.items ≤ length s
    items = let n = at_most ed s in rw (items-from (rule_by ed) o s, length-map (walk ed s).items (shift_item o)) (omega arith)

    by : (b : Bool) → length (cond b (far ∷ []) (said o w)) ≤ length s + 1
    by true = omega arith
    by false =
        let f = few_last w.ending in
        rw (length-append (map (λ i. gives (item_numbers o i)) w.items) (last_said w.ending), length-map w.items (λ i. gives (item_numbers o i))) (omega (arith, items))
