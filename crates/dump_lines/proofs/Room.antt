-- A call that refuses only for want of room puts its text where there is room, and answers the place behind it.
-- Assumes nothing.
use Rattle.std.proofs.Common.{◌≡◌, ℕ, ◌-◌, ◌≤◌, List, length, Result, Ok, Err, refl}
use Rattle.std.specs.Result.{result_unwrap_or}
use Rattle.refusal.specs.declared.Refusal.{Refusal}
use Rattle.output.specs.Output.{written_told, room_for, leaves, Wrote}
use Rattle.output.proofs.Fitting.{told, not_full}

pub put_there : {left : List ℕ} (out : List ℕ) (at : ℕ) (text : List ℕ) (r : Result ℕ Refusal) → written_told r ≡ room_for (length text) out at
    → left ≡ leaves (room_for (length text) out at) out at text → length text ≤ length out - at → Wrote out at text left (result_unwrap_or r at)
put_there out at text (Ok n) is lent room = told out at text lent room is n refl
put_there out at text (Err why) is lent room = absurd (not_full out at text lent room is why refl)
