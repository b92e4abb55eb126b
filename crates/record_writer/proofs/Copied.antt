-- Bytes that are copied into a part of a buffer are put there, and the parts of a record stand one behind the other.
-- Assumes nothing.
use Rattle.std.proofs.Common.{◌≡◌, ℕ, ◌+◌, ◌≤◌, List, [], ◌∷◌, ◌++◌, length, take, drop, sym, ap, arith, append_assoc, drop-drop, length-append, length-drop, slice_set}
use borrow.Rule.Slice.PartMut.{put_mid}
use Rattle.output.specs.Output.{over, Wrote}
use Rattle.output.proofs.Wrote.{one, ◌then◌}

pub copied : (out : List ℕ) (at k : ℕ) (bytes : List ℕ) → k ≡ length bytes → Wrote out at bytes (put_mid at k out bytes) (at + k)
unfolding over
copied out at k bytes e =
    record {
      ends = ap (λ (n : ℕ). at + n) e;
      holds = rw (e, drop-drop (length bytes) at out) (sym (append_assoc (take at out) bytes (drop (at + length bytes) out)));
    }

module _ (out mark : List ℕ) (hop : ℕ) (from to len packet : List ℕ) (k : ℕ) (m : 2 ≡ length mark) (f : 16 ≡ length from) (t : 16 ≡ length to) (l : 2 ≡ length len) (p : k ≡ length packet) (room : 37 ≤ length out) where
  pub record_put :
      Wrote out 0 (mark ++ (hop ∷ []) ++ from ++ to ++ len ++ packet)
      (put_mid 37 k (put_mid 35 2 (put_mid 19 16 (put_mid 3 16 (slice_set (mark ++ drop 2 out) 2 hop) from) to) len) packet) (37 + k)
  record_put =
      copied out 0 2 mark m
      then one _ 2 hop (simp (length-append, length-drop) (omega arith))
      then copied _ 3 16 from f
      then copied _ 19 16 to t
      then copied _ 35 2 len l
      then copied _ 37 k packet p
