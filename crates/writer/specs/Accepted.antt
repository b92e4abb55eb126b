-- What the writer asks in an edition of a value, a payload and an output: no more and no less.
-- Assumes nothing.
use Rattle.std.specs.Prelude.{ℕ, ◌+◌, ◌≤◌, false, ◌≡◌, List, length}
use Rattle.message_table.specs.Table.{fixed_len}
use Rattle.icmpv6_type.specs.declared.Icmpv6Type.{Icmpv6Type}
use Rattle.icmpv6_type.specs.Value.{kind_number}
use Rattle.icmpv6_type.specs.Reserved.{misnamed}
use Rattle.ndp_walk.specs.Walk.{Clean}
use Rattle.ndp_options.specs.Walk.{walk}
use Rattle.ndp_options.specs.declared.Edition.{Edition}
use Rattle.writer.specs.Write.{payload_options}

pub record Accepted (e : Edition) (t : Icmpv6Type) (s out : List ℕ) : Type 0 where
  pub named : misnamed t ≡ false
  pub within : length s ≤ 65527
  pub present : fixed_len (kind_number t) ≤ length s
  pub walks : (walk e (payload_options t s)).ending ≡ Clean
  pub room : 8 + length s ≤ length out
