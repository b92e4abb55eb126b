-- docs/RULES.md T1 and T2: what the packet writer tests and in which order, what it writes, and what it answers.
-- Assumes nothing.
use Rattle.std.specs.Prelude.{ℕ, ◌+◌, cond, ◌≡◌, List, [], ◌∷◌, ◌++◌, ltb, length, take, drop}
use Rattle.paper.specs.Paper.{Paper, refuses, gives, ◌or_else◌}
use Rattle.refusal.specs.Told.{told}
use Rattle.icmpv6_type.specs.declared.Icmpv6Type.{Icmpv6Type}
use Rattle.icmpv6_type.specs.Value.{kind_number, type_number, code_number}
use Rattle.icmpv6_type.specs.Reserved.{misnamed}
use Rattle.icmpv6.specs.declared.icmpv6_header.Icmpv6Header.{Icmpv6Header}
use Rattle.icmpv6.specs.Head.{Way, encode_by}
use Rattle.icmpv6_checksum.specs.Header.{with_sum}
use Rattle.icmpv6_payload_slice.specs.Dispatch.{options_at, options_in, by_value}
use Rattle.ndp_options.specs.declared.Edition.{Edition}
use Rattle.ndp_option_list.specs.Whole.{count_of}
use Rattle.output.specs.Output.{leaves, room_for}
use Rattle.std.specs.Prelude.{Result, Ok, Err}
use Rattle.refusal.specs.declared.Refusal.{Refusal}

-- the option bytes, where the dispatch places them: none unless the value is of types 133 to 137
abbrev pub payload_options : Icmpv6Type → List ℕ → List ℕ
payload_options t payload = options_in 0 (kind_number t) payload

-- their place in the packet, whose head stands before the payload
abbrev pub options_place : Icmpv6Type → List ℕ → ℕ
options_place t payload = 8 + options_at 0 (kind_number t) (length payload)

-- refusals 10 and 3, the dispatch's 4, the walk's 5 to 7 and 18
unfoldable pub sendable_of : Edition → Icmpv6Type → List ℕ → Paper
sendable_of e t payload =
    cond (misnamed t) (refuses 10 (type_number t ∷ code_number t ∷ []))
    (cond (ltb 65527 (length payload)) (refuses 3 (65527 ∷ length payload ∷ []))
    (by_value t payload or_else (count_of e (options_place t payload) (payload_options t payload) or_else gives [])))

-- and 9, or the length
abbrev pub write_of : Edition → Icmpv6Type → List ℕ → List ℕ → Paper
write_of e t payload out = sendable_of e t payload or_else room_for (8 + length payload) out 0

-- the head that a way writes of a header, with the checksum of the bytes that it writes; the header's own field is not looked at
abbrev pub sealed_head : Way → List ℕ → List ℕ → Icmpv6Header → List ℕ → List ℕ
sealed_head w source destination h payload = encode_by w (with_sum w source destination h payload)

-- and the payload
abbrev pub packet_by : Way → List ℕ → List ℕ → Icmpv6Header → List ℕ → List ℕ
packet_by w source destination h payload = sealed_head w source destination h payload ++ payload

-- what the output then holds: the packet at its start, or what it held before
abbrev pub output_by : Edition → Way → Icmpv6Header → List ℕ → List ℕ → List ℕ → List ℕ → List ℕ
output_by e w h source destination payload out =
    leaves (write_of e h.icmp_type payload out) out 0 (packet_by w source destination h payload)

-- that a payload may be sent, or why not
abbrev pub sendable_told : Result (Unit {0}) Refusal → Paper
sendable_told answer = told (λ sent. []) answer

-- what the output then holds, by the answer: the packet, whose length is told, and behind it what stood there; where it refuses, all as it was
abbrev pub Holds : Result ℕ Refusal → List ℕ → List ℕ → List ℕ → Type 0
Holds (Ok n) packet before after = (n ≡ length packet) × (take n after ≡ packet) × (drop n after ≡ drop n before)
Holds (Err why) packet before after = after ≡ before
