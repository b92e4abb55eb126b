-- The value that is told as given numbers, and the value of a head's parts. That they are told so is proved (proofs/Paper: type-back, value-told).
-- Assumes nothing.
use Rattle.std.specs.Prelude.{ℕ, cond, List, eqb, get_or, drop}
use Rattle.icmpv6_codes.specs.Codes.{dest_of, time_of, problem_of}
use Rattle.icmpv6_headers.specs.Headers.{echo_from, router_from, neighbor_from}
use Rattle.icmpv6_type.specs.declared.Icmpv6Type.{Icmpv6Type}
use Rattle.icmpv6_type.specs.declared.Icmpv6Type.TheVariants.{Unknown, DestinationUnreachable, PacketTooBig, TimeExceeded, ParameterProblem, EchoRequest, EchoReply, RouterSolicitation, RouterAdvertisement, NeighborSolicitation, NeighborAdvertisement, Redirect}
use Rattle.icmpv6_type.specs.Value.{type_of}

-- the value of a kind and the numbers behind it
abbrev pub of_kind : ℕ → List ℕ → Icmpv6Type
of_kind k l =
    cond (eqb k 1) (DestinationUnreachable (dest_of (get_or l 0 0)))
    (cond (eqb k 2) (PacketTooBig (get_or l 0 0))
    (cond (eqb k 3) (TimeExceeded (time_of (get_or l 0 0)))
    (cond (eqb k 4) (ParameterProblem (record { code = problem_of (get_or l 0 0); pointer = get_or l 1 0 }))
    (cond (eqb k 128) (EchoRequest (echo_from l))
    (cond (eqb k 129) (EchoReply (echo_from l))
    (cond (eqb k 133) RouterSolicitation
    (cond (eqb k 134) (RouterAdvertisement (router_from l))
    (cond (eqb k 135) NeighborSolicitation
    (cond (eqb k 136) (NeighborAdvertisement (neighbor_from l))
    (cond (eqb k 137) Redirect
    (Unknown (get_or l 0 0) (get_or l 1 0) (get_or l 2 0))))))))))))

abbrev pub type_from : List ℕ → Icmpv6Type
type_from l = of_kind (get_or l 0 0) (drop 1 l)

-- the value of a type, a code and bytes 4 to 7
unfoldable pub value_of : ℕ → ℕ → List ℕ → Icmpv6Type
value_of k c b = type_from (type_of k c b)
