-- The fixed parts behind the head (RFC 4861, sections 4.2 to 4.5), read and written.
-- Assumes nothing.
use Rattle.std.specs.Prelude.{ℕ, List, [], ◌∷◌, ◌++◌, take, drop}
use Rattle.wire.specs.Wire.{word32_at, bytes32}
use Rattle.icmpv6_payload.specs.declared.neighbor_advertisement_payload.NeighborAdvertisementPayload.{NeighborAdvertisementPayload}
use Rattle.icmpv6_payload.specs.declared.neighbor_solicitation_payload.NeighborSolicitationPayload.{NeighborSolicitationPayload}
use Rattle.icmpv6_payload.specs.declared.router_advertisement_payload.RouterAdvertisementPayload.{RouterAdvertisementPayload}
use Rattle.icmpv6_payload.specs.declared.redirect_payload.RedirectPayload.{RedirectPayload}

-- section 4.2: reachable time, retransmit timer
abbrev pub timers_in : List ℕ → List ℕ
timers_in s = word32_at s 0 ∷ word32_at s 4 ∷ []

abbrev pub timers_told : RouterAdvertisementPayload → List ℕ
timers_told p = p.reachable_time ∷ p.retrans_timer ∷ []

abbrev pub timers_bytes : RouterAdvertisementPayload → List ℕ
timers_bytes p = bytes32 p.reachable_time ++ bytes32 p.retrans_timer

abbrev pub timers_from : List ℕ → RouterAdvertisementPayload
timers_from s = record { reachable_time = word32_at s 0; retrans_timer = word32_at s 4 }

-- sections 4.3 and 4.4: the target
abbrev pub solicitation_from : List ℕ → NeighborSolicitationPayload
solicitation_from s = record { target_address = s }

abbrev pub advertisement_from : List ℕ → NeighborAdvertisementPayload
advertisement_from s = record { target_address = s }

-- section 4.5: target, destination
abbrev pub redirect_bytes : RedirectPayload → List ℕ
redirect_bytes p = p.target_address ++ p.destination_address

abbrev pub redirect_from : List ℕ → RedirectPayload
redirect_from s = record { target_address = take 16 s; destination_address = drop 16 s }
