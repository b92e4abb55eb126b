-- The values of Neighbor Discovery (RFC 4861, sections 4.1 to 4.5; docs/RULES.md H7): those whose packets the receive check looks into.
-- Assumes nothing.
use Rattle.icmpv6_headers.specs.declared.neighbor_advertisement_header.NeighborAdvertisementHeader.{NeighborAdvertisementHeader}
use Rattle.icmpv6_headers.specs.declared.router_advertisement_header.RouterAdvertisementHeader.{RouterAdvertisementHeader}
use Rattle.icmpv6_type.specs.declared.Icmpv6Type.{Icmpv6Type}
use Rattle.icmpv6_type.specs.declared.Icmpv6Type.TheVariants.{RouterSolicitation, RouterAdvertisement, NeighborSolicitation, NeighborAdvertisement, Redirect}

pub data Ndp : Icmpv6Type → Type 0 where
  router_solicitation : Ndp RouterSolicitation
  router_advertisement : (h : RouterAdvertisementHeader) → Ndp (RouterAdvertisement h)
  neighbor_solicitation : Ndp NeighborSolicitation
  neighbor_advertisement : (h : NeighborAdvertisementHeader) → Ndp (NeighborAdvertisement h)
  redirect : Ndp Redirect
