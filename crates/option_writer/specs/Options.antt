-- The bytes of options that a sender writes (RFC 4861, sections 4.6.1 and 4.6.4): type, length in units of eight octets, and what follows.
-- Assumes nothing.
use Rattle.std.specs.Prelude.{ℕ, List, ◌∷◌}
use Rattle.wire.specs.Wire.{bytes32}
use Rattle.ndp_option.specs.declared.link_layer_address_option.LinkLayerAddressOption.{LinkLayerAddressOption}
use Rattle.ndp_option.specs.LinkLayer.{link_layer_type}

-- two reserved bytes, the MTU
abbrev pub mtu_bytes : ℕ → List ℕ
mtu_bytes mtu = 5 ∷ 1 ∷ 0 ∷ 0 ∷ bytes32 mtu

abbrev pub link_layer_bytes : LinkLayerAddressOption → List ℕ → List ℕ
link_layer_bytes whose address = link_layer_type whose ∷ 1 ∷ address
