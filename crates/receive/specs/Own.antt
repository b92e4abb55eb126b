-- docs/RULES.md R6 to R8: which of the rules a packet is tested by, which its type says, and the parts of the packet that they look at.
-- Assumes nothing.
use Rattle.std.specs.Prelude.{ℕ, Bool, cond, List, [], eqb, get_or}
use Rattle.icmpv6_payload_slice.specs.Parts.{address_part}
use Rattle.receive_rules.specs.Reasons.{Reason}
use Rattle.receive_rules.specs.Rules.{router_solicitation, router_advertisement, neighbor_solicitation, neighbor_advertisement, redirect}

-- sections 4.3 to 4.5: the target of a message of a type, and the destination field of a redirect
abbrev pub target_of : ℕ → List ℕ → List ℕ
target_of type packet = address_part 8 0 type packet

abbrev pub field_of : ℕ → List ℕ → List ℕ
field_of type packet = address_part 8 1 type packet

-- a type's own reasons
unfoldable pub own_of : ℕ → List ℕ → List ℕ → List ℕ → Bool → List Reason
own_of type source destination packet listed =
    cond (eqb type 133) (router_solicitation source listed)
    (cond (eqb type 134) (router_advertisement source)
    (cond (eqb type 135) (neighbor_solicitation source destination (target_of type packet) listed)
    (cond (eqb type 136) (neighbor_advertisement destination (get_or packet 4 0) (target_of type packet))
    (cond (eqb type 137) (redirect source (target_of type packet) (field_of type packet))
    []))))
