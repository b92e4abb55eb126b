-- docs/RULES.md R6 to R8: what RFC 4861 asks of the addresses, the target and the options of each message: reasons 6, 7 and 8, by type.
-- `listed`: an option of type 1, the sender's link-layer address (section 4.6.1), is among the options.
-- Assumes nothing.
use Rattle.std.specs.Prelude.{ℕ, Bool, not, ◌&&◌, ◌||◌, List, [], ◌∷◌}
use Rattle.wire.specs.Wire.{has_flag}
use Rattle.addresses.specs.Address.{unspecified, multicast, link_local, solicited_node, same}
use Rattle.receive_rules.specs.Reasons.{Reason, reason}

-- section 6.1.1: no such option from the unspecified address
abbrev pub router_solicitation : List ℕ → Bool → List Reason
router_solicitation source listed = reason 8 (unspecified source && listed) ∷ []

-- section 6.1.2: the source is link-local
abbrev pub router_advertisement : List ℕ → List Reason
router_advertisement source = reason 6 (not (link_local source)) ∷ []

-- section 7.1.1: from the unspecified address only to a solicited-node address, and with no such option; no multicast target
abbrev pub neighbor_solicitation : List ℕ → List ℕ → List ℕ → Bool → List Reason
neighbor_solicitation source destination target listed =
    reason 6 (unspecified source && not (solicited_node destination))
    ∷ reason 7 (multicast target)
    ∷ reason 8 (unspecified source && listed)
    ∷ []

-- section 7.1.2: the S flag, 64 in byte 4 (section 4.4), is not set towards a multicast destination; no multicast target
abbrev pub neighbor_advertisement : List ℕ → ℕ → List ℕ → List Reason
neighbor_advertisement destination flags target =
    reason 6 (has_flag flags 64 && multicast destination)
    ∷ reason 7 (multicast target)
    ∷ []

-- section 8.1: the source is link-local; the destination field is no multicast address; the target is link-local, or the field itself
abbrev pub redirect : List ℕ → List ℕ → List ℕ → List Reason
redirect source target field =
    reason 6 (not (link_local source))
    ∷ reason 7 (multicast field || not (link_local target || same target field))
    ∷ []
