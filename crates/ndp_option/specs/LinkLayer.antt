-- RFC 4861, section 4.6.1: the source link-layer address is type 1, the target's type 2.
-- Assumes nothing.
use Rattle.std.specs.Prelude.{ℕ, cond, eqb}
use Rattle.ndp_option.specs.declared.link_layer_address_option.LinkLayerAddressOption.{LinkLayerAddressOption}
use Rattle.ndp_option.specs.declared.link_layer_address_option.LinkLayerAddressOption.TheVariants.{Source, Target}

abbrev pub link_layer_type : LinkLayerAddressOption → ℕ
link_layer_type Source = 1
link_layer_type Target = 2

-- whose address a number asks for
abbrev pub link_layer_of : ℕ → LinkLayerAddressOption
link_layer_of n = cond (eqb n 2) Target Source
