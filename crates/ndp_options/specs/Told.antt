-- The number and values of each case of the answers.
-- Assumes nothing.
use Rattle.std.specs.Prelude.{ℕ, Result, Ok, Err, Option, Some, None}
use Rattle.refusal.specs.declared.Refusal.{Refusal}
use Rattle.refusal.specs.Paper.{refusal}
use Rattle.packet_place.specs.Place.{with_place}
use Rattle.ndp_walk.specs.Judge as by
use Rattle.ndp_walk.specs.Walk.{Item, item}
use Rattle.ndp_walk.specs.Step.{Told, told, ended, stopped, handed}
use Rattle.ndp_options.specs.declared.NdpOptionKind.{NdpOptionKind}
use Rattle.ndp_options.specs.declared.NdpOptionKind.TheVariants.{Unknown, SourceLinkLayerAddress, TargetLinkLayerAddress, PrefixInformation, RedirectedHeader, Mtu, RouteInformation, RecursiveDnsServers}
use Rattle.ndp_options.specs.declared.NdpOption.{NdpOption}
use Rattle.ndp_options.specs.declared.Found.{Found}
use Rattle.ndp_options.specs.declared.Step.{Step}
use Rattle.ndp_options.specs.declared.Step.TheVariants.{Handed, End, Refused, Stopped}

abbrev pub option_kind_number : NdpOptionKind → ℕ
option_kind_number Unknown = 0
option_kind_number SourceLinkLayerAddress = 1
option_kind_number TargetLinkLayerAddress = 2
option_kind_number PrefixInformation = 3
option_kind_number RedirectedHeader = 4
option_kind_number Mtu = 5
option_kind_number RouteInformation = 24
option_kind_number RecursiveDnsServers = 25

abbrev pub item_told : NdpOption → Item
item_told o = item (option_kind_number o.kind) o.option_type.0 o.at o.len

-- a rule's answer, and one whose refusal carries its place
abbrev pub ruled_told : Result NdpOptionKind Refusal → by.Ruling
ruled_told (Ok kind) = by.Fits (option_kind_number kind)
ruled_told (Err why) = by.Misfits (refusal why)

abbrev pub ruled_at : ℕ → by.Ruling → by.Ruling
ruled_at place (by.Fits kind) = by.Fits kind
ruled_at place (by.Misfits why) = by.Misfits (with_place place why)

abbrev pub judged_told : Result (Option Found) Refusal → by.Judgement
judged_told (Ok None) = by.Over
judged_told (Ok (Some found)) = by.Good (option_kind_number found.kind) found.option_type.0 found.len
judged_told (Err why) = by.Bad (refusal why)

-- a judgement whose refusal carries its place
abbrev pub judged_at : ℕ → by.Judgement → by.Judgement
judged_at place by.Over = by.Over
judged_at place (by.Bad why) = by.Bad (with_place place why)
judged_at place (by.Good kind type len) = by.Good kind type len

abbrev pub step_told : Step → Told
step_told (Handed o next) = handed (item_told o) o.place next.at
step_told End = ended
step_told (Refused why next) = told (refusal why) next.at
step_told Stopped = stopped
