-- docs/RULES.md D2 to D6, D9: the text of one record, over the dispatch, the verdict, and the receive check and the
-- option walk of the first edition.
-- Assumes nothing.
use Rattle.std.specs.Prelude.{ℕ, ◌+◌, ◌-◌, ◌*◌, ◌≤◌, ◌≡◌, cond, List, [], ◌∷◌, ◌++◌, eqb, length, get_or}
use Rattle.paper.specs.Paper.{Paper}
use Rattle.wire.specs.Wire.{word16_at}
use Rattle.packet_length.specs.Length.{fits}
use Rattle.message_table.specs.Table.{is_ndp}
use Rattle.icmpv6_payload_slice.specs.Dispatch.{options_at, kind_at, by_bytes}
use Rattle.receive.specs.Receive.{packet_options, is_sound, reason_of}
use Rattle.ndp_walk.specs.Walk.{Item, Ending, Clean, RefusedAt, Walk}
use Rattle.ndp_options.specs.Walk.{walk_from}
use Rattle.ndp_options.specs.declared.Edition.TheVariants.{First}
use Rattle.output.specs.Output.{room_for, leaves}
use Rattle.capture.specs.Record.{longest, recorded}
use Rattle.dump_lines.specs.Line.{word_for, ok_word}
use Rattle.dump_lines.specs.Text.{record_line, head_line, opt_line, end_line, refused_at_line, refused_line}

-- the kind, the code, the checksum field and the verdict on it, the length, and the reason of the receive check
unfoldable pub head_text : ℕ → List ℕ → List ℕ → List ℕ → List ℕ
head_text hop source destination p =
    head_line (word_for (kind_at p)) (get_or p 1 0) (word16_at p 2) (ok_word (is_sound source destination p)) (length p) (reason_of First hop source destination p)

-- a line for each option
unfoldable pub items_text : List Item → List ℕ
items_text [] = []
items_text (i ∷ is) = opt_line i.at i.type i.len ++ items_text is

-- and a last one: how many they are, or the refusal and its place
abbrev pub ending_text : ℕ → Ending → List ℕ
ending_text n Clean = end_line n
ending_text n (RefusedAt at why) = refused_at_line why.number at

-- the lines of a walk, n options being listed already
abbrev pub walk_text : ℕ → Walk → List ℕ
walk_text n w = items_text w.items ++ ending_text (n + length w.items) w.ending

-- option lines only for rs to redirect, the messages of Neighbor Discovery, each at its place in the packet; `refused 4` where the fixed part is not all there
unfoldable pub options_text : List ℕ → List ℕ
options_text p =
    cond (eqb (by_bytes p).number 4) (refused_line 4)
    (cond (is_ndp (kind_at p)) (walk_text 0 (walk_from First (options_at 8 (kind_at p) (length p)) (packet_options p))) [])

-- a packet whose length is refused prints its refusal only
unfoldable pub packet_text : ℕ → List ℕ → List ℕ → List ℕ → List ℕ
packet_text hop source destination p =
    cond (fits (length p)) (head_text hop source destination p ++ options_text p) (refused_line (by_bytes p).number)

unfoldable pub record_text : ℕ → ℕ → ℕ → List ℕ → List ℕ → List ℕ → List ℕ
record_text number place hop source destination p = record_line number place ++ packet_text hop source destination p

-- the text of a packet's record put at a place: refusal 13 of a packet that no record holds, then 9, or the place behind the text
abbrev pub put_of : List ℕ → List ℕ → List ℕ → ℕ → Paper
put_of packet text out at = recorded packet (room_for (length text) out at)

-- The most bytes of text. A line has at most 128; that of an option at most 31, and an option at least eight bytes: so of a walk over n bytes of options
-- four for each and the last line's.
abbrev pub walk_room : ℕ → ℕ
walk_room n = 4 * n + 128

-- of the options of the longest packet, which are behind its eight bytes of head; with the line of the head; with the line of the record: 36,352
abbrev pub options_room : ℕ
options_room = walk_room (longest - 8)

abbrev pub packet_room : ℕ
packet_room = options_room + 128

abbrev pub room : ℕ
room = packet_room + 128

-- and the text of a record has no more bytes than that
pub record Puts (answer : Paper) (packet text out : List ℕ) (at : ℕ) : Type 0 where
  pub is : answer ≡ put_of packet text out at
  pub short : length packet ≤ longest → length text ≤ room

abbrev pub put_leaves : List ℕ → List ℕ → List ℕ → ℕ → List ℕ
put_leaves packet text out at = leaves (put_of packet text out at) out at text
