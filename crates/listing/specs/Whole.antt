-- The text of a whole capture, and of the pieces in which it is read.
-- Assumes nothing.
use Rattle.std.specs.Prelude.{ℕ, ◌+◌, cond, List, [], ◌∷◌, ◌++◌, eqb, length}
use Rattle.capture.specs.Record.{hop_limit, source, destination, packet}
use Rattle.capture.specs.Capture.{RecordAt, Capture, settled, capture_from}
use Rattle.dump_lines.specs.Text.{title_line, records_line, stopped_line}
use Rattle.listing.specs.Packet.{record_text}

-- the text of a record, which has a number
abbrev pub item_text : ℕ → RecordAt → List ℕ
item_text number i = record_text number i.place (hop_limit i.bytes) (source i.bytes) (destination i.bytes) (packet i.bytes)

-- of records that are numbered from n + 1 on
unfoldable pub records_text : ℕ → List RecordAt → List ℕ
records_text n [] = []
records_text n (i ∷ is) = item_text (n + 1) i ++ records_text (n + 1) is

-- the last line: how many records there are, or the refusal and the place of the record
abbrev pub last_text : ℕ → Capture → List ℕ
last_text n c = cond (eqb c.answer.number 0) (records_line n) (stopped_line c.answer.number c.place)

-- what is left of a listing, n records being listed already
unfoldable pub rest_text : ℕ → Capture → List ℕ
rest_text n c = records_text n c.records ++ last_text (n + length c.records) c

-- the listing of a capture
abbrev pub listing_of : List ℕ → List ℕ
listing_of s = title_line ++ rest_text 0 (capture_from 0 s)

-- What is printed of pieces that come one after the other: of each the records that are whole by then, and the last line where no further bytes
-- can change it. Kept from piece to piece: how many records there were, the place of the next one, and the bytes from there on.
unfoldable pub pieces_text : ℕ → ℕ → List ℕ → List (List ℕ) → List ℕ
pieces_text n place kept [] = rest_text n (capture_from place kept)
pieces_text n place kept (p ∷ ps) =
    let c = capture_from place (kept ++ p) in
    let after = n + length c.records in
    records_text n c.records
    ++ cond (settled c.answer) (last_text after c) (pieces_text after c.place c.rest ps)
