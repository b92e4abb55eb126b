-- The reader of captures as it was before there were longer records: for the theorems that hold the two beside each other (docs/RULES.md C10), and
-- for nothing else.
-- Assumes nothing.
use Rattle.std.specs.Prelude.{ℕ, zero, suc, ◌+◌, ◌-◌, cond, not, List, [], ◌∷◌, ◌++◌, length, take, drop, ◌==◌, nat_lt}
use Rattle.paper.specs.Paper.{Paper, refuses, gives}
use Rattle.wire.specs.Prefix.{begins}
use Rattle.capture.specs.Record.{long_mark, hop_limit, packet_len, is_record}
use Rattle.capture.specs.Capture.{RecordAt, Capture, record_len, records_then, all_bytes}

-- the one mark, 49 36, and at most 2,048 bytes
unfoldable pub record_of : List ℕ → ℕ → Paper
record_of s place =
    cond (length s == 0) (gives [])
    (cond (nat_lt (length s) 2) (refuses 14 (place ∷ []))
    (cond (not (begins (73 ∷ 54 ∷ []) s)) (refuses 12 (place ∷ []))
    (cond (nat_lt (length s) 37) (refuses 14 (place ∷ []))
    (cond (nat_lt 2048 (packet_len s)) (refuses 13 (packet_len s ∷ []))
    (cond (nat_lt (length s - 37) (packet_len s)) (refuses 14 (place ∷ []))
    (gives (hop_limit s ∷ packet_len s ∷ [])))))))

-- a whole capture, record after record
abbrev pub stops_at : ℕ → List ℕ → Capture
stops_at place s = record { records = []; place = place; answer = record_of s place; rest = s }

unfoldable pub capture_by : ℕ → ℕ → List ℕ → Capture
capture_by zero place s = stops_at place s
capture_by (suc n) place s =
    let more = records_then (record { place = place; bytes = take (record_len s) s } ∷ []) (capture_by n (place + record_len s) (drop (record_len s) s)) in
    cond (is_record (record_of s place)) more (stops_at place s)

unfoldable pub capture_from : ℕ → List ℕ → Capture
capture_from place s = capture_by (length s) place s

-- 12 at a place, and the bytes from there on
abbrev pub unread : ℕ → List ℕ → Capture
unread place rest = record { records = []; place = place; answer = refuses 12 (place ∷ []); rest = rest }

-- What it made of a capture, whose records and end are those that are read now: the records before the first that has the long mark, and 12 at its
-- place; where none has it, the same.
unfoldable pub shown : List RecordAt → Capture → Capture
shown [] c = cond (begins long_mark c.rest) (unread c.place c.rest) (record { records = []; place = c.place; answer = c.answer; rest = c.rest })
shown (i ∷ is) c =
    let whole = unread i.place (all_bytes (i ∷ is) ++ c.rest) in
    cond (begins long_mark i.bytes) whole (records_then (i ∷ []) (shown is c))
