-- A whole capture, record after record from its first byte on.
-- Assumes nothing.
use Rattle.std.specs.Prelude.{◌≡◌, ℕ, zero, suc, ◌+◌, ◌≤◌, Bool, true, cond, ◌||◌, List, [], ◌∷◌, ◌++◌, length, take, drop, ◌==◌}
use Rattle.paper.specs.Paper.{Paper}
use Rattle.capture.specs.declared.Record.{Record}
use Rattle.capture.specs.Record.{longest, hop_limit, packet_len, record_of, is_record}

-- a record: the place of its first byte, and its bytes
pub record RecordAt : Type 0 where
  pub place : ℕ
  pub bytes : List ℕ

-- the records; then the place that is no record, what is answered there, and the bytes from there on
pub record Capture : Type 0 where
  pub records : List RecordAt
  pub place : ℕ
  pub answer : Paper
  pub rest : List ℕ

-- an answer that more bytes cannot change: a record, 12 and 13; the end and 14 they can
abbrev pub settled : Paper → Bool
settled p = is_record p || (p.number == 12 || p.number == 13)

abbrev pub record_len : List ℕ → ℕ
record_len s = 37 + packet_len s

-- the most bytes of a record that is cut off: one fewer than the longest record has
abbrev pub longest_cut : ℕ
longest_cut = 36 + longest

-- records, and then a capture
abbrev pub records_then : List RecordAt → Capture → Capture
records_then is c = record { records = is ++ c.records; place = c.place; answer = c.answer; rest = c.rest }

abbrev pub stops_at : ℕ → List ℕ → Capture
stops_at place s = record { records = []; place = place; answer = record_of s place; rest = s }

-- at most n records, the first at a place
unfoldable pub capture_by : ℕ → ℕ → List ℕ → Capture
capture_by zero place s = stops_at place s
capture_by (suc n) place s =
    let more = records_then (record { place = place; bytes = take (record_len s) s } ∷ []) (capture_by n (place + record_len s) (drop (record_len s) s)) in
    cond (is_record (record_of s place)) more (stops_at place s)

-- all records, the first at a place: no more than there are bytes
unfoldable pub capture_from : ℕ → List ℕ → Capture
capture_from place s = capture_by (length s) place s

-- each record begins where the one before it ended
abbrev pub RecordsTouch : ℕ → List RecordAt → ℕ → Type 0
RecordsTouch from [] to = from ≡ to
RecordsTouch from (i ∷ is) to = (i.place ≡ from) × RecordsTouch (from + length i.bytes) is to

abbrev pub all_bytes : List RecordAt → List ℕ
all_bytes [] = []
all_bytes (i ∷ is) = i.bytes ++ all_bytes is

-- a record, and where its parts are
pub record FoundAt (s : List ℕ) (at place : ℕ) (r : Record) : Type 0 where
  pub here : is_record (record_of (drop at s) place) ≡ true
  pub hop : r.hop_limit ≡ hop_limit (drop at s)
  pub source : r.source ≡ at + 3
  pub destination : r.destination ≡ at + 19
  pub packet : r.packet ≡ at + 37
  pub len : r.len ≡ packet_len (drop at s)
  pub next : r.next ≡ at + record_len (drop at s)
  pub within : at + record_len (drop at s) ≤ length s
