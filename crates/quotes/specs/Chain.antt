-- The chain of quoted packets: a message may quote a packet, which may hold a message. Every place is that in the outer packet. On paper a chain
-- is one list: the outer message's kind, and then place, next header and kind for each level.
-- Assumes nothing.
use Rattle.std.specs.Prelude.{ℕ, zero, suc, ◌+◌, ◌-◌, cond, List, [], ◌∷◌, ◌++◌, ltb, eqb, length, get_or, take, drop}
use Rattle.paper.specs.Paper.{Paper, refuses, gives}
use Rattle.packet_length.specs.Length.{sized}
use Rattle.message_table.specs.Table.{known, fixed_len, is_ndp}
use Rattle.ndp_options.specs.declared.Edition.{Edition}
use Rattle.ndp_option_list.specs.Whole.{first_of}
use Rattle.quotes.specs.Head.{head_len, version, next_header, icmpv6}

-- what is made of the values of an answer that refuses nothing; a refusal stays
abbrev pub onward : (List ℕ → Paper) → Paper → Paper
onward f p = cond (eqb p.number 0) (f p.values) p

-- ---- a message at a place: its kind, and from where to where its quote stands
-- of the first redirected-header option, its bytes from the ninth on (RFC 4861, section 4.6.3); without one, no quote
abbrev pub quote_in : ℕ → List ℕ → Paper
quote_in kind [] = gives (kind ∷ [])
quote_in kind (at ∷ l) = gives (kind ∷ (at + 8) ∷ (at + get_or l 0 0) ∷ [])

-- the options begin so many bytes behind the message's first one, and must walk clean up to its end
abbrev pub in_options : Edition → ℕ → ℕ → ℕ → List ℕ → Paper
in_options e kind place base s = onward (quote_in kind) (first_of e 4 (place + base) (drop base s))

-- under 8 bytes: 1; an unknown message has no quote; an error's is all behind its head (RFC 4443, section 3); a message of Neighbor Discovery whose
-- fixed part is cut: 4, and else its options say; any other message has none
unfoldable pub found_of : Edition → ℕ → List ℕ → Paper
found_of e place s =
    cond (ltb (length s) 8) (refuses 1 (8 ∷ length s ∷ []))
    (cond (known (get_or s 0 0) (get_or s 1 0))
    (cond (ltb (get_or s 0 0) 5) (gives (get_or s 0 0 ∷ (place + 8) ∷ (place + length s) ∷ []))
    (cond (is_ndp (get_or s 0 0))
    (cond (ltb (length s - 8) (fixed_len (get_or s 0 0))) (refuses 4 (fixed_len (get_or s 0 0) ∷ (length s - 8) ∷ []))
    (in_options e (get_or s 0 0) place (8 + fixed_len (get_or s 0 0)) s))
    (gives (get_or s 0 0 ∷ []))))
    (gives (0 ∷ [])))

-- ---- the chain
-- numbers in front of a chain's
abbrev pub after : List ℕ → Paper → Paper
after l p = onward (λ (v : List ℕ). gives (l ++ v)) p

-- the kind, and what is read of the quote if there is one
abbrev pub told : (ℕ → List ℕ → Paper) → ℕ → List ℕ → List ℕ → Paper
told quote place s [] = gives []
told quote place s (kind ∷ []) = gives (kind ∷ [])
told quote place s (kind ∷ from ∷ l) = after (kind ∷ []) (quote from (take (get_or l 0 0 - from) (drop (from - place) s)))

-- a message, over what reads a quote
abbrev pub message_by : Edition → (ℕ → List ℕ → Paper) → ℕ → List ℕ → Paper
message_by e quote place s = onward (told quote place s) (found_of e place s)

-- a quote, with so many levels left: 17 before a byte is looked at; 15; 16; and then the message behind its head, if there is one
unfoldable pub quote_at : Edition → ℕ → ℕ → List ℕ → Paper
quote_at e zero place s = refuses 17 (place ∷ [])
quote_at e (suc k) place s =
    cond (ltb (length s) head_len) (refuses 15 (place ∷ []))
    (cond (eqb (version s) 6)
    (after (place ∷ next_header s ∷ []) (cond (eqb (next_header s) icmpv6) (message_by e (quote_at e k) (place + head_len) (drop head_len s)) (gives (0 ∷ []))))
    (refuses 16 (place ∷ [])))

-- a message, with so many levels left below it
unfoldable pub message_at : Edition → ℕ → ℕ → List ℕ → Paper
message_at e k place s = message_by e (quote_at e k) place s

-- of a packet: refusals 1 and 2, and then the outer message, with eight levels left
abbrev pub chain_of : Edition → List ℕ → Paper
chain_of e packet = sized (length packet) (message_at e 8 0 packet)
