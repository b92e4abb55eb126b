-- Two packets of a capture, and each beside it as it may arrive: what is caught, and what slips through (docs/RULES.md S15 to S22).
-- Assumes nothing.
use Rattle.std.specs.Prelude.{ℕ, ◌≡◌, List, [], ◌∷◌, ◌++◌, drop, replicate}
use Rattle.std.proofs.lemmas.List.Edits.{sets}
use Rattle.checksum.specs.Icmpv6.{valid, invalid, verdict_of}
use Rattle.checksum_catches.specs.Window.{Differ, Within, window}
use Rattle.checksum_catches.specs.Unseen.{words_exchanged, carried_over, zeros_behind, zeros_before}

-- source, destination and packet; for what is caught the first bit of the window; the packet as it arrives
pub data Case : Type 0 where
  caught : List ℕ → List ℕ → List ℕ → ℕ → List ℕ → Case
  slips : List ℕ → List ℕ → List ℕ → List ℕ → Case

abbrev pub Claim : Case → Type 0
Claim (caught source destination p at q) = Within window at p q × (verdict_of source destination p ≡ valid) × (verdict_of source destination q ≡ invalid)
Claim (slips source destination p q) = Differ p q × (verdict_of source destination p ≡ valid) × (verdict_of source destination q ≡ valid)

-- ---- a neighbor advertisement of 32 bytes: head, target, an option of type 2

-- fe80::ff:fe00:111 and ff02::1
abbrev neighbor : List ℕ
neighbor = 0xfe ∷ 0x80 ∷ (replicate 9 0 ++ 0xff ∷ 0xfe ∷ 0x00 ∷ 0x01 ∷ 0x11 ∷ [])

abbrev nodes : List ℕ
nodes = 0xff ∷ 0x02 ∷ (replicate 13 0 ++ 0x01 ∷ [])

abbrev head : List ℕ
head = 0x88 ∷ 0x00 ∷ 0x56 ∷ 0x6b ∷ 0x20 ∷ 0x00 ∷ 0x00 ∷ 0x00 ∷ []

abbrev option : List ℕ
option = 0x02 ∷ 0x01 ∷ 0x02 ∷ 0x00 ∷ 0x00 ∷ 0x00 ∷ 0x01 ∷ 0x11 ∷ []

abbrev pub announcement : List ℕ
announcement = head ++ (neighbor ++ option)

-- with other bytes from a place on
abbrev announced : ℕ → List ℕ → List ℕ
announced at bytes = sets announcement at bytes

-- ---- an echo request of 13 bytes

-- 2001:db8:f::11 and 2001:db8:f::44
abbrev host : ℕ → List ℕ
host n = 0x20 ∷ 0x01 ∷ 0x0d ∷ 0xb8 ∷ 0x00 ∷ 0x0f ∷ (replicate 9 0 ++ n ∷ [])

abbrev pub request : List ℕ
request = 0x80 ∷ 0x00 ∷ 0x06 ∷ 0x44 ∷ 0x17 ∷ 0x8a ∷ 0x00 ∷ 0x01 ∷ 0x00 ∷ 0x01 ∷ 0x02 ∷ 0x03 ∷ 0x04 ∷ []

abbrev requested : ℕ → List ℕ → List ℕ
requested at bytes = sets request at bytes

abbrev pub table : List Case
table =
    -- one bit, of the type
    caught neighbor nodes announcement 7 (announced 0 (0x89 ∷ []))
    -- 15 bits: within the field, before it and over its edge, behind it and over its edge
    ∷ caught neighbor nodes announcement 17 (announced 2 (0x29 ∷ 0x94 ∷ []))
    ∷ caught neighbor nodes announcement 9 (announced 1 (0x7f ∷ 0xa9 ∷ []))
    ∷ caught neighbor nodes announcement 25 (announced 3 (0x14 ∷ 0xdf ∷ []))
    -- across two words, and at the end
    ∷ caught neighbor nodes announcement 153 (announced 19 (0x80 ∷ 0x01 ∷ []))
    ∷ caught neighbor nodes announcement 241 (announced 30 (0x7e ∷ 0xee ∷ []))
    -- into an odd last byte, and in it alone
    ∷ caught (host 0x11) (host 0x44) request 89 (requested 11 (0x7c ∷ 0xfb ∷ []))
    ∷ caught (host 0x11) (host 0x44) request 96 (requested 12 (0x05 ∷ []))
    -- 16 bits: a word 0000 that is now ffff, and the same across two words, from bit 101 on
    ∷ slips neighbor nodes announcement (announced 6 (0xff ∷ 0xff ∷ []))
    ∷ slips neighbor nodes announcement (announced 12 (0x07 ∷ 0xff ∷ 0xf8 ∷ []))
    -- two words exchanged: fe80 of the target and 0201 of the option; fffe and 1102, which lie across words
    ∷ slips neighbor nodes announcement (words_exchanged announcement 8 24)
    ∷ slips neighbor nodes announcement (words_exchanged announcement 19 23)
    -- 0111 of the target is now 0112, and 0111 of the option 0110
    ∷ slips neighbor nodes announcement (carried_over announcement 22 30 1)
    -- fe80 of the target is four words further on, and the words 0000 that stood behind it are before it
    ∷ slips neighbor nodes (zeros_behind head (0xfe ∷ 0x80 ∷ []) 4 (drop 10 neighbor ++ option)) (zeros_before head (0xfe ∷ 0x80 ∷ []) 4 (drop 10 neighbor ++ option))
    ∷ []
