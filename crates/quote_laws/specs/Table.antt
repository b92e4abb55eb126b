-- Packets, and what is answered of each: the number of a refusal with its values, or the chain.
-- Assumes nothing.
use Rattle.std.specs.Prelude.{ℕ, zero, suc, ◌≡◌, List, [], ◌∷◌, ◌++◌, replicate}
use Rattle.paper.specs.Paper.{Paper, refuses, gives}
use Rattle.ndp_options.specs.declared.Edition.TheVariants.{First}
use Rattle.quotes.specs.Chain.{chain_of}

abbrev pub zeros : ℕ → List ℕ
zeros n = replicate n 0

-- a head of eight bytes, and one of 40 that is quoted
abbrev pub head : ℕ → ℕ → List ℕ
head kind code = kind ∷ code ∷ zeros 6

abbrev pub quoted : ℕ → List ℕ
quoted next = 96 ∷ zeros 5 ++ (next ∷ zeros 33)

-- so many destination-unreachable messages, each in the one before, and then bytes
abbrev pub nest : ℕ → List ℕ → List ℕ
nest zero l = l
nest (suc n) l = head 1 0 ++ quoted 58 ++ nest n l

abbrev pub echo : List ℕ
echo = head 128 0

abbrev pub redirect : List ℕ → List ℕ
redirect options = head 137 0 ++ zeros 32 ++ options

-- redirected-header options: of seven units with an echo request, of one unit with nothing, and of ten with a solicitation and eight zeros
abbrev pub good : List ℕ
good = 4 ∷ 7 ∷ zeros 6 ++ quoted 58 ++ echo

abbrev pub bare : List ℕ
bare = 4 ∷ 1 ∷ zeros 6

abbrev pub padded : List ℕ
padded = 4 ∷ 10 ∷ zeros 6 ++ quoted 58 ++ head 135 0 ++ zeros 16 ++ zeros 8

-- eight levels, the last of a kind
abbrev pub eight : ℕ → Paper
eight kind = gives (1 ∷ 8 ∷ 58 ∷ 1 ∷ 56 ∷ 58 ∷ 1 ∷ 104 ∷ 58 ∷ 1 ∷ 152 ∷ 58 ∷ 1 ∷ 200 ∷ 58 ∷ 1 ∷ 248 ∷ 58 ∷ 1 ∷ 296 ∷ 58 ∷ 1 ∷ 344 ∷ 58 ∷ kind ∷ [])

pub record Case : Type 0 where
  pub packet : List ℕ
  pub answer : Paper

abbrev case : List ℕ → Paper → Case
case packet answer = record { packet = packet; answer = answer }

abbrev pub Claim : Case → Type 0
Claim c = chain_of First c.packet ≡ c.answer

abbrev pub table : List Case
table =
    case (zeros 7) (refuses 1 (8 ∷ 7 ∷ []))
    ∷ case (head 1 7 ++ quoted 17) (gives (0 ∷ []))
    -- a quote cut short, of another version, and of another next header
    ∷ case (head 1 0) (refuses 15 (8 ∷ []))
    ∷ case (head 1 0 ++ zeros 39) (refuses 15 (8 ∷ []))
    ∷ case (head 1 0 ++ zeros 40) (refuses 16 (8 ∷ []))
    ∷ case (head 1 0 ++ quoted 17) (gives (1 ∷ 8 ∷ 17 ∷ 0 ∷ []))
    -- a message within: cut short, and whole
    ∷ case (nest 1 []) (refuses 1 (8 ∷ 0 ∷ []))
    ∷ case (nest 1 (zeros 7)) (refuses 1 (8 ∷ 7 ∷ []))
    ∷ case (nest 1 echo) (gives (1 ∷ 8 ∷ 58 ∷ 128 ∷ []))
    -- eight levels, and a ninth
    ∷ case (nest 8 echo) (eight 128)
    ∷ case (nest 8 (head 1 0)) (refuses 17 (392 ∷ []))
    ∷ case (nest 8 (redirect [])) (eight 137)
    ∷ case (nest 8 (redirect bare)) (refuses 17 (432 ∷ []))
    ∷ case (nest 8 (redirect (1 ∷ []))) (refuses 5 (1 ∷ 2 ∷ 1 ∷ 424 ∷ []))
    -- options: the first of type 4 counts, and only in a list that walks clean
    ∷ case (redirect (bare ++ good)) (refuses 15 (48 ∷ []))
    ∷ case (redirect good) (gives (137 ∷ 48 ∷ 58 ∷ 128 ∷ []))
    ∷ case (redirect (good ++ bare)) (gives (137 ∷ 48 ∷ 58 ∷ 128 ∷ []))
    ∷ case (redirect (good ++ (1 ∷ []))) (refuses 5 (1 ∷ 2 ∷ 1 ∷ 96 ∷ []))
    ∷ case (redirect padded) (refuses 6 (0 ∷ 112 ∷ []))
    -- one more witness for each of 4, 7, 15 and 16 within
    ∷ case (nest 1 (head 137 0 ++ zeros 31)) (refuses 4 (32 ∷ 31 ∷ []))
    ∷ case (nest 1 (head 133 0 ++ (1 ∷ 2 ∷ zeros 6))) (refuses 7 (1 ∷ 16 ∷ 8 ∷ 56 ∷ []))
    ∷ case (nest 1 (head 2 0 ++ zeros 39)) (refuses 15 (56 ∷ []))
    ∷ case (nest 1 (head 3 0 ++ zeros 40)) (refuses 16 (56 ∷ []))
    ∷ []
