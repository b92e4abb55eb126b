-- Worked cases of servers that are read by themselves: the numbers of units, the addresses, and the tests of any option before them.
-- Assumes nothing.
use Rattle.std.specs.Prelude.{ℕ, ◌≡◌, List, [], ◌∷◌, ◌++◌, replicate}
use Rattle.paper.specs.Paper.{Paper, refuses, gives}
use Rattle.packet_place.specs.Place.{placed}
use Rattle.recursive_dns_servers.specs.Servers.{servers_of, address_of}

-- an option for 1,200 seconds, and what follows
abbrev option : ℕ → List ℕ → List ℕ
option units l = 25 ∷ units ∷ 9 ∷ 9 ∷ 0 ∷ 0 ∷ 4 ∷ 176 ∷ l

pub data Case : Type 0 where
  -- read at place 40
  reads : List ℕ → Paper → Case
  -- the bytes of a server's address
  address : ℕ → List ℕ → List ℕ → Case

abbrev pub Claim : Case → Type 0
Claim (reads s p) = placed 40 s (servers_of s) ≡ p
Claim (address i s a) = address_of i s ≡ a

abbrev pub table : List Case
table =
    reads (option 3 (replicate 16 1)) (gives (1200 ∷ 1 ∷ 40 ∷ []))
    ∷ reads (option 5 (replicate 32 1)) (gives (1200 ∷ 2 ∷ 40 ∷ []))
    ∷ reads (option 1 []) (refuses 5 (25 ∷ 24 ∷ 8 ∷ 40 ∷ []))
    ∷ reads (option 2 (replicate 8 1)) (refuses 5 (25 ∷ 24 ∷ 16 ∷ 40 ∷ []))
    ∷ reads (option 4 (replicate 24 1)) (refuses 5 (25 ∷ 24 ∷ 32 ∷ 40 ∷ []))
    ∷ reads (option 3 (replicate 32 1)) (refuses 5 (25 ∷ 24 ∷ 40 ∷ 40 ∷ []))
    ∷ reads (24 ∷ 3 ∷ replicate 22 0) (refuses 8 (25 ∷ 24 ∷ 3 ∷ 3 ∷ 40 ∷ []))
    ∷ address 0 (option 5 (replicate 16 1 ++ replicate 16 2)) (replicate 16 1)
    ∷ address 1 (option 5 (replicate 16 1 ++ replicate 16 2)) (replicate 16 2)
    ∷ address 2 (option 5 (replicate 16 1 ++ replicate 16 2)) []
    ∷ address 0 (option 2 (replicate 8 1)) []
    ∷ []
