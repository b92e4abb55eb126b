-- An accepted chain with the bytes of each message and each quote: what was read where.
-- Assumes nothing.
use Rattle.std.specs.Prelude.{ℕ, zero, suc, ◌+◌, ◌-◌, ◌≤◌, ◌≡◌, ◌≢◌, List, [], ◌∷◌, length, take, drop}
use Rattle.paper.specs.Paper.{gives}
use Rattle.ndp_options.specs.declared.Edition.{Edition}
use Rattle.quotes.specs.Head.{head_len, version, next_header, icmpv6}
use Rattle.quotes.specs.Chain.{found_of}

-- a reader as a relation: place, bytes, numbers
abbrev pub Reads : Type 1
Reads = ℕ → List ℕ → List ℕ → Type 0

-- a quote, over a relation that reads messages
pub data Quoted (M : Reads) (place : ℕ) (s : List ℕ) : List ℕ → Type 0 where
  other : head_len ≤ length s → version s ≡ 6 → next_header s ≢ icmpv6 → Quoted M place s (place ∷ next_header s ∷ 0 ∷ [])
  inner : {v : List ℕ} → head_len ≤ length s → version s ≡ 6 → next_header s ≡ icmpv6 → M (place + head_len) (drop head_len s) v → Quoted M place s (place ∷ next_header s ∷ v)

-- a message, over a relation that reads quotes
pub data Messaged (e : Edition) (Q : Reads) (place : ℕ) (s : List ℕ) : List ℕ → Type 0 where
  ends : (kind : ℕ) → found_of e place s ≡ gives (kind ∷ []) → Messaged e Q place s (kind ∷ [])
  quotes : (kind from to : ℕ) {v : List ℕ} → found_of e place s ≡ gives (kind ∷ from ∷ to ∷ []) → Q from (take (to - from) (drop (from - place) s)) v → Messaged e Q place s (kind ∷ v)

-- with so many levels left
abbrev pub QuoteRead : Edition → ℕ → Reads
QuoteRead e zero place s v = ⊥
QuoteRead e (suc k) place s v = Quoted (Messaged e (QuoteRead e k)) place s v

abbrev pub MessageRead : Edition → ℕ → Reads
MessageRead e k = Messaged e (QuoteRead e k)
