-- The values of `answer`, the first field of every struct for C (docs/RULES.md X1). All differ, and none is 0.
-- Assumes nothing.
use Rattle.std.specs.Prelude.{ℕ, Bool, true, ◌&&◌, List, [], ◌∷◌, ltb}

abbrev pub REFUSED : ℕ
REFUSED = 1

-- a head whose type and code are in the table; another head
abbrev pub KNOWN : ℕ
KNOWN = 2

abbrev pub UNKNOWN : ℕ
UNKNOWN = 3

-- a verdict
abbrev pub VALID : ℕ
VALID = 4

abbrev pub INVALID : ℕ
INVALID = 5

-- a step of a walk
abbrev pub OPTION : ℕ
OPTION = 6

abbrev pub END : ℕ
END = 7

abbrev pub STOPPED : ℕ
STOPPED = 8

-- a packet that passed the receive check
abbrev pub RECEIVED : ℕ
RECEIVED = 9

-- a packet or an option that was written
abbrev pub WRITTEN : ℕ
WRITTEN = 10

-- an option that was read
abbrev pub PREFIX : ℕ
PREFIX = 11

-- the packets that a message quotes
abbrev pub CHAIN : ℕ
CHAIN = 12

-- a route, or one whose preference says to ignore it; servers
abbrev pub ROUTE : ℕ
ROUTE = 13

abbrev pub IGNORED : ℕ
IGNORED = 14

abbrev pub SERVERS : ℕ
SERVERS = 15

-- how far a router is preferred
abbrev pub PREFERENCE : ℕ
PREFERENCE = 16

-- a sum of bytes
abbrev pub SUM : ℕ
SUM = 17

-- the field of a packet of which a word changes
abbrev pub UPDATED : ℕ
UPDATED = 18

-- an index; an option found in it, or none
abbrev pub INDEXED : ℕ
INDEXED = 19

abbrev pub FOUND : ℕ
FOUND = 20

abbrev pub NONE : ℕ
NONE = 21

-- a plan that is accepted, or a message of one; one that is not; a plan that was made
abbrev pub ACCEPTED : ℕ
ACCEPTED = 22

abbrev pub NOT_ACCEPTED : ℕ
NOT_ACCEPTED = 23

abbrev pub PLANNED : ℕ
PLANNED = 24

-- the other options that were read: the MTU, and bytes that an option carries
abbrev pub MTU : ℕ
MTU = 25

abbrev pub BYTES : ℕ
BYTES = 26

-- a message's own fixed part
abbrev pub MESSAGE : ℕ
MESSAGE = 27

-- all of them
abbrev pub answers : List ℕ
answers = REFUSED ∷ KNOWN ∷ UNKNOWN ∷ VALID ∷ INVALID ∷ OPTION ∷ END ∷ STOPPED ∷ RECEIVED ∷ WRITTEN ∷ PREFIX ∷ CHAIN ∷ ROUTE ∷ IGNORED ∷ SERVERS ∷ PREFERENCE ∷ SUM ∷ UPDATED ∷ INDEXED ∷ FOUND ∷ NONE ∷ ACCEPTED ∷ NOT_ACCEPTED ∷ PLANNED ∷ MTU ∷ BYTES ∷ MESSAGE ∷ []

-- each number of a list above the one before it, the first above n: then no two are alike, and none is n
abbrev pub rising : ℕ → List ℕ → Bool
rising n [] = true
rising n (x ∷ l) = ltb n x && rising x l

-- the values of a refusal where nothing is refused
abbrev pub none : List ℕ
none = 0 ∷ 0 ∷ 0 ∷ 0 ∷ 0 ∷ []
