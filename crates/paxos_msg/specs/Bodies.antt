-- The kinds of messages: of each body its number, its bytes, its ranges and its reading. A new kind
-- is a line of each definition, or a definition beside the others.
use Rattle.std.specs.Prelude.{◌≡◌, ℕ, ◌<◌, ◌≤◌, List, [], ◌∷◌, ◌++◌, length, map, Result, Ok, Err, nat_lt, nat_le, ◌==◌, not, if◌then◌else◌}
use Rattle.base.specs.Steps.{◌>>=◌}
use Rattle.paxos_msg.specs.declared.limits.TheConstants.{LAST_PLACE, MOST_VOTES, PLACES}
use Rattle.paxos_msg.specs.declared.fault.WireFault.{WireFault}
use Rattle.paxos_msg.specs.declared.fault.WireFault.TheVariants as fault
use Rattle.paxos_msg.specs.declared.message.Body.{Body as BodyOf}
use Rattle.paxos_msg.specs.declared.message.Body.TheVariants.{Prepare, Promise, Accept, Accepted, Refused, Submit, Ask, Tell}
use Rattle.paxos_msg.specs.declared.message.BodyView.{BodyView}
use Rattle.paxos_msg.specs.declared.message.BodyView.TheVariants as body
use Rattle.paxos_msg.specs.declared.value.Vote.{Vote as VoteOf}
use Rattle.paxos_msg.specs.Ballots.{IsBelow}
use Rattle.paxos_msg.specs.Batches.{Body}
use Rattle.paxos_msg.specs.Fits.{AreVotes, IsBallot, IsPlace, IsValue}
use Rattle.paxos_msg.specs.Keys.{AreOwnKeys, batches}
use Rattle.paxos_msg.specs.Reading.{ballot_at, first_byte, own_ballot_at, own_keys_at, place_at, refuse, value_at, votes_at}
use Rattle.paxos_msg.specs.Spelling.{ballot_bytes, number_bytes, value_bytes, votes_bytes}
use Rattle.paxos_msg.specs.Tests.{ballot_lt}

-- The number of a body's kind, 1 to 8.
abbrev pub kind_of : Body → ℕ
kind_of (Prepare b from) = 1
kind_of (Promise b first upto votes) = 2
kind_of (Accept b s v) = 3
kind_of (Accepted b s v) = 4
kind_of (Refused b promised) = 5
kind_of (Submit v) = 6
kind_of (Ask from) = 7
kind_of (Tell s v) = 8

-- The bytes of a body.
abbrev pub body_bytes : Body → List ℕ
body_bytes (Prepare b from) = ballot_bytes b ++ number_bytes from
body_bytes (Promise b first upto votes) =
    ballot_bytes b ++ number_bytes first ++ number_bytes upto ++ length votes ∷ []
    ++ votes_bytes votes
body_bytes (Accept b s v) = ballot_bytes b ++ number_bytes s ++ value_bytes v
body_bytes (Accepted b s v) = ballot_bytes b ++ number_bytes s ++ value_bytes v
body_bytes (Refused b promised) = ballot_bytes b ++ ballot_bytes promised
body_bytes (Submit v) = value_bytes v
body_bytes (Ask from) = number_bytes from
body_bytes (Tell s v) = number_bytes s ++ value_bytes v

-- The ranges of a body that node `i` sends.
abbrev pub IsBody : ℕ → ℕ → Body → Type 0
IsBody size i (Prepare b from) = IsBallot size b × (b.node ≡ i) × IsPlace from
IsBody size i (Promise b first upto votes) =
    IsBallot size b × IsPlace first × (upto ≤ PLACES) × (first < upto) × (length votes ≤ MOST_VOTES)
    × AreVotes size b first upto votes
IsBody size i (Accept b s v) = IsBallot size b × (b.node ≡ i) × IsPlace s × IsValue size v
IsBody size i (Accepted b s v) = IsBallot size b × IsPlace s × IsValue size v
IsBody size i (Refused b promised) =
    IsBallot size b × IsBallot size promised × IsBelow b promised
IsBody size i (Submit v) = IsValue size v × AreOwnKeys batches i v
IsBody size i (Ask from) = from ≤ PLACES
IsBody size i (Tell s v) = IsPlace s × IsValue size v

-- A body that reports at most `most` votes.
-- Allows: A body without votes.
abbrev pub HasUpTo : ℕ → Body → Type 0
HasUpTo most (Promise b first upto votes) = length votes ≤ most
HasUpTo most _ = Unit {0}

-- The body that a body in a datagram spells.
abbrev pub said : BodyView → Body
said (body.Prepare b from) = Prepare b from
said (body.Promise b first upto votes) = Promise b first upto votes
said (body.Accept b s v) = Accept b s v
said (body.Accepted b s v) = Accepted b s v
said (body.Refused b promised) = Refused b promised
said (body.Submit v) = Submit v
said (body.Ask from) = Ask from
said (body.Tell s v) = Tell s v

-- ---- reading: the body, and the bytes after it, or the first check that fails

-- The body of a Prepare.
unfoldable pub prepare_at : ℕ → ℕ → List ℕ → Result (Body × List ℕ) WireFault
prepare_at size sender bytes = do
  b ← own_ballot_at size sender bytes
  from ← place_at LAST_PLACE b.1
  Ok (Prepare b.0 from.0, from.1)

-- The body of a Promise.
unfoldable pub promise_at : ℕ → List ℕ → Result (Body × List ℕ) WireFault
promise_at size bytes = do
  b ← ballot_at size bytes
  first ← place_at LAST_PLACE b.1
  upto ← place_at PLACES first.1
  _ ← refuse fault.Place (nat_le upto.0 first.0)
  count ← first_byte upto.1
  _ ← refuse fault.Count (nat_lt MOST_VOTES count.0)
  votes ← votes_at size b.0 first.0 upto.0 0 count.0 count.1
  Ok (Promise b.0 first.0 upto.0 votes.0, votes.1)

-- The body of an Accept.
unfoldable pub accept_at : ℕ → ℕ → List ℕ → Result (Body × List ℕ) WireFault
accept_at size sender bytes = do
  b ← own_ballot_at size sender bytes
  place ← place_at LAST_PLACE b.1
  value ← value_at size place.1
  Ok (Accept b.0 place.0 value.0, value.1)

-- The body of an Accepted.
unfoldable pub accepted_at : ℕ → List ℕ → Result (Body × List ℕ) WireFault
accepted_at size bytes = do
  b ← ballot_at size bytes
  place ← place_at LAST_PLACE b.1
  value ← value_at size place.1
  Ok (Accepted b.0 place.0 value.0, value.1)

-- The body of a Refused.
unfoldable pub refused_at : ℕ → List ℕ → Result (Body × List ℕ) WireFault
refused_at size bytes = do
  b ← ballot_at size bytes
  promised ← ballot_at size b.1
  _ ← refuse fault.Ballot (not (ballot_lt b.0 promised.0))
  Ok (Refused b.0 promised.0, promised.1)

-- The body of a Submit.
unfoldable pub submit_at : ℕ → ℕ → List ℕ → Result (Body × List ℕ) WireFault
submit_at size sender bytes = own_keys_at size sender bytes >>= λ keys. Ok (Submit keys.0, keys.1)

-- The body of an Ask.
unfoldable pub ask_at : List ℕ → Result (Body × List ℕ) WireFault
ask_at bytes = place_at PLACES bytes >>= λ from. Ok (Ask from.0, from.1)

-- The body of a Tell.
unfoldable pub tell_at : ℕ → List ℕ → Result (Body × List ℕ) WireFault
tell_at size bytes = do
  place ← place_at LAST_PLACE bytes
  value ← value_at size place.1
  Ok (Tell place.0 value.0, value.1)

-- The body of a message of this kind from this sender, and the bytes after it. The header has
-- refused a number that is no kind.
unfoldable pub body_at : ℕ → ℕ → ℕ → List ℕ → Result (Body × List ℕ) WireFault
body_at size kind sender bytes =
    if kind == 1 then prepare_at size sender bytes
    else if kind == 2 then promise_at size bytes
    else if kind == 3 then accept_at size sender bytes
    else if kind == 4 then accepted_at size bytes
    else if kind == 5 then refused_at size bytes
    else if kind == 6 then submit_at size sender bytes
    else if kind == 7 then ask_at bytes
    else if kind == 8 then tell_at size bytes
    else Err fault.Kind

-- ---- with other values

-- The vote with its value replaced by `f`.
abbrev pub vote_with : {V W : Type 0} → (V → W) → VoteOf V → VoteOf W
vote_with f vote = record { place = vote.place; ballot = vote.ballot; value = f vote.value }

-- The body with each value replaced by `f`.
abbrev pub body_with : {V W : Type 0} → (V → W) → BodyOf V → BodyOf W
body_with f (Prepare b from) = Prepare b from
body_with f (Promise b first upto votes) = Promise b first upto (map (vote_with f) votes)
body_with f (Accept b s v) = Accept b s (f v)
body_with f (Accepted b s v) = Accepted b s (f v)
body_with f (Refused b promised) = Refused b promised
body_with f (Submit v) = Submit (f v)
body_with f (Ask from) = Ask from
body_with f (Tell s v) = Tell s (f v)
