-- The lengths of spellings of values, votes and bodies.
use Rattle.std.proofs.Common.{ℕ, ◌+◌, ◌*◌, ◌≤◌, List, [], ◌∷◌, length, arith}
use Rattle.std.proofs.lemmas.List.{length-append}
use Rattle.std.proofs.lemmas.Bool.Decides.{nat_tests}
use Rattle.paxos_msg.specs.declared.ballot.Ballot.{Ballot}
use Rattle.paxos_msg.specs.declared.value.Value.{Value}
use Rattle.paxos_msg.specs.declared.value.Value.TheVariants.{Noop, Keys}
use Rattle.paxos_msg.specs.Batches.{Body, Vote}
use Rattle.paxos_msg.specs.Fits.{AreVotes, IsValue}
use Rattle.paxos_msg.specs.Bodies.{IsBody, body_bytes}
use Rattle.paxos_msg.specs.Spelling.{value_bytes, votes_bytes}

pub value_short : (size : ℕ) (v : Value) → IsValue size v → length (value_bytes v) ≤ 43
value_short size Noop h = omega arith
value_short size (Keys node start first bytes) h = omega (arith, h.2.2)

pub votes_short : (size low upto : ℕ) (b : Ballot) (votes : List Vote) → AreVotes size b low upto votes
    → length (votes_bytes votes) ≤ 52 * length votes
votes_short size low upto b [] h = omega arith
votes_short size low upto b (v ∷ votes) h =
    grind (arith, nat_tests, value_short size v.value h.0.value, votes_short size (v.place + 1) upto b votes h.1, length-append)

pub body_short : (size sender : ℕ) (body : Body) → IsBody size sender body → length (body_bytes body) ≤ 430
body_short size sender body h = grind (arith, nat_tests, value_short size, votes_short)
