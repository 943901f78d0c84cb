-- A call by its cases: what the node's proposer does at a Promise, a Submit and a tick, and what
-- holds of each packet that a tick, an Ask or a part of a promise makes it send.
use Rattle.std.proofs.Common.{◌≡◌, ℕ, true, List, Option, Some, None, arith, ◌-◌, min, nat_lt, [], ◌∷◌, All, IfSome}
use Rattle.std.proofs.lemmas.Bool.Decides.{nat_tests}
use Rattle.paxos_msg.specs.declared.ballot.Ballot.{Ballot}
use Rattle.paxos_msg.specs.declared.value.Value.{Value}
use Rattle.paxos_msg.specs.Batches.{Vote}
use Rattle.paxos_msg.specs.Tests.{same_ballot}
use Rattle.paxos_proposer.specs.Proposer.{proposer_after_part, asks_on, Proposer, coverage_of, is_covered, next_of, proposed_at}
use Rattle.group_protocol.specs.Known.{Response, Known, quiet, front}
use Rattle.group_protocol.specs.ProposerResponses.{offer_after, offering, prepare_from, proposing_on, submitted, taking_part}
use Rattle.group_protocol.specs.Pump.{pump}
use Rattle.group_protocol.specs.Tick.{ticked, accept_again, accepts_again, asks, asks_again, prepares_again}
use Rattle.group_protocol.specs.WaitingKeys.{batch_of}
use Rattle.std.specs.Ordering.{nat_cmp}
use Rattle.std.specs.FinMap.{FinMap, get}
use Rattle.std.specs.List.{filter_map, range_with_len}
use Rattle.std.proofs.lemmas.List.Elements.{All-nil, All-take}
use Rattle.base.proofs.Branches.{either}
use Rattle.paxos_msg.specs.declared.message.Body.TheVariants.{Accept, Ask, Prepare, Submit, Tell}
use Rattle.paxos_learner.specs.Learner.{front_of}
use Rattle.group_protocol.specs.LearnerResponses.{on_ask, tell_packet}
use Rattle.group_protocol.specs.Packets.{Packet, to_all, to_one}

-- ---- what the proposer does

module _ (P : Response → Type 0) where
  -- what holds of no call, and of one in which the proposer takes the part, holds after a Promise
  pub by_part : (n : Known) (o : Option Proposer) (j first upto : ℕ) (b : Ballot) (votes : List Vote) → P (quiet n)
      → ((p : Proposer) → o ≡ Some p → same_ballot p.ballot b ≡ true
      → P (proposing_on n (prepare_from b j (asks_on p j first upto)) (pump 16 (proposer_after_part p j first upto votes))))
      → P (taking_part n o j b first upto votes)
  by_part n o j first upto b votes idle takes = grind (arith, nat_tests)

  -- what holds of no call, and of one in which the proposer offers the value, holds after a Submit
  pub by_offer : (n : Known) (o : Option Proposer) (v : Value) → P (quiet n)
      → ((p : Proposer) → o ≡ Some p → P (offering n v (pump 16 p) (offer_after (pump 16 p) v))) → P (submitted n o v)
  by_offer n o v idle offers = grind (arith, nat_tests)

  -- what holds of a tick with no proposer, and of one with the node's, holds after a tick
  pub by_tick : (n : Known) (o : Option Proposer) → P (ticked n None)
      → ((p : Proposer) → o ≡ Some p → P (ticked n (Some p))) → P (ticked n o)
  by_tick n o idle ticks = grind (arith, nat_tests)

-- ---- each packet

-- what holds of each that is made holds of all
filter_map_all : {X Y : Type 0} (P : Y → Type 0) (f : X → Option Y) (xs : List X) → ((x : X) → IfSome (f x) P) → All P (filter_map f xs)
filter_map_all P f [] h = All-nil P
filter_map_all P f (x ∷ xs) h = grind (arith, nat_tests, h x, filter_map_all P f xs h)

module _ (P : Packet → Type 0) where
  -- all Prepares of a tick
  pub each_prepare : (p : Proposer) → ((i : ℕ) → nat_lt (coverage_of p i) 65536 ≡ true → P (to_one i (Prepare p.ballot (coverage_of p i))))
      → All P (prepares_again p)
  each_prepare p h =
      either (All P) (is_covered p 65535) (All-nil P)
      (filter_map_all P (asks_again p) (range_with_len 1 p.size) (λ i. let here = h i in grind (arith, nat_tests)))

  -- all Accepts that a tick sends again
  pub each_accept : (learned : FinMap nat_cmp Value) (p : Proposer)
      → ((s : ℕ) (v : Value) → proposed_at p s ≡ Some v → P (to_all (Accept p.ballot s v))) → All P (accepts_again learned p)
  each_accept learned p h =
      let places : List ℕ = range_with_len (front_of learned) (next_of p - front_of learned) in
      All-take P 16 (filter_map (accept_again learned p) places)
      (filter_map_all P (accept_again learned p) places (λ s. let here = h s in grind (arith, nat_tests)))

  -- all Tells that answer an Ask
  pub each_tell : (n : Known) (j from : ℕ) → ((s : ℕ) (v : Value) → get n.learner.learned s ≡ Some v → P (to_one j (Tell s v)))
      → All P (on_ask n j from).sends
  each_tell n j from h =
      filter_map_all P (tell_packet n.learner.learned j) (range_with_len from (min 16 (front n - from)))
      (λ s. let here = h s in grind (arith, nat_tests))

  -- the Prepare that asks an acceptor on, if there is one
  pub each_asked : (b : Ballot) (j : ℕ) (o : Option ℕ) → ((s : ℕ) → o ≡ Some s → P (to_one j (Prepare b s))) → All P (prepare_from b j o)
  each_asked b j o h = grind (arith, nat_tests)

  -- it, and the Ask, with which a tick ends
  pub each_last : (n : Known) → ((v : Value) → batch_of n n.waiting ≡ Some v → P (to_all (Submit v))) → P (to_all (Ask (front n)))
      → All P (asks n)
  each_last n submit ask = grind (arith, nat_tests)
