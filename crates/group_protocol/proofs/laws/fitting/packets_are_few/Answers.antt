-- How many packets a call sends.
use Rattle.std.proofs.Common.{ℕ, zero, suc, ◌+◌, ◌≤◌, length, Option, arith}
use Rattle.std.specs.Ordering.{nat_cmp}
use Rattle.std.specs.FinMap.{FinMap}
use Rattle.std.specs.List.{filter_map, range_with_len}
use Rattle.std.proofs.lemmas.List.{length-append, length-map}
use Rattle.std.proofs.lemmas.Bool.Decides.{nat_tests}
use Rattle.paxos_msg.specs.declared.value.Value.{Value}
use Rattle.paxos_proposer.specs.Proposer.{Proposer}
use Rattle.group_protocol.specs.Known.{Known}
use Rattle.group_protocol.specs.ProposerResponses.{offer_after}
use Rattle.group_protocol.specs.Tick.{accepts_again, asks, prepares_again}
use Rattle.group_protocol.specs.Pump.{accepts_of, Proposals, pump}
use Rattle.group_protocol.proofs.ByCases.{by_tick}
use Rattle.group_protocol.proofs.laws.fitting.packets_are_few.Goals as goal

-- ---- lists

-- of this many places one each at most
places_few : {Y : Type 0} (f : ℕ → Option Y) (a n : ℕ) → length (filter_map f (range_with_len a n)) ≤ n
places_few f a zero = omega arith
places_few f a (suc n) = grind (arith, nat_tests, places_few f (a + 1) n)

-- ---- proposals

-- a pump
pump_few : (n : ℕ) (p : Proposer) → length (pump n p).made ≤ n
unfolding pump
pump_few zero p = omega arith
pump_few (suc n) p = grind (arith, nat_tests, pump_few n)

-- the Accepts of a pump of 16
pumped_few : (p : Proposer) → length (accepts_of (pump 16 p).made) ≤ 16
pumped_few p = grind (arith, nat_tests, length-map, pump_few 16 p)

-- the Accepts of an offer after a pump
offer_few : (pumped : Proposals) (v : Value) → length (accepts_of (offer_after pumped v).made) ≤ 1
offer_few pumped v = grind (arith, nat_tests, length-map)

-- ---- a tick

-- a Prepare for each node at most
prepares_few : (p : Proposer) → p.size ≤ 9 → length (prepares_again p) ≤ 9
prepares_few p small = grind (arith, nat_tests, places_few)

-- the Accepts that are sent again
again_few : (learned : FinMap nat_cmp Value) (p : Proposer) → length (accepts_again learned p) ≤ 16
again_few learned p = grind (arith, nat_tests)

-- what a node asks last
asks_few : (n : Known) → length (asks n) ≤ 2
asks_few n = grind (arith, nat_tests)

pub returns-clause-message : goal.returns-clause-message
returns-clause-message c n j body = grind (arith, nat_tests, length-append, pumped_few, offer_few, places_few)

pub returns-clause-tick : goal.returns-clause-tick
returns-clause-tick c n h = grind (arith, nat_tests, by_tick, length-append, asks_few, prepares_few, again_few, pumped_few)

pub returns-clause-ask : goal.returns-clause-ask
returns-clause-ask c n j from = grind (arith, nat_tests, places_few)

pub returns-clause-pump : goal.returns-clause-pump
returns-clause-pump c = pump_few
