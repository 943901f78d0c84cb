-- The proposals of a pump, one after another, are those of the definition.
use Rattle.std.proofs.Common.{◌≡◌, ℕ, suc, ◌+◌, ◌-◌, ◌<◌, ◌≤◌, List, [], ◌∷◌, ◌++◌, length, Option, Some, None, IsSome, refl, sym, arith, append_assoc, length-append}
use Rattle.std.proofs.lemmas.List.{append-nil, map-append}
use Rattle.std.proofs.lemmas.Bool.Decides.{nat_tests}
use Rattle.paxos_msg.specs.declared.value.Value.{Value}
use Rattle.paxos_msg.specs.Batches.{Vote}
use Rattle.paxos_acceptor.specs.declared.me.Me.{Me}
use Rattle.paxos_proposer.specs.Proposer.{Proposer, next_value, proposal, proposing}
use Rattle.group_protocol.specs.Packets.{Datagram, datagrams_of}
use Rattle.group_protocol.specs.Pump.{accepts_of, propose, pump, stop}

-- After this many proposals, which are in the outbox, the proposer comes with the rest of the 16 to
-- where the whole pump comes.
pub record IsPumping (me : Me) (began : Proposer) (before now : List Datagram) (count : ℕ) (p : Proposer) : Type 0 where
  pub made : List Vote
  pub counted : length made ≡ count
  pub proposer : (pump 16 began).proposer ≡ (pump (16 - count) p).proposer
  pub proposals : (pump 16 began).made ≡ made ++ (pump (16 - count) p).made
  pub packets : now ≡ before ++ datagrams_of me (accepts_of made)

-- before the first
pub pumping_none : (me : Me) (p : Proposer) (before : List Datagram) → IsPumping me p before before 0 p
pumping_none me p before = record {
  made = [];
  counted = refl;
  proposer = refl;
  proposals = refl;
  packets = sym (append-nil before);
}

-- a pump that has one proposal left and finds a value
pump_some : (left : ℕ) (p : Proposer) (v : Value) → next_value p None ≡ Some v
    → ((pump (suc left) p).proposer ≡ (pump left (proposing p (Some v))).proposer)
    × ((pump (suc left) p).made ≡ proposal p v ∷ (pump left (proposing p (Some v))).made)
unfolding pump
pump_some left p v e = (rw e refl, rw e refl)

-- a pump that finds none
pump_none : (left : ℕ) (p : Proposer) → next_value p None ≡ None → ((pump left p).proposer ≡ p) × ((pump left p).made ≡ [])
unfolding pump
pump_none left p e = grind (arith, nat_tests)

-- what a pump comes to, as the code says
pub record IsPumped (me : Me) (began : Proposer) (before now : List Datagram) (count : ℕ) (p : Proposer) : Type 0 where
  pub proposer : p ≡ (pump 16 began).proposer
  pub packets : now ≡ before ++ datagrams_of me (accepts_of (pump 16 began).made)
  pub counted : count ≡ length (pump 16 began).made

module _ {me : Me} {began p : Proposer} {before now : List Datagram} {count : ℕ} (h : IsPumping me began before now count p) where
  -- it is over where nothing is left to propose
  over : ((pump (16 - count) p).proposer ≡ p) × ((pump (16 - count) p).made ≡ []) → IsPumped me began before now count p
  over none = grind (arith, nat_tests, append-nil)

  -- where no value is found, as the code says
  pub over_none : {q : Proposer} {then : List Datagram} (o : Option Value)
      → next_value p None ≡ o → o ≡ None → q ≡ (propose p o stop).proposer
      → then ≡ now ++ datagrams_of me (accepts_of (propose p o stop).made) → IsPumped me began before then count q
  over_none o e none proposer packets = grind (arith, nat_tests, append-nil, over, pump_none)

  -- where 16 were made
  pub over_all : 16 ≤ count → IsPumped me began before now count p
  unfolding pump
  over_all most =
      let none : 16 - count ≡ 0 = omega (arith, most) in
      over (rw none (refl, refl))

  -- one more, as the code says
  pub pumping_more : {q : Proposer} {then : List Datagram} (o : Option Value) → count < 16
      → next_value p None ≡ o → IsSome o → q ≡ (propose p o stop).proposer
      → then ≡ now ++ datagrams_of me (accepts_of (propose p o stop).made) → IsPumping me began before then (count + 1) q
  pumping_more None few e some next sent = grind (arith, nat_tests)
  pumping_more (Some v) few e some next sent =
      let one : 16 - count ≡ suc (16 - (count + 1)) = omega (arith, few) in
      let left = pump_some (16 - (count + 1)) p v e in
      record {
        made = h.made ++ proposal p v ∷ [];
        counted = rw (length-append h.made (proposal p v ∷ [])) (omega (arith, h.counted));
        proposer = cc (h.proposer, one, left.0, next);
        proposals = grind (arith, h.proposals, one, left.1, append_assoc, next);
        packets = grind (arith, nat_tests, h.packets, append_assoc, map-append, sent);
      }
