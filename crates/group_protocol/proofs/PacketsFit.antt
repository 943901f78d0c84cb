-- Packets of a node in its ranges have a spelling, each by itself, also what its proposer proposes;
-- and the proposer stays in its ranges.
use Rattle.std.proofs.Common.{◌≡◌, ℕ, List, [], ◌∷◌, ap, refl, length, take, Some, arith, zero, suc, Option, None, IfSome}
use Rattle.std.proofs.lemmas.Bool.{cases_lt}
use Rattle.std.proofs.lemmas.List.{get_or-take, get_or_past, length-take}
use Rattle.std.proofs.lemmas.Bool.Decides.{nat_tests}
use Rattle.paxos_msg.specs.declared.value.Value.{Value}
use Rattle.paxos_msg.specs.declared.ballot.Ballot.{Ballot}
use Rattle.paxos_msg.specs.declared.record.Change.TheVariants.{Promise}
use Rattle.paxos_msg.specs.Records.{changed}
use Rattle.paxos_acceptor.specs.Records.{IsRecord}
use Rattle.paxos_msg.specs.declared.message.Body.TheVariants.{Submit, Accept}
use Rattle.paxos_msg.specs.Bodies.{IsBody}
use Rattle.paxos_msg.specs.Fits.{IsValue, AreBytes}
use Rattle.paxos_msg.specs.Keys.{keys_from}
use Rattle.group_protocol.specs.Known.{front, Known}
use Rattle.group_protocol.specs.WaitingKeys.{batch_of}
use Rattle.group_protocol.specs.Ranges.{IsInRange, AreFit, IsOwnProposer}
use Rattle.paxos_acceptor.specs.declared.me.Me.{Me}
use Rattle.paxos_proposer.specs.Proposer.{new_proposer, next_of, next_value, Proposer, proposing}
use Rattle.paxos_proposer.specs.States.{IsProposerInRange}
use Rattle.group_protocol.specs.ProposerResponses.{beginning, offer_after}
use Rattle.group_protocol.specs.Packets.{Packet}
use Rattle.group_protocol.specs.Pump.{offer, Proposals, propose, pump}
use Rattle.group_protocol.proofs.WaitingKeys.{batch_typed}

-- ---- what waits and what is learned

-- the first bytes are bytes
take_bytes : (n : ℕ) (bytes : List ℕ) → AreBytes bytes → AreBytes (take n bytes)
take_bytes n bytes h i = grind (arith, nat_tests, cases_lt, get_or-take, length-take, get_or_past)

module _ (n : Known) (h : IsInRange n) where
  -- the Submit of the characters that wait, if there is one
  pub submit_fits : (bytes : List ℕ) → bytes ≡ n.waiting → (v : Value) → batch_of n bytes ≡ Some v
      → IsBody n.me.group.size n.me.node (Submit v)
  submit_fits [] all v e = absurd cc
  submit_fits (x ∷ xs) all v e =
      let few = length-take 31 xs in
      let many = ap length all in
      let are = take_bytes 32 (x ∷ xs) (rw all h.waiting.characters) in
      let keys = keys_from n.me.node n.kept.starts n.first (x ∷ take 31 xs) in
      let typed = batch_typed keys n.me.node n.kept.starts n.first x (take 31 xs) (λ key has. has) in
      grind (arith, few, many, are, typed.own, h.waiting.fits)

-- ---- proposals

-- The laws of proposers: what they propose has a spelling, and they stay in their ranges.
pub record AcceptLaws : Type 0 where
  pub proposes : (p : Proposer) (offered : Option Value) → IsProposerInRange p → IfSome offered (IsValue p.size)
      → IsProposerInRange (proposing p (next_value p offered))
  pub sends : (p : Proposer) (offered : Option Value) (v : Value) → IsProposerInRange p
      → IfSome offered (IsValue p.size) → next_value p offered ≡ Some v
      → IsBody p.size p.ballot.node (Accept p.ballot (next_of p) v)

module _ (me : Me) (p : Proposer) (h : IsOwnProposer me p) where
  -- the Accept of its next proposal
  pub next_fits : AcceptLaws → (offered : Option Value) (v : Value) → IfSome offered (IsValue me.group.size)
      → next_value p offered ≡ Some v → IsBody me.group.size me.node (Accept p.ballot (next_of p) v)
  next_fits laws offered v free e = grind (arith, nat_tests, laws.sends p offered v h.ranges (rw h.size free) e)

  -- it is the node's own still after its proposal
  next_own : AcceptLaws → (offered : Option Value) → IfSome offered (IsValue me.group.size)
      → IsOwnProposer me (proposing p (next_value p offered))
  next_own laws offered free = grind (arith, nat_tests)

-- a node that begins an own ballot stays in its ranges, where the record and the proposer are in theirs
pub beginning_fits : (n : Known) (b : Ballot) → IsInRange n → b.node ≡ n.me.node → IsRecord n.me.group.size (changed n.kept (Promise b))
    → IsProposerInRange (new_proposer b (front n) n.me.group.size) → IsInRange (beginning n b).node
beginning_fits n b h own kept begins = grind (arith, nat_tests)

-- the packet of a node has a spelling
abbrev pub IsPacketFit : Me → Packet → Type 0
IsPacketFit me packet = IsBody me.group.size me.node packet.body

module _ (laws : AcceptLaws) (me : Me) where
  -- a proposal, if there is one, and what goes on after it
  propose_fits : (p : Proposer) → IsOwnProposer me p → (offered o : Option Value) (go_on : Proposer → Proposals)
      → IfSome offered (IsValue me.group.size) → next_value p offered ≡ o
      → ((q : Proposer) → IsOwnProposer me q → AreFit me q (go_on q)) → AreFit me p (propose p o go_on)
  propose_fits p h offered None go_on free e goes = grind (arith, nat_tests)
  propose_fits p h offered (Some v) go_on free e goes =
      grind (arith, next_own me p h laws offered free, next_fits me p h laws offered v free e)

  -- a pump
  pub pump_fits : (n : ℕ) (p : Proposer) → IsOwnProposer me p → AreFit me p (pump n p)
  unfolding pump
  pump_fits zero p h = grind (arith, nat_tests)
  pump_fits (suc n) p h = propose_fits p h None (next_value p None) (pump n) tt refl (pump_fits n)

  -- an offer
  pub offer_fits : (p : Proposer) (v : Value) → IsOwnProposer me p → IsValue me.group.size v → AreFit me p (offer p v)
  offer_fits p v h fits = grind (arith, nat_tests)

  -- an offer after a pump
  pub offer_after_fits : (pumped : Proposals) (v : Value) → IsOwnProposer me pumped.proposer → IsValue me.group.size v
      → AreFit me pumped.proposer (offer_after pumped v)
  offer_after_fits pumped v h fits = grind (arith, nat_tests)
