-- What a node may send, after which it is backed: packets that propose nothing new, proposals, and
-- the calls that its proposer answers.
use Rattle.std.proofs.Common.{◌≡◌, ◌↔◌, ◌⊎◌, ℕ, List, [], ◌∷◌, ◌++◌, Option, All, inl, inr, append_assoc, arith, zero, suc, Some, None, IfSome, refl}
use Rattle.std.proofs.lemmas.Bool.Decides.{nat_tests}
use Rattle.std.proofs.lemmas.List.{append-nil, map-append}
use Rattle.std.proofs.lemmas.List.Elements.{All-head, All-tail, All-map, All-contains, All-weaker, Contains-append_cases}
use Rattle.std.specs.FinMap.{get}
use Rattle.paxos_msg.specs.declared.value.Value.{Value}
use Rattle.paxos_msg.specs.declared.message.Body.TheVariants.{Accept, Prepare}
use Rattle.paxos_msg.specs.Batches.{Body, MaySend, MaySendAll, Msg, Record, Sent, IsFree}
use Rattle.paxos_msg.specs.Keys.{Key}
use Rattle.paxos_msg.specs.Messages.{IsSaid, messages_of}
use Rattle.paxos_msg.specs.Sending.{IsNoNewProposal, KnowsMore}
use Rattle.group_protocol.specs.Backs.{Backs, HasPromised, IsLeadingBacked}
use Rattle.group_protocol.specs.Known.{Known, quiet}
use Rattle.group_protocol.specs.Packets.{Packet, bodies_of}
use Rattle.group_protocol.specs.Steps.{messages_handed_out, IsLawful}
use Rattle.paxos_proposer.specs.Backed.{IsProposerBacked}
use Rattle.paxos_proposer.specs.Proposer.{Proposer, next_of, next_value, proposing}
use Rattle.group_protocol.specs.Pump.{accepts_of, offer, Proposals, propose, pump, stop}
use Rattle.group_protocol.proofs.NodeBackedAsMoreIsSent.{backs_later, BackingLaws, IsQuiet, learner_later, said_push}

-- ---- packets that propose nothing new

-- The laws of the crates below: also, what may be sent and is no new proposal may be sent still as
-- more is sent, and what may be sent in two halves may be sent as one.
pub record SendingLaws : Type 0 where
  pub backing : BackingLaws
  pub still : (size i : ℕ) (typed newer : List Key) (learned now : ℕ → Option Value) (sent more : Sent) (r : Record)
      (body : Body) → KnowsMore typed newer learned now → IsNoNewProposal sent i body
      → MaySend size typed learned sent i r body → MaySend size newer now (sent ++ more) i r body
  pub halves : (size i : ℕ) (typed : List Key) (learned : ℕ → Option Value) (sent : Sent) (r : Record)
      (bodies more : List Body)
      → MaySendAll size typed learned sent i r (bodies ++ more)
      ↔ (MaySendAll size typed learned sent i r bodies
      × MaySendAll size typed learned (sent ++ messages_of i bodies) i r more)

-- what the rules ask of a node that sends
pub record Sender : Type 0 where
  pub me : ℕ
  pub size : ℕ
  pub kept : Record
  pub typed : List Key
  pub learned : ℕ → Option Value

-- the node, where these keys were typed
abbrev pub sender_of : List Key → Known → Sender
sender_of typed n = record { me = n.me.node; size = n.me.group.size; kept = n.kept; typed = typed; learned = get n.learner.learned }

-- the packets may be sent, one after another
abbrev pub SendsAll : Sender → Sent → List Packet → Type 0
SendsAll by sent packets = MaySendAll by.size by.typed by.learned sent by.me by.kept (bodies_of packets)

-- the packet may be sent, and is no new proposal: so it may be sent whatever is sent before it
pub record IsStable (by : Sender) (sent : Sent) (packet : Packet) : Type 0 where
  pub may : MaySend by.size by.typed by.learned sent by.me by.kept packet.body
  pub old : IsNoNewProposal sent by.me packet.body

-- what a node may send, after which it is backed
pub record Goes (by : Sender) (sent : Sent) (packets : List Packet) (n : Known) : Type 0 where
  pub sends : SendsAll by sent packets
  pub backs : Backs (sent ++ messages_handed_out by.me packets) by.typed n

-- a packet as a message
abbrev message_of : Sender → Packet → Msg
message_of by packet = record { sender = by.me; body = packet.body }

-- packets in two parts may be sent as one
pub goes_on : {by : Sender} {sent : Sent} {xs ys : List Packet} {m n : Known} → SendingLaws → Goes by sent xs m
    → Goes by (sent ++ messages_handed_out by.me xs) ys n → Goes by sent (xs ++ ys) n
goes_on {by} {sent} {xs} {ys} laws h k = record {
  sends =
      rw (map-append (λ (packet : Packet). packet.body) xs ys)
      ((laws.halves _ _ _ _ _ _ (bodies_of xs) (bodies_of ys)).1 (h.sends, k.sends));
  backs = grind (arith, nat_tests, map-append, append_assoc, k.backs);
}

-- a Prepare is of a promised ballot
abbrev IsAsked : Record → Body → Type 0
IsAsked r (Prepare b from) = HasPromised r b
IsAsked r other = Unit {0}

module _ (laws : SendingLaws) (by : Sender) (sent : Sent) where
  -- packets that propose nothing new may be sent one after another, after more was sent
  stable_from : (more : Sent) (packets : List Packet) → All (IsStable by sent) packets → SendsAll by (sent ++ more) packets
  stable_from more [] all = tt
  stable_from more (x ∷ xs) all =
      let first : IsStable by sent x = All-head (IsStable by sent) x xs all in
      let rest = stable_from (more ++ message_of by x ∷ []) xs (All-tail (IsStable by sent) x xs all) in (
        laws.still by.size by.me by.typed by.typed by.learned by.learned sent more by.kept x.body
            (grind (arith, nat_tests)) first.old first.may,
        rw (append_assoc sent more (message_of by x ∷ [])) rest,
      )

  -- what is said once they are sent was said before, or is what one of them says
  said_or_sent : (P : Body → Type 0) → ((packet : Packet) → IsStable by sent packet → P packet.body) → (packets : List Packet)
      → All (IsStable by sent) packets → (body : Body) → IsSaid (sent ++ messages_handed_out by.me packets) body
      → IsSaid sent body ⊎ P body
  said_or_sent P h packets all body (i, has) =
      elim (Contains-append_cases sent (messages_handed_out by.me packets) (record { sender = i; body = body }) has) [
        | inl before ↦ inl (i, before)
        | inr now ↦ inr (All-contains (λ (m : Msg). P m.body) _ _
            (All-map (λ (m : Msg). P m.body) (λ (body : Body). record { sender = by.me; body = body }) (bodies_of packets)
            (All-map P (λ (packet : Packet). packet.body) packets
            (All-weaker (IsStable by sent) (λ (packet : Packet). P packet.body) h packets all))) now)
      ]

  -- they have no new Accept, and their Prepares are of promised ballots
  stable_quiet : (packets : List Packet) → All (IsStable by sent) packets → IsQuiet by.me by.kept sent (messages_handed_out by.me packets)
  stable_quiet packets all = record {
    asked = λ b from mine said. said_or_sent (IsAsked by.kept) (λ packet h. grind (arith, nat_tests)) packets all (Prepare b from) said;
    old = λ b s v mine said. elim (said_or_sent (IsNoNewProposal sent by.me) (λ packet h. h.old) packets all (Accept b s v) said) [
      | inl before ↦ before
      | inr old ↦ (by.me, old)
    ];
  }

-- a backed node may send them, and is backed then
pub stable_goes : SendingLaws → (sent : Sent) (typed : List Key) (n : Known) (packets : List Packet)
    → Backs sent typed n → All (IsStable (sender_of typed n) sent) packets → Goes (sender_of typed n) sent packets n
stable_goes laws sent typed n packets h all = record {
  sends = rw (append-nil sent) at (stable_from laws (sender_of typed n) sent [] packets all);
  backs =
      backs_later laws.backing sent (messages_handed_out n.me.node packets) typed n
      (stable_quiet laws (sender_of typed n) sent packets all) h;
}

-- ---- proposals

-- The laws of the crates below: also, what a proposer proposes may be sent, and then it is backed
-- again.
pub record ProposingLaws : Type 0 where
  pub sending : SendingLaws
  pub proposes : (typed : List Key) (learned : ℕ → Option Value) (sent : Sent) (me : ℕ) (r : Record) (p : Proposer)
      (offered : Option Value) (v : Value) → IsProposerBacked sent me p → IfSome offered (IsFree sent)
      → next_value p offered ≡ Some v → MaySend p.size typed learned sent me r (Accept p.ballot (next_of p) v)
  pub proposed : (sent : Sent) (me : ℕ) (p : Proposer) (v : Value) → IsProposerBacked sent me p
      → IsProposerBacked (sent ++ record { sender = me; body = Accept p.ballot (next_of p) v } ∷ []) me
      (proposing p (Some v))

-- the node with this proposer
abbrev pub leading : Known → Proposer → Known
leading n p = record n { proposer = Some p }

-- proposals that may be sent, after which the node is backed, and its proposer is of its group
pub record Proposes (typed : List Key) (n : Known) (sent : Sent) (proposals : Proposals) : Type 0 where
  pub goes : Goes (sender_of typed n) sent (accepts_of proposals.made) (leading n proposals.proposer)
  pub size : proposals.proposer.size ≡ n.me.group.size

module _ (laws : ProposingLaws) (typed : List Key) (n : Known) where
  -- what a proposer of the node's proposes, as a message
  abbrev proposal_of : Proposer → Value → Msg
  proposal_of p v = record { sender = n.me.node; body = Accept p.ballot (next_of p) v }

  -- a node is backed once its proposal is sent
  proposing_backed : (sent : Sent) (p : Proposer) (v : Value) → Backs sent typed (leading n p)
      → Backs (sent ++ proposal_of p v ∷ []) typed (leading n (proposing p (Some v)))
  proposing_backed sent p v h =
      let said_was = said_push sent n.me.node (proposal_of p v).body in
      record {
        kept = record {
          votes = laws.sending.backing.votes sent (proposal_of p v ∷ []) n.kept h.kept.votes;
          asked = λ b from mine said. grind (arith, h.kept.asked b from mine, said_was (Prepare b from) said);
          own = λ b s w mine said. grind (arith, h.proposer.promised, h.kept.own b s w mine, said_was (Accept b s w) said);
        };
        proposer = record { backed = laws.proposed sent n.me.node p v h.proposer.backed; promised = h.proposer.promised };
        learner = learner_later laws.sending.backing sent (proposal_of p v ∷ []) n.learner h.learner;
        waiting = h.waiting;
      }

  -- what goes on from each proposer that is backed
  abbrev GoesOn : (Proposer → Proposals) → Type 0
  GoesOn go_on = (sent : Sent) (p : Proposer) → p.size ≡ n.me.group.size → Backs sent typed (leading n p) → Proposes typed n sent (go_on p)

  -- no proposal
  pub stop_goes : GoesOn stop
  stop_goes sent p size h = grind (arith, nat_tests, append-nil)

  -- a proposal, if there is one, and what goes on after it
  propose_goes : (sent : Sent) (p : Proposer) (offered o : Option Value) (go_on : Proposer → Proposals)
      → IfSome offered (IsFree sent) → next_value p offered ≡ o → GoesOn go_on → p.size ≡ n.me.group.size
      → Backs sent typed (leading n p)
      → Proposes typed n sent (propose p o go_on)
  propose_goes sent p offered None go_on free e goes size h = stop_goes sent p size h
  propose_goes sent p offered (Some v) go_on free e goes size h =
      let m = proposal_of p v in
      let rest = goes (sent ++ m ∷ []) (proposing p (Some v)) size (proposing_backed sent p v h) in
      let by = sender_of typed n in
      let may : MaySend p.size typed by.learned sent n.me.node n.kept m.body =
      laws.proposes typed by.learned sent n.me.node n.kept p offered v h.proposer.backed free e in
      grind (arith, nat_tests, may, rest, size, append_assoc)

  -- a pump
  pub pump_goes : (k : ℕ) → GoesOn (pump k)
  unfolding pump
  pump_goes zero sent p size h = stop_goes sent p size h
  pump_goes (suc k) sent p size h = propose_goes sent p None (next_value p None) (pump k) tt refl (pump_goes k) size h

  -- an offer
  pub offer_goes : (sent : Sent) (p : Proposer) (v : Value) → IsFree sent v → p.size ≡ n.me.group.size
      → Backs sent typed (leading n p) → Proposes typed n sent (offer p v)
  offer_goes sent p v free size h = propose_goes sent p (Some v) (next_value p (Some v)) stop free refl stop_goes size h

-- ---- calls

-- a call that sends, and changes nothing but the proposer and what it has offered
pub led_lawful : {sent : Sent} {typed : List Key} {n : Known} {o : Option Proposer} {packets : List Packet} (offered : List Key)
    → Backs sent typed n → Goes (sender_of typed n) sent packets (record n { proposer = o })
    → IsLawful sent typed n.kept n.learner.learned
    (record { node = record n { proposer = o; offered = offered }; saves = None; sends = packets })
led_lawful offered h goes = grind (arith, nat_tests)

-- a call that does nothing
pub quiet_lawful : {sent : Sent} {typed : List Key} {n : Known} → Backs sent typed n
    → IsLawful sent typed n.kept n.learner.learned (quiet n)
quiet_lawful h = grind (arith, nat_tests, append-nil)

-- a proposer of the node's that is backed, and is of its group
pub record IsSound (sent : Sent) (n : Known) (p : Proposer) : Type 0 where
  pub led : IsLeadingBacked sent n.me.node n.kept p
  pub size : p.size ≡ n.me.group.size

-- packets that propose nothing new, and then a pump
pub then_pump : {sent : Sent} {typed : List Key} {n : Known} → Backs sent typed n → ProposingLaws → (p : Proposer) (before : List Packet)
    → IsSound sent n p → All (IsStable (sender_of typed n) sent) before
    → Goes (sender_of typed n) sent (before ++ accepts_of (pump 16 p).made) (leading n (pump 16 p).proposer)
then_pump {sent} {typed} {n} h laws p before g stable =
    let first = stable_goes laws.sending sent typed (leading n p) before (grind (arith, nat_tests)) stable in
    goes_on laws.sending first (pump_goes laws typed n 16 _ p g.size first.backs).goes
