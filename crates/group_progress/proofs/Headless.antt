-- Nodes without a proposer, in a group where nothing was proposed: what they hear and what they send.
use Rattle.std.proofs.Common.{◌≡◌, inl, inr, ℕ, Contains, List, [], ◌∷◌, ◌++◌, Option, Some, None, option_map, refl, ap, subst}
use Rattle.std.proofs.lemmas.Bool.{cond_both}
use Rattle.std.specs.FinMap.{get}
use Rattle.paxos_msg.specs.declared.ballot.Ballot.{Ballot}
use Rattle.paxos_msg.specs.declared.message.Body.TheVariants.{Prepare, Promise, Accept, Accepted, Refused, Submit, Ask, Tell}
use Rattle.paxos_msg.specs.declared.record.Change.TheVariants as change
use Rattle.paxos_msg.specs.declared.value.Value.{Value}
use Rattle.paxos_msg.specs.Batches.{Body, Record, Vote}
use Rattle.paxos_acceptor.specs.Answers.{Answer, after, greater_promise, is_promised, prepare_of, prepared}
use Rattle.paxos_proposer.specs.Proposer.{Proposer}
use Rattle.group_protocol.proofs.Elements.{in_cases, none_in}
use Rattle.group_protocol.specs.declared.packet.To.{To}
use Rattle.group_protocol.specs.declared.packet.To.TheVariants.{One}
use Rattle.group_protocol.specs.AcceptorResponses.{answering, unless_passed}
use Rattle.group_protocol.specs.Known.{Known, Response, front}
use Rattle.group_protocol.specs.LearnerResponses.{tell_packet}
use Rattle.group_protocol.specs.Packets.{Packet, to_all, to_one}
use Rattle.group_protocol.specs.Protocol.{on_message, without_read_keys}
use Rattle.group_protocol.specs.ProposerResponses.{submitted, taking_part, unless_refused}
use Rattle.group_protocol.specs.Tick.{on_tick, submits, ticked}
use Rattle.group_protocol.specs.WaitingKeys.{batch_of}
use Rattle.group_progress.proofs.Silent.{no_images}

-- a node that has no proposer, no vote, and has learned nothing
pub record IsHeadless (n : Known) : Type 0 where
  pub votes : n.kept.votes ≡ []
  pub learned : (s : ℕ) → get n.learner.learned s ≡ None
  pub proposer : n.proposer ≡ None

-- what such nodes hear and send
abbrev pub IsHeadlessBody : Body → Type 0
IsHeadlessBody (Promise c first upto votes) = votes ≡ []
IsHeadlessBody (Accept c s v) = ⊥
IsHeadlessBody (Accepted c s v) = ⊥
IsHeadlessBody (Tell s v) = ⊥
IsHeadlessBody _ = Unit {0}

-- a response of such a node
abbrev pub StaysHeadless : Response → Type 0
StaysHeadless done = IsHeadless done.node × ((x : Packet) → Contains done.sends x → IsHeadlessBody x.body)

-- no packet
no_packet : (x : Packet) → Contains [] x → IsHeadlessBody x.body
no_packet x among = absurd (none_in x among)

-- one packet
pub one_packet : (first : Packet) → IsHeadlessBody first.body → (x : Packet) → Contains (first ∷ []) x → IsHeadlessBody x.body
one_packet first h x among = elim (in_cases first [] x among) [
  | inl same ↦ subst (λ (y : Packet). IsHeadlessBody y.body) same h
  | inr none ↦ absurd (none_in x none)
]

-- an answer of its acceptor
answers_so : (n : Known) (to : To) (answer : Answer) → IsHeadless n → (after n.kept answer.saves).votes ≡ [] → IsHeadlessBody answer.says
    → StaysHeadless (without_read_keys (answering n to answer))
answers_so n to answer h votes says = (
  record { votes = votes; learned = h.learned; proposer = ap (unless_passed (after n.kept answer.saves).promised) h.proposer },
  one_packet _ says,
)

-- a Prepare is refused or promised, and no vote is reported
prepared_so : (o : Option Ballot) (r : Record) (c : Ballot) (from : ℕ) → r.votes ≡ []
    → ((after r (prepared o r c from).saves).votes ≡ []) × IsHeadlessBody (prepared o r c from).says
prepared_so (Some p) r c from e = (e, tt)
prepared_so None r c from e = (
  cond_both (is_promised r.promised c) None (Some (change.Promise c)) (λ s. (after r s).votes ≡ []) (λ t. e) (λ t. e),
  rw e refl,
)

-- so a Prepare leaves it so
hears_prepare : (n : Known) (j : ℕ) (c : Ballot) (from : ℕ) → IsHeadless n → StaysHeadless (on_message n j (Prepare c from))
hears_prepare n j c from h =
    let made = prepared_so (greater_promise n.kept.promised c) n.kept c from h.votes in
    answers_so n (One c.node) (prepare_of n.kept c from) h made.0 made.1

-- a response that changes nothing
same_node : (n : Known) → IsHeadless n → IsHeadless (without_read_keys (record { node = n; saves = None; sends = [] })).node
same_node n h = record { votes = h.votes; learned = h.learned; proposer = h.proposer }

-- a Promise is passed over
hears_promise : (n : Known) (o : Option Proposer) (j : ℕ) (c : Ballot) (first upto : ℕ) (votes : List Vote) → IsHeadless n → o ≡ None
    → StaysHeadless (without_read_keys (taking_part n o j c first upto votes))
hears_promise n None j c first upto votes h e = (same_node n h, no_packet)
hears_promise n (Some p) j c first upto votes h e = absurd cc

-- and so is a Submit
hears_submit : (n : Known) (o : Option Proposer) (v : Value) → IsHeadless n → o ≡ None → StaysHeadless (without_read_keys (submitted n o v))
hears_submit n None v h e = (same_node n h, no_packet)
hears_submit n (Some p) v h e = absurd cc

-- each of them
pub hears_headless : (n : Known) (j : ℕ) (body : Body) → IsHeadless n → IsHeadlessBody body → StaysHeadless (on_message n j body)
hears_headless n j (Prepare c from) h is = hears_prepare n j c from h
hears_headless n j (Promise c first upto votes) h is = hears_promise n n.proposer j c first upto votes h h.proposer
hears_headless n j (Accept c s v) h is = absurd is
hears_headless n j (Accepted c s v) h is = absurd is
hears_headless n j (Refused c promised) h is = (
  record { votes = h.votes; learned = h.learned; proposer = ap (unless_refused c) h.proposer },
  no_packet,
)
hears_headless n j (Submit v) h is = hears_submit n n.proposer v h h.proposer
hears_headless n j (Ask from) h is = (
  record { votes = h.votes; learned = h.learned; proposer = h.proposer },
  rw (no_images (tell_packet n.learner.learned j) _ (λ s. ap (option_map (λ v. to_one j (Tell s v))) (h.learned s))) no_packet,
)
hears_headless n j (Tell s v) h is = absurd is

-- what it asks at a tick
asks_so : (n : Known) (o : Option Value) (x : Packet) → Contains (submits o ++ to_all (Ask (front n)) ∷ []) x → IsHeadlessBody x.body
asks_so n None x among = one_packet (to_all (Ask (front n))) tt x among
asks_so n (Some v) x among = elim (in_cases (to_all (Submit v)) (to_all (Ask (front n)) ∷ []) x among) [
  | inl same ↦ subst (λ (y : Packet). IsHeadlessBody y.body) same tt
  | inr rest ↦ one_packet (to_all (Ask (front n))) tt x rest
]

-- a tick
pub ticks_headless : (n : Known) → IsHeadless n → StaysHeadless (on_tick n)
ticks_headless n h = by n.proposer h.proposer where
  by : (o : Option Proposer) → o ≡ None → StaysHeadless (ticked n o)
  by None e = (h, asks_so n (batch_of n n.waiting))
  by (Some p) e = absurd cc
