-- What each call of a node submits: only a tick does, the batch of the first keys that wait. And
-- which serial is next after it.
use Rattle.std.proofs.Common.{All, ◌≡◌, ℕ, suc, ◌+◌, ◌≤◌, List, [], ◌∷◌, ◌++◌, length, length-drop, Option, Some, None, refl, ap, arith, subst, nat_cmp}
use Rattle.std.proofs.lemmas.Bool.Decides.{nat_tests}
use Rattle.std.proofs.lemmas.List.Elements.{All-append, All-cons, All-contains, All-map, All-nil, All-take}
use Rattle.std.specs.FinMap.{FinMap}
use Rattle.std.specs.List.{range_with_len, Contains, filter_map}
use Rattle.paxos_msg.specs.declared.message.Body.TheVariants.{Accept, Accepted, Ask, Prepare, Promise, Refused, Submit, Tell}
use Rattle.paxos_msg.specs.declared.value.Value.{Value}
use Rattle.paxos_msg.specs.Batches.{Body, Vote}
use Rattle.paxos_msg.specs.Keys.{Key, keys_from}
use Rattle.paxos_acceptor.specs.Answers.{accept_of, Answer, prepare_of}
use Rattle.paxos_proposer.specs.Proposer.{Proposer}
use Rattle.paxos_learner.specs.Input.{front_values, keys_in_order}
use Rattle.group_protocol.specs.declared.packet.To.{To}
use Rattle.group_protocol.specs.AcceptorResponses.{answering}
use Rattle.group_protocol.specs.Known.{Known, next_serial, Response}
use Rattle.group_protocol.specs.LearnerResponses.{tell_packet}
use Rattle.group_protocol.specs.Packets.{bodies_of, Packet}
use Rattle.group_protocol.specs.Protocol.{on_message, response_to}
use Rattle.group_protocol.specs.ProposerResponses.{on_campaign}
use Rattle.group_protocol.specs.Pump.{accepts_of, pump}
use Rattle.group_protocol.specs.Tick.{accept_again, accepts_again, asks, asks_again, on_tick, prepares_again, ticked}
use Rattle.group_protocol.specs.WaitingKeys.{batch_of, count_read, waiting_keys}
use Rattle.group_protocol.proofs.Elements.{all_images, of_map}

-- a Submit of this value alone, if there is one, or no Submit
abbrev IsAsked : Option Value → Body → Type 0
IsAsked o (Submit v) = o ≡ Some v
IsAsked o other = Unit {0}

-- the same of a packet, and of each of these
abbrev IsPacketAsked : Option Value → Packet → Type 0
IsPacketAsked o packet = IsAsked o packet.body

abbrev AreAsked : Option Value → List Packet → Type 0
AreAsked o packets = All (IsPacketAsked o) packets

-- no packets, one, and those of two lists
none_asked : (o : Option Value) → AreAsked o []
none_asked o = All-nil _

one_asked : (o : Option Value) (packet : Packet) → IsAsked o packet.body → AreAsked o (packet ∷ [])
one_asked o packet h = All-cons (IsPacketAsked o) packet [] h (none_asked o)

both_asked : (o : Option Value) (xs ys : List Packet) → AreAsked o xs → AreAsked o ys → AreAsked o (xs ++ ys)
both_asked o = All-append (IsPacketAsked o)

-- what a call sends besides Submits
module _ (o : Option Value) where
  accepts_asked : (votes : List Vote) → AreAsked o (accepts_of votes)
  accepts_asked votes = All-map (IsPacketAsked o) _ votes (λ k d below. tt)

  -- Tells
  tells_asked : (learned : FinMap nat_cmp Value) (j : ℕ) (places : List ℕ) → AreAsked o (filter_map (tell_packet learned j) places)
  tells_asked learned j places = all_images (IsPacketAsked o) _ places (λ s among. grind (arith, nat_tests))

  -- the Prepares of a tick
  prepares_asked : (p : Proposer) → AreAsked o (prepares_again p)
  prepares_asked p =
      let all = all_images (IsPacketAsked o) (asks_again p) (range_with_len 1 p.size) (λ i among. grind (arith, nat_tests)) in
      grind (arith, nat_tests)

  -- the Accepts that a tick sends again
  again_asked : (learned : FinMap nat_cmp Value) (p : Proposer) → AreAsked o (accepts_again learned p)
  again_asked learned p =
      All-take (IsPacketAsked o) 16 _ (all_images (IsPacketAsked o) (accept_again learned p) _ (λ s among. grind (arith, nat_tests)))

-- of the packets with which a tick ends only the batch is a Submit
asks_asked : (n : Known) → AreAsked (batch_of n n.waiting) (asks n)
asks_asked n = grind (arith, nat_tests)

-- The next serial stays, and at most the Submit of this value is sent.
pub record Goes (n : Known) (o : Option Value) (done : Response) : Type 0 where
  pub next : next_serial done.node ≡ next_serial n
  pub asked : AreAsked o done.sends

-- ---- messages

-- an acceptor's answer
answering_goes : (n : Known) (to : To) (answer : Answer) → IsAsked None answer.says → Goes n None (answering n to answer)
answering_goes n to answer says = record { next = refl; asked = one_asked None _ says }

-- a message of any kind
response_goes : (n : Known) (j : ℕ) (body : Body) → Goes n None (response_to n j body)
response_goes n j (Prepare b from) = answering_goes n _ (prepare_of n.kept b from) (grind (arith, nat_tests))
response_goes n j (Promise b first upto votes) =
    grind (arith, nat_tests, none_asked None, both_asked None, accepts_asked None)
response_goes n j (Accept b s v) = answering_goes n _ (accept_of n.kept b s v) (grind (arith, nat_tests))
response_goes n j (Accepted b s v) = record { next = refl; asked = none_asked None }
response_goes n j (Refused b promised) = record { next = refl; asked = none_asked None }
response_goes n j (Submit v) = grind (arith, nat_tests, none_asked None, both_asked None, accepts_asked None)
response_goes n j (Ask from) = record { next = refl; asked = tells_asked None _ j _ }
response_goes n j (Tell s v) = record { next = refl; asked = none_asked None }

-- no more keys leave than wait
count_few : (read keys : List Key) → count_read read keys ≤ length keys
count_few read [] = omega arith
count_few read (k ∷ ks) = grind (arith, nat_tests, count_few read ks)

keys_many : (node start serial : ℕ) (bytes : List ℕ) → length (keys_from node start serial bytes) ≡ length bytes
keys_many node start serial [] = refl
keys_many node start serial (byte ∷ bytes) = ap suc (keys_many node start (serial + 1) bytes)

-- a message, after which keys that are read no longer wait
pub message_goes : (n : Known) (j : ℕ) (body : Body) → Goes n None (on_message n j body)
message_goes n j body =
    let goes = response_goes n j body in
    let at : Known = (response_to n j body).node in
    let read : List Key = keys_in_order (front_values at.learner.learned) in
    let many = keys_many at.me.node at.kept.starts at.first at.waiting in
    record {
      next = grind (arith, count_few read (waiting_keys at), length-drop, goes.next);
      asked = goes.asked;
    }

-- ---- calls after which all keys wait that waited

pub campaign_goes : (n : Known) → Goes n None (on_campaign n)
campaign_goes n = record { next = refl; asked = one_asked None _ tt }

pub tick_goes : (n : Known) → Goes n (batch_of n n.waiting) (on_tick n)
tick_goes n = by n.proposer where
  by : (p : Option Proposer) → Goes n (batch_of n n.waiting) (ticked n p)
  by None = record { next = refl; asked = asks_asked n }
  by (Some p) =
      let o = batch_of n n.waiting in
      let before = both_asked o _ _ (prepares_asked o p) (again_asked o n.learner.learned p) in
      let asked = both_asked o _ _ before (both_asked o _ (asks n) (accepts_asked o (pump 16 p).made) (asks_asked n)) in
      record { next = refl; asked = asked }

-- ---- the Submits among the bodies that a call sends

-- a Submit is of the value that is asked
pub submit_asked : {n : Known} {o : Option Value} {done : Response} → Goes n o done → (v : Value)
    → Contains (bodies_of done.sends) (Submit v) → o ≡ Some v
submit_asked {n} {o} {done} goes v among =
    let (packet, here, is) = of_map (λ (p : Packet). p.body) done.sends (Submit v) among in
    subst (IsAsked o) is (All-contains (IsPacketAsked o) done.sends packet goes.asked here)

-- none is sent
pub submits_none : {n : Known} {done : Response} → Goes n None done → (v : Value) → ¬ Contains (bodies_of done.sends) (Submit v)
submits_none goes v among = let e = submit_asked goes v among in absurd cc
