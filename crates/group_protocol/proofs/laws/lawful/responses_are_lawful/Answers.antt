-- A message of each kind is lawful.
use Rattle.std.proofs.Common.{◌≡◌, ◌↔◌, ◌++◌, ℕ, false, inr, List, [], ◌∷◌, Option, Some, IfSome, IsSomeAnd, subst, sym, arith}
use Rattle.std.specs.FinMap.{get}
use Rattle.std.proofs.lemmas.Bool.Decides.{nat_tests}
use Rattle.std.proofs.lemmas.List.{append-nil}
use Rattle.std.proofs.lemmas.List.Elements.{Contains-append_left}
use Rattle.base.proofs.Branches.{either}
use Rattle.base.proofs.Lists.{all_of_one}
use Rattle.paxos_msg.specs.declared.ballot.Ballot.{Ballot}
use Rattle.paxos_msg.specs.declared.message.Body.TheVariants.{Accept, Accepted, Ask, Prepare, Promise, Refused, Submit, Tell}
use Rattle.paxos_msg.specs.Ballots.{IsAtMost}
use Rattle.paxos_msg.specs.Batches.{IsFree, MaySend, Record, Sent, Vote}
use Rattle.paxos_msg.specs.Bodies.{IsBody}
use Rattle.paxos_msg.specs.Keys.{Key}
use Rattle.paxos_msg.specs.Messages.{IsSaid}
use Rattle.paxos_msg.specs.Records.{MaySave}
use Rattle.paxos_msg.specs.Sending.{IsNoNewProposal}
use Rattle.paxos_msg.specs.Tests.{ballot_lt}
use Rattle.paxos_acceptor.specs.Answers.{accept_of, after, Answer, prepare_of, greater_promise}
use Rattle.paxos_proposer.specs.Backed.{IsProposerBacked}
use Rattle.paxos_proposer.specs.Proposer.{asks_on, Proposer, proposer_after_part}
use Rattle.paxos_learner.specs.Backed.{IsLearnerBacked}
use Rattle.paxos_learner.specs.Learner.{HasLearnedMore, Learner}
use Rattle.group_protocol.specs.declared.packet.To.{To}
use Rattle.group_protocol.specs.declared.packet.To.TheVariants as whom
use Rattle.group_protocol.specs.AcceptorResponses.{accept_answered_to, answering, unless_passed, with_kept}
use Rattle.group_protocol.specs.Backs.{Backs, HasPromised, IsLeadingBacked}
use Rattle.group_protocol.specs.Known.{Known, quiet}
use Rattle.group_protocol.specs.LearnerResponses.{on_ask}
use Rattle.group_protocol.specs.ProposerResponses.{leaves_room, prepare_from}
use Rattle.group_protocol.specs.Packets.{Packet}
use Rattle.group_protocol.specs.Pump.{accepts_of, pump}
use Rattle.group_protocol.specs.Ranges.{IsInRange}
use Rattle.group_protocol.specs.Steps.{IsDelivered, IsLawful, messages_handed_out}
use Rattle.group_protocol.proofs.ByCases.{by_offer, by_part, each_asked, each_tell}
use Rattle.group_protocol.proofs.Sending.{IsSound, led_lawful, quiet_lawful, then_pump, offer_goes, Proposes, ProposingLaws, pump_goes, stop_goes, goes_on, IsStable, Sender, sender_of, SendingLaws, stable_goes}
use Rattle.group_protocol.proofs.Saving.{promised_still, RecordLaws, record_saved}
use Rattle.group_protocol.proofs.laws.lawful.responses_are_lawful.Goals as goal

-- ---- a proposer after a save

module _ (not_below : (a b : Ballot) → (ballot_lt a b ≡ false) ↔ IsAtMost b a) (sent : Sent) (me : ℕ) (r : Record) where
  -- it is backed or dropped, by the promised ballot
  passed_at : (p : Proposer) (o : Option Ballot) → r.promised ≡ o → IsSomeAnd o (λ q. IsAtMost p.ballot q)
      → IsProposerBacked sent me p → IfSome (unless_passed o (Some p)) (IsLeadingBacked sent me r)
  passed_at p o e high h = grind (arith, nat_tests)

  -- a proposer that isn't dropped is backed, where what was promised is so still
  proposer_kept : (old : Record) (o : Option Proposer) → ((b : Ballot) → HasPromised old b → HasPromised r b)
      → IfSome o (IsLeadingBacked sent me old) → IfSome (unless_passed r.promised o) (IsLeadingBacked sent me r)
  proposer_kept old o still h = grind (arith, nat_tests, passed_at)

-- ---- an answer of the node's acceptor

-- an answer that may be saved for and sent by the node, proposes nothing, and counts no start
record IsAnswer (sent : Sent) (by : Sender) (answer : Answer) : Type 0 where
  old : IsNoNewProposal sent by.me answer.says
  starts : (after by.kept answer.saves).starts ≡ by.kept.starts
  may_save : IfSome answer.saves (MaySave sent by.kept)
  may_send : MaySend by.size by.typed by.learned sent by.me (after by.kept answer.saves) answer.says

module _ (c : goal.After-learned_stays) where
  sending : SendingLaws
  sending = grind (arith, nat_tests)

  proposing : ProposingLaws
  proposing = grind (arith, nat_tests)

  module _ (sent : Sent) (typed : List Key) (n : Known) where
    -- an answer is lawful, since the node is backed after its save
    answer_lawful : (to : To) (answer : Answer) → Backs sent typed n → IsAnswer sent (sender_of typed n) answer
        → IsLawful sent typed n.kept n.learner.learned (answering n to answer)
    answer_lawful to answer h may =
        let next : Known = with_kept n (after n.kept answer.saves) in
        let packet : Packet = record { to = to; body = answer.says } in
        let laws : RecordLaws = record { raises = c.saves_only_raise.ensures.promise; saved = c.backing.ensures.saved } in
        let backs : Backs sent typed next = record {
          kept = record_saved laws sent n.me.node n.kept answer.saves h.kept may.may_save;
          proposer =
              proposer_kept c.tests_are_exact.ensures.not_below sent n.me.node next.kept n.kept n.proposer
              (λ b. promised_still laws sent n.kept answer.saves b may.may_save) h.proposer;
          learner = h.learner;
          waiting = λ k waits. h.waiting k (rw may.starts at waits);
        } in
        let goes =
        stable_goes sending sent typed next (packet ∷ []) backs
        (all_of_one (IsStable (sender_of typed next) sent) packet (record { may = may.may_send; old = may.old })) in
        grind (arith, nat_tests, may.may_save, goes, h.learner)

    -- a proposer is sound after a part of a promise that was delivered
    part_sound : IsInRange n → (p : Proposer) → IsSound sent n p → (j first upto : ℕ) (votes : List Vote)
        → IsDelivered sent n j (Promise p.ballot first upto votes)
        → IsSound sent n (proposer_after_part p j first upto votes)
    part_sound ranges p g j first upto votes delivered =
        let (some, few) = delivered.fits.0 in
        let body : IsBody p.size j (Promise p.ballot first upto votes) = rw g.size delivered.fits.1 in
        let (ballot, size) = c.ballot_stays.ensures.parts p j (Promise p.ballot first upto votes) in
        let nodes = ranges.me.few in
        let backed =
        c.parts_keep_it_backed.ensures sent n.me.node j first upto p votes g.led.backed (omega arith) body delivered.is_sent in
        grind (arith, backed, ballot, size, g)

-- a call that leaves the record and what waits, and sends nothing
heard_lawful : {sent : Sent} {typed : List Key} (n : Known) (o : Option Proposer) (remembered : Option Ballot) (l : Learner)
    → Backs sent typed n → IfSome o (IsLeadingBacked sent n.me.node n.kept) → IsLearnerBacked sent l
    → HasLearnedMore n.learner.learned l.learned
    → IsLawful sent typed n.kept n.learner.learned (quiet (record n { proposer = o; remembered = remembered; learner = l }))
heard_lawful n o remembered l h proposer learner more = grind (arith, nat_tests, append-nil)

-- ---- a message of each kind

pub returns : goal.returns
-- a Prepare
returns c sent typed n j (Prepare b from) ranges h delivered =
    let law = c.promises_may_be_sent.ensures in
    answer_lawful c sent typed n (whom.One b.node) (prepare_of n.kept b from) h (record {
      old = grind (arith, nat_tests);
      starts = grind (arith, nat_tests);
      may_save = law.saves sent n.kept b from;
      may_send = law.sends n.me.group.size n.me.node from typed (get n.learner.learned) sent n.kept b ranges.kept h.kept.votes;
    })
-- an Accept
returns c sent typed n j (Accept b s v) ranges h delivered =
    let law = c.votes_may_be_sent.ensures in
    let said : IsSaid sent (Accept b s v) = (j, delivered.is_sent) in
    answer_lawful c sent typed n (accept_answered_to (greater_promise n.kept.promised b) b) (accept_of n.kept b s v) h (record {
      old = grind (arith, nat_tests);
      starts = grind (arith, nat_tests);
      may_save = law.saves sent n.kept b s v said;
      may_send = law.sends n.me.group.size n.me.node s typed (get n.learner.learned) sent n.kept b v h.kept.votes said;
    })
-- a Promise
returns c sent typed n j (Promise b first upto votes) ranges h delivered =
    by_part (IsLawful sent typed n.kept n.learner.learned) n n.proposer j first upto b votes (quiet_lawful h) (λ p e t.
    let g : IsSound sent n p = grind (arith, nat_tests) in
    let same : p.ballot ≡ b = (c.tests_are_exact.ensures.same p.ballot b).0 t in
    let own = subst (λ (c : Ballot). IsDelivered sent n j (Promise c first upto votes)) (sym same) delivered in
    led_lawful n.offered h (then_pump h (proposing c) (proposer_after_part p j first upto votes)
    (prepare_from b j (asks_on p j first upto)) (part_sound c sent typed n ranges p g j first upto votes own)
    (each_asked (IsStable (sender_of typed n) sent) b j (asks_on p j first upto) (λ s e.
    grind (arith, nat_tests)))))
-- a Submit: what it submits may be offered, where a pump leaves room for it
returns c sent typed n j (Submit v) ranges h delivered =
    by_offer (IsLawful sent typed n.kept n.learner.learned) n n.proposer v (quiet_lawful h) (λ p e.
    let g : IsSound sent n p = grind (arith, nat_tests) in
    let laws = proposing c in
    let pumped = pump_goes laws typed n 16 sent p g.size (grind (arith, nat_tests)) in
    let more : Sent = messages_handed_out n.me.node (accepts_of (pump 16 p).made) in
    let free : IsFree (sent ++ more) v = inr (j, Contains-append_left sent more _ delivered.is_sent) in
    let now = (pump 16 p).proposer in
    let offered = either (Proposes typed n (sent ++ more)) (leaves_room (pump 16 p))
    (offer_goes laws typed n (sent ++ more) now v free pumped.size pumped.goes.backs)
    (stop_goes laws typed n (sent ++ more) now pumped.size pumped.goes.backs) in
    led_lawful _ h (goes_on laws.sending pumped.goes offered.goes))
-- an Ask: Tells may say what is learned
returns c sent typed n j (Ask from) ranges h delivered =
    led_lawful n.offered h (stable_goes (sending c) sent typed n (on_ask n j from).sends h
    (each_tell (IsStable (sender_of typed n) sent) n j from (λ s v e. record { may = e; old = tt })))
-- an Accepted, a Refused and a Tell, which send nothing
returns c sent typed n j (Accepted b s v) ranges h delivered =
    heard_lawful n n.proposer n.remembered _ h h.proposer
    (c.stays_backed-2.ensures.accepted sent n.learner j s b v h.learner delivered.is_sent)
    (c.learned_stays.ensures.accepted n.learner j s b v)
returns c sent typed n j (Refused b promised) ranges h delivered =
    heard_lawful n _ _ n.learner h (grind (arith, nat_tests, h.proposer)) h.learner (record { stays = λ s v e. e })
returns c sent typed n j (Tell s v) ranges h delivered =
    heard_lawful n n.proposer n.remembered _ h h.proposer
    (c.stays_backed-2.ensures.told sent n.learner s v h.learner (j, delivered.is_sent)) (c.learned_stays.ensures.told n.learner s v)
