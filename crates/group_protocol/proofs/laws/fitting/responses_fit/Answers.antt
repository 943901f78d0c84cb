-- A node after a message that has a spelling: it stays in its ranges, and what it sends has a
-- spelling.
use Rattle.std.proofs.Common.{◌≡◌, ◌∙◌, ℕ, ◌+◌, ◌≤◌, List, [], ◌∷◌, length, drop, refl, arith}
use Rattle.std.proofs.lemmas.List.{get_or-drop, length-drop}
use Rattle.std.proofs.lemmas.List.Elements.{All-append}
use Rattle.std.proofs.lemmas.Bool.Decides.{nat_tests}
use Rattle.paxos_msg.specs.declared.message.Body.TheVariants.{Promise}
use Rattle.paxos_msg.specs.Bodies.{IsBody}
use Rattle.paxos_msg.specs.Fits.{AreBytes}
use Rattle.paxos_msg.specs.Keys.{Key, keys_from}
use Rattle.paxos_acceptor.specs.Answers.{Answer, accept_of, after, prepare_of}
use Rattle.paxos_acceptor.specs.Records.{IsRecord}
use Rattle.paxos_proposer.specs.Proposer.{asks_on, Proposer, proposer_after_part}
use Rattle.group_protocol.specs.declared.packet.To.{To}
use Rattle.group_protocol.specs.AcceptorResponses.{answering}
use Rattle.group_protocol.specs.Known.{Known}
use Rattle.group_protocol.specs.ProposerResponses.{offer_after, prepare_from, proposing_on}
use Rattle.group_protocol.specs.WaitingKeys.{count_read, count_gone}
use Rattle.group_protocol.specs.Packets.{Packet}
use Rattle.group_protocol.specs.Pump.{accepts_of, Proposals, pump}
use Rattle.group_protocol.specs.Ranges.{AllFit, AreFit, IsFit, IsInRange, IsOwnProposer}
use Rattle.group_protocol.proofs.ByCases.{by_offer, by_part, each_asked, each_tell}
use Rattle.group_protocol.proofs.PacketsFit.{AcceptLaws, offer_after_fits, IsPacketFit, pump_fits}
use Rattle.group_protocol.proofs.laws.fitting.responses_fit.Goals as goal

-- ---- keys that leave

-- no more keys are read than there are characters
count_few : (read : List Key) (node start serial : ℕ) (bytes : List ℕ) → count_read read (keys_from node start serial bytes) ≤ length bytes
count_few read node start serial [] = omega arith
count_few read node start serial (x ∷ xs) = grind (arith, nat_tests, count_few read node start (serial + 1) xs)

-- the rest of bytes is bytes
drop_bytes : (n : ℕ) (bytes : List ℕ) → AreBytes bytes → AreBytes (drop n bytes)
drop_bytes n bytes h1 = grind (arith, nat_tests, get_or-drop)

-- ---- calls

module _ (n : Known) (h : IsInRange n) where
  -- an answer, by what it saves and says
  answering_fits : (to : To) (answer : Answer) → IsRecord n.me.group.size (after n.kept answer.saves)
      → (after n.kept answer.saves).starts ≡ n.kept.starts → IsBody n.me.group.size n.me.node answer.says
      → IsFit n.me (answering n to answer)
  answering_fits to answer kept starts says = grind (arith, nat_tests)

  -- proposals after other packets
  proposing_fits : (p : Proposer) (before : List Packet) (proposals : Proposals) → AllFit n.me before
      → AreFit n.me p proposals → IsFit n.me (proposing_on n before proposals)
  proposing_fits p before proposals fit f = record {
    same = refl;
    ranges = grind (arith, nat_tests, f.own);
    sends = All-append (IsPacketFit n.me) before (accepts_of proposals.made) fit f.sends;
  }

-- ---- the laws

accepts : goal.After-window_holds → AcceptLaws
accepts c = grind (arith, nat_tests)

pub returns-clause-prepare : goal.returns-clause-prepare
returns-clause-prepare c n j from b h (some, (ballot, own, place)) =
    let laws = c.promises_fit.ensures in
    answering_fits n h _ (prepare_of n.kept b from) (laws.kept n.me.group.size from n.kept b h.kept ballot place)
    (grind (arith, nat_tests)) (laws.says n.me.group.size n.me.node from n.kept b h.kept ballot place)

pub returns-clause-promise : goal.returns-clause-promise
returns-clause-promise c n j first upto b votes h heard =
    by_part (IsFit n.me) n n.proposer j first upto b votes (grind (arith, nat_tests)) (λ p e t.
    let own : IsOwnProposer n.me p = rw e at h.proposer in
    let same : p.ballot ≡ b = (c.tests_are_exact.ensures.same p.ballot b).0 t in
    let next : Proposer = proposer_after_part p j first upto votes in
    let kept = c.ballot_stays.ensures.parts p j (Promise p.ballot first upto votes) in
    let fits = c.what_goes_out_fits.ensures.parts j first upto p votes own.ranges (rw (own.size, same) heard.1) in
    let before = each_asked (IsPacketFit n.me) b j (asks_on p j first upto) (λ s e. grind (arith, nat_tests)) in
    proposing_fits n h next (prepare_from b j (asks_on p j first upto)) (pump 16 next) before
    (pump_fits (accepts c) n.me 16 next
    (record { size = kept.1 ∙ own.size; own = rw kept.0 own.own; ranges = fits })))

pub returns-clause-accept : goal.returns-clause-accept
returns-clause-accept c n j s b v h (some, (ballot, own, place, value)) =
    let laws = c.votes_fit.ensures in
    answering_fits n h _ (accept_of n.kept b s v) (laws.kept n.me.group.size s n.kept b v h.kept ballot place value)
    (grind (arith, nat_tests)) (laws.says n.me.group.size n.me.node s n.kept b v h.kept ballot place value)

pub returns-clause-submit : goal.returns-clause-submit
returns-clause-submit c n j v h (some, (value, own)) =
    by_offer (IsFit n.me) n n.proposer v (grind (arith, nat_tests)) (λ p e.
    let pumped = pump_fits (accepts c) n.me 16 p (rw e at h.proposer) in
    let made = offer_after_fits (accepts c) n.me (pump 16 p) v pumped.own value in
    let f = proposing_fits n h (pump 16 p).proposer (accepts_of (pump 16 p).made) (offer_after (pump 16 p) v) pumped.sends made in
    record { same = refl; ranges = grind (arith, nat_tests, made.own); sends = f.sends })

pub returns-clause-ask : goal.returns-clause-ask
returns-clause-ask c n j from h =
    record { same = refl; ranges = h; sends = each_tell (IsPacketFit n.me) n j from (λ s v e. grind (arith, nat_tests)) }

pub returns-clause-gone : goal.returns-clause-gone
returns-clause-gone c n h =
    let few : count_gone n ≤ length n.waiting = count_few _ n.me.node n.kept.starts n.first n.waiting in
    grind (arith, nat_tests, length-drop, drop_bytes, few)
