-- What the calls of a node leave: it stays in its ranges, and what it sends has a spelling.
use Rattle.std.proofs.Common.{ℕ, IfSome, ◌<◌, List, [], ◌∷◌, ◌++◌, refl, arith}
use Rattle.std.proofs.lemmas.Bool.{cases_eq, cases_lt}
use Rattle.std.proofs.lemmas.List.{get_or_append_left, get_or_past, get_or_push, length_push}
use Rattle.std.proofs.lemmas.List.Elements.{All-append}
use Rattle.std.proofs.lemmas.Bool.Decides.{nat_tests}
use Rattle.base.proofs.Lists.{all_of_one}
use Rattle.paxos_msg.specs.declared.message.Body.TheVariants.{Accept, Accepted, Ask, Prepare, Promise, Refused, Submit, Tell}
use Rattle.paxos_msg.specs.Ballots.{IsBelow}
use Rattle.paxos_msg.specs.Batches.{Body}
use Rattle.paxos_msg.specs.Fits.{IsBallot, AreBytes}
use Rattle.group_protocol.specs.Known.{front, Known}
use Rattle.group_protocol.specs.Protocol.{response_to}
use Rattle.group_protocol.specs.ProposerResponses.{next_ballot}
use Rattle.group_protocol.specs.Tick.{accepts_again, asks, prepares_again}
use Rattle.group_protocol.specs.Packets.{to_all}
use Rattle.group_protocol.specs.Pump.{accepts_of, pump}
use Rattle.group_protocol.specs.Ranges.{IsFit, IsHeardFit, IsInRange, IsOwnProposer}
use Rattle.group_protocol.proofs.ByCases.{by_tick, each_accept, each_last, each_prepare}
use Rattle.group_protocol.proofs.PacketsFit.{beginning_fits, submit_fits, AcceptLaws, IsPacketFit, pump_fits}
use Rattle.group_protocol.proofs.laws.fitting.what_goes_out_fits.Goals as goal

-- bytes and one more are bytes
push_bytes : (bytes : List ℕ) (byte : ℕ) → AreBytes bytes → byte < 256 → AreBytes (bytes ++ byte ∷ [])
push_bytes bytes byte h low i = grind (arith, nat_tests, length_push, cases_lt, get_or_append_left, cases_eq, get_or_push, get_or_past)

-- a message, before the waiting keys below the front leave
response_fits : goal.After-window_holds → (n : Known) (j : ℕ) (body : Body) → IsInRange n → IsHeardFit n.me j body
    → IsFit n.me (response_to n j body)
response_fits c n j (Prepare b from) = c.responses_fit.ensures.prepare n j from b
response_fits c n j (Promise b first upto votes) = c.responses_fit.ensures.promise n j first upto b votes
response_fits c n j (Accept b s v) = c.responses_fit.ensures.accept n j s b v
response_fits c n j (Accepted b s v) = c.responses_fit.ensures.accepted n j s b v
response_fits c n j (Refused b promised) = λ h heard. c.responses_fit.ensures.refused n b promised h
response_fits c n j (Submit v) = c.responses_fit.ensures.submit n j v
response_fits c n j (Ask from) = λ h heard. c.responses_fit.ensures.ask n j from h
response_fits c n j (Tell s v) = c.responses_fit.ensures.tell n j s v

pub returns : goal.returns
returns c = record {
  start = λ me r member h spare.
      grind (arith, nat_tests, c.starts_are_counted.ensures.fits me.group.size r h spare, c.window_holds.ensures.begins me.group.size);
  begun = λ me r member h counted. grind (arith, nat_tests, c.window_holds.ensures.begins me.group.size);
  typed = λ n byte h low room spare. grind (arith, nat_tests, length_push n.waiting byte, push_bytes);
  campaign = λ n h rounds places.
      let b = next_ballot n in
      let ballot : IsBallot n.me.group.size b = ((omega arith, rounds), h.me.node) in
      let above : IfSome n.kept.promised (λ p. IsBelow p b) = grind (arith, nat_tests) in
      record {
        same = refl;
        ranges =
            beginning_fits n b h refl
            (rw (c.greater_ballots_are_promised.ensures n.kept b 0 above) at
            (c.promises_fit.ensures.kept n.me.group.size 0 n.kept b h.kept ballot (omega arith)))
            (c.what_goes_out_fits.ensures.begins b (front n) n.me.group.size ballot (omega arith));
        sends = all_of_one (IsPacketFit n.me) (to_all (Prepare b (front n))) (ballot, refl, omega arith);
      };
  tick = λ n h.
      let asked = each_last (IsPacketFit n.me) n (submit_fits n h n.waiting refl)
      (c.one_front.ensures.few n.learner.learned h.learner.window) in
      by_tick (IsFit n.me) n n.proposer (record { same = refl; ranges = h; sends = asked }) (λ p e.
      let own : IsOwnProposer n.me p = rw e at h.proposer in
      let laws : AcceptLaws = grind (arith, nat_tests) in
      let pumped = pump_fits laws n.me 16 p own in
      let before = All-append (IsPacketFit n.me) (prepares_again p) (accepts_again n.learner.learned p)
      (each_prepare (IsPacketFit n.me) p (λ i low. grind (arith, nat_tests)))
      (each_accept (IsPacketFit n.me) n.learner.learned p (λ s v e.
      grind (arith, nat_tests, c.what_goes_out_fits.ensures.again p s v own.ranges e))) in
      let after = All-append (IsPacketFit n.me) (accepts_of (pump 16 p).made) (asks n) pumped.sends asked in
      record { same = refl; ranges = grind (arith, nat_tests, pumped.own); sends = All-append (IsPacketFit n.me) _ _ before after });
  message = λ n j body h heard.
      let f = response_fits c n j body h heard in
      record { same = f.same; ranges = c.responses_fit.ensures.gone (response_to n j body).node f.ranges; sends = f.sends };
}
