-- The calls of a node are lawful: a start, a typed byte, a campaign, a tick, and a message.
use Rattle.std.proofs.Common.{◌≡◌, ℕ, inl, List, [], ◌∷◌, ◌++◌, append_assoc, take, Some, All, Contains, refl, arith}
use Rattle.std.proofs.lemmas.List.{append-nil}
use Rattle.std.proofs.lemmas.List.Elements.{All-append, Contains-append_cases, Contains-append_left, Contains-append_right}
use Rattle.std.proofs.lemmas.Bool.Decides.{nat_tests}
use Rattle.base.proofs.Lists.{all_of_one}
use Rattle.paxos_msg.specs.declared.ballot.Ballot.{Ballot}
use Rattle.paxos_msg.specs.declared.value.Value.{Value}
use Rattle.paxos_msg.specs.declared.record.Change.TheVariants as change
use Rattle.paxos_msg.specs.declared.message.Body.TheVariants.{Accept, Prepare}
use Rattle.paxos_msg.specs.Batches.{IsTyped, Sent}
use Rattle.paxos_msg.specs.Keys.{Key, keys_of}
use Rattle.paxos_msg.specs.Messages.{IsSent}
use Rattle.paxos_msg.specs.Records.{MaySave}
use Rattle.group_protocol.specs.Backs.{Backs}
use Rattle.group_protocol.specs.Known.{front, Known, new_key, on_start, own_batch}
use Rattle.group_protocol.specs.Packets.{Packet, to_all}
use Rattle.group_protocol.specs.Protocol.{on_message, response_to}
use Rattle.group_protocol.specs.ProposerResponses.{next_ballot, on_campaign}
use Rattle.group_protocol.specs.Pump.{accepts_of, pump}
use Rattle.group_protocol.specs.Steps.{IsLawful}
use Rattle.group_protocol.specs.Tick.{accepts_again, asks, prepares_again}
use Rattle.group_protocol.specs.WaitingKeys.{batch_of, count_gone, waiting_keys}
use Rattle.group_protocol.proofs.ByCases.{by_tick, each_accept, each_last, each_prepare}
use Rattle.group_protocol.proofs.Sending.{IsSound, led_lawful, then_pump, leading, quiet_lawful, goes_on, IsStable, sender_of, ProposingLaws, SendingLaws, stable_goes}
use Rattle.group_protocol.proofs.Saving.{record_saved}
use Rattle.group_protocol.proofs.WaitingKeys.{batch_typed, first_keys, keys_from-append, last_keys}
use Rattle.group_protocol.proofs.laws.lawful.calls_are_lawful.Goals as goal

-- the first waiting keys were typed
waiting_typed : {sent : Sent} {typed : List Key} (n : Known) (bytes : List ℕ) → bytes ≡ n.waiting → Backs sent typed n
    → (v : Value) → batch_of n bytes ≡ Some v → IsTyped typed n.me.node v
waiting_typed n [] same h v e = absurd cc
waiting_typed {typed = typed} n (byte ∷ bytes) same h v e =
    let is : own_batch n n.first (take 32 (byte ∷ bytes)) ≡ v = cc in
    rw (← is) (batch_typed typed n.me.node n.kept.starts n.first byte (take 31 bytes)
    (λ key has. h.waiting key
    (rw (← same) (first_keys n.me.node n.kept.starts n.first 32 (byte ∷ bytes) key has))))

-- what a node asks all for
asks_stable : (sent : Sent) (typed : List Key) (n : Known) → Backs sent typed n → All (IsStable (sender_of typed n) sent) (asks n)
asks_stable sent typed n h =
    each_last (IsStable (sender_of typed n) sent) n
    (λ v e. record { may = waiting_typed n n.waiting refl h v e; old = tt }) (record { may = tt; old = tt })

sending : goal.After-begins_backed → SendingLaws
sending c = grind (arith, nat_tests)

pub returns : goal.returns
returns c = record {
  start = λ sent typed me r h.
      let learner = c.stays_backed-2.ensures.begins sent me.group.size in
      let backs : Backs sent typed (on_start me r).node = record {
        kept = record { votes = c.backing.ensures.start sent r h.votes; asked = h.asked; own = h.own };
        proposer = tt;
        learner = learner;
        waiting = λ k has. absurd (omega (arith, has.1));
      } in
      grind (arith, nat_tests, append-nil, backs);
  typed = λ sent typed n byte ranges h. quiet_lawful (record {
    kept = h.kept;
    proposer = h.proposer;
    learner = h.learner;
    waiting = λ k has. grind (
      arith,
      nat_tests,
      h.waiting k,
      Contains-append_cases (waiting_keys n) (keys_of (new_key n byte)) k
          (rw (keys_from-append n.me.node n.kept.starts n.first n.waiting (byte ∷ [])) at has),
      Contains-append_left,
      Contains-append_right,
    );
  });
  campaign = λ sent typed n ranges h.
      let b : Ballot = next_ballot n in
      let next : Known = (on_campaign n).node in
      let may : MaySave sent n.kept (change.Promise b) = grind (arith, nat_tests) in
      let backs : Backs sent typed next = record {
        kept =
            record_saved (record { raises = c.saves_only_raise.ensures.promise; saved = c.backing.ensures.saved })
            sent n.me.node n.kept (Some (change.Promise b)) h.kept may;
        proposer =
            record {
              backed = c.begins_backed.ensures sent b (front n) n.me.group.size
                  (λ s v said. let promised = h.kept.own b s v refl said in grind (arith, nat_tests, promised, may));
              promised = refl;
            };
        learner = h.learner;
        waiting = h.waiting;
      } in
      let goes =
      stable_goes (sending c) sent typed next (on_campaign n).sends backs
      (all_of_one (IsStable (sender_of typed next) sent) (to_all (Prepare b (front n)))
      (record { may = (refl, grind (arith, nat_tests)); old = tt })) in
      grind (arith, nat_tests, may, goes, h.learner);
  tick = λ sent typed n ranges h. by_tick (IsLawful sent typed n.kept n.learner.learned) n n.proposer
      (led_lawful n.offered h (stable_goes (sending c) sent typed n (asks n) h (asks_stable sent typed n h))) (λ p e.
      let g : IsSound sent n p = grind (arith, nat_tests) in
      let before : List Packet = prepares_again p ++ accepts_again n.learner.learned p in
      let S : Packet → Type 0 = IsStable (sender_of typed n) sent in
      let laws : ProposingLaws = grind (arith, nat_tests) in
      let pumped =
      then_pump h laws p before g (All-append S (prepares_again p) (accepts_again n.learner.learned p)
      (each_prepare S p (λ i low. grind (arith, nat_tests)))
      (each_accept S n.learner.learned p (λ s v e.
      let was : IsSent sent n.me.node (Accept p.ballot s v) = g.led.backed.sent_all s v e in
      record { may = (g.led.backed.own, inl was); old = was }))) in
      let made : List Packet = accepts_of (pump 16 p).made in
      let next : Known = leading n (pump 16 p).proposer in
      let last = stable_goes laws.sending _ typed next (asks n) pumped.backs (asks_stable _ typed next pumped.backs) in
      led_lawful n.offered h (rw (append_assoc before made (asks n)) at (goes_on laws.sending pumped last)));
  message = λ sent typed n j body ranges h delivered.
      let f = c.responses_are_lawful.ensures sent typed n j body ranges h delivered in
      let waiting : (k : Key) → Contains (waiting_keys (on_message n j body).node) k → Contains typed k =
      λ k has. f.backs.waiting k (last_keys _ _ _ (count_gone (response_to n j body).node) _ k has) in
      grind (arith, nat_tests, f, waiting);
}
