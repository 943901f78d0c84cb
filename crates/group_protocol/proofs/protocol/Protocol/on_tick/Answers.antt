-- What a tick comes to, as the code says. A lemma takes the ranges of the node that is meant, so
-- that the node need not be written out.
use Rattle.std.proofs.Common.{◌≡◌, ◌∙◌, ℕ, List, [], ◌∷◌, ◌++◌, Option, Some, None, Ok, refl, sym, ap, append_assoc, arith, rules}
use Rattle.std.proofs.lemmas.Bool.Decides.{nat_tests}
use Rattle.std.proofs.lemmas.List.{map-append}
use Rattle.paxos_msg.specs.declared.value.Value.{Value}
use Rattle.paxos_msg.specs.declared.message.Body.TheVariants.{Ask}
use Rattle.paxos_proposer.specs.Proposer.{Proposer}
use Rattle.group_protocol.specs.Known.{front, Known}
use Rattle.group_protocol.specs.Tick.{accepts_again, asks, on_tick, prepares_again, submits}
use Rattle.group_protocol.specs.WaitingKeys.{batch_of}
use Rattle.group_protocol.specs.Calls.{Does}
use Rattle.paxos_acceptor.specs.declared.me.Me.{Me}
use Rattle.group_protocol.specs.Packets.{Datagram, Packet, datagrams_of, to_all, Queue}
use Rattle.group_protocol.specs.Pump.{accepts_of, pump}
use Rattle.group_protocol.specs.Ranges.{IsInRange}
use Rattle.group_protocol.specs.States.{Protocol}
use Rattle.group_protocol.proofs.protocol.Protocol.on_tick.Goals as goal
use Rattle.group_protocol.proofs.protocol.Protocol.on_tick.Goals.{in-Some+in-Ok, in_default}

-- what it asks last, as the code says
asked : {n : Known} {now : List Datagram} {batch : Option Value} {from : ℕ} (mid : List Datagram) → IsInRange n
    → now ≡ mid ++ datagrams_of n.me (submits batch ++ to_all (Ask from) ∷ [])
    → batch ≡ batch_of n n.waiting → from ≡ front n → now ≡ mid ++ datagrams_of n.me (asks n)
asked mid h is same here = grind (arith, nat_tests)

-- the node with such a proposer is in its ranges, since that of the response is
ticked_ranges : {n : Known} {p q : Proposer} → IsInRange n → IsInRange (on_tick n).node → n.proposer ≡ Some p
    → q ≡ (pump 16 p).proposer → IsInRange (record n { proposer = Some q })
ticked_ranges h fits e one = grind (arith, nat_tests)

-- a tick with no proposer does what it says
does_none : {S : Type 0} {inside old new : Protocol S} {before mid now : List Datagram} → inside ≡ old
    → now ≡ mid ++ datagrams_of inside.known.me (asks inside.known) → mid ≡ before → inside.known.proposer ≡ None
    → new.known ≡ inside.known → new.is_stopped ≡ inside.is_stopped
    → Does {S = S} {T = Unit {0}} old new before now (on_tick old.known) (Ok tt)
does_none is last none e rules same = grind (arith, nat_tests)

-- what is put into an empty outbox in three steps
put_again : (me : Me) (ps qs rs : List Packet) {o one two three : List Datagram} → o ≡ []
    → one ≡ o ++ datagrams_of me ps → two ≡ one ++ datagrams_of me qs → three ≡ two ++ datagrams_of me rs
    → three ≡ datagrams_of me ((ps ++ qs) ++ rs)
put_again me ps qs rs e a b c = rw (c, b, a, e) (simp map-append)

-- so does one with a proposer that has proposed again and pumped
does_some : {S : Type 0} {inside old new : Protocol S} {before mid now : List Datagram} {p q : Proposer} → inside ≡ old
    → now ≡ mid ++ datagrams_of inside.known.me (asks inside.known) → before ≡ [] → inside.known.proposer ≡ Some p
    → q ≡ (pump 16 p).proposer
    → mid ≡ datagrams_of inside.known.me
    ((prepares_again p ++ accepts_again inside.known.learner.learned p) ++ accepts_of (pump 16 p).made)
    → new.known ≡ record inside.known { proposer = Some q } → new.is_stopped ≡ inside.is_stopped
    → Does {S = S} {T = Unit {0}} old new before now (on_tick old.known) (Ok tt)
does_some {inside = inside} {p = p} is last empty e one again rules same =
    grind (arith, map-append, append_assoc)

pub returns-in_default-reserve-clause-does : goal.returns-in_default-reserve-clause-does
returns-in_default-reserve-clause-does g c =
    grind arith

pub ask-requires-clause-batch : goal.ask-requires-clause-batch
ask-requires-clause-batch g c =
    let batch : c.batch-batch.result ≡ batch_of c.args.self.now.known c.args.self.now.known.waiting = c.batch-batch.ensures in
    let same = rw (← c.self.view_is) at batch in
    λ v e. c.packets_fit.ensures.submit _ v c.self.invariant.1.ranges (sym same ∙ e)

pub invariant_of-self-2 : goal.invariant_of-self-2
invariant_of-self-2 g c =
    let i = c.self.invariant in
    elim c.match-self.branch [
      | in-Some+in-Ok w ↦
          let fits = c.what_goes_out_fits.ensures.tick _ i.1.ranges in
          let ranges =
          ticked_ranges {p = w.in-Some.proposer.known} {q = w.pump.new.proposer.known} i.1.ranges fits.ranges
          (rw w.in-Some.is refl) (rw w.reserve.ensures.same at w.pump.ensures.known) in
          rw w.self-inside-is (
            i.0,
            record { size = i.1.size; ranges = ranges; owned = i.1.owned; in_step = i.1.in_step; loads = i.1.loads },
          )
      | in_default w ↦ rw w.self-inside-is i
    ]

pub returns-clause-does : goal.returns-clause-does
returns-clause-does g c =
    let i = c.self.invariant in
    let batch : c.batch-batch.result ≡ batch_of c.args.self.now.known c.args.self.now.known.waiting = c.batch-batch.ensures in
    let same = rw (← c.self.view_is) at batch in
    let last = asked c.match-self.outbox.packets i.1.ranges c.ask.ensures same c.known_front-from.ensures.front in
    elim c.match-self.branch [
      | in-Some+in-Ok w ↦
          let put =
          put_again _ _ _ _ (cc (c.make_ready.ensures.packets, c.requires.empty))
          w.prepare_again.ensures.packets w.accept_all_again.ensures.packets w.pump.ensures.packets in
          does_some {p = w.in-Some.proposer.known} {q = w.pump.new.proposer.known} c.self.view_is last c.requires.empty
          (rw w.in-Some.is refl) (rw w.reserve.ensures.same at w.pump.ensures.known)
          (ap (λ (q : Queue). q.packets) w.outbox-is ∙ rw w.reserve.ensures.same at put)
          (rw w.self-inside-is refl) (rw w.self-inside-is refl)
      | in_default w ↦
          does_none c.self.view_is last (ap (λ (q : Queue). q.packets) w.outbox-is ∙ c.make_ready.ensures.packets)
          (rw w.in_default.is refl) (rw w.self-inside-is refl) (rw w.self-inside-is refl)
    ]
