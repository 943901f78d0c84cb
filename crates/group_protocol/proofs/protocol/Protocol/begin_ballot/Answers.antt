use Rattle.std.proofs.Common.{◌∙◌, sym, arith}
use Rattle.paxos_learner.specs.Learner.{front_of}
use Rattle.group_protocol.proofs.PacketsFit.{beginning_fits}
use Rattle.group_protocol.proofs.protocol.Protocol.begin_ballot.Goals as goal

pub invariant_of-self-2 : goal.invariant_of-self-2
invariant_of-self-2 g c =
    let i = c.self.invariant in
    let r = rw (← c.self.view_is) at c.requires in
    let kept = rw (c.greater_ballots_are_promised.ensures c.self.inside.acceptor.kept c.args.ballot 0 r.above) at
    (c.promises_fit.ensures.kept c.self.inside.me.group.size 0 c.self.inside.acceptor.kept c.args.ballot i.1.ranges.kept r.ballot
    (omega arith)) in
    let begins =
    c.what_goes_out_fits.ensures.begins c.args.ballot (front_of c.self.inside.learner.learned) _ r.ballot (omega (arith, r.place)) in
    let fits = beginning_fits _ c.args.ballot i.1.ranges r.own kept begins in
    let follows = c.in-Ok.ensures.follows in (
      follows.me ∙ i.0,
      record {
        size = i.1.size;
        ranges = rw (follows.ok, c.begin.ensures, c.new.ensures, c.known_front-from.ensures.front) fits;
        owned = rw follows.owner i.1.owned;
        in_step = λ honest is_open. follows.saved honest ∙ sym follows.ok;
        loads = λ honest is_open q may. follows.only honest (λ none. grind arith) q may ∙ sym follows.ok;
      },
    )
