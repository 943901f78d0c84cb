use Rattle.paxos_msg.specs.Fits.{IsValue}
use Rattle.group_protocol.proofs.protocol.Protocol.on_tell.Goals as goal

-- a Tell that any node may send has a spelling
pub invariant_of-self-2 : goal.invariant_of-self-2
invariant_of-self-2 g c =
    let i = c.self.invariant in
    let value : IsValue c.self.inside.me.group.size c.args.value = rw (← c.self.view_is) at c.requires.value in
    let fits =
    c.responses_fit.ensures.tell _ c.self.inside.me.node c.args.place c.args.value i.1.ranges
    (i.1.ranges.me.node, (c.requires.place, value)) in (
      i.0,
      record {
        size = i.1.size;
        ranges = rw c.in_ok-on_tell.ensures.ok fits.ranges;
        owned = i.1.owned;
        in_step = i.1.in_step;
        loads = i.1.loads;
      },
    )
