use Rattle.std.proofs.Common.{None, Some}
use Rattle.node_udp.proofs.Opened.{opened}
use Rattle.node_udp.proofs.over_file.run_opened.Goals as goal

pub returns-in-None : goal.returns-in-None
returns-in-None g c = record { ends = opened c.args.plan.now c.args.text.now None c.in-None.is c.run_with.ensures.ends }

pub returns-in_ok-keyboard-in-Some : goal.returns-in_ok-keyboard-in-Some
returns-in_ok-keyboard-in-Some g c = record {
  ends = opened c.args.plan.now c.args.text.now (Some c.in-Some.address) c.in-Some.is
      (rw c.in_ok-keyboard-in-Some.ensures.fresh at c.run_with-in-Some.ensures.ends);
}
