use Rattle.std.proofs.Common.{rules}
use Rattle.paxos_msg.specs.Fits.{IsGroup}
use Rattle.paxos_disk.proofs.Found.{load_leaves, none_loads, one_read, save_leaves, saved_loads, seen_loads}
use Rattle.paxos_disk.proofs.laws.what_restarts_load.Goals as goal

pub returns : goal.returns
returns c =
    let me = c.args.me in
    let small : IsGroup me.group = search rules in
    let read = c.records_are_read.ensures in
    record {
      one = λ left r s other. one_read me small read other left r s;
      none = none_loads;
      seen = seen_loads me small read;
      load = load_leaves;
      saved = saved_loads me small read;
      left = save_leaves me small read;
    }
