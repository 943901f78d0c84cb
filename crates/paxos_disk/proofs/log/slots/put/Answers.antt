use Rattle.std.proofs.Common.{arith}
use Rattle.paxos_disk.proofs.Votes.{put_in_slot}
use Rattle.paxos_disk.proofs.log.slots.put.Goals as goal

pub returns : goal.returns
returns c =
    let is = put_in_slot 0 c.args.vote.place c.args.slots.now.items c.args.vote c.requires.places c.requires.long (omega arith) in
    record { votes = is.0; places = is.1 }
