use Rattle.std.proofs.Common.{append_assoc, rules}
use Rattle.paxos_disk.proofs.record.codec.put_record.Goals as goal

pub returns : goal.returns
returns c =
    let votes = c.put_kept.ensures.items in
    let promised = c.put_promised.ensures.items in
    record {
      items = rw (votes, c.as_slice.ensures, promised, c.put_number.ensures.items, c.put_header.ensures.items) (simp append_assoc);
      len = search rules;
      capacity = search rules;
    }
