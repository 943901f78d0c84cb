-- The node that a batch names is that of all its keys.
use Rattle.std.proofs.Common.{◌<◌, length, arith}
use Rattle.std.proofs.lemmas.Bool.Decides.{nat_tests}
use Rattle.paxos_msg.proofs.OwnKeys.{own_keys}
use Rattle.paxos_msg.proofs.ranges.are_own_keys.Goals as goal

pub returns-in-Keys : goal.returns-in-Keys
returns-in-Keys c =
    let some : 0 < length c.in-Keys.bytes = omega (arith, c.len-bytes.ensures.len, c.len-bytes.ensures.some) in
    rw c.in-Keys.is (
      λ t. (own_keys _ _ _ _ _ some).1 (grind (arith, nat_tests)),
      λ own. grind (arith, nat_tests, (own_keys _ _ _ _ _ some).0 own),
    )
