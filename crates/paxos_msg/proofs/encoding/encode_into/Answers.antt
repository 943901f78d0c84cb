use Rattle.std.proofs.Common.{arith}
use Rattle.std.proofs.lemmas.Bool.Decides.{nat_tests}
use Rattle.paxos_msg.proofs.SpellingLengths.{body_short}
use Rattle.paxos_msg.proofs.encoding.encode_into.Goals as goal

pub put_body-requires-clause-room : goal.put_body-requires-clause-room
put_body-requires-clause-room c =
    grind (arith, nat_tests, body_short _ _ _ c.requires.fits.1, c.requires, c.put_header.ensures)
