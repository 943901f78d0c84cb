-- An answer that gives what is read gives what is spelled, and the other way round.
use Rattle.std.proofs.Common.{arith}
use Rattle.std.proofs.lemmas.Bool.Decides.{nat_tests}
use Rattle.paxos_msg.proofs.MessagesRead.{message_again, message_found}
use Rattle.paxos_msg.proofs.decoding.decode.Goals as goal

pub returns-clause-found : goal.returns-clause-found
returns-clause-found c =
    let found = message_found c.args.group c.args.bytes.now (omega arith) (λ i. omega (arith, c.type_inv.bytes i)) in
    grind (arith, nat_tests, found, c.message_of.ensures)

pub returns-clause-only : goal.returns-clause-only
returns-clause-only c m h = grind (arith, nat_tests, message_again c.args.group c.args.bytes.now m (omega arith) h, c.message_of.ensures)

pub returns-clause-few : goal.returns-clause-few
returns-clause-few c = grind (arith, nat_tests, returns-clause-found c)
