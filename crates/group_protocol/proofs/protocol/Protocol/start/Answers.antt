-- What a start is over: the acceptor's answer to the count, and what the count leaves of it.
use Rattle.std.proofs.Common.{Ok, Err, arith}
use Rattle.group_protocol.proofs.protocol.Protocol.start.Goals as goal

pub returns-in-Ok-clause-over : goal.returns-in-Ok-clause-over
returns-in-Ok-clause-over g c =
    let h = c.in-Ok.ensures.counts in
    record { answer = Ok c.in-Ok.field-0; left = c.new_start.new.self; counts = h; begins = grind arith }

pub returns-in-Err-clause-over : goal.returns-in-Err-clause-over
returns-in-Err-clause-over g c =
    let h = c.in-Err.ensures.counts in
    record { answer = Err c.in-Err.fault; left = c.new_start.new.self; counts = h; begins = grind arith }
