-- Which serial is next after each call.
use Rattle.std.proofs.Common.{◌∷◌, [], arith, length-append}
use Rattle.group_protocol.proofs.Submits.{message_goes, tick_goes}
use Rattle.group_protocol.proofs.laws.waiting.serials_are_counted.Goals as goal

pub returns-clause-typed : goal.returns-clause-typed
returns-clause-typed c n byte = omega (arith, length-append n.waiting (byte ∷ []))

pub returns-clause-tick : goal.returns-clause-tick
returns-clause-tick c n = (tick_goes n).next

pub returns-clause-message : goal.returns-clause-message
returns-clause-message c n j body = (message_goes n j body).next
