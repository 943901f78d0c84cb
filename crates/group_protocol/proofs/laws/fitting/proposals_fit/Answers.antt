-- The lemmas of `PacketsFit`, with the laws of proposers.
use Rattle.std.proofs.Common.{arith}
use Rattle.group_protocol.proofs.PacketsFit.{AcceptLaws, next_fits, offer_after_fits, offer_fits, pump_fits}
use Rattle.group_protocol.proofs.laws.fitting.proposals_fit.Goals as goal

laws : goal.After-ballot_stays → AcceptLaws
laws c =
    grind arith

pub returns-clause-sends : goal.returns-clause-sends
returns-clause-sends c me p offered v h free e = next_fits me p h (laws c) offered v free e

pub returns-clause-pump : goal.returns-clause-pump
returns-clause-pump c = pump_fits (laws c)

pub returns-clause-offer : goal.returns-clause-offer
returns-clause-offer c = offer_fits (laws c)

pub returns-clause-offer_after : goal.returns-clause-offer_after
returns-clause-offer_after c = offer_after_fits (laws c)
