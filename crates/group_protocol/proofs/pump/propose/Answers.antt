use Rattle.group_protocol.proofs.pump.propose.Goals as goal

pub returns-in-Ok-Some-clause-own : goal.returns-in-Ok-Some-clause-own
returns-in-Ok-Some-clause-own c =
    rw c.in-Ok-Some.ensures.ok (c.proposals_fit.ensures.stays _ _ c.args.offered c.requires.own c.requires.value)

pub returns-in-Ok-None-clause-own : goal.returns-in-Ok-None-clause-own
returns-in-Ok-None-clause-own c =
    rw c.in-Ok-None.ensures.ok (c.proposals_fit.ensures.stays _ _ c.args.offered c.requires.own c.requires.value)
