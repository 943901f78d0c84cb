-- What each call submits.
use Rattle.std.proofs.Common.{arith}
use Rattle.std.proofs.lemmas.Bool.Decides.{nat_tests}
use Rattle.group_protocol.proofs.Elements.{none_in}
use Rattle.group_protocol.proofs.Submits.{campaign_goes, message_goes, submit_asked, submits_none, tick_goes}
use Rattle.group_protocol.proofs.laws.waiting.only_ticks_submit.Goals as goal

pub returns-clause-tick : goal.returns-clause-tick
returns-clause-tick c n v among = c.waiting_keys_are_a_row.ensures.batch n v (submit_asked (tick_goes n) v among)

pub returns-clause-waits : goal.returns-clause-waits
returns-clause-waits c n = grind (arith, nat_tests)

pub returns-clause-start : goal.returns-clause-start
returns-clause-start c me r v among = none_in _ among

pub returns-clause-typed : goal.returns-clause-typed
returns-clause-typed c n byte v among = none_in _ among

pub returns-clause-campaign : goal.returns-clause-campaign
returns-clause-campaign c n v among = submits_none (campaign_goes n) v among

pub returns-clause-message : goal.returns-clause-message
returns-clause-message c n j body v among = submits_none (message_goes n j body) v among
