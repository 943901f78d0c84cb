use Rattle.group_wire.proofs.Acting.{campaign_acts_by}
use Rattle.group_wire.proofs.host.Host.campaign.Goals as goal

pub returns-clause-acts : goal.returns-clause-acts
returns-clause-acts g c = campaign_acts_by c.begin_campaign.result c.begin_campaign.ensures.campaigned
