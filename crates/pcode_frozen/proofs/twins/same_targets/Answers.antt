use Rattle.std.proofs.Common.{rules}
use Rattle.pcode_frozen.proofs.twins.same_targets.Goals as goal

pub returns : goal.returns
returns c = λ yes. record {
  target = c.jump-offset.result;
  other = c.jump-other_offset.result;
  leads = search (rules, c.jump-offset.ensures);
  leads_other = search (rules, c.jump-other_offset.ensures);
  on = c.goes_on.ensures yes;
}
