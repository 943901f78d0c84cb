use Rattle.std.proofs.Common.{rules}
use Rattle.node_run.proofs.Course.{gift_none}
use Rattle.node_run.proofs.rest.rest_once.Goals as goal

pub returns-in-Ok : goal.returns-in-Ok
returns-in-Ok g c = record {
  works = search rules;
  rests = search rules;
  hears = rw c.ends_rest.ensures.passed (c.in-Ok.field-0, c.in-Ok.ensures.heard);
  looks = gift_none _;
  retries = search rules;
  output = search rules;
}

pub returns-in-Ok-2 : goal.returns-in-Ok-2
returns-in-Ok-2 g c = record {
  works = search rules;
  rests = search rules;
  hears = (c.in-Ok-2.field-0, c.in-Ok-2.ensures.heard);
  looks = gift_none _;
  retries = search rules;
  output = search rules;
}

pub returns-in-Err-clause-looks : goal.returns-in-Err-clause-looks
returns-in-Err-clause-looks g c = gift_none _
