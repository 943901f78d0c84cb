use Rattle.machine_frozen.proofs.answer.Opened.load.Goals as goal

pub returns-clause-ok : goal.returns-clause-ok
returns-clause-ok c = record {
  rows = c.in_ok-trailer.trailer.rows.now;
  file = c.in_ok-trailer.trailer.original.now;
  trailer = c.in_ok-trailer.ensures.ok;
  original = c.in_ok-original.ensures.ok;
  frozen = c.in_ok-frozen.ensures.ok;
}
