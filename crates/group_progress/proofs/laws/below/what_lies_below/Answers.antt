-- Each record of laws, of what the calls have left.
use Rattle.std.proofs.Common.{arith}
use Rattle.group_progress.specs.Below.{EventLaws, FairLaws, KeyLaws, LeadLaws, LearnLaws, BatchLaws, PlayedLaws, ReadLaws, ShowLaws, TellLaws, TestLaws, UnreadLaws}
use Rattle.group_progress.proofs.laws.below.what_lies_below.Goals as goal

unread : goal.After-prefixes_are_ordered → UnreadLaws
unread c = grind arith

events : goal.After-prefixes_are_ordered → EventLaws
events c = grind (arith, unread c)

tests : goal.After-prefixes_are_ordered → TestLaws
tests c = grind arith

keys : goal.After-prefixes_are_ordered → KeyLaws
keys c = grind arith

tell : goal.After-prefixes_are_ordered → TellLaws
tell c = grind arith

reads : goal.After-prefixes_are_ordered → ReadLaws
reads c = grind arith

learn : goal.After-prefixes_are_ordered → LearnLaws
learn c = grind arith

laws : goal.After-prefixes_are_ordered → LeadLaws
laws c = grind (arith, events c, tests c, keys c, tell c)

more : goal.After-prefixes_are_ordered → BatchLaws
more c = record {
  laws = laws c;
  reads = reads c;
  has = λ keys k. (c.key_tests_are_exact.ensures.has keys k).0;
  stands = λ n k. (c.key_tests_are_exact.ensures.learned n.learner.learned k).0;
  batch = c.waiting_keys_are_a_row.ensures.batch;
  no_batch = c.waiting_keys_are_a_row.ensures.none;
}

show : goal.After-prefixes_are_ordered → ShowLaws
show c = grind (arith, events c)

fair : goal.After-prefixes_are_ordered → FairLaws
fair c = grind (arith, more c, keys c)

played : goal.After-prefixes_are_ordered → PlayedLaws
played c = grind (arith, show c, learn c)

pub returns : goal.returns
returns c = record { fair = fair c; tell = tell c; played = played c }
