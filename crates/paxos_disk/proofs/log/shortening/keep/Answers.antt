use Rattle.std.proofs.Common.{arith, rules}
use Rattle.std.proofs.lemmas.Bool.Decides.{nat_tests}
use Rattle.paxos_disk.proofs.LogGrowth.{grown_log}
use Rattle.paxos_disk.proofs.log.shortening.keep.Goals as goal

pub returns-clause-log : goal.returns-clause-log
returns-clause-log c =
    let log = grown_log c.args.me c.args.log.now.items c.args.made.now c.args.change c.requires.log (search rules) in
    grind (arith, nat_tests, log, c.in_ok-append.ensures.spelled, c.enter.ensures.ok)
