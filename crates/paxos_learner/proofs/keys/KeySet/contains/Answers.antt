-- A search of the stored keys finds the key exactly if it is among those that are seen.
use Rattle.paxos_learner.proofs.KeyTests.{found}
use Rattle.paxos_learner.proofs.Stored.{any_stored, same_stored}
use Rattle.paxos_learner.proofs.keys.KeySet.contains.Goals as goal

pub returns : goal.returns
returns c = rw (← c.self.view_is, c.contains.ensures, any_stored _ same_stored c.self.inside.keys.keys c.args.key) (found _ _)
