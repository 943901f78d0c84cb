-- A stored key is put in as it is seen.
use Rattle.paxos_learner.proofs.Stored.{insert_stored, same_stored}
use Rattle.paxos_learner.proofs.keys.KeySet.insert_key.Goals as goal

pub returns-clause-keys : goal.returns-clause-keys
returns-clause-keys c =
    rw (← c.self.view_is, rw c.unwrap.ensures at c.insert.ensures.keys) (insert_stored _ same_stored c.self.inside.keys.keys c.args.key)
