-- Entries with one place more make the map with it.
use Rattle.paxos_learner.proofs.OnePlace.{get_put}
use Rattle.paxos_learner.proofs.PlaceEntries.{changed_place}
use Rattle.paxos_learner.proofs.place_map.PlaceMap.put.Goals as goal

pub returns-clause-ok : goal.returns-clause-ok
returns-clause-ok g c = rw (← c.self.view_is) (changed_place _ _ _ _ _ (get_put _ _ c.args.value) c.in_ok-insert.ensures.updates.0)
