-- Entries with one place more make the map with it.
use Rattle.paxos_learner.proofs.OnePlace.{get_put}
use Rattle.paxos_learner.proofs.PlaceEntries.{changed_place}
use Rattle.paxos_learner.proofs.place_map.PlaceMap.insert.Goals as goal

pub returns : goal.returns
returns g c = rw (← c.self.view_is) (changed_place _ _ _ _ _ (get_put _ _ c.args.value) (rw c.unwrap.ensures at c.insert.ensures.updates).0)
