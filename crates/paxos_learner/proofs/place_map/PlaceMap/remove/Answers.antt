-- Entries without a place make the map without it.
use Rattle.paxos_learner.proofs.OnePlace.{get_cut}
use Rattle.paxos_learner.proofs.PlaceEntries.{changed_place}
use Rattle.paxos_learner.proofs.place_map.PlaceMap.remove.Goals as goal

pub returns : goal.returns
returns g c = rw (← c.self.view_is) (changed_place _ _ _ _ _ (get_cut _ _) c.swap_remove.ensures.updates.0)
