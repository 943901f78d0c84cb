-- A search of the entries finds what the map has.
use Rattle.std.proofs.Common.{arith}
use Rattle.paxos_learner.proofs.PlaceEntries.{get_place}
use Rattle.paxos_learner.proofs.place_map.PlaceMap.get.Goals as goal

pub returns : goal.returns
returns g c = rw (← c.self.view_is) (grind (arith, get_place))
