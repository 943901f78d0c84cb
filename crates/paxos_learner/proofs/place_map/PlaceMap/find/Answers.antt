-- A search of the entries finds what the map has, at the index of the place.
use Rattle.std.proofs.Common.{arith}
use Rattle.std.proofs.lemmas.Bool.{eqb-true}
use Rattle.std.proofs.lemmas.Bool.Decides.{nat_tests}
use Rattle.std.proofs.lemmas.List.Quantifiers.{position-Some}
use Rattle.paxos_learner.proofs.PlaceEntries.{get_place}
use Rattle.paxos_learner.proofs.place_map.PlaceMap.find.Goals as goal

pub returns-in_err-index-clause-value : goal.returns-in_err-index-clause-value
returns-in_err-index-clause-value g c = rw (← c.self.view_is) (grind (arith, get_place))

pub returns-clause-value : goal.returns-clause-value
returns-clause-value g c = rw (← c.self.view_is) (grind (arith, get_place))

pub returns-clause-place : goal.returns-clause-place
returns-clause-place g c = rw (← c.self.view_is) (grind (arith, nat_tests, position-Some, eqb-true))
