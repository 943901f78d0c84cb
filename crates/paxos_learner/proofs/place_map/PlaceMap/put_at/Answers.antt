-- Entries with another value at an index make the map with that value at the place there.
use Rattle.std.specs.Cmp.{nat_eq_equiv}
use Rattle.indexmap.proofs.CallerLemmas.{updates-with_value_at}
use Rattle.paxos_learner.proofs.OnePlace.{get_put}
use Rattle.paxos_learner.proofs.PlaceEntries.{place_at, changed_place}
use Rattle.paxos_learner.proofs.place_map.PlaceMap.put_at.Goals as goal

pub returns : goal.returns
returns g c =
    let m = c.self.inside.entries in
    let e = c.pair_mut-old.ensures in
    rw (← c.self.view_is, place_at m.entries c.args.index _ _ e.value)
    (changed_place _ _ _ _ _ (get_put _ _ c.args.value)
    (updates-with_value_at m c.args.index c.args.value nat_eq_equiv e.unique _ _ e.value).0)
