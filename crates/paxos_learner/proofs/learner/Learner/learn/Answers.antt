-- There is room for the place, which isn't learned yet.
use Rattle.std.proofs.Common.{◌≡◌, ◌+◌, max, arith, rules}
use Rattle.paxos_learner.proofs.Hearing.{insert_in_window, open_place}
use Rattle.paxos_learner.proofs.Keeping.{above_more, above_passed, input_of_more, not_below}
use Rattle.paxos_learner.proofs.learner.Learner.learn.Goals as goal

pub raise_front-requires : goal.raise_front-requires
raise_front-requires c =
    let place = open_place c.args.self.now c.args.place c.requires.open in
    let kept = c.in_ok-reserve-2.ensures in
    rw (c.insert.ensures, c.in_ok-make_room.ensures.map)
    (input_of_more _ _ _ c.args.place _ c.self.invariant.input (rw (← c.self.view_is) at place.0) kept.keys kept.ends kept.room
    kept.key_room (omega arith) (omega arith) (omega arith))

pub invariant_of-self-2 : goal.invariant_of-self-2
invariant_of-self-2 c =
    let place = open_place c.args.self.now c.args.place c.requires.open in
    let none = rw (← c.self.view_is) at place.0 in
    let front = c.places-front.ensures.places in
    let kept = c.in_ok-reserve.ensures.keys in
    let ends = c.in_ok-reserve-2.ensures.ends in
    let more =
    above_more _ _ _ _ c.args.place _ c.self.invariant.keys none (not_below _ _ _ c.self.invariant.input none) _ _
    (rw (front, kept) at c.keep_above.ensures.next) (rw (front, kept) at c.keep_above.ensures.later)
    (rw ends at c.raise_front.ensures.longer)
    (rw (c.insert.ensures, c.in_ok-make_room.ensures.map) at c.raise_front.ensures.here) in
    let top : c.max-self-inside.result ≡ max c.self.inside.top (c.args.place + 1) = search rules in
    record {
      size_small = c.self.invariant.size_small;
      input = c.raise_front.ensures.input;
      here = c.raise_front.ensures.here;
      window = grind (arith, open_place, insert_in_window);
      keys = rw (c.insert.ensures, c.in_ok-make_room.ensures.map) (above_passed _ _ _ _ _ (rw (← top) at more)
          (rw c.places.ensures.places at c.drop_passed.ensures.passed) (rw c.places.ensures.places at c.drop_passed.ensures.kept));
    }
