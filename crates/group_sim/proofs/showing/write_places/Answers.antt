use Rattle.std.proofs.Common.{◌≡◌, [], rules, arith}
use Rattle.std.proofs.lemmas.Grind.{common_steps}
use Rattle.group_sim.specs.Groups.{learned_at, lines_below, place_line}
use Rattle.group_sim.proofs.Writing.{failed, line-appended, line-front, lines-end}
use Rattle.group_sim.proofs.showing.write_places.Goals as goal

pub loop-place-init : goal.loop-place-init
unfolding lines_below
loop-place-init g c = grind (arith, common_steps)

pub returns-in_err-write_place : goal.returns-in_err-write_place
returns-in_err-write_place g c =
    failed _ [] (search rules)
    (line-front _ _ 65536 (omega arith) c.loop-place.invariant (rw c.learned.ensures at c.in_err-write_place.ensures))

pub loop-place-preserved : goal.loop-place-preserved
loop-place-preserved g c = line-appended _ _ c.loop-place.invariant (rw c.learned.ensures at c.in_ok-write_place.ensures)

pub returns : goal.returns
returns g c =
    let reached : c.loop-place.place ≡ c.places_end-place-end.result = omega arith in
    rw (lines-end (λ place. place_line place (learned_at c.args.world.now c.args.size place)) 65536 _ c.places_end-place-end.ensures.few
    (λ s above. rw (c.places_end-place-end.ensures.none s above)))
    (rw reached at c.loop-place.invariant)
