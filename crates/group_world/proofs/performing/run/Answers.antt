use Rattle.std.proofs.Common.{subst, arith, take_all}
use Rattle.std.proofs.lemmas.Option.{slice_get-get_or}
use Rattle.group_world.specs.Event.{LeadsBy}
use Rattle.group_world.specs.Group.{new_world}
use Rattle.group_world.proofs.Happens.{happens_next}
use Rattle.group_world.proofs.performing.run.Goals as goal

pub loop-event-preserved : goal.loop-event-preserved
loop-event-preserved c =
    happens_next _ _ _ _ _ c.in_default.field-0 _ c.loop-event-test.true c.loop-event.invariant c.in_default.ensures.applies.goes

pub returns : goal.returns
returns c =
    let fit = c.in-Ok.ensures.fit in
    let session = c.ranges.session.fits in
    let start = new_world c.args.program.now (record { size = c.args.size; session = c.args.session }) in
    let happens = subst (λ events. LeadsBy start events c.loop-event.world)
    (take_all _ c.args.events.now c.loop-event-test.false) c.loop-event.invariant in
    record {
      happens = happens;
      learned_agree = c.headline.ensures.learned_agree _ _ c.args.events.now _ fit session happens;
      learned_chosen = c.headline.ensures.learned_chosen _ _ c.args.events.now _ fit session happens;
      consoles_hold_output = c.headline.ensures.consoles_hold_output _ _ c.args.events.now _ fit session happens;
      consoles_agree = c.headline.ensures.consoles_agree _ _ c.args.events.now _ fit session happens;
      no_gap = c.headline.ensures.no_gap _ _ c.args.events.now _ fit session happens;
      key_once = c.headline.ensures.key_once _ _ c.args.events.now _ fit session happens;
      serials_in_order = c.headline.ensures.serials_in_order _ _ c.args.events.now _ fit session happens;
      size = fit;
      refused = tt;
    }

pub returns-in-Err-apply-clause-refused : goal.returns-in-Err-apply-clause-refused
returns-in-Err-apply-clause-refused c =
    grind (arith, slice_get-get_or, c.loop-event-test.true, c.loop-event.invariant, c.in-Err-apply.ensures.applies.refused)
