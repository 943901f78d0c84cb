use Rattle.std.proofs.Common.{rules, ◌∙◌, refl, ap, arith, Err}
use Rattle.group_wire.specs.declared.answers.Received.TheVariants.{Dropped, Lost}
use Rattle.group_wire.specs.Arrivals.{Loses, NoMessage, TooLong}
use Rattle.group_wire.proofs.Hearing.{hears_none, hears_one, refuses_one, was_open}
use Rattle.group_wire.proofs.host.Host.hear_bytes.Goals as goal

pub returns-then-bytes-gt-LONGEST_DATAGRAM-clause-hears : goal.returns-then-bytes-gt-LONGEST_DATAGRAM-clause-hears
returns-then-bytes-gt-LONGEST_DATAGRAM-clause-hears g c from came =
    hears_none g.S.Store.kind _ _ _ TooLong Dropped refl (omega arith) tt refl (_, refl, refl, refl) (λ _. refl) refl refl came

pub returns-in_default-clause-hears : goal.returns-in_default-clause-hears
returns-in_default-clause-hears g c from came =
    rw (← c.self.view_is)
    (hears_none g.S.Store.kind _ _ _ NoMessage Dropped c.self.invariant.0 (λ m spelled. absurd (cc (c.in_default.ensures.only m spelled)))
    tt refl (_, refl, refl, refl) (λ _. refl) refl refl came)

pub returns-in_err-unless_memory-clause-hears : goal.returns-in_err-unless_memory-clause-hears
returns-in_err-unless_memory-clause-hears g c from came =
    let done = c.in-Err.ensures.responds in
    rw (← c.self.view_is)
    (refuses_one g.S.Store.kind _ _ _ c.in-Ok.view c.in-Err.fault _ c.self.invariant.0 (search rules)
    done.sends.does.err c.on_message.ensures.responds.sends.progress (c.trace.ensures.passed ∙ came) (search rules)
    (λ is_store none. done.saves.never none (ap Err is_store))
    (λ honest is_store. done.saves.device honest (ap Err is_store))
    (λ honest is_store. done.saves.left honest (was_open done.sends.admitted (ap Err is_store))))

pub returns-in_err-unless_memory-clause-refused : goal.returns-in_err-unless_memory-clause-refused
returns-in_err-unless_memory-clause-refused g c =
    grind (arith, c.from_residual.result, c.in-Err.ensures.responds, c.self.view_is, c.self.invariant.1, c.in-Err.ensures.others)

pub returns-in-Err-clause-hears : goal.returns-in-Err-clause-hears
returns-in-Err-clause-hears g c from came =
    let done = c.in-Err.ensures.responds in
    rw (← c.self.view_is)
    (hears_none g.S.Store.kind _ _ _ (Loses c.in-Ok.view) Lost c.self.invariant.0 (search rules)
    (c.in-Err.ensures.needs (ap Err c.in_ok-unless_memory.ensures.memory)) refl
    (_, refl, refl, refl) (λ stopped. absurd (cc (done.sends.admitted.stopped.1 stopped, c.in_ok-unless_memory.ensures.memory)))
    done.sends.does.err c.on_message.ensures.responds.sends.progress (c.trace.ensures.passed ∙ came))

pub returns-in-Err-clause-refused : goal.returns-in-Err-clause-refused
returns-in-Err-clause-refused g c =
    grind (arith, c.in-Err.ensures.responds, c.self.view_is)

pub returns-clause-hears : goal.returns-clause-hears
returns-clause-hears g c from came =
    let done = c.in_default-on_message.ensures.responds in
    let fit = c.what_goes_out_fits.ensures.message _ c.in-Ok.view.sender c.in-Ok.view.body c.record.ensures.ranges
    (rw c.self.invariant.0 c.in-Ok.ensures.found.fits) in
    rw (← c.self.view_is)
    (hears_one g.S.Store.kind _ _ _ _ c.in-Ok.view _ _ c.self.invariant.0 (search rules)
    (λ stopped. absurd (cc (done.sends.admitted.stopped.1 stopped))) done.sends.does.ok fit.same
    c.on_message.ensures.responds.sends.progress c.self.invariant.1
    done.sends.does.sends c.send_all.ensures.traffic (c.trace-2.ensures.passed ∙ c.trace.ensures.passed ∙ came))

pub returns-clause-refused : goal.returns-clause-refused
returns-clause-refused g c =
    grind (arith, c.in_default-on_message.ensures.responds, c.self.view_is)
