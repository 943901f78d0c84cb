use Rattle.std.proofs.Common.{Ok, Err, refl, rules, inr, arith}
use Rattle.paxos_msg.specs.Records.{changed}
use Rattle.paxos_acceptor.specs.declared.store.StoreFault.{StoreFault}
use Rattle.paxos_disk.specs.Disks.{seen_in}
use Rattle.paxos_disk.specs.Reads.{Restarts, record_in}
use Rattle.paxos_disk.proofs.DiskCalls.{seen_is_left}
use Rattle.paxos_disk.proofs.Restarts.{IsBegunOn, IsDoneOn, begun_from, done_from}
use Rattle.paxos_disk.proofs.store.log_store.LogStoreStore.save.Given as given
use Rattle.paxos_disk.proofs.store.log_store.LogStoreStore.save.Goals.{After-form_after, After-put_synced}
use Rattle.paxos_disk.proofs.store.log_store.LogStoreStore.save.Goals as goal

-- what is found after a save that failed
begun : (g : given.Over) (c : After-put_synced g) → g.D.Disk.honest
    → IsBegunOn c.self.inside.me (g.D.Disk.folder c.self.inside.disk) (g.D.Disk.folder c.put_synced.new.disk) c.args.change.now
begun g c h =
    begun_from _ _ c.in-Some.found _ c.self.inside.form c.in_ok-patch.patch (rw c.in-Some.is at (c.self.invariant.known h))
    (c.self.invariant.good h) (search rules) (search rules) (search rules) c.in_ok-patch.ensures.patch c.put_synced.ensures.bytes
    c.records_are_read.ensures _ _ (c.is_as_left.ensures.same h) (c.put_synced.ensures.left h) (c.put_synced.ensures.seen h)

-- what is found after one that is done
done : (g : given.Over) (c : After-form_after g) → g.D.Disk.honest
    → IsDoneOn c.self.inside.me (g.D.Disk.folder c.self.inside.disk) (g.D.Disk.folder c.put_synced.new.disk) c.in-Some.found
    c.args.change.now c.form_after.result
done g c h =
    done_from _ _ c.in-Some.found _ c.self.inside.form c.in_ok-patch.patch (rw c.in-Some.is at (c.self.invariant.known h))
    (c.self.invariant.good h) (search rules) (search rules) (search rules) c.in_ok-patch.ensures.patch c.put_synced.ensures.bytes
    c.records_are_read.ensures _ _ (c.is_as_left.ensures.same h) c.form_after.result c.form_after.ensures.after (search rules)

pub invariant_of-self-then-is_err : goal.invariant_of-self-then-is_err
invariant_of-self-then-is_err g c =
    grind (arith, begun g (goal.at.invariant_of-self-then-is_err g c).After-put_synced, c.give_up-then-is_err.ensures.lost)

pub returns-then-is_err-clause-device : goal.returns-then-is_err-clause-device
returns-then-is_err-clause-device g c =
    rw (← c.self.view_is) (λ h. (begun g (goal.at.returns-then-is_err-clause-device g c).After-put_synced h).one_of)

pub returns-then-is_err-clause-restarts : goal.returns-then-is_err-clause-restarts
returns-then-is_err-clause-restarts g c =
    rw (← c.self.view_is)
    (λ h. record { saved = tt; left = (begun g (goal.at.returns-then-is_err-clause-restarts g c).After-put_synced h).left })

pub returns-then-is_err-clause-no_more : goal.returns-then-is_err-clause-no_more
returns-then-is_err-clause-no_more g c =
    rw (← c.self.view_is) (λ h.
    let folder = g.D.Disk.folder c.self.inside.disk in
    let good = c.self.invariant.good h (seen_in folder) (seen_is_left folder) in
    c.what_restarts_load.ensures.left folder _ _ (Err c.give_up-then-is_err.result) good
    (record { saved = tt; left = (begun g (goal.at.returns-then-is_err-clause-no_more g c).After-put_synced h).left }))

pub invariant_of-self-2 : goal.invariant_of-self-2
invariant_of-self-2 g c =
    grind (arith, done g (goal.at.invariant_of-self-2 g c).After-form_after, goal.at.invariant_of-self-2 g c)

pub returns-clause-saved : goal.returns-clause-saved
returns-clause-saved g c = rw (← c.self.view_is) (λ h. (done g (goal.at.returns-clause-saved g c).After-form_after h).saved)

pub returns-clause-device : goal.returns-clause-device
returns-clause-device g c = rw (← c.self.view_is) (λ h. inr (done g (goal.at.returns-clause-device g c).After-form_after h).saved)

-- what a restart finds after it
restarts_done : (g : given.Over) (c : After-form_after g) → g.D.Disk.honest
    → Restarts {T = Unit {0}} {E = StoreFault} c.self.inside.me (g.D.Disk.folder c.self.inside.disk)
    (g.D.Disk.folder c.put_synced.new.disk)
    (record_in c.self.inside.me (seen_in (g.D.Disk.folder c.self.inside.disk)))
    (changed (record_in c.self.inside.me (seen_in (g.D.Disk.folder c.self.inside.disk))) c.args.change.now)
    (Ok tt)
restarts_done g c h = let is = done g c h in record { saved = is.reads; left = λ left may. inr (inr (is.reads left may)) }

pub returns-clause-restarts : goal.returns-clause-restarts
returns-clause-restarts g c =
    rw (← c.self.view_is) (λ h. restarts_done g (goal.at.returns-clause-restarts g c).After-form_after h)

pub returns-clause-only : goal.returns-clause-only
returns-clause-only g c =
    rw (← c.self.view_is) (λ h.
    c.what_restarts_load.ensures.saved _ _ _ _ (Ok tt) (restarts_done g (goal.at.returns-clause-only g c).After-form_after h) refl)

pub returns-clause-no_more : goal.returns-clause-no_more
returns-clause-no_more g c =
    rw (← c.self.view_is) (λ h.
    let folder = g.D.Disk.folder c.self.inside.disk in
    let good = c.self.invariant.good h (seen_in folder) (seen_is_left folder) in
    c.what_restarts_load.ensures.left folder _ _ (Ok tt) good
    (restarts_done g (goal.at.returns-clause-no_more g c).After-form_after h))
