use Rattle.std.proofs.Common.{rules, sym, subst}
use Rattle.paxos_msg.specs.Batches.{Record as Kept}
use Rattle.paxos_disk.specs.Disks.{seen_in}
use Rattle.paxos_disk.specs.Found.{MayLoad}
use Rattle.paxos_disk.specs.Reads.{IsStoreInStep}
use Rattle.paxos_disk.proofs.DiskCalls.{seen_is_left}
use Rattle.paxos_disk.proofs.Restarts.{bad_read, form_reads, read_form}
use Rattle.paxos_disk.proofs.store.log_store.LogStoreStore.load.Given as given
use Rattle.paxos_disk.proofs.store.log_store.LogStoreStore.load.Goals.{After-form_of}
use Rattle.paxos_disk.proofs.store.log_store.LogStoreStore.load.Goals as goal

-- a store that knows no record after what was read
knows_none : (g : given.Over) (c : After-form_of g)
    → IsStoreInStep g.D.Disk.honest (g.D.Disk.folder c.read_synced.new.disk) c.self.inside.me c.take.new.self c.self.inside.form
knows_none g c =
    rw c.take.ensures.after (record {
      filed = tt;
      good = λ h left may. c.self.invariant.good h left ((c.in-Ok.ensures.remains h).left left may);
      known = λ h. tt;
    })

pub invariant_of-self-in_err-record : goal.invariant_of-self-in_err-record
invariant_of-self-in_err-record g c = knows_none g (goal.at.invariant_of-self-in_err-record g c).After-form_of

pub invariant_of-self-in_err-found : goal.invariant_of-self-in_err-found
invariant_of-self-in_err-found g c = knows_none g (goal.at.invariant_of-self-in_err-found g c).After-form_of

pub returns-in_err-record-clause-good : goal.returns-in_err-record-clause-good
returns-in_err-record-clause-good g c = λ h bad.
    let good = c.self.invariant.good h _ (seen_is_left (g.D.Disk.folder c.self.inside.disk)) in
    bad_read _ _ c.in-Ok.read (c.in-Ok.ensures.found h) good (search rules) (c.in_err-record.ensures.bad (search rules))

pub invariant_of-self-2 : goal.invariant_of-self-2
invariant_of-self-2 g c =
    rw c.in_ok-found.ensures (record {
      filed = c.in_ok-record.ensures.fits;
      good = λ h left may. c.self.invariant.good h left ((c.in-Ok.ensures.remains h).left left may);
      known = λ h. record {
        in_form = rw ((c.in-Ok.ensures.remains h).seen)
            (read_form _ _ c.in-Ok.read _ _ (c.in-Ok.ensures.found h) (search rules) c.in_ok-record.ensures.form);
        kept = c.in_ok-record.ensures.kept _;
      };
    })

pub returns-clause-found : goal.returns-clause-found
returns-clause-found g c =
    rw (← c.self.view_is) (λ h.
    let folder = g.D.Disk.folder c.self.inside.disk in
    let good = c.self.invariant.good h (seen_in folder) (seen_is_left folder) in
    let form = read_form _ (seen_in folder) c.in-Ok.read _ _ (c.in-Ok.ensures.found h) (search rules) c.in_ok-record.ensures.form in
    sym (c.records_are_read.ensures (seen_in folder) c.in_ok-record.record (form_reads _ (seen_in folder) _ _ form good)))

pub returns-clause-may : goal.returns-clause-may
returns-clause-may g c =
    rw (← c.self.view_is) (λ h.
    let folder = g.D.Disk.folder c.self.inside.disk in
    let good = c.self.invariant.good h (seen_in folder) (seen_is_left folder) in
    let form = read_form _ (seen_in folder) c.in-Ok.read _ _ (c.in-Ok.ensures.found h) (search rules) c.in_ok-record.ensures.form in
    let same = c.records_are_read.ensures (seen_in folder) c.in_ok-record.record (form_reads _ (seen_in folder) _ _ form good) in
    subst (λ (q : Kept). MayLoad folder q) same (c.what_restarts_load.ensures.seen folder good))
