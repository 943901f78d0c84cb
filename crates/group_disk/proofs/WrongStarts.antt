-- Starts that are none: over a record that the folder does not have.
use Rattle.std.proofs.Common.{◌≡◌, ◌≢◌, [], ◌∷◌, sym}
use Rattle.pcode_file.specs.Parts.{Parts}
use Rattle.paxos_msg.specs.Batches.{Record}
use Rattle.paxos_msg.specs.Records.{empty_record}
use Rattle.paxos_acceptor.specs.declared.me.Me.{Me}
use Rattle.paxos_disk.specs.Disks.{Folder}
use Rattle.paxos_disk.specs.Found.{LoadsOnly, MayLoad}
use Rattle.group_protocol.proofs.Elements.{only_in}
use Rattle.group_process.specs.Runs.{NodeRun, Starts}
use Rattle.group_disk.specs.Folders.{AreOverDisk, start_over}
use Rattle.group_disk.specs.TornStarts.{no_files}

pub other_record : (p : Parts) (me : Me) (folder after : Folder) (kept : Record) (run : NodeRun) → LoadsOnly folder (kept ∷ [])
    → run.process.loaded ≢ kept → ¬ AreOverDisk p me folder (start_over folder (Starts run) after ∷ [])
other_record p me folder after kept run only differ (fewer, over, rest) =
    differ (sym (only_in kept run.process.loaded (only run.process.loaded over.0)))

pub first_record : ((r : Record) → MayLoad no_files r → r ≡ empty_record) → (p : Parts) (me : Me) (after : Folder) (run : NodeRun)
    → run.process.loaded ≢ empty_record → ¬ AreOverDisk p me no_files (start_over no_files (Starts run) after ∷ [])
first_record none p me after run differ (fewer, over, rest) = differ (none run.process.loaded over.0)
