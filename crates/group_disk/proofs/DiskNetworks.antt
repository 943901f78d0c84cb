-- Processes over folders, of which each hears only what was handed to some wire.
use Rattle.std.proofs.Common.{ℕ, List, [], ◌∷◌}
use Rattle.pcode_file.specs.Parts.{Parts}
use Rattle.paxos_msg.specs.declared.message.Group.{Group}
use Rattle.paxos_acceptor.specs.declared.me.Me.{Me}
use Rattle.paxos_disk.specs.Disks.{Folder}
use Rattle.group_process.specs.Network.{AreEntriesOf, AreProcesses, GivenEntry, IsDeliveredLog, entries_alone}
use Rattle.group_process.specs.Runs.{NodeStart, FailsToStart, Starts}
use Rattle.group_disk.specs.Folders.{AreOverDisk, DiskStart, IsFolderLog, IsNetworkFolderLog, IsOverDisk, start_over, starts_of}

module _ (p : Parts) (me : Me) where
  -- one start more
  one_more : (a : NodeStart) (before after : Folder) (rest : List DiskStart) (more : List NodeStart)
      → IsOverDisk p me (start_over before a after) rest → AreProcesses p me more → AreProcesses p me (a ∷ more)
  one_more (Starts run) before after rest more (loads, is, last, leaves) others = (is, others)
  one_more (FailsToStart loaded is_changed) before after rest more h others = others

  starts_are_processes : (folder : Folder) (starts : List DiskStart) → AreOverDisk p me folder starts
      → AreProcesses p me (starts_of starts)
  starts_are_processes folder [] h = tt
  starts_are_processes folder (s ∷ rest) (fewer, over, others) =
      one_more s.start s.before s.after rest (starts_of rest) over (starts_are_processes s.after rest others)

pub folder_log_of_network : (p : Parts) (group : Group) (folder : ℕ → Folder) (starts : ℕ → List DiskStart) (log : List GivenEntry)
    → IsNetworkFolderLog p group folder starts log
    → (IsDeliveredLog p group (λ i. starts_of (starts i)) log → AreEntriesOf group (λ i. starts_of (starts i)) (entries_alone log))
    → IsFolderLog p group folder starts (entries_alone log)
folder_log_of_network p group folder starts log h carry =
    let is = carry (record {
      among = h.among;
      entries = h.entries;
      processes = λ i. starts_are_processes p (record { node = i; group = group }) (folder i) (starts i) (h.started i);
      delivered = h.delivered;
    }) in
    record { among = is.among; entries = is.entries; begun = h.begun; started = h.started; carried = is.carried }
