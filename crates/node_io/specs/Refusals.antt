-- Why a group or a node on UDP ends early.
use Rattle.std.specs.Prelude.{◌≡◌, ◌⊎◌}
use Rattle.group_protocol.specs.declared.fault.NodeFault.TheVariants.{SerialSpent, Store}
use Rattle.group_protocol.specs.declared.fault.NodeFault.TheVariants as fault
use Rattle.machine_run.specs.declared.refusal.MachineRefusal.TheVariants.{Run}
use Rattle.machine_run.specs.declared.run.RunIo.TheVariants.{Memory, Write}
use Rattle.node_io.specs.declared.fault.GroupFault.{GroupFault}
use Rattle.node_io.specs.declared.fault.GroupFault.TheVariants.{Machine}
use Rattle.node_io.specs.declared.fault.GroupFault.TheVariants as group

-- The refusal of a byte that could not be written.
abbrev pub write_failed : GroupFault
write_failed = Machine (Run Write)

-- The refusal for memory that ran out.
abbrev pub no_memory : GroupFault
no_memory = Machine (Run Memory)

-- What a node may refuse in a cycle, in which no save has failed before: a save fails, or its
-- serials are spent.
abbrev pub IsCycleRefusal : GroupFault → Type 0
IsCycleRefusal e = (e ≡ group.Node Store) ⊎ (e ≡ group.Node SerialSpent)

-- What a cycle whose output is written may refuse: also a failed write.
abbrev pub IsWrittenCycleRefusal : GroupFault → Type 0
IsWrittenCycleRefusal e = IsCycleRefusal e ⊎ (e ≡ write_failed)

-- What a campaign of such a node may refuse: a save fails, its rounds or its places are spent, or
-- memory ran out.
abbrev pub IsCampaignRefusal : GroupFault → Type 0
IsCampaignRefusal e = (e ≡ group.Node Store) ⊎ (e ≡ group.Node fault.RoundsSpent)
    ⊎ (e ≡ group.Node fault.PlacesSpent) ⊎ (e ≡ group.Node fault.Memory)

-- What a start may refuse: memory ran out, a load or a save fails, the record is damaged, or its
-- starts are spent.
abbrev pub IsStartRefusal : GroupFault → Type 0
IsStartRefusal e = (e ≡ group.Node fault.Memory) ⊎ (e ≡ group.Node Store)
    ⊎ (e ≡ group.Node fault.BadRecord) ⊎ (e ≡ group.Node fault.StartsSpent)

-- What a node may refuse from its start on.
abbrev pub IsRunRefusal : GroupFault → Type 0
IsRunRefusal e = IsWrittenCycleRefusal e ⊎ IsCampaignRefusal e ⊎ IsStartRefusal e

-- The refusal for a socket that the system did not give.
abbrev pub IsSocketRefusal : GroupFault → Type 0
IsSocketRefusal e = e ≡ group.Socket

-- Why sockets are not opened.
abbrev pub IsOpenRefusal : GroupFault → Type 0
IsOpenRefusal e = IsSocketRefusal e ⊎ (e ≡ no_memory)
