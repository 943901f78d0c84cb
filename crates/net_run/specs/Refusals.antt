-- Why a group in one process ends early.
use Rattle.std.specs.Prelude.{◌≡◌, ◌⊎◌}
use Rattle.group_protocol.specs.declared.fault.NodeFault.TheVariants.{SerialSpent, Stopped, Store}
use Rattle.group_protocol.specs.declared.fault.NodeFault.TheVariants as fault
use Rattle.machine_run.specs.Files.{IsFileRefusal}
use Rattle.machine_run.specs.declared.refusal.MachineRefusal.{MachineRefusal}
use Rattle.machine_run.specs.declared.refusal.MachineRefusal.TheVariants.{Run}
use Rattle.machine_run.specs.declared.run.RunIo.TheVariants.{Read}
use Rattle.node_io.specs.declared.fault.GroupFault.{GroupFault}
use Rattle.node_io.specs.declared.fault.GroupFault.TheVariants as group
use Rattle.node_io.specs.Refusals.{IsCampaignRefusal, IsOpenRefusal, IsRunRefusal, no_memory}

-- What a node of a group in one process may refuse when it takes a turn: it is stopped, or a save
-- failed.
abbrev pub IsTurnRefusal : GroupFault → Type 0
IsTurnRefusal e = (e ≡ group.Node Stopped) ⊎ (e ≡ group.Node Store)

-- What a turn whose output is shown may refuse: also memory that ran out.
abbrev pub IsShownTurnRefusal : GroupFault → Type 0
IsShownTurnRefusal e = IsTurnRefusal e ⊎ (e ≡ no_memory)

-- What it may refuse when bytes are typed at it: it is stopped, or its serials are spent.
abbrev pub IsPressRefusal : GroupFault → Type 0
IsPressRefusal e = (e ≡ group.Node Stopped) ⊎ (e ≡ group.Node SerialSpent)

-- What it may refuse when it is to campaign: it is stopped, or what a campaign refuses.
abbrev pub IsShownCampaignRefusal : GroupFault → Type 0
IsShownCampaignRefusal e = (e ≡ group.Node Stopped) ⊎ IsCampaignRefusal e

-- Why a group in one process ends early.
abbrev pub IsNetRefusal : GroupFault → Type 0
IsNetRefusal e = IsOpenRefusal e ⊎ (e ≡ group.Node fault.Size) ⊎ (e ≡ group.Node fault.Id)
    ⊎ (e ≡ group.Node Stopped) ⊎ IsRunRefusal e

-- Why the code file of such a group, or its input, is refused: the file is, or a read of the input
-- fails, or it is too long.
abbrev pub IsFileOrInputRefusal : GroupFault → Type 0
IsFileOrInputRefusal e =
    ((refusal : MachineRefusal) × IsFileRefusal refusal × (e ≡ group.Machine refusal))
    ⊎ (e ≡ group.Machine (Run Read))
