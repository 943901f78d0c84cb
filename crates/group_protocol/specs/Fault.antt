-- The codes of a node's refusals.
use Rattle.std.specs.Prelude.{ℕ, List, codes}
use Rattle.group_protocol.specs.declared.fault.NodeFault.{NodeFault}
use Rattle.group_protocol.specs.declared.fault.NodeFault.TheVariants as fault

-- The code of a refusal, `D1` to `D12`.
abbrev pub code_of : NodeFault → List ℕ
code_of fault.Memory = codes "D1"
code_of fault.Store = codes "D2"
code_of fault.Stopped = codes "D3"
code_of fault.Busy = codes "D4"
code_of fault.SerialSpent = codes "D5"
code_of fault.OutboxFull = codes "D6"
code_of fault.Size = codes "D7"
code_of fault.Id = codes "D8"
code_of fault.BadRecord = codes "D9"
code_of fault.StartsSpent = codes "D10"
code_of fault.RoundsSpent = codes "D11"
code_of fault.PlacesSpent = codes "D12"
