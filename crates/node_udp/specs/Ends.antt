-- How a run of a node over the files and sockets of the system ends: its refusals in their order,
-- or the run.
use Rattle.std.specs.Prelude.{◌≡◌, ◌≢◌, ◌⊎◌, ◌<◌, ℕ, true, false, List, [], Option, Some, None, Result, Err}
use Rattle.std.specs.declared.net.socket_addr.SocketAddr.{SocketAddr}
use Rattle.paxos_acceptor.specs.declared.me.Me.{Me}
use Rattle.paxos_disk.specs.Files.{FileKnowledge, file_kind}
use Rattle.pcode_file.specs.Parts.{Parts}
use Rattle.group_protocol.specs.declared.fault.NodeFault.TheVariants.{Id, Size}
use Rattle.group_protocol.specs.States.{IsConfig, IsSize}
use Rattle.machine_run.specs.declared.refusal.MachineRefusal.{MachineRefusal}
use Rattle.machine_run.specs.declared.refusal.MachineRefusal.TheVariants.{Run}
use Rattle.machine_run.specs.declared.run.RunIo.{RunIo}
use Rattle.machine_run.specs.declared.run.RunIo.TheVariants.{Write}
use Rattle.machine_run.specs.Files.{HasReadAll, HasReadFront, IsFileRefusal, IsLoadedProgram}
use Rattle.node_io.specs.declared.fault.GroupFault.{GroupFault}
use Rattle.node_io.specs.declared.fault.GroupFault.TheVariants as group
use Rattle.node_udp.specs.declared.node.NodePlan.{NodePlan}
use Rattle.node_run.specs.Course.{around}
use Rattle.node_io.specs.Prompts.{KeyboardState, no_keys}
use Rattle.node_io.specs.Refusals.{IsOpenRefusal, no_memory}
use Rattle.node_run.specs.Runs.{RunsOrRefuses}

-- A refusal at which nothing was written.
abbrev pub RefusesUnwritten : (GroupFault → Type 0) → Option (List ℕ) → Option (List ℕ)
    → Result (Unit {0}) GroupFault → Type 0
RefusesUnwritten why before after result =
    (e : GroupFault) × why e × (after ≡ before) × (result ≡ Err e)

-- A run over a store in a file, whose wire is a socket: what passes over it is unknown. `from` and
-- `to` are the keyboard before and after. Or memory is missing. At first no request was made, so
-- that the node may not campaign again for one.
abbrev pub RunsOverFile : Me → Parts → NodePlan → KeyboardState → KeyboardState
    → Option (List ℕ) → Option (List ℕ) → Result (Unit {0}) GroupFault → Type 0
RunsOverFile me program plan from to before after result =
    RefusesUnwritten (λ e. e ≡ no_memory) before after result
    ⊎ ((end : FileKnowledge) × (retries : ℕ)
    × RunsOrRefuses file_kind me program (record { me = me; found = None; faults = 0 }) end
    plan.run (around None from 0) (around None to retries) before after result)

-- Such a run once its sockets are open, with this keyboard; or none, since a socket or memory is
-- missing.
abbrev pub RunsWith : Me → Parts → NodePlan → KeyboardState → Option (List ℕ)
    → Option (List ℕ) → Result (Unit {0}) GroupFault → Type 0
RunsWith me program plan keys before after result =
    RefusesUnwritten IsOpenRefusal before after result
    ⊎ ((to : KeyboardState) × RunsOverFile me program plan keys to before after result)

-- The keyboard of a plan at first: it has the text, and nothing more comes; or it has nothing, and
-- datagrams will bring something.
abbrev pub keyboard_at_first : Option SocketAddr → List ℕ → KeyboardState
keyboard_at_first None text = record {
  left = record { bytes = text; requests = 0 };
  is_closed = true;
  taken_in = Some no_keys;
  looks = None;
}
keyboard_at_first (Some address) text =
    record { left = no_keys; is_closed = false; taken_in = None; looks = None }

-- Such a run with the keyboard of the plan.
abbrev pub RunsOpened : Me → Parts → NodePlan → List ℕ → Option (List ℕ) → Option (List ℕ)
    → Result (Unit {0}) GroupFault → Type 0
RunsOpened me program plan text before after result =
    RunsWith me program plan (keyboard_at_first plan.keys text) before after result

-- ---- the refusals before it, in their order

-- The code file is refused.
abbrev pub IsRefusedFile : GroupFault → Type 0
IsRefusedFile e = (refusal : MachineRefusal) × IsFileRefusal refusal × (e ≡ group.Machine refusal)

-- The node of a plan.
abbrev pub me_in : NodePlan → Me
me_in plan = record { node = plan.node; group = plan.group }

-- No group has this size, or else no node this number.
abbrev pub IsRefusedNode : NodePlan → GroupFault → Type 0
IsRefusedNode plan e =
    ((e ≡ group.Node Size) × ¬ IsSize plan.group.size)
    ⊎ ((e ≡ group.Node Id) × IsSize plan.group.size
    × ((plan.node ≡ 0) ⊎ (plan.group.size < plan.node)))

-- The input can't be read whole: a read failed, of which none was counted before, or it is too
-- long, or memory ran out. It is not read if typed bytes come as datagrams.
abbrev pub IsRefusedInput : NodePlan → Option (List ℕ) → Option (List ℕ) → GroupFault → Type 0
IsRefusedInput plan from to e =
    (plan.keys ≡ None) × (faults : ℕ) × (fault : RunIo) × (fault ≢ Write)
    × HasReadFront from to 0 faults fault × (e ≡ group.Machine (Run fault))

-- The input that is typed.
abbrev pub IsTypedText : Option SocketAddr → Option (List ℕ) → Option (List ℕ) → List ℕ → Type 0
IsTypedText None from to text = HasReadAll from to text
IsTypedText (Some address) from to text = (to ≡ from) × (text ≡ [])

-- The end of a node whose program is loaded. Its reader went from `from` to `to`, and its writer
-- from `before` to `after`.
abbrev pub EndsLoaded : Parts → NodePlan → Option (List ℕ) → Option (List ℕ) → Option (List ℕ)
    → Option (List ℕ) → Result (Unit {0}) GroupFault → Type 0
EndsLoaded program plan from to before after result =
    ((to ≡ from) × RefusesUnwritten (IsRefusedNode plan) before after result)
    ⊎ (IsConfig (me_in plan) × (RefusesUnwritten (IsRefusedInput plan from to) before after result
    ⊎ ((text : List ℕ) × IsTypedText plan.keys from to text
    × RunsOpened (me_in plan) program plan text before after result)))

-- The end of a node: its code file is refused, or it has the program of a file, and goes on.
abbrev pub EndsNode : NodePlan → Option (List ℕ) → Option (List ℕ) → Option (List ℕ)
    → Option (List ℕ) → Result (Unit {0}) GroupFault → Type 0
EndsNode plan from to before after result =
    ((to ≡ from) × RefusesUnwritten IsRefusedFile before after result)
    ⊎ ((program : Parts) × IsLoadedProgram program
    × EndsLoaded program plan from to before after result)
