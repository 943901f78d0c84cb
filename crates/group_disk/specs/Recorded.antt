-- A run of which all is known: what passed over its wire, byte by byte, what is on its disk before
-- and after it, what its keyboard gave, and what it wrote.
use Rattle.std.specs.Prelude.{ℕ, true, List, [], ◌∷◌, Option, None, Some}
use Rattle.paxos_msg.specs.Batches.{Record}
use Rattle.paxos_disk.specs.Disks.{Folder}
use Rattle.paxos_disk.specs.Reads.{LogState}
use Rattle.node_io.specs.Prompts.{KeyboardState, no_keys}
use Rattle.group_wire.specs.Traffic.{Hands, Traffic}
use Rattle.node_run.specs.declared.cycles.RunPlan.{RunPlan}
use Rattle.group_disk.specs.TornStarts.{first_of_three}

-- The Prepare of node 1 of three in session 7, under its first ballot and from place 0.
abbrev pub prepare_bytes : List ℕ
prepare_bytes = 80 ∷ 71 ∷ 2 ∷ 1 ∷ 1 ∷ 3 ∷ 0 ∷ 0 ∷ 0 ∷ 7 ∷ 0 ∷ 0 ∷ 0 ∷ 1 ∷ 1 ∷ 0 ∷ 0 ∷ 0 ∷ 0 ∷ []

-- All that passes over its wire: this Prepare to each node, itself included.
abbrev pub recorded_traffic : Traffic
recorded_traffic =
    Hands (record { to = 1; bytes = prepare_bytes })
    ∷ Hands (record { to = 2; bytes = prepare_bytes })
    ∷ Hands (record { to = 3; bytes = prepare_bytes })
    ∷ []

-- A keyboard that is closed, and never had anything.
abbrev pub no_keyboard : KeyboardState
no_keyboard = record { left = no_keys; is_closed = true; taken_in = Some no_keys; looks = None }

-- A plan: campaign, take one turn, and write all bytes.
abbrev pub recorded_plan : RunPlan
recorded_plan = record { turns = 1; seen = 0; campaigns = true }

-- A store of node 1 over a disk with this folder, which knows this record.
abbrev pub store_over : Folder → Option Record → LogState Folder
store_over folder found =
    record { disk = folder; filed = record { me = first_of_three; found = found; faults = 0 } }
