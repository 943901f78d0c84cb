use Rattle.std.proofs.Common.{◌≡◌, ◌++◌, flat_map, take}
use Rattle.std.specs.Prelude.{codes, string_bytes}
use Rattle.machine_state.specs.Text.{spaced}
use Rattle.machine_state.proofs.text.push_memory.Given as goal

abbrev pub invariant-loop-index : goal.invariant-loop-index
invariant-loop-index l =
    string_bytes l.text ≡ string_bytes l.fn.text ++ (codes "memory" ++ flat_map spaced (take l.index l.memory))
