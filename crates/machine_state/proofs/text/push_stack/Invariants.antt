use Rattle.std.proofs.Common.{◌≡◌, ◌++◌, flat_map, take}
use Rattle.std.specs.Prelude.{codes, string_bytes}
use Rattle.machine_state.specs.Text.{spaced}
use Rattle.machine_state.proofs.text.push_stack.Given as goal

abbrev pub invariant-loop-depth : goal.invariant-loop-depth
invariant-loop-depth l =
    string_bytes l.text ≡ string_bytes l.fn.text ++ (codes "stack" ++ flat_map spaced (take l.depth l.stack))
