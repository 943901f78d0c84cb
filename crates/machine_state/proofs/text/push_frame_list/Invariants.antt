use Rattle.std.proofs.Common.{◌≡◌, ◌++◌, flat_map, take}
use Rattle.std.specs.Prelude.{string_bytes}
use Rattle.machine_state.specs.Text.{frame_line}
use Rattle.machine_state.proofs.text.push_frame_list.Given as goal

abbrev pub invariant-loop-index : goal.invariant-loop-index
invariant-loop-index l =
    string_bytes l.text ≡ string_bytes l.fn.text ++ flat_map frame_line (take l.index l.frames)
