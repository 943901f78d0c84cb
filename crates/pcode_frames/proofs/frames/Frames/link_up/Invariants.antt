use Rattle.std.proofs.Common.{◌≡◌, ◌-◌, ◌<◌, length}
use Rattle.pcode_frames.specs.Frames.{up_from, link_up_of}
use Rattle.pcode_frames.proofs.frames.Frames.link_up.Given as goal

-- the links that are left lead from here to the result
abbrev pub invariant-loop : goal.invariant-loop
invariant-loop l = record {
  leads : up_from l.self (l.n - l.counter) l.index ≡ link_up_of l.self l.n;
  within : l.index < length l.self;
}
