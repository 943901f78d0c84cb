use Rattle.std.proofs.Common.{rules, ◌≡◌, ◌<◌, ◌∷◌, true, arith}
use Rattle.std.proofs.lemmas.Grind.{common_steps}
use Rattle.group_wire.proofs.Typing.{types_on}
use Rattle.group_wire.proofs.host.Host.press_all.Goals as goal

pub loop-byte-preserved : goal.loop-byte-preserved
loop-byte-preserved g c =
    let next : c.loop-byte.bytes.now ≡ c.in-Some.byte.now ∷ c.in-Some.others.now = first_of (search rules, grind (arith, common_steps)) in
    let has : c.in_ok-press_one.field-0 ≡ true = first_of (search rules, grind (arith, common_steps)) in
    let low : c.in-Some.byte.now < 256 = first_of (search rules, omega arith) in
    record {
      typed = types_on c.in-Some.byte.now c.in_ok-press_one.field-0 c.loop-byte.invariant.typed next has c.in_ok-press_one.ensures.typed
          c.in_ok-press_one.ensures.room low;
      works = first_of (search rules, grind (arith, common_steps));
      store = first_of (search rules, grind (arith, common_steps));
      stopped = first_of (search rules, grind (arith, common_steps));
      progress = first_of (search rules, grind (arith, common_steps));
    }
