use Rattle.std.proofs.Common.{refl, rules}
use Rattle.pcode_frozen.proofs.twins.goes_on.Goals as goal

pub jump-other_offset-requires : goal.jump-other_offset-requires
jump-other_offset-requires c =
    let at = c.in-Some.ensures in
    let is = c.in-Ujp-default.is-0 in
    let may = c.instruction.ensures.stands _ at.2 in
    let stays = c.jump_is_led_to.ensures _ _ _ c.instruction.result.0 c.in-Ujp-default.sb
    c.instruction.result.1 (rw is refl) may at.1 in
    search (rules, stays.leads)
