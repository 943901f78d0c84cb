use Rattle.std.proofs.Common.{◌≡◌, Ok}
use Rattle.pcode_ops.specs.declared.instr.Instr.TheVariants.{Xjp}
use Rattle.pcode_ops.specs.Decoding.{instr_at}
use Rattle.pcode_frozen.proofs.twins.same_place.Goals as goal

pub same_instruction-requires-clause-leads : goal.same_instruction-requires-clause-leads
same_instruction-requires-clause-leads c = λ sb is.
    let at = c.in-Some.ensures in
    (c.jump_is_led_to.ensures _ _ _ _ sb _ is (c.instruction-here.ensures.stands _ at.2) at.1).leads

pub same_instruction-requires-clause-other_leads
    : goal.same_instruction-requires-clause-other_leads
same_instruction-requires-clause-other_leads c = λ sb is.
    let at = c.in-Some-stands_in.ensures in
    (c.jump_is_led_to.ensures _ _ _ _ sb _ is (c.instruction-there.ensures.stands _ at.2)
    at.1).leads

pub same_instruction-requires-clause-table : goal.same_instruction-requires-clause-table
same_instruction-requires-clause-table c = λ low high sb table is.
    let at = c.in-Some.ensures in
    let found = c.instruction-here in
    let here : instr_at c.args.program.now.segment c.args.pair.offset
    ≡ Ok (Xjp low high sb table, found.result.1) = rw (← is) found.ensures.value in
    let may = rw is at found.ensures.stands _ at.2 in (
      c.in-Some._part,
      c.case_is_led_to.ensures.table c.args.program.now c.args.pair.offset
          c.in-Some._part low high sb table found.result.1 here may,
    )

pub same_instruction-requires-clause-other_table
    : goal.same_instruction-requires-clause-other_table
same_instruction-requires-clause-other_table c = λ low high sb table is.
    let at = c.in-Some-stands_in.ensures in
    let found = c.instruction-there in
    let part = c.in-Some-stands_in._other_part in
    let there : instr_at c.args.other_program.now.segment c.args.pair.other_offset
    ≡ Ok (Xjp low high sb table, found.result.1) = rw (← is) found.ensures.value in
    let may = rw is at found.ensures.stands _ at.2 in (
      part,
      c.case_is_led_to.ensures.table c.args.other_program.now c.args.pair.other_offset part
          low high sb table found.result.1 there may,
    )
