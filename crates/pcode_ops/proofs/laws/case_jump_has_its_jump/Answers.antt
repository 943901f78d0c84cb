use Rattle.std.proofs.Common.{◌≡◌, ◌+◌, ◌-◌, ◌%◌, refl, arith}
use Rattle.std.proofs.lemmas.Bool.Decides.{nat_tests}
use Rattle.std.proofs.lemmas.Int.{ints}
use Rattle.pcode_ops.specs.declared.instr.Instr.TheVariants.{Ujp, Xjp}
use Rattle.pcode_ops.specs.Opcodes.{WithSigned}
use Rattle.pcode_ops.proofs.Operating.{operands_are}
use Rattle.pcode_ops.proofs.laws.case_jump_has_its_jump.Goals as goal

pub returns : goal.returns
returns c = record {
  jump = λ code i low high sb table j at.
      let h = operands_are code i (Xjp low high sb table) j at in
      let before : table - 2 ≡ i + 1 + (i + 1) % 2 + 4 = omega (arith, h.4.3) in
      rw before (record { opcode = 185; form = WithSigned (λ by. Ujp by); row = (51, refl); stands = (sb, h.3, h.4, refl) });
  after = λ code i low high sb table j at. omega (arith, operands_are code i (Xjp low high sb table) j at);
  table = λ code i low high sb table j k at. omega (arith, operands_are code i (Xjp low high sb table) j at);
  numbers = λ code i low high sb table j k at.
      let h = (operands_are code i (Xjp low high sb table) j at).2 in grind (arith, ints, nat_tests);
}
