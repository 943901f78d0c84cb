use Rattle.std.proofs.Common.{arith, rules, ◌∙◌}
use Rattle.pcode_ops.proofs.DecodedIsAt.{decoded_at, at_decoded}
use Rattle.pcode_ops.proofs.Operating.{table_found}
use Rattle.pcode_ops.proofs.decoding.decode.Goals as goal

pub returns-clause-found : goal.returns-clause-found
returns-clause-found c = grind (arith, decoded_at)

pub returns-clause-only : goal.returns-clause-only
returns-clause-only c = λ instr j at. search rules ∙ at_decoded c.args.code.now c.args.at instr j at

pub returns-clause-table : goal.returns-clause-table
returns-clause-table c = table_found c.args.code.now c.args.at c.instruction.result (search rules)

pub returns-in_err-opcode-clause-only : goal.returns-in_err-opcode-clause-only
returns-in_err-opcode-clause-only c = λ instr j at. search rules ∙ at_decoded c.args.code.now c.args.at instr j at
