use Rattle.std.proofs.Common.{◌≡◌, ℕ, Option, Some, None, Err, List, arith, rules}
use Rattle.pcode_ops.specs.declared.opcodes.Row.{Row}
use Rattle.pcode_ops.specs.Opcodes.{Form, row_of, opcodes, opcode_refusal}
use Rattle.pcode_ops.specs.Decoding.{operands_at, row_with, made_by, finished_at, read_at, by_row, instr_of}
use Rattle.pcode_ops.proofs.decoding.instruction.Goals as goal

-- a row with its operands is finished as its form is read
finished_is : (code : List ℕ) (i op first : ℕ) (form : Form)
    → finished_at code i op (row_with (operands_at code i) op first form) ≡ read_at code i op first form
finished_is code i op first form = grind arith

-- an opcode with a row, by the row of the table of forms
some_by : (code : List ℕ) (i op : ℕ) (row : Row) (o : Option (ℕ × Form)) → Some row ≡ made_by (operands_at code i) op o
    → finished_at code i op row ≡ by_row code i op o
some_by code i op row None e = absurd cc
some_by code i op row (Some found) e = cc (finished_is code i op found.0 found.1)

-- an opcode without a row, likewise
none_by : (code : List ℕ) (i op : ℕ) (o : Option (ℕ × Form)) → None ≡ made_by (operands_at code i) op o
    → Err (opcode_refusal op) ≡ by_row code i op o
none_by code i op o e = grind arith

-- what the code's table finishes is the instruction of the opcode, and what it lacks has none
pub returns-in-Some-clause-value : goal.returns-in-Some-clause-value
unfolding instr_of
returns-in-Some-clause-value c =
    let e = some_by c.args.code.now c.args.at c.args.opcode c.in-Some.row (row_of c.args.opcode opcodes) (search rules) in search (rules, e)

pub returns-in-None-clause-value : goal.returns-in-None-clause-value
unfolding instr_of
returns-in-None-clause-value c =
    let e = none_by c.args.code.now c.args.at c.args.opcode (row_of c.args.opcode opcodes) (search rules) in search (rules, e)
