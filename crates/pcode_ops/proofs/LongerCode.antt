-- An instruction in the front of a code is in the whole code, and ends in the front.
use Rattle.std.proofs.Common.{◌≡◌, ℕ, ◌≤◌, List, length, take, Ok, arith}
use Rattle.std.proofs.lemmas.List.{length-take}
use Rattle.std.proofs.lemmas.Option.{slice_get_within}
use Rattle.base.proofs.Lists.{get_taken}
use Rattle.pcode_ops.specs.declared.instr.Instr.{Instr}
use Rattle.pcode_ops.specs.Opcodes.{Form}
use Rattle.pcode_ops.specs.At.{Stands, At}
use Rattle.pcode_ops.specs.Decoding.{instr_at}
use Rattle.pcode_ops.proofs.DecodedIsAt.{decoded_at, at_decoded}

module _ (code : List ℕ) (e : ℕ) where
  -- an instruction in the front, by its form
  stands_longer : (i op : ℕ) (form : Form) (instr : Instr) (j : ℕ) → Stands (take e code) i op form instr j
      → Stands code i op form instr j × (j ≤ length (take e code))
  stands_longer i op form instr j h = grind (arith, slice_get_within, get_taken, length-take e code)

  -- what is decoded of the front is decoded of the whole code, and ends in the front
  pub decoded_longer : (i : ℕ) (found : Instr × ℕ) → instr_at (take e code) i ≡ Ok found → (instr_at code i ≡ Ok found) × (found.1 ≤ e)
  decoded_longer i found h =
      let at = decoded_at (take e code) i found.0 found.1 h in
      let one = stands_longer i at.opcode at.form found.0 found.1 at.stands in
      let longer : At code i found.0 found.1 = record { opcode = at.opcode; form = at.form; row = at.row; stands = one.0 } in
      (at_decoded code i found.0 found.1 longer, omega (arith, one.1, length-take e code))
