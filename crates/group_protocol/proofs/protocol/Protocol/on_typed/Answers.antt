use Rattle.std.proofs.Common.{arith}
use Rattle.group_protocol.proofs.protocol.Protocol.on_typed.Goals as goal

pub invariant_of-self : goal.invariant_of-self
invariant_of-self g c =
    grind (arith, c.self.invariant, c.self.view_is, c.what_goes_out_fits.ensures.typed)
