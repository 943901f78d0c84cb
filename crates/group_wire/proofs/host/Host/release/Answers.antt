use Rattle.std.proofs.Common.{refl}
use Rattle.group_wire.proofs.Acting.{release_acts}
use Rattle.group_wire.proofs.host.Host.release.Goals as goal

pub returns-clause-acts : goal.returns-clause-acts
returns-clause-acts g c passed =
    rw (← c.self.view_is)
    (release_acts _ _ passed _ c.release.result refl c.release.ensures.value c.release.ensures.some c.release.ensures.none
    c.release.ensures.protocol)
