-- A pause at which a byte was written ends a stretch that writes it.
use Rattle.std.proofs.Common.{[], ◌∷◌, length, add-zero, append-nil, refl}
use Rattle.std.proofs.KnownBytes.{Consumes-nil}
use Rattle.machine_run.proofs.run.stretch.Goals as goal

pub returns-in-Ok-clause-stretch : goal.returns-in-Ok-clause-stretch
returns-in-Ok-clause-stretch g c =
    let (mid, k, made, few, quiet, writes) = rw c.in-Wrote.is at c.run-made.ensures.pauses in (
      k,
      mid,
      [],
      c.in-Wrote.byte ∷ [],
      made,
      few,
      quiet,
      -- a step that writes a byte takes none
      record { steps = λ before output. rw (add-zero (length before), append-nil before) (writes.goes before (length before) output) },
      record { read = Consumes-nil _; written = c.in-Ok.ensures.bytes },
      record { read = refl; write = c.in-Ok.ensures.faults },
    )
