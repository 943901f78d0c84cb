use Rattle.std.proofs.Common.{refl}
use Rattle.group_disk.specs.TornStarts.{no_files}
use Rattle.group_disk.proofs.WrongStarts.{first_record, other_record}
use Rattle.group_disk.proofs.laws.wrong_starts.Goals as goal

pub returns : goal.returns
returns c = record {
  other_record = other_record;
  first_over_a_record = first_record (λ r. c.what_restarts_load.ensures.none no_files r refl refl);
}
