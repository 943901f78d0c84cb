use Rattle.pcode_file.proofs.Whole.{read_is}
use Rattle.pcode_file.proofs.laws.reading_is_in_file.Goals as goal

pub returns-clause-read : goal.returns-clause-read
returns-clause-read c = read_is

pub returns-clause-once : goal.returns-clause-once
returns-clause-once c = λ bytes p q f g. cc ((read_is bytes p).0 f, (read_is bytes q).0 g)
