use Rattle.std.proofs.Common.{refl}
use Rattle.group_wire.proofs.Acting.{acts_then, fails_then, nothing_done}
use Rattle.group_wire.proofs.laws.deeds_go_on.Goals as goal

pub returns : goal.returns
returns g c = record {
  none = λ n from. nothing_done refl refl refl refl;
  more = λ old mid new from via to p q first second. acts_then first second;
  fails = λ old mid new from via to p q first second. fails_then first second;
}
