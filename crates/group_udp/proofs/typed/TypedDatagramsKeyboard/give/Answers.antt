use Rattle.std.proofs.Common.{◌∙◌, arith, refl, sym}
use Rattle.group_udp.proofs.Typing.{given_front}
use Rattle.group_udp.proofs.typed.TypedDatagramsKeyboard.give.Goals as goal

pub returns-clause-given : goal.returns-clause-given
returns-clause-given g c = record {
  whole = sym c.self.view_is ∙ given_front c.give.result c.self.inside.queue c.give.new.self _ _ _
      (grind (arith, c.give.ensures.count)) c.give.ensures.given
      c.give.ensures.left;
  stays = refl;
  nothing = refl;
  unseen = refl;
}
