use Rattle.std.proofs.Common.{◌∙◌}
use Rattle.node_io.specs.Prompts.{no_keys}
use Rattle.group_udp.proofs.Typing.{none_came}
use Rattle.group_udp.proofs.typed.TypedDatagrams.take_in.Goals as goal

pub returns-in_default : goal.returns-in_default
returns-in_default g c = record { came = (no_keys, c.receive.ensures.same ∙ none_came _) }
