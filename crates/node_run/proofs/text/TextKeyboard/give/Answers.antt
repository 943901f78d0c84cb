use Rattle.std.proofs.Common.{◌∙◌, length, ap}
use Rattle.node_run.proofs.Course.{gift_front}
use Rattle.node_run.proofs.text.TextKeyboard.give.Goals as goal

pub returns-clause-given : goal.returns-clause-given
returns-clause-given c = gift_front c.min-count.result c.args.self.now.left.now c.copy_from_slice.new.self _ c.split_at.result.1.now
    (ap length c.copy_from_slice.ensures.after ∙ c.split_at.ensures.front_len)
    (c.copy_from_slice.ensures.after ∙ c.split_at.ensures.front) c.split_at.ensures.back
