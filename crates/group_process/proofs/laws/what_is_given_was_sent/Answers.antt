use Rattle.group_process.proofs.GivenWasSent.{letter_sent, message_sent}
use Rattle.group_process.proofs.laws.what_is_given_was_sent.Goals as goal

pub returns : goal.returns
returns c = record { letter = letter_sent; message = message_sent c.spelling_is_read.ensures.read }
