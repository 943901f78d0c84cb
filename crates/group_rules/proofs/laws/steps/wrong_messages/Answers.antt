use Rattle.std.proofs.Common.{◌≡◌, ℕ, List, [], ◌∷◌, arith}
use Rattle.paxos_msg.specs.Batches.{Body, Msg, Sent}
use Rattle.paxos_msg.specs.Messages.{messages_of}
use Rattle.group_rules.specs.WrongSteps.{ask_by}
use Rattle.group_rules.proofs.laws.steps.wrong_messages.Goals as goal

-- the sender of the first message of a call
sender_of : (i : ℕ) (bodies : List Body) (m : Msg) (more : Sent) → m ∷ more ≡ messages_of i bodies → m.sender ≡ i
sender_of i [] m more e = absurd cc
sender_of i (body ∷ bodies) m more e = grind arith

pub returns-clause-of_another_node : goal.returns-clause-of_another_node
returns-clause-of_another_node c h =
    grind (arith, sender_of 9 h.bodies (ask_by 6) [])
