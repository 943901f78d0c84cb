-- What a tick may submit.
use Rattle.std.proofs.lemmas.Bool.Decides.{nat_tests}
use Rattle.std.proofs.lemmas.Option.{same_Some}
use Rattle.std.proofs.Common.{◌≡◌, List, [], ◌∷◌, Contains, sym, ap, arith}
use Rattle.pcode_machine.specs.Runs.{IsPrefix}
use Rattle.paxos_msg.specs.declared.message.Body.TheVariants.{Submit}
use Rattle.paxos_msg.specs.declared.value.Value.{Value}
use Rattle.paxos_msg.specs.declared.value.Value.TheVariants.{Keys}
use Rattle.paxos_msg.specs.Batches.{Body}
use Rattle.paxos_msg.specs.Keys.{Key, keys_of}
use Rattle.paxos_msg.specs.Messages.{messages_of}
use Rattle.group_node.specs.Deeds as deed
use Rattle.group_protocol.proofs.Elements.{first_in}
use Rattle.group_rules.specs.Rules.{Seat, WorldStep}
use Rattle.group_rules.specs.WrongSteps.{both_keys, nine_submit, key_of_9, up_waiting}
use Rattle.group_rules.proofs.laws.key_steps.wrong_batches.Goals as goal

-- the one message of a call is of its one body
only_body : (body : Body) (bodies : List Body) → messages_of 9 (body ∷ []) ≡ messages_of 9 bodies → Contains bodies body
only_body body [] e = absurd cc
only_body body (b ∷ more) e = grind (arith, first_in b more)

-- a tick submits a front of the keys that wait
front_sent : (waiting typed : List Key) (v : Value)
    → WorldStep (nine_submit waiting typed []) 9 deed.Tick (nine_submit waiting typed (v ∷ [])) → IsPrefix (keys_of v) waiting
front_sent waiting typed v h =
    let same = same_Some h.now (up_waiting waiting) (sym (ap (λ (s : Seat). s.up) h.left)) in
    rw same at (h.submits.front v (only_body (Submit v) h.bodies h.rest.sent))

pub returns-clause-second_alone : goal.returns-clause-second_alone
returns-clause-second_alone c h =
    let begins = front_sent both_keys both_keys (Keys 9 3 41 (66 ∷ [])) h in grind (arith, nat_tests, begins.whole)

pub returns-clause-one_that_left : goal.returns-clause-one_that_left
returns-clause-one_that_left c h =
    let begins = front_sent (key_of_9 41 66 ∷ []) both_keys (Keys 9 3 40 (65 ∷ [])) h in grind (arith, nat_tests, begins.whole)
