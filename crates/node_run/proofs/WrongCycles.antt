-- What is no part of a cycle: a keyboard that is passed over, and output that is left.
use Rattle.std.proofs.Common.{◌≡◌, ◌+◌, ◌^◌, ◌<◌, ◌∙◌, ℕ, List, [], ◌∷◌, Option, Ok, Some, length, sym, ap, subst, arith}
use Rattle.std.proofs.lemmas.List.{length-drop}
use Rattle.paxos_acceptor.specs.Stores.{StoreKind}
use Rattle.group_protocol.specs.declared.limits.TheConstants.{MOST_WAITING}
use Rattle.group_node.specs.declared.player.Ran.{Ran}
use Rattle.group_node.specs.declared.player.Ran.TheVariants.{More}
use Rattle.group_node.specs.Output.{IsOver, RunsOn, most_of}
use Rattle.group_node.specs.NodeCalls.{running, unreleased_by}
use Rattle.group_node.specs.States.{NodeState, input}
use Rattle.group_wire.specs.declared.answers.Turned.{Turned}
use Rattle.group_wire.specs.declared.limits.TheConstants.{TURN_STEPS}
use Rattle.group_wire.specs.Traffic.{Traffic}
use Rattle.node_io.specs.Prompts.{GivesWhatCame, KeyboardState, Remaining, looks_after, no_keys, with_more}
use Rattle.node_run.specs.declared.answering.Answered.{Answered}
use Rattle.node_run.specs.declared.answering.Answered.TheVariants.{Bytes, Campaigned, CampaignRefused, Ignored}
use Rattle.node_run.specs.Answering.{AnswersSeen, left_once_answered, room_of}
use Rattle.node_run.specs.Cycles.{AnswersKeyboard, ReleasesOutput, RunMoment, TakesTurn}
use Rattle.node_run.specs.ClosedKeyboards.{closed_with}
use Rattle.node_run.proofs.Course.{looked, with_none}

-- nothing comes to a closed keyboard that is looked at
seen_is : (bytes : List ℕ) (requests : ℕ) (k seen : KeyboardState) → k ≡ closed_with bytes requests → GivesWhatCame k [] seen
    → seen.left ≡ record { bytes = bytes; requests = requests }
seen_is bytes requests k seen is h =
    let none : h.came ≡ no_keys = h.none_came (ap (λ (q : KeyboardState). q.is_closed) is) in
    looked h ∙ ap (λ (c : Remaining). with_more c k.left) none ∙ with_none k.left ∙ ap (λ (q : KeyboardState). q.left) is

-- nobody looks at a keyboard while it gives
gives_unseen : {S : Type 0} (kind : StoreKind S) (answer : Answered) (old new : NodeState S) (from to : Option Traffic)
    (seen left : KeyboardState) → AnswersSeen kind answer old new from to seen left → left.looks ≡ seen.looks
gives_unseen kind Bytes old new from to seen left (typed, given, acts) = given.unseen
gives_unseen kind Campaigned old new from to seen left (given, asked) = given.unseen
gives_unseen kind Ignored old new from to seen left (given, asked) = given.unseen
gives_unseen kind (CampaignRefused f) old new from to seen left (given, asked) = given.unseen

module _ {S : Type 0} (kind : StoreKind S) where
  -- what is left is what is there, and what is left of that once it was answered
  left_same : (answer : Answered) (a b : RunMoment S) (bytes : List ℕ) (requests : ℕ) → a.around.keyboard ≡ closed_with bytes requests
      → b.around.keyboard ≡ a.around.keyboard → AnswersKeyboard kind answer a b
      → record { bytes = bytes; requests = requests } ≡ left_once_answered (room_of a.node) (record { bytes = bytes; requests = requests })
  left_same answer a b bytes requests is same h = sym (ap (λ (k : KeyboardState). k.left) (same ∙ is))
      ∙ (h.did.all ∙ ap (λ (l : Remaining). left_once_answered (room_of a.node) l)
      (seen_is bytes requests a.around.keyboard h.did.seen is h.did.looks))

  pub bytes_left : (answer : Answered) (a b : RunMoment S) (byte : ℕ) (bytes : List ℕ)
      → length a.node.protocol.known.waiting < MOST_WAITING → a.around.keyboard ≡ closed_with (byte ∷ bytes) 0
      → b.around.keyboard ≡ a.around.keyboard → ¬ AnswersKeyboard kind answer a b
  bytes_left answer a b byte bytes room is same h =
      let left = left_same answer a b (byte ∷ bytes) 0 is same h in
      let lengths = ap (λ (l : Remaining). length l.bytes) left in
      absurd (omega (arith, room, lengths, length-drop (room_of a.node) (byte ∷ bytes)))

  pub request_left : (answer : Answered) (a b : RunMoment S) (bytes : List ℕ) (requests : ℕ) → 0 < requests
      → a.around.keyboard ≡ closed_with bytes requests → b.around.keyboard ≡ a.around.keyboard → ¬ AnswersKeyboard kind answer a b
  request_left answer a b bytes requests some is same h =
      let left = left_same answer a b bytes requests is same h in
      grind (arith, some, ap (λ (l : Remaining). l.requests) left)

  pub unseen : (answer : Answered) (a b : RunMoment S) (looks : ℕ) → a.around.keyboard.looks ≡ Some looks
      → b.around.keyboard.looks ≡ a.around.keyboard.looks → ¬ AnswersKeyboard kind answer a b
  unseen answer a b looks counts same h =
      let once : h.did.seen.looks ≡ Some (looks + 1) = h.did.once ∙ ap (looks_after 1) counts in
      let given : b.around.keyboard.looks ≡ h.did.seen.looks = gives_unseen kind answer a.node b.node
      a.around.traffic b.around.traffic h.did.seen b.around.keyboard h.did.did in
      let both : Some looks ≡ Some (looks + 1) = sym counts ∙ sym same ∙ given ∙ once in
      let less : looks ≡ looks + 1 = cc in
      absurd (omega (arith, less))

  pub no_steps : (begun : ℕ) (turned : Turned) (a b : RunMoment S) → turned.ran ≡ More → a.node.progress.steps + 1 < 2 ^ 64
      → b.node.progress ≡ a.node.progress → ¬ TakesTurn kind begun turned a b
  no_steps begun turned a b more spare same h =
      let x : List ℕ = input b.node.protocol.known in
      let runs : RunsOn x TURN_STEPS a.node.progress b.node.progress turned.ran = h.did.runs in
      let over : b.node.progress.steps ≡ most_of a.node.progress.steps TURN_STEPS =
      subst (λ (r : Ran). IsOver x (most_of a.node.progress.steps TURN_STEPS) b.node.progress r) more runs.over in
      absurd (omega (arith, over, ap (λ q. q.steps) same, spare))

  pub output_left : (seen : ℕ) (a b : RunMoment S) (byte : ℕ) (bytes : List ℕ) → unreleased_by (running a.node) ≡ byte ∷ bytes
      → b.node.progress ≡ a.node.progress → ¬ ReleasesOutput seen a b (Ok tt)
  output_left seen a b byte bytes waits same h =
      let counts = ap (λ q. q.released) (sym same ∙ h.did.progress) in
      absurd (omega (arith, counts, ap length waits))
