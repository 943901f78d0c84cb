-- A key that waits at a node waits on, or is read, after each call.
use Rattle.std.proofs.Common.{append_assoc, ◌≡◌, ◌≢◌, ◌∙◌, ◌⊎◌, ℕ, All, Contains, List, ◌++◌, Option, Some, None, IfSome, refl, sym, ap, arith, ◌&&◌, not}
use Rattle.std.proofs.lemmas.Bool.Decides.{nat_tests}
use Rattle.std.proofs.lemmas.Bool.{cond_both}
use Rattle.std.proofs.lemmas.List.Elements.{All-append, All-weaker, Contains-append_left}
use Rattle.paxos_msg.specs.declared.ballot.Ballot.{Ballot}
use Rattle.paxos_msg.specs.declared.message.Body.TheVariants.{Prepare, Promise, Accept, Accepted, Refused, Submit, Ask, Tell}
use Rattle.paxos_msg.specs.declared.value.Value.{Value}
use Rattle.paxos_msg.specs.declared.record.Change.TheVariants as change
use Rattle.paxos_msg.specs.Batches.{Body, Change, Record, Vote}
use Rattle.paxos_msg.specs.Keys.{Key}
use Rattle.paxos_msg.specs.Tests.{same_ballot}
use Rattle.paxos_acceptor.specs.Answers.{accept_of, after, prepare_of}
use Rattle.paxos_learner.specs.Input.{front_values, keys_in_order}
use Rattle.paxos_learner.specs.Learner.{HasLearnedMore, Learner}
use Rattle.paxos_proposer.specs.Proposer.{Proposer, is_covered, next_of}
use Rattle.group_protocol.specs.Known.{Known, Response}
use Rattle.group_protocol.specs.Protocol.{on_message, response_to}
use Rattle.group_protocol.specs.ProposerResponses.{is_known, submitted, taking_part}
use Rattle.group_protocol.specs.Tick.{on_tick, ticked}
use Rattle.group_protocol.specs.WaitingKeys.{waiting_keys, without_read}
use Rattle.group_progress.specs.Below.{KeyLaws}

-- the key waits at the node, or the node has read it
abbrev pub KeyAt : Known → Key → Type 0
KeyAt n key = Contains (waiting_keys n) key ⊎ Contains (keys_in_order (front_values n.learner.learned)) key

-- ---- calls that leave the waiting keys

abbrev Waits : Known → Response → Type 0
Waits n done = waiting_keys done.node ≡ waiting_keys n

module _ (n : Known) where
  part_waits : (o : Option Proposer) (j : ℕ) (b : Ballot) (first upto : ℕ) (votes : List Vote) → Waits n
      (taking_part n o j b first upto votes)
  part_waits None j b first upto votes = refl
  part_waits (Some p) j b first upto votes = cond_both (same_ballot p.ballot b) _ _ (Waits n) (λ e. refl) (λ e. refl)

  submit_waits : (o : Option Proposer) (v : Value) → Waits n (submitted n o v)
  submit_waits None v = refl
  submit_waits (Some p) v = cond_both (is_covered p (next_of p) && not (is_known n v)) _ _ (Waits n) (λ e. refl) (λ e. refl)

  starts_stay : (r : Record) (c : Option Change) → IfSome c (λ c. c ≢ change.Start) → (after r c).starts ≡ r.starts
  starts_stay r None h = refl
  starts_stay r (Some change.Start) h = absurd (h refl)
  starts_stay r (Some (change.Promise b)) h = refl
  starts_stay r (Some (change.Ballotted s b v)) h = refl

  no_start_prepare : (r : Record) (b : Ballot) (from : ℕ) → IfSome (prepare_of r b from).saves (λ c. c ≢ change.Start)
  no_start_prepare r b from = grind (arith, nat_tests)

  no_start_accept : (r : Record) (b : Ballot) (s : ℕ) (v : Value) → IfSome (accept_of r b s v).saves (λ c. c ≢ change.Start)
  no_start_accept r b s v = grind (arith, nat_tests)

  response_waits : (j : ℕ) (body : Body) → Waits n (response_to n j body)
  response_waits j (Prepare b from) = rw (starts_stay n.kept _ (no_start_prepare n.kept b from)) refl
  response_waits j (Promise b first upto votes) = part_waits n.proposer j b first upto votes
  response_waits j (Accept b s v) = rw (starts_stay n.kept _ (no_start_accept n.kept b s v)) refl
  response_waits j (Accepted b s v) = refl
  response_waits j (Refused b promised) = refl
  response_waits j (Submit v) = submit_waits n.proposer v
  response_waits j (Ask from) = refl
  response_waits j (Tell s v) = refl

-- ---- keys

-- what was read stays read, as more is learned
pub read_on : KeyLaws → (n m : Known) (key : Key) → HasLearnedMore n.learner.learned m.learner.learned
    → Contains (keys_in_order (front_values n.learner.learned)) key → Contains (keys_in_order (front_values m.learner.learned)) key
read_on laws n m key more h =
    let (values, is) = laws.more_fronts n.learner m.learner more in
    let (rest, keys) = laws.more_keys (front_values n.learner.learned) values in
    rw (is, keys) (Contains-append_left (keys_in_order (front_values n.learner.learned)) rest key h)

-- of these keys the first are read, and the others wait
pub record Shrinks (keys : List Key) (n : Known) : Type 0 where
  pub gone : List Key
  pub parts : keys ≡ gone ++ waiting_keys n
  pub below : All (λ k. Contains (keys_in_order (front_values n.learner.learned)) k) gone

pub shrink_after : KeyLaws → {keys : List Key} (n : Known) (j : ℕ) (body : Body) → Shrinks keys n → Shrinks keys (on_message n j body).node
shrink_after laws {keys} n j body h =
    let done : Known = (response_to n j body).node in
    let (gone, parts, below) = laws.gone done in
    record {
      gone = h.gone ++ gone;
      parts = h.parts ∙ ap (λ ks. h.gone ++ ks) (sym (response_waits n j body) ∙ parts) ∙ sym
          (append_assoc h.gone gone (waiting_keys (without_read done)));
      below = All-append (λ k. Contains (keys_in_order (front_values done.learner.learned)) k) h.gone gone
          (All-weaker (λ k. Contains (keys_in_order (front_values n.learner.learned)) k)
          (λ k. Contains (keys_in_order (front_values done.learner.learned)) k)
          (λ k read. read_on laws n (on_message n j body).node k (laws.learned_message n j body) read) h.gone h.below) below;
    }

pub shrink_ticked : {keys : List Key} (n : Known) → Shrinks keys n → Shrinks keys (on_tick n).node
shrink_ticked {keys} n h = by n.proposer where
  by : (o : Option Proposer) → Shrinks keys (ticked n o).node
  by None = record { gone = h.gone; parts = h.parts; below = h.below }
  by (Some p) = record { gone = h.gone; parts = h.parts; below = h.below }
