-- What a keyboard gives, and what is typed of it.
use Rattle.std.proofs.Common.{◌≡◌, ◌∙◌, inl, inr, ℕ, ◌+◌, ◌*◌, ◌<◌, ◌≤◌, nat_lt, true, false, IfOk, OnErr, List, [], ◌∷◌, ◌++◌, length, map, Option, Result, Ok, Err, refl, sym, ap, subst, arith, append-nil}
use Rattle.std.proofs.lemmas.Bool.Decides.{nat_tests}
use Rattle.std.proofs.lemmas.List.{length-append, nil_from_length}
use Rattle.paxos_acceptor.specs.Stores.{StoreKind}
use Rattle.group_protocol.specs.declared.fault.NodeFault.{NodeFault}
use Rattle.group_protocol.specs.declared.fault.NodeFault.TheVariants.{SerialSpent}
use Rattle.group_node.specs.Deeds.{Campaign, Press}
use Rattle.group_node.specs.States.{NodeState}
use Rattle.group_wire.specs.Doings.{ActsTyping, HasActed}
use Rattle.group_wire.specs.Presses.{HasPressed}
use Rattle.group_wire.specs.Traffic.{Traffic}
use Rattle.node_io.specs.declared.fault.GroupFault.{GroupFault}
use Rattle.node_io.specs.declared.fault.GroupFault.TheVariants as group
use Rattle.node_run.specs.declared.answering.Answered.{Answered}
use Rattle.node_run.specs.declared.answering.Answered.TheVariants.{Bytes, Campaigned, CampaignRefused, Ignored}
use Rattle.node_run.specs.Course.{Surroundings, HasEnded, HasMadeTurns, HasReason, around}
use Rattle.node_run.specs.Answering.{AnswersSeen, AnswersWhatCame, HasCampaignedAsAsked, HasAnsweredKeyboard, HasTypedGiven, left_once_answered, left_once_given, retries_after, room_of}
use Rattle.node_run.specs.declared.retries.Retried.{Retried}
use Rattle.node_run.specs.declared.retries.Retried.TheVariants as again
use Rattle.node_run.specs.Retries.{HasRetried, retries_unless_leading}
use Rattle.group_protocol.specs.Known.{Known}
use Rattle.node_io.specs.Prompts.{GivesWhatCame, HasGiven, KeyboardState, Remaining, before_gift, looks_after}
use Rattle.node_run.proofs.Course.{gift_both, gift_none, given_both, gives_now, not_given, prompted, prompted_lost, prompted_typed, same_left, save_ended}

-- where all of some bytes have room, none is left
none_left : {S : Type 0} {old new : NodeState S} {before after : List ℕ} → HasPressed old new before after (Ok tt)
    → length old.protocol.known.waiting + length before ≤ 256 → after ≡ []
none_left {after = after} h room = grind (arith, length-append, nil_from_length after, h.full, h.bytes, h.known)

-- all that was given is typed
pub typed_all : {S : Type 0} {old new : NodeState S} {bytes before after : List ℕ} {from : KeyboardState} (to : KeyboardState)
    → HasPressed old new before after (Ok tt) → ActsTyping old new before after → before ≡ bytes
    → length old.protocol.known.waiting + length bytes ≤ 256 → HasGiven from (map Press bytes) to → HasTypedGiven old new from to (Ok tt)
typed_all to h (typed, whole, acts) same room given = let none = none_left h (rw same room) in (typed, grind (arith, append-nil), acts)

-- the first of it are typed
pub typed_some : {S : Type 0} {old new : NodeState S} {bytes before after : List ℕ} {from : KeyboardState} (to : KeyboardState)
    (e : NodeFault) → HasPressed old new before after (Err e) → ActsTyping old new before after → before ≡ bytes
    → old.protocol.is_stopped ≡ false → HasGiven from (map Press bytes) to → HasTypedGiven old new from to (Err (group.Node e))
typed_some {after = after} {from} to e h (typed, whole, acts) same works given =
    let spent : e ≡ SerialSpent = grind (arith, h.others, h.stopped) in
    let all = subst (λ bs. HasGiven from (map Press bs) to) (sym same ∙ whole) given in
    (typed, after, ap group.Node spent, all, rw spent (h.spent.0 (ap Err spent)).3, acts)

-- ---- what the node did with it

-- it may not campaign again more often
fewer_unless_leading : (retries : ℕ) (n : Known) → 0 + retries_unless_leading retries n ≤ 0 * 4 + retries
fewer_unless_leading retries n = grind arith

pub answered_on : {S : Type 0} (kind : StoreKind S) {old new : NodeState S} {from to : Surroundings} (answered : Answered)
    → HasAnsweredKeyboard kind old new from to (Ok answered) → HasMadeTurns [] old new from to 0
answered_on kind Bytes (again, typed, given, acts) =
    record { gift = map Press typed; prompts = map Press typed; given = given; acts = acts; prompted = rw again (prompted_typed typed) }
answered_on kind Campaigned (again, given, asked) =
    record {
      gift = Campaign ∷ [];
      prompts = Campaign ∷ [];
      given = given;
      acts = asked.1;
      prompted = prompted refl (omega (arith, again)) refl;
    }
answered_on kind Ignored (again, given, asked) =
    record { gift = Campaign ∷ []; prompts = []; given = given; acts = asked.1; prompted = prompted refl (omega (arith, again)) refl }
answered_on kind (CampaignRefused f) (again, given, refused) =
    record { gift = Campaign ∷ []; prompts = []; given = given; acts = refused.4; prompted = prompted refl (omega (arith, again)) refl }

-- a campaign once more, by its answer
pub retried_on : {S : Type 0} (kind : StoreKind S) {old new : NodeState S} {from to : Surroundings} (retried : Retried)
    → HasActed old old from.traffic from.traffic [] → HasRetried kind old new from to (Ok retried) → HasMadeTurns [] old new from to 0
retried_on kind {old} {from = from} again.NotDue none (not, same, is) = rw (same, is) (record {
  gift = [];
  prompts = [];
  given = gift_none from.keyboard;
  acts = none;
  prompted = prompted refl (fewer_unless_leading from.retries old.protocol.known) refl;
})
retried_on kind {from = from} {to} again.Campaigned none (due, keyboard, fewer, acts) =
    let given : GivesWhatCame from.keyboard [] to.keyboard = rw keyboard (gift_none from.keyboard) in
    record { gift = []; prompts = Campaign ∷ []; given = given; acts = acts; prompted = prompted refl (omega (arith, fewer)) refl }
retried_on kind {from = from} {to} (again.CampaignRefused f) none (due, keyboard, spent, refused, works, other, acts) =
    let given : GivesWhatCame from.keyboard [] to.keyboard = rw keyboard (gift_none from.keyboard) in
    record { gift = []; prompts = []; given = given; acts = acts; prompted = prompted refl (omega (arith, spent)) refl }

-- one at which a save failed
pub retry_ended : {S : Type 0} (kind : StoreKind S) {old new : NodeState S} {from to : Surroundings} {e : GroupFault}
    → HasRetried kind old new from to (Err e) → HasEnded kind [] old new from to 0 e
retry_ended kind {from = from} (due, keyboard, fewer, fails) =
    save_ended {gift = []} fails (rw keyboard (gift_none from.keyboard)) (prompted refl (omega (arith, fewer)) refl)

-- typing that spent the serials
typing_ended : {S : Type 0} {kind : StoreKind S} {old new : NodeState S} (passed : Option Traffic)
    {from to : KeyboardState} {retries : ℕ} {e : GroupFault}
    (typed lost : List ℕ) → e ≡ group.Node SerialSpent → GivesWhatCame from (map Press (typed ++ lost)) to → HasReason e new.protocol.known
    → ((passed : Option Traffic) → HasActed old new passed passed (map Press typed))
    → HasEnded kind [] old new (around passed from retries) (around passed to retries) 0 e
typing_ended passed {retries = retries} typed lost spent given due acts =
    let same = prompted_lost {retries = retries} typed lost (λ not. absurd (not spent)) in
    grind (arith, map Press (typed ++ lost), map Press typed, acts passed, same)

-- a campaign that was asked for, by its answer
pub asked_answered : (S : Type 0) (kind : StoreKind S) (old new : NodeState S) (from to : Option Traffic)
    (keys left : KeyboardState) (had has : ℕ) (result : Result Answered GroupFault)
    → HasCampaignedAsAsked kind old new from to result → GivesWhatCame keys (Campaign ∷ []) left
    → IfOk result (λ answer. has ≡ retries_after answer had) → OnErr result (has ≡ had)
    → HasAnsweredKeyboard kind old new (around from keys had) (around to left has) result
asked_answered S kind old new from to keys left had has (Ok Bytes) h given again same = absurd h
asked_answered S kind old new from to keys left had has (Ok Campaigned) h given again same = (again, given, h)
asked_answered S kind old new from to keys left had has (Ok Ignored) h given again same = (again, given, h)
asked_answered S kind old new from to keys left had has (Ok (CampaignRefused f)) h given again same = (again, given, h)
asked_answered S kind old new from to keys left had has (Err e) (missing, h) given again same =
    (inl h.store, save_ended {gift = Campaign ∷ []} h given (prompted refl (omega (arith, same)) refl))

-- typing, where no campaign was asked for
pub bytes_answered : {S : Type 0} (kind : StoreKind S) {old new : NodeState S} (at : Option Traffic)
    {keys : KeyboardState} {retries : ℕ} (left via : KeyboardState) → HasTypedGiven old new via left (Ok tt) → GivesWhatCame keys [] via
    → HasAnsweredKeyboard kind old new (around at keys retries) (around at left retries) (Ok Bytes)
bytes_answered kind at left via (typed, given, acts) none = (refl, typed, gift_both none (gives_now given), acts at)

pub bytes_refused : {S : Type 0} (kind : StoreKind S) {old new : NodeState S} (at : Option Traffic)
    {keys : KeyboardState} {retries : ℕ} (left via : KeyboardState) {e : GroupFault} → HasTypedGiven old new via left (Err e)
    → GivesWhatCame keys [] via → HasAnsweredKeyboard kind old new (around at keys retries) (around at left retries) (Err e)
bytes_refused kind at left via (typed, lost, spent, given, due, acts) none =
    (inr spent, typing_ended at typed lost spent (gift_both none (gives_now given)) due acts)

-- ---- all that was there is answered

-- a request that was there is given
request_taken : (room : ℕ) (left : Remaining) → left_once_answered room (before_gift (Campaign ∷ []) left) ≡ left
request_taken room left =
    let some : nat_lt 0 (1 + left.requests) ≡ true = grind (arith, nat_tests) in
    rw some (same_left _ left refl (omega arith))

-- if none is there, bytes are given
none_taken : (room : ℕ) (left : Remaining) → ¬ (0 < left.requests) → left_once_answered room left ≡ left_once_given room left
none_taken room left none =
    let not : nat_lt 0 left.requests ≡ false = grind (arith, nat_tests) in
    rw not refl

-- what a campaign that was asked for did
by_answer : {S : Type 0} (kind : StoreKind S) (old new : NodeState S) (t u : Option Traffic) {seen left : KeyboardState}
    (answer : Answered) → HasGiven seen (Campaign ∷ []) left → HasCampaignedAsAsked kind old new t u (Ok answer)
    → AnswersSeen kind answer old new t u seen left
by_answer kind old new t u Bytes given h = absurd h
by_answer kind old new t u Campaigned given h = (given, h)
by_answer kind old new t u Ignored given h = (given, h)
by_answer kind old new t u (CampaignRefused f) given h = (given, h)

-- a request was there
pub answered_request : {S : Type 0} (kind : StoreKind S) (old new : NodeState S) (t u : Option Traffic) {keys seen left : KeyboardState}
    (had has : ℕ) (result : Result Answered GroupFault) → GivesWhatCame keys [] seen → seen.looks ≡ looks_after 1 keys.looks
    → HasGiven seen (Campaign ∷ []) left
    → HasCampaignedAsAsked kind old new t u result → IfOk result (λ answer. has ≡ retries_after answer had)
    → IfOk result (λ answer. AnswersWhatCame kind answer old new (around t keys had) (around u left has))
answered_request kind old new t u {seen = seen} {left} had has (Ok answer) look once given h again = record {
  seen = seen;
  looks = look;
  once = once;
  did = by_answer kind old new t u answer given h;
  all = sym (request_taken (room_of old) left.left) ∙ ap (left_once_answered (room_of old)) (sym given.whole);
  again = again;
}
answered_request kind old new t u had has (Err e) look once given h again = tt

-- none was there
pub answered_bytes : {S : Type 0} (kind : StoreKind S) {old new : NodeState S} (at : Option Traffic)
    {keys seen via left : KeyboardState} {retries : ℕ} → GivesWhatCame keys [] seen → seen.looks ≡ looks_after 1 keys.looks
    → HasGiven seen [] via → ¬ (0 < seen.left.requests)
    → left.left ≡ left_once_given (room_of old) via.left → HasTypedGiven old new via left (Ok tt)
    → AnswersWhatCame kind Bytes old new (around at keys retries) (around at left retries)
answered_bytes kind {old} at {seen = seen} look once given none all (typed, typed_of, acts) = record {
  seen = seen;
  looks = look;
  once = once;
  did = (typed, given_both given typed_of, acts at);
  all = all ∙ ap (left_once_given (room_of old)) (not_given given) ∙ sym (none_taken (room_of old) seen.left none);
  again = refl;
}
