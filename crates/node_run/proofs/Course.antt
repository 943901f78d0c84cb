-- Calls of a node, one after the other: their deeds, and what it was prompted to do.
use Rattle.std.proofs.Common.{◌≡◌, ◌≢◌, ◌∙◌, zero-add, ◌⊎◌, inl, inr, Bool, true, ℕ, ◌+◌, ◌*◌, ◌≤◌, List, [], ◌∷◌, ◌++◌, drop, length, min, take, map, Option, Some, None, Result, Ok, Err, refl, sym, ap, arith, append_assoc, append-nil}
use Rattle.std.proofs.Math.Seq.{drop-append_seam, take-append_seam}
use Rattle.std.proofs.lemmas.Grind.{common_steps, flat_map-append}
use Rattle.std.proofs.lemmas.List.{drop_all, length-append, take-append-drop}
use Rattle.std.proofs.lemmas.List.Elements.{filter-append}
use Rattle.paxos_acceptor.specs.Stores.{StoreKind}
use Rattle.group_node.specs.Deeds.{Deed, Press}
use Rattle.group_node.specs.States.{NodeState}
use Rattle.group_wire.specs.Doings.{Fails, HasActed}
use Rattle.group_wire.specs.Traffic.{Traffic}
use Rattle.group_protocol.specs.declared.fault.NodeFault.TheVariants.{SerialSpent, Store}
use Rattle.node_io.specs.declared.fault.GroupFault.{GroupFault}
use Rattle.node_io.specs.declared.fault.GroupFault.TheVariants as group
use Rattle.node_run.specs.Course.{Surroundings, CampaignsIf, FailsAt, HasEnded, HasMadeTurns, HasReason, around, planned}
use Rattle.node_io.specs.Refusals.{IsCampaignRefusal}
use Rattle.node_io.specs.Prompts.{GivesWhatCame, HasGiven, KeyboardState, Remaining, before_gift, byte_in, campaigns_in, bytes_in, looks_after, no_keys, taken_more, with_more}
use Rattle.node_run.specs.Answering.{left_once_given}
use Rattle.node_run.specs.Prompted.{IsPrompted, turns_in}

-- ---- what a keyboard gives

-- two that are the same
pub same_left : (a b : Remaining) → a.bytes ≡ b.bytes → a.requests ≡ b.requests → a ≡ b
same_left a b bytes requests = ap (λ x. record { bytes = x; requests = a.requests }) bytes
    ∙ ap (λ r. record { bytes = b.bytes; requests = r }) requests

-- nothing came
pub with_none : (left : Remaining) → with_more no_keys left ≡ left
with_none left = same_left _ left (append-nil left.bytes) (omega arith)

-- what came twice came at once
came_twice : (a c d : Remaining) → with_more d (with_more c a) ≡ with_more (with_more d c) a
came_twice a c d = same_left _ _ (append_assoc a.bytes c.bytes d.bytes) (omega arith)

-- what was taken in before that
taken_none : (taken_in : Option Remaining) → taken_in ≡ taken_more no_keys taken_in
taken_none None = refl
taken_none (Some before) = ap Some (sym (with_none before))

taken_twice : (c d : Remaining) (taken_in : Option Remaining)
    → taken_more d (taken_more c taken_in) ≡ taken_more (with_more d c) taken_in
taken_twice c d None = refl
taken_twice c d (Some before) = ap Some (came_twice before c d)

-- and how often it was looked at
looks_none : (looks : Option ℕ) → looks ≡ looks_after 0 looks
looks_none None = refl
looks_none (Some before) = ap Some (omega arith)

looks_twice : (m n : ℕ) (looks : Option ℕ) → looks_after n (looks_after m looks) ≡ looks_after (n + m) looks
looks_twice m n None = refl
looks_twice m n (Some before) = ap Some (omega arith)

-- a keyboard at which nobody looked meanwhile
pub gives_now : {old new : KeyboardState} {gift : List Deed} → HasGiven old gift new → GivesWhatCame old gift new
gives_now {old} {new} {gift} h = record {
  came = no_keys;
  whole = with_none old.left ∙ h.whole;
  none_came = λ closed. refl;
  stays = h.stays;
  more = h.nothing ∙ taken_none old.taken_in;
  times = 0;
  looked = h.unseen ∙ looks_none old.looks;
}

-- a keyboard that has given nothing
pub gift_none : (keys : KeyboardState) → GivesWhatCame keys [] keys
gift_none keys =
    gives_now
    (record { whole = same_left keys.left (before_gift [] keys.left) refl (omega arith); stays = refl; nothing = refl; unseen = refl })

-- what a keyboard has left at which nothing is given
pub looked : {old new : KeyboardState} (h : GivesWhatCame old [] new) → new.left ≡ with_more h.came old.left
looked {old} {new} h = same_left new.left (before_gift [] new.left) refl (omega arith) ∙ sym h.whole

pub not_given : {old new : KeyboardState} → HasGiven old [] new → new.left ≡ old.left
not_given {old} {new} h = same_left new.left (before_gift [] new.left) refl (omega arith) ∙ sym h.whole

-- what comes to a keyboard comes behind what it gives
came_behind : (gift : List Deed) (left came : Remaining) → with_more came (before_gift gift left) ≡ before_gift gift (with_more came left)
came_behind gift left came = same_left _ _ (append_assoc (bytes_in gift) left.bytes came.bytes) (omega arith)

-- two gifts are one
gift_twice : (g h : List Deed) (left : Remaining) → before_gift g (before_gift h left) ≡ before_gift (g ++ h) left
gift_twice g h left = grind (arith, append_assoc, flat_map-append byte_in g h, filter-append, length-append)

-- and so they are where nothing came
pub given_both : {a b c : KeyboardState} {g h : List Deed} → HasGiven a g b → HasGiven b h c → HasGiven a (g ++ h) c
given_both {c = c} {g} {h} first second = record {
  whole = first.whole ∙ ap (before_gift g) second.whole ∙ gift_twice g h c.left;
  stays = second.stays ∙ first.stays;
  nothing = second.nothing ∙ first.nothing;
  unseen = second.unseen ∙ first.unseen;
}

pub gift_both : {a b c : KeyboardState} {g h : List Deed} → GivesWhatCame a g b → GivesWhatCame b h c → GivesWhatCame a (g ++ h) c
gift_both {a} {b} {c} {g} {h} first second = record {
  came = with_more second.came first.came;
  whole = sym (came_twice a.left first.came second.came) ∙ ap (with_more second.came) first.whole ∙ came_behind g b.left second.came
      ∙ ap (before_gift g) second.whole ∙ gift_twice g h c.left;
  none_came = λ closed. ap (λ d. with_more d first.came) (second.none_came (first.stays ∙ closed))
      ∙ ap (with_more no_keys) (first.none_came closed);
  stays = second.stays ∙ first.stays;
  more = second.more ∙ ap (taken_more second.came) first.more ∙ taken_twice first.came second.came a.taken_in;
  times = second.times + first.times;
  looked = second.looked ∙ ap (looks_after second.times) first.looked ∙ looks_twice first.times second.times a.looks;
}

-- ---- prompts

-- nothing was lost
pub prompted : {gift prompts : List Deed} {turns had left : ℕ} {spent : Type 0} → bytes_in gift ≡ bytes_in prompts
    → campaigns_in prompts + left ≤ campaigns_in gift * 4 + had → turns_in prompts ≡ turns
    → IsPrompted gift turns had left spent prompts
prompted {prompts = prompts} typed few made =
    record { lost = []; typed = typed ∙ sym (append-nil (bytes_in prompts)); all = λ _. refl; campaigns = few; made = made }

pub prompted_none : {spent : Type 0} {retries : ℕ} → IsPrompted [] 0 retries retries spent []
prompted_none = prompted refl (omega arith) refl

-- the same where more may be lost
pub prompted_if : {gift prompts : List Deed} {turns had left : ℕ} {a b : Type 0} → (a → b) → IsPrompted gift turns had left a prompts
    → IsPrompted gift turns had left b prompts
prompted_if f h = grind (arith, h.lost)

-- typed bytes prompt for nothing else
pressed : (bytes : List ℕ)
    → (bytes_in (map Press bytes) ≡ bytes) × (campaigns_in (map Press bytes) ≡ 0) × (turns_in (map Press bytes) ≡ 0)
pressed [] = (refl, refl, refl)
pressed (b ∷ bytes) = let (all, no_campaign, no_turn) = pressed bytes in (ap (λ bs. b ∷ bs) all, no_campaign, no_turn)

-- these bytes are the first of a text, and stand before others
pub gift_front : (n : ℕ) (all front others back : List ℕ) → length front ≡ n → front ≡ take n all → back ≡ drop n all
    → HasGiven (record { left = record { bytes = all; requests = 0 }; is_closed = true; taken_in = Some no_keys; looks = None })
    (map Press (take n (front ++ others)))
    (record { left = record { bytes = back; requests = 0 }; is_closed = true; taken_in = Some no_keys; looks = None })
gift_front n all front others back long is left =
    let (typed, no_campaign, _) = pressed (take n (front ++ others)) in
    let whole : all ≡ take n (front ++ others) ++ back =
    grind (arith, common_steps, take-append_seam front others, take-append-drop n all, long, is, left) in
    record { whole = rw (typed, no_campaign, ← whole) refl; stays = refl; nothing = refl; unseen = refl }

-- what is left once all was given for which there was room
pub left_given : (room n : ℕ) (given : List ℕ) (old new : Remaining) → old ≡ before_gift (map Press given) new
    → length given ≡ n → n ≡ min (length old.bytes) room → new ≡ left_once_given room old
left_given room n given old new is long all =
    let (typed, no_campaign, _) = pressed given in
    same_left new (left_once_given room old)
    (grind (arith, common_steps, typed, drop_all, drop-append_seam given new.bytes)) (grind (arith, no_campaign))

-- bytes that are typed, and others that are lost
pub prompted_lost : {spent : Type 0} {retries : ℕ} (typed lost : List ℕ) → (¬ spent → lost ≡ [])
    → IsPrompted (map Press (typed ++ lost)) 0 retries retries spent (map Press typed)
prompted_lost typed lost all = grind (arith, pressed typed, pressed (typed ++ lost))

pub prompted_typed : {retries : ℕ} (typed : List ℕ) → IsPrompted (map Press typed) 0 retries retries ⊥ (map Press typed)
prompted_typed typed = prompted refl (grind (arith, pressed typed)) (pressed typed).2

-- some prompts, and then others
prompted_both : {g h p q : List Deed} {t u had mid left : ℕ} {spent : Type 0} → IsPrompted g t had mid ⊥ p
    → IsPrompted h u mid left spent q → IsPrompted (g ++ h) (t + u) had left spent (p ++ q)
prompted_both {g} {h} {p} {q} first second =
    let none = append-nil (bytes_in p) in
    grind (arith, second.lost, first.all, flat_map-append byte_in, append_assoc, none, filter-append, length-append)

-- ---- calls

-- what holds of deeds that go on
abbrev pub GoOn : {S : Type 0} → StoreKind S → Type 0
GoOn {S} kind = record {
  none : (n : NodeState S) (from : Option Traffic) → HasActed n n from from [];
  more : (old mid new : NodeState S) (from via to : Option Traffic) (p q : List Deed) → HasActed old mid from via p
      → HasActed mid new via to q → HasActed old new from to (p ++ q);
  fails : (old mid new : NodeState S) (from via to : Option Traffic) (p q : List Deed) → HasActed old mid from via p
      → Fails kind mid new via to q → Fails kind old new from to (p ++ q);
}

module _ {S : Type 0} {kind : StoreKind S} (laws : GoOn kind) where
  -- what was done, and then more
  pub gone_then : {first : List Deed} {old mid new : NodeState S} {from via to : Surroundings} {t u : ℕ}
      → HasMadeTurns first old mid from via t → HasMadeTurns [] mid new via to u → HasMadeTurns first old new from to (t + u)
  gone_then {to = to} h k =
      let acts = laws.more _ _ _ _ _ _ _ _ h.acts k.acts in
      record {
        gift = h.gift ++ k.gift;
        prompts = h.prompts ++ k.prompts;
        given = gift_both h.given k.given;
        acts = rw append_assoc at acts;
        prompted = prompted_both h.prompted k.prompted;
      }

  -- and then what a refusal ended
  pub ended_then : {first : List Deed} {old mid new : NodeState S} {from via to : Surroundings} {t u : ℕ} {e : GroupFault}
      → HasMadeTurns first old mid from via t → HasEnded kind [] mid new via to u e → HasEnded kind first old new from to (t + u) e
  ended_then {to = to} h k = record {
    gift = h.gift ++ k.gift;
    prompts = h.prompts ++ k.prompts;
    given = gift_both h.given k.given;
    fails = λ is. rw append_assoc at (laws.fails _ _ _ _ _ _ _ _ h.acts (k.fails is));
    acts = λ is. rw append_assoc at (laws.more _ _ _ _ _ _ _ _ h.acts (k.acts is));
    prompted = prompted_both h.prompted k.prompted;
    due = k.due;
  }

-- ---- one call

-- these prompts, while nothing was taken from the keyboard
pub gone_unprompted : {S : Type 0} {first : List Deed} {old new : NodeState S} {from to : Option Traffic} {keys left : KeyboardState}
    {retries : ℕ} → HasActed old new from to first → GivesWhatCame keys [] left
    → HasMadeTurns first old new (around from keys retries) (around to left retries) 0
gone_unprompted {first = first} acts looks =
    record { gift = []; prompts = []; given = looks; acts = rw (append-nil first) acts; prompted = prompted_none }

-- these prompts without the keyboard, up to a refusal
ended_unprompted : {S : Type 0} {kind : StoreKind S} {first : List Deed} {old new : NodeState S} {from to : Option Traffic}
    {keys left : KeyboardState} {retries : ℕ} {e : GroupFault} → GivesWhatCame keys [] left
    → (e ≡ group.Node Store → Fails kind old new from to first)
    → (e ≢ group.Node Store → HasActed old new from to first) → HasReason e new.protocol.known
    → HasEnded kind first old new (around from keys retries) (around to left retries) 0 e
ended_unprompted {first = first} looks fails acts due = record {
  gift = [];
  prompts = [];
  given = looks;
  fails = λ is. rw (append-nil first) (fails is);
  acts = λ is. rw (append-nil first) (acts is);
  prompted = prompted_none;
  due = due;
}

-- a save failed at these prompts
pub save_ended : {S : Type 0} {kind : StoreKind S} {old new : NodeState S} {from to : Option Traffic}
    {keys seen : KeyboardState} {had left : ℕ} {e : GroupFault} {gift prompts : List Deed} → FailsAt kind old new from to prompts e
    → GivesWhatCame keys gift seen → IsPrompted gift 0 had left (e ≡ group.Node SerialSpent) prompts
    → HasEnded kind [] old new (around from keys had) (around to seen left) 0 e
save_ended {gift = gift} {prompts} h given prompted = grind (arith, gift, prompts)

-- a refusal is of a save, or not
pub is_store : (e : GroupFault) → (e ≡ group.Node Store) ⊎ (e ≢ group.Node Store)
is_store (group.Node Store) = inl refl
is_store e = inr (λ is. absurd cc)

-- a refusal that no save caused ends what was done
pub gone_ended : {S : Type 0} {kind : StoreKind S} {first : List Deed} {old new : NodeState S} {from to : Surroundings} {turns : ℕ}
    {e : GroupFault}
    → HasMadeTurns first old new from to turns → e ≢ group.Node Store → HasReason e new.protocol.known
    → HasEnded kind first old new from to turns e
gone_ended h other due = grind (arith, h.gift, h.prompts)

-- ---- after a campaign of the plan

-- what a node did, by the answer: so many turns at `Ok`, and at most so many up to a refusal; where its campaign does not begin it
-- has done nothing
abbrev pub MadeTurnsOrEnded : {S T : Type 0} → StoreKind S → List Deed → NodeState S → NodeState S
    → Surroundings → Surroundings → ℕ → Result T GroupFault → Type 0
MadeTurnsOrEnded kind first old new from to turns (Ok x) = HasMadeTurns first old new from to turns
MadeTurnsOrEnded kind first old new from to turns (Err e) =
    ((done : ℕ) × (done ≤ turns) × HasEnded kind first old new from to done e)
    ⊎ ((e ≢ group.Node Store) × IsCampaignRefusal e × HasEnded kind [] old new from to 0 e)

-- the cycles after it, by their answer
pub begun_by : {S : Type 0} {kind : StoreKind S} (laws : GoOn kind) {old mid : NodeState S} {t u : Option Traffic} {first : List Deed}
    (new : NodeState S) (keys : KeyboardState) (retries : ℕ)
    (to : Surroundings) (turns : ℕ) (result : Result (Unit {0}) GroupFault) → HasActed old mid t u first
    → MadeTurnsOrEnded kind [] mid new (around u keys retries) to turns result
    → MadeTurnsOrEnded kind first old new (around t keys retries) to turns result
begun_by laws new keys retries to turns (Ok x) begun h = rw zero-add at (gone_then laws (gone_unprompted begun (gift_none keys)) h)
begun_by laws new keys retries to turns (Err e) begun h = inl (elim h [
  | inl k ↦ (k.0, k.1, rw zero-add at (ended_then laws (gone_unprompted begun (gift_none keys)) k.2))
  | inr k ↦ (0, omega arith, ended_then laws (gone_unprompted begun (gift_none keys)) k.2)
])

-- a campaign of the plan that was refused
pub campaign_refused : {S : Type 0} {kind : StoreKind S} {old new : NodeState S} {t u : Option Traffic} {keys : KeyboardState}
    {retries : ℕ} {asked : Bool} {turns : ℕ} {e : GroupFault} → CampaignsIf kind asked old new t u (Err e) → IsCampaignRefusal e
    → MadeTurnsOrEnded {T = Unit {0}} kind (planned asked) old new (around t keys retries) (around u keys retries) turns (Err e)
campaign_refused {old = old} {new} {t} {u} {keys} {asked} {e = e} (is, fails, acts, due) refusal = elim (is_store e) [
  | inl store ↦
      inl (0, omega arith, ended_unprompted (gift_none keys) (λ s. rw is (fails s)) (λ other. absurd (other store)) due)
  | inr other ↦ inr (other, refusal, ended_unprompted (gift_none keys) (λ s. absurd (other s)) acts due)
]
