-- Steps of groups that are written down by hand, one after the other.
use Rattle.std.proofs.lemmas.Bool.Decides.{nat_tests}
use Rattle.std.proofs.lemmas.Bool.{and_parts, eq-eqb, ne_eqb}
use Rattle.std.proofs.lemmas.List.Folds.{list_any_at}
use Rattle.std.proofs.Common.{Contains, ◌==◌, ◌&&◌, false, true, ◌≡◌, ◌≤◌, ◌<◌, ◌∙◌, ◌↔◌, ℕ, zero, suc, Bool, List, [], ◌∷◌, ◌++◌, slice_get, Some, None, Option, IfSome, inl, inr, refl, sym, ap, arith, take, drop, length, append-nil, ◌+◌, ◌⊎◌}
use Rattle.std.specs.List.{AllByRecursion as EachOf, list_any}
use Rattle.std.specs.FinMap.{insert, get}
use Rattle.pcode_file.specs.Parts.{Parts}
use Rattle.pcode_machine.specs.Configuration.{Configuration}
use Rattle.pcode_machine.specs.Transition.{Goes, transition}
use Rattle.pcode_machine.specs.Runs.{after_steps, begin, IsPrefix}
use Rattle.pcode_machine.specs.Step.{Step}
use Rattle.paxos_msg.specs.declared.ballot.Ballot.{Ballot}
use Rattle.paxos_msg.specs.declared.message.Body.TheVariants.{Accept, Accepted, Prepare, Promise, Submit}
use Rattle.paxos_msg.specs.declared.record.Change.TheVariants as change
use Rattle.paxos_msg.specs.declared.value.Value.{Value}
use Rattle.paxos_msg.specs.declared.value.Value.TheVariants.{Keys}
use Rattle.paxos_msg.specs.Ballots.{IsBelow, IsMajority}
use Rattle.paxos_msg.specs.Batches.{Msg, Body, Change, Record, Vote, IsSafe, IsTyped, MaySendAll, Sent}
use Rattle.paxos_msg.specs.Chosen.{is_listed, IsChosen}
use Rattle.paxos_msg.specs.Keys.{Key, keys_of}
use Rattle.paxos_msg.specs.Messages.{IsPromised, IsSaid, IsSent, kept_vote_at}
use Rattle.paxos_msg.specs.Records.{MaySave, with_vote}
use Rattle.paxos_msg.specs.Sending.{IsReport, IsUnproposed}
use Rattle.paxos_acceptor.specs.Answers.{after}
use Rattle.paxos_learner.proofs.OnePlace.{each_put, get_put}
use Rattle.paxos_learner.specs.Backed.{MayLearn}
use Rattle.paxos_learner.specs.Input.{learned_input}
use Rattle.group_node.specs.Deeds as deed
use Rattle.group_rules.proofs.Lists.{in_from_place}
use Rattle.group_rules.specs.Rules.{SubmitsWaiting, CallOrFall, ChangesOnly, LearnsOnly, MakesCall, MakesSteps, MayCause, Seat, Up, WorldState, WorldStep, after_release, fresh, with_seat}
use Rattle.group_rules.specs.WrongSteps.{ballot_by}
use Rattle.group_protocol.proofs.Elements.{each_of, only_in}
use Rattle.group_rules.specs.Leads.{LeadsByRules, LeadsUnder, NodeDeed}
use Rattle.group_rules.specs.Reachable.{by, with_call, with_start}
use Rattle.group_rules.proofs.SmallPrograms.{all_go, goes_by, is_step}
use Rattle.group_rules.proofs.WrittenVotes.{at_listed, chosen_by, own_keys, votes_of}

-- ---- a change of a seat, and a call

module _ (w : WorldState) (i : ℕ) where
  pub seat_by : (seat : Seat) → (with_seat w i seat).seats i ≡ seat
  seat_by seat = rw (eq-eqb i i refl) refl

  pub rest_seat : (seat : Seat) → ChangesOnly w (with_seat w i seat) i [] []
  rest_seat seat = grind (arith, append-nil w.sent, append-nil w.typed)

  module _ (c : Option Change) (bodies : List Body) (now : Up) (keys : List Key) where
    pub rest_by : ChangesOnly w (with_call w i c bodies now keys) i bodies keys
    rest_by = record { program = refl; size = refl; others = λ j other. rw (ne_eqb j i other) refl; sent = refl; typed = refl }

    pub makes_call : (was : Up) → (w.seats i).up ≡ Some was → IfSome c (MaySave w.sent (w.seats i).kept)
        → MaySendAll w.size (w.typed ++ keys) (get now.learned) w.sent i (after (w.seats i).kept c) bodies
        → LearnsOnly w keys was now → SubmitsWaiting now.waiting bodies → now.next ≡ was.next + length keys
        → MakesCall w (with_call w i c bodies now keys) i c keys
    makes_call was from saves sends learns submits next = record {
      bodies = bodies;
      was = was;
      now = now;
      from = from;
      left = seat_by _;
      rest = rest_by;
      saves = saves;
      sends = sends;
      learns = learns;
      submits = submits;
      next = next;
    }

-- a node with one key more that waits, and as it was
abbrev pub typing : Up → List Key → Up
typing was keys = record was { waiting = was.waiting ++ keys; next = was.next + length keys }

abbrev pub still : Up → Up
still was = typing was []

pub learns_nothing : (w : WorldState) (keys : List Key) (was : Up) → LearnsOnly w keys was (typing was keys)
learns_nothing w keys was = record {
  keeps = record { stays = λ s v e. e };
  gains = λ s v e. inl e;
  configuration = refl;
  released = refl;
  waiting = record { gone = []; parts = refl; below = λ i d below. absurd (omega arith) };
}

-- a node that has learned a value for a place where it had learned none
abbrev pub knowing : Up → ℕ → Value → Up
knowing was s v = record (still was) { learned = insert was.learned s v }

pub learns_at : (w : WorldState) (was : Up) (s : ℕ) (v : Value) → get was.learned s ≡ None → IsChosen w.size w.sent s v
    → LearnsOnly w [] was (knowing was s v)
learns_at w was s v none chosen = record {
  keeps = record { stays = λ q u e. grind (arith, nat_tests, get_put was.learned s v q) };
  gains = λ q u e. each_put was.learned s (λ q y. (get was.learned q ≡ Some y) ⊎ MayLearn w.size w.sent q y) v
      (inr (inr chosen)) (λ q y e. inl e) q u e;
  configuration = refl;
  released = refl;
  waiting = record { gone = []; parts = refl; below = λ i d below. absurd (omega arith) };
}

-- ---- what nodes send and learn

abbrev pub key_1 : Key
key_1 = record { node = 1; start = 1; serial = 1; byte = 65 }

-- a report of all votes of a record
pub report : (r : Record) (first upto : ℕ) → EachOf (λ (x : Vote). (first ≤ x.place) × (x.place < upto)) r.votes
    → IsReport r first upto r.votes
report r first upto within =
    record { own = λ vote h. h; within = λ vote h. each_of _ r.votes vote within h; whole = λ s from below. refl }

-- a batch of typed keys
pub typed_by : (typed : List Key) (node start first byte : ℕ) (bytes : List ℕ)
    → EachOf (Contains typed) (keys_of (Keys node start first (byte ∷ bytes))) → IsTyped typed node (Keys node start first (byte ∷ bytes))
typed_by typed node start first byte bytes known = record {
  own = own_keys node start first byte bytes;
  known = λ k among. each_of (Contains typed) (keys_of (Keys node start first (byte ∷ bytes))) k known among;
}

-- ---- what nodes may propose

-- a message that proposes at this place under a ballot of this round
abbrev pub proposes_at : Ballot → ℕ → Msg → Bool
proposes_at b s m = elim m.body [ Accept c q v ↦ c.round == b.round && q == s | _ ↦ false ]

pub unproposed : (sent : Sent) (b : Ballot) (s : ℕ) → list_any (proposes_at b s) sent ≡ false → IsUnproposed sent b s
unproposed sent b s none v (i, (k, below, at)) = grind (arith, nat_tests, list_any_at, eq-eqb)

-- a promise that reports on a place
pub promised : {sent : Sent} {i : ℕ} {b : Ballot} {s first upto : ℕ} {reports : List Vote}
    → IsSent sent i (Promise b first upto reports) → first ≤ s → s < upto → IsPromised sent i b s (kept_vote_at reports s)
promised among low high = grind (arith, nat_tests)

-- a majority has promised, and reports no vote
pub safe_at_first : {size : ℕ} {sent : Sent} {b : Ballot} {s : ℕ} {v : Value} (nodes : List ℕ) → IsMajority size (is_listed nodes)
    → EachOf (λ i. IsPromised sent i b s None) nodes → IsSaid sent (Submit v) → IsSafe size sent b s v
safe_at_first {sent = sent} {b} {s} nodes most each submitted = record {
  members = is_listed nodes;
  reported = λ i. None;
  best = None;
  majority = most;
  promised = at_listed (λ i. IsPromised sent i b s None) nodes each;
  is_best = λ i is. refl;
  value = inr submitted;
}

-- ---- steps, one after the other

-- a step of a deed
pub record Steps (w : WorldState) (d : NodeDeed) (v : WorldState) : Type 0 where
  pub step : WorldStep w d.node d.deed v

-- a group to which deeds lead
pub record Reached (w : WorldState) (deeds : List NodeDeed) : Type 0 where
  pub end : WorldState
  pub leads : LeadsByRules w deeds end

-- a step and the deeds after it, no deeds, and deeds after deeds
pub leads_on : (w mid v : WorldState) (d : NodeDeed) (deeds : List NodeDeed) → WorldStep w d.node d.deed mid → LeadsByRules mid deeds v
    → LeadsByRules w (d ∷ deeds) v
unfolding LeadsUnder
leads_on w mid v d deeds step rest = (mid, step, rest)

pub leads_nowhere : (w : WorldState) → LeadsByRules w [] w
unfolding LeadsUnder
leads_nowhere w = refl

infixr 30 ◌▸◌
abbrev pub ◌▸◌ : {w mid : WorldState} {d : NodeDeed} {deeds : List NodeDeed} → Steps w d mid → Reached mid deeds → Reached w (d ∷ deeds)
◌▸◌ {w} {mid} {d} {deeds} first rest = record { end = rest.end; leads = leads_on w mid rest.end d deeds first.step rest.leads }

abbrev pub stop : {w : WorldState} → Reached w []
stop {w} = record { end = w; leads = leads_nowhere w }

pub leads_then : (w v u : WorldState) (deeds more : List NodeDeed) → LeadsByRules w deeds v → LeadsByRules v more u
    → LeadsByRules w (deeds ++ more) u
unfolding LeadsUnder
leads_then w v u [] more same later = rw same at later
leads_then w v u (d ∷ deeds) more (mid, step, rest) later = (mid, step, leads_then mid v u deeds more rest later)

abbrev pub and_then : {w : WorldState} {deeds more : List NodeDeed} (first : Reached w deeds) → Reached first.end more
    → Reached w (deeds ++ more)
and_then {w} {deeds} {more} first rest =
    record { end = rest.end; leads = leads_then w first.end rest.end deeds more first.leads rest.leads }

-- ---- what is submitted

abbrev pub is_submit : Body → Bool
is_submit body = elim body [ Submit v ↦ true | _ ↦ false ]

-- nothing
pub submits_none : (waiting : List Key) (bodies : List Body) → list_any is_submit bodies ≡ false → SubmitsWaiting waiting bodies
submits_none waiting bodies none = record { front = λ v (k, below, at). grind (arith, nat_tests, list_any_at) }

-- one batch
pub submits_one : (waiting : List Key) (v : Value) → IsPrefix (keys_of v) waiting → SubmitsWaiting waiting (Submit v ∷ [])
submits_one waiting v begins = record { front = λ u among. grind (arith, nat_tests, only_in (Submit v) (Submit u) among, begins) }

-- ---- the calls of a node

module _ {w : WorldState} (i : ℕ) where
  pub starts : (w.seats i).up ≡ None → Steps w (by i (deed.Start (w.seats i).kept)) (with_start w i)
  starts down =
      let rest = rest_by w i (Some change.Start) [] (fresh w.program) [] in
      record { step = (down, refl, inl (record { left = seat_by w i _; rest = rest })) }

  module _ (was : Up) (up : (w.seats i).up ≡ Some was) where
    -- a call at which it learns nothing
    pub says : (c : Option Change) (bodies : List Body) (keys : List Key) → IfSome c (MaySave w.sent (w.seats i).kept)
        → MaySendAll w.size (w.typed ++ keys) (get was.learned) w.sent i (after (w.seats i).kept c) bodies
        → SubmitsWaiting (was.waiting ++ keys) bodies → MakesCall w (with_call w i c bodies (typing was keys) keys) i c keys
    says c bodies keys saves sends submits =
        makes_call w i c bodies (typing was keys) keys was up saves sends (learns_nothing w keys was) submits refl

    -- a key is typed
    pub presses : (key : Key) → key.node ≡ i → key.start ≡ (w.seats i).kept.starts → key.serial ≡ was.next
        → Steps w (by i (deed.Press key.byte)) (with_call w i None [] (typing was (key ∷ [])) (key ∷ []))
    presses key node start serial = record {
      step = record {
        key = key;
        node = node;
        start = start;
        character = refl;
        serial = rw up serial;
        call = says None [] (key ∷ []) tt tt (submits_none _ [] refl);
      };
    }

    -- it campaigns
    pub campaigns : (round from : ℕ) → IfSome (w.seats i).kept.promised (λ p. IsBelow p (ballot_by i round))
        → Steps w (by i deed.Campaign) (with_call w i (Some (change.Promise (ballot_by i round))) (Prepare (ballot_by i round) from ∷ [])
        (still was) [])
    campaigns round from below =
        let b : Ballot = ballot_by i round in
        let none = submits_none _ (Prepare b from ∷ []) refl in
        let call = says (Some (change.Promise b)) (Prepare b from ∷ []) [] below ((refl, inr (refl, omega arith)), tt) none in
        record { step = record { round = round; call = inl call } }

    -- it ticks
    pub ticks : (bodies : List Body) → MaySendAll w.size (w.typed ++ []) (get was.learned) w.sent i (w.seats i).kept bodies
        → SubmitsWaiting (was.waiting ++ []) bodies
        → Steps w (by i deed.Tick) (with_call w i None bodies (still was) [])
    ticks bodies sends submits = record { step = says None bodies [] tt sends submits }

    -- it hears the message with a number, by which it makes this call
    pub hears_by : (k : ℕ) (m : Msg) (c : Option Change) {v : WorldState} → slice_get w.sent k ≡ Some m → MayCause m.body c
        → CallOrFall w v i c → Steps w (by i (deed.Hear m)) v
    hears_by k m c at cause call = record {
      step = record { is_sent = in_from_place w.sent k m at; saved = c; cause = cause; call = call };
    }

    -- the same with a call at which it learns nothing
    pub hears : (k : ℕ) (m : Msg) (c : Option Change) (bodies : List Body) → list_any is_submit bodies ≡ false
        → slice_get w.sent k ≡ Some m → MayCause m.body c
        → IfSome c (MaySave w.sent (w.seats i).kept)
        → MaySendAll w.size (w.typed ++ []) (get was.learned) w.sent i (after (w.seats i).kept c) bodies
        → Steps w (by i (deed.Hear m)) (with_call w i c bodies (still was) [])
    hears k m c bodies quiet at cause saves sends =
        let call = says c bodies [] saves sends (submits_none _ bodies quiet) in hears_by k m c at cause (grind (arith, nat_tests, call))

    -- it votes for what was proposed
    pub votes : (k sender : ℕ) (b : Ballot) (s : ℕ) (v : Value)
        → slice_get w.sent k ≡ Some (record { sender = sender; body = Accept b s v })
        → (w.seats i).kept.promised ≡ Some b
        → kept_vote_at (with_vote (w.seats i).kept.votes (record { place = s; ballot = b; value = v })) s
        ≡ Some (record { place = s; ballot = b; value = v })
        → Steps w (by i (deed.Hear (record { sender = sender; body = Accept b s v })))
        (with_call w i (Some (change.Ballotted s b v)) (Accepted b s v ∷ []) (still was) [])
    votes k sender b s v at promised kept =
        let said : IsSaid w.sent (Accept b s v) = (sender, in_from_place w.sent k _ at) in
        hears k _ (Some (change.Ballotted s b v)) (Accepted b s v ∷ []) refl at (inr refl) (said, rw promised (inr (refl, omega arith)))
        ((said, kept, refl), tt)

    -- it proposes what is safe, when it hears a message that causes no save
    pub proposes : (k : ℕ) (m : Msg) (b : Ballot) (s : ℕ) (v : Value) → slice_get w.sent k ≡ Some m → MayCause m.body None → b.node ≡ i
        → list_any (proposes_at b s) w.sent ≡ false → IsSafe w.size w.sent b s v
        → Steps w (by i (deed.Hear m)) (with_call w i None (Accept b s v ∷ []) (still was) [])
    proposes k m b s v at cause own none safe =
        hears k m None (Accept b s v ∷ []) refl at cause tt ((own, inr (unproposed w.sent b s none, safe)), tt)

    -- it learns what a majority has accepted, one after the other, from message n on
    pub learns : (k sender : ℕ) (b : Ballot) (s : ℕ) (v : Value)
        → slice_get w.sent k ≡ Some (record { sender = sender; body = Accepted b s v }) → get was.learned s ≡ None
        → (nodes : List ℕ) (n : ℕ) → IsMajority w.size (is_listed nodes)
        → take (length nodes) (drop n w.sent) ≡ votes_of nodes b s v
        → Steps w (by i (deed.Hear (record { sender = sender; body = Accepted b s v }))) (with_call w i None [] (knowing was s v) [])
    learns k sender b s v at none nodes n most voted =
        let chosen : IsChosen w.size w.sent s v = (b, chosen_by w.sent nodes n most voted) in
        hears_by k _ None at refl (makes_call w i None [] (knowing was s v) [] was up tt tt (learns_at w was s v none chosen)
        (submits_none _ [] refl) (omega arith))

-- ---- runs, releases and crashes

pub record StepLaw : Type 0 where
  pub step : (p : Parts) (x : List ℕ) (c d : Configuration) → Step p x c d ↔ (transition p x c ≡ Goes d)

makes_steps : StepLaw → (p : Parts) (x : List ℕ) (n : ℕ) → all_go p x n ≡ true → MakesSteps p x n (begin p) (after_steps p x n)
unfolding all_go MakesSteps after_steps
makes_steps law p x zero h = refl
makes_steps law p x (suc n) h =
    let parts = and_parts (all_go p x n) (is_step (transition p x (after_steps p x n))) h in
    (after_steps p x n, makes_steps law p x n parts.0, (law.step p x _ _).1 (goes_by p x _ _ parts.1 refl))

module _ {w : WorldState} (i : ℕ) where
  pub crashes : Steps w (by i deed.Crash) (with_seat w i (record (w.seats i) { up = None }))
  crashes = record { step = record { left = seat_by w i _; rest = rest_seat w i _ } }

  module _ (was : Up) (up : (w.seats i).up ≡ Some was) where
    -- a node that runs from its start
    pub runs : StepLaw → (p : Parts) (n : ℕ) → w.program ≡ p → was.configuration ≡ begin p
        → all_go p (learned_input was.learned) n ≡ true
        → Steps w (by i (deed.Run n))
        (with_seat w i (record (w.seats i) { up = Some (record was { configuration = after_steps p (learned_input was.learned) n }) }))
    runs law p n is begins go = record {
      step = record {
        was = was;
        configuration = after_steps p (learned_input was.learned) n;
        made = n;
        from = up;
        few = omega arith;
        moves = rw (is, begins) (makes_steps law p (learned_input was.learned) n go);
        left = seat_by w i _;
        rest = rest_seat w i _;
      };
    }

    pub released : (byte : ℕ) → slice_get was.configuration.output was.released ≡ Some byte
        → WorldStep w i deed.Release (with_seat w i (after_release (w.seats i) was (Some byte)))
    released byte next = record {
      was = was;
      from = up;
      left = seat_by w i _ ∙ ap (after_release (w.seats i) was) (sym next);
      rest = rest_seat w i _;
    }

    pub releases : (byte : ℕ) → slice_get was.configuration.output was.released ≡ Some byte
        → Steps w (by i deed.Release) (with_seat w i (after_release (w.seats i) was (Some byte)))
    releases byte next = record { step = released byte next }
