-- The calls of a node are deeds that its group allows.
use Rattle.std.proofs.Common.{All, ◌≡◌, ◌≢◌, ◌∙◌, ℕ, zero, suc, ◌+◌, length, List, [], ◌∷◌, ◌++◌, Contains, take, Option, None, IfSome, inl, refl, sym, ap, append-nil, arith}
use Rattle.std.specs.Ordering.{nat_cmp}
use Rattle.std.specs.FinMap.{FinMap}
use Rattle.std.proofs.lemmas.Bool.Decides.{nat_tests}
use Rattle.pcode_machine.specs.Configuration.{Configuration}
use Rattle.paxos_msg.specs.declared.value.Value.{Value}
use Rattle.pcode_machine.specs.Runs.{IsPrefix}
use Rattle.paxos_msg.specs.declared.message.Body.TheVariants.{Submit}
use Rattle.paxos_msg.specs.Batches.{Body, Change, Record, Sent}
use Rattle.paxos_msg.specs.Keys.{Key, keys_of}
use Rattle.paxos_msg.specs.Records.{MaySave}
use Rattle.paxos_acceptor.specs.Answers.{after}
use Rattle.paxos_acceptor.specs.Stores.{IsOneOf}
use Rattle.paxos_msg.specs.declared.ballot.Ballot.{Ballot}
use Rattle.paxos_learner.specs.Learner.{heard_accepted, heard_tell, Learner}
use Rattle.group_protocol.specs.Known.{Known, Response, new_key, next_serial, on_typed}
use Rattle.group_protocol.specs.WaitingKeys.{waiting_keys, without_read}
use Rattle.paxos_learner.specs.Input.{front_values, keys_in_order}
use Rattle.group_protocol.specs.Packets.{bodies_of}
use Rattle.group_protocol.specs.Protocol.{on_message, response_to}
use Rattle.group_protocol.specs.ProposerResponses.{on_campaign, next_ballot}
use Rattle.group_protocol.specs.Ranges.{IsInRange}
use Rattle.group_protocol.specs.Steps.{IsLawfulCall, IsSavedBy}
use Rattle.group_protocol.specs.Tick.{on_tick}
use Rattle.group_rules.specs.Rules.{after_call, AreParted, CallOrFall, MakesCall, MayCause, Seat, Sits, SubmitsWaiting, with_seat, WorldState}
use Rattle.group_rules.proofs.Seats.{seat_alone, seat_here}
use Rattle.group_rules.proofs.laws.deeds.calls_are_deeds.Goals as goal

-- no value is submitted
none_submitted : (waiting : List Key) (bodies : List Body) → ((v : Value) → ¬ Contains bodies (Submit v)) → SubmitsWaiting waiting bodies
none_submitted waiting bodies none = record { front = λ v among. absurd (none v among) }

-- the first of some keys
first_keys : (k : ℕ) (keys : List Key) → IsPrefix (take k keys) keys
first_keys zero keys = record { rest = keys; whole = refl }
first_keys (suc k) [] = record { rest = []; whole = refl }
first_keys (suc k) (x ∷ keys) = let more = first_keys k keys in record { rest = more.rest; whole = ap (λ l. x ∷ l) more.whole }

-- the change that a message causes
may_cause : (n : Known) (j : ℕ) (body : Body) → MayCause body (on_message n j body).saves
may_cause n j body = grind (arith, nat_tests)

-- no message changes whose node it is
same_me : (n : Known) (j : ℕ) (body : Body) → (on_message n j body).node.me ≡ n.me
same_me n j body = grind (arith, nat_tests)

-- no message changes of how many nodes its learner knows
same_size : ((l : Learner) (i s : ℕ) (b : Ballot) (v : Value) → (heard_accepted l i b s v).learner.size ≡ l.size)
    → ((l : Learner) (s : ℕ) (v : Value) → (heard_tell l s v).learner.size ≡ l.size)
    → (n : Known) (j : ℕ) (body : Body) → (on_message n j body).node.learner.size ≡ n.learner.size
same_size accepted told n j body = grind (arith, nat_tests, accepted, told)

-- keys that are read leave after a message, from the front
response_waits : (n : Known) (j : ℕ) (body : Body) → waiting_keys (response_to n j body).node ≡ waiting_keys n
response_waits n j body = grind (arith, nat_tests)

message_parts : ((m : Known) → (gone : List Key) × (waiting_keys m ≡ gone ++ waiting_keys (without_read m))
    × All (λ k. Contains (keys_in_order (front_values m.learner.learned)) k) gone)
    → (n : Known) (j : ℕ) (body : Body)
    → AreParted (on_message n j body).node.learner.learned (waiting_keys n) (waiting_keys (on_message n j body).node)
message_parts leave n j body =
    let (gone, parts, below) = leave (response_to n j body).node in
    record { gone = gone; parts = sym (response_waits n j body) ∙ parts; below = below }

-- keys that all stay
all_stay : {learned : FinMap nat_cmp Value} {keys stay : List Key} → stay ≡ keys → AreParted learned keys stay
all_stay {learned} e = grind (arith, nat_tests)

-- a save of a lawful call makes the record what it says, and may be made
saved : (sent : Sent) (old new : Record) (saves : Option Change) → IsSavedBy sent old saves new
    → (new ≡ after old saves) × IfSome saves (MaySave sent old)
saved sent old new saves e = grind (arith, nat_tests)

module _ {w : WorldState} {n : Known} {k : ℕ} {c : Configuration} {console : List ℕ} (sits : Sits w n c k console) where
  -- a lawful call
  call_made : (done : Response) (keys : List Key) → IsInRange n → IsLawfulCall w.sent (w.typed ++ keys) n done
      → done.node.me ≡ n.me → done.node.learner.size ≡ n.learner.size
      → AreParted done.node.learner.learned (waiting_keys n ++ keys) (waiting_keys done.node)
      → SubmitsWaiting (waiting_keys done.node) (bodies_of done.sends) → next_serial done.node ≡ next_serial n + length keys
      → MakesCall w (after_call w n.me.node done keys c k console) n.me.node done.saves keys
  call_made done keys ranges lawful me same parted submits next =
      let saves = saved w.sent n.kept done.node.kept done.saves lawful.saves in
      let size : done.node.learner.size ≡ w.size = same ∙ ranges.learner.size ∙ sym sits.size in
      record {
        bodies = bodies_of done.sends;
        was = record { learned = n.learner.learned; configuration = c; released = k; waiting = waiting_keys n; next = next_serial n };
        now = record {
          learned = done.node.learner.learned;
          configuration = c;
          released = k;
          waiting = waiting_keys done.node;
          next = next_serial done.node;
        };
        from = ap (λ (s : Seat). s.up) sits.seat;
        left = grind arith;
        rest = grind arith;
        saves = rw sits.seat saves.1;
        sends = rw (sits.seat, ← saves.0, sits.size, ← me) lawful.sends;
        learns = grind arith;
        submits = submits;
        next = next;
      }

  -- a lawful call at which nothing is typed
  call_alone : (done : Response) → IsInRange n → IsLawfulCall w.sent w.typed n done
      → done.node.me ≡ n.me → done.node.learner.size ≡ n.learner.size
      → AreParted done.node.learner.learned (waiting_keys n) (waiting_keys done.node)
      → SubmitsWaiting (waiting_keys done.node) (bodies_of done.sends) → next_serial done.node ≡ next_serial n
      → MakesCall w (after_call w n.me.node done [] c k console) n.me.node done.saves []
  call_alone done ranges lawful me same parted submits next =
      call_made done [] ranges (rw (append-nil w.typed) lawful) me same (rw (append-nil (waiting_keys n)) parted) submits
      (omega (arith, next))

  -- a call whose save failed
  call_fell : (left new : Record) (saves : Option Change) → saves ≢ None → IsSavedBy w.sent n.kept saves new
      → IsOneOf left n.kept new
      → CallOrFall w (with_seat w n.me.node (record { kept = left; console = console; up = None })) n.me.node saves
  call_fell left new saves some by one =
      let seat : Seat = record { kept = left; console = console; up = None } in
      grind (arith, nat_tests, sits.seat, seat_alone w n.me.node seat, seat_here w n.me.node seat)

pub returns-clause-press : goal.returns-clause-press
returns-clause-press c w n byte k configuration console seated = record {
  key = record { node = n.me.node; start = n.kept.starts; serial = next_serial n; byte = byte };
  node = refl;
  start = ap (λ (s : Seat). s.kept.starts) (sym seated.sits.seat);
  character = refl;
  serial = rw seated.sits.seat refl;
  call =
      call_made seated.sits (on_typed n byte) (keys_of (new_key n byte)) seated.ranges
      (c.calls_are_lawful.ensures.typed w.sent w.typed n byte seated.ranges seated.backs) refl refl
      (all_stay (c.waiting_keys_are_a_row.ensures.typed n byte)) (none_submitted _ _ (c.only_ticks_submit.ensures.typed n byte))
      (c.serials_are_counted.ensures.typed n byte);
}

pub returns-clause-hear : goal.returns-clause-hear
returns-clause-hear c w n j k body configuration console seated fits sent =
    let made =
    call_alone seated.sits (on_message n j body) seated.ranges
    (c.calls_are_lawful.ensures.message w.sent w.typed n j body seated.ranges seated.backs (record { is_sent = sent; fits = fits }))
    (same_me n j body) (same_size c.learned_stays.ensures.size_accepted c.learned_stays.ensures.size_told n j body)
    (message_parts c.waiting_keys_are_a_row.ensures.gone n j body)
    (none_submitted _ _ (c.only_ticks_submit.ensures.message n j body)) (c.serials_are_counted.ensures.message n j body) in
    record {
      is_sent = sent;
      saved = (on_message n j body).saves;
      cause = may_cause n j body;
      call = grind arith;
    }

pub returns-clause-campaign : goal.returns-clause-campaign
returns-clause-campaign c w n k configuration console seated = record {
  round = (next_ballot n).round;
  call =
      inl (call_alone seated.sits (on_campaign n) seated.ranges
      (c.calls_are_lawful.ensures.campaign w.sent w.typed n seated.ranges seated.backs) refl refl (all_stay refl)
      (none_submitted _ _ (c.only_ticks_submit.ensures.campaign n))
      (c.serials_are_counted.ensures.campaign n));
}

pub returns-clause-tick : goal.returns-clause-tick
returns-clause-tick c w n k configuration console seated =
    let none : (on_tick n).saves ≡ None = grind (arith, nat_tests) in
    let stay = c.only_ticks_submit.ensures.waits n in
    let me : (on_tick n).node.me ≡ n.me = grind (arith, nat_tests) in
    let size : (on_tick n).node.learner.size ≡ n.learner.size = grind (arith, nat_tests) in
    let submits : SubmitsWaiting (waiting_keys (on_tick n).node) (bodies_of (on_tick n).sends) = record {
      front = λ v among. rw (stay, c.only_ticks_submit.ensures.tick n v among) (first_keys 32 (waiting_keys n));
    } in
    rw (none) at (call_alone seated.sits (on_tick n) seated.ranges
    (c.calls_are_lawful.ensures.tick w.sent w.typed n seated.ranges seated.backs) me size (all_stay stay) submits
    (c.serials_are_counted.ensures.tick n))

pub returns-clause-falls_hearing : goal.returns-clause-falls_hearing
returns-clause-falls_hearing c w n j k body left configuration console seated fits sent some one = record {
  is_sent = sent;
  saved = (on_message n j body).saves;
  cause = may_cause n j body;
  call =
      call_fell seated.sits left (on_message n j body).node.kept (on_message n j body).saves some
      (c.calls_are_lawful.ensures.message w.sent w.typed n j body seated.ranges seated.backs
      (record { is_sent = sent; fits = fits })).saves one;
}

pub returns-clause-falls_campaign : goal.returns-clause-falls_campaign
returns-clause-falls_campaign c w n k left configuration console seated one = record {
  round = (next_ballot n).round;
  call =
      call_fell seated.sits left (on_campaign n).node.kept (on_campaign n).saves (λ e. absurd cc)
      (c.calls_are_lawful.ensures.campaign w.sent w.typed n seated.ranges seated.backs).saves one;
}
