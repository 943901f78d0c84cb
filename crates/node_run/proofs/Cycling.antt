-- The cycles of a run, by what each call of it did.
use Rattle.std.proofs.Common.{◌≡◌, ℕ, suc, inl, inr, List, [], ◌∷◌, Option, Ok, Err, refl}
use Rattle.paxos_acceptor.specs.Stores.{StoreKind}
use Rattle.group_protocol.specs.declared.fault.NodeFault.{NodeFault}
use Rattle.group_protocol.specs.Known.{front}
use Rattle.group_node.specs.Deeds.{Run}
use Rattle.group_node.specs.Output.{IsReplay}
use Rattle.group_node.specs.States.{NodeState, input}
use Rattle.node_io.specs.declared.fault.GroupFault.{GroupFault}
use Rattle.node_io.specs.declared.fault.GroupFault.TheVariants as group
use Rattle.node_io.specs.Prompts.{GivesWhatCame, KeyboardState}
use Rattle.group_wire.specs.declared.answers.Received.{Received}
use Rattle.group_wire.specs.declared.answers.Turned.{Turned}
use Rattle.group_wire.specs.declared.rested.Rested.{Rested}
use Rattle.group_wire.specs.Traffic.{Traffic}
use Rattle.group_wire.specs.Doings.{HasActed}
use Rattle.group_wire.specs.Turns.{HasHeard, HasTurned, SameReleased}
use Rattle.node_run.specs.declared.answering.Answered.{Answered}
use Rattle.node_run.specs.Answering.{AnswersWhatCame, HasAnsweredKeyboard}
use Rattle.node_run.specs.Cycles.{EndsBeforeRelease, HearsTimes, HearsOnce, HearsAtRest, IsRestedSince, Rests, IsCycleUpToRelease, run_moment}
use Rattle.node_run.specs.declared.retries.Retried.{Retried}
use Rattle.node_run.specs.Course.{Surroundings, FailsAt, around}
use Rattle.node_run.specs.Retries.{HasRetried}
use Rattle.node_run.proofs.Course.{GoOn}

-- ---- receives

-- some receives, which are deeds without a prompt
abbrev pub HasHeardSome : {S : Type 0} → StoreKind S → NodeState S → NodeState S → Option Traffic → Option Traffic → Type 0
HasHeardSome kind old new t u = (times : ℕ) × HearsTimes kind times old new t u × HasActed old new t u []

module _ {S : Type 0} {kind : StoreKind S} (laws : GoOn kind) where
  -- none
  pub heard_none : (n : NodeState S) (t : Option Traffic) → HasHeardSome kind n n t t
  heard_none n t = (0, (refl, refl), laws.none n t)

  -- one more
  pub heard_more : {old mid new : NodeState S} {t u v : Option Traffic} → HasHeardSome kind old mid t u
      → (received : Received) × HasHeard kind mid new u v (Ok received) → HasActed mid new u v [] → HasHeardSome kind old new t v
  heard_more {mid = mid} {u = u} (times, hears, acts) (received, last) more =
      (suc times, (mid, u, received, hears, last), laws.more _ _ _ _ _ _ _ _ acts more)

-- a last one, which is refused
pub heard_last : {S : Type 0} {kind : StoreKind S} {old mid new : NodeState S} {t u v : Option Traffic} {e : GroupFault}
    → HasHeardSome kind old mid t u
    → HearsOnce {T = Unit {0}} kind mid new u v (Err e) → FailsAt kind mid new u v [] e
    → HearsAtRest {T = Unit {0}} kind old new t v (Err e)
heard_last {mid = mid} {u = u} (times, hears, acts) last fails = (times, mid, u, hears, acts, last, fails)

-- ---- parts of a cycle

module _ {S : Type 0} (kind : StoreKind S) (written : Option (List ℕ)) where
  -- a rest
  rested : {old new : NodeState S} {t u : Option Traffic} {keys left : KeyboardState} {retries : ℕ} → HasHeardSome kind old new t u
      → GivesWhatCame keys [] left
      → Rests kind (run_moment old (around t keys retries) written) (run_moment new (around u left retries) written)
  rested (times, hears, acts) looks =
      record { times = times; hears = hears; acts = acts; looks = looks; retries = refl; unwritten = refl }

  -- one that was refused
  pub rest_ended : {old new : NodeState S} {t u : Option Traffic} {keys left : KeyboardState} {retries : ℕ} {e : GroupFault}
      → SameReleased old new → HearsAtRest {T = Unit {0}} kind old new t u (Err e) → GivesWhatCame keys [] left
      → EndsBeforeRelease kind (run_moment old (around t keys retries) written) (run_moment new (around u left retries) written) e
  rest_ended {left = left} {retries} stays (times, mid, via, hears, acts, last, fails) looks = (
    stays,
    inl (record {
      rested = run_moment mid (around via left retries) written;
      rests = rested (times, hears, acts) looks;
      hears = last;
      fails = fails;
      untyped = refl;
      retries = refl;
      unwritten = refl;
    }),
  )

  module _ {old mid : NodeState S} {t u : Option Traffic} {keys seen : KeyboardState} {retries : ℕ}
      (rest : HasHeardSome kind old mid t u) (looks : GivesWhatCame keys [] seen) where
    -- a campaign once more that was refused
    pub retry_refused : {new : NodeState S} {to : Surroundings} {e : GroupFault}
        → HasRetried kind mid new (around u seen retries) to (Err e) → SameReleased old new
        → EndsBeforeRelease kind (run_moment old (around t keys retries) written) (run_moment new to written) e
    retry_refused did stays = (
      stays,
      inr (inl (record {
        rested = run_moment mid (around u seen retries) written;
        rests = rested rest looks;
        did = did;
        unwritten = refl;
      })),
    )

    module _ {tried : NodeState S} {after : Surroundings} (retried : Retried)
        (again : HasRetried kind mid tried (around u seen retries) after (Ok retried)) where
      -- the answer to the keyboard that was refused
      pub answer_ended : {new : NodeState S} {to : Surroundings} {e : GroupFault}
          → HasAnsweredKeyboard kind tried new after to (Err e) → SameReleased old new
          → EndsBeforeRelease kind (run_moment old (around t keys retries) written) (run_moment new to written) e
      answer_ended did stays = (
        stays,
        inr (inr (inl (record {
          rested = run_moment mid (around u seen retries) written;
          tried = run_moment tried after written;
          retried = retried;
          rests = rested rest looks;
          campaigns = record { did = again; unwritten = refl };
          did = did;
          unwritten = refl;
        }))),
      )

      module _ {typed : NodeState S} {via : Surroundings} (answer : Answered)
          (did : AnswersWhatCame kind answer tried typed after via) where
        -- a turn that was refused
        pub turn_ended : {new : NodeState S} {to : Option Traffic} {e : GroupFault}
            → (how : Rested) × IsRestedSince (front old.protocol.known) how × (f : NodeFault)
            × HasTurned kind how typed new via.traffic to (Err f) × (e ≡ group.Node f)
            → FailsAt kind typed new via.traffic to [] e → SameReleased old new
            → EndsBeforeRelease kind (run_moment old (around t keys retries) written)
            (run_moment new (around to via.keyboard via.retries) written) e
        turn_ended (how, since, f, turned, is) fails stays = (
          stays,
          inr (inr (inr (record {
            rested = run_moment mid (around u seen retries) written;
            tried = run_moment tried after written;
            answered = run_moment typed via written;
            retried = retried;
            answer = answer;
            rests = rested rest looks;
            campaigns = record { did = again; unwritten = refl };
            answers = record { did = did; unwritten = refl };
            fault = f;
            how = how;
            since = since;
            did = turned;
            is = is;
            fails = fails;
            untyped = refl;
            retries = refl;
            unwritten = refl;
          }))),
        )

        -- a turn
        pub turned_once : {new : NodeState S} {to : Option Traffic} {turned : Turned} (how : Rested)
            → IsRestedSince (front old.protocol.known) how → HasTurned kind how typed new via.traffic to (Ok turned)
            → HasActed typed new via.traffic to (Run 1000 ∷ []) → IsReplay (input new.protocol.known) new.progress
            → SameReleased old new
            → IsCycleUpToRelease kind (run_moment old (around t keys retries) written)
            (run_moment new (around to via.keyboard via.retries) written)
        turned_once {turned = turned} how since turn acted replay stays = record {
          rested = run_moment mid (around u seen retries) written;
          tried = run_moment tried after written;
          answered = run_moment typed via written;
          retried = retried;
          answer = answer;
          turned = turned;
          rests = rested rest looks;
          campaigns = record { did = again; unwritten = refl };
          answers = record { did = did; unwritten = refl };
          turns = record {
            rested = how;
            since = since;
            did = turn;
            acts = acted;
            replay = replay;
            untyped = refl;
            retries = refl;
            unwritten = refl;
          };
          stays = stays;
        }
