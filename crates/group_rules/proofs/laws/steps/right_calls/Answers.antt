use Rattle.std.proofs.lemmas.List.Elements.{All-from_recursion}
use Rattle.std.proofs.lemmas.Bool.Decides.{nat_tests}
use Rattle.std.proofs.Common.{◌≡◌, ℕ, ◌+◌, length, List, [], ◌∷◌, ◌++◌, Contains, Some, None, Option, IfSome, append-nil, inl, inr, refl, arith}
use Rattle.std.specs.Ordering.{nat_cmp}
use Rattle.std.specs.List.{AllByRecursion as EachOf}
use Rattle.std.specs.FinMap.{FinMap, empty, insert}
use Rattle.paxos_msg.specs.declared.record.Change.TheVariants as change
use Rattle.paxos_msg.specs.declared.value.Value.{Value}
use Rattle.paxos_msg.specs.Batches.{Sent, Change}
use Rattle.paxos_msg.specs.Keys.{Key}
use Rattle.paxos_msg.specs.Records.{MaySave}
use Rattle.paxos_acceptor.specs.Answers.{after}
use Rattle.paxos_learner.proofs.OnePlace.{get_here}
use Rattle.paxos_learner.specs.Input.{front_values, keys_in_order}
use Rattle.group_rules.specs.Rules.{MakesCall, Up}
use Rattle.group_rules.proofs.ChainedSteps.{submits_one, typed_by}
use Rattle.paxos_msg.specs.declared.message.Body.TheVariants.{Submit}
use Rattle.paxos_msg.specs.declared.value.Value.TheVariants.{Keys}
use Rattle.group_rules.specs.WrongSteps.{ballot_by, both_keys, batch_40, kept_third, nine, key_of_9, seat_up, up_as, up_learned, up_next, up_waiting}
use Rattle.group_protocol.proofs.Elements.{entries_one, none_in}
use Rattle.group_rules.proofs.laws.steps.right_calls.Goals as goal

-- the key is read from what is learned
abbrev IsRead : FinMap nat_cmp Value → Key → Type 0
IsRead learned = Contains (keys_in_order (front_values learned))

-- a call that sends nothing, of a node that learns nothing
calls : (was : Up) (sent : Sent) (typed : List Key) (c : Option Change) (keys gone stay : List Key) (next : ℕ)
    → next ≡ was.next + length keys → IfSome c (MaySave sent kept_third) → was.waiting ++ keys ≡ gone ++ stay
    → EachOf (IsRead was.learned) gone
    → MakesCall (nine (seat_up kept_third [] was) sent typed)
    (nine (seat_up (after kept_third c) [] (record was { waiting = stay; next = next })) (sent ++ []) (typed ++ keys)) 9 c keys
calls was sent typed c keys gone stay next counts saves parts read = record {
  bodies = [];
  was = was;
  now = record was { waiting = stay; next = next };
  from = refl;
  left = refl;
  rest = grind (arith, nat_tests);
  saves = saves;
  sends = tt;
  learns = record {
    keeps = record { stays = λ s v e. e };
    gains = λ s v e. inl e;
    configuration = refl;
    released = refl;
    waiting = record { gone = gone; parts = parts; below = All-from_recursion (IsRead was.learned) gone read };
  };
  submits = record { front = λ v among. absurd (none_in _ among) };
  next = counts;
}

-- of a node that has learned nothing, and at which no key waits
saves : (sent : Sent) (c : Change) → MaySave sent kept_third c
    → MakesCall (nine (seat_up kept_third [] (up_learned empty)) sent [])
    (nine (seat_up (after kept_third (Some c)) [] (up_learned empty)) (sent ++ []) []) 9 (Some c) []
saves sent c may = calls (up_learned empty) sent [] (Some c) [] [] [] 1 refl may refl tt

-- the first of two keys is read at the place 0
abbrev one : FinMap nat_cmp Value
one = insert empty 0 (batch_40 65)

pub returns : goal.returns
returns c = record {
  ticks = λ up. calls up [] [] None [] [] up.waiting up.next (omega arith) tt (append-nil up.waiting) tt;
  key_leaves =
      calls (up_as one [] 0 both_keys) [] [] None [] (key_of_9 40 65 ∷ []) (key_of_9 41 66 ∷ []) 1 refl tt refl
      (rw (entries_one 0 (batch_40 65), get_here empty 0 (batch_40 65)) (0, omega arith, refl), tt);
  types = record {
    key = key_of_9 40 65;
    node = refl;
    start = refl;
    character = refl;
    serial = refl;
    call = calls (up_next 40 (key_of_9 39 64 ∷ [])) [] (key_of_9 39 64 ∷ []) None (key_of_9 40 65 ∷ []) []
        (key_of_9 39 64 ∷ key_of_9 40 65 ∷ []) 41 refl tt refl tt;
  };
  submits = record {
    bodies = Submit (Keys 9 3 40 (65 ∷ [])) ∷ [];
    was = up_waiting both_keys;
    now = up_waiting both_keys;
    from = refl;
    left = refl;
    rest = grind (arith, nat_tests);
    saves = tt;
    sends = (typed_by both_keys 9 3 40 65 [] ((0, omega arith, refl), tt), tt);
    learns = record {
      keeps = record { stays = λ s v e. e };
      gains = λ s v e. inl e;
      configuration = refl;
      released = refl;
      waiting = record { gone = []; parts = refl; below = λ i d below. absurd (omega arith) };
    };
    submits = submits_one both_keys (Keys 9 3 40 (65 ∷ [])) (record { rest = key_of_9 41 66 ∷ []; whole = refl });
    next = refl;
  };
  promises = record {
    is_sent = (1, omega arith, refl);
    saved = Some (change.Promise (ballot_by 5 41));
    cause = inr refl;
    call = inl (saves _ (change.Promise (ballot_by 5 41)) (inl (omega arith)));
  };
  votes = record {
    is_sent = (1, omega arith, refl);
    saved = Some (change.Ballotted 700 (ballot_by 7 41) (batch_40 65));
    cause = inr refl;
    call = inl (saves _ (change.Ballotted 700 (ballot_by 7 41) (batch_40 65)) ((7, (0, omega arith, refl)), inl (omega arith)));
  };
  campaigns = record { round = 41; call = inl (saves [] (change.Promise (ballot_by 9 41)) (inl (omega arith))) };
}
