-- A node that leads, with a key that waits and was offered, a kept vote and a tally.
use Rattle.std.proofs.Common.{◌≡◌, [], ◌∷◌, ◌++◌, None, Some, refl, arith, rules}
use Rattle.std.specs.FinMap.{empty, get-empty, insert}
use Rattle.std.specs.Ordering.{nat_cmp}
use Rattle.std.proofs.lemmas.Bool.Decides.{nat_tests}
use Rattle.paxos_msg.specs.declared.ballot.Ballot.{Ballot}
use Rattle.paxos_msg.specs.declared.value.Value.{Value}
use Rattle.paxos_msg.specs.declared.value.Value.TheVariants.{Keys, Noop}
use Rattle.paxos_msg.specs.declared.message.Body.TheVariants.{Accept, Accepted, Prepare, Promise}
use Rattle.paxos_msg.specs.Batches.{Sent, Vote}
use Rattle.paxos_msg.specs.Bodies.{IsBody}
use Rattle.paxos_msg.specs.Keys.{Key}
use Rattle.paxos_proposer.specs.Backed.{IsProposerBacked}
use Rattle.paxos_proposer.specs.Proposer.{proposer_after_part, new_proposer, Proposer, proposing}
use Rattle.paxos_proposer.specs.States.{IsProposerInRange}
use Rattle.paxos_learner.specs.Learner.{Learner, new_learner, heard_accepted}
use Rattle.paxos_learner.specs.Tallies.{Tally, begun_tally as heard_of}
use Rattle.paxos_learner.specs.declared.heard.Heard.TheVariants.{Counted}
use Rattle.paxos_learner.proofs.OnePlace.{get_here}
use Rattle.group_protocol.proofs.Elements.{entries_none}
use Rattle.group_protocol.specs.Backs.{Backs}
use Rattle.group_protocol.specs.Known.{Known}
use Rattle.group_protocol.specs.Ranges.{IsInRange}
use Rattle.group_protocol.proofs.laws.witness.possible.Goals as goal

-- ---- the group, and what was sent in it

-- a ballot of node 2
abbrev low : Ballot
low = record { round = 1; node = 2 }

-- a greater one of node 1
abbrev b : Ballot
b = record { round = 2; node = 1 }

-- a key that was typed at node 1
abbrev typed_key : Key
typed_key = record { node = 1; start = 1; serial = 1; byte = 65 }

-- it as a batch
abbrev batch : Value
batch = Keys 1 1 1 (65 ∷ [])

-- a vote of node 3 at place 1
abbrev vote : Vote
vote = record { place = 1; ballot = low; value = Noop }

-- node 1 asks for promises, and all give theirs; node 3 reports its vote
abbrev asked : Sent
asked = record { sender = 1; body = Prepare b 0 } ∷ record { sender = 1; body = Promise b 0 65536 [] }
    ∷ record { sender = 2; body = Promise b 0 65536 [] } ∷ record { sender = 3; body = Promise b 0 65536 (vote ∷ []) } ∷ []

-- node 1 proposes the key at place 0
abbrev proposed : Sent
proposed = asked ++ record { sender = 1; body = Accept b 0 batch } ∷ []

-- and node 2 accepts it
abbrev sent : Sent
sent = proposed ++ record { sender = 2; body = Accepted b 0 batch } ∷ []

-- ---- node 1

-- its proposer: as it begins, after the promises of nodes 1 and 2, after its proposal, and after
-- the promise of node 3
abbrev p_1 : Proposer
p_1 = proposer_after_part (new_proposer b 0 3) 1 0 65536 []

abbrev p_2 : Proposer
p_2 = proposer_after_part p_1 2 0 65536 []

abbrev p_3 : Proposer
p_3 = proposing p_2 (Some batch)

abbrev p : Proposer
p = proposer_after_part p_3 3 0 65536 (vote ∷ [])

-- what it has heard of place 0
abbrev tally : Tally
tally = heard_of 2 b batch

-- its learner
abbrev l : Learner
l = record { size = 3; learned = empty; tallies = insert empty 0 tally }

-- what it knows: it leads, has offered the key that waits, keeps the vote at place 1, and has heard
-- one node accept the key
abbrev n : Known
n = record {
  me = record { node = 1; group = record { size = 3; session = 0 } };
  kept = record { starts = 1; promised = Some b; votes = [] };
  learner = l;
  proposer = Some p;
  remembered = None;
  offered = typed_key ∷ [];
  waiting = 65 ∷ [];
  first = 1;
}

-- ---- what its learner hears

heard_one : heard_accepted (new_learner 3) 2 b 0 batch ≡ record { learner = l; answer = Counted }
heard_one = rw (get-empty {X = Value} nat_cmp 0, entries_none {X = Value}, get-empty {X = Tally} nat_cmp 0) refl

-- the promise of node 3 has a spelling
vote_body : IsBody 3 3 (Promise b 0 65536 (vote ∷ []))
vote_body = grind (arith, nat_tests)

module _ (c : goal.After-window_holds) where
  -- ---- the proposer

  p_1_backed : IsProposerBacked asked 1 p_1
  p_1_backed =
      c.parts_keep_it_backed.ensures asked 1 1 0 65536 (new_proposer b 0 3) []
      (c.begins_backed.ensures asked b 0 3 (λ s v said. grind (arith, nat_tests)))
      (omega arith) (grind (arith, nat_tests)) (1, omega arith, refl)

  p_3_backed : IsProposerBacked proposed 1 p_3
  p_3_backed =
      c.proposals_may_be_sent.ensures.backed asked 1 p_2 batch
      (c.parts_keep_it_backed.ensures asked 1 2 0 65536 p_1 [] p_1_backed (omega arith) (grind (arith, nat_tests)) (2, omega arith, refl))

  p_backed : IsProposerBacked sent 1 p
  p_backed =
      c.stays_backed.ensures proposed sent 1 p (grind (arith, nat_tests))
      (c.parts_keep_it_backed.ensures proposed 1 3 0 65536 p_3 (vote ∷ []) p_3_backed (omega arith) vote_body (3, omega arith, refl))

  p_3_fits : IsProposerInRange p_3
  p_3_fits = grind (arith, nat_tests, c.what_goes_out_fits.ensures)

  -- ---- the node

  n_fits : IsInRange n
  n_fits = record {
    me = omega arith;
    kept = grind (arith, nat_tests);
    counted = omega arith;
    proposer =
        record { size = refl; own = refl; ranges = c.what_goes_out_fits.ensures.parts 3 0 65536 p_3 (vote ∷ []) p_3_fits vote_body };
    learner = record {
      size = refl;
      ranges =
          rw heard_one at
          (c.values_fit.ensures.accepted (new_learner 3) 2 0 b batch (grind (arith, nat_tests)) (c.values_fit.ensures.begins 3));
      window = c.window_holds.ensures.begins 3;
    };
    waiting = grind (arith, nat_tests);
  }

  n_backed : Backs sent (typed_key ∷ []) n
  n_backed = record {
    kept = record {
      votes = record { votes = λ s. tt; in_order = tt };
      asked = λ c from mine said. grind (arith, nat_tests);
      own = λ c s v mine said. grind (arith, nat_tests);
    };
    proposer = record { backed = p_backed; promised = refl };
    learner =
        rw heard_one at
        (c.stays_backed-2.ensures.accepted sent (new_learner 3) 2 0 b batch (c.stays_backed-2.ensures.begins sent 3)
        (5, omega arith, refl));
    waiting = λ k has. has;
  }

-- it leads, with all that a node may know
pub returns : goal.returns
returns c = search (rules, n_fits c, n_backed c, get_here {X = Tally} empty 0 tally)
