-- The first stage of a run: all nodes of the majority promise the leading node's ballot, and stay so.
use Rattle.std.proofs.Common.{◌≡◌, ◌≢◌, ◌∙◌, ◌⊎◌, inl, inr, ℕ, zero, suc, ◌<◌, ◌≤◌, ◌==◌, Bool, IsTrue, List, [], ◌∷◌, ◌++◌, All, length, slice_get, Some, None, refl, sym, ap, subst, arith, nat_lt, true, false}
use Rattle.std.proofs.lemmas.Bool.{cases_eq, cond_both}
use Rattle.std.proofs.lemmas.Bool.Decides.{nat_tests}
use Rattle.std.proofs.lemmas.List.Elements.{All-head, All-tail, filter_map-append}
use Rattle.std.proofs.lemmas.List.{length-replicate}
use Rattle.std.specs.FinMap.{FinMap}
use Rattle.std.specs.Ordering.{nat_cmp}
use Rattle.paxos_msg.specs.declared.ballot.Ballot.{Ballot}
use Rattle.paxos_msg.specs.declared.message.Group.{Group}
use Rattle.paxos_msg.specs.declared.message.Body.TheVariants.{Prepare}
use Rattle.paxos_msg.specs.declared.value.Value.{Value}
use Rattle.paxos_msg.specs.declared.limits.TheConstants.{LAST_ROUND, PLACES}
use Rattle.paxos_msg.specs.Ballots.{IsMajority}
use Rattle.paxos_msg.specs.Batches.{Msg, Record}
use Rattle.paxos_msg.specs.Bodies.{IsBody}
use Rattle.paxos_msg.specs.Fits.{IsNode}
use Rattle.paxos_learner.specs.Learner.{AreInWindow, front_of}
use Rattle.paxos_acceptor.specs.declared.me.Me.{Me}
use Rattle.group_protocol.specs.Known.{Known, front}
use Rattle.group_protocol.specs.Packets.{Datagram, datagram_of, datagrams_of, to_all}
use Rattle.group_protocol.specs.Protocol.{on_message}
use Rattle.group_protocol.specs.ProposerResponses.{last_round, next_ballot, on_campaign}
use Rattle.group_protocol.specs.Ranges.{AllFit}
use Rattle.group_node.specs.Deeds as deed
use Rattle.group_node.specs.NodeCalls.{Makes, NodeCall, Running, call_of_campaign}
use Rattle.group_node.specs.Output.{Progress}
use Rattle.group_world.specs.declared.event.Act.TheVariants as act
use Rattle.group_world.specs.declared.event.Done.TheVariants.{Applied}
use Rattle.group_world.specs.Deeds.{EndsCall, Left}
use Rattle.group_world.specs.Event.{DoesAt, Goes, IsDeedOf, kept_event, node_of, plan_of}
use Rattle.group_world.specs.Group.{IsUp, me_of, message_of, messages_in, World, world_state}
use Rattle.group_world.specs.Member.{Member, member_after_call}
use Rattle.group_world.specs.Sound.{IsSpelling}
use Rattle.group_progress.specs.Fair.{Endless, IsFair, IsLed, IsSentAt, Later}
use Rattle.group_world.proofs.WorldAsGroup.{changed_elsewhere, changed_here, is_node, packet_read, running, sent_called}
use Rattle.group_progress.specs.Below.{EventLaws, TestLaws}
use Rattle.group_progress.proofs.Acceptors.{promises}
use Rattle.group_progress.proofs.Calm.{IsSteady, Low, Promised, UpWith, low_kept, made_leaves, promise_steady, promised_kept}
use Rattle.group_progress.proofs.Going.{Good, fits_me}
use Rattle.group_progress.proofs.Leading.{Covers}
use Rattle.group_progress.proofs.Runs.{AtWith, goes_on, good_at, group_at}
use Rattle.group_progress.proofs.Stages.{Stays, all_later, later_then, now}

-- ---- lists

at_end : {X : Type 0} (xs : List X) (x : X) → slice_get (xs ++ x ∷ []) (length xs) ≡ Some x
at_end [] x = refl
at_end (y ∷ xs) x = at_end xs x

pub kept_place : {X : Type 0} (xs ys : List X) (k : ℕ) (x : X) → slice_get xs k ≡ Some x → slice_get (xs ++ ys) k ≡ Some x
kept_place [] ys k x e = cc
kept_place (y ∷ xs) ys zero x e = e
kept_place (y ∷ xs) ys (suc k) x e = kept_place xs ys k x e

-- each datagram spells a message
pub as_many : (group : Group) (sent : List Datagram) → All (IsSpelling group) sent → length (messages_in group sent) ≡ length sent
as_many group [] all = refl
as_many group (x ∷ xs) all =
    let first = All-head (IsSpelling group) x xs all in
    let rest = as_many group xs (All-tail (IsSpelling group) x xs all) in
    rw first.read (ap suc rest)

-- ---- a campaign that happens

lt_from : (a b : ℕ) → nat_lt a b ≡ true → a < b
lt_from a b e = grind (arith, nat_tests)

lt_unless : (a b : ℕ) → (a == b) ≡ false → a ≤ b → a < b
lt_unless a b e low = grind (arith, nat_tests)

pub record Made (me : Me) (m : Member) (progress : Progress) (n : Known) (left : Left) : Type 0 where
  pub round : last_round n < LAST_ROUND
  pub place : front n < PLACES
  pub ends : EndsCall me m progress None (Makes (on_campaign n) []) left

pub campaign_made : (me : Me) (m : Member) (progress : Progress) (n : Known) (left : Left) → front n ≤ PLACES → Applied ≡ left.answer
    → EndsCall me m progress None (call_of_campaign n) left → Made me m progress n left
campaign_made me m progress n left low answers =
    cond_both (nat_lt (last_round n) LAST_ROUND) _ _ Ends
    (λ e. cond_both (front n == PLACES) _ _ Ends (λ f ends. absurd (cc (answers ∙ ends.answer)))
    (λ f ends. record { round = lt_from (last_round n) LAST_ROUND e; place = lt_unless (front n) PLACES f low; ends = ends }))
    (λ e ends. absurd (cc (answers ∙ ends.answer))) where
      Ends : NodeCall → Type 0
      Ends call = EndsCall me m progress None call left → Made me m progress n left

module _ (laws : EventLaws) (tests : TestLaws) (few : (learned : FinMap nat_cmp Value) → AreInWindow learned → front_of learned ≤ PLACES)
    {members : ℕ → Bool} {leader : ℕ} {b : Ballot} {w : World} (run : Endless w) (good : Good w) (most : IsMajority w.group.size members)
    (led : IsLed members leader b run) where
  abbrev pub Agreed : Known → Type 0
  Agreed n = Promised tests b n.kept.promised

  abbrev pub Under : Known → Type 0
  Under n = Low tests b n.kept.promised

  pub agreed_steady : IsSteady b Agreed
  agreed_steady = promise_steady (Promised tests b) (promised_kept tests b)

  pub under_steady : IsSteady b Under
  under_steady = promise_steady (Low tests b) (low_kept tests b)

  pub does_first : DoesAt w leader None deed.Campaign Applied (run.world 1)
  does_first =
      let first : Goes w (kept_event (act.Campaign leader)) Applied (run.world 1) =
      subst (λ v. Goes v (kept_event (act.Campaign leader)) Applied (run.world 1)) run.begins
      (subst (λ e. Goes (run.world 0) e Applied (run.world 1)) led.campaigns
      (subst (λ d. Goes (run.world 0) (run.event 0) d (run.world 1)) led.happens (run.goes 0))) in
      subst (λ d. DoesAt w leader None d Applied (run.world 1)) first.is_deed first.does

  -- what the campaign leaves
  pub record Begun : Type 0 where
    pub from : ℕ
    pub leads : AtWith Agreed (run.world 1) leader
    pub covers : (i : ℕ) → AtWith (Covers b i 0) (run.world 1) leader
    pub datagram : Datagram
    pub sent : (run.world 1).sent ≡ w.sent ++ datagram ∷ []
    pub for_all : datagram.to ≡ (to_all (Prepare b from)).to
    pub spells : message_of w.group datagram ≡ Some (record { sender = leader; body = Prepare b from })
    pub said : (world_state (run.world 1)).sent ≡ (world_state w).sent ++ record { sender = leader; body = Prepare b from } ∷ []

  pub begun : Begun
  begun =
      let first = does_first in
      let (q, up, ends) = first.does in
      let is_up : IsUp w leader first.node q = record { there = first.there; up = up } in
      let sound = running good.holds.sound is_up in
      let made = campaign_made (me_of w leader) first.node q.progress q.known first.left
      (few q.known.learner.learned sound.ranges.learner.window) first.answers ends in
      let is_b : next_ballot q.known ≡ b = led.ballot first.node q is_up in
      let fits : AllFit (me_of w leader) (on_campaign q.known).sends =
      fits_me good.holds.sound is_up (laws.fits_campaign q.known sound.ranges (omega (arith, made.round)) made.place) in
      let node = is_node leader good.holds.sound first.there in
      let out : first.left.sent ≡ datagrams_of (me_of w leader) (on_campaign q.known).sends = made.ends.sends in
      let here : first.left.member ≡ member_after_call (on_campaign q.known) first.node.console q.progress = made.ends.left in
      let packet = to_all (Prepare (next_ballot q.known) (front q.known)) in
      let spelled = packet_read laws.read (me_of w leader) good.holds.sound.session node packet
      (All-head (λ x. IsBody w.group.size leader x.body) packet [] fits) in
      record {
        from = front q.known;
        leads = record {
          node = first.left.member;
          there = rw first.leads (changed_here w.members leader first.node first.left.member first.there);
          is_up = subst (UpWith Agreed) (sym here) (record { running = _; up = refl; holds = ap Some is_b });
        };
        covers = λ i. record {
          node = first.left.member;
          there = rw first.leads (changed_here w.members leader first.node first.left.member first.there);
          is_up = subst (UpWith (Covers b i 0)) (sym here) (record {
            running = _;
            up = refl;
            holds = record {
              proposer = _;
              now = refl;
              ballot = is_b;
              promised = ap Some is_b;
              covers = omega arith;
              node = omega
                  (arith, length-replicate 10 (front q.known));
            };
          });
        };
        datagram = datagram_of (me_of w leader) packet;
        sent = ap (λ (v : World). v.sent) first.leads ∙ ap (λ more. w.sent ++ more) out;
        for_all = refl;
        spells = spelled.0.read ∙ ap Some spelled.1 ∙ ap (λ c. Some (record { sender = leader; body = Prepare c (front q.known) })) is_b;
        said = ap (λ (v : World). (world_state v).sent) first.leads ∙ ap (λ more. messages_in w.group (w.sent ++ more)) out
            ∙ sent_called laws.read w leader (on_campaign q.known).sends good.holds.sound.session node fits
            ∙ ap (λ c. (world_state w).sent ++ record { sender = leader; body = Prepare c (front q.known) } ∷ []) is_b;
      }

  -- ---- nothing above is ever promised

  low_first : (i : ℕ) → IsNode w.group.size i → IsTrue (members i) → AtWith Under (run.world 1) i
  low_first i node own = by (cases_eq i leader) where
    by : (i ≡ leader) ⊎ (i ≢ leader) → AtWith Under (run.world 1) i
    by (inl same) = let at = begun.leads in rw same (record {
      node = at.node;
      there = at.there;
      is_up = record {
        running = at.is_up.running;
        up = at.is_up.up;
        holds = subst (λ o. Low tests b o) (sym at.is_up.holds) (inr (
          refl,
          omega arith,
        ));
      };
    })
    by (inr other) =
        let (m, q, is_up) = led.up i node own in
        let sound = running good.holds.sound is_up in
        let first = does_first in record {
          node = m;
          there = rw first.leads (changed_elsewhere w.members leader i first.node first.left.member first.there other) ∙ is_up.there;
          is_up = record {
            running = q;
            up = is_up.up;
            holds = subst (λ (r : Record). Low tests b r.promised) (sym sound.kept_is) (led.above i m own is_up.there);
          };
        }

  pub most_at : (n : ℕ) → IsMajority (run.world n).group.size members
  most_at n = subst (λ (g : Group). IsMajority g.size members) (sym (group_at run n)) most

  pub node_at : (n i : ℕ) → IsNode (run.world n).group.size i → IsNode w.group.size i
  node_at n i node = subst (λ (g : Group). IsNode g.size i) (group_at run n) node

  pub all_low : (n i : ℕ) → IsNode w.group.size i → IsTrue (members i) → AtWith Under (run.world (suc n)) i
  all_low zero i node own = low_first i node own
  all_low (suc n) i node own =
      goes_on tests (good_at laws run good (suc n)) (most_at (suc n)) (λ j at mine. all_low n j (node_at (suc n) j at) mine)
      Under under_steady (led.calm n) (run.goes (suc n)) i own (all_low n i node own)

  pub stays : (K : Known → Type 0) → IsSteady b K → (i : ℕ) → IsTrue (members i) → Stays (λ n. AtWith K (run.world (suc n)) i)
  stays K steady i own n at =
      goes_on tests (good_at laws run good (suc n)) (most_at (suc n)) (λ j at mine. all_low n j (node_at (suc n) j at) mine)
      K steady (led.calm n) (run.goes (suc n)) i own at

  -- ---- the Prepare is heard

  abbrev Asked : Msg
  Asked = record { sender = leader; body = Prepare b begun.from }

  pub messages_grow : (n k : ℕ) (m : Msg) → slice_get (world_state (run.world n)).sent k ≡ Some m
      → slice_get (world_state (run.world (suc n))).sent k ≡ Some m
  messages_grow n k m e =
      let does = (run.goes n).does in
      let more : (world_state (run.world (suc n))).sent ≡ (world_state (run.world n)).sent ++ messages_in (run.world n).group
      does.left.sent =
      ap (λ (v : World). (world_state v).sent) does.leads ∙ filter_map-append _ (run.world n).sent does.left.sent in
      rw more (kept_place (world_state (run.world n)).sent _ k m e)

  asked_at : (n : ℕ) → slice_get (world_state (run.world (suc n))).sent (length w.sent) ≡ Some Asked
  asked_at zero =
      let many : length (world_state w).sent ≡ length w.sent = as_many w.group w.sent good.holds.sound.spelled in
      subst (λ k. slice_get (world_state (run.world 1)).sent k ≡ Some Asked) many (rw begun.said (at_end (world_state w).sent Asked))
  asked_at (suc n) = messages_grow (suc n) (length w.sent) Asked (asked_at n)

  -- a node that ticks at a moment
  pub ticks_at : (n i : ℕ) → IsTrue (members i) → (run.event (suc n)).act ≡ act.Tick i
      → DoesAt (run.world (suc n)) i None deed.Tick (run.done (suc n)) (run.world (suc (suc n)))
  ticks_at n i own acts =
      let goes = run.goes (suc n) in
      let at : node_of (run.event (suc n)).act ≡ i = ap node_of acts in
      let kept = (led.calm n).kept (subst (λ j. IsTrue (members j)) (sym at) own) in
      let is = subst (λ a. IsDeedOf (world_state (run.world (suc n))).sent a goes.deed) acts goes.is_deed in
      subst (λ d. DoesAt (run.world (suc n)) i None d (run.done (suc n)) (run.world (suc (suc n)))) is
      (subst (λ save. DoesAt (run.world (suc n)) i (plan_of save) goes.deed (run.done (suc n)) (run.world (suc (suc n)))) kept
      (subst (λ j. DoesAt (run.world (suc n)) j (plan_of (run.event (suc n)).save) goes.deed (run.done (suc n))
      (run.world (suc (suc n)))) at goes.does))

  -- a node that hears a message at a moment
  pub hears_at : (n k i : ℕ) (m : Msg) → IsTrue (members i) → slice_get (world_state (run.world (suc n))).sent k ≡ Some m
      → (run.event (suc n)).act ≡ act.Deliver k i → DoesAt (run.world (suc n)) i None (deed.Hear m) (run.done (suc n))
      (run.world (suc (suc n)))
  hears_at n k i m own there acts =
      let goes = run.goes (suc n) in
      let at : node_of (run.event (suc n)).act ≡ i = ap node_of acts in
      let kept = (led.calm n).kept (subst (λ j. IsTrue (members j)) (sym at) own) in
      let (heard, from, is) = subst (λ a. IsDeedOf (world_state (run.world (suc n))).sent a goes.deed) acts goes.is_deed in
      let same : heard ≡ m = cc (sym from ∙ there) in
      subst (λ d. DoesAt (run.world (suc n)) i None d (run.done (suc n)) (run.world (suc (suc n)))) (is ∙ ap deed.Hear same)
      (subst (λ save. DoesAt (run.world (suc n)) i (plan_of save) goes.deed (run.done (suc n)) (run.world (suc (suc n)))) kept
      (subst (λ j. DoesAt (run.world (suc n)) j (plan_of (run.event (suc n)).save) goes.deed (run.done (suc n))
      (run.world (suc (suc n)))) at goes.does))

  promised_then : (n i : ℕ) → IsNode w.group.size i → IsTrue (members i) → (run.event (suc n)).act ≡ act.Deliver (length w.sent) i
      → AtWith Agreed (run.world (suc (suc n))) i
  promised_then n i node own acts =
      let does = hears_at n (length w.sent) i Asked own (asked_at n) acts in
      let (q, up, ends) = does.does in
      let at = all_low n i node own in
      let is : at.node ≡ does.node = cc (sym at.there ∙ does.there) in
      let runs : at.is_up.running ≡ q = cc (sym at.is_up.up ∙ ap (λ (m : Member). m.node) is ∙ up) in
      let low = subst (λ (q : Running). Low tests b q.known.kept.promised) runs at.is_up.holds in
      let made = promises tests q.known leader b begun.from low in
      let left = made_leaves does.node q.progress (on_message q.known leader (Prepare b begun.from)) [] does.left ends in
      record {
        node = does.left.member;
        there = rw does.leads (changed_here (run.world (suc n)).members i does.node does.left.member does.there);
        is_up = subst (UpWith Agreed) (sym left) (record { running = _; up = refl; holds = made.promised });
      }

  module _ (fair : IsFair members run) where
    sent_first : (i : ℕ) → IsSentAt members run 0 (length w.sent) i Asked
    sent_first i = record {
      sent = record {
        datagram = begun.datagram;
        there = rw begun.sent (at_end w.sent begun.datagram);
        addressed = rw begun.for_all tt;
        spells = begun.spells;
        sender = led.own;
        late = omega arith;
      };
      new = omega (arith, ap (λ (v : World). length v.sent) run.begins);
    }

    one_promises : (i : ℕ) → IsNode w.group.size i → IsTrue (members i) → Later 0 (λ n. AtWith Agreed (run.world (suc n)) i)
    one_promises i node own = by (fair.hears 0 (length w.sent) i Asked node own (sent_first i)) where
      by : Later 1 (λ t. (run.event t).act ≡ act.Deliver (length w.sent) i) → Later 0 (λ n. AtWith Agreed (run.world (suc n)) i)
      by (zero, less, acts) = absurd (omega (arith, less))
      by (suc n, less, acts) = (suc n, omega arith, promised_then n i node own acts)

    -- each node of the majority has promised the ballot from some moment on
    pub all_promise : Later 0 (λ n. (i : ℕ) → 0 < i → i ≤ w.group.size → IsTrue (members i) → AtWith Agreed (run.world (suc n)) i)
    all_promise = later_then 0 (all_later members (λ i n. IsTrue (members i) → AtWith Agreed (run.world (suc n)) i)
        (λ i n at own. stays Agreed agreed_steady i own n (at own)) 0 w.group.size
        (λ i some low own. later_then 0 (one_promises i (some, low) own) (λ t less at. now t (λ mine. at))))
        (λ t less all. now t (λ i some low own. all i some low own own))
