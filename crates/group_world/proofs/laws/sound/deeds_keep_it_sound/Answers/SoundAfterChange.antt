-- A change of one node keeps the world sound: a call that it makes, a failed save, a crash, a run
-- and a release. What holds of the other nodes still holds after a node has sent and typed more.
use Rattle.std.proofs.Common.{◌≡◌, ◌∙◌, ℕ, ◌-◌, Bool, true, false, if◌then◌else◌, List, [], ◌∷◌, None, Some, inr, refl, subst, arith, ◌+◌, slice_get, Option, ◌++◌, flat_map, sym, ◌≢◌, append-nil, append_assoc, length-set, length-drop, nat_cmp}
use Rattle.std.proofs.lemmas.List.Elements.{All-append}
use Rattle.paxos_msg.specs.declared.value.Value.{Value}
use Rattle.paxos_msg.specs.Batches.{Change, Sent, Body, MaySend, MaySendAll, Record}
use Rattle.group_protocol.specs.Known.{Response}
use Rattle.group_node.specs.Output.{Progress, IsReplay}
use Rattle.group_world.specs.Group.{member_at, with_member, World, IsUp, me_of}
use Rattle.group_world.specs.Group.{world_state}
use Rattle.group_world.proofs.CallLeaves.{world_after_call, world_after_fall}
use Rattle.group_node.specs.NodeCalls.{Running}
use Rattle.group_world.specs.Member.{Member, at_progress, member_after_release, member_after_call}
use Rattle.group_world.specs.Sound.{IsSpelling}
use Rattle.group_world.specs.Sound.{IsSound, IsMemberSound, IsRunningSound}
use Rattle.group_world.proofs.WorldAsGroup.{SoundAt, each_changed, running, is_node, packets_read, sent_called}
use Rattle.std.proofs.lemmas.Option.{slice_get_within, IfSome_then}
use Rattle.group_node.specs.States.{input}
use Rattle.group_world.proofs.Written.{next_of, next_written, written}
use Rattle.std.proofs.lemmas.Grind.{flat_map-append}
use Rattle.std.specs.FinMap.{FinMap}
use Rattle.paxos_msg.specs.Keys.{Key, keys_of}
use Rattle.group_protocol.specs.Ranges.{AllFit, IsInRange}
use Rattle.group_protocol.specs.Steps.{messages_handed_out, IsLawful}
use Rattle.pcode_file.specs.Parts.{Parts}
use Rattle.paxos_msg.specs.Messages.{messages_of}
use Rattle.paxos_acceptor.specs.declared.me.Me.{Me}
use Rattle.group_protocol.specs.Backs.{Backs}
use Rattle.group_world.proofs.laws.sound.deeds_keep_it_sound.Goals as goal

abbrev pub Laws : Type 0
Laws = goal.After-spelling_is_read

-- ---- the other nodes

-- all that node `j` sends in a call, message by message
sent_then : (P : Sent → Type 0) (size : ℕ) (known : List Key) (learned : ℕ → Option Value) (j : ℕ) (r : Record)
    → ((sent : Sent) (body : Body) → MaySend size known learned sent j r body → P sent
    → P (sent ++ record { sender = j; body = body } ∷ []))
    → (bodies : List Body) (sent : Sent) → MaySendAll size known learned sent j r bodies → P sent → P (sent ++ messages_of j bodies)
sent_then P size known learned j r step [] sent may h = subst P (sym (append-nil sent)) h
sent_then P size known learned j r step (body ∷ more) sent may h =
    rw (← append_assoc sent (record { sender = j; body = body } ∷ []) (messages_of j more))
    (sent_then P size known learned j r step more _ may.1 (step sent body may.0 h))

module _ (laws : Laws) (p : Parts) (me : Me) (sent : Sent) (typed keys known : List Key) (j : ℕ) (learned : ℕ → Option Value)
    (r : Record) (bodies : List Body) (ne : j ≢ me.node) (may : MaySendAll me.group.size known learned sent j r bodies) where
  -- a node that is up
  running_then : (kept : Record) (q : Running) → IsRunningSound p me sent typed kept q
      → IsRunningSound p me (sent ++ messages_of j bodies) (typed ++ keys) kept q
  running_then kept q h =
      let backs =
      laws.others_keep_it_backed.ensures.types _ typed keys q.known
      (sent_then (λ all. Backs all typed q.known) me.group.size known learned j r
      (λ all body. laws.others_keep_it_backed.ensures.sends all typed known q.known me.group.size j learned r body (rw h.me_is ne))
      bodies sent may h.backs) in
      assumption

  -- a node, after a call of another
  member_then : (m : Member) → IsMemberSound p me sent typed m → IsMemberSound p me (sent ++ messages_of j bodies) (typed ++ keys) m
  member_then m h = record {
    ranges = h.ranges;
    backed =
        sent_then _ me.group.size known learned j r
        (λ all body. laws.others_keep_it_backed.ensures.sends_record all known me.node me.group.size j learned m.kept r body ne)
        bodies sent may h.backed;
    running = IfSome_then m.node h.running (running_then m.kept);
  }

-- ---- the call

-- A call of node `i` that may be made: it is lawful, the node stays in its ranges, what it sends
-- has a spelling, and its machine is as before on what the node knows now.
pub record MayMake (w : World) (i : ℕ) (m : Member) (made : Response) (progress : Progress) (keys : List Value) : Type 0 where
  pub me_is : made.node.me ≡ me_of w i
  pub before : FinMap nat_cmp Value
  pub lawful : IsLawful (world_state w).sent ((world_state w).typed ++ flat_map keys_of keys) m.kept before made
  pub ranges : IsInRange made.node
  pub fits : AllFit (me_of w i) made.sends
  pub program : progress.program ≡ w.program
  pub replay : IsReplay (input made.node) progress

module _ (laws : Laws) {w : World} (h : IsSound w) (i : ℕ) {m : Member} (there : member_at w.members i ≡ Some m)
    (progress : Progress) (keys : List Value) where
  module _ (raw : Response) where
    -- the call of node `i`
    abbrev made : Response
    made = record raw { node = record raw.node { me = me_of w i } }

    abbrev new : Member
    new = member_after_call made m.console progress

    abbrev after_it : World
    after_it = world_after_call w i made m.console progress keys

    abbrev more_sent : Sent
    more_sent = (world_state w).sent ++ messages_handed_out i made.sends

    abbrev more_typed : List Key
    more_typed = (world_state w).typed ++ flat_map keys_of keys

    module _ (may : MayMake w i m made progress keys) where
      own_sound : IsMemberSound w.program (me_of w i) more_sent more_typed new
      own_sound =
          assumption

      member_sound : (j : ℕ) (x : Member) → member_at after_it.members j ≡ Some x
          → IsMemberSound w.program (me_of w j) more_sent more_typed x
      member_sound =
          each_changed w.members i m new there _ own_sound
          (λ j x ne old. member_then laws w.program _ _ _ _
          more_typed i _ _ _ (λ f. ne (sym f)) may.lawful.sends x
          (h.members j x old))

      sent_is : (world_state after_it).sent ≡ more_sent
      sent_is = sent_called laws.spelling_is_read.ensures.read w i made.sends h.session (is_node i h there) may.fits

      made_sound : IsSound after_it
      made_sound = record {
        size = h.size;
        session = h.session;
        places = length-set w.members (i - 1) new ∙ h.places;
        spelled =
            All-append (IsSpelling w.group) w.sent _ h.spelled
            (packets_read laws.spelling_is_read.ensures.read _ h.session (is_node i h there) made.sends may.fits).0;
        members = λ j x e. rw (sent_is, flat_map-append keys_of w.typed keys) (member_sound j x e);
      }

  -- the call keeps the world sound
  pub call_sound : (made : Response) → MayMake w i m made progress keys → IsSound (world_after_call w i made m.console progress keys)
  call_sound raw may =
      let same : made raw ≡ raw = λ t. record raw { node = record raw.node { me = sym may.me_is t } } in
      subst (λ x. MayMake w i m x progress keys → IsSound (world_after_call w i x m.console progress keys)) same (made_sound raw) may

-- ---- a change at which nothing is sent

module _ (laws : Laws) {w : World} (h : IsSound w) (i : ℕ) {m : Member} (there : member_at w.members i ≡ Some m) where
  changed_sound : (new : Member) → SoundAt w i new → IsSound (with_member w i new)
  changed_sound new own = record {
    size = h.size;
    session = h.session;
    places = length-set w.members (i - 1) new ∙ h.places;
    spelled = h.spelled;
    members = each_changed w.members i m new there (SoundAt w) own (λ j x ne e. h.members j x e);
  }

  -- the node goes down, with its record
  pub crash_sound : IsSound (world_after_fall w i m m.kept)
  crash_sound =
      let own = h.members i m there in
      changed_sound (record { kept = m.kept; console = m.console; node = None })
      (record { ranges = own.ranges; backed = own.backed; running = tt })

  -- a save that fails keeps the world sound
  pub fall_sound : (made : Response) {progress : Progress} {keys : List Value} → MayMake w i m made progress keys
      → (is_changed : Bool) (c : Change) → made.saves ≡ Some c
      → IsSound (world_after_fall w i m (if is_changed then made.node.kept else m.kept))
  fall_sound made may false c e = crash_sound
  fall_sound made may true c e =
      let own = h.members i m there in
      changed_sound (record { kept = made.node.kept; console = m.console; node = None })
      (record {
        ranges = rw may.me_is at may.ranges.kept;
        backed = rw may.me_is at
            (laws.lawful_calls_go_on.ensures.saved _ _ m.kept made.node.kept may.before made
            (rw may.me_is own.backed) may.lawful (inr refl));
        running = tt;
      })

-- ---- a run and a release

module _ (laws : Laws) {w : World} (h : IsSound w) {i : ℕ} {m : Member} {q : Running} (up : IsUp w i m q) where
  -- the machine's progress changes, and perhaps the console
  played_sound : (progress : Progress) (console : List ℕ) → progress.program ≡ q.progress.program → IsReplay (input q.known) progress
      → IsSound (with_member w i (record { kept = m.kept; console = console; node = Some (record q { progress = progress }) }))
  played_sound progress console program replay =
      let sound = running h up in
      let own = h.members i m up.there in
      changed_sound laws h i up.there _ (record {
        ranges = own.ranges;
        backed = own.backed;
        running = record {
          me_is = sound.me_is;
          kept_is = sound.kept_is;
          ranges = sound.ranges;
          backs = sound.backs;
          program = program ∙ sound.program;
          replay = replay;
        };
      })

  pub run_sound : (progress : Progress) → progress.program ≡ q.progress.program → IsReplay (input q.known) progress
      → IsSound (with_member w i (at_progress m q progress))
  run_sound progress program replay = played_sound progress m.console program replay

  -- a release, if a byte waits
  released_sound : (o : Option ℕ) → slice_get (written q) q.progress.released ≡ o → IsSound (with_member w i (member_after_release m q o))
  released_sound None e = changed_sound laws h i up.there m (h.members i m up.there)
  released_sound (Some byte) e =
      let sound = running h up in
      played_sound (record q.progress { released = q.progress.released + 1 }) _ refl (record {
        made = sound.replay.made;
        released = omega (arith, slice_get_within (written q) q.progress.released byte e);
        few = omega (arith, sound.replay.few, length-drop {A = ℕ});
      })

  pub release_sound : IsSound (with_member w i (member_after_release m q (next_of q)))
  release_sound = released_sound (next_of q) (next_written q)
