-- A key that is typed now is read.
use Rattle.std.proofs.Common.{◌≡◌, ◌∙◌, ℕ, ◌+◌, ◌<◌, Bool, IsTrue, Contains, List, [], ◌∷◌, ◌++◌, length, length-append, Some, None, IfSome, if◌then◌else◌, refl, sym, ap, subst, arith}
use Rattle.std.specs.List.{range_with_len}
use Rattle.std.proofs.lemmas.List.Elements.{Contains-append_right}
use Rattle.paxos_msg.specs.declared.limits.TheConstants.{LAST_SERIAL}
use Rattle.group_protocol.specs.declared.limits.TheConstants.{MOST_WAITING}
use Rattle.paxos_msg.specs.Batches.{Record, Vote}
use Rattle.paxos_msg.specs.Keys.{Key, keys_of}
use Rattle.paxos_acceptor.specs.declared.me.Me.{Me}
use Rattle.group_protocol.specs.Known.{Known, new_key, next_serial, on_typed}
use Rattle.group_protocol.specs.WaitingKeys.{waiting_keys}
use Rattle.group_node.specs.Deeds as deed
use Rattle.group_node.specs.NodeCalls.{Running, call_of_press}
use Rattle.group_world.specs.declared.event.Act.TheVariants as act
use Rattle.group_world.specs.declared.event.Done.TheVariants.{Applied}
use Rattle.group_world.specs.Deeds.{DoesDeed, EndsCall, Left}
use Rattle.group_world.specs.Event.{Goes, kept_event, world_after}
use Rattle.group_world.specs.Group.{IsUp, World, me_of, member_at}
use Rattle.group_world.specs.Member.{Member, member_after_call}
use Rattle.group_world.specs.Sound.{IsSound}
use Rattle.group_rules.proofs.Lists.{in_flat_map, in_range}
use Rattle.group_world.proofs.WorldAsGroup.{changed_elsewhere, changed_here, each_changed, is_node, running}
use Rattle.group_progress.specs.GoingOn.{HasLeft, HasRoundAbove, HaveLeft, HaveLeftFor, waiting_at, keys_waiting, waiting_of}
use Rattle.group_progress.proofs.CountedKeys.{one_key_more}
use Rattle.group_progress.proofs.Going.{lt_apart}

typed_left : Me → Member → Running → ℕ → Left
typed_left me m q byte = record {
  answer = Applied;
  member = member_after_call (on_typed q.known byte) m.console q.progress;
  sent = [];
  typed = new_key q.known byte ∷ [];
}

press_ends : (me : Me) (m : Member) (q : Running) (byte : ℕ) → length q.known.waiting < MOST_WAITING → next_serial q.known < LAST_SERIAL + 1
    → EndsCall me m q.progress None (call_of_press q.known byte) (typed_left me m q byte)
unfolding typed_left
press_ends me m q byte free serial =
    let few = lt_apart (length q.known.waiting) MOST_WAITING free in
    let spare = lt_apart (next_serial q.known) (LAST_SERIAL + 1) serial in
    rw (few, spare) (record { answer = refl; left = refl; sends = refl; types = refl })

-- the world after a key was typed at a node: the key waits there, and enough is left
pub record Typed (members : ℕ → Bool) (w : World) (i byte : ℕ) (q : Running) : Type 0 where
  pub world : World
  pub goes : Goes w (kept_event (act.Press i byte)) Applied world
  pub group : world.group ≡ w.group
  pub left : HaveLeft members world
  pub waits : (key : Key) → Contains (keys_of (new_key q.known byte)) key → Contains (keys_waiting members world) key

pub typed : ((n : Known) (byte : ℕ) → waiting_keys (on_typed n byte).node ≡ waiting_keys n ++ keys_of (new_key n byte))
    → (members : ℕ → Bool) (w : World) → IsSound w → HaveLeftFor (length (keys_waiting members w) + 1) members w
    → (i : ℕ) (m : Member) (q : Running) (byte : ℕ) → IsTrue (members i) → IsUp w i m q → byte < 256
    → length q.known.waiting < MOST_WAITING → next_serial q.known < LAST_SERIAL + 1 → Typed members w i byte q
unfolding typed_left
typed typed_law members w sound left i m q byte own up low free serial =
    let l : Left = typed_left (me_of w i) m q byte in
    let v : World = world_after w i l in
    let does : DoesDeed w.program (me_of w i) m None (deed.Press byte) l = (q, up.up, low, press_ends (me_of w i) m q byte free serial) in
    let goes : Goes w (kept_event (act.Press i byte)) Applied v = record {
      deed = deed.Press byte;
      is_deed = refl;
      does = record { node = m; there = up.there; left = l; does = does; answers = refl; leads = refl };
    } in
    let was = left.nodes i m own up.there in
    let kept = (running sound up).kept_is in
    let new_left : HasLeft left.top l.member = record {
      start = λ down. absurd cc;
      promised = subst (λ (r : Record). IfSome r.promised HasRoundAbove) (sym kept) was.promised;
      remembered = subst (λ o. IfSome o (λ q. IfSome q.known.remembered HasRoundAbove)) up.up was.remembered;
      votes = subst (λ (r : Record). (vote : Vote) → Contains r.votes vote → vote.place < left.top) (sym kept) was.votes;
    } in
    let there : member_at v.members i ≡ Some l.member = changed_here w.members i m l.member up.there in
    let was_at : waiting_of (member_at w.members i) ≡ waiting_keys q.known = ap waiting_of up.there ∙ ap waiting_at up.up in
    let is_at : waiting_of (member_at v.members i) ≡ waiting_keys q.known ++ keys_of (new_key q.known byte) = ap waiting_of there ∙
    typed_law q.known byte in
    let one_more = one_key_more members (λ j. waiting_of (member_at w.members j)) (λ j. waiting_of (member_at v.members j)) i
    (omega (
      arith,
      ap (λ (ks : List Key). length ks) was_at,
      ap (λ (ks : List Key). length ks) is_at,
      length-append (waiting_keys q.known) (keys_of (new_key q.known byte)),
    ))
    (λ j other. ap waiting_of (changed_elsewhere w.members i j m l.member up.there other)) w.group.size in
    record {
      world = v;
      goes = goes;
      group = refl;
      left = record {
        top = left.top;
        room = omega (arith, left.room, one_more);
        nodes = λ j x of at. each_changed w.members i m l.member up.there (λ j x. IsTrue (members j) → HasLeft left.top x) (λ of. new_left)
            (λ j x other at of. left.nodes j x of at) j x at of;
      };
      waits = λ key among.
          let waits : Contains (waiting_of (member_at v.members i)) key =
          subst (λ ks. Contains ks key) (sym is_at) (Contains-append_right (waiting_keys q.known) (keys_of (new_key q.known byte)) key
          among) in
          let node = is_node i sound up.there in
          in_flat_map (λ i. if members i then waiting_of (member_at v.members i) else []) (range_with_len 1 w.group.size) i key
          (in_range 1 w.group.size i (omega (arith, node.0)) (omega (arith, node.1)))
          (subst (λ b. Contains (if b then waiting_of (member_at v.members i) else []) key) (sym own) waits);
    }
