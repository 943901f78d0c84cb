-- What events of some nodes do, deeds of their processes do, as a log that hears only what is sent in it.
use Rattle.std.proofs.Common.{◌≡◌, ◌≢◌, ◌∙◌, ℕ, zero, suc, ◌≤◌, Bool, IsTrue, All, Contains, List, [], ◌∷◌, ◌++◌, append-nil, append_assoc, length, slice_get, Some, sym, subst, arith}
use Rattle.std.specs.List.{AllByRecursion}
use Rattle.std.proofs.lemmas.List.Elements.{All-cons, All-head, All-nil, All-tail, filter_map-append}
use Rattle.paxos_msg.specs.declared.message.Group.{Group}
use Rattle.paxos_msg.specs.Batches.{Sent}
use Rattle.group_protocol.specs.Packets.{Datagram}
use Rattle.group_node.specs.Deeds.{Deed, Idle}
use Rattle.group_world.specs.declared.event.Act.{Act}
use Rattle.group_world.specs.declared.event.Act.TheVariants as act
use Rattle.group_world.specs.declared.event.Event.{Event}
use Rattle.group_world.specs.Event.{HearsOf, IsDeedOf, LeadsBy}
use Rattle.group_world.specs.Group.{World, message_of, messages_in}
use Rattle.group_world.specs.Processes.{AreEventsOf, AreEventsOfEntry, Entry, IsCarried, MayBeLogged}
use Rattle.group_rules.proofs.Lists.{in_from_place}
use Rattle.group_progress.specs.GoingOn.{IsHelpful, IsOwnEvent, MayReach}
use Rattle.group_progress.specs.Processes.{IsHelpfulDeed, IsOwnEntry, ProcessesMayReach}

-- what comes behind the first part of a list is in the second
in_second : {X : Type 0} (xs ys : List X) (k : ℕ) (x : X) → slice_get (xs ++ ys) k ≡ Some x → length xs ≤ k → Contains ys x
in_second [] ys k x e late = in_from_place ys k x e
in_second (y ∷ xs) ys zero x e late = absurd (omega (arith, late))
in_second (y ∷ xs) ys (suc k) x e late = in_second xs ys k x e (omega (arith, late))

-- the deed of an act by which a group goes on
helpful_deed : (n : ℕ) (sent : Sent) (a : Act) (deed : Deed) → IsHelpful n a → IsDeedOf sent a deed → IsHelpfulDeed deed
helpful_deed n sent (act.Press i byte) deed h is = absurd h
helpful_deed n sent (act.Deliver k i) deed h (m, at, is) = subst IsHelpfulDeed (sym is) tt
helpful_deed n sent (act.Campaign i) deed h is = subst IsHelpfulDeed (sym is) tt
helpful_deed n sent (act.Tick i) deed h is = subst IsHelpfulDeed (sym is) tt
helpful_deed n sent (act.Run i steps) deed h is = subst IsHelpfulDeed (sym is) tt
helpful_deed n sent (act.Release i) deed h is = subst IsHelpfulDeed (sym is) tt
helpful_deed n sent (act.Crash i) deed h is = absurd h
helpful_deed n sent (act.Start i) deed h (r, is) = subst IsHelpfulDeed (sym is) tt

module _ (group : Group) (members : ℕ → Bool) (base : List Datagram) where
  -- how many messages were sent before
  abbrev count : ℕ
  count = length (messages_in group base)

  -- a message that was sent after these is one of those that were sent since
  hears_new : (s : List Datagram) (a : Act) (deed : Deed) → IsHelpful count a → IsDeedOf (messages_in group (base ++ s)) a deed →
      HearsOf group s deed
  hears_new s (act.Press i byte) deed h is = absurd h
  hears_new s (act.Deliver k i) deed late (m, at, is) =
      subst (HearsOf group s) (sym is) (in_second (messages_in group base) (messages_in group s) k m
      (subst (λ (sent : Sent). slice_get sent k ≡ Some m) (filter_map-append (message_of group) base s) at) late)
  hears_new s (act.Campaign i) deed h is = subst (HearsOf group s) (sym is) tt
  hears_new s (act.Tick i) deed h is = subst (HearsOf group s) (sym is) tt
  hears_new s (act.Run i steps) deed h is = subst (HearsOf group s) (sym is) tt
  hears_new s (act.Release i) deed h is = subst (HearsOf group s) (sym is) tt
  hears_new s (act.Crash i) deed h is = absurd h
  hears_new s (act.Start i) deed h (r, is) = subst (HearsOf group s) (sym is) tt

  -- the entries of these events are of these nodes, and hear what was sent since
  entries_own : (log : List Entry) (s : List Datagram) (events : List Event) → AreEventsOf group (base ++ s) log events →
      AllByRecursion (λ e. e.deed ≢ Idle) log
      → All (IsOwnEvent members count) events → All (IsOwnEntry members) log × IsCarried group s log
  entries_own [] s events is busy own = (All-nil _, tt)
  entries_own (e ∷ log) s events (first, rest, at, more, is) busy own =
      let more_after = subst (λ ks. AreEventsOf group ks log rest) (append_assoc base s e.sent) more in
      by first at is (λ later. entries_own log (s ++ e.sent) rest more_after busy.1 later) where
        by : (first : List Event) → AreEventsOfEntry group (base ++ s) e first → events ≡ first ++ rest
            → (All (IsOwnEvent members count) rest → All (IsOwnEntry members) log × IsCarried group (s ++ e.sent) log)
            → All (IsOwnEntry members) (e ∷ log) × IsCarried group s (e ∷ log)
        by [] idle whole then_own = absurd (busy.0 idle)
        by (one ∷ tail) (of_act, node, save, none) whole then_own =
            let all : All (IsOwnEvent members count) (one ∷ (tail ++ rest)) = subst (All (IsOwnEvent members count)) whole own in
            let head = All-head (IsOwnEvent members count) one (tail ++ rest) all in
            let next = then_own (subst (λ ks. All (IsOwnEvent members count) (ks ++ rest)) none
            (All-tail (IsOwnEvent members count) one (tail ++ rest) all)) in
            let own_entry : IsOwnEntry members e = record {
              of_member = subst (λ i. IsTrue (members i)) node head.of_member;
              kept = sym save ∙ head.kept;
              helpful = helpful_deed count (messages_in group (base ++ s)) one.act e.deed head.helpful of_act;
            } in
            (All-cons (IsOwnEntry members) e log own_entry next.0, (hears_new s one.act e.deed head.helpful of_act, next.1))

pub processes_reach : ((w v : World) (events : List Event) → LeadsBy w events v → MayBeLogged w events v)
    → (members : ℕ → Bool) (w : World) (P : World → Type 0) → MayReach members w P → ProcessesMayReach members w P
processes_reach law members w P lead =
    let (log, logged, are, busy, whole) = law w lead.end lead.events lead.leads in
    let are_after = subst (λ ks. AreEventsOf w.group ks log lead.events) (sym (append-nil w.sent)) are in
    let both = entries_own w.group members w.sent log [] lead.events are_after busy lead.own in
    record { log = log; now = lead.end.members; goes_on = logged; own = both.0; fresh = both.1; holds = subst P whole lead.holds }
