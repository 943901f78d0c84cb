-- A log of processes as events, and events as a log of processes: each entry is an event at its
-- node, which leaves what the entry says. And a log in two parts has nodes in between.
use Rattle.std.proofs.lemmas.Option.{same_Some, slice_get-get_or, slice_get_within}
use Rattle.std.proofs.lemmas.List.{append-nil, length-set, nil_from_length}
use Rattle.std.proofs.lemmas.Bool.Decides.{nat_tests}
use Rattle.std.proofs.Common.{◌≡◌, ◌≢◌, ◌∙◌, ◌⊎◌, inl, inr, ℕ, zero, suc, ◌-◌, List, [], ◌∷◌, ◌++◌, append_assoc, length, slice_get, slice_set, get_or, Some, refl, sym, ap, subst, arith, eq-eqb, ne_eqb}
use Rattle.paxos_msg.specs.declared.message.Group.{Group}
use Rattle.paxos_msg.specs.Batches.{Sent}
use Rattle.group_protocol.specs.Packets.{Datagram}
use Rattle.group_node.specs.Deeds.{Campaign, Crash, Deed, Hear, Idle, Press, Release, Run, Start, Tick}
use Rattle.group_world.specs.declared.event.Act.{Act}
use Rattle.group_world.specs.declared.event.Act.TheVariants as act
use Rattle.group_world.specs.declared.event.Event.{Event}
use Rattle.group_world.specs.Event.{DoesAt, HearsOf, IsDeedOf, LeadsBy, node_of, plan_of}
use Rattle.group_world.specs.Group.{World, me_of, member_at, messages_in}
use Rattle.group_world.specs.Member.{Member}
use Rattle.group_world.specs.Processes.{AreEventsOf, AreEventsOfEntry, DoesEntry, Entry, IsCarried, IsHistory, IsLog, after_log, entries_of, left_by, sent_in, typed_in, MayBeLogged, HasMoment}
use Rattle.group_world.proofs.CallLeaves.{idle_leads}
use Rattle.group_world.proofs.WorldAsGroup.{each_changed, changed_here, changed_elsewhere}
use Rattle.group_world.proofs.Happens.{happens_then, heard_by}

-- ---- one entry

-- the world after an entry, which leaves `new` of its node
abbrev pub moved : World → Entry → Member → World
moved w e new =
    record w { members = slice_set w.members (e.node - 1) new; sent = w.sent ++ e.sent; typed = w.typed ++ e.typed }

module _ (w : World) (e : Entry) (m : Member) (there : member_at w.members e.node ≡ Some m) where
  -- the events of the entry, one or none, lead to the world after it
  entry_leads : (new : Member) (events : List Event) → DoesEntry w.program (me_of w e.node) m e new
      → AreEventsOfEntry w.group w.sent e events → LeadsBy w events (moved w e new)
  entry_leads new [] (d, does) idle =
      idle_leads w e.node m there {left = left_by e d new} (rw idle at does)
  entry_leads new (one ∷ events) (d, does) (of_act, at, saved, none) =
      let goes : DoesAt w e.node (plan_of e.save) e.deed d (moved w e new) =
      record { node = m; there = there; left = left_by e d new; does = does; answers = refl; leads = refl } in
      (moved w e new, d, record { deed = e.deed; is_deed = of_act; does = rw (at, saved) goes }, rw none refl)

-- a deed is idle, or that of an act at its node
deed_has_act : (group : Group) (sent : List Datagram) (i : ℕ) (deed : Deed) → HearsOf group sent deed
    → (deed ≡ Idle) ⊎ ((a : Act) × IsDeedOf (messages_in group sent) a deed × (node_of a ≡ i))
deed_has_act group sent i Idle heard = inl refl
deed_has_act group sent i (Start r) heard = inr (act.Start i, (r, refl), refl)
deed_has_act group sent i (Hear message) (k, below, at) =
    let number = slice_get-get_or (messages_in group sent) k message below ∙ ap (λ x. Some x) at in
    inr (act.Deliver k i, (message, number, refl), refl)
deed_has_act group sent i (Press byte) heard = inr (act.Press i byte, refl, refl)
deed_has_act group sent i Campaign heard = inr (act.Campaign i, refl, refl)
deed_has_act group sent i Tick heard = inr (act.Tick i, refl, refl)
deed_has_act group sent i (Run steps) heard = inr (act.Run i steps, refl, refl)
deed_has_act group sent i Release heard = inr (act.Release i, refl, refl)
deed_has_act group sent i Crash heard = inr (act.Crash i, refl, refl)

-- so each entry that hears what was sent before has its events
pub log_has_events : (group : Group) (sent : List Datagram) (log : List Entry) → IsCarried group sent log
    → (events : List Event) × AreEventsOf group sent log events
log_has_events group sent [] carried = ([], refl)
log_has_events group sent (e ∷ log) (heard, carried) =
    let (rest, more) = log_has_events group (sent ++ e.sent) log carried in
    elim (deed_has_act group sent e.node e.deed heard) [
      | inl idle ↦ (rest, ([], rest, idle, more, refl))
      | inr (a, of_act, at) ↦ let one : Event = record { act = a; save = e.save } in
          (one ∷ rest, (one ∷ [], rest, (of_act, at, refl, refl), more, refl))
    ]

-- ---- a log

-- two lists with the same elements
pub same_items : {X : Type 0} (xs ys : List X) → length ys ≡ length xs
    → ((k : ℕ) (x y : X) → slice_get xs k ≡ Some x → slice_get ys k ≡ Some y → y ≡ x) → ys ≡ xs
same_items [] ys long same = nil_from_length ys long
same_items (x ∷ xs) [] long same = absurd cc
same_items (x ∷ xs) (y ∷ ys) long same =
    let rest = same_items xs ys (omega arith) (λ k a b p q. same (suc k) a b p q) in rw (same zero x y refl refl, rest) refl

-- a list that is as long has a node there too
pub member_there : (members now : List Member) (i : ℕ) (last : Member) → length now ≡ length members → member_at now i ≡ Some last
    → (m : Member) × (member_at members i ≡ Some m)
member_there members now zero last long at = absurd cc
member_there members now (suc k) last long at =
    (get_or members k last, slice_get-get_or members k last (omega (arith, slice_get_within now k last at)))

-- the nodes and what was sent and typed are the same, the one way or the other
pub after_both : (w : World) (e : Entry) (log : List Entry) (now : List Member) (mid : Member)
    → after_log (moved w e mid) log now ≡ after_log w (e ∷ log) now
after_both w e log now mid = rw (append_assoc w.sent e.sent (sent_in log), append_assoc w.typed e.typed (typed_in log)) refl

-- what the first entry did, and the rest of the log
pub log_first : (w : World) (e : Entry) (log : List Entry) (now : List Member) (m : Member) → member_at w.members e.node ≡ Some m
    → IsLog w (e ∷ log) now → (new : Member) × DoesEntry w.program (me_of w e.node) m e new × IsLog (moved w e new) log now
log_first w e log now m there h =
    let (last, at) = h.among.0 in
    let (mid, does, rest) = rw (eq-eqb e.node e.node refl) at (h.nodes e.node m last there at) in
    let P : ℕ → Member → Type 0 = λ i x. (z : Member) → member_at now i ≡ Some z → IsHistory w.program (me_of w i) x (entries_of i log) z in
    let own : P e.node mid = λ z z_at. subst (IsHistory w.program (me_of w e.node) mid (entries_of e.node log))
    (same_Some last z (sym at ∙ z_at)) rest in
    let others : (j : ℕ) (other : Member) → j ≢ e.node → member_at w.members j ≡ Some other → P j other =
    λ j other ne other_at z z_at. rw (ne_eqb e.node j (λ same. ne (sym same))) at (h.nodes j other z other_at z_at) in (
      mid,
      does,
      record {
        places = h.places ∙ sym (length-set w.members (e.node - 1) mid);
        among = h.among.1;
        nodes = λ i x z x_at z_at. each_changed w.members e.node m mid there P own others i x x_at z z_at;
        carried = h.carried.1;
      },
    )

-- the events of a log lead to its nodes
pub events_lead : (log : List Entry) (w : World) (now : List Member) (events : List Event) → IsLog w log now
    → AreEventsOf w.group w.sent log events → LeadsBy w events (after_log w log now)
events_lead [] w now events h is =
    let same = same_items w.members now h.places (λ k x y p q. h.nodes (suc k) x y p q) in
    rw (is, same, append-nil w.sent, append-nil w.typed) refl
events_lead (e ∷ log) w now events h (first, rest, one, more, is) =
    let (last, at) = h.among.0 in
    let (m, there) = member_there w.members now e.node last h.places at in
    let (mid, does, others) = log_first w e log now m there h in
    let then = rw (after_both w e log now mid) at (events_lead log (moved w e mid) now rest others more) in
    rw is (happens_then w first rest (moved w e mid) (after_log w (e ∷ log) now) (entry_leads w e m there mid first does one) then)

-- ---- events as a log

-- an entry, and then a log
pub log_before : (w : World) (e : Entry) (log : List Entry) (now : List Member) (m new : Member)
    → member_at w.members e.node ≡ Some m → DoesEntry w.program (me_of w e.node) m e new → HearsOf w.group w.sent e.deed
    → IsLog (moved w e new) log now → IsLog w (e ∷ log) now
log_before w e log now m new there does heard h =
    grind (arith, nat_tests, length-set, member_there, changed_here w.members e.node m new there, changed_elsewhere)

pub no_log : (w v : World) → v ≡ w → IsLog w [] v.members × (v ≡ after_log w [] v.members)
no_log w v is = grind (arith, append-nil w.sent, append-nil w.typed)

-- an act is no idle deed
act_is_busy : (sent : Sent) (act : Act) (deed : Deed) → IsDeedOf sent act deed → deed ≢ Idle
act_is_busy sent (act.Press i byte) deed is = λ idle. cc
act_is_busy sent (act.Deliver k i) deed (m, at, is) = λ idle. cc
act_is_busy sent (act.Campaign i) deed is = λ idle. cc
act_is_busy sent (act.Tick i) deed is = λ idle. cc
act_is_busy sent (act.Run i steps) deed is = λ idle. cc
act_is_busy sent (act.Release i) deed is = λ idle. cc
act_is_busy sent (act.Crash i) deed is = λ idle. cc
act_is_busy sent (act.Start i) deed (r, is) = λ idle. cc

-- what events do, some log does: each event is an entry
pub leads_log : (events : List Event) (w v : World) → LeadsBy w events v → MayBeLogged w events v
leads_log [] w v is = let found = no_log w v is in ([], found.0, refl, tt, found.1)
leads_log (one ∷ events) w v (mid, d, goes, rest) =
    let left = goes.does.left in
    let e : Entry = record { node = node_of one.act; deed = goes.deed; save = one.save; sent = left.sent; typed = left.typed } in
    let heard = heard_by w.group w.sent one.act goes.deed goes.is_deed in
    let (log, h, are, busy, whole) = leads_log events (moved w e left.member) v (rw goes.does.leads at rest) in (
      e ∷ log,
      log_before w e log v.members goes.does.node left.member goes.does.there (left.answer, goes.does.does) heard h,
      (one ∷ [], events, (goes.is_deed, refl, refl, refl), are, refl),
      (act_is_busy (messages_in w.group w.sent) one.act goes.deed goes.is_deed, busy),
      whole ∙ after_both w e log v.members left.member,
    )

-- ---- a log in two parts

pub log_parts : (log more : List Entry) (w : World) (now : List Member) → IsLog w (log ++ more) now → HasMoment w log more now
log_parts [] more w now h =
    grind (arith, no_log w w refl)
log_parts (e ∷ log) more w now h =
    let (last, at) = h.among.0 in
    let (m, there) = member_there w.members now e.node last h.places at in
    let (new, does, rest) = log_first w e (log ++ more) now m there h in
    let (mid, found) = log_parts log more (moved w e new) now rest in (
      mid,
      record {
        before = log_before w e log mid m new there does h.carried.0 found.before;
        after = rw (after_both w e log mid new) at found.after;
      },
    )
