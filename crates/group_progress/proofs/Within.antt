-- Lists of events one after another, and how many they are.
use Rattle.std.proofs.Common.{◌≡◌, ℕ, ◌+◌, ◌≤◌, Bool, List, [], ◌∷◌, ◌++◌, length-append, refl, subst, arith}
use Rattle.std.proofs.lemmas.List.Sums.{sum_by-append}
use Rattle.std.proofs.lemmas.List.Elements.{All-cons, All-nil, All-append}
use Rattle.group_world.specs.declared.event.Act.{Act}
use Rattle.group_world.specs.declared.event.Act.TheVariants as act
use Rattle.group_world.specs.declared.event.Done.{Done}
use Rattle.group_world.specs.declared.event.Event.{Event}
use Rattle.group_world.specs.Event.{Goes, LeadsBy}
use Rattle.group_world.specs.Group.{World}
use Rattle.group_progress.specs.GoingOn.{IsOwnEvent, ReachesWithin, messages_by, ticks_by}

pub leads_then : (w : World) (events more : List Event) (v u : World) → LeadsBy w events v → LeadsBy v more u
    → LeadsBy w (events ++ more) u
leads_then w [] more v u h g = subst (λ x. LeadsBy x more u) h g
leads_then w (e ∷ events) more v u (mid, d, goes, rest) g = (mid, d, goes, leads_then mid events more v u rest g)

-- each event is a tick, a start, a campaign, or the hearing of a message
one_of_both : (a : Act) → ticks_by a + messages_by a ≡ 1
one_of_both (act.Press i byte) = refl
one_of_both (act.Deliver k i) = refl
one_of_both (act.Campaign i) = refl
one_of_both (act.Tick i) = refl
one_of_both (act.Run i steps) = refl
one_of_both (act.Release i) = refl
one_of_both (act.Crash i) = refl
one_of_both (act.Start i) = refl

module _ {members : ℕ → Bool} {n : ℕ} where
  -- nothing happens
  pub stay : {w : World} {P : World → Type 0} → P w → ReachesWithin 0 0 members n w P
  stay {w} h = record {
    reaches = record { events = []; end = w; own = All-nil _; leads = refl; holds = h };
    few_ticks = omega arith;
    few_messages = omega arith;
    few = omega arith;
  }

  -- one event
  pub once : {w v : World} {P : World → Type 0} (e : Event) (d : Done) → IsOwnEvent members n e → Goes w e d v → P v
      → ReachesWithin (ticks_by e.act) (messages_by e.act) members n w P
  once {v = v} e d own goes h = record {
    reaches = record {
      events = e ∷ [];
      end = v;
      own = All-cons (IsOwnEvent members n) e [] own (All-nil _);
      leads = (v, d, goes, refl);
      holds = h;
    };
    few_ticks = omega arith;
    few_messages = omega arith;
    few = omega (arith, one_of_both e.act);
  }

  -- what goes on where the first events lead
  pub then_at : {a b c d : ℕ} {w : World} {P Q : World → Type 0} (first : ReachesWithin a b members n w P)
      → ReachesWithin c d members n first.reaches.end Q → ReachesWithin (a + c) (b + d) members n w Q
  then_at {w = w} first rest =
      let one = first.reaches in
      let more = rest.reaches in
      record {
        reaches = record {
          events = one.events ++ more.events;
          end = more.end;
          own = All-append (IsOwnEvent members n) one.events more.events one.own more.own;
          leads = leads_then w one.events more.events one.end more.end one.leads more.leads;
          holds = more.holds;
        };
        few_ticks = omega (arith, sum_by-append (λ e. ticks_by e.act) one.events more.events, first.few_ticks, rest.few_ticks);
        few_messages = omega (arith, sum_by-append (λ e. messages_by e.act) one.events more.events, first.few_messages, rest.few_messages);
        few = omega (arith, length-append one.events more.events, first.few, rest.few);
      }

  -- then something more
  pub then : {a b c d : ℕ} {w : World} {P Q : World → Type 0} → ReachesWithin a b members n w P
      → ((v : World) → P v → ReachesWithin c d members n v Q) → ReachesWithin (a + c) (b + d) members n w Q
  then first more = then_at first (more first.reaches.end first.reaches.holds)

  -- a plain bound
  pub within : {a b c d : ℕ} {w : World} {P : World → Type 0} → ReachesWithin a b members n w P → a ≤ c → b ≤ d
      → ReachesWithin c d members n w P
  within first less fewer = record {
    reaches = first.reaches;
    few_ticks = omega (arith, first.few_ticks, less);
    few_messages = omega (arith, first.few_messages, fewer);
    few = omega (arith, first.few, less, fewer);
  }
