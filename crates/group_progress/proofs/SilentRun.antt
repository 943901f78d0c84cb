-- Events of silent nodes.
use Rattle.std.proofs.Common.{not, ◌≡◌, inl, inr, ℕ, Bool, slice_get, Some, refl, subst, arith, true, false}
use Rattle.paxos_msg.specs.declared.ballot.Ballot.{Ballot}
use Rattle.paxos_msg.specs.declared.message.Group.{Group}
use Rattle.paxos_msg.specs.declared.message.Body.TheVariants.{Prepare, Promise, Accept, Accepted, Refused, Submit, Ask, Tell}
use Rattle.paxos_msg.specs.Ballots.{IsBelow}
use Rattle.paxos_msg.specs.Batches.{Body, Msg}
use Rattle.paxos_msg.specs.Fits.{IsNode}
use Rattle.group_world.specs.declared.event.Act.{Act}
use Rattle.group_world.specs.declared.event.Act.TheVariants as act
use Rattle.group_world.specs.Group.{World, world_state}
use Rattle.group_progress.specs.Fair.{Outranks}
use Rattle.group_rules.proofs.Lists.{in_from_place}
use Rattle.group_progress.specs.Below.{EventLaws, TestLaws}
use Rattle.group_progress.proofs.Silent.{IsSilent, IsSilentBody, hears_silent, is_submit, silent_heard, ticks_silent}
use Rattle.group_progress.proofs.Quiet.{Next, Quiet, everyone, hears_so, ticks_so}

-- ---- silent nodes

-- what silent nodes say outranks nothing
pub silent_calm : (S : Type 0) (b : Ballot) (body : Body) → IsSilentBody S b body → ¬ Outranks b body
silent_calm S b (Prepare c from) is above = itself b (subst (IsBelow b) is above) where
  itself : (b : Ballot) → IsBelow b b → ⊥
  itself b (inl less) = omega (arith, less)
  itself b (inr (same, less)) = omega (arith, less)
silent_calm S b (Promise c first upto votes) is above = above
silent_calm S b (Accept c s v) is above = above
silent_calm S b (Accepted c s v) is above = above
silent_calm S b (Refused c promised) is above = is
silent_calm S b (Submit v) is above = above
silent_calm S b (Ask from) is above = above
silent_calm S b (Tell s v) is above = above

-- worlds of silent nodes
abbrev pub QuietSilent : Type 0 → Type 0 → Ballot → Group → World → Type 0
QuietSilent S W b g v = Quiet (IsSilent W b) (IsSilentBody S b) everyone g v

-- and their next events
abbrev pub NextSilent : Type 0 → Type 0 → Ballot → Group → World → Act → Type 0
NextSilent S W b g v a = Next (IsSilent W b) (IsSilentBody S b) everyone g v a

module _ (S W : Type 0) (laws : EventLaws) (tests : TestLaws) (b : Ballot) (g : Group) {v : World} (quiet : QuietSilent S W b g v) where
  -- a tick
  pub ticks_on : (W → S) → (i : ℕ) → IsNode g.size i → NextSilent S W b g v (act.Tick i)
  ticks_on speaks i node = ticks_so (IsSilent W b) (IsSilentBody S b) everyone laws g quiet i node refl
      (λ n h. ticks_silent S W tests b speaks n h)

  -- a delivery of what is no Submit
  pub hears_on : (k i : ℕ) (message : Msg) → IsNode g.size i → slice_get (world_state v).sent k ≡ Some message
      → not (is_submit message.body) ≡ true → NextSilent S W b g v (act.Deliver k i)
  hears_on k i message node there may =
      hears_so (IsSilent W b) (IsSilentBody S b) everyone laws g quiet k i message node refl there
      (λ n h. hears_silent S W tests b n message.sender message.body h (silent_heard S b message.body
      (quiet.said message (in_from_place (world_state v).sent k message there)) (not_from_true (is_submit message.body) may))) where
        not_from_true : (x : Bool) → not x ≡ true → x ≡ false
        not_from_true true e = absurd cc
        not_from_true false e = refl
