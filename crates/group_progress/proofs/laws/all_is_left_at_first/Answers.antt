use Rattle.std.proofs.Common.{◌≡◌, ℕ, List, [], ◌∷◌, length, flat_map, Option, Some, None, refl, ap, subst, arith, if◌then◌else◌}
use Rattle.std.specs.List.{range_with_len}
use Rattle.std.proofs.lemmas.Bool.{cond_both}
use Rattle.pcode_file.specs.Parts.{Parts}
use Rattle.paxos_msg.specs.declared.message.Group.{Group}
use Rattle.paxos_msg.specs.Keys.{Key}
use Rattle.paxos_msg.specs.Records.{empty_record}
use Rattle.group_protocol.proofs.Elements.{none_in}
use Rattle.group_world.specs.Group.{member_at, new_world}
use Rattle.group_world.specs.Member.{Member}
use Rattle.group_world.proofs.WorldAsGroup.{first_node, stopped}
use Rattle.group_progress.specs.GoingOn.{HasLeft, waiting_of}
use Rattle.group_progress.proofs.laws.all_is_left_at_first.Goals as goal

bare : HasLeft 0 (stopped empty_record)
bare = record { start = λ down. omega arith; promised = tt; remembered = tt; votes = λ vote among. absurd (none_in vote among) }

-- no key waits before all events
no_keys : (p : Parts) (group : Group) (i : ℕ) → waiting_of (member_at (new_world p group).members i) ≡ []
no_keys p group i = by (member_at (new_world p group).members i) refl where
  by : (o : Option Member) → member_at (new_world p group).members i ≡ o → waiting_of o ≡ []
  by None at = refl
  by (Some m) at = subst (λ m. waiting_of (Some m) ≡ []) (first_node p group i m at) refl

none_of : (f : ℕ → List Key) → ((i : ℕ) → f i ≡ []) → (xs : List ℕ) → flat_map f xs ≡ []
none_of f none [] = refl
none_of f none (x ∷ xs) = rw (none x, none_of f none xs) refl

pub returns : goal.returns
returns c p group members size =
    let none = none_of (λ i. if members i then waiting_of (member_at (new_world p group).members i) else [])
    (λ i. cond_both (members i) _ _ (λ (ks : List Key). ks ≡ []) (λ own. no_keys p group i) (λ other. refl))
    (range_with_len 1 group.size) in
    record {
      top = 0;
      room = omega (arith, ap (λ (ks : List Key). length ks) none);
      nodes = λ i m own at. subst (HasLeft 0) (first_node p group i m at) bare;
    }
