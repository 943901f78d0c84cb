-- Bytes that are released one after the other, and those of them that were not seen.
use Rattle.std.proofs.Common.{◌≡◌, ℕ, ◌+◌, ◌-◌, ◌<◌, ◌≤◌, List, [], ◌∷◌, ◌++◌, drop, length, Option, Some, None, option_map, slice_get, refl, ◌∙◌, arith}
use Rattle.std.proofs.Math.Seq.{take-add, take-append_seam}
use Rattle.std.proofs.lemmas.Grind.{common_steps}
use Rattle.std.proofs.lemmas.List.{drop-append-le, drop-drop, drop_all}
use Rattle.std.proofs.lemmas.Option.{slice_get_cases}
use Rattle.group_node.specs.Output.{Progress, unreleased_of}
use Rattle.group_node.specs.States.{NodeState, input}
use Rattle.group_wire.specs.Turns.{released_of}
use Rattle.node_run.specs.Output.{all_released, unreleased_from}

-- a release of these bytes, the first of those that waited
pub record ReleasesBytes (x : List ℕ) (old new : Progress) (gone : List ℕ) : Type 0 where
  pub waited : unreleased_of x old ≡ gone ++ unreleased_of x new
  pub progress : new ≡ record old { released = old.released + length gone }

-- the first byte that waits, with its number
abbrev pub next_of : List ℕ → Progress → Option (ℕ × ℕ)
next_of x q = option_map (λ (b : ℕ). (q.released, b)) (slice_get (unreleased_of x q) 0)

-- the bytes that were released, once others are
pub released_on : (x : List ℕ) (old new : Progress) (gone : List ℕ) → ReleasesBytes x old new gone
    → released_of x new ≡ released_of x old ++ gone
released_on x old new gone h = grind (arith, common_steps, take-add, take-append_seam)

-- ---- the loop that releases

-- some bytes were released, and these are those of them that were not seen
pub record TakesSome {S : Type 0} (seen : ℕ) (old new : NodeState S) (unseen : List ℕ) : Type 0 where
  pub gone : List ℕ
  pub released : ReleasesBytes (input old.protocol.known) old.progress new.progress gone
  pub kept : unseen ≡ drop (seen - old.progress.released) gone
  pub protocol : new.protocol ≡ old.protocol

pub takes_none : {S : Type 0} (seen : ℕ) (old : NodeState S) → TakesSome seen old old []
takes_none seen old = record {
  gone = [];
  released = grind (arith, common_steps);
  kept = grind (arith, common_steps, drop_all);
  protocol = refl;
}

module _ {S : Type 0} (seen number byte : ℕ) (first old new : NodeState S) {unseen : List ℕ} (h : TakesSome seen first old unseen)
    (next : Some (number, byte) ≡ next_of (input old.protocol.known) old.progress)
    (more : new.progress ≡ record old.progress { released = old.progress.released + 1 })
    (protocol : new.protocol ≡ old.protocol) where
  -- it is released
  released_next : ReleasesBytes (input first.protocol.known) first.progress new.progress (h.gone ++ byte ∷ [])
      × (number ≡ first.progress.released + length h.gone)
  released_next = grind (arith, common_steps, drop-drop, slice_get_cases, h.released)

  pub takes_more : {now : List ℕ} → (seen ≤ number → now ≡ unseen ++ byte ∷ []) → (number < seen → now ≡ unseen)
      → TakesSome seen first new now
  takes_more is not = record {
    gone = h.gone ++ byte ∷ [];
    released = released_next.0;
    kept = grind (arith, common_steps, drop_all, drop-append-le, released_next.1, h.kept);
    protocol = protocol ∙ h.protocol;
  }

-- once nothing waits
pub takes_all : {S : Type 0} (seen : ℕ) (old new : NodeState S) {unseen : List ℕ} → TakesSome seen old new unseen
    → None ≡ next_of (input new.protocol.known) new.progress
    → (new.progress ≡ all_released (input old.protocol.known) old.progress)
    × (unseen ≡ unreleased_from seen (input old.protocol.known) old.progress)
takes_all seen old new h none = grind (arith, common_steps, slice_get_cases)
