-- What a keyboard gives a node to do, and what it has left.
use Rattle.std.specs.Prelude.{◌≡◌, ◌+◌, ℕ, Bool, true, false, List, [], ◌∷◌, ◌++◌, filter, flat_map, length, Option, option_map}
use Rattle.group_node.specs.Deeds.{Campaign, Deed, Press}

-- The byte that is typed by a prompt, if it types one.
abbrev pub byte_in : Deed → List ℕ
byte_in (Press byte) = byte ∷ []
byte_in _ = []

-- The bytes that are typed by these prompts, in order.
abbrev pub bytes_in : List Deed → List ℕ
bytes_in prompts = flat_map byte_in prompts

-- True of a prompt to campaign.
abbrev pub is_campaign : Deed → Bool
is_campaign Campaign = true
is_campaign _ = false

-- How often these prompts campaign.
abbrev pub campaigns_in : List Deed → ℕ
campaigns_in prompts = length (filter is_campaign prompts)

-- What a keyboard has left of what came to it: bytes in order, and how many requests to campaign. A
-- request may be given before bytes that came earlier.
pub record Remaining : Type 0 where
  pub bytes : List ℕ
  pub requests : ℕ

-- Nothing.
abbrev pub no_keys : Remaining
no_keys = record { bytes = []; requests = 0 }

-- What a keyboard has left once more has come to it.
abbrev pub with_more : Remaining → Remaining → Remaining
with_more came left = record {
  bytes = left.bytes ++ came.bytes;
  requests = left.requests + came.requests;
}

-- What a keyboard had left before it gave these prompts, by what it has left after them.
abbrev pub before_gift : List Deed → Remaining → Remaining
before_gift gift left = record {
  bytes = bytes_in gift ++ left.bytes;
  requests = campaigns_in gift + left.requests;
}

-- A keyboard: what it has left, and whether it is closed; all that it has taken in since it was
-- opened, in order, where it remembers that; and how often it was looked at, where it counts that.
-- To a closed one nothing comes any more.
-- Allows: a keyboard of which it is unknown what it has taken in, or how often it was looked at.
pub record KeyboardState : Type 0 where
  pub left : Remaining
  pub is_closed : Bool
  pub taken_in : Option Remaining
  pub looks : Option ℕ

-- What a keyboard has taken in once this came to it.
abbrev pub taken_more : Remaining → Option Remaining → Option Remaining
taken_more came taken_in = option_map (λ before. with_more came before) taken_in

-- How often a keyboard was looked at after so many looks more.
abbrev pub looks_after : ℕ → Option ℕ → Option ℕ
looks_after more looks = option_map (λ before. before + more) looks

-- A keyboard that has given these prompts, and that nobody has looked at meanwhile.
-- Forbids: a byte or a request that is given twice, or left out.
pub record HasGiven (old : KeyboardState) (gift : List Deed) (new : KeyboardState) : Type 0 where
  pub whole : old.left ≡ before_gift gift new.left
  pub stays : new.is_closed ≡ old.is_closed
  pub nothing : new.taken_in ≡ old.taken_in
  pub unseen : new.looks ≡ old.looks

-- A keyboard that has given these prompts, of what it had left and what has come meanwhile. One
-- that remembers has taken in exactly that. It was looked at so often (`times`).
-- Allows: anything that comes to one that is not closed; no look.
-- Forbids: a byte or a request that is given twice, or that is neither given nor left; at a closed
-- keyboard, one that it did not have.
pub record GivesWhatCame (old : KeyboardState) (gift : List Deed) (new : KeyboardState)
    : Type 0 where
  pub came : Remaining
  pub whole : with_more came old.left ≡ before_gift gift new.left
  pub none_came : old.is_closed ≡ true → came ≡ no_keys
  pub stays : new.is_closed ≡ old.is_closed
  pub more : new.taken_in ≡ taken_more came old.taken_in
  pub times : ℕ
  pub looked : new.looks ≡ looks_after times old.looks
