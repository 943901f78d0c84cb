-- What a keyboard has taken in.
use Rattle.std.proofs.Common.{◌≡◌, ◌∙◌, List, Some, sym, ap}
use Rattle.group_node.specs.Deeds.{Deed}
use Rattle.node_io.specs.Prompts.{GivesWhatCame, KeyboardState, Remaining, before_gift, no_keys, taken_more, with_more}

-- what an opened keyboard has taken in is what it has given, and what it has left
pub all_given : (old new : KeyboardState) (gift : List Deed) (all : Remaining) → old.left ≡ no_keys → old.taken_in ≡ Some no_keys
    → GivesWhatCame old gift new → new.taken_in ≡ Some all → all ≡ before_gift gift new.left
all_given old new gift all none opened h taken =
    let both : Some all ≡ Some (with_more h.came no_keys) = sym taken ∙ h.more ∙ ap (taken_more h.came) opened in
    let came : all ≡ with_more h.came no_keys = cc in
    came ∙ ap (with_more h.came) (sym none) ∙ h.whole
