-- Lists of deeds of a group's nodes, and what holds of each group to which they lead.
use Rattle.std.specs.Prelude.{◌≡◌, ℕ, List, [], ◌∷◌, None}
use Rattle.pcode_file.specs.Parts.{Parts}
use Rattle.paxos_msg.specs.Records.{empty_record}
use Rattle.group_node.specs.Deeds.{Deed}
use Rattle.group_rules.specs.Rules.{WorldState, WorldStep}

-- The group in which nothing has happened: all nodes are down, with empty records and consoles.
-- Allows: a group of any size.
abbrev pub initial : Parts → ℕ → WorldState
initial p size = record {
  program = p;
  size = size;
  seats = λ i. record { kept = empty_record; console = []; up = None };
  sent = [];
  typed = [];
}

-- A deed and the node that does it.
-- Allows: any number of the node.
pub record NodeDeed : Type 0 where
  pub node : ℕ
  pub deed : Deed

-- The groups before and after these deeds, one after the other, each a step by this rule.
unfoldable pub LeadsUnder : (WorldState → ℕ → Deed → WorldState → Type 0)
    → WorldState → List NodeDeed → WorldState → Type 0
LeadsUnder rule w [] v = v ≡ w
LeadsUnder rule w (d ∷ deeds) v =
    (mid : WorldState) × rule w d.node d.deed mid × LeadsUnder rule mid deeds v

-- The groups before and after these deeds, one after the other, each a step by the rules.
-- Source: Simple 2.1, asynchronous processes; messages that are lost, repeated and late.
-- Allows: any list of deeds.
abbrev pub LeadsByRules : WorldState → List NodeDeed → WorldState → Type 0
LeadsByRules = LeadsUnder WorldStep

-- What holds of every program, every size and every list of deeds.
abbrev pub AlwaysByRules : (WorldState → Type 0) → Type 0
AlwaysByRules P =
    (p : Parts) (size : ℕ) (deeds : List NodeDeed) (w : WorldState)
    → LeadsByRules (initial p size) deeds w → P w

-- What holds of every two moments, the second after the first.
abbrev pub AlwaysLaterByRules : (WorldState → WorldState → Type 0) → Type 0
AlwaysLaterByRules P =
    (p : Parts) (size : ℕ) (deeds more : List NodeDeed) (w v : WorldState)
    → LeadsByRules (initial p size) deeds w → LeadsByRules w more v → P w v
