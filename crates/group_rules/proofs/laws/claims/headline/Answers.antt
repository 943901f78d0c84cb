-- The claims, of each group to which steps lead.
use Rattle.std.proofs.Common.{ℕ, List}
use Rattle.pcode_file.specs.Parts.{Parts}
use Rattle.group_rules.specs.Leads.{initial, LeadsByRules, NodeDeed}
use Rattle.group_rules.specs.Invariants.{HoldsByRules}
use Rattle.group_rules.specs.Rules.{WorldState}
use Rattle.group_rules.proofs.laws.claims.headline.Goals as goal

pub returns : goal.returns
returns c =
    let claims = c.claims_follow.ensures in
    let held : (p : Parts) (size : ℕ) (deeds : List NodeDeed) (w : WorldState) → LeadsByRules (initial p size) deeds w → HoldsByRules w =
    λ p size deeds w leads. claims.lasts _ w deeds (c.steps_keep_it.ensures.begins p size) leads in
    record {
      learned_agree = λ p size deeds w leads. claims.learned_agree w (held p size deeds w leads);
      learned_chosen = λ p size deeds w leads. claims.learned_chosen w (held p size deeds w leads);
      consoles_hold_output = λ p size deeds w leads. claims.consoles_hold_output w (held p size deeds w leads);
      consoles_agree = λ p size deeds w leads. claims.consoles_agree w (held p size deeds w leads);
      no_gap = λ p size deeds w leads. claims.no_gap w (held p size deeds w leads);
      consoles_show_released = λ p size deeds w leads. claims.consoles_show_released w (held p size deeds w leads);
      key_once = λ p size deeds w leads. claims.key_once w (held p size deeds w leads);
      serials_in_order = λ p size deeds w leads. claims.serials_in_order w (held p size deeds w leads);
      learned_stays = λ p size deeds more w v leads on. claims.learned_stays w v more (held p size deeds w leads) on;
      consoles_grow = λ p size deeds more w v leads on. claims.consoles_grow w v more on;
    }
