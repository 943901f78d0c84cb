use Rattle.std.proofs.Common.{◌≡◌, rules, ◌++◌, ◌∷◌, [], arith}
use Rattle.pcode_ops.proofs.Marking.{listing_push, adds_push, listing_less}
use Rattle.pcode_ops.proofs.walk.Walk.mark.Goals as goal

pub unwrap-requires : goal.unwrap-requires
unwrap-requires c = grind (arith, listing_less _ c.args.at (search rules) c.self.invariant.listing (search rules))

pub invariant_of-self : goal.invariant_of-self
invariant_of-self c =
    let pushed : c.push.new.self.items ≡ c.self.inside.found.items ++ c.args.at ∷ [] = search rules in
    record {
      listing = rw pushed (listing_push _ c.args.at (search rules) c.self.invariant.listing (search rules));
      size = search rules;
      room = search rules;
    }

pub returns : goal.returns
returns c =
    let pushed : c.push.new.self.items ≡ c.self.inside.found.items ++ c.args.at ∷ [] = search rules in
    rw (← c.self.view_is, pushed) (adds_push _ c.args.at (search rules))
