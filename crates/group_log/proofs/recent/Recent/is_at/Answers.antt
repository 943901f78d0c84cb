use Rattle.std.proofs.Common.{rules, ◌≡◌, ◌∙◌, ℕ, List, Some, None, Option, slice_get, sym, ap, arith}
use Rattle.std.specs.Option.{option_map}
use Rattle.std.proofs.lemmas.Grind.{common_steps}
use Rattle.std.proofs.lemmas.Option.{slice_get-map}
use Rattle.group_log.proofs.recent.Recent.is_at.Goals as goal

pub returns-in-Some : goal.returns-in-Some
returns-in-Some c =
    let kept = c.self.inside.kept.items in
    let at : slice_get c.args.self.now c.args.index ≡ Some c.in-Some.kept.now.items =
    ap (λ l. slice_get l c.args.index) (sym c.self.view_is) ∙ slice_get-map (λ v. v.items) kept c.args.index
    ∙ ap (option_map (λ v. v.items)) (sym c.in-Some.ensures)
    in (
      λ t. at ∙ ap Some (sym c.as_slice.ensures.value ∙ c.are_same.ensures.0 t),
      λ h. c.are_same.ensures.1 (c.as_slice.ensures.value ∙ cc (at, h)),
    )

pub returns-in-None : goal.returns-in-None
returns-in-None c =
    let kept = c.self.inside.kept.items in
    let at : slice_get c.args.self.now c.args.index ≡ None =
    ap (λ l. slice_get l c.args.index) (sym c.self.view_is) ∙ slice_get-map (λ v. v.items) kept c.args.index
    ∙ ap (option_map (λ v. v.items)) (sym c.in-None.ensures)
    in
    rw at (grind (arith, common_steps))
