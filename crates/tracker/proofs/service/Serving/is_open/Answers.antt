use Rattle.std.proofs.Common.{rules}
use Rattle.wafers.specs.Held.{held}
use Rattle.tracker.proofs.Going.{in_turn}
use Rattle.tracker.proofs.service.Serving.is_open.Goals as goal

pub returns : goal.returns
returns c at t d s h =
    in_turn at t _ d (held c.args.standing.wafer) h _ _ _ _ (λ x. held x.wafer) c.after.result c.and_then.result _ (c.after.ensures.value at s)
    (λ e. search rules) (λ x e. search rules) (λ x e k. search rules) (λ x y e k. search rules)
