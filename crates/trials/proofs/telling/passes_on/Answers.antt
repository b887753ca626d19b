use Rattle.std.proofs.Common.{[], ◌∷◌, sym, refl, ap, ◌∙◌, append-nil}
use Rattle.std.proofs.lemmas.List.{append_cancel_left}
use Rattle.std.specs.Option.{option_map}
use Rattle.reports.specs.Fields.{shown}
use Rattle.trials.specs.Told.{last_of}
use Rattle.trials.proofs.telling.passes_on.Goals as goal

pub returns-clause-last : goal.returns-clause-last
returns-clause-last g c h =
    let old = c.args.telling.now in
    let (fs, p, q) = c.twice.ensures.since old ([], sym (append-nil _), refl) in
    let both = (c.twice.ensures.both h).list in
    q ∙ ap (last_of (option_map shown old.last)) (append_cancel_left _ fs (shown c.args.report ∷ shown c.args.report ∷ []) (sym p ∙ both))
