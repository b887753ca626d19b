use Rattle.trials.proofs.Told.{told_more}
use Rattle.trials.proofs.telling.TellingSink.put.Goals as goal

pub returns : goal.returns
returns g c =
    let p = c.in_ok-put.ensures.joins in
    record { joins = p; since = λ earlier h. told_more _ _ _ _ _ _ p.1 h }
