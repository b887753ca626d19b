use Rattle.std.proofs.Common.{Ok, false, ap, ◌∙◌, rules}
use Rattle.settings.specs.Meaning.{switches}
use Rattle.settings.proofs.Switching.{read_off, same}
use Rattle.settings.proofs.settings.Settings.new.Goals as goal

pub returns : goal.returns
unfolding switches
returns c = ap Ok (same false c.args.count _ (λ _. false) (read_off 128 c.args.count)) ∙ search rules
