use Rattle.std.proofs.Common.{◌≡◌, Err, vec_items, refl, rules, arith}
use Rattle.values.specs.declared.field.Field.TheVariants as field
use Rattle.script.specs.Requests.{small, coded, large, text_in}
use Rattle.script.proofs.Reading.{goes_on, stops, counted}
use Rattle.script.proofs.command.reading.substrate.Goals as goal

pub returns-in_err-destination : goal.returns-in_err-destination
returns-in_err-destination c =
    let ws = c.args.words.now in
    let m = c.in_err-destination.field-0.0 in
    let h : c.from_residual-in_err-destination.result ≡ Err m = search rules in
    rw h (counted ws m (omega arith) (goes_on m ws (small field.Row) _ 0 _ refl c.in_ok-row.row c.in_ok-row.ensures
    (goes_on m ws (large field.Time) _ 1 _ refl c.in_ok-time.time c.in_ok-time.ensures
    (goes_on m ws (text_in field.Id) _ 2 _ refl (vec_items c.in_ok-id.id) c.in_ok-id.ensures
    (goes_on m ws (coded field.Place) _ 3 _ refl c.in_ok-place.place c.in_ok-place.ensures
    (goes_on m ws (coded field.Source) _ 4 _ refl c.in_ok-source.source c.in_ok-source.ensures
    (stops m ws (coded field.Destination) _ 5 _ refl c.in_err-destination.ensures)))))))

pub returns-in_err-acquired : goal.returns-in_err-acquired
returns-in_err-acquired c =
    let ws = c.args.words.now in
    let m = c.in_err-acquired.field-0.0 in
    let h : c.from_residual-in_err-acquired.result ≡ Err m = search rules in
    rw h (counted ws m (omega arith) (goes_on m ws (small field.Row) _ 0 _ refl c.in_ok-row.row c.in_ok-row.ensures
    (goes_on m ws (large field.Time) _ 1 _ refl c.in_ok-time.time c.in_ok-time.ensures
    (goes_on m ws (text_in field.Id) _ 2 _ refl (vec_items c.in_ok-id.id) c.in_ok-id.ensures
    (goes_on m ws (coded field.Place) _ 3 _ refl c.in_ok-place.place c.in_ok-place.ensures
    (goes_on m ws (coded field.Source) _ 4 _ refl c.in_ok-source.source c.in_ok-source.ensures
    (goes_on m ws (coded field.Destination) _ 5 _ refl c.in_ok-destination.destination c.in_ok-destination.ensures
    (goes_on m ws (small field.Transport) _ 6 _ refl c.in_ok-transport.transport c.in_ok-transport.ensures
    (goes_on m ws (small field.Processing) _ 7 _ refl c.in_ok-processing.processing c.in_ok-processing.ensures
    (goes_on m ws (small field.Reading) _ 8 _ refl c.in_ok-reading.reading c.in_ok-reading.ensures
    (stops m ws (text_in field.Acquired) _ 9 _ refl c.in_err-acquired.ensures)))))))))))
