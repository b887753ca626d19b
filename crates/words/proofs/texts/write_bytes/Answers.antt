use Rattle.std.proofs.Common.{rules, ◌+◌, ◌++◌, sym, ◌∙◌}
use Rattle.std.proofs.lemmas.List.{take_rest}
use Rattle.std.proofs.Output.{has_written_append, has_written_of_eq}
use Rattle.words.proofs.Runs.{run_ascii, one_escaped, none_escaped}
use Rattle.words.proofs.texts.write_bytes.Goals as goal

pub ascii-requires : goal.ascii-requires
ascii-requires g c = run_ascii c.args.escapes.now c.loop-n.left.now c.in-Some.n (sym c.in-Some.ensures)

pub ascii-requires-2 : goal.ascii-requires-2
ascii-requires-2 g c = (none_escaped c.args.escapes.now c.loop-n.left.now (sym c.in_default.ensures)).1

pub loop-n-preserved : goal.loop-n-preserved
loop-n-preserved g c = λ plain.
    let so_far = c.loop-n.invariant plain in
    let run = has_written_of_eq _ _ _ _ _ c.ascii.ensures (c.write_str.ensures.writes so_far.1.plain (search rules)) in
    let code = c.write_code.ensures run.plain (search rules) in (
      so_far.0 ++ _,
      has_written_append _ _ _ _ _ _ so_far.1 (has_written_append _ _ _ _ _ _ run code),
      rw (take_rest c.loop-n.left.now (c.in-Some.n + 1)) (one_escaped c.args.escapes.now c.loop-n.left.now c.in-Some.n (sym c.in-Some.ensures) so_far.0 ∙ so_far.2),
    )

pub returns : goal.returns
returns g c = λ plain ok.
    let so_far = c.loop-n.invariant plain in
    let last = has_written_of_eq _ _ _ _ _ (c.ascii-2.ensures ∙ sym (none_escaped c.args.escapes.now c.loop-n.left.now (sym c.in_default.ensures)).0) (c.write_str-2.ensures.writes so_far.1.plain ok) in
    has_written_of_eq _ _ _ _ _ so_far.2 (has_written_append _ _ _ _ _ _ so_far.1 last)
