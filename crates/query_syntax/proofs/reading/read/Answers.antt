use Rattle.std.proofs.Common.{refl, sym, ◌∙◌}
use Rattle.query_terms.specs.Parse.{limit}
use Rattle.query_syntax.proofs.Readings.{read_is}
use Rattle.query_syntax.proofs.reading.read.Goals as goal

pub returns-in-Ok : goal.returns-in-Ok
returns-in-Ok c =
    let same = read_is (record { query = c.args.text; comment_ends = c.as_slice.result; room = limit }) c.in_ok-ends.ends.items refl c.as_slice.ensures.value c.in_ok-ends.ensures in
    (c.in-Ok.field-0-1.now, sym same ∙ c.in-Ok.ensures)

pub returns : goal.returns
returns c other =
    let same = read_is (record { query = c.args.text; comment_ends = c.as_slice.result; room = limit }) c.in_ok-ends.ends.items refl c.as_slice.ensures.value c.in_ok-ends.ensures in
    sym same ∙ c.in-Err.ensures other
