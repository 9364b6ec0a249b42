use Rattle.std.proofs.Common.{sym, ◌∙◌, [], ◌<◌, length, get_or, refl, rules}
use Rattle.xml_rows.specs.Known.{Key}
use Rattle.xml_rows.specs.declared.tag.Expanded.{Expanded}
use Rattle.xml_rows.proofs.Keyed.{seen_here, seen_more}
use Rattle.xml_rows.proofs.expanded.many_twice.Goals as goal

abbrev nothing : Expanded
nothing = record { uri = 0; local = record { ref_ptr = (0, 0); now = [] } }

pub returns-then-not-is_new : goal.returns-then-not-is_new
returns-then-not-is_new c =
    let one = get_or c.args.found.now c.loop-one.one-index nothing in
    let key : Key = (one.uri, one.local) in
    let lt : one.uri < length c.args.names.now.uris = search rules in
    seen_here c.args.names.now.uris c.args.found.now c.loop-one.seen.keys c.loop-one.one-index _ key nothing c.uri_count-distinct.ensures.distinct c.loop-one-test.true lt refl c.loop-one.invariant (sym c.if-not-is_new.true ∙ c.in_ok-is_new.ensures.added)

pub loop-one-preserved : goal.loop-one-preserved
loop-one-preserved c =
    let one = get_or c.args.found.now c.loop-one.one-index nothing in
    let key : Key = (one.uri, one.local) in
    let lt : one.uri < length c.args.names.now.uris = search rules in
    seen_more c.args.names.now.uris c.args.found.now c.loop-one.seen.keys c.insert_full.new.self.keys c.loop-one.one-index _ key nothing c.uri_count-distinct.ensures.distinct c.loop-one-test.true lt refl c.loop-one.invariant (sym c.if-not-is_new.false ∙ c.in_ok-is_new.ensures.added)
    c.in_ok-is_new.ensures.keys
