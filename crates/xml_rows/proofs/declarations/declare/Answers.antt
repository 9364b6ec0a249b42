use Rattle.std.proofs.Common.{sym, ◌∙◌, ap, ◌∷◌, [], length, arith}
use Rattle.std.proofs.lemmas.List.{drop_more, drop_all}
use Rattle.tree_model.specs.XmlMeaning.{is_bad_binding}
use Rattle.xml_rows.specs.Scoping.{binding, scope_in}
use Rattle.xml_rows.specs.declared.tag.Pair.{Pair}
use Rattle.xml_rows.proofs.Declaring.{pairs_step, bad_step, bad_step_plain, plain_step, plain_step_plain, with_step, with_step_plain, with_none, plain_none, kept_step, kept_step_plain, kept_last}
use Rattle.xml_rows.proofs.Growing.{begins_twice}
use Rattle.xml_rows.proofs.declarations.declare.Goals as goal

abbrev nothing : Pair
nothing = record { name = record { ref_ptr = (0, 0); now = [] }; val = record { at = 0; len = 0 } }

pub loop-pair-preserved-in_default : goal.loop-pair-preserved-in_default
loop-pair-preserved-in_default c =
    let is = drop_more c.args.pairs.now c.loop-pair.pair-index nothing c.loop-pair-test.true in
    let keeps = c.loop-pair.invariant in
    record {
      few = omega (arith, keeps.few);
      pairs = pairs_step _ _ _ _ is keeps.pairs;
      bad = bad_step_plain _ _ _ _ _ _ is c.in_default.ensures keeps.bad;
      plain = plain_step_plain _ _ _ _ _ _ is c.in_default.ensures keeps.plain;
      settled = keeps.settled;
      kept = kept_step_plain _ _ _ _ _ _ is c.in_default.ensures keeps.kept;
      scope = with_step_plain _ _ _ _ _ _ is c.in_default.ensures keeps.scope;
      outer = keeps.outer;
      names = keeps.names;
      grown = keeps.grown;
      uris = keeps.uris;
    }

pub loop-pair-preserved : goal.loop-pair-preserved
loop-pair-preserved c =
    let is = drop_more c.args.pairs.now c.loop-pair.pair-index nothing c.loop-pair-test.true in
    let keeps = c.loop-pair.invariant in
    let made = c.in_ok-is_bad.ensures in
    let kept = c.in_ok-keep.ensures in
    let uri = rw keeps.settled at c.get.ensures in
    let more = rw keeps.settled at kept.pending in
    record {
      few = omega (arith, keeps.few);
      pairs = pairs_step _ _ _ _ is keeps.pairs;
      bad = bad_step _ _ _ _ _ _ _ _ is c.in-Some.ensures (made.bad ∙ ap (is_bad_binding c.in-Some.prefix.now) uri) keeps.bad;
      plain = plain_step _ _ _ _ _ _ _ is c.in-Some.ensures keeps.plain;
      settled = kept.settled ∙ keeps.settled;
      kept = kept_step _ _ _ _ _ _ _ _ is c.in-Some.ensures more keeps.kept;
      scope = with_step _ _ _ _ _ _ _ _ is c.in-Some.ensures (made.scope ∙ ap (λ v. binding c.in-Some.prefix.now v ∷ scope_in c.loop-pair.names.uris c.loop-pair.scopes.scope) uri) keeps.scope;
      outer = made.outer ∙ keeps.outer;
      names = made.names ∙ keeps.names;
      grown = begins_twice _ _ _ keeps.grown made.grown;
      uris = made.uris;
    }

pub returns-clause-plain : goal.returns-clause-plain
returns-clause-plain c =
    let left = drop_all c.loop-pair.pair-index c.args.pairs.now c.loop-pair-test.false in
    omega (arith, c.loop-pair.invariant.plain, ap length (plain_none c.args.values.now.settled _ left))

pub returns-clause-scope : goal.returns-clause-scope
returns-clause-scope c =
    let left = drop_all c.loop-pair.pair-index c.args.pairs.now c.loop-pair-test.false in
    sym (with_none c.args.values.now.settled _ _ left) ∙ c.loop-pair.invariant.scope

pub returns-clause-kept : goal.returns-clause-kept
returns-clause-kept c = kept_last _ _ _ _ (drop_all c.loop-pair.pair-index c.args.pairs.now c.loop-pair-test.false) c.loop-pair.invariant.kept
