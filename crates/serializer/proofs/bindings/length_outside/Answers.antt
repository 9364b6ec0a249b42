use Rattle.std.proofs.Common.{◌==◌, reverse, arith, rules, tests}
use Rattle.std.proofs.lemmas.Iterator.Consumers.{count_from_yields_List}
use Rattle.std.proofs.lemmas.Iterator.Adapters.{YieldsList-from_rev_slice}
use Rattle.std.proofs.lemmas.Iterator.Search.{YieldsList-from_take_while}
use Rattle.std.proofs.lemmas.List.Folds.{length-prefix_len}
use Rattle.std.proofs.lemmas.List.Sums.{suffix_len-le-length}
use Rattle.serializer.specs.declared.bindings.Binding.{Binding}
use Rattle.serializer.proofs.bindings.length_outside.Goals as goal

pub returns : goal.returns
returns c =
    let bindings = c.args.bindings.now in
    let at = λ (b : Binding). b.place == c.args.place in
    let own = count_from_yields_List _ c.count.result c.count.ensures.ran (YieldsList-from_take_while _ at (YieldsList-from_rev_slice bindings cc) c.take_while-own.ensures.closure c.take_while-own.ensures.done (λ x b q k. search (rules, tests))) in
    omega (arith, own, length-prefix_len at (reverse bindings), suffix_len-le-length at bindings)
