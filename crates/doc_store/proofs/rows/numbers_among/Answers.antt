use Rattle.std.proofs.Common.{◌+◌, subst, sym}
use Rattle.doc_store.proofs.Numbers.{named_more, first_more, AreFirst}
use Rattle.doc_store.proofs.rows.numbers_among.Goals as goal

pub returns-in_err-push-clause-grown : goal.returns-in_err-push-clause-grown
returns-in_err-push-clause-grown c = named_more c.name.result.now c.loop-n.invariant.grown c.in_ok-number.ensures.grown

pub loop-n-preserved : goal.loop-n-preserved
loop-n-preserved c = record {
  grown = named_more c.name.result.now c.loop-n.invariant.grown c.in_ok-number.ensures.grown;
  first = subst (λ numbers. AreFirst c.intern.new.self c.args.others.now numbers (c.loop-n.n + 1)) (sym c.in_ok-push.ensures.items)
      (first_more c.name.result.now c.in_ok-number.number c.loop-n.invariant.first c.in_ok-number.ensures.grown c.in_ok-number.ensures.number c.name.ensures);
}
