use Rattle.std.proofs.Common.{arith, sym}
use Rattle.std.proofs.lemmas.List.{get_or_past}
use Rattle.paged_seq.proofs.Packing.{size_some, size_few}
use Rattle.paged_seq.proofs.Places.{many_places, size_at_place}
use Rattle.paged_seq.proofs.directory.right_size.Goals as goal

pub overflow_sub-result : goal.overflow_sub-result
overflow_sub-result c = omega (arith, size_at_place _ _ _ c.requires c.if-k-firsts.true, c.place.ensures, c.place-then-k-firsts.ensures)

pub returns-then-k-firsts-clause-size : goal.returns-then-k-firsts-clause-size
returns-then-k-firsts-clause-size c w = omega (arith, size_at_place _ _ _ w c.if-k-firsts.true, c.place.ensures, c.place-then-k-firsts.ensures)

pub returns-then-k-firsts-clause-some : goal.returns-then-k-firsts-clause-some
returns-then-k-firsts-clause-some c =
    omega (arith, size_at_place _ _ _ c.requires c.if-k-firsts.true, c.place.ensures, c.place-then-k-firsts.ensures, size_some c.requires.sizes c.args.k c.requires.fit)

pub returns-then-k-firsts-clause-few : goal.returns-then-k-firsts-clause-few
returns-then-k-firsts-clause-few c =
    omega (arith, size_at_place _ _ _ c.requires c.if-k-firsts.true, c.place.ensures, c.place-then-k-firsts.ensures, size_few c.requires.sizes c.args.k c.requires.fit)

pub returns-else-k-firsts-clause-size : goal.returns-else-k-firsts-clause-size
returns-else-k-firsts-clause-size c w = sym (get_or_past w.sizes c.args.k 256 (omega (arith, many_places _ _ w, c.if-k-firsts.false)))
