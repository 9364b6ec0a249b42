use Rattle.doc_store.specs.Moving.{HasMore}
use Rattle.doc_store.proofs.Numbers.{AreFirst}
use Rattle.doc_store.proofs.rows.numbers_among.Given as goal

abbrev pub invariant-loop-n : goal.invariant-loop-n
invariant-loop-n l = record { grown : HasMore l.fn.names l.names; first : AreFirst l.names l.others l.numbers.items l.n }
