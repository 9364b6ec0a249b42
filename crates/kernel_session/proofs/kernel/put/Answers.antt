use Rattle.std.proofs.Common.{◌∙◌, ap, sym, subst, map, List}
use Rattle.std.specs.List.{remove}
use Rattle.doc_store.specs.Stored.{Stored, base_of}
use Rattle.kernel_session.specs.Databases.{AreWhole}
use Rattle.kernel_session.proofs.Bases.{bases_new, bases_over, whole_more, whole_less}
use Rattle.kernel_session.proofs.kernel.put.Goals as goal

pub returns-in_default-clause-put : goal.returns-in_default-clause-put
returns-in_default-clause-put c =
    let told = rw (c.as_str.ensures, c.name.ensures, c.as_slice.ensures.value) at c.in_default.ensures in
    ap (map base_of) c.in_ok-push.ensures.items ∙ bases_new c.args.databases.now.items c.args.database told

pub returns-in_default-clause-whole : goal.returns-in_default-clause-whole
returns-in_default-clause-whole c = subst AreWhole (sym c.in_ok-push.ensures.items) (whole_more c.args.databases.now.items c.args.database c.requires.whole c.requires.own)

pub returns-clause-put : goal.returns-clause-put
returns-clause-put c =
    let told = rw (c.as_str.ensures, c.name.ensures, c.as_slice.ensures.value) at c.in-Some.ensures in
    ap (map base_of) (c.remove.ensures.items ∙ ap (λ l. remove l c.in-Some.place) c.in_ok-push.ensures.items) ∙ bases_over c.args.databases.now.items c.args.database c.in-Some.place c.requires.distinct told

pub returns-clause-whole : goal.returns-clause-whole
returns-clause-whole c =
    subst AreWhole (sym (c.remove.ensures.items ∙ ap (λ (l : List Stored). remove l c.in-Some.place) c.in_ok-push.ensures.items))
    (whole_less _ c.in-Some.place (whole_more c.args.databases.now.items c.args.database c.requires.whole c.requires.own))
