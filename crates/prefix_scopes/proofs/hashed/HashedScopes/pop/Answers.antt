use Rattle.std.proofs.Common.{reverse, is_some, ap, sym, ◌∙◌}
use Rattle.std.proofs.lemmas.Bool.{false≢true}
use Rattle.std.specs.Option.{option_copied_mut}
use Rattle.indexmap.specs.IndexMap.{get}
use Rattle.prefix_scopes.specs.Places.{is_same_prefix}
use Rattle.prefix_scopes.proofs.Placing.{placed_push, placed_pop, innermost_some}
use Rattle.prefix_scopes.proofs.hashed.HashedScopes.pop.Goals as goal
use Rattle.prefix_scopes.proofs.hashed.HashedScopes.pop.Goals.{in-Some-get_mut, in_default-get_mut}

pub invariant_of-self-2 : goal.invariant_of-self-2
invariant_of-self-2 c =
    let b = c.in-Some.binding in
    let outer = reverse c.pop.new.self.items in
    let look = get is_same_prefix c.self.inside.innermost in
    let placed = placed_push look c.pop.new.self.items c.self.inside.bindings.items b c.in-Some.ensures.items c.self.invariant in
    let some = innermost_some look b outer placed in
    elim c.match-get_mut.branch [
      | in-Some-get_mut w ↦ rw w.self-inside-is (placed_pop look _ b outer placed ((c.get_mut.follows.holds b.before).3 some).0)
      | in_default-get_mut w ↦ absurd (false≢true (sym (ap is_some (sym c.get_mut.ensures.value ∙ ap option_copied_mut w.in_default-get_mut.is)) ∙ some))
    ]
