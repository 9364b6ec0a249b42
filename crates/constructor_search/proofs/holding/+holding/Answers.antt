use Rattle.std.proofs.Common.{◌≡◌, ap, sym, ◌∙◌, Bool, false, rules, map, option_map}
use Rattle.std.specs.Prelude.{◌||◌}
use Rattle.query_terms.specs.Constructors.{some, maybe, holding, holds_constructor}
use Rattle.query_terms.specs.Folds.{clause_value, key_value}
use Rattle.query_terms.proofs.Folds.{flwor_is}
use Rattle.constructor_search.proofs.holding.+holding.Goals as goal

or_last : (a b c d : Bool) → a ≡ false → b ≡ false → c ≡ false → (a || b || c || d) ≡ d
or_last a b c d x y z = ap (λ (k : Bool). k || b || c || d) x ∙ ap (λ (k : Bool). k || c || d) y ∙ ap (λ (k : Bool). k || d) z

pub holds_constructor-returns-else-any_key : goal.holds_constructor-returns-else-any_key
holds_constructor-returns-else-any_key t c =
    let in_clauses : some (map (clause_value holding) c.in-Flwor.clauses) ≡ false = search rules in
    let in_condition : maybe (option_map holds_constructor c.in-Flwor.condition) ≡ false = search rules in
    let in_order : some (map (key_value holding) c.in-Flwor.order) ≡ false = search rules in
    c.holds_constructor-in-Flwor.ensures ∙ ap holds_constructor c.get-in-Flwor.ensures
    ∙ sym (ap holds_constructor c.in-Flwor.is ∙ flwor_is holding c.in-Flwor.span c.in-Flwor.clauses c.in-Flwor.condition c.in-Flwor.order c.in-Flwor.result
    ∙ or_last _ _ _ _ in_clauses in_condition in_order)
