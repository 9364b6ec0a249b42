-- What is bound inside an expression is given up behind it.
use Rattle.std.proofs.Common.{◌≡◌, ℕ, List, [], ◌∷◌, ◌++◌, map, length, take, refl, ap, sym, ◌∙◌, append_assoc, append-nil, Some, None}
use Rattle.std.proofs.Math.Seq.{take-append_seam}
use Rattle.tree_model.specs.declared.text.Name.{Name}
use Rattle.query_terms.specs.declared.parts.QName.{QName}
use Rattle.query_terms.specs.declared.tree.Attribute.{Attribute, out-Attribute}
use Rattle.query_terms.specs.declared.tree.Clause.{Clause}
use Rattle.query_terms.specs.declared.tree.Clause.TheOpen.{Clause-F, Content-F}
use Rattle.query_terms.specs.declared.tree.Clause.TheFolds.{map-Clause, map-Content}
use Rattle.query_terms.specs.declared.tree.Clause.TheViews.{out-Clause, out-Content, roll-out-Clause, roll-out-Content}
use Rattle.query_terms.specs.declared.tree.Content.{Content}
use Rattle.query_terms.specs.declared.tree.Expr.{Expr}
use Rattle.query_terms.specs.declared.tree.Operand.{Operand}
use Rattle.query_terms.specs.declared.tree.OrderKey.{OrderKey}
use Rattle.query_terms.specs.declared.tree.PathStep.{PathStep}
use Rattle.query_terms.specs.Static.{attribute, AttributeMeaning, bound_names, clause, ClauseMeaning, clauses_behind, content, ContentMeaning, declared_in, element, Environment, faults, finding, for_behind, in_clause, in_content, in_element, key, Meaning, operand, step, with_bindings, with_variable}
use Rattle.name_scopes.specs.Kept.{with_variables}
use Rattle.name_scopes.specs.Declares.{characters_in, declared_of, text_of}
use Rattle.query_terms.proofs.Folds.{attribute_is, clause_roll, content_roll}

-- ---- declarations

text_by : (x : Content-F Clause Content Expr Attribute Operand OrderKey PathStep) → (in_content (map-Content Clause Content Expr Attribute Operand OrderKey PathStep ClauseMeaning ContentMeaning Meaning AttributeMeaning Meaning Meaning Meaning clause content faults attribute operand key step x)).text ≡ characters_in x
text_by (Content-F.Characters l) = refl
text_by (Content-F.Enclosed body) = refl
text_by (Content-F.Constructor body) = refl

text_is : (c : Content) → (content c).text ≡ text_of c
text_is c = ap (λ (m : ContentMeaning). m.text) (ap content (sym (roll-out-Content c)) ∙ content_roll finding (out-Content c)) ∙ text_by (out-Content c)

text_same : (xs : List Content) → map (λ (c : ContentMeaning). c.text) (map content xs) ≡ map text_of xs
text_same [] = refl
text_same (c ∷ xs) = rw (text_is c) (ap (λ z. text_of c ∷ z) (text_same xs))

pub declared_same : (xs : List Attribute) → map (λ (a : AttributeMeaning). a.declared) (map attribute xs) ≡ map declared_of xs
declared_same [] = refl
declared_same (a ∷ xs) = rw (attribute_is finding a, text_same (out-Attribute a).value) (ap (λ z. declared_of a ∷ z) (declared_same xs))

pub element_is : (q : QName) (xs : List Attribute) (cs : List ContentMeaning) (env inner : Environment) →
    inner ≡ with_bindings (declared_in (map declared_of xs)) env → in_element q (map attribute xs) cs inner ≡ element q (map attribute xs) cs env
unfolding element
element_is q xs cs env inner inner_is =
    ap (in_element q (map attribute xs) cs) (inner_is ∙ ap (λ ds. with_bindings (declared_in ds) env) (sym (declared_same xs)))

-- ---- variables

abbrev behind_by : Clause-F Clause Content Expr Attribute Operand OrderKey PathStep → Environment → Environment
behind_by (Clause-F.For v position source) = for_behind v position
behind_by (Clause-F.Let v value) = with_variable v

behind_same : (x : Clause-F Clause Content Expr Attribute Operand OrderKey PathStep) → (in_clause (map-Clause Clause Content Expr Attribute Operand OrderKey PathStep ClauseMeaning ContentMeaning Meaning AttributeMeaning Meaning Meaning Meaning clause content faults attribute operand key step x)).behind ≡ behind_by x
behind_same (Clause-F.For v position source) = refl
behind_same (Clause-F.Let v value) = refl

behind_is : (c : Clause) → (clause c).behind ≡ behind_by (out-Clause c)
behind_is c = ap (λ (m : ClauseMeaning). m.behind) (ap clause (sym (roll-out-Clause c)) ∙ clause_roll finding (out-Clause c)) ∙ behind_same (out-Clause c)

-- a clause adds variables alone
adds_by : (x : Clause-F Clause Content Expr Attribute Operand OrderKey PathStep) (env : Environment) → (names : List Name) × (behind_by x env ≡ with_variables (env.variables ++ names) env)
unfolding with_variable for_behind
adds_by (Clause-F.For v None source) env = (bound_names env.bindings v, refl)
adds_by (Clause-F.For v (Some p) source) env = (
  bound_names env.bindings v ++ bound_names env.bindings p,
  ap (λ names. with_variables names env) (append_assoc env.variables (bound_names env.bindings v) (bound_names env.bindings p)),
)
adds_by (Clause-F.Let v value) env = (bound_names env.bindings v, refl)

adds : (c : Clause) (env : Environment) → (names : List Name) × ((clause c).behind env ≡ with_variables (env.variables ++ names) env)
adds c env = let x = adds_by (out-Clause c) env in (x.0, ap (λ (f : Environment → Environment). f env) (behind_is c) ∙ x.1)

all_add : (cs : List Clause) (env : Environment) → (names : List Name) × (clauses_behind (map clause cs) env ≡ with_variables (env.variables ++ names) env)
unfolding clauses_behind
all_add [] env = ([], ap (λ names. with_variables names env) (sym (append-nil env.variables)))
all_add (c ∷ cs) env =
    let first : (names : List Name) × ((clause c).behind env ≡ with_variables (env.variables ++ names) env) = adds c env in
    let more = all_add cs (with_variables (env.variables ++ first.0) env) in (
      first.0 ++ more.0,
      ap (clauses_behind (map clause cs)) first.1 ∙ more.1
          ∙ ap (λ names. with_variables names env) (append_assoc env.variables first.0 more.0),
    )

-- so that they are given up by their number
pub variables_kept : (cs : List Clause) (env inner kept : Environment) (n : ℕ) → n ≡ length env.variables → inner ≡ clauses_behind (map clause cs) env →
    kept ≡ with_variables (take n inner.variables) inner → kept ≡ env
variables_kept cs env inner kept n n_is inner_is kept_is =
    let added = all_add cs env in
    kept_is ∙ ap (λ (x : Environment). with_variables (take n x.variables) x) (inner_is ∙ added.1)
    ∙ ap (λ k. with_variables (take k (env.variables ++ added.0)) env) n_is
    ∙ ap (λ names. with_variables names env) (take-append_seam env.variables added.0)
