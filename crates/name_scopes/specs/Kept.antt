-- What is left of an environment where what was bound inside is given up.
use Rattle.std.specs.Prelude.{List, ℕ, Option, Some, None}
use denote.Ref.{Bor}
use Rattle.tree_model.specs.declared.text.Name.{Name}
use Rattle.query_terms.specs.declared.parts.Binding.{Binding}
use Rattle.query_terms.specs.Static.{Environment}

abbrev pub with_variables : List Name → Environment → Environment
with_variables names env = record { bindings = env.bindings; variables = names }

abbrev pub with_only : List Binding → Environment → Environment
with_only bindings env = record { bindings = bindings; variables = env.variables }

abbrev pub texts_in : Option (Bor (List ℕ)) → Option (List ℕ)
texts_in None = None
texts_in (Some text) = Some text.now
