-- What an attribute declares.
use Rattle.std.specs.Prelude.{ℕ, List, [], ◌∷◌, map, Option, Some, None}
use Rattle.query_terms.specs.declared.parts.Binding.{Binding}
use Rattle.query_terms.specs.declared.tree.Clause.TheOpen.{Content-F}
use Rattle.query_terms.specs.declared.tree.Clause.TheViews.{out-Content}
use Rattle.query_terms.specs.declared.tree.Attribute.{Attribute, out-Attribute}
use Rattle.query_terms.specs.declared.tree.Clause.{Clause}
use Rattle.query_terms.specs.declared.tree.Content.{Content}
use Rattle.query_terms.specs.declared.tree.Expr.{Expr}
use Rattle.query_terms.specs.declared.tree.Operand.{Operand}
use Rattle.query_terms.specs.declared.tree.OrderKey.{OrderKey}
use Rattle.query_terms.specs.declared.tree.PathStep.{PathStep}
use Rattle.query_terms.specs.Static.{declared_by}

-- the characters of a part of content, by what it is made of
abbrev pub characters_in : Content-F Clause Content Expr Attribute Operand OrderKey PathStep → List ℕ
characters_in (Content-F.Characters literal) = literal.text
characters_in (Content-F.Enclosed body) = []
characters_in (Content-F.Constructor body) = []

abbrev pub text_of : Content → List ℕ
text_of c = characters_in (out-Content c)

abbrev pub declared_of : Attribute → List Binding
declared_of a = declared_by (out-Attribute a).name.name (out-Attribute a).written (map text_of (out-Attribute a).value)

abbrev pub listed : {A : Type 0} → Option A → List A
listed None = []
listed (Some x) = x ∷ []
