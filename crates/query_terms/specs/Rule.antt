-- The forms of rule of a parsing expression grammar, and what a rule reads at a text: one case for each form. Texts are bytes in UTF-8.
use Rattle.std.specs.Prelude.{ℕ, zero, suc, ◌-◌, Bool, true, false, if◌then◌else◌, nat_eq, List, [], ◌∷◌, length, take, drop, Option, Some, None, Result, Ok, Err}
use Rattle.std.specs.List.{starts_with}
use Rattle.std.specs.Str.{chars}
use Rattle.std.specs.Char.{len_utf8}
use Rattle.tree_model.specs.declared.axis.Axis.{Axis}
use Rattle.query_terms.specs.declared.stop.Nest.{Nest}
use Rattle.query_terms.specs.declared.stop.Stop.{Stop}
use Rattle.query_terms.specs.declared.stop.Stop.TheVariants.{Refused, TooDeep, NoMemory}
use Rattle.query_terms.specs.declared.parts.QName.{QName}
use Rattle.query_terms.specs.declared.parts.Literal.{Literal}
use Rattle.query_terms.specs.declared.parts.Variable.{Variable}
use Rattle.query_terms.specs.declared.parts.NodeTest.{NodeTest}
use Rattle.query_terms.specs.declared.parts.Place.{Place}
use Rattle.query_terms.specs.declared.parts.Comparator.{Comparator}
use Rattle.query_terms.specs.declared.parts.Operator.{Operator}
use Rattle.query_terms.specs.declared.parts.Quantifier.{Quantifier}
use Rattle.query_terms.specs.declared.parts.ComputedKind.{ComputedKind}
use Rattle.query_terms.specs.declared.parts.UnnamedKind.{UnnamedKind}
use Rattle.query_terms.specs.declared.tree.Declaration.{Declaration}
use Rattle.query_terms.specs.declared.tree.Expr.{Expr}
use Rattle.query_terms.specs.declared.tree.Operand.{Operand}
use Rattle.query_terms.specs.declared.tree.PathStep.{PathStep}
use Rattle.query_terms.specs.declared.tree.Clause.{Clause}
use Rattle.query_terms.specs.declared.tree.OrderKey.{OrderKey}
use Rattle.query_terms.specs.declared.tree.Attribute.{Attribute}
use Rattle.query_terms.specs.declared.tree.Content.{Content}
use Rattle.query_terms.specs.declared.tree.QueryTree.{QueryTree}

abbrev pub Text : Type 0
Text = List ℕ

-- what a rule gives
pub data Value : Type 0 where
  nothing : Value  -- left out of a sequence
  absent : Value  -- of an option that isn't there
  both : Value → Value → Value
  empty : Value  -- of a repetition that is under way, the last item outermost
  more : Value → Value → Value
  list : Value → Value  -- of a whole repetition
  code : ℕ → Value  -- a character
  bad_code : ℕ → Value  -- a reference to a character that is none, by its place
  chunk : List ℕ → Option ℕ → Bool → Value  -- characters of an element's content, the place of a bad reference, and whether they are more than literal white space
  text : Text → Value
  flag : Bool → Value
  name : QName → Value
  literal : Literal → Value
  variable : Variable → Value
  axis : Axis → Value
  test : NodeTest → Value
  place : Place → Value
  comparator : Comparator → Value
  operator : Operator → Value
  quantifier : Quantifier → Value
  computed_kind : ComputedKind → Value
  unnamed_kind : UnnamedKind → Value
  term : Expr → Value
  terms : List Expr → Value
  operand : Operand → Value
  step : PathStep → Value
  steps : List PathStep → Value
  clause : Clause → Value
  clauses : List Clause → Value
  key : OrderKey → Value
  keys : List OrderKey → Value
  attribute : Attribute → Value
  attributes : List Attribute → Value
  content : Content → Value
  contents : List Content → Value
  declaration : Declaration → Value
  query : QueryTree → Value

-- what was read, and the text behind it
abbrev pub Outcome : Type 0
Outcome = Result (Value × Text) Stop

-- the rules that may call themselves: comments, and the nests of which at most 200 are open
pub data Recursion : Type 0 where
  comment : Recursion
  nested : Nest → Recursion

pub data Rule : Type 0 where
  word : Text → Rule
  any : Rule  -- one byte
  char : (ℕ → Bool) → Rule  -- one character that passes
  seq : Rule → Rule → Rule
  alt : Rule → Rule → Rule
  many : Rule → Rule
  opt : Rule → Rule
  not : Rule → Rule
  node : (ℕ → ℕ → Value → Value) → Rule → Rule  -- a value made of the one read, and of where it begins and ends
  read : (Text → Value → Value) → Rule → Rule  -- a value made of the text that is read, and of its value
  when : (Value → Bool) → Rule → Rule  -- the rule where its value passes
  call : Recursion → Rule

infixr 6 ◌~◌
abbrev pub ◌~◌ : Rule → Rule → Rule
a ~ b = seq a b

infixr 5 ◌//◌
abbrev pub ◌//◌ : Rule → Rule → Rule
a // b = alt a b

abbrev pub and_then : Outcome → (Value × Text → Outcome) → Outcome
and_then (Ok x) f = f x
and_then (Err stop) f = Err stop

-- the second where the first is refused
abbrev pub or_else : Outcome → Outcome → Outcome
or_else (Ok x) o = Ok x
or_else (Err Refused) o = o
or_else (Err TooDeep) o = Err TooDeep
or_else (Err NoMemory) o = Err NoMemory

abbrev pub unless : Outcome → Text → Outcome
unless (Ok x) s = Err Refused
unless (Err Refused) s = Ok (nothing, s)
unless (Err TooDeep) s = Err TooDeep
unless (Err NoMemory) s = Err NoMemory

abbrev pub is_nothing : Value → Bool
is_nothing nothing = true
is_nothing _ = false

abbrev pub join : Value → Value → Value
join v w = if is_nothing v then w else (if is_nothing w then v else both v w)

unfoldable pub word_at : Text → Text → Outcome
word_at w s = if starts_with nat_eq s w then Ok (nothing, drop (length w) s) else Err Refused

unfoldable pub any_at : Text → Outcome
any_at [] = Err Refused
any_at (c ∷ s) = Ok (nothing, s)

-- the first character of a text, and the text behind it
abbrev pub first_before : Text → Text → Option (ℕ × Text)
first_before [] s = None
first_before (c ∷ cs) s = Some (c, drop (len_utf8 c) s)

unfoldable pub first : Text → Option (ℕ × Text)
first s = first_before (chars s) s

abbrev pub passing : (ℕ → Bool) → Option (ℕ × Text) → Outcome
passing p None = Err Refused
passing p (Some x) = if p x.0 then Ok (code x.0, x.1) else Err Refused

-- a repetition goes on as often as it fits, and is tried at the end of the text too. Each turn that fits takes a byte at least, so the length bounds the turns
abbrev pub turn : (Value → Text → Outcome) → Value → Text → Outcome → Outcome
turn f v s (Ok x) = f (more v x.0) x.1
turn f v s (Err Refused) = Ok (v, s)
turn f v s (Err TooDeep) = Err TooDeep
turn f v s (Err NoMemory) = Err NoMemory

unfoldable pub turns : ℕ → (Text → Outcome) → Value → Text → Outcome
turns zero p v s = Ok (v, s)
turns (suc n) p v s = turn (turns n p) v s (p s)

abbrev pub listed : Value × Text → Outcome
listed x = Ok (list x.0, x.1)

-- in a text of so many bytes, where the recursive rules read so
abbrev pub fits : ℕ → (Recursion → Text → Outcome) → Rule → Text → Outcome
fits total recursions (word w) s = word_at w s
fits total recursions any s = any_at s
fits total recursions (char p) s = passing p (first s)
fits total recursions (seq a b) s = and_then (fits total recursions a s) (λ x. and_then (fits total recursions b x.1) (λ y. Ok (join x.0 y.0, y.1)))
fits total recursions (alt a b) s = or_else (fits total recursions a s) (fits total recursions b s)
fits total recursions (many r) s = and_then (turns (suc (length s)) (fits total recursions r) empty s) listed
fits total recursions (opt r) s = or_else (fits total recursions r s) (Ok (absent, s))
fits total recursions (not r) s = unless (fits total recursions r s) s
fits total recursions (node f r) s = and_then (fits total recursions r s) (λ x. Ok (f (total - length s) (total - length x.1) x.0, x.1))
fits total recursions (read f r) s = and_then (fits total recursions r s) (λ x. Ok (f (take (length s - length x.1) s) x.0, x.1))
fits total recursions (when p r) s = and_then (fits total recursions r s) (λ x. if p x.0 then Ok x else Err Refused)
fits total recursions (call k) s = recursions k s
