-- What a function that reads by a rule ensures, and what it read stands for.
use Rattle.std.specs.Prelude.{◌≡◌, ℕ, zero, suc, ◌-◌, Bool, ◌&&◌, ◌==◌, nat_lt, if◌then◌else◌, List, [], length, drop, slice_index, option_map, Option, Some, None, Ok, Err, codes}
use denote.Ref.{Bor}
use Rattle.std.specs.Char.{is_ascii_digit, is_ascii_hexdigit}
use Rattle.tree_model.specs.XmlChars.{is_space, is_name_start_char, is_inner_name_char}
use Rattle.query_terms.specs.declared.stop.Stop.TheVariants.{Refused}
use Rattle.query_terms.specs.declared.parts.QName.{QName}
use Rattle.query_terms.specs.declared.parts.Literal.{Literal}
use Rattle.query_terms.specs.declared.parts.Variable.{Variable}
use Rattle.query_terms.specs.declared.parts.NodeTest.{NodeTest}
use Rattle.query_terms.specs.declared.parts.NodeTest.TheVariants as tests
use Rattle.query_terms.specs.declared.tree.Expr.{Expr}
use Rattle.query_terms.specs.declared.tree.Expr.TheVariants as exprs
use Rattle.query_terms.specs.Rule.{Text, Value, nothing, absent, code, bad_code, text, name, literal, variable, test, term, Outcome, Recursion, Rule, many, and_then, word_at, fits}
use Rattle.query_terms.specs.Lexis.{any_comment, items_of, spelled, first_bad, string_char}
use Rattle.query_terms.specs.Parse.{recursions, opened}
use Rattle.query_tokens.specs.declared.source.QuerySource.{QuerySource}
use Rattle.query_tokens.specs.declared.class.CharClass.{CharClass}
use Rattle.query_tokens.specs.declared.class.CharClass.TheVariants as class
use Rattle.query_tokens.specs.declared.written.Quote.{Quote}
use Rattle.query_tokens.specs.declared.written.Quote.TheVariants as quotes
use Rattle.query_tokens.specs.declared.written.WrittenChar.{WrittenChar}
use Rattle.query_tokens.specs.declared.written.WrittenChar.TheVariants as chars
use Rattle.query_tokens.specs.declared.written.WrittenName.{WrittenName}
use Rattle.query_tokens.specs.declared.written.WrittenVariable.{WrittenVariable}
use Rattle.query_tokens.specs.declared.written.WrittenNumber.{WrittenNumber}
use Rattle.query_tokens.specs.declared.written.WrittenString.{WrittenString}
use Rattle.query_tokens.specs.declared.written.Target.{Target}
use Rattle.query_tokens.specs.declared.written.Target.TheVariants as targets
use Rattle.query_tokens.specs.declared.written.WrittenTest.{WrittenTest}
use Rattle.query_tokens.specs.declared.written.WrittenTest.TheVariants as written
use Rattle.query_tokens.specs.declared.written.WrittenStep.{WrittenStep}

-- ---- comments by a table of where they end

-- all but so many bytes, where a closing parenthesis stands in front of these
abbrev pub behind : ℕ → Text → Outcome
behind left s = if nat_lt left (length s) && slice_index s (length s - left - 1) == 41 then Ok (nothing, drop (length s - left) s) else Err Refused

abbrev pub closed : ℕ → Text → Outcome
closed zero s = Err Refused
closed (suc left) s = behind left s

-- a comment by a table that has, at each length of a text that begins inside a comment, how many bytes stand behind the end of the comment, and one more
abbrev pub looked_up : List ℕ → Text → Outcome
looked_up comment_ends s = and_then (word_at (codes "(:") s) (λ x. closed (slice_index comment_ends (length x.1)) x.1)

-- the table is right for each part of the query that goes to its end
abbrev pub AreCommentEnds : Text → List ℕ → Type 0
AreCommentEnds query comment_ends = (n : ℕ) → looked_up comment_ends (drop n query) ≡ any_comment (drop n query)

-- a text that goes to the end of another
abbrev pub IsRestOf : Text → Text → Type 0
IsRestOf s t = (n : ℕ) × (t ≡ drop n s)

-- ---- what a function ensures

-- how the recursive rules read in a query, where so many more nests may be opened as the source says
unfoldable pub reading : QuerySource → Recursion → Text → Outcome
reading source = recursions (looked_up source.comment_ends.now) (opened (length source.query.now) (looked_up source.comment_ends.now) source.room)

-- what a rule reads in a query, at a text
abbrev pub at : QuerySource → Rule → Text → Outcome
at source r s = fits (length source.query.now) (reading source) r s

-- a function whose answers stand for such values
abbrev pub Reads : {A : Type 0} → (A → Value) → Outcome → Option (A × Bor Text) → Type 0
Reads f o (Some x) = o ≡ Ok (f x.0, x.1.now)
Reads f o None = o ≡ Err Refused

-- one that gives nothing but the text behind
abbrev pub Passes : Outcome → Option (Bor Text) → Type 0
Passes o (Some s) = o ≡ Ok (nothing, s.now)
Passes o None = o ≡ Err Refused

-- ---- what was read, and what it stands for

-- a character and the text behind it
abbrev pub with_rest : ℕ × Bor Text → ℕ × Text
with_rest x = (x.0, x.1.now)

abbrev pub in_class : CharClass → ℕ → Bool
in_class class.Space = is_space
in_class class.NameStart = is_name_start_char
in_class class.NameChar = is_inner_name_char
in_class class.Digit = is_ascii_digit
in_class class.HexDigit = is_ascii_hexdigit

abbrev pub shown : Bor Text → Value
shown s = text s.now

abbrev pub as_char : WrittenChar → Value
as_char (chars.Character c) = code c
as_char (chars.BadReference place) = bad_code place

abbrev pub quote_code : Quote → ℕ
quote_code quotes.Double = 34
quote_code quotes.Single = 39

abbrev pub name_written : WrittenName → QName
name_written w = record { span = w.span; name = record { uri = []; prefix = w.prefix.now; local = w.local.now } }

abbrev pub as_name : WrittenName → Value
as_name w = name (name_written w)

abbrev pub variable_written : WrittenVariable → Variable
variable_written w = record { span = w.span; name = name_written w.name }

abbrev pub as_variable : WrittenVariable → Value
as_variable w = variable (variable_written w)

abbrev pub number_written : WrittenNumber → Expr
number_written w = exprs.Number w.span w.text.now

abbrev pub as_number : WrittenNumber → Value
as_number w = term (number_written w)

-- the characters of a repetition, as a literal
abbrev pub literal_in : Value → Literal
literal_in v = record { text = spelled v; bad_reference = first_bad v }

abbrev pub body_of : Outcome → Literal
body_of (Ok x) = literal_in (items_of x.0)
body_of (Err stop) = record { text = []; bad_reference = None }

-- a string, of which the text behind its opening quote is known
abbrev pub quoted_literal : QuerySource → Quote → Text → Literal
quoted_literal source quote s = body_of (at source (many (string_char (quote_code quote))) s)

abbrev pub string_written : QuerySource → WrittenString → Literal
string_written source w = quoted_literal source w.quote w.body.now

abbrev pub as_literal : QuerySource → WrittenString → Value
as_literal source w = literal (string_written source w)

abbrev pub target_written : QuerySource → Target → Literal
target_written source (targets.Name s) = record { text = s.now; bad_reference = None }
target_written source (targets.Quoted w) = string_written source w

abbrev pub as_target : QuerySource → Target → Value
as_target source t = literal (target_written source t)

abbrev pub as_maybe_target : QuerySource → Option Target → Value
as_maybe_target source None = absent
as_maybe_target source (Some t) = as_target source t

abbrev pub as_maybe_name : Option WrittenName → Value
as_maybe_name None = absent
as_maybe_name (Some w) = as_name w

abbrev pub as_maybe_text : Option (Bor Text) → Value
as_maybe_text None = absent
as_maybe_text (Some s) = text s.now

abbrev pub test_written : QuerySource → WrittenTest → NodeTest
test_written source written.Node = tests.Node
test_written source written.Text = tests.Text
test_written source written.Comment = tests.Comment
test_written source written.Document = tests.Document
test_written source (written.Instruction target) = tests.Instruction (option_map (target_written source) target)
test_written source (written.Element w) = tests.Element (option_map name_written w)
test_written source (written.Attribute w) = tests.Attribute (option_map name_written w)
test_written source written.Any = tests.Any
test_written source (written.LocalName s) = tests.LocalName s.now
test_written source (written.Namespace w) = tests.Namespace (name_written w)
test_written source (written.Name w) = tests.Name (name_written w)

abbrev pub as_test : QuerySource → WrittenTest → Value
as_test source t = test (test_written source t)

abbrev pub step_written : QuerySource → WrittenStep → Expr
step_written source s = exprs.AxisStep s.span s.axis (test_written source s.test) None

abbrev pub as_step : QuerySource → WrittenStep → Value
as_step source s = term (step_written source s)
