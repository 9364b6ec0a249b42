-- The lexical rules of XQuery 1.0 (appendix A.2): blanks, comments, names, numbers and strings. Each gives what it means.
use Rattle.std.specs.Prelude.{ℕ, zero, suc, Bool, true, false, not as not_bool, if◌then◌else◌, ◌||◌, ◌==◌, [], ◌∷◌, ◌++◌, length, Option, Some, None, Err, codes}
use Rattle.std.specs.Char.{encode_utf8, is_ascii_digit, is_ascii_hexdigit}
use Rattle.tree_model.specs.XmlChars.{is_space, is_xml_char, is_name_start_char, is_inner_name_char}
use Rattle.tree_model.specs.XmlGood.{number_from}
use Rattle.query_terms.specs.declared.stop.Nest.TheVariants as nests
use Rattle.query_terms.specs.declared.stop.Stop.TheVariants.{Refused}
use Rattle.query_terms.specs.declared.parts.Span.{Span}
use Rattle.query_terms.specs.declared.parts.QName.{QName}
use Rattle.query_terms.specs.declared.parts.Literal.{Literal}
use Rattle.query_terms.specs.declared.parts.Variable.{Variable}
use Rattle.query_terms.specs.declared.tree.Expr.TheVariants as exprs
use Rattle.query_terms.specs.Rule.{Text, Value, nothing, absent, both, empty, more, list, code, bad_code, text, name, literal, variable, term, Outcome, comment, nested, Rule, word, any, char, many, opt, not, node, read, call, ◌~◌, ◌//◌, fits}

-- ---- parts of values

abbrev pub left : Value → Value
left (both v w) = v
left _ = nothing

abbrev pub right : Value → Value
right (both v w) = w
right _ = nothing

abbrev pub text_of : Value → Text
text_of (text t) = t
text_of _ = []

abbrev pub code_of : Value → ℕ
code_of (code c) = c
code_of _ = 65533

abbrev pub items_of : Value → Value
items_of (list v) = v
items_of _ = empty

abbrev pub is_present : Value → Bool
is_present absent = false
is_present _ = true

abbrev pub name_of : Value → QName
name_of (name q) = q
name_of _ = record { span = record { from = 0; to = 0 }; name = record { uri = []; prefix = []; local = [] } }

abbrev pub literal_of : Value → Literal
literal_of (literal l) = l
literal_of _ = record { text = []; bad_reference = None }

abbrev pub variable_of : Value → Variable
variable_of (variable x) = x
variable_of _ = record { span = record { from = 0; to = 0 }; name = name_of nothing }

abbrev pub between : ℕ → ℕ → Span
between from to = record { from = from; to = to }

-- a rule whose value is left out, one whose value is this, and the text that a rule reads
abbrev pub quiet : Rule → Rule
quiet r = node (λ from to v. nothing) r

abbrev pub giving : Value → Rule → Rule
giving given r = node (λ from to v. given) r

abbrev pub as_written : Rule → Rule
as_written r = read (λ t v. text t) r

-- ---- the nests

abbrev pub single : Rule
single = call (nested nests.Single)

abbrev pub elem : Rule
elem = call (nested nests.Elem)

-- ---- blanks, comments and words

unfoldable pub run : (ℕ → Bool) → Rule
run p = quiet (many (char p))

unfoldable pub white_space : Rule
white_space = quiet (char is_space) ~ run is_space

abbrev pub no_space : Rule
no_space = quiet (opt white_space)

unfoldable pub comment_piece : Rule
comment_piece = call comment // not (word (codes ":)")) ~ any

unfoldable pub comment_rule : Rule
comment_rule = quiet (word (codes "(:") ~ many comment_piece ~ word (codes ":)"))

unfoldable pub blank : Rule
blank = white_space // call comment

unfoldable pub blanks : Rule
blanks = quiet (many blank)

-- a word that no name goes on with, and the blanks behind it
unfoldable pub keyword : Text → Rule
keyword w = word w ~ not (char is_inner_name_char) ~ blanks

-- ---- names

unfoldable pub token : (ℕ → Bool) → (ℕ → Bool) → Rule
token p q = as_written (char p ~ run q)

abbrev pub ncname : Rule
ncname = token is_name_start_char is_inner_name_char

-- a name without a prefix, with its place
abbrev pub a_name : ℕ → ℕ → Text → Text → Value
a_name from to prefix local = name (record { span = between from to; name = record { uri = []; prefix = prefix; local = local } })

unfoldable pub behind_colon : Rule
behind_colon = word (codes ":") ~ ncname

abbrev pub a_qname : ℕ → ℕ → Value → Value
a_qname from to (both v (text local)) = a_name from to (text_of v) local
a_qname from to (both v w) = a_name from to [] (text_of v)
a_qname from to v = nothing

unfoldable pub qname : Rule
qname = node a_qname (ncname ~ opt behind_colon)

abbrev pub a_variable : ℕ → ℕ → Value → Value
a_variable from to v = variable (record { span = between from to; name = name_of v })

unfoldable pub variable_rule : Rule
variable_rule = node a_variable (word (codes "$") ~ blanks ~ qname)

-- ---- numbers

unfoldable pub digits : Rule
digits = quiet (char is_ascii_digit) ~ run is_ascii_digit

unfoldable pub fraction : Rule
fraction = word (codes ".") ~ run is_ascii_digit

unfoldable pub decimal : Rule
decimal = word (codes ".") ~ digits // digits ~ quiet (opt fraction)

unfoldable pub sign : Rule
sign = word (codes "+") // word (codes "-")

unfoldable pub exponent_mark : Rule
exponent_mark = word (codes "e") // word (codes "E")

unfoldable pub exponent : Rule
exponent = exponent_mark ~ quiet (opt sign) ~ digits

abbrev pub a_number : ℕ → ℕ → Value → Value
a_number from to v = term (exprs.Number (between from to) (text_of v))

-- a number as it is written, whatever stands behind it
unfoldable pub unchecked_number : Rule
unchecked_number = decimal ~ quiet (opt exponent)

unfoldable pub numeral : Rule
numeral = as_written unchecked_number

unfoldable pub number : Rule
number = node a_number (numeral ~ not (char is_name_start_char))

-- ---- references and strings

unfoldable pub entity : Rule
entity = giving (code 60) (word (codes "lt")) // giving (code 62) (word (codes "gt")) // giving (code 38) (word (codes "amp"))
    // giving (code 34) (word (codes "quot")) // giving (code 39) (word (codes "apos"))

unfoldable pub entity_reference : Rule
entity_reference = word (codes "&") ~ entity ~ word (codes ";")

-- the character of this number, which must be one of XML's
abbrev pub a_character : ℕ → ℕ → Value
a_character from n = if is_xml_char n then code n else bad_code from

abbrev pub a_reference : ℕ → ℕ → ℕ → Value → Value
a_reference base from to v = a_character from (number_from base 0 (text_of v))

unfoldable pub decimal_reference : Rule
decimal_reference = node (a_reference 10) (word (codes "&#") ~ token is_ascii_digit is_ascii_digit ~ word (codes ";"))

unfoldable pub hexadecimal_reference : Rule
hexadecimal_reference = node (a_reference 16) (word (codes "&#x") ~ token is_ascii_hexdigit is_ascii_hexdigit ~ word (codes ";"))

unfoldable pub reference : Rule
reference = entity_reference // decimal_reference // hexadecimal_reference

-- an end of line, in each of its spellings, is one LF
unfoldable pub line_end : Rule
line_end = giving (code 10) (word (13 ∷ 10 ∷ []) // word (13 ∷ []))

-- what the characters of a repetition spell
abbrev pub spelled : Value → Text
spelled (more v w) = spelled v ++ encode_utf8 (code_of w)
spelled _ = []

-- the place of the first reference among them that names no character
abbrev pub first_of : Option ℕ → Value → Option ℕ
first_of (Some at) w = Some at
first_of None (bad_code at) = Some at
first_of None _ = None

abbrev pub first_bad : Value → Option ℕ
first_bad (more v w) = first_of (first_bad v) w
first_bad _ = None

abbrev pub a_literal : Value → Value
a_literal v = literal (record { text = spelled (items_of v); bad_reference = first_bad (items_of v) })

abbrev pub is_plain : ℕ → ℕ → Bool
is_plain quote c = not_bool (c == quote || c == 38)

unfoldable pub doubled_quote : ℕ → Rule
doubled_quote quote = giving (code quote) (word (quote ∷ quote ∷ []))

-- a character of a string between such quotes
unfoldable pub string_char : ℕ → Rule
string_char quote = doubled_quote quote // reference // line_end // char (is_plain quote)

unfoldable pub string_in : ℕ → Rule
string_in quote = node (λ from to v. a_literal v) (word (quote ∷ []) ~ many (string_char quote) ~ word (quote ∷ []))

unfoldable pub string_rule : Rule
string_rule = string_in 34 // string_in 39

-- ---- how comments read

-- comments nest as deep as they are written, and each has bytes of its own, so the length bounds how deep they nest
unfoldable pub comments : ℕ → Text → Outcome
comments zero s = Err Refused
comments (suc n) s = fits 0 (λ recursion. comments n) comment_rule s

abbrev pub any_comment : Text → Outcome
any_comment s = comments (length s) s
