-- Direct and computed constructors (XQuery 1.0, section 3.7).
use Rattle.std.specs.Prelude.{ℕ, Bool, true, false, not as not_bool, if◌then◌else◌, ◌&&◌, ◌||◌, ◌==◌, List, [], ◌∷◌, ◌++◌, map, Option, Some, None, codes}
use Rattle.std.specs.List.{list_any}
use Rattle.std.specs.Str.{bytes_eq}
use Rattle.std.specs.Char.{encode_utf8, to_ascii_lowercase}
use Rattle.tree_model.specs.XmlChars.{is_space}
use Rattle.query_terms.specs.declared.parts.Span.{Span}
use Rattle.query_terms.specs.declared.parts.QName.{QName}
use Rattle.query_terms.specs.declared.parts.Scope.{Scope}
use Rattle.query_terms.specs.declared.parts.ComputedKind.{ComputedKind}
use Rattle.query_terms.specs.declared.parts.ComputedKind.TheVariants as kinds
use Rattle.query_terms.specs.declared.parts.UnnamedKind.{UnnamedKind}
use Rattle.query_terms.specs.declared.parts.UnnamedKind.TheVariants as unnamed
use Rattle.query_terms.specs.declared.tree.Clause.TheOpen.{Content-F}
use Rattle.query_terms.specs.declared.tree.Clause.TheViews.{out-Content}
use Rattle.query_terms.specs.declared.tree.Clause.{Clause}
use Rattle.query_terms.specs.declared.tree.Operand.{Operand}
use Rattle.query_terms.specs.declared.tree.OrderKey.{OrderKey}
use Rattle.query_terms.specs.declared.tree.PathStep.{PathStep}
use Rattle.query_terms.specs.declared.tree.Expr.{Expr}
use Rattle.query_terms.specs.declared.tree.Expr.TheVariants as exprs
use Rattle.query_terms.specs.declared.tree.Attribute.{Attribute, roll-Attribute}
use Rattle.query_terms.specs.declared.tree.Content.{Content}
use Rattle.query_terms.specs.declared.tree.Content.TheVariants as parts
use Rattle.query_terms.specs.Constructors.{encloses_constructor}
use Rattle.query_terms.specs.Rule.{Text, Value, absent, both, more, code, chunk, text, name, computed_kind, unnamed_kind, term, attribute, attributes, content, contents, Rule, word, char, many, opt, not, node, read, when, ◌~◌, ◌//◌}
use Rattle.query_terms.specs.Lexis.{left, right, text_of, code_of, items_of, is_present, name_of, between, giving, single, elem, white_space, no_space, blanks, keyword, ncname, qname, a_name, reference, line_end, doubled_quote, spelled, first_of}

-- ---- parts of values

abbrev pub term_of : Value → Expr
term_of (term e) = e
term_of _ = exprs.ContextItem (between 0 0)

abbrev pub maybe_term : Value → Option Expr
maybe_term (term e) = Some e
maybe_term _ = None

abbrev pub terms_in : Value → List Expr
terms_in (more v w) = terms_in v ++ term_of w ∷ []
terms_in _ = []

abbrev pub contents_of : Value → List Content
contents_of (contents xs) = xs
contents_of _ = []

abbrev pub attributes_of : Value → List Attribute
attributes_of (attributes xs) = xs
attributes_of _ = []

abbrev pub kind_of : Value → ComputedKind
kind_of (computed_kind k) = k
kind_of _ = kinds.Element

abbrev pub unnamed_of : Value → UnnamedKind
unnamed_of (unnamed_kind k) = k
unnamed_of _ = unnamed.Text

abbrev pub maybe_text : Value → Option Text
maybe_text (text t) = Some t
maybe_text _ = None

abbrev pub no_scope : Scope
no_scope = record { bindings = [] }

-- ---- expressions separated by commas

-- one expression is itself
abbrev pub comma_of : Span → Expr → List Expr → Expr
comma_of span x [] = x
comma_of span x (y ∷ ys) = exprs.Comma span x (y ∷ ys)

abbrev pub a_comma : ℕ → ℕ → Value → Value
a_comma from to v = term (comma_of (between from to) (term_of (left v)) (terms_in (items_of (right v))))

unfoldable pub next_single : Rule
next_single = blanks ~ word (codes ",") ~ blanks ~ single

unfoldable pub expr : Rule
expr = node a_comma (single ~ many next_single)

unfoldable pub enclosed : Rule
enclosed = word (codes "{") ~ blanks ~ expr ~ blanks ~ word (codes "}")

-- ---- characters

-- a character, where this word doesn't stand
unfoldable pub char_before : Text → Rule
char_before stop = not (word stop) ~ (line_end // char (λ c. true))

abbrev pub spelled_out : ℕ → ℕ → Value → Value
spelled_out from to v = text (spelled (items_of v))

unfoldable pub chars_before : Text → Rule
chars_before stop = node spelled_out (many (char_before stop))

-- ---- comments and processing instructions

abbrev pub a_comment : ℕ → ℕ → Value → Value
a_comment from to v = term (exprs.DirectComment (between from to) (text_of v))

unfoldable pub direct_comment : Rule
direct_comment = node a_comment (word (codes "<!--") ~ chars_before (codes "--") ~ word (codes "-->"))

abbrev pub is_target : Value → Bool
is_target v = not_bool (bytes_eq (map to_ascii_lowercase (text_of v)) (codes "xml"))

unfoldable pub instruction_value : Rule
instruction_value = white_space ~ chars_before (codes "?>")

abbrev pub an_instruction : ℕ → ℕ → Value → Value
an_instruction from to v = term (exprs.DirectInstruction (between from to) (text_of (left v)) (text_of (right v)))

unfoldable pub direct_instruction : Rule
direct_instruction = node an_instruction (word (codes "<?") ~ when is_target ncname ~ opt instruction_value ~ word (codes "?>"))

-- an element, a comment or a processing instruction
unfoldable pub direct : Rule
direct = elem // direct_comment // direct_instruction

-- ---- what stands in an element or an attribute

-- the contents that are found, and the characters under way behind them, with the place of a bad reference among them
pub record Run : Type 0 where
  pub found : List Content
  pub characters : Text
  pub bad : Option ℕ
  pub is_solid : Bool

abbrev pub no_run : Run
no_run = record { found = []; characters = []; bad = None; is_solid = false }

-- literal white space alone is left out
abbrev pub closed : Run → List Content
closed r = if r.is_solid then r.found ++ parts.Characters (record { text = r.characters; bad_reference = r.bad }) ∷ [] else r.found

abbrev pub earlier : Option ℕ → Option ℕ → Option ℕ
earlier (Some at) later = Some at
earlier None later = later

abbrev pub with_piece : Run → Value → Run
with_piece r (chunk t bad is_solid) = record { found = r.found; characters = r.characters ++ t; bad = earlier r.bad bad; is_solid = r.is_solid || is_solid }
with_piece r (content c) = record { found = closed r ++ c ∷ []; characters = []; bad = None; is_solid = false }
with_piece r _ = r

abbrev pub run_of : Value → Run
run_of (more v w) = with_piece (run_of v) w
run_of _ = no_run

abbrev pub all_contents : Value → List Content
all_contents v = closed (run_of (items_of v))

-- a character or reference that counts whatever it is, and a literal character, which may be white space
abbrev pub a_solid : ℕ → ℕ → Value → Value
a_solid from to v = chunk (encode_utf8 (code_of v)) (first_of None v) true

abbrev pub a_plain : ℕ → ℕ → Value → Value
a_plain from to v = chunk (encode_utf8 (code_of v)) None (not_bool (is_space (code_of v)))

unfoldable pub brace : Rule
brace = giving (code 123) (word (codes "{{")) // giving (code 125) (word (codes "}}"))

abbrev pub an_enclosed : ℕ → ℕ → Value → Value
an_enclosed from to v = content (parts.Enclosed (term_of v))

unfoldable pub enclosed_content : Rule
enclosed_content = node an_enclosed enclosed

-- ---- attributes

-- an end of line or a TAB is one space
abbrev pub is_line_space : ℕ → Bool
is_line_space c = c == 9 || c == 10 || c == 13

unfoldable pub quoted_space : Rule
quoted_space = giving (code 32) (word (13 ∷ 10 ∷ [])) // giving (code 32) (char is_line_space)

abbrev pub in_quoted : ℕ → ℕ → Bool
in_quoted quote c = not_bool (c == quote || c == 60 || c == 123 || c == 125 || c == 38)

unfoldable pub quoted_escape : ℕ → Rule
quoted_escape quote = doubled_quote quote // brace

unfoldable pub quoted_plain : ℕ → Rule
quoted_plain quote = reference // quoted_space // char (in_quoted quote)

unfoldable pub quoted_piece : ℕ → Rule
quoted_piece quote = node a_solid (quoted_escape quote) // enclosed_content // node a_solid (quoted_plain quote)

-- by what a part of content is made of
abbrev pub is_expression : Content-F Clause Content Expr Attribute Operand OrderKey PathStep → Bool
is_expression (Content-F.Enclosed body) = true
is_expression _ = false

abbrev pub is_enclosed : Content → Bool
is_enclosed c = is_expression (out-Content c)

-- the parts of a value and, where an expression is enclosed among them, the text that they are written as
abbrev pub a_quoted : Text → List Content → Value
a_quoted t xs = both (contents xs) (if list_any is_enclosed xs then text t else absent)

abbrev pub a_body : Text → Value → Value
a_body t v = a_quoted t (all_contents v)

unfoldable pub quoted_body : ℕ → Rule
quoted_body quote = read a_body (many (quoted_piece quote))

abbrev pub has_no_constructor : Value → Bool
has_no_constructor v = not_bool (list_any encloses_constructor (contents_of (left v)))

unfoldable pub quoted_in : ℕ → Rule
quoted_in quote = when has_no_constructor (word (quote ∷ []) ~ quoted_body quote ~ word (quote ∷ []))

unfoldable pub quoted : Rule
quoted = quoted_in 34 // quoted_in 39

abbrev pub an_attribute : ℕ → ℕ → Value → Value
an_attribute from to v =
    attribute (roll-Attribute (record { span = between from to; name = name_of (left v); value = contents_of (left (right v)); written = maybe_text (right (right v)) }))

unfoldable pub equal_sign : Rule
equal_sign = no_space ~ word (codes "=") ~ no_space

unfoldable pub attribute_rule : Rule
attribute_rule = node an_attribute (qname ~ equal_sign ~ quoted)

unfoldable pub spaced_attribute : Rule
spaced_attribute = white_space ~ opt attribute_rule

abbrev pub with_attribute : List Attribute → Value → List Attribute
with_attribute xs (attribute a) = xs ++ a ∷ []
with_attribute xs _ = xs

abbrev pub attributes_in : Value → List Attribute
attributes_in (more v w) = with_attribute (attributes_in v) w
attributes_in _ = []

abbrev pub all_attributes : ℕ → ℕ → Value → Value
all_attributes from to v = attributes (attributes_in (items_of v))

unfoldable pub attributes_rule : Rule
attributes_rule = node all_attributes (many spaced_attribute)

-- ---- elements

abbrev pub a_section : ℕ → ℕ → Value → Value
a_section from to v = chunk (text_of v) None true

unfoldable pub section : Rule
section = node a_section (word (codes "<![CDATA[") ~ chars_before (codes "]]>") ~ word (codes "]]>"))

abbrev pub in_content : ℕ → Bool
in_content c = not_bool (c == 60 || c == 123 || c == 125 || c == 38)

unfoldable pub plain_content : Rule
plain_content = node a_plain (line_end // char in_content)

abbrev pub a_constructor : ℕ → ℕ → Value → Value
a_constructor from to v = content (parts.Constructor (term_of v))

unfoldable pub direct_content : Rule
direct_content = node a_constructor direct

unfoldable pub content_piece : Rule
content_piece = direct_content // section // node a_solid brace // enclosed_content // node a_solid reference // plain_content

abbrev pub the_contents : ℕ → ℕ → Value → Value
the_contents from to v = contents (all_contents v)

unfoldable pub contents_rule : Rule
contents_rule = node the_contents (many content_piece)

unfoldable pub end_tag : Rule
end_tag = word (codes "</") ~ qname ~ no_space ~ word (codes ">")

unfoldable pub behind_attributes : Rule
behind_attributes = giving absent (word (codes "/>")) // word (codes ">") ~ contents_rule ~ end_tag

abbrev pub is_written_alike : QName → QName → Bool
is_written_alike a b = bytes_eq a.name.prefix b.name.prefix && bytes_eq a.name.local b.name.local

-- of the start tag's name, the attributes, and the content with the end tag's name where there is one
abbrev pub has_same_tags : Value → Bool
has_same_tags v = if is_present (right (right v)) then is_written_alike (name_of (left v)) (name_of (right (right (right v)))) else true

abbrev pub an_element : ℕ → ℕ → Value → Value
an_element from to v = term (exprs.Element (between from to) (name_of (left v)) (attributes_of (left (right v))) (contents_of (left (right (right v)))))

unfoldable pub elem_rule : Rule
elem_rule = node an_element (when has_same_tags (word (codes "<") ~ qname ~ attributes_rule ~ behind_attributes))

-- ---- computed constructors

unfoldable pub named_kind : Rule
named_kind = giving (computed_kind kinds.Element) (keyword (codes "element")) // giving (computed_kind kinds.Attribute) (keyword (codes "attribute"))

unfoldable pub computed_name : Rule
computed_name = qname // enclosed

unfoldable pub computed_body : Rule
computed_body = word (codes "{") ~ blanks ~ opt expr ~ blanks ~ word (codes "}")

abbrev pub computed_as : Span → ComputedKind → Value → Option Expr → Value
computed_as span kind (name q) body = term (exprs.Computed span kind q body)
computed_as span kind v body = term (exprs.ComputedByValue span kind (term_of v) no_scope body)

abbrev pub a_computed : ℕ → ℕ → Value → Value
a_computed from to v = computed_as (between from to) (kind_of (left v)) (left (right v)) (maybe_term (right (right v)))

unfoldable pub computed_named : Rule
computed_named = node a_computed (named_kind ~ computed_name ~ blanks ~ computed_body)

abbrev pub a_target_name : ℕ → ℕ → Value → Value
a_target_name from to v = a_name from to [] (text_of v)

unfoldable pub instruction_target : Rule
instruction_target = node a_target_name ncname

unfoldable pub instruction_name : Rule
instruction_name = instruction_target // enclosed

abbrev pub a_computed_instruction : ℕ → ℕ → Value → Value
a_computed_instruction from to v = computed_as (between from to) kinds.Instruction (left v) (maybe_term (right v))

unfoldable pub computed_instruction : Rule
computed_instruction = node a_computed_instruction (keyword (codes "processing-instruction") ~ instruction_name ~ blanks ~ computed_body)

unfoldable pub unnamed_kind_rule : Rule
unnamed_kind_rule = giving (unnamed_kind unnamed.Text) (keyword (codes "text")) // giving (unnamed_kind unnamed.Comment) (keyword (codes "comment")) // giving (unnamed_kind unnamed.Document) (keyword (codes "document"))

abbrev pub an_unnamed : ℕ → ℕ → Value → Value
an_unnamed from to v = term (exprs.ComputedUnnamed (between from to) (unnamed_of (left v)) (term_of (right v)))

unfoldable pub computed_unnamed : Rule
computed_unnamed = node an_unnamed (unnamed_kind_rule ~ enclosed)

unfoldable pub computed : Rule
computed = computed_named // computed_instruction // computed_unnamed
