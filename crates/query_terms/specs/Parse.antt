-- What a text is read as: the query that the rules read to the text's end, or why there is none.
use Rattle.std.specs.Prelude.{◌≡◌, ℕ, zero, suc, ◌+◌, Bool, true, if◌then◌else◌, nat_eq, List, [], ◌∷◌, length, take, Result, Ok, Err}
use Rattle.std.specs.Str.{chars}
use Rattle.std.specs.Char.{len_utf8}
use Rattle.tree_model.specs.XmlChars.{is_xml_char}
use Rattle.query_terms.specs.declared.stop.Stop.TheVariants as stops
use Rattle.query_terms.specs.declared.stop.SyntaxFault.{SyntaxFault}
use Rattle.query_terms.specs.declared.stop.SyntaxFault.TheVariants as faults
use Rattle.query_terms.specs.declared.stop.Nest.{Nest}
use Rattle.query_terms.specs.declared.tree.QueryTree.{QueryTree}
use Rattle.query_terms.specs.Rule.{Text, query, Outcome, Recursion, comment, nested, fits}
use Rattle.query_terms.specs.Lexis.{any_comment}
use Rattle.query_terms.specs.Grammar.{rule_of, query_rule}

-- how many nests may be open at a place
abbrev pub limit : ℕ
limit = 200

-- how the recursive rules read where comments read so and nests so
abbrev pub recursions : (Text → Outcome) → (Nest → Text → Outcome) → Recursion → Text → Outcome
recursions comments nests comment = comments
recursions comments nests (nested nest) = nests nest

-- in a text of so many bytes, where so many more nests may be opened
unfoldable pub opened : ℕ → (Text → Outcome) → ℕ → Nest → Text → Outcome
opened total comments zero nest s = Err stops.TooDeep
opened total comments (suc room) nest s = fits total (recursions comments (opened total comments room)) (rule_of nest) s

-- what the rule of queries reads of a text
unfoldable pub read_with : (Text → Outcome) → Text → Outcome
read_with comments t = fits (length t) (recursions comments (opened (length t) comments limit)) query_rule t

abbrev pub read_query : Text → Outcome
read_query t = read_with any_comment t

-- how many bytes the characters of XML have that stand in front
abbrev pub front_len : List ℕ → ℕ
front_len [] = 0
front_len (c ∷ cs) = if is_xml_char c then len_utf8 c + front_len cs else 0

abbrev pub parsed_as : Bool → Outcome → Result QueryTree SyntaxFault
parsed_as is_whole (Err stops.TooDeep) = Err faults.TooDeep
parsed_as true (Ok (query q, s)) = Ok q
parsed_as _ _ = Err faults.NoReading

-- only characters of XML are read, so what stands behind them can't matter but that it is there
unfoldable pub parse : Text → Result QueryTree SyntaxFault
parse t = parsed_as (nat_eq (front_len (chars t)) (length t)) (read_query (take (front_len (chars t)) t))

-- some text is read as this query
abbrev pub IsRead : QueryTree → Type 0
IsRead q = (t : Text) × (parse t ≡ Ok q)
