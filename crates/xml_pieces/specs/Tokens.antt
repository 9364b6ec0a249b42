-- The pieces of a cut text, one after the other.
use Rattle.std.specs.Prelude.{ℕ, List, [], ◌∷◌, ◌++◌, map}
use Rattle.tree_model.specs.XmlSource.{Part, part_text, Attr, Content, done, element, empty, part, cdata, comm, pi, cdata_source, comm_source, pi_source, close_source}

pub data Token : Type 0 where
  -- a reference or a run, in content or in the value of an attribute
  part_token : (value : Part) → Token
  cdata_token : (bytes : List ℕ) → Token
  comm_token : (bytes : List ℕ) → Token
  pi_token : (target : List ℕ) → (gap : List ℕ) → (bytes : List ℕ) → Token
  -- a whole DOCTYPE, as it is written
  doctype_token : (bytes : List ℕ) → Token
  -- < and the name of a tag
  open_token : (name : List ℕ) → Token
  -- an attribute up to the first quote of its value, and the last quote
  attr_token : (gap : List ℕ) → (name : List ℕ) → (before : List ℕ) → (behind : List ℕ) → (delim : ℕ) → Token
  quote_token : (delim : ℕ) → Token
  -- the end of a start tag, and of an empty-element tag
  go_token : (gap : List ℕ) → Token
  shut_token : (gap : List ℕ) → Token
  close_token : (name : List ℕ) → (last : List ℕ) → Token

abbrev pub token_text : Token → List ℕ
token_text (part_token value) = part_text value
token_text (cdata_token bytes) = cdata_source bytes
token_text (comm_token bytes) = comm_source bytes
token_text (pi_token target gap bytes) = pi_source target gap bytes
token_text (doctype_token bytes) = bytes
token_text (open_token name) = 60 ∷ name
token_text (attr_token gap name before behind delim) = gap ++ (name ++ (before ++ 61 ∷ (behind ++ delim ∷ [])))
token_text (quote_token delim) = delim ∷ []
token_text (go_token gap) = gap ++ 62 ∷ []
token_text (shut_token gap) = gap ++ 47 ∷ 62 ∷ []
token_text (close_token name last) = close_source name last

abbrev pub head_token : Attr → Token
head_token a = attr_token a.gap a.name a.before a.behind a.delim

abbrev pub attr_tokens : List Attr → List Token
attr_tokens [] = []
attr_tokens (a ∷ attrs) = head_token a ∷ (map part_token a.value ++ quote_token a.delim ∷ attr_tokens attrs)

abbrev pub tokens : Content → List Token
tokens done = []
tokens (element name attrs gap inside last more) = open_token name ∷ (attr_tokens attrs ++ go_token gap ∷ (tokens inside ++ close_token name last ∷ tokens more))
tokens (empty name attrs gap more) = open_token name ∷ (attr_tokens attrs ++ shut_token gap ∷ tokens more)
tokens (part value more) = part_token value ∷ tokens more
tokens (cdata bytes more) = cdata_token bytes ∷ tokens more
tokens (comm bytes more) = comm_token bytes ∷ tokens more
tokens (pi target gap bytes more) = pi_token target gap bytes ∷ tokens more
