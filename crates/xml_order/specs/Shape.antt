-- Whether the pieces stand in an order that a document can have: the control of the reader, with no value in it.
use Rattle.std.specs.Prelude.{ℕ, Bool, true, false, ◌==◌, List, [], ◌∷◌, Option, Some, None, if◌then◌else◌}
use Rattle.std.specs.List.{list_all}
use Rattle.std.specs.Option.{option_and_then}
use Rattle.std.specs.Str.{bytes_eq}
use Rattle.tree_model.specs.XmlChars.{is_space}
use Rattle.tree_model.specs.XmlSource.{Part, run}
use Rattle.tree_model.specs.XmlGood.{is_in}
use Rattle.xml_pieces.specs.Tokens.{Token, part_token, cdata_token, comm_token, pi_token, doctype_token, open_token, attr_token, quote_token, go_token, shut_token, close_token}
use Rattle.xml_pieces.specs.Item.{Where, content, a_tag, a_value}

-- what of the document was met so far
pub data Stage : Type 0 where
  before_doctype : Stage
  before_root : Stage
  behind_root : Stage

pub data Mode : Type 0 where
  in_content : Mode
  -- the name of the tag, and those of its attributes, the last first
  in_tag : (name : List ℕ) → (names : List (List ℕ)) → Mode
  in_quotes : (name : List ℕ) → (names : List (List ℕ)) → (delim : ℕ) → Mode

-- the open elements, the innermost first; what was met; where the reader is
pub record Shape : Type 0 where
  pub opened : List (List ℕ)
  pub stage : Stage
  pub mode : Mode

abbrev pub shape : List (List ℕ) → Stage → Mode → Shape
shape opened stage mode = record { opened = opened; stage = stage; mode = mode }

-- outside the root stands white space alone
abbrev pub with_part : Part → List (List ℕ) → Stage → Option Shape
with_part (run bytes) [] stage = if list_all is_space bytes then Some (shape [] stage in_content) else None
with_part reference [] stage = None
with_part p (name ∷ up) stage = Some (shape (name ∷ up) stage in_content)

abbrev pub in_element : List (List ℕ) → Stage → Option Shape
in_element [] stage = None
in_element (name ∷ up) stage = Some (shape (name ∷ up) stage in_content)

-- one DOCTYPE, before the root
abbrev pub with_doctype : List (List ℕ) → Stage → Option Shape
with_doctype [] before_doctype = Some (shape [] before_root in_content)
with_doctype opened stage = None

-- a document has one root
abbrev pub may_open : List (List ℕ) → Stage → Bool
may_open [] behind_root = false
may_open opened stage = true

-- an end tag has the name of its start tag
abbrev pub closed : List ℕ → List (List ℕ) → Stage → Option Shape
closed name [] stage = None
closed name (n ∷ up) stage = if bytes_eq n name then Some (shape up stage in_content) else None

abbrev pub in_order_at : Mode → List (List ℕ) → Stage → Token → Option Shape
in_order_at in_content opened stage (part_token p) = with_part p opened stage
in_order_at in_content opened stage (cdata_token bytes) = in_element opened stage
in_order_at in_content opened stage (comm_token bytes) = Some (shape opened stage in_content)
in_order_at in_content opened stage (pi_token target gap bytes) = Some (shape opened stage in_content)
in_order_at in_content opened stage (doctype_token bytes) = with_doctype opened stage
in_order_at in_content opened stage (open_token name) = if may_open opened stage then Some (shape opened behind_root (in_tag name [])) else None
in_order_at in_content opened stage (close_token name last) = closed name opened stage
in_order_at (in_tag name names) opened stage (attr_token gap key before behind delim) = if is_in key names then None else Some (shape opened stage (in_quotes name (key ∷ names) delim))
in_order_at (in_tag name names) opened stage (go_token gap) = Some (shape (name ∷ opened) stage in_content)
in_order_at (in_tag name names) opened stage (shut_token gap) = Some (shape opened stage in_content)
in_order_at (in_quotes name names delim) opened stage (part_token p) = Some (shape opened stage (in_quotes name names delim))
in_order_at (in_quotes name names delim) opened stage (quote_token other) = if delim == other then Some (shape opened stage (in_tag name names)) else None
in_order_at mode opened stage token = None

unfoldable pub in_order : Shape → Token → Option Shape
in_order s t = in_order_at s.mode s.opened s.stage t

abbrev pub all_in_order : List Token → Shape → Option Shape
all_in_order [] s = Some s
all_in_order (t ∷ ts) s = option_and_then (all_in_order ts) (in_order s t)

abbrev pub begin : Shape
begin = shape [] before_doctype in_content

abbrev pub end : Shape
end = shape [] behind_root in_content

abbrev pub where_at : Mode → Where
where_at in_content = content
where_at (in_tag name names) = a_tag
where_at (in_quotes name names delim) = a_value delim
