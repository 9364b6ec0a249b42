-- A document behind its byte order mark and its XML declaration, and its pieces.
use Rattle.std.specs.Prelude.{ℕ, List, [], ◌∷◌, ◌++◌, Option, Some, None}
use Rattle.tree_model.specs.XmlSource.{Content, content_text, Doctype, doctype_text, if_text, Source}
use Rattle.tree_model.specs.XmlGood.{IfThere, IsDoctype, IsBehind, IsGood, IsMisc, IsRoot}
use Rattle.xml_pieces.specs.Tokens.{Token, doctype_token, tokens}

pub record Body : Type 0 where
  pub first : Content
  pub doctype : Option Doctype
  pub second : Content
  pub root : Content
  pub last : Content

pub record IsBody (b : Body) : Type 0 where
  pub first_misc : IsMisc b.first
  pub first_good : IsGood b.first
  pub doctype : IfThere IsDoctype b.doctype
  pub second_misc : IsBehind b.doctype b.second
  pub second_good : IsGood b.second
  pub one_root : IsRoot b.root
  pub root_good : IsGood b.root
  pub last_misc : IsMisc b.last
  pub last_good : IsGood b.last

abbrev pub body_text : Body → List ℕ
body_text b = content_text b.first ++ (if_text doctype_text b.doctype ++ (content_text b.second ++ (content_text b.root ++ content_text b.last)))

abbrev pub doctype_tokens : Option Doctype → List Token
doctype_tokens None = []
doctype_tokens (Some d) = doctype_token (doctype_text d) ∷ []

abbrev pub body_tokens : Body → List Token
body_tokens b = tokens b.first ++ (doctype_tokens b.doctype ++ (tokens b.second ++ (tokens b.root ++ tokens b.last)))

abbrev pub body_of : Source → Body
body_of d = record { first = d.first; doctype = d.doctype; second = d.second; root = d.root; last = d.last }
