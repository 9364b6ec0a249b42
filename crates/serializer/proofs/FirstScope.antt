-- What is in scope where nothing is declared.
use Rattle.std.proofs.Common.{◌≡◌, ℕ, Bool, true, false, List, [], ◌∷◌, length, refl, sym, ap, ◌∙◌, arith, rules}
use Rattle.std.specs.Prelude.{◌==◌, codes, Some, None, if◌then◌else◌}
use Rattle.std.specs.Str.{bytes_eq}
use Rattle.std.proofs.lemmas.Bool.{eqb-true}
use Rattle.tree_model.specs.Printing.{is_bound}
use Rattle.tree_model.specs.Printing as printing
use Rattle.tree_model.specs.Sound.{xml_uri}
use Rattle.tree_model.specs.XmlMeaning.{uri_of, first_scope}
use Rattle.tree_model.specs.declared.text.Name.{Name}

default_uri : (uri : List ℕ) → (length uri == 0) ≡ bytes_eq [] uri
default_uri [] = refl
default_uri (c ∷ uri) = search rules

no_default : (prefix : List ℕ) → (length prefix == 0) ≡ false → bytes_eq [] prefix ≡ false
no_default [] e = cc
no_default (c ∷ prefix) e = refl

pub first_default : (name : Name) (prefix uri : List ℕ) (none result : Bool) → prefix ≡ name.prefix → uri ≡ name.uri → none ≡ (length prefix == 0) → none ≡ true → result ≡ (length uri == 0)
    → result ≡ is_bound first_scope name
unfolding is_bound
first_default name prefix uri none result is_prefix is_uri no_prefix there is =
    let empty : (length name.prefix == 0) ≡ true = ap (λ (p : List ℕ). length p == 0) (sym is_prefix) ∙ sym no_prefix ∙ there in
    by name.prefix empty
  where
    by : (p : List ℕ) → (length p == 0) ≡ true → result ≡ printing.is_uri name.uri (uri_of p first_scope)
    by [] e = is ∙ ap (λ (u : List ℕ). length u == 0) is_uri ∙ default_uri name.uri
    by (c ∷ p) e = absurd (omega (arith, eqb-true (length (c ∷ p)) 0 e))

pub first_other : (name : Name) (prefix uri : List ℕ) (none is_xml : Bool) → prefix ≡ name.prefix → none ≡ (length prefix == 0) → none ≡ false → is_xml ≡ bytes_eq (codes "xml") prefix
    → is_bound first_scope name ≡ (if is_xml then bytes_eq xml_uri name.uri else false)
unfolding is_bound
first_other name prefix uri none is_xml is_prefix no_prefix apart is =
    let some : (length name.prefix == 0) ≡ false = ap (λ (p : List ℕ). length p == 0) (sym is_prefix) ∙ sym no_prefix ∙ apart in
    let there : uri_of name.prefix first_scope ≡ (if is_xml then Some xml_uri else None)
    = ap (λ b. if b then Some [] else uri_of name.prefix ((codes "xml", xml_uri) ∷ [])) (no_default name.prefix some)
    ∙ ap (λ b. if b then Some xml_uri else None) (sym (is ∙ ap (bytes_eq (codes "xml")) is_prefix)) in
    ap (printing.is_uri name.uri) there ∙ by is_xml
  where
    by : (b : Bool) → printing.is_uri name.uri (if b then Some xml_uri else None) ≡ (if b then bytes_eq xml_uri name.uri else false)
    by true = refl
    by false = refl
