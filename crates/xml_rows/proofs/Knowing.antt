-- The names that were met, as more are met.
use Rattle.std.proofs.Common.{◌≡◌, ℕ, Bool, true, false, List, [], Option, Some, None, cond, refl, sym, ap, ◌∙◌, subst, arith, ◌==◌, ◌&&◌, ◌||◌, not}
use Rattle.std.specs.Option.{IfSome}
use Rattle.std.specs.Str.{bytes_eq, IsUtf8}
use Rattle.std.proofs.lemmas.Bool.{and_parts}
use Rattle.std.proofs.lemmas.Bool.Decides.{Decides-eqb}
use Rattle.std.proofs.lemmas.Slice.Eq.{bytes_eq-Decides}
use Rattle.tree_model.specs.Labels.{local_name}
use Rattle.tree_model.specs.XmlChars.{is_name_run, is_xml_ncname, is_xml_qname, has_colon, before_colon, prefix_of, local_of}
use Rattle.tree_model.specs.declared.text.Name.{Name}
use Rattle.tree_model.proofs.XmlUtf8.{text_ncname, text_nil}
use Rattle.xml_rows.specs.Known.{Key, is_same_key, AreKnown, AreNumbered}
use Rattle.xml_rows.specs.Numbers.{Begins, name_in, IsNumber}
use Rattle.xml_rows.specs.Words.{Bytes}
use Rattle.xml_rows.proofs.Growing.{begins_length, begins_at}

some_weaker : (o : Option ℕ) (P Q : ℕ → Type 0) → ((n : ℕ) → P n → Q n) → IfSome o P → IfSome o Q
some_weaker None P Q f h = tt
some_weaker (Some n) P Q f h = f n h

pub number_grown : (names names' : List Name) (uris uris' : List (List ℕ)) (uri : ℕ) (written : List ℕ) (n : ℕ) → Begins names names' → Begins uris uris' → IsNumber names uris uri written n → IsNumber names' uris' uri written n
number_grown names names' uris uris' uri written n more others is = record {
  name_in_use = omega (arith, is.name_in_use, begins_length names names' more);
  uri_in_use = omega (arith, is.uri_in_use, begins_length uris uris' others);
  name = begins_at names names' n (local_name []) more is.name_in_use ∙ is.name ∙ ap (λ u. name_in u written) (sym (begins_at uris uris' uri [] others is.uri_in_use));
}

known_grown : (names names' : List Name) (uris uris' : List (List ℕ)) (look : Key → Option ℕ) → Begins names names' → Begins uris uris' → AreKnown names uris look → AreKnown names' uris' look
known_grown names names' uris uris' look more others known uri written =
    some_weaker (look (uri, written)) (IsNumber names uris uri written.now) (IsNumber names' uris' uri written.now) (λ n. number_grown names names' uris uris' uri written.now n more others) (known uri written)

pub numbered_grown : (names names' : List Name) (uris uris' : List (List ℕ)) (look : Key → Option ℕ) (unnamed no_uri : ℕ) → Begins names names' → Begins uris uris' → AreNumbered names uris look unnamed no_uri → AreNumbered names' uris' look unnamed no_uri
numbered_grown names names' uris uris' look unnamed no_uri more others are = record {
  known = known_grown names names' uris uris' look more others are.known;
  unnamed_in_use = omega (arith, are.unnamed_in_use, begins_length names names' more);
  unnamed_name = begins_at names names' unnamed (local_name []) more are.unnamed_in_use ∙ are.unnamed_name;
  no_uri_in_use = omega (arith, are.no_uri_in_use, begins_length uris uris' others);
  no_uri_text = begins_at uris uris' no_uri [] others are.no_uri_in_use ∙ are.no_uri_text;
}

with_known : (names : List Name) (uris : List (List ℕ)) (look look' : Key → Option ℕ) (unnamed no_uri : ℕ) → AreKnown names uris look' → AreNumbered names uris look unnamed no_uri → AreNumbered names uris look' unnamed no_uri
with_known names uris look look' unnamed no_uri known are =
    record { known = known; unnamed_in_use = are.unnamed_in_use; unnamed_name = are.unnamed_name; no_uri_in_use = are.no_uri_in_use; no_uri_text = are.no_uri_text }

pub numbered_same : (names : List Name) (uris : List (List ℕ)) (look look' : Key → Option ℕ) (unnamed no_uri : ℕ) → ((q : Key) → look' q ≡ look q) → AreNumbered names uris look unnamed no_uri → AreNumbered names uris look' unnamed no_uri
numbered_same names uris look look' unnamed no_uri same are =
    with_known names uris look look' unnamed no_uri (λ uri written. subst (λ o. IfSome o (IsNumber names uris uri written.now)) (sym (same (uri, written))) (are.known uri written)) are

each_more : (names : List Name) (uris : List (List ℕ)) (o : Option ℕ) (uri uri' n : ℕ) (written written' : List ℕ) (b : Bool) → ((uri == uri') && bytes_eq written written') ≡ b → IsNumber names uris uri written n
    → IfSome o (IsNumber names uris uri' written') → IfSome (cond b (Some n) o) (IsNumber names uris uri' written')
each_more names uris o uri uri' n written written' true same is old =
    let both = and_parts (uri == uri') (bytes_eq written written') same in
    subst (λ u. IsNumber names uris u written' n) ((Decides-eqb uri uri').0 both.0) (subst (λ w. IsNumber names uris uri w n) ((bytes_eq-Decides written written').0 both.1) is)
each_more names uris o uri uri' n written written' false same is old = old

pub numbered_more : (names : List Name) (uris : List (List ℕ)) (look look' : Key → Option ℕ) (unnamed no_uri uri n : ℕ) (written : Bytes) → IsNumber names uris uri written.now n
    → ((q : Key) → look' q ≡ cond (is_same_key (uri, written) q) (Some n) (look q)) → AreNumbered names uris look unnamed no_uri → AreNumbered names uris look' unnamed no_uri
numbered_more names uris look look' unnamed no_uri uri n written is updates are =
    with_known names uris look look' unnamed no_uri
    (λ uri' written'. subst (λ o. IfSome o (IsNumber names uris uri' written'.now)) (sym (updates (uri', written')))
    (each_more names uris (look (uri', written')) uri uri' n written.now written'.now (is_same_key (uri, written) (uri', written')) refl is (are.known uri' written')))
    are

pub known_at : (names : List Name) (uris : List (List ℕ)) (look : Key → Option ℕ) (uri n : ℕ) (written : Bytes) → AreKnown names uris look → look (uri, written) ≡ Some n → IsNumber names uris uri written.now n
known_at names uris look uri n written known is = subst (λ o. IfSome o (IsNumber names uris uri written.now)) is (known uri written)

pub name_by : (u written uri prefix local : List ℕ) (name : Name) → name ≡ record { uri = uri; prefix = prefix; local = local } → uri ≡ u → prefix ≡ prefix_of written → local ≡ local_of written → name ≡ name_in u written
name_by u written uri prefix local name is uri_is prefix_is local_is = cc

-- ---- the parts of a name are texts

pub local_utf8 : (name : List ℕ) → is_xml_qname name ≡ true → IsUtf8 (local_of name)
unfolding is_xml_qname
local_utf8 name h = (text_ncname (local_of name) (and_parts (is_name_run name) (is_xml_ncname (local_of name)) (and_parts _ _ h).0).1).utf8

prefix_case : (b : Bool) (front : List ℕ) → (not b || is_xml_ncname front) ≡ true → IsUtf8 (cond b front [])
prefix_case true front h = (text_ncname front h).utf8
prefix_case false front h = text_nil.utf8

pub prefix_utf8 : (name : List ℕ) → is_xml_qname name ≡ true → IsUtf8 (prefix_of name)
unfolding is_xml_qname
prefix_utf8 name h = prefix_case (has_colon name) (before_colon name) (and_parts (is_name_run name && is_xml_ncname (local_of name)) _ h).1
