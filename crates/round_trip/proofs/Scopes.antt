-- The declarations of an element, and what is in scope behind them: where none has to be added, each of its names has its URI there.
use Rattle.std.proofs.Common.{◌≡◌, ℕ, Bool, true, false, cond, not, ◌&&◌, ◌||◌, List, [], ◌∷◌, map, Option, Some, None, refl, sym, ap, ◌∙◌}
use Rattle.std.specs.Prelude.{⊤, codes}
use Rattle.std.specs.List.{list_all, list_any}
use Rattle.std.specs.Str.{bytes_eq}
use Rattle.std.proofs.lemmas.Bool.{and_parts, or_parts, or_from, true≢false, false≢true, not-true, false_from_ne_true, cond-false}
use Rattle.std.proofs.lemmas.Slice.Eq.{bytes_eq-Decides}
use Rattle.tree_model.specs.Declarations.{declarations_of, declarations_value, declared_name}
use Rattle.tree_model.specs.Sound.{is_empty, xml_uri, xmlns_uri, are_chars, is_good_declaration, spells_declarations, binding_of, are_distinct}
use Rattle.tree_model.specs.XmlChars.{is_xml_ncname}
use Rattle.tree_model.specs.XmlGood.{is_in}
use Rattle.tree_model.specs.XmlMeaning.{Pair, Scope, uri_of, is_bad_binding}
use Rattle.tree_model.specs.Printing.{is_uri, is_bound, wanted}
use Rattle.tree_model.specs.declared.text.Name.{Name}
use Rattle.round_trip.proofs.Names.{IsDeclared, declared_parts, declared_once}

-- ---- equal bytes

pub bytes_are : (a b : List ℕ) → bytes_eq a b ≡ true → a ≡ b
bytes_are a b e = (bytes_eq-Decides a b).0 e

-- ---- what a prefix stands for

-- the prefix of the name stands for its URI
pub record Binds (scope : Scope) (name : Name) : Type 0 where
  pub is : uri_of name.prefix scope ≡ Some name.uri

abbrev pub BindsEach : Scope → List Name → Type 0
BindsEach scope [] = ⊤
BindsEach scope (name ∷ names) = Binds scope name × BindsEach scope names

bound_is : (scope : Scope) (name : Name) → is_bound scope name ≡ true → Binds scope name
unfolding is_bound
bound_is scope name h = by (uri_of name.prefix scope) refl h
  where
    by : (found : Option (List ℕ)) → uri_of name.prefix scope ≡ found → is_uri name.uri found ≡ true → Binds scope name
    by None e k = absurd (false≢true k)
    by (Some bound) e k = record { is = e ∙ ap (λ (b : List ℕ). Some b) (bytes_are bound name.uri k) }

some_wanted : (binding : Pair) (bindings : List Pair) → binding ∷ bindings ≡ [] → ⊥
some_wanted binding bindings e = cc

-- names that want no declaration are bound
pub all_bound : (scope : Scope) (names : List Name) → wanted scope names ≡ [] → BindsEach scope names
all_bound scope [] h = tt
all_bound scope (name ∷ names) h = by (is_bound scope name) refl h (all_bound scope names)
  where
    by : (bound : Bool) → is_bound scope name ≡ bound → cond bound (wanted scope names) (binding_of name ∷ wanted (binding_of name ∷ scope) names) ≡ [] → (wanted scope names ≡ [] → BindsEach scope names) → BindsEach scope (name ∷ names)
    by true e none more = (bound_is scope name e, more none)
    by false e none more = absurd (some_wanted (binding_of name) (wanted (binding_of name ∷ scope) names) none)

-- ---- the declarations that a value spells

pub record IsSpelling (value : List ℕ) : Type 0 where
  pub back : declarations_value (declarations_of value) ≡ value
  pub good : list_all is_good_declaration (declarations_of value) ≡ true

pub spelled_parts : (value : List ℕ) → spells_declarations value ≡ true → IsSpelling value
unfolding spells_declarations
spelled_parts value h =
    let p = and_parts (bytes_eq (declarations_value (declarations_of value)) value) (list_all is_good_declaration (declarations_of value)) h in
    record { back = bytes_are _ _ p.0; good = p.1 }

-- ---- the declarations by themselves

-- a declaration is written and allowed, and is none of `xml`
pub record IsDeclaring (binding : Pair) : Type 0 where
  pub prefix : (is_empty binding.0 || is_xml_ncname binding.0) ≡ true
  pub parts : IsDeclared binding.0
  pub no_xml : bytes_eq binding.0 (codes "xml") ≡ false
  pub allowed : is_bad_binding binding.0 binding.1 ≡ false
  pub uri_chars : are_chars binding.1 ≡ true

abbrev pub AreDeclaring : List Pair → Type 0
AreDeclaring [] = ⊤
AreDeclaring (binding ∷ bindings) = IsDeclaring binding × AreDeclaring bindings

is_declaring : (binding : Pair) → is_good_declaration binding ≡ true → IsDeclaring binding
unfolding is_bad_binding
is_declaring binding h =
    let uri_chars = and_parts _ (are_chars binding.1) h in
    let not_of_xmlns = and_parts _ (not (bytes_eq binding.1 xmlns_uri)) uri_chars.0 in
    let not_of_xml = and_parts _ (not (bytes_eq binding.1 xml_uri)) not_of_xmlns.0 in
    let some_uri = and_parts _ (not (is_empty binding.1) || is_empty binding.0) not_of_xml.0 in
    let no_xmlns = and_parts _ (not (bytes_eq binding.0 (codes "xmlns"))) some_uri.0 in
    let no_xml = and_parts (is_empty binding.0 || is_xml_ncname binding.0) (not (bytes_eq binding.0 (codes "xml"))) no_xmlns.0 in
    record {
      prefix = no_xml.0;
      parts = declared_parts binding.0 no_xml.0;
      no_xml = not-true _ no_xml.1;
      allowed = or_from _ _ (or_from _ _ (or_from _ _ (not-true _ no_xmlns.1) (not-true _ not_of_xmlns.1)) (cond-false _ _ _ (not-true _ no_xml.1) ∙ not-true _ not_of_xml.1)) (empty_case (is_empty binding.0) (is_empty binding.1) some_uri.1);
      uri_chars = uri_chars.1;
    }
  where
    empty_case : (no_prefix no_uri : Bool) → (not no_uri || no_prefix) ≡ true → (not no_prefix && no_uri) ≡ false
    empty_case true no_uri k = refl
    empty_case false true k = absurd (false≢true k)
    empty_case false false k = refl

pub are_declaring : (bindings : List Pair) → list_all is_good_declaration bindings ≡ true → AreDeclaring bindings
are_declaring [] h = tt
are_declaring (binding ∷ bindings) h =
    let p = and_parts (is_good_declaration binding) (list_all is_good_declaration bindings) h in
    (is_declaring binding p.0, are_declaring bindings p.1)

-- names of which none stands among those behind it
abbrev pub AreApart : List (List ℕ) → Type 0
AreApart [] = ⊤
AreApart (name ∷ names) = (is_in name names ≡ false) × AreApart names

abbrev pub prefixes : List Pair → List (List ℕ)
prefixes bindings = map (λ (b : Pair). b.0) bindings

abbrev pub declared_names : List Pair → List (List ℕ)
declared_names bindings = map (λ (b : Pair). declared_name b.0) bindings

name_apart : (prefix : List ℕ) (bindings : List Pair) → list_any (bytes_eq prefix) (prefixes bindings) ≡ false → is_in (declared_name prefix) (declared_names bindings) ≡ false
name_apart prefix [] h = refl
name_apart prefix (b ∷ bindings) h =
    let p = or_parts (bytes_eq prefix b.0) (list_any (bytes_eq prefix) (prefixes bindings)) h in
    or_from _ _ (false_from_ne_true _ (λ e. true≢false (sym ((bytes_eq-Decides prefix b.0).1 (declared_once prefix b.0 (bytes_are _ _ e))) ∙ p.0))) (name_apart prefix bindings p.1)

-- where no prefix is declared twice, no two declarations are written alike
pub declared_apart : (bindings : List Pair) → are_distinct (prefixes bindings) ≡ true → AreApart (declared_names bindings)
declared_apart [] h = tt
declared_apart (b ∷ bindings) h =
    let p = and_parts (not (list_any (bytes_eq b.0) (prefixes bindings))) (are_distinct (prefixes bindings)) h in
    (name_apart b.0 bindings (not-true _ p.0), declared_apart bindings p.1)
