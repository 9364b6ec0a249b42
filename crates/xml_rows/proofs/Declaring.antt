-- The declarations among the attributes of a tag.
use Rattle.std.proofs.Common.{◌≡◌, ℕ, ◌+◌, length, subst, arith, Bool, true, false, not, List, [], ◌∷◌, ◌++◌, append_assoc, append-nil, Option, Some, None, refl, sym, ap, ◌∙◌, ◌&&◌, ◌||◌}
use Rattle.std.specs.Prelude.{codes, if◌then◌else◌}
use Rattle.std.specs.Option.{is_some, option_map}
use Rattle.std.specs.Str.{bytes_eq}
use Rattle.std.proofs.Math.Bool.{or_assoc}
use Rattle.tree_model.specs.Declarations.{declarations_value}
use Rattle.tree_model.specs.Rows.{value_at}
use Rattle.tree_model.specs.XmlChars.{has_colon, before_colon, behind_colon}
use Rattle.tree_model.specs.XmlMeaning.{Pair, Scope, is_declaration, declared_prefix, with_attrs, plain_attrs, is_bad_binding, has_bad_binding, kept_declarations}
use Rattle.xml_rows.specs.Numbers.{split_of}
use Rattle.xml_rows.specs.Scoping.{binding}
use Rattle.xml_rows.specs.Tagging.{declared_of, kept_binding, kept_value, pair_of, pairs_of, ArePairs}
use Rattle.xml_rows.specs.Words.{Bytes, now}
use Rattle.xml_rows.specs.declared.tag.Pair as code

-- what is declared, by whether there is a colon, by the parts beside it and by the whole name
abbrev declared_by : Bool → List ℕ × List ℕ → List ℕ → Option (List ℕ)
declared_by colon parts name = if (if colon then bytes_eq parts.0 (codes "xmlns") else bytes_eq name (codes "xmlns")) then Some (if colon then parts.1 else []) else None

abbrev parts_by : Bool → List ℕ × List ℕ → Option (List ℕ × List ℕ)
parts_by colon parts = if colon then Some parts else None

split_case : (colon found : Bool) (parts x : List ℕ × List ℕ) (name : List ℕ) → parts_by colon parts ≡ Some x → bytes_eq x.0 (codes "xmlns") ≡ found → (if found then Some x.1 else None) ≡ declared_by colon parts name
split_case false found parts x name is test = absurd cc
split_case true found parts x name is test =
    let same : parts ≡ x = cc in
    sym (ap (λ (y : List ℕ × List ℕ). declared_by true y name) same ∙ ap (λ b. if b then Some x.1 else None) test)

whole_case : (colon found : Bool) (parts : List ℕ × List ℕ) (name : List ℕ) → parts_by colon parts ≡ None → bytes_eq name (codes "xmlns") ≡ found → (if found then Some [] else None) ≡ declared_by colon parts name
whole_case true found parts name is test = absurd cc
whole_case false found parts name is test = sym (ap (λ b. if b then Some [] else None) test)

pub declared_split : (name : List ℕ) (x : List ℕ × List ℕ) (found : Bool) → split_of name ≡ Some x → bytes_eq x.0 (codes "xmlns") ≡ found → (if found then Some x.1 else None) ≡ declared_of name
unfolding is_declaration declared_prefix
declared_split name x found is test = split_case (has_colon name) found (before_colon name, behind_colon name) x name is test

pub declared_whole : (name : List ℕ) (found : Bool) → split_of name ≡ None → bytes_eq name (codes "xmlns") ≡ found → (if found then Some [] else None) ≡ declared_of name
unfolding is_declaration declared_prefix
declared_whole name found is test = whole_case (has_colon name) found (before_colon name, behind_colon name) name is test

-- ---- one attribute

declares_by : (b : Bool) (prefix found : List ℕ) → Some found ≡ (if b then Some prefix else None) → (b ≡ true) × (prefix ≡ found)
declares_by true prefix found is = (refl, cc)
declares_by false prefix found is = absurd cc

declares : (name found : List ℕ) → Some found ≡ declared_of name → (is_declaration name ≡ true) × (declared_prefix name ≡ found)
declares name found is = declares_by (is_declaration name) (declared_prefix name) found is

pub declared_yes : (name : List ℕ) → is_declaration name ≡ true → declared_of name ≡ Some (declared_prefix name)
declared_yes name is = ap (λ b. if b then Some (declared_prefix name) else None) is

pub declared_no : (name : List ℕ) → is_declaration name ≡ false → declared_of name ≡ None
declared_no name is = ap (λ b. if b then Some (declared_prefix name) else None) is

some_mapped : (found : Option Bytes) → is_some found ≡ is_some (option_map now found)
some_mapped None = refl
some_mapped (Some bytes) = refl

pub some_declared : (name : List ℕ) (found : Option Bytes) → option_map now found ≡ declared_of name → is_some found ≡ is_declaration name
some_declared name found is = some_mapped found ∙ ap is_some is ∙ by (is_declaration name)
  where
    by : (b : Bool) → is_some (if b then Some (declared_prefix name) else None) ≡ b
    by true = refl
    by false = refl

not_by : (b : Bool) (prefix : List ℕ) → None ≡ (if b then Some prefix else None) → b ≡ false
not_by true prefix is = absurd cc
not_by false prefix is = refl

declares_not : (name : List ℕ) → None ≡ declared_of name → is_declaration name ≡ false
declares_not name is = not_by (is_declaration name) (declared_prefix name) is

pub with_declared : (a : Pair) (attrs : List Pair) (scope : Scope) (prefix : List ℕ) → Some prefix ≡ declared_of a.0 → with_attrs (a ∷ attrs) scope ≡ with_attrs attrs (binding prefix a.1 ∷ scope)
unfolding with_attrs
with_declared a attrs scope prefix is =
    let d = declares a.0 prefix is in
    ap (λ b. if b then with_attrs attrs (binding (declared_prefix a.0) a.1 ∷ scope) else with_attrs attrs scope) d.0 ∙ ap (λ p. with_attrs attrs (binding p a.1 ∷ scope)) d.1

pub with_plain : (a : Pair) (attrs : List Pair) (scope : Scope) → None ≡ declared_of a.0 → with_attrs (a ∷ attrs) scope ≡ with_attrs attrs scope
unfolding with_attrs
with_plain a attrs scope is = ap (λ b. if b then with_attrs attrs (binding (declared_prefix a.0) a.1 ∷ scope) else with_attrs attrs scope) (declares_not a.0 is)

pub plain_declared : (a : Pair) (attrs : List Pair) (prefix : List ℕ) → Some prefix ≡ declared_of a.0 → plain_attrs (a ∷ attrs) ≡ plain_attrs attrs
unfolding plain_attrs
plain_declared a attrs prefix is = ap (λ b. if b then plain_attrs attrs else a ∷ plain_attrs attrs) (declares a.0 prefix is).0

pub plain_plain : (a : Pair) (attrs : List Pair) → None ≡ declared_of a.0 → plain_attrs (a ∷ attrs) ≡ a ∷ plain_attrs attrs
unfolding plain_attrs
plain_plain a attrs is = ap (λ b. if b then plain_attrs attrs else a ∷ plain_attrs attrs) (declares_not a.0 is)

pub bad_declared : (a : Pair) (attrs : List Pair) (prefix : List ℕ) → Some prefix ≡ declared_of a.0 → has_bad_binding (a ∷ attrs) ≡ (is_bad_binding prefix a.1 || has_bad_binding attrs)
bad_declared a attrs prefix is =
    let d = declares a.0 prefix is in
    ap (λ b. (b && is_bad_binding (declared_prefix a.0) a.1) || has_bad_binding attrs) d.0 ∙ ap (λ p. is_bad_binding p a.1 || has_bad_binding attrs) d.1

pub bad_plain : (a : Pair) (attrs : List Pair) → None ≡ declared_of a.0 → has_bad_binding (a ∷ attrs) ≡ has_bad_binding attrs
bad_plain a attrs is = ap (λ b. (b && is_bad_binding (declared_prefix a.0) a.1) || has_bad_binding attrs) (declares_not a.0 is)

-- the text of what is kept of one declaration, and of those behind it
kept_by : (is_xml : Bool) (prefix uri : List ℕ) (attrs : List Pair)
    → declarations_value (if not is_xml then binding prefix uri ∷ kept_declarations attrs else kept_declarations attrs)
    ≡ declarations_value (if is_xml then [] else binding prefix uri ∷ []) ++ declarations_value (kept_declarations attrs)
kept_by true prefix uri attrs = refl
kept_by false prefix uri attrs =
    let rest : List ℕ = declarations_value (kept_declarations attrs) in
    sym (append_assoc prefix (0 ∷ (uri ++ 0 ∷ [])) rest ∙ ap (λ l. prefix ++ 0 ∷ l) (append_assoc uri (0 ∷ []) rest))

pub kept_declared : (a : Pair) (attrs : List Pair) (prefix : List ℕ) → Some prefix ≡ declared_of a.0
    → declarations_value (kept_declarations (a ∷ attrs)) ≡ declarations_value (kept_binding prefix a.1) ++ declarations_value (kept_declarations attrs)
unfolding kept_declarations
kept_declared a attrs prefix is =
    let d = declares a.0 prefix is in
    ap (λ b. declarations_value (if b && not (bytes_eq (declared_prefix a.0) (codes "xml")) then binding (declared_prefix a.0) a.1 ∷ kept_declarations attrs else kept_declarations attrs)) d.0
    ∙ ap (λ p. declarations_value (if not (bytes_eq p (codes "xml")) then binding p a.1 ∷ kept_declarations attrs else kept_declarations attrs)) d.1
    ∙ kept_by (bytes_eq prefix (codes "xml")) prefix a.1 attrs

pub kept_plain : (a : Pair) (attrs : List Pair) → None ≡ declared_of a.0 → kept_declarations (a ∷ attrs) ≡ kept_declarations attrs
unfolding kept_declarations
kept_plain a attrs is =
    ap (λ b. if b && not (bytes_eq (declared_prefix a.0) (codes "xml")) then binding (declared_prefix a.0) a.1 ∷ kept_declarations attrs else kept_declarations attrs) (declares_not a.0 is)

-- ---- one step of the loop over attributes: those that are left begin with one

pub pairs_step : (values : List ℕ) (rest tail : List code.Pair) (pair : code.Pair) → rest ≡ pair ∷ tail → ArePairs values rest → ArePairs values tail
pairs_step values rest tail pair is are = let both : ArePairs values (pair ∷ tail) = subst (λ l. ArePairs values l) is are in both.1

pub bad_step : (values : List ℕ) (rest tail : List code.Pair) (pair : code.Pair) (before here whole : Bool) (prefix : List ℕ) → rest ≡ pair ∷ tail → Some prefix ≡ declared_of pair.name.now
    → here ≡ is_bad_binding prefix (value_at values pair.val) → (before || has_bad_binding (pairs_of values rest)) ≡ whole → ((before || here) || has_bad_binding (pairs_of values tail)) ≡ whole
bad_step values rest tail pair before here whole prefix is declared here_is sofar =
    or_assoc before here (has_bad_binding (pairs_of values tail))
    ∙ ap (λ b. before || (b || has_bad_binding (pairs_of values tail))) here_is
    ∙ ap (λ b. before || b) (sym (bad_declared (pair_of values pair) (pairs_of values tail) prefix declared))
    ∙ ap (λ l. before || has_bad_binding (pairs_of values l)) (sym is) ∙ sofar

pub bad_step_plain : (values : List ℕ) (rest tail : List code.Pair) (pair : code.Pair) (before whole : Bool) → rest ≡ pair ∷ tail → None ≡ declared_of pair.name.now
    → (before || has_bad_binding (pairs_of values rest)) ≡ whole → (before || has_bad_binding (pairs_of values tail)) ≡ whole
bad_step_plain values rest tail pair before whole is plain sofar =
    ap (λ b. before || b) (sym (bad_plain (pair_of values pair) (pairs_of values tail) plain)) ∙ ap (λ l. before || has_bad_binding (pairs_of values l)) (sym is) ∙ sofar

pub plain_step : (values : List ℕ) (rest tail : List code.Pair) (pair : code.Pair) (n whole : ℕ) (prefix : List ℕ) → rest ≡ pair ∷ tail → Some prefix ≡ declared_of pair.name.now
    → n + length (plain_attrs (pairs_of values rest)) ≡ whole → n + length (plain_attrs (pairs_of values tail)) ≡ whole
plain_step values rest tail pair n whole prefix is declared sofar =
    ap (λ l. n + length l) (sym (plain_declared (pair_of values pair) (pairs_of values tail) prefix declared)) ∙ ap (λ l. n + length (plain_attrs (pairs_of values l))) (sym is) ∙ sofar

pub plain_step_plain : (values : List ℕ) (rest tail : List code.Pair) (pair : code.Pair) (n whole : ℕ) → rest ≡ pair ∷ tail → None ≡ declared_of pair.name.now
    → n + length (plain_attrs (pairs_of values rest)) ≡ whole → n + 1 + length (plain_attrs (pairs_of values tail)) ≡ whole
plain_step_plain values rest tail pair n whole is plain sofar =
    let e : n + length (pair_of values pair ∷ plain_attrs (pairs_of values tail)) ≡ whole =
    ap (λ l. n + length l) (sym (plain_plain (pair_of values pair) (pairs_of values tail) plain)) ∙ ap (λ l. n + length (plain_attrs (pairs_of values l))) (sym is) ∙ sofar in
    omega (arith, e)

pub with_step : (values : List ℕ) (rest tail : List code.Pair) (pair : code.Pair) (scope more whole : Scope) (prefix : List ℕ) → rest ≡ pair ∷ tail → Some prefix ≡ declared_of pair.name.now
    → more ≡ binding prefix (value_at values pair.val) ∷ scope → with_attrs (pairs_of values rest) scope ≡ whole → with_attrs (pairs_of values tail) more ≡ whole
with_step values rest tail pair scope more whole prefix is declared more_is sofar =
    ap (with_attrs (pairs_of values tail)) more_is ∙ sym (with_declared (pair_of values pair) (pairs_of values tail) scope prefix declared) ∙ ap (λ l. with_attrs (pairs_of values l) scope) (sym is) ∙ sofar

pub with_step_plain : (values : List ℕ) (rest tail : List code.Pair) (pair : code.Pair) (scope whole : Scope) → rest ≡ pair ∷ tail → None ≡ declared_of pair.name.now
    → with_attrs (pairs_of values rest) scope ≡ whole → with_attrs (pairs_of values tail) scope ≡ whole
with_step_plain values rest tail pair scope whole is plain sofar =
    sym (with_plain (pair_of values pair) (pairs_of values tail) scope plain) ∙ ap (λ l. with_attrs (pairs_of values l) scope) (sym is) ∙ sofar

pub kept_step : (values : List ℕ) (rest tail : List code.Pair) (pair : code.Pair) (before more whole prefix : List ℕ) → rest ≡ pair ∷ tail → Some prefix ≡ declared_of pair.name.now
    → more ≡ before ++ declarations_value (kept_binding prefix (value_at values pair.val)) → before ++ kept_value values rest ≡ whole → more ++ kept_value values tail ≡ whole
kept_step values rest tail pair before more whole prefix is declared more_is sofar =
    ap (λ l. l ++ kept_value values tail) more_is
    ∙ append_assoc before (declarations_value (kept_binding prefix (value_at values pair.val))) (kept_value values tail)
    ∙ ap (λ l. before ++ l) (sym (kept_declared (pair_of values pair) (pairs_of values tail) prefix declared))
    ∙ ap (λ l. before ++ kept_value values l) (sym is) ∙ sofar

pub kept_step_plain : (values : List ℕ) (rest tail : List code.Pair) (pair : code.Pair) (before whole : List ℕ) → rest ≡ pair ∷ tail → None ≡ declared_of pair.name.now
    → before ++ kept_value values rest ≡ whole → before ++ kept_value values tail ≡ whole
kept_step_plain values rest tail pair before whole is plain sofar =
    ap (λ l. before ++ declarations_value l) (sym (kept_plain (pair_of values pair) (pairs_of values tail) plain)) ∙ ap (λ l. before ++ kept_value values l) (sym is) ∙ sofar

-- none are left

pub kept_last : (values : List ℕ) (rest : List code.Pair) (before whole : List ℕ) → rest ≡ [] → before ++ kept_value values rest ≡ whole → before ≡ whole
unfolding kept_declarations
kept_last values rest before whole is sofar = sym (ap (λ l. before ++ kept_value values l) is ∙ append-nil before) ∙ sofar

pub with_none : (values : List ℕ) (rest : List code.Pair) (scope : Scope) → rest ≡ [] → with_attrs (pairs_of values rest) scope ≡ scope
unfolding with_attrs
with_none values rest scope is = ap (λ l. with_attrs (pairs_of values l) scope) is

pub plain_none : (values : List ℕ) (rest : List code.Pair) → rest ≡ [] → plain_attrs (pairs_of values rest) ≡ []
unfolding plain_attrs
plain_none values rest is = ap (λ l. plain_attrs (pairs_of values l)) is
