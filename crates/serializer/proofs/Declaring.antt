-- What elements declare, one declaration behind the other, and what is in force behind it.
use Rattle.std.proofs.Common.{◌≡◌, ℕ, ◌+◌, ◌<◌, Bool, true, false, List, [], ◌∷◌, ◌++◌, length, map, take, drop, get_or, refl, sym, ap, ◌∙◌, subst, arith, add-one, append_assoc, append-nil, drop_at}
use Rattle.std.specs.Prelude.{◌==◌, not, if◌then◌else◌}
use Rattle.std.specs.List.{flat_map, prefix_len}
use Rattle.std.proofs.Math.Seq.{take-suc}
use Rattle.std.proofs.lemmas.Bool.{cond-true, cond-false, eq-eqb, ne_eqb}
use Rattle.std.proofs.lemmas.List.{map-append}
use Rattle.std.proofs.lemmas.List.Concat.{flat_map-append}
use Rattle.std.proofs.lemmas.List.Elements.{filter-append}
use Rattle.tree_model.specs.Declarations.{declarations_of}
use Rattle.tree_model.specs.Printing.{is_bound, wanted, behind, declarations, declaration_text}
use Rattle.tree_model.specs.Rows.{name_at, label_of}
use Rattle.tree_model.specs.Sound.{is_empty, binding_of}
use Rattle.tree_model.specs.XmlMeaning.{Pair, Scope}
use Rattle.tree_model.specs.Labels.{Label}
use Rattle.tree_model.specs.declared.row.Row.{Row}
use Rattle.tree_model.specs.declared.text.Name.{Name}
use Rattle.serializer.specs.Scopes.{InForce, scope_of, outside, with_prefix, AreAt, AreAbout, Declares}

-- ---- declarations, one behind the other

behind-append : (xs ys : List Pair) (scope : Scope) → behind (xs ++ ys) scope ≡ behind ys (behind xs scope)
behind-append [] ys scope = refl
behind-append (x ∷ xs) ys scope = behind-append xs ys (x ∷ scope)

at-append : (place : ℕ) (xs ys : List InForce) → AreAt place xs → AreAt place ys → AreAt place (xs ++ ys)
at-append place [] ys p q = q
at-append place (x ∷ xs) ys p q = (p.0, at-append place xs ys p.1 q)

pub declares_none : (place : ℕ) (bindings : List InForce) → Declares place [] bindings bindings
declares_none place bindings = record { own = []; is = refl; at = tt; scope = refl }

pub declares_one : (place : ℕ) (pair : Pair) (old new : List InForce) → new ≡ record { place = place; pair = pair } ∷ old → Declares place (pair ∷ []) old new
declares_one place pair old new is = record { own = record { place = place; pair = pair } ∷ []; is = is; at = (refl, tt); scope = ap scope_of is }

pub declares_both : (place : ℕ) (xs ys : List Pair) (old mid new : List InForce) → Declares place xs old mid → Declares place ys mid new → Declares place (xs ++ ys) old new
declares_both place xs ys old mid new d e =
    record {
      own = e.own ++ d.own;
      is = e.is ∙ ap (λ (bs : List InForce). e.own ++ bs) d.is ∙ sym (append_assoc e.own d.own old);
      at = at-append place e.own d.own e.at d.at;
      scope = e.scope ∙ ap (behind ys) d.scope ∙ sym (behind-append xs ys (scope_of old));
    }

pub text_both : (xs ys : List Pair) (before between after : List ℕ) → between ≡ before ++ flat_map declaration_text xs → after ≡ between ++ flat_map declaration_text ys → after ≡ before ++ flat_map declaration_text (xs ++ ys)
text_both xs ys before between after e f =
    f ∙ ap (λ l. l ++ flat_map declaration_text ys) e ∙ append_assoc before (flat_map declaration_text xs) (flat_map declaration_text ys)
    ∙ ap (λ l. before ++ l) (sym (flat_map-append declaration_text xs ys))

-- ---- those that an element has itself

-- the first of those that are left
pub own_first : (place : ℕ) (pair : Pair) (left more : List Pair) (all : List Pair) (first old mid : List InForce) → left ≡ pair ∷ more → Declares place (pair ∷ []) old mid
    → ((new : List InForce) → Declares place left old new → Declares place all first new) → (new : List InForce) → Declares place more mid new → Declares place all first new
own_first place pair left more all first old mid is d rest new e =
    rest new (subst (λ (ps : List Pair). Declares place ps old new) (sym is) (declares_both place (pair ∷ []) more old mid new d e))

pub own_text : (pair : Pair) (left more : List Pair) (out new all : List ℕ) → left ≡ pair ∷ more → new ≡ out ++ declaration_text pair → out ++ flat_map declaration_text left ≡ all → new ++ flat_map declaration_text more ≡ all
own_text pair left more out new all is e text =
    ap (λ l. l ++ flat_map declaration_text more) e ∙ append_assoc out (declaration_text pair) (flat_map declaration_text more) ∙ ap (λ (ps : List Pair). out ++ flat_map declaration_text ps) (sym is) ∙ text

-- none is left
pub own_all : (place : ℕ) (left all : List Pair) (first new : List InForce) → left ≡ [] → ((after : List InForce) → Declares place left new after → Declares place all first after) → Declares place all first new
own_all place left all first new none rest = rest new (subst (λ (ps : List Pair). Declares place ps new new) (sym none) (declares_none place new))

-- ---- those that names want

wanted_by : (b : Bool) (scope : Scope) (x : Name) (ys : List Name) (all first all_in first_in : List Pair) → all ≡ first ++ wanted (behind first scope) ys
    → all_in ≡ first_in ++ wanted (behind first_in (binding_of x ∷ scope)) ys
    → (if b then all else binding_of x ∷ all_in) ≡ (if b then first else binding_of x ∷ first_in) ++ wanted (behind (if b then first else binding_of x ∷ first_in) scope) ys
wanted_by true scope x ys all first all_in first_in p q = p
wanted_by false scope x ys all first all_in first_in p q = ap (λ (ps : List Pair). binding_of x ∷ ps) q

wanted-append : (scope : Scope) (xs ys : List Name) → wanted scope (xs ++ ys) ≡ wanted scope xs ++ wanted (behind (wanted scope xs) scope) ys
wanted-append scope [] ys = refl
wanted-append scope (x ∷ xs) ys =
    wanted_by (is_bound scope x) scope x ys (wanted scope (xs ++ ys)) (wanted scope xs) (wanted (binding_of x ∷ scope) (xs ++ ys)) (wanted (binding_of x ∷ scope) xs)
    (wanted-append scope xs ys) (wanted-append (binding_of x ∷ scope) xs ys)

wanted_more : (place : ℕ) (xs ys : List Name) (old mid : List InForce) → Declares place (wanted (scope_of old) xs) old mid
    → wanted (scope_of old) (xs ++ ys) ≡ wanted (scope_of old) xs ++ wanted (scope_of mid) ys
wanted_more place xs ys old mid d =
    wanted-append (scope_of old) xs ys ∙ ap (λ (s : Scope). wanted (scope_of old) xs ++ wanted s ys) (sym d.scope)

pub declares_more : (place : ℕ) (xs ys : List Name) (old mid new : List InForce) → Declares place (wanted (scope_of old) xs) old mid
    → Declares place (wanted (scope_of mid) ys) mid new → Declares place (wanted (scope_of old) (xs ++ ys)) old new
declares_more place xs ys old mid new d e =
    subst (λ (ps : List Pair). Declares place ps old new) (sym (wanted_more place xs ys old mid d))
    (declares_both place (wanted (scope_of old) xs) (wanted (scope_of mid) ys) old mid new d e)

pub text_more : (place : ℕ) (xs ys : List Name) (old mid : List InForce) (before between after : List ℕ) → Declares place (wanted (scope_of old) xs) old mid
    → between ≡ before ++ flat_map declaration_text (wanted (scope_of old) xs) → after ≡ between ++ flat_map declaration_text (wanted (scope_of mid) ys)
    → after ≡ before ++ flat_map declaration_text (wanted (scope_of old) (xs ++ ys))
text_more place xs ys old mid before between after d e f =
    text_both (wanted (scope_of old) xs) (wanted (scope_of mid) ys) before between after e f ∙ ap (λ (ps : List Pair). before ++ flat_map declaration_text ps) (sym (wanted_more place xs ys old mid d))

-- one name

wanted_one : (b : Bool) (scope : Scope) (name : Name) → is_bound scope name ≡ b → wanted scope (name ∷ []) ≡ (if b then [] else binding_of name ∷ [])
wanted_one b scope name e = ap (λ c. if c then [] else binding_of name ∷ []) e

pub declares_bound : (place : ℕ) (name : Name) (bindings : List InForce) → is_bound (scope_of bindings) name ≡ true → Declares place (wanted (scope_of bindings) (name ∷ [])) bindings bindings
declares_bound place name bindings e =
    subst (λ (ps : List Pair). Declares place ps bindings bindings) (sym (wanted_one true (scope_of bindings) name e)) (declares_none place bindings)

pub text_bound : (name : Name) (bindings : List InForce) (out : List ℕ) → is_bound (scope_of bindings) name ≡ true → out ≡ out ++ flat_map declaration_text (wanted (scope_of bindings) (name ∷ []))
text_bound name bindings out e = sym (ap (λ (ps : List Pair). out ++ flat_map declaration_text ps) (wanted_one true (scope_of bindings) name e) ∙ append-nil out)

pub declares_new : (place : ℕ) (name : Name) (old new : List InForce) → is_bound (scope_of old) name ≡ false → Declares place (binding_of name ∷ []) old new → Declares place (wanted (scope_of old) (name ∷ [])) old new
declares_new place name old new e d = subst (λ (ps : List Pair). Declares place ps old new) (sym (wanted_one false (scope_of old) name e)) d

pub text_new : (name : Name) (bindings : List InForce) (before after : List ℕ) → is_bound (scope_of bindings) name ≡ false → after ≡ before ++ declaration_text (binding_of name)
    → after ≡ before ++ flat_map declaration_text (wanted (scope_of bindings) (name ∷ []))
text_new name bindings before after e is =
    is ∙ ap (λ l. before ++ l) (sym (ap (flat_map declaration_text) (wanted_one false (scope_of bindings) name e) ∙ append-nil (declaration_text (binding_of name))))

-- attribute by attribute

-- the names with a prefix in rows
abbrev pub prefixed : List Name → List ℕ → List Row → List Name
prefixed names values rows = with_prefix (map (λ (a : Label). a.name) (map (label_of names values) rows))

prefixed_more : (names : List Name) (values : List ℕ) (rows : List Row) (i : ℕ) (d : Row) → i < length rows
    → prefixed names values (take (i + 1) rows) ≡ prefixed names values (take i rows) ++ with_prefix (name_at names (get_or rows i d).name ∷ [])
prefixed_more names values rows i d lt =
    let row : Row = get_or rows i d in
    let front : take (i + 1) rows ≡ take i rows ++ row ∷ [] = rw add-one (take-suc rows i d lt) in
    let first : List Label = map (label_of names values) (take i rows) in
    let last : List Label = label_of names values row ∷ [] in
    ap (prefixed names values) front
    ∙ ap (λ (ls : List Label). with_prefix (map (λ (a : Label). a.name) ls)) (map-append (label_of names values) (take i rows) (row ∷ []))
    ∙ ap with_prefix (map-append (λ (a : Label). a.name) first last)
    ∙ filter-append (λ (name : Name). not (is_empty name.prefix)) (map (λ (a : Label). a.name) first) (name_at names row.name ∷ [])

pub declares_row : (names : List Name) (values : List ℕ) (place : ℕ) (rows : List Row) (i : ℕ) (d : Row) (old mid new : List InForce) → i < length rows
    → Declares place (wanted (scope_of old) (prefixed names values (take i rows))) old mid
    → Declares place (wanted (scope_of mid) (with_prefix (name_at names (get_or rows i d).name ∷ []))) mid new
    → Declares place (wanted (scope_of old) (prefixed names values (take (i + 1) rows))) old new
declares_row names values place rows i d old mid new lt first last =
    subst (λ (ns : List Name). Declares place (wanted (scope_of old) ns) old new) (sym (prefixed_more names values rows i d lt))
    (declares_more place (prefixed names values (take i rows)) (with_prefix (name_at names (get_or rows i d).name ∷ [])) old mid new first last)

pub text_row : (names : List Name) (values : List ℕ) (place : ℕ) (rows : List Row) (i : ℕ) (d : Row) (old mid : List InForce) (before between after : List ℕ) → i < length rows
    → Declares place (wanted (scope_of old) (prefixed names values (take i rows))) old mid
    → between ≡ before ++ flat_map declaration_text (wanted (scope_of old) (prefixed names values (take i rows)))
    → after ≡ between ++ flat_map declaration_text (wanted (scope_of mid) (with_prefix (name_at names (get_or rows i d).name ∷ [])))
    → after ≡ before ++ flat_map declaration_text (wanted (scope_of old) (prefixed names values (take (i + 1) rows)))
text_row names values place rows i d old mid before between after lt declared first last =
    text_more place (prefixed names values (take i rows)) (with_prefix (name_at names (get_or rows i d).name ∷ [])) old mid before between after declared first last
    ∙ ap (λ (ns : List Name). before ++ flat_map declaration_text (wanted (scope_of old) ns)) (sym (prefixed_more names values rows i d lt))

-- ---- all that an element declares

pub declares_all : (place : ℕ) (label : Label) (attrs : List Label) (old mid new : List InForce) → Declares place (declarations_of label.value) old mid
    → Declares place (wanted (scope_of mid) (label.name ∷ with_prefix (map (λ (a : Label). a.name) attrs))) mid new → Declares place (declarations (scope_of old) label attrs) old new
declares_all place label attrs old mid new d e =
    let names : List Name = label.name ∷ with_prefix (map (λ (a : Label). a.name) attrs) in
    declares_both place (declarations_of label.value) (wanted (behind (declarations_of label.value) (scope_of old)) names) old mid new d
    (subst (λ (s : Scope). Declares place (wanted s names) mid new) d.scope e)

pub text_all : (place : ℕ) (label : Label) (attrs : List Label) (old mid : List InForce) (before between after : List ℕ) → Declares place (declarations_of label.value) old mid
    → between ≡ before ++ flat_map declaration_text (declarations_of label.value)
    → after ≡ between ++ flat_map declaration_text (wanted (scope_of mid) (label.name ∷ with_prefix (map (λ (a : Label). a.name) attrs)))
    → after ≡ before ++ flat_map declaration_text (declarations (scope_of old) label attrs)
text_all place label attrs old mid before between after d e f =
    let names : List Name = label.name ∷ with_prefix (map (λ (a : Label). a.name) attrs) in
    text_both (declarations_of label.value) (wanted (behind (declarations_of label.value) (scope_of old)) names) before between after e
    (f ∙ ap (λ (s : Scope). between ++ flat_map declaration_text (wanted s names)) d.scope)

-- ---- an element's own bindings are left

own_len : (place : ℕ) (own about : List InForce) → AreAt place own → AreAbout place about → prefix_len (λ (b : InForce). b.place == place) (own ++ about) ≡ length own
own_len place [] [] at before = refl
own_len place [] (b ∷ about) at before = cond-false _ _ _ (ne_eqb b.place place (omega (arith, before.0)))
own_len place (b ∷ own) about at before =
    cond-true _ _ _ (eq-eqb b.place place at.0) ∙ (let more = own_len place own about at.1 before in omega arith)

pub outside_own : (place : ℕ) (own about : List InForce) → AreAt place own → AreAbout place about → outside place (own ++ about) ≡ about
outside_own place own about at before = ap (λ n. drop n (own ++ about)) (own_len place own about at before) ∙ drop_at own about (length own) refl
