-- The order of pieces: what is cut from a document is in order, and what is in order is cut from one.
use Rattle.std.proofs.Common.{◌≡◌, ℕ, Bool, true, false, not, ◌&&◌, cond, List, [], ◌∷◌, ◌++◌, map, Option, Some, None, refl, sym, ap, ◌∙◌, subst, append_assoc, append-nil, eqb}
use Rattle.std.proofs.lemmas.List.{map-append}
use Rattle.std.proofs.lemmas.Bool.{false≢true, eqb-true}
use Rattle.std.proofs.lemmas.Slice.Eq.{bytes_eq-Decides}
use Rattle.std.specs.Prelude.{⊤}
use Rattle.std.specs.List.{list_all}
use Rattle.std.specs.Option.{option_and_then}
use Rattle.std.specs.Str.{bytes_eq}
use Rattle.tree_model.specs.XmlChars.{is_space}
use Rattle.tree_model.specs.XmlSource.{Part, run, entity, decimal, hexadecimal, Attr, Content, done, element, empty, part, cdata, comm, pi, Doctype}
use Rattle.tree_model.specs.XmlGood.{is_in, are_new, names_of, IsGood, IsRoot, IsMisc, IsBehind}
use Rattle.xml_pieces.specs.Tokens.{Token, part_token, cdata_token, comm_token, pi_token, doctype_token, open_token, attr_token, quote_token, go_token, shut_token, close_token, head_token, attr_tokens, tokens}
use Rattle.xml_order.specs.Body.{Body, IsBody, body_tokens, doctype_tokens}
use Rattle.xml_order.specs.Shape.{Stage, before_doctype, before_root, behind_root, Mode, in_content, in_tag, in_quotes, Shape, shape, with_part, may_open, in_order_at, in_order, all_in_order, begin, end, where_at}
use Rattle.xml_pieces.specs.Item.{next}
use Rattle.xml_pieces.proofs.Readers.{same_byte}
use Rattle.xml_order.specs.Cuts.{behind}

order-append : (ts us : List Token) (s : Shape) → all_in_order (ts ++ us) s ≡ option_and_then (all_in_order us) (all_in_order ts s)
order-append [] us s = refl
order-append (t ∷ ts) us s = by (λ m. order-append ts us m) (in_order s t)
  where
    by : ((m : Shape) → all_in_order (ts ++ us) m ≡ option_and_then (all_in_order us) (all_in_order ts m)) → (r : Option Shape)
        → option_and_then (all_in_order (ts ++ us)) r ≡ option_and_then (all_in_order us) (option_and_then (all_in_order ts) r)
    by on None = refl
    by on (Some m) = on m

pub order_then : (ts us : List Token) (s m : Shape) → all_in_order ts s ≡ Some m → all_in_order (ts ++ us) s ≡ all_in_order us m
order_then ts us s m e = order-append ts us s ∙ ap (option_and_then (all_in_order us)) e

same_name : (name : List ℕ) → bytes_eq name name ≡ true
same_name name = (bytes_eq-Decides name name).1 refl

-- ---- from a document to its pieces

-- the names that were met, the last first
abbrev pub noted : List (List ℕ) → List Attr → List (List ℕ)
noted names [] = names
noted names (a ∷ attrs) = noted (a.name ∷ names) attrs

new_parts : (a b : Bool) → (not a && b) ≡ true → (a ≡ false) × (b ≡ true)
new_parts false b e = (refl, e)
new_parts true b e = absurd (false≢true e)

module _ (opened : List (List ℕ)) (stage : Stage) (name : List ℕ) where
  value_ordered : (parts : List Part) (names : List (List ℕ)) (d : ℕ)
      → all_in_order (map part_token parts) (shape opened stage (in_quotes name names d)) ≡ Some (shape opened stage (in_quotes name names d))
  unfolding in_order
  value_ordered [] names d = refl
  value_ordered (p ∷ parts) names d = value_ordered parts names d

  attrs_ordered : (attrs : List Attr) (names : List (List ℕ)) → are_new names (names_of attrs) ≡ true
      → all_in_order (attr_tokens attrs) (shape opened stage (in_tag name names)) ≡ Some (shape opened stage (in_tag name (noted names attrs)))
  unfolding in_order
  attrs_ordered [] names new = refl
  attrs_ordered (a ∷ attrs) names new =
      let both = new_parts (is_in a.name names) (are_new (a.name ∷ names) (names_of attrs)) new in
      let rest : List Token = quote_token a.delim ∷ attr_tokens attrs in
      ap (λ b. option_and_then (all_in_order (map part_token a.value ++ rest)) (cond b None (Some (shape opened stage (in_quotes name (a.name ∷ names) a.delim))))) both.0
      ∙ order_then (map part_token a.value) rest (shape opened stage (in_quotes name (a.name ∷ names) a.delim)) _ (value_ordered a.value (a.name ∷ names) a.delim)
      ∙ ap (λ b. option_and_then (all_in_order (attr_tokens attrs)) (cond b (Some (shape opened stage (in_tag name (a.name ∷ names)))) None)) (same_byte a.delim)
      ∙ attrs_ordered attrs (a.name ∷ names) both.1

  -- a tag up to its end
  tag_ordered : (attrs : List Attr) (rest : List Token) → are_new [] (names_of attrs) ≡ true
      → all_in_order (attr_tokens attrs ++ rest) (shape opened stage (in_tag name [])) ≡ all_in_order rest (shape opened stage (in_tag name (noted [] attrs)))
  tag_ordered attrs rest new = order_then (attr_tokens attrs) rest _ _ (attrs_ordered attrs [] new)

-- the pieces of what stands in an element are in order
abbrev Ordered : Content → Type 0
Ordered g = (up : List (List ℕ)) (name : List ℕ) → IsGood g → all_in_order (tokens g) (shape (name ∷ up) behind_root in_content) ≡ Some (shape (name ∷ up) behind_root in_content)

-- an element, wherever it may begin
element_ordered : (name : List ℕ) (attrs : List Attr) (gap : List ℕ) (inside : Content) (last : List ℕ) (up : List (List ℕ)) (rest : List Token) → Ordered inside → are_new [] (names_of attrs) ≡ true → IsGood inside
    → all_in_order (attr_tokens attrs ++ go_token gap ∷ (tokens inside ++ close_token name last ∷ rest)) (shape up behind_root (in_tag name [])) ≡ all_in_order rest (shape up behind_root in_content)
unfolding in_order
element_ordered name attrs gap inside last up rest ordered new good =
    tag_ordered up behind_root name attrs (go_token gap ∷ (tokens inside ++ close_token name last ∷ rest)) new
    ∙ order_then (tokens inside) (close_token name last ∷ rest) (shape (name ∷ up) behind_root in_content) _ (ordered up name good)
    ∙ ap (λ b. option_and_then (all_in_order rest) (cond b (Some (shape up behind_root in_content)) None)) (same_name name)

empty_ordered : (name : List ℕ) (attrs : List Attr) (gap : List ℕ) (up : List (List ℕ)) (rest : List Token) → are_new [] (names_of attrs) ≡ true
    → all_in_order (attr_tokens attrs ++ shut_token gap ∷ rest) (shape up behind_root (in_tag name [])) ≡ all_in_order rest (shape up behind_root in_content)
unfolding in_order
empty_ordered name attrs gap up rest new = tag_ordered up behind_root name attrs (shut_token gap ∷ rest) new

part_inside : (p : Part) (name : List ℕ) (up : List (List ℕ)) (stage : Stage) → with_part p (name ∷ up) stage ≡ Some (shape (name ∷ up) stage in_content)
part_inside (run bytes) name up stage = refl
part_inside (entity key) name up stage = refl
part_inside (decimal digits) name up stage = refl
part_inside (hexadecimal digits) name up stage = refl

content_ordered : (g : Content) → Ordered g
unfolding in_order
content_ordered done up name good = refl
content_ordered (element key attrs gap inside last more) up name (is_tag, within, blank, on) =
    element_ordered key attrs gap inside last (name ∷ up) (tokens more) (content_ordered inside) is_tag.differ within ∙ content_ordered more up name on
content_ordered (empty key attrs gap more) up name (is_tag, on) = empty_ordered key attrs gap (name ∷ up) (tokens more) is_tag.differ ∙ content_ordered more up name on
content_ordered (part p more) up name (is_part, ends, on) = ap (option_and_then (all_in_order (tokens more))) (part_inside p name up behind_root) ∙ content_ordered more up name on
content_ordered (cdata bytes more) up name (ends, on) = content_ordered more up name on
content_ordered (comm bytes more) up name (is, on) = content_ordered more up name on
content_ordered (pi target gap bytes more) up name (is, on) = content_ordered more up name on

-- comments, instructions and white space outside the root
pub misc_ordered : (c : Content) (stage : Stage) → IsMisc c → all_in_order (tokens c) (shape [] stage in_content) ≡ Some (shape [] stage in_content)
unfolding in_order
misc_ordered done stage is = refl
misc_ordered (part (run bytes) more) stage is = ap (λ b. option_and_then (all_in_order (tokens more)) (cond b (Some (shape [] stage in_content)) None)) is.0 ∙ misc_ordered more stage is.1
misc_ordered (comm bytes more) stage is = misc_ordered more stage is
misc_ordered (pi target gap bytes more) stage is = misc_ordered more stage is
misc_ordered other stage is = absurd is

-- the root, where none was met
root_ordered : (g : Content) (stage : Stage) → may_open [] stage ≡ true → IsGood g → IsRoot g → all_in_order (tokens g) (shape [] stage in_content) ≡ Some end
unfolding in_order
root_ordered (element name attrs gap inside last done) stage first good root =
    ap (λ b. option_and_then (all_in_order (attr_tokens attrs ++ go_token gap ∷ (tokens inside ++ close_token name last ∷ []))) (cond b (Some (shape [] behind_root (in_tag name []))) None)) first
    ∙ element_ordered name attrs gap inside last [] [] (content_ordered inside) good.0.differ good.1
root_ordered (empty name attrs gap done) stage first good root =
    ap (λ b. option_and_then (all_in_order (attr_tokens attrs ++ shut_token gap ∷ [])) (cond b (Some (shape [] behind_root (in_tag name []))) None)) first ∙ empty_ordered name attrs gap [] [] good.0.differ
root_ordered other stage first good root = absurd root

-- what was met behind a DOCTYPE, if there is one
abbrev stage_behind : Option Doctype → Stage
stage_behind None = before_doctype
stage_behind (Some d) = before_root

doctype_ordered : (d : Option Doctype) → all_in_order (doctype_tokens d) begin ≡ Some (shape [] (stage_behind d) in_content)
unfolding in_order
doctype_ordered None = refl
doctype_ordered (Some d) = refl

behind_is_misc : (d : Option Doctype) (c : Content) → IsBehind d c → IsMisc c
behind_is_misc None done is = tt
behind_is_misc None other is = absurd is
behind_is_misc (Some d) c is = is

root_may_open : (d : Option Doctype) → may_open [] (stage_behind d) ≡ true
root_may_open None = refl
root_may_open (Some d) = refl

pub body_ordered : (b : Body) → IsBody b → all_in_order (body_tokens b) begin ≡ Some end
body_ordered b is =
    let outside : Shape = shape [] (stage_behind b.doctype) in_content in
    order_then (tokens b.first) _ begin begin (misc_ordered b.first before_doctype is.first_misc)
    ∙ order_then (doctype_tokens b.doctype) _ begin outside (doctype_ordered b.doctype)
    ∙ order_then (tokens b.second) _ outside outside (misc_ordered b.second (stage_behind b.doctype) (behind_is_misc b.doctype b.second is.second_misc))
    ∙ order_then (tokens b.root) (tokens b.last) outside end (root_ordered b.root (stage_behind b.doctype) (root_may_open b.doctype) is.root_good is.one_root)
    ∙ misc_ordered b.last behind_root is.last_misc

-- ---- from pieces in order to what they were cut from

-- no two attributes of a tag are written alike
abbrev pub Differ : Content → Type 0
Differ done = ⊤
Differ (element name attrs gap inside last more) = (are_new [] (names_of attrs) ≡ true) × Differ inside × Differ more
Differ (empty name attrs gap more) = (are_new [] (names_of attrs) ≡ true) × Differ more
Differ (part p more) = Differ more
Differ (cdata bytes more) = Differ more
Differ (comm bytes more) = Differ more
Differ (pi target gap bytes more) = Differ more

abbrev pub join : Content → Content → Content
join done h = h
join (element name attrs gap inside last more) h = element name attrs gap inside last (join more h)
join (empty name attrs gap more) h = empty name attrs gap (join more h)
join (part p more) h = part p (join more h)
join (cdata bytes more) h = cdata bytes (join more h)
join (comm bytes more) h = comm bytes (join more h)
join (pi target gap bytes more) h = pi target gap bytes (join more h)

tokens_join : (g h : Content) → tokens (join g h) ≡ tokens g ++ tokens h
tokens_join done h = refl
tokens_join (element name attrs gap inside last more) h = rw (tokens_join more h) (simp append_assoc)
tokens_join (empty name attrs gap more) h = rw (tokens_join more h) (simp append_assoc)
tokens_join (part p more) h = ap (λ l. part_token p ∷ l) (tokens_join more h)
tokens_join (cdata bytes more) h = ap (λ l. cdata_token bytes ∷ l) (tokens_join more h)
tokens_join (comm bytes more) h = ap (λ l. comm_token bytes ∷ l) (tokens_join more h)
tokens_join (pi target gap bytes more) h = ap (λ l. pi_token target gap bytes ∷ l) (tokens_join more h)

differ_join : (g h : Content) → Differ g → Differ h → Differ (join g h)
differ_join done h a b = b
differ_join (element name attrs gap inside last more) h a b = (a.0, a.1, differ_join more h a.2 b)
differ_join (empty name attrs gap more) h a b = (a.0, differ_join more h a.1 b)
differ_join (part p more) h a b = differ_join more h a b
differ_join (cdata bytes more) h a b = differ_join more h a b
differ_join (comm bytes more) h a b = differ_join more h a b
differ_join (pi target gap bytes more) h a b = differ_join more h a b

misc_join : (g h : Content) → IsMisc g → IsMisc h → IsMisc (join g h)
misc_join done h a b = b
misc_join (part (run bytes) more) h a b = (a.0, misc_join more h a.1 b)
misc_join (comm bytes more) h a b = misc_join more h a b
misc_join (pi target gap bytes more) h a b = misc_join more h a b
misc_join other h a b = absurd a

pub misc_differ : (g : Content) → IsMisc g → Differ g
misc_differ done is = tt
misc_differ (part (run bytes) more) is = misc_differ more is.1
misc_differ (comm bytes more) is = misc_differ more is
misc_differ (pi target gap bytes more) is = misc_differ more is
misc_differ other is = absurd is

-- the pieces before the root
abbrev pub Before : Stage → List Token → Type 0
Before before_doctype ts = (first : Content) × IsMisc first × (ts ≡ tokens first)
Before before_root ts = (first : Content) × (bytes : List ℕ) × (second : Content) × IsMisc first × IsMisc second × (ts ≡ tokens first ++ doctype_token bytes ∷ tokens second)
Before behind_root ts = ⊥

-- the pieces so far, where no element is open
abbrev pub Outside : Stage → List Token → Type 0
Outside before_doctype ts = Before before_doctype ts
Outside before_root ts = Before before_root ts
Outside behind_root ts = (before : List Token) × (stage : Stage) × (root : Content) × (last : Content)
    × Before stage before × IsRoot root × Differ root × IsMisc last × (ts ≡ before ++ (tokens root ++ tokens last))

-- the pieces so far, where an element or the root may begin
abbrev pub Room : List (List ℕ) → List Token → Type 0
Room [] ts = (stage : Stage) × Before stage ts
Room (name ∷ up) ts = (before : List Token) × (attrs : List Attr) × (gap : List ℕ) × (g : Content)
    × (ts ≡ before ++ open_token name ∷ (attr_tokens attrs ++ go_token gap ∷ tokens g)) × (are_new [] (names_of attrs) ≡ true) × Differ g × Room up before

-- the pieces so far, with the elements that are open
abbrev pub Opened : List (List ℕ) → Stage → List Token → Type 0
Opened [] stage ts = Outside stage ts
Opened (name ∷ up) stage ts = Room (name ∷ up) ts × (stage ≡ behind_root)

-- below an open element there is room for more
add : (name : List ℕ) (up : List (List ℕ)) (ts : List Token) (h : Content) → Room (name ∷ up) ts → Differ h → Room (name ∷ up) (ts ++ tokens h)
add name up ts h (before, attrs, gap, g, is, new, differ, outer) d = (
  before,
  attrs,
  gap,
  join g h,
  ap (λ l. l ++ tokens h) is ∙ append_assoc before _ (tokens h) ∙ ap (λ l. before ++ open_token name ∷ l) (append_assoc (attr_tokens attrs) _ (tokens h) ∙ ap (λ l. attr_tokens attrs ++ go_token gap ∷ l) (sym (tokens_join g h))),
  new,
  differ_join g h differ d,
  outer,
)

-- and where none is open, for the root
put : (up : List (List ℕ)) (ts : List Token) (h : Content) → Room up ts → Differ h → IsRoot h → Opened up behind_root (ts ++ tokens h)
put [] ts h (stage, is) d root = (ts, stage, h, done, is, root, d, tt, ap (λ l. ts ++ l) (sym (append-nil (tokens h))))
put (name ∷ up) ts h o d root = (add name up ts h o d, refl)

-- outside the root there is room for comments, instructions and white space
add_misc : (stage : Stage) (ts : List Token) (h : Content) → IsMisc h → Outside stage ts → Outside stage (ts ++ tokens h)
add_misc before_doctype ts h misc (first, first_misc, is) = (join first h, misc_join first h first_misc misc, ap (λ l. l ++ tokens h) is ∙ sym (tokens_join first h))
add_misc before_root ts h misc (first, bytes, second, first_misc, second_misc, is) = (
  first,
  bytes,
  join second h,
  first_misc,
  misc_join second h second_misc misc,
  ap (λ l. l ++ tokens h) is ∙ append_assoc (tokens first) _ (tokens h) ∙ ap (λ l. tokens first ++ doctype_token bytes ∷ l) (sym (tokens_join second h)),
)
add_misc behind_root ts h misc (before, stage, root, last, first, one, differ, last_misc, is) = (
  before,
  stage,
  root,
  join last h,
  first,
  one,
  differ,
  misc_join last h last_misc misc,
  ap (λ l. l ++ tokens h) is ∙ append_assoc before _ (tokens h) ∙ ap (λ l. before ++ l) (append_assoc (tokens root) _ (tokens h) ∙ ap (λ l. tokens root ++ l) (sym (tokens_join last h))),
)

-- the state of a tag
abbrev pub InTag : List (List ℕ) → List Token → List ℕ → List (List ℕ) → Type 0
InTag opened ts name names = (before : List Token) × (attrs : List Attr) × (ts ≡ before ++ open_token name ∷ attr_tokens attrs) × (names ≡ noted [] attrs) × (are_new [] (names_of attrs) ≡ true) × Room opened before

abbrev pub InQuotes : List (List ℕ) → List Token → List ℕ → List (List ℕ) → ℕ → Type 0
InQuotes opened ts name names delim = (before : List Token) × (attrs : List Attr) × (a : Attr)
    × (ts ≡ before ++ open_token name ∷ (attr_tokens attrs ++ head_token a ∷ map part_token a.value)) × (a.delim ≡ delim) × (names ≡ a.name ∷ noted [] attrs) × (are_new [] (names_of attrs ++ a.name ∷ []) ≡ true)
    × Room opened before

abbrev pub StandsIn : Mode → List (List ℕ) → Stage → List Token → Type 0
StandsIn in_content opened stage ts = Opened opened stage ts
StandsIn (in_tag name names) opened stage ts = InTag opened ts name names × (stage ≡ behind_root)
StandsIn (in_quotes name names delim) opened stage ts = InQuotes opened ts name names delim × (stage ≡ behind_root)

abbrev pub Stands : Shape → List Token → Type 0
Stands s ts = StandsIn s.mode s.opened s.stage ts

moved : (s m : Shape) (ts : List Token) → Some s ≡ Some m → Stands s ts → Stands m ts
moved s m ts e is = let same : s ≡ m = cc in subst (λ x. Stands x ts) same is

attr_tokens-append : (attrs more : List Attr) → attr_tokens (attrs ++ more) ≡ attr_tokens attrs ++ attr_tokens more
attr_tokens-append [] more = refl
attr_tokens-append (a ∷ attrs) more = rw (attr_tokens-append attrs more) (simp append_assoc)

noted-append : (names : List (List ℕ)) (attrs : List Attr) (a : Attr) → noted names (attrs ++ a ∷ []) ≡ a.name ∷ noted names attrs
noted-append names [] a = refl
noted-append names (b ∷ attrs) a = noted-append (b.name ∷ names) attrs a

new_more : (names : List (List ℕ)) (attrs : List Attr) (key : List ℕ) → are_new names (names_of attrs) ≡ true → is_in key (noted names attrs) ≡ false → are_new names (names_of attrs ++ key ∷ []) ≡ true
new_more names [] key new apart = ap (λ b. not b && true) apart
new_more names (a ∷ attrs) key new apart =
    let both = new_parts (is_in a.name names) (are_new (a.name ∷ names) (names_of attrs)) new in
    ap (λ b. not b && are_new (a.name ∷ names) (names_of attrs ++ key ∷ [])) both.0 ∙ new_more (a.name ∷ names) attrs key both.1 apart

names_append : (attrs : List Attr) (a : Attr) → names_of (attrs ++ a ∷ []) ≡ names_of attrs ++ a.name ∷ []
names_append [] a = refl
names_append (b ∷ attrs) a = ap (λ l. b.name ∷ l) (names_append attrs a)

chosen : (b : Bool) (s m : Shape) → cond b (Some s) None ≡ Some m → (b ≡ true) × (Some s ≡ Some m)
chosen true s m e = (refl, e)
chosen false s m e = absurd cc

chosen_not : (b : Bool) (s m : Shape) → cond b None (Some s) ≡ Some m → (b ≡ false) × (Some s ≡ Some m)
chosen_not false s m e = (refl, e)
chosen_not true s m e = absurd cc

-- one more piece in order keeps what is said of the pieces
keeps : (mode : Mode) (opened : List (List ℕ)) (stage : Stage) (t : Token) (ts : List Token) (m : Shape) → StandsIn mode opened stage ts → in_order_at mode opened stage t ≡ Some m → Stands m (ts ++ t ∷ [])
keeps in_content [] stage (part_token (run bytes)) ts m is e =
    let both = chosen (list_all is_space bytes) (shape [] stage in_content) m e in
    moved (shape [] stage in_content) m _ both.1 (add_misc stage ts (part (run bytes) done) (both.0, tt) is)
keeps in_content (name ∷ up) stage (part_token p) ts m (is, was) e = moved (shape (name ∷ up) stage in_content) m _ (sym (part_inside p name up stage) ∙ e) (add name up ts (part p done) is tt, was)
keeps in_content (name ∷ up) stage (cdata_token bytes) ts m (is, was) e = moved (shape (name ∷ up) stage in_content) m _ e (add name up ts (cdata bytes done) is tt, was)
keeps in_content [] stage (comm_token bytes) ts m is e = moved (shape [] stage in_content) m _ e (add_misc stage ts (comm bytes done) tt is)
keeps in_content (name ∷ up) stage (comm_token bytes) ts m (is, was) e = moved (shape (name ∷ up) stage in_content) m _ e (add name up ts (comm bytes done) is tt, was)
keeps in_content [] stage (pi_token target gap bytes) ts m is e = moved (shape [] stage in_content) m _ e (add_misc stage ts (pi target gap bytes done) tt is)
keeps in_content (name ∷ up) stage (pi_token target gap bytes) ts m (is, was) e = moved (shape (name ∷ up) stage in_content) m _ e (add name up ts (pi target gap bytes done) is tt, was)
keeps in_content [] before_doctype (doctype_token bytes) ts m (first, misc, is) e =
    moved (shape [] before_root in_content) m _ e (first, bytes, done, misc, tt, ap (λ l. l ++ doctype_token bytes ∷ []) is)
keeps in_content [] before_doctype (open_token name) ts m is e = moved (shape [] behind_root (in_tag name [])) m _ e ((ts, [], refl, refl, refl, (before_doctype, is)), refl)
keeps in_content [] before_root (open_token name) ts m is e = moved (shape [] behind_root (in_tag name [])) m _ e ((ts, [], refl, refl, refl, (before_root, is)), refl)
keeps in_content (n ∷ up) stage (open_token name) ts m is e = moved (shape (n ∷ up) behind_root (in_tag name [])) m _ e ((ts, [], refl, refl, refl, is.0), refl)
keeps in_content (n ∷ up) stage (close_token name last) ts m ((before, attrs, gap, g, is, new, differ, outer), was) e =
    let both = chosen (bytes_eq n name) (shape up stage in_content) m e in
    let same : n ≡ name = (bytes_eq-Decides n name).0 both.0 in
    let whole : before ++ tokens (element n attrs gap g last done) ≡ ts ++ close_token name last ∷ [] =
    sym (ap (λ l. l ++ close_token name last ∷ []) is ∙ append_assoc before _ (close_token name last ∷ [])
    ∙ ap (λ l. before ++ open_token n ∷ l) (append_assoc (attr_tokens attrs) _ (close_token name last ∷ [])) ∙ ap (λ x. before ++ open_token n ∷ (attr_tokens attrs ++ go_token gap ∷ (tokens g ++ close_token x last ∷ []))) (sym same)) in
    moved (shape up stage in_content) m _ both.1
    (subst (λ l. Opened up stage l) whole (subst (λ s. Opened up s (before ++ tokens (element n attrs gap g last done))) (sym was) (put up before (element n attrs gap g last done) outer (new, differ, tt) tt)))
keeps (in_tag name names) opened stage (attr_token gap key bef beh d) ts m ((before, attrs, is, noted_is, new, outer), was) e =
    let both = chosen_not (is_in key names) (shape opened stage (in_quotes name (key ∷ names) d)) m e in
    let a : Attr = record { gap = gap; name = key; before = bef; behind = beh; delim = d; value = [] } in
    let whole : ts ++ head_token a ∷ [] ≡ before ++ open_token name ∷ (attr_tokens attrs ++ head_token a ∷ []) = ap (λ l. l ++ head_token a ∷ []) is ∙ append_assoc before _ (head_token a ∷ []) in
    let apart : is_in key (noted [] attrs) ≡ false = ap (is_in key) (sym noted_is) ∙ both.0 in
    moved (shape opened stage (in_quotes name (key ∷ names) d)) m _ both.1 ((before, attrs, a, whole, refl, ap (λ l. key ∷ l) noted_is, new_more [] attrs key new apart, outer), was)
keeps (in_tag name names) opened stage (go_token gap) ts m ((before, attrs, is, noted_is, new, outer), was) e =
    let whole : ts ++ go_token gap ∷ [] ≡ before ++ open_token name ∷ (attr_tokens attrs ++ go_token gap ∷ []) = ap (λ l. l ++ go_token gap ∷ []) is ∙ append_assoc before _ (go_token gap ∷ []) in
    moved (shape (name ∷ opened) stage in_content) m _ e ((before, attrs, gap, done, whole, new, tt, outer), was)
keeps (in_tag name names) opened stage (shut_token gap) ts m ((before, attrs, is, noted_is, new, outer), was) e =
    let whole : before ++ tokens (empty name attrs gap done) ≡ ts ++ shut_token gap ∷ [] = sym (ap (λ l. l ++ shut_token gap ∷ []) is ∙ append_assoc before _ (shut_token gap ∷ [])) in
    moved (shape opened stage in_content) m _ e
    (subst (λ l. Opened opened stage l) whole (subst (λ s. Opened opened s (before ++ tokens (empty name attrs gap done))) (sym was) (put opened before (empty name attrs gap done) outer (new, tt) tt)))
keeps (in_quotes name names d) opened stage (part_token p) ts m ((before, attrs, a, is, quote, noted_is, new, outer), was) e =
    let more : Attr = record a { value = a.value ++ p ∷ [] } in
    let whole : ts ++ part_token p ∷ [] ≡ before ++ open_token name ∷ (attr_tokens attrs ++ head_token a ∷ map part_token (a.value ++ p ∷ [])) =
    ap (λ l. l ++ part_token p ∷ []) is ∙ append_assoc before _ (part_token p ∷ []) ∙ ap (λ l. before ++ open_token name ∷ l) (append_assoc (attr_tokens attrs) _ (part_token p ∷ []))
    ∙ ap (λ l. before ++ open_token name ∷ (attr_tokens attrs ++ head_token a ∷ l)) (sym (map-append part_token a.value (p ∷ []))) in
    moved (shape opened stage (in_quotes name names d)) m _ e ((before, attrs, more, whole, quote, noted_is, new, outer), was)
keeps (in_quotes name names d) opened stage (quote_token other) ts m ((before, attrs, a, is, quote, noted_is, new, outer), was) e =
    let both = chosen (eqb d other) (shape opened stage (in_tag name names)) m e in
    let same : a.delim ≡ other = quote ∙ eqb-true d other both.0 in
    let whole : ts ++ quote_token other ∷ [] ≡ before ++ open_token name ∷ attr_tokens (attrs ++ a ∷ []) =
    ap (λ l. l ++ quote_token other ∷ []) is ∙ append_assoc before _ (quote_token other ∷ []) ∙ ap (λ l. before ++ open_token name ∷ l) (append_assoc (attr_tokens attrs) _ (quote_token other ∷ []))
    ∙ ap (λ d. before ++ open_token name ∷ (attr_tokens attrs ++ head_token a ∷ (map part_token a.value ++ quote_token d ∷ []))) (sym same) ∙ ap (λ l. before ++ open_token name ∷ l) (sym (attr_tokens-append attrs (a ∷ []))) in
    moved (shape opened stage (in_tag name names)) m _ both.1
    ((before, attrs ++ a ∷ [], whole, noted_is ∙ sym (noted-append [] attrs a), ap (are_new []) (names_append attrs a) ∙ new, outer), was)
keeps mode opened stage t ts m is e = absurd cc

keeps_all : (ts before : List Token) (s m : Shape) → Stands s before → all_in_order ts s ≡ Some m → Stands m (before ++ ts)
unfolding in_order
keeps_all [] before s m is e = subst (λ l. Stands m l) (sym (append-nil before)) (moved s m before e is)
keeps_all (t ∷ ts) before s m is e = by (λ n k f. keeps_all ts (before ++ t ∷ []) n m k f) (in_order s t) refl e
  where
    by : ((n : Shape) → Stands n (before ++ t ∷ []) → all_in_order ts n ≡ Some m → Stands m ((before ++ t ∷ []) ++ ts)) → (r : Option Shape) → in_order s t ≡ r → option_and_then (all_in_order ts) r ≡ Some m
        → Stands m (before ++ t ∷ ts)
    by on None f e = absurd cc
    by on (Some n) f e = subst (λ l. Stands m l) (append_assoc before (t ∷ []) ts) (on n (keeps s.mode s.opened s.stage t before n is f) e)

-- pieces in order are those of a document, up to what the pieces themselves keep
pub ordered_body : (ts : List Token) → all_in_order ts begin ≡ Some end → Outside behind_root ts
ordered_body ts e = keeps_all ts [] begin end (done, tt, refl) e

-- pieces that leave the reader before the root and its DOCTYPE are comments, instructions and white space
pub ordered_misc : (ts : List Token) → all_in_order ts begin ≡ Some begin → Before before_doctype ts
ordered_misc ts e = keeps_all ts [] begin begin (done, tt, refl) e

-- ---- where the reader is

some_is : (s m : Shape) → Some s ≡ Some m → s ≡ m
some_is s m e = cc

at_same : (s m : Shape) → Some s ≡ Some m → where_at s.mode ≡ where_at m.mode
at_same s m e = ap (λ (x : Shape). where_at x.mode) (some_is s m e)

-- behind a piece in order the next one is read where the control is
place_of_mode : (mode : Mode) (opened : List (List ℕ)) (stage : Stage) (t : Token) (m : Shape) → in_order_at mode opened stage t ≡ Some m → next (where_at mode) t ≡ where_at m.mode
place_of_mode in_content [] stage (part_token (run bytes)) m e = at_same _ m (chosen (list_all is_space bytes) (shape [] stage in_content) m e).1
place_of_mode in_content (n ∷ up) stage (part_token p) m e = at_same _ m (sym (part_inside p n up stage) ∙ e)
place_of_mode in_content (n ∷ up) stage (cdata_token bytes) m e = at_same _ m e
place_of_mode in_content opened stage (comm_token bytes) m e = at_same _ m e
place_of_mode in_content opened stage (pi_token target gap bytes) m e = at_same _ m e
place_of_mode in_content [] before_doctype (doctype_token bytes) m e = at_same _ m e
place_of_mode in_content opened stage (open_token name) m e = at_same _ m (chosen (may_open opened stage) _ m e).1
place_of_mode in_content (n ∷ up) stage (close_token name last) m e = at_same _ m (chosen (bytes_eq n name) _ m e).1
place_of_mode (in_tag name names) opened stage (attr_token gap key bef beh d) m e = at_same _ m (chosen_not (is_in key names) _ m e).1
place_of_mode (in_tag name names) opened stage (go_token gap) m e = at_same _ m e
place_of_mode (in_tag name names) opened stage (shut_token gap) m e = at_same _ m e
place_of_mode (in_quotes name names d) opened stage (part_token p) m e = at_same _ m e
place_of_mode (in_quotes name names d) opened stage (quote_token other) m e = at_same _ m (chosen (eqb d other) _ m e).1
place_of_mode mode opened stage t m e = absurd cc

pub place_next : (s : Shape) (t : Token) (m : Shape) → in_order s t ≡ Some m → next (where_at s.mode) t ≡ where_at m.mode
unfolding in_order
place_next s t m e = place_of_mode s.mode s.opened s.stage t m e

-- and behind several
pub place_behind : (ts : List Token) (s m : Shape) → all_in_order ts s ≡ Some m → behind (where_at s.mode) ts ≡ where_at m.mode
place_behind [] s m e = at_same s m e
place_behind (t ∷ ts) s m e = by (λ n f. place_behind ts n m f) (in_order s t) refl e
  where
    by : ((n : Shape) → all_in_order ts n ≡ Some m → behind (where_at n.mode) ts ≡ where_at m.mode) → (r : Option Shape) → in_order s t ≡ r → option_and_then (all_in_order ts) r ≡ Some m → behind (next (where_at s.mode) t) ts ≡ where_at m.mode
    by on None f e = absurd cc
    by on (Some n) f e = ap (λ p. behind p ts) (place_next s t n f) ∙ on n e
