-- A good document is cut into its pieces, and pieces in order come from a good document.
use Rattle.std.proofs.Common.{◌≡◌, ℕ, Bool, true, false, not, ◌||◌, eqb, List, [], ◌∷◌, ◌++◌, map, Option, Some, None, refl, sym, ap, ◌∙◌, subst, append_assoc, append-nil}
use Rattle.std.specs.List.{flat_map}
use Rattle.std.proofs.lemmas.Bool.{false≢true}
use Rattle.tree_model.specs.XmlChars.{is_space, is_name_byte, first_is}
use Rattle.tree_model.specs.XmlSource.{Part, run, entity, decimal, hexadecimal, part_text, parts_text, Attr, attr_head, attr_source, Content, done, element, empty, part, cdata, comm, pi, cdata_source, comm_source, pi_source, start_source, close_source, content_text, Doctype, doctype_text, if_text}
use Rattle.tree_model.specs.XmlGood.{AreSpace, is_quote, in_value, in_data, EndsBefore, IsValue, IsAttr, EachIsAttr, IsTag, NoRunAfter, IsGood, IsMisc, IsRoot, IsDoctype, IfThere, IsBehind}
use Rattle.xml_pieces.specs.Tokens.{Token, part_token, cdata_token, comm_token, pi_token, doctype_token, open_token, quote_token, go_token, shut_token, close_token, token_text, head_token, attr_tokens, tokens}
use Rattle.xml_pieces.specs.Item as item
use Rattle.xml_pieces.specs.Item.{Where, content, a_tag, a_value, IsToken, Stops, next, Lexes}
use Rattle.xml_pieces.proofs.Readers.{same_read, same_byte}
use Rattle.xml_pieces.proofs.ByteClasses.{space_no_name, space_before}
use Rattle.xml_pieces.proofs.Lexing.{IsPlace, item_complete, item_sound, no_piece}
use Rattle.xml_order.specs.Body.{Body, IsBody, body_text, body_tokens, doctype_tokens}
use Rattle.xml_order.specs.Shape.{Stage, before_doctype, before_root, behind_root, all_in_order, begin, end}
use Rattle.xml_order.specs.Cuts.{LexesTo, behind, AreMisc}
use Rattle.xml_order.proofs.Ordered.{Differ, Before, Outside, ordered_body, ordered_misc, misc_ordered, misc_differ}

-- ---- classes of bytes

-- no name goes on behind white space
name_stops : (gap rest : List ℕ) → AreSpace gap → first_is is_name_byte rest ≡ false → first_is is_name_byte (gap ++ rest) ≡ false
name_stops gap rest are stop = space_before is_name_byte space_no_name gap rest are stop

first_more : (p : ℕ → Bool) (v rest : List ℕ) → first_is p v ≡ true → first_is p (v ++ rest) ≡ true
first_more p [] rest is = absurd (false≢true is)
first_more p (c ∷ v) rest is = is

delim_stops : (d : ℕ) → in_value d d ≡ false
delim_stops d = rw (same_byte d) (by (eqb d 60) (eqb d 38))
  where
    by : (a b : Bool) → not (a || b || true) ≡ false
    by true b = refl
    by false true = refl
    by false false = refl

-- ---- from the text to its pieces

module _ (tail : List ℕ) where
  piece : (p : Where) (t : Token) (ts : List Token) (after : List ℕ) → IsPlace p → IsToken p t → Stops p t after → LexesTo (next p t) ts after tail → LexesTo p (t ∷ ts) (token_text t ++ after) tail
  piece p t ts after place is stop l = (after, item_complete p t after place is stop, l)

  value_stops : (d : ℕ) (v : List ℕ) (parts : List Part) (rest : List ℕ) → EndsBefore (run v) parts → first_is (in_value d) rest ≡ false → first_is (in_value d) (parts_text parts ++ rest) ≡ false
  value_stops d v [] rest ends stop = stop
  value_stops d v (run w ∷ parts) rest ends stop = absurd ends
  value_stops d v (entity name ∷ parts) rest ends stop = refl
  value_stops d v (decimal digits ∷ parts) rest ends stop = refl
  value_stops d v (hexadecimal digits ∷ parts) rest ends stop = refl

  part_stops : (d : ℕ) (p : Part) (parts : List Part) (rest : List ℕ) → EndsBefore p parts → first_is (in_value d) rest ≡ false → Stops (a_value d) (part_token p) (parts_text parts ++ rest)
  part_stops d (run v) parts rest ends stop = value_stops d v parts rest ends stop
  part_stops d (entity name) parts rest ends stop = tt
  part_stops d (decimal digits) parts rest ends stop = tt
  part_stops d (hexadecimal digits) parts rest ends stop = tt

  value_lexed : (d : ℕ) (parts : List Part) (us : List Token) (rest : List ℕ) → is_quote d ≡ true → IsValue d parts → first_is (in_value d) rest ≡ false → LexesTo (a_value d) us rest tail
      → LexesTo (a_value d) (map part_token parts ++ us) (parts_text parts ++ rest) tail
  value_lexed d [] us rest quote is stop l = l
  value_lexed d (p ∷ parts) us rest quote is stop l =
      subst (λ x. LexesTo (a_value d) (part_token p ∷ (map part_token parts ++ us)) x tail) (sym (append_assoc (part_text p) (parts_text parts) rest))
      (piece (a_value d) (part_token p) (map part_token parts ++ us) (parts_text parts ++ rest) quote is.0 (part_stops d p parts rest is.1 stop) (value_lexed d parts us rest quote is.2 stop l))

  attrs_lexed : (attrs : List Attr) (us : List Token) (rest : List ℕ) → EachIsAttr attrs → LexesTo a_tag us rest tail → LexesTo a_tag (attr_tokens attrs ++ us) (flat_map attr_source attrs ++ rest) tail
  attrs_lexed [] us rest each l = l
  attrs_lexed (a ∷ attrs) us rest each l =
      let is : IsAttr a = each.0 in
      let d : ℕ = a.delim in
      let on : LexesTo a_tag (attr_tokens attrs ++ us) (flat_map attr_source attrs ++ rest) tail = attrs_lexed attrs us rest each.1 l in
      let quoted : LexesTo (a_value d) (quote_token d ∷ (attr_tokens attrs ++ us)) (d ∷ (flat_map attr_source attrs ++ rest)) tail = piece (a_value d) (quote_token d) _ _ is.delim refl tt on in
      let value = value_lexed d a.value (quote_token d ∷ (attr_tokens attrs ++ us)) (d ∷ (flat_map attr_source attrs ++ rest)) is.delim is.value (delim_stops d) quoted in
      let head = piece a_tag (head_token a) _ _ tt (is.gap, is.name, is.before, is.behind, is.delim) tt value in
      let bytes_are : attr_head a ++ (parts_text a.value ++ d ∷ (flat_map attr_source attrs ++ rest)) ≡ (attr_source a ++ flat_map attr_source attrs) ++ rest = regroup (attr_head a) (parts_text a.value) d (flat_map attr_source attrs) rest in
      let tokens_are : head_token a ∷ (map part_token a.value ++ quote_token d ∷ (attr_tokens attrs ++ us)) ≡ attr_tokens (a ∷ attrs) ++ us = ap (λ l. head_token a ∷ l) (sym (append_assoc (map part_token a.value) (quote_token d ∷ attr_tokens attrs) us)) in
      subst (λ x. LexesTo a_tag x ((attr_source a ++ flat_map attr_source attrs) ++ rest) tail) tokens_are
      (subst (λ x. LexesTo a_tag (head_token a ∷ (map part_token a.value ++ quote_token d ∷ (attr_tokens attrs ++ us))) x tail) bytes_are head)
    where
      regroup : (h v : List ℕ) (d : ℕ) (f r : List ℕ) → h ++ (v ++ d ∷ (f ++ r)) ≡ ((h ++ (v ++ d ∷ [])) ++ f) ++ r
      regroup h v d f r = sym (simp append_assoc)

  -- a name ends before attributes and white space
  name_ends : (attrs : List Attr) (gap rest : List ℕ) → EachIsAttr attrs → AreSpace gap → first_is is_name_byte rest ≡ false → first_is is_name_byte (flat_map attr_source attrs ++ (gap ++ rest)) ≡ false
  name_ends [] gap rest each are stop = name_stops gap rest are stop
  name_ends (a ∷ attrs) gap rest each are stop = by a.gap (a.name ++ (a.before ++ 61 ∷ (a.behind ++ a.delim ∷ []))) (parts_text a.value ++ a.delim ∷ []) (flat_map attr_source attrs) (gap ++ rest) each.0.gap
    where
      by : (g t u v w : List ℕ) → (first_is is_space g ≡ true) × AreSpace g → first_is is_name_byte ((((g ++ t) ++ u) ++ v) ++ w) ≡ false
      by [] t u v w is = absurd (false≢true is.0)
      by (c ∷ g) t u v w is = space_no_name c is.0

  -- a tag up to its last characters
  tag_lexed : (name : List ℕ) (attrs : List Attr) (gap : List ℕ) (ts : List Token) (end : List ℕ) → IsTag name attrs gap → first_is is_name_byte end ≡ false → LexesTo a_tag ts (gap ++ end) tail
      → LexesTo content (open_token name ∷ (attr_tokens attrs ++ ts)) (start_source name attrs ++ (gap ++ end)) tail
  tag_lexed name attrs gap ts end is stop l =
      subst (λ x. LexesTo content (open_token name ∷ (attr_tokens attrs ++ ts)) (60 ∷ x) tail) (sym (append_assoc name (flat_map attr_source attrs) (gap ++ end)))
      (piece content (open_token name) _ _ tt is.named (name_ends attrs gap end is.each is.blank stop) (attrs_lexed attrs ts (gap ++ end) is.each l))

  data_stops : (v : List ℕ) (more : Content) (rest : List ℕ) → NoRunAfter (run v) more → first_is in_data rest ≡ false → first_is in_data (content_text more ++ rest) ≡ false
  data_stops v done rest ends stop = stop
  data_stops v (part (run w) more) rest ends stop = absurd ends
  data_stops v (part (entity name) more) rest ends stop = refl
  data_stops v (part (decimal digits) more) rest ends stop = refl
  data_stops v (part (hexadecimal digits) more) rest ends stop = refl
  data_stops v (element name attrs gap inside last more) rest ends stop = refl
  data_stops v (empty name attrs gap more) rest ends stop = refl
  data_stops v (cdata bytes more) rest ends stop = refl
  data_stops v (comm bytes more) rest ends stop = refl
  data_stops v (pi target gap bytes more) rest ends stop = refl

  data_part_stops : (p : Part) (more : Content) (rest : List ℕ) → NoRunAfter p more → first_is in_data rest ≡ false → Stops content (part_token p) (content_text more ++ rest)
  data_part_stops (run v) more rest ends stop = data_stops v more rest ends stop
  data_part_stops (entity name) more rest ends stop = tt
  data_part_stops (decimal digits) more rest ends stop = tt
  data_part_stops (hexadecimal digits) more rest ends stop = tt

  -- what stands in an element, before pieces that go on behind it
  abbrev LexedIn : Content → Type 0
  LexedIn g = (us : List Token) (rest : List ℕ) → IsGood g → first_is in_data rest ≡ false → LexesTo content us rest tail → LexesTo content (tokens g ++ us) (content_text g ++ rest) tail

  element_lexed : (name : List ℕ) (attrs : List Attr) (gap : List ℕ) (inside : Content) (last : List ℕ) (us : List Token) (rest : List ℕ) → LexedIn inside → IsTag name attrs gap → IsGood inside → AreSpace last
      → LexesTo content us rest tail
      → LexesTo content (open_token name ∷ (attr_tokens attrs ++ go_token gap ∷ (tokens inside ++ close_token name last ∷ us))) (start_source name attrs ++ ((gap ++ 62 ∷ []) ++ (content_text inside ++ (close_source name last ++ rest)))) tail
  element_lexed name attrs gap inside last us rest lexed is_tag within are l =
      let closed : LexesTo content (close_token name last ∷ us) (close_source name last ++ rest) tail = piece content (close_token name last) _ _ tt (is_tag.named, are) tt l in
      let text : List ℕ = content_text inside ++ (close_source name last ++ rest) in
      let goes : LexesTo a_tag (go_token gap ∷ (tokens inside ++ close_token name last ∷ us)) ((gap ++ 62 ∷ []) ++ text) tail =
      piece a_tag (go_token gap) _ _ tt is_tag.blank tt (lexed (close_token name last ∷ us) (close_source name last ++ rest) within refl closed) in
      subst (λ x. LexesTo content (open_token name ∷ (attr_tokens attrs ++ go_token gap ∷ (tokens inside ++ close_token name last ∷ us))) (start_source name attrs ++ x) tail) (sym (append_assoc gap (62 ∷ []) text))
      (tag_lexed name attrs gap _ (62 ∷ text) is_tag refl
      (subst (λ x. LexesTo a_tag (go_token gap ∷ (tokens inside ++ close_token name last ∷ us)) x tail) (append_assoc gap (62 ∷ []) text) goes))

  empty_lexed : (name : List ℕ) (attrs : List Attr) (gap : List ℕ) (us : List Token) (rest : List ℕ) → IsTag name attrs gap → LexesTo content us rest tail
      → LexesTo content (open_token name ∷ (attr_tokens attrs ++ shut_token gap ∷ us)) (start_source name attrs ++ ((gap ++ 47 ∷ 62 ∷ []) ++ rest)) tail
  empty_lexed name attrs gap us rest is_tag l =
      let shut : LexesTo a_tag (shut_token gap ∷ us) ((gap ++ 47 ∷ 62 ∷ []) ++ rest) tail = piece a_tag (shut_token gap) _ _ tt is_tag.blank tt l in
      subst (λ x. LexesTo content (open_token name ∷ (attr_tokens attrs ++ shut_token gap ∷ us)) (start_source name attrs ++ x) tail) (sym (append_assoc gap (47 ∷ 62 ∷ []) rest))
      (tag_lexed name attrs gap _ (47 ∷ 62 ∷ rest) is_tag refl (subst (λ x. LexesTo a_tag (shut_token gap ∷ us) x tail) (append_assoc gap (47 ∷ 62 ∷ []) rest) shut))

  content_lexed : (g : Content) → LexedIn g
  content_lexed done us rest good stop l = l
  content_lexed (part p more) us rest good stop l =
      subst (λ x. LexesTo content (part_token p ∷ (tokens more ++ us)) x tail) (sym (append_assoc (part_text p) (content_text more) rest))
      (piece content (part_token p) _ _ tt good.0 (data_part_stops p more rest good.1 stop) (content_lexed more us rest good.2 stop l))
  content_lexed (cdata bytes more) us rest good stop l =
      subst (λ x. LexesTo content (cdata_token bytes ∷ (tokens more ++ us)) x tail) (sym (append_assoc (cdata_source bytes) (content_text more) rest))
      (piece content (cdata_token bytes) _ _ tt good.0 tt (content_lexed more us rest good.1 stop l))
  content_lexed (comm bytes more) us rest good stop l =
      subst (λ x. LexesTo content (comm_token bytes ∷ (tokens more ++ us)) x tail) (sym (append_assoc (comm_source bytes) (content_text more) rest))
      (piece content (comm_token bytes) _ _ tt good.0 tt (content_lexed more us rest good.1 stop l))
  content_lexed (pi target gap bytes more) us rest good stop l =
      subst (λ x. LexesTo content (pi_token target gap bytes ∷ (tokens more ++ us)) x tail) (sym (append_assoc (pi_source target gap bytes) (content_text more) rest))
      (piece content (pi_token target gap bytes) _ _ tt good.0 tt (content_lexed more us rest good.1 stop l))
  content_lexed (element name attrs gap inside last more) us rest (is_tag, within, are, on) stop l =
      let whole = element_lexed name attrs gap inside last (tokens more ++ us) (content_text more ++ rest) (content_lexed inside) is_tag within are (content_lexed more us rest on stop l) in
      let tokens_are : open_token name ∷ (attr_tokens attrs ++ go_token gap ∷ (tokens inside ++ close_token name last ∷ (tokens more ++ us))) ≡ tokens (element name attrs gap inside last more) ++ us = sym (simp append_assoc) in
      subst (λ x. LexesTo content x (content_text (element name attrs gap inside last more) ++ rest) tail) tokens_are
      (subst (λ x. LexesTo content (open_token name ∷ (attr_tokens attrs ++ go_token gap ∷ (tokens inside ++ close_token name last ∷ (tokens more ++ us)))) x tail)
      (regroup (start_source name attrs) (gap ++ 62 ∷ []) (content_text inside) (close_source name last) (content_text more) rest) whole)
    where
      regroup : (s g c e m r : List ℕ) → s ++ (g ++ (c ++ (e ++ (m ++ r)))) ≡ (s ++ (g ++ (c ++ (e ++ m)))) ++ r
      regroup s g c e m r = sym (simp append_assoc)
  content_lexed (empty name attrs gap more) us rest (is_tag, on) stop l =
      let whole = empty_lexed name attrs gap (tokens more ++ us) (content_text more ++ rest) is_tag (content_lexed more us rest on stop l) in
      let tokens_are : open_token name ∷ (attr_tokens attrs ++ shut_token gap ∷ (tokens more ++ us)) ≡ tokens (empty name attrs gap more) ++ us = sym (simp append_assoc) in
      subst (λ x. LexesTo content x (content_text (empty name attrs gap more) ++ rest) tail) tokens_are
      (subst (λ x. LexesTo content (open_token name ∷ (attr_tokens attrs ++ shut_token gap ∷ (tokens more ++ us))) x tail)
      (regroup (start_source name attrs) (gap ++ 47 ∷ 62 ∷ []) (content_text more) rest) whole)
    where
      regroup : (s g m r : List ℕ) → s ++ (g ++ (m ++ r)) ≡ (s ++ (g ++ m)) ++ r
      regroup s g m r = sym (simp append_assoc)

  root_lexed : (g : Content) (us : List Token) (rest : List ℕ) → IsGood g → IsRoot g → LexesTo content us rest tail → LexesTo content (tokens g ++ us) (content_text g ++ rest) tail
  root_lexed (element name attrs gap inside last done) us rest (is_tag, within, are, on) root l =
      let whole = element_lexed name attrs gap inside last us rest (content_lexed inside) is_tag within are l in
      let tokens_are : open_token name ∷ (attr_tokens attrs ++ go_token gap ∷ (tokens inside ++ close_token name last ∷ us)) ≡ tokens (element name attrs gap inside last done) ++ us = sym (simp append_assoc) in
      subst (λ x. LexesTo content x (content_text (element name attrs gap inside last done) ++ rest) tail) tokens_are
      (subst (λ x. LexesTo content (open_token name ∷ (attr_tokens attrs ++ go_token gap ∷ (tokens inside ++ close_token name last ∷ us))) x tail)
      (regroup (start_source name attrs) (gap ++ 62 ∷ []) (content_text inside) (close_source name last) rest) whole)
    where
      regroup : (s g c e r : List ℕ) → s ++ (g ++ (c ++ (e ++ r))) ≡ (s ++ (g ++ (c ++ (e ++ [])))) ++ r
      regroup s g c e r = sym (ap (λ x. (s ++ (g ++ (c ++ x))) ++ r) (append-nil e) ∙ simp append_assoc)
  root_lexed (empty name attrs gap done) us rest (is_tag, on) root l =
      let whole = empty_lexed name attrs gap us rest is_tag l in
      let tokens_are : open_token name ∷ (attr_tokens attrs ++ shut_token gap ∷ us) ≡ tokens (empty name attrs gap done) ++ us = sym (simp append_assoc) in
      subst (λ x. LexesTo content x (content_text (empty name attrs gap done) ++ rest) tail) tokens_are
      (subst (λ x. LexesTo content (open_token name ∷ (attr_tokens attrs ++ shut_token gap ∷ us)) x tail) (regroup (start_source name attrs) (gap ++ 47 ∷ 62 ∷ []) rest) whole)
    where
      regroup : (s g r : List ℕ) → s ++ (g ++ r) ≡ (s ++ (g ++ [])) ++ r
      regroup s g r = sym (ap (λ x. (s ++ x) ++ r) (append-nil g) ∙ append_assoc s g r)
  root_lexed other us rest good root l = absurd root

  doctype_lexed : (d : Option Doctype) (us : List Token) (rest : List ℕ) → IfThere IsDoctype d → LexesTo content us rest tail → LexesTo content (doctype_tokens d ++ us) (if_text doctype_text d ++ rest) tail
  doctype_lexed None us rest is l = l
  doctype_lexed (Some d) us rest is l = piece content (doctype_token (doctype_text d)) us rest tt (d, is, refl) tt l

  -- ---- from the pieces to the text

  ends_before : (d : ℕ) (p : Part) (parts : List Part) (us : List Token) (after : List ℕ) → Stops (a_value d) (part_token p) after → LexesTo (a_value d) (map part_token parts ++ us) after tail → EndsBefore p parts
  ends_before d (entity name) parts us after stop l = tt
  ends_before d (decimal digits) parts us after stop l = tt
  ends_before d (hexadecimal digits) parts us after stop l = tt
  ends_before d (run v) [] us after stop l = tt
  ends_before d (run v) (entity name ∷ parts) us after stop l = tt
  ends_before d (run v) (decimal digits ∷ parts) us after stop l = tt
  ends_before d (run v) (hexadecimal digits ∷ parts) us after stop l = tt
  ends_before d (run v) (run w ∷ parts) us after stop l =
      let found = item_sound (a_value d) after (part_token (run w)) l.0 l.1 in
      absurd (false≢true (sym stop ∙ ap (first_is (in_value d)) found.0 ∙ first_more (in_value d) w l.0 found.1.0))

  value_found : (d : ℕ) (parts : List Part) (us : List Token) (bytes : List ℕ) → LexesTo (a_value d) (map part_token parts ++ us) bytes tail
      → (rest : List ℕ) × (bytes ≡ parts_text parts ++ rest) × IsValue d parts × LexesTo (a_value d) us rest tail
  value_found d [] us bytes l = (bytes, refl, tt, l)
  value_found d (p ∷ parts) us bytes l =
      let found = item_sound (a_value d) bytes (part_token p) l.0 l.1 in
      let on = value_found d parts us l.0 l.2 in
      (on.0, found.0 ∙ ap (λ x. part_text p ++ x) on.1 ∙ sym (append_assoc (part_text p) (parts_text parts) on.0), (found.1, ends_before d p parts us l.0 found.2 l.2, on.2), on.3)

  attrs_found : (attrs : List Attr) (us : List Token) (bytes : List ℕ) → LexesTo a_tag (attr_tokens attrs ++ us) bytes tail
      → (rest : List ℕ) × (bytes ≡ flat_map attr_source attrs ++ rest) × EachIsAttr attrs × LexesTo a_tag us rest tail
  attrs_found [] us bytes l = (bytes, refl, tt, l)
  attrs_found (a ∷ attrs) us bytes l =
      let d : ℕ = a.delim in
      let head = item_sound a_tag bytes (head_token a) l.0 l.1 in
      let l1 : LexesTo (a_value d) (map part_token a.value ++ quote_token d ∷ (attr_tokens attrs ++ us)) l.0 tail = subst (λ x. LexesTo (a_value d) x l.0 tail) (append_assoc (map part_token a.value) (quote_token d ∷ attr_tokens attrs) us) l.2 in
      let value = value_found d a.value (quote_token d ∷ (attr_tokens attrs ++ us)) l.0 l1 in
      let l2 : LexesTo (a_value d) (quote_token d ∷ (attr_tokens attrs ++ us)) value.0 tail = value.3 in
      let quote = item_sound (a_value d) value.0 (quote_token d) l2.0 l2.1 in
      let on = attrs_found attrs us l2.0 l2.2 in
      let bytes_are : bytes ≡ (attr_source a ++ flat_map attr_source attrs) ++ on.0 =
      head.0 ∙ ap (λ x. attr_head a ++ x) (value.1 ∙ ap (λ x. parts_text a.value ++ x) (quote.0 ∙ ap (λ x. d ∷ x) on.1)) ∙ regroup (attr_head a) (parts_text a.value) d (flat_map attr_source attrs) on.0 in
      (on.0, bytes_are, (record { gap = head.1.0; name = head.1.1; before = head.1.2; behind = head.1.3; delim = head.1.4; value = value.2 }, on.2), on.3)
    where
      regroup : (h v : List ℕ) (d : ℕ) (f r : List ℕ) → h ++ (v ++ d ∷ (f ++ r)) ≡ ((h ++ (v ++ d ∷ [])) ++ f) ++ r
      regroup h v d f r = sym (simp append_assoc)

  no_run_after : (p : Part) (more : Content) (us : List Token) (after : List ℕ) → Stops content (part_token p) after → LexesTo content (tokens more ++ us) after tail → NoRunAfter p more
  no_run_after (entity name) more us after stop l = tt
  no_run_after (decimal digits) more us after stop l = tt
  no_run_after (hexadecimal digits) more us after stop l = tt
  no_run_after (run v) done us after stop l = tt
  no_run_after (run v) (element name attrs gap inside last more) us after stop l = tt
  no_run_after (run v) (empty name attrs gap more) us after stop l = tt
  no_run_after (run v) (cdata bytes more) us after stop l = tt
  no_run_after (run v) (comm bytes more) us after stop l = tt
  no_run_after (run v) (pi target gap bytes more) us after stop l = tt
  no_run_after (run v) (part (entity name) more) us after stop l = tt
  no_run_after (run v) (part (decimal digits) more) us after stop l = tt
  no_run_after (run v) (part (hexadecimal digits) more) us after stop l = tt
  no_run_after (run v) (part (run w) more) us after stop l =
      let found = item_sound content after (part_token (run w)) l.0 l.1 in
      absurd (false≢true (sym stop ∙ ap (first_is in_data) found.0 ∙ first_more in_data w l.0 found.1.0.0))

  content_found : (g : Content) (us : List Token) (bytes : List ℕ) → Differ g → LexesTo content (tokens g ++ us) bytes tail
      → (rest : List ℕ) × (bytes ≡ content_text g ++ rest) × IsGood g × LexesTo content us rest tail
  content_found done us bytes differ l = (bytes, refl, tt, l)
  content_found (part p more) us bytes differ l =
      let found = item_sound content bytes (part_token p) l.0 l.1 in
      let on = content_found more us l.0 differ l.2 in
      (on.0, found.0 ∙ ap (λ x. part_text p ++ x) on.1 ∙ sym (append_assoc (part_text p) (content_text more) on.0), (found.1, no_run_after p more us l.0 found.2 l.2, on.2), on.3)
  content_found (cdata value more) us bytes differ l =
      let found = item_sound content bytes (cdata_token value) l.0 l.1 in
      let on = content_found more us l.0 differ l.2 in
      (on.0, found.0 ∙ ap (λ x. cdata_source value ++ x) on.1 ∙ sym (append_assoc (cdata_source value) (content_text more) on.0), (found.1, on.2), on.3)
  content_found (comm value more) us bytes differ l =
      let found = item_sound content bytes (comm_token value) l.0 l.1 in
      let on = content_found more us l.0 differ l.2 in
      (on.0, found.0 ∙ ap (λ x. comm_source value ++ x) on.1 ∙ sym (append_assoc (comm_source value) (content_text more) on.0), (found.1, on.2), on.3)
  content_found (pi target gap value more) us bytes differ l =
      let found = item_sound content bytes (pi_token target gap value) l.0 l.1 in
      let on = content_found more us l.0 differ l.2 in
      (on.0, found.0 ∙ ap (λ x. pi_source target gap value ++ x) on.1 ∙ sym (append_assoc (pi_source target gap value) (content_text more) on.0), (found.1, on.2), on.3)
  content_found (element name attrs gap inside last more) us bytes (new, differ, differ') l =
      let opens = item_sound content bytes (open_token name) l.0 l.1 in
      let l1 : LexesTo a_tag (attr_tokens attrs ++ go_token gap ∷ (tokens inside ++ close_token name last ∷ (tokens more ++ us))) l.0 tail = subst (λ x. LexesTo a_tag x l.0 tail) (simp append_assoc) l.2 in
      let attributes = attrs_found attrs _ l.0 l1 in
      let l2 : LexesTo a_tag (go_token gap ∷ (tokens inside ++ close_token name last ∷ (tokens more ++ us))) attributes.0 tail = attributes.3 in
      let goes = item_sound a_tag attributes.0 (go_token gap) l2.0 l2.1 in
      let within = content_found inside (close_token name last ∷ (tokens more ++ us)) l2.0 differ l2.2 in
      let l3 : LexesTo content (close_token name last ∷ (tokens more ++ us)) within.0 tail = within.3 in
      let closes = item_sound content within.0 (close_token name last) l3.0 l3.1 in
      let on = content_found more us l3.0 differ' l3.2 in
      let bytes_are : bytes ≡ content_text (element name attrs gap inside last more) ++ on.0 =
      opens.0 ∙ ap (λ x. 60 ∷ (name ++ x)) (attributes.1 ∙ ap (λ x. flat_map attr_source attrs ++ x) (goes.0 ∙ ap (λ x. (gap ++ 62 ∷ []) ++ x) (within.1 ∙ ap (λ x. content_text inside ++ x) (closes.0 ∙ ap (λ x. close_source name last ++ x) on.1))))
      ∙ ap (λ x. 60 ∷ x) (regroup name (flat_map attr_source attrs) (gap ++ 62 ∷ []) (content_text inside) (close_source name last) (content_text more) on.0) in
      (on.0, bytes_are, (record { named = opens.1; each = attributes.2; differ = new; blank = goes.1 }, within.2, closes.1.1, on.2), on.3)
    where
      regroup : (n a g c e m r : List ℕ) → n ++ (a ++ (g ++ (c ++ (e ++ (m ++ r))))) ≡ ((n ++ a) ++ (g ++ (c ++ (e ++ m)))) ++ r
      regroup n a g c e m r = sym (simp append_assoc)
  content_found (empty name attrs gap more) us bytes (new, differ) l =
      let opens = item_sound content bytes (open_token name) l.0 l.1 in
      let l1 : LexesTo a_tag (attr_tokens attrs ++ shut_token gap ∷ (tokens more ++ us)) l.0 tail = subst (λ x. LexesTo a_tag x l.0 tail) (simp append_assoc) l.2 in
      let attributes = attrs_found attrs _ l.0 l1 in
      let l2 : LexesTo a_tag (shut_token gap ∷ (tokens more ++ us)) attributes.0 tail = attributes.3 in
      let shuts = item_sound a_tag attributes.0 (shut_token gap) l2.0 l2.1 in
      let on = content_found more us l2.0 differ l2.2 in
      let bytes_are : bytes ≡ content_text (empty name attrs gap more) ++ on.0 =
      opens.0 ∙ ap (λ x. 60 ∷ (name ++ x)) (attributes.1 ∙ ap (λ x. flat_map attr_source attrs ++ x) (shuts.0 ∙ ap (λ x. (gap ++ 47 ∷ 62 ∷ []) ++ x) on.1))
      ∙ ap (λ x. 60 ∷ x) (regroup name (flat_map attr_source attrs) (gap ++ 47 ∷ 62 ∷ []) (content_text more) on.0) in
      (on.0, bytes_are, (record { named = opens.1; each = attributes.2; differ = new; blank = shuts.1 }, on.2), on.3)
    where
      regroup : (n a g m r : List ℕ) → n ++ (a ++ (g ++ (m ++ r))) ≡ ((n ++ a) ++ (g ++ m)) ++ r
      regroup n a g m r = sym (simp append_assoc)

-- ---- comments, instructions and white space before something else

-- a good front of them is cut into its pieces, and the reader stays where it was
pub misc_lexed : (c : Content) (rest : List ℕ) → IsMisc c → IsGood c → first_is in_data rest ≡ false → LexesTo content (tokens c) (content_text c ++ rest) rest × (all_in_order (tokens c) begin ≡ Some begin)
misc_lexed c rest misc good stop =
    (subst (λ x. LexesTo content x (content_text c ++ rest) rest) (append-nil (tokens c)) (content_lexed rest c [] rest good stop refl), misc_ordered c before_doctype misc)

-- pieces that leave the reader there are those of such a front
pub misc_found : (ts : List Token) (bytes rest : List ℕ) → LexesTo content ts bytes rest → all_in_order ts begin ≡ Some begin → (c : Content) × IsMisc c × IsGood c × (ts ≡ tokens c) × (bytes ≡ content_text c ++ rest)
misc_found ts bytes rest l e =
    let cut = ordered_misc ts e in
    let found = content_found rest cut.0 [] bytes (misc_differ cut.0 cut.1) (subst (λ x. LexesTo content x bytes rest) (cut.2 ∙ sym (append-nil (tokens cut.0))) l) in
    (cut.0, cut.1, found.2, cut.2, found.1 ∙ ap (λ x. content_text cut.0 ++ x) found.3)

-- comments, instructions and runs of white space alone leave it there
pub misc_stays : (ts : List Token) → AreMisc ts → all_in_order ts begin ≡ Some begin
misc_stays ts are = by (content_of ts are)
  where
    content_of : (ts : List Token) → AreMisc ts → (c : Content) × IsMisc c × (ts ≡ tokens c)
    content_of [] are = (done, tt, refl)
    content_of (part_token (run bytes) ∷ ts) are = let on = content_of ts are.1 in (part (run bytes) on.0, (are.0, on.1), ap (λ l. part_token (run bytes) ∷ l) on.2)
    content_of (comm_token bytes ∷ ts) are = let on = content_of ts are in (comm bytes on.0, on.1, ap (λ l. comm_token bytes ∷ l) on.2)
    content_of (pi_token target gap bytes ∷ ts) are = let on = content_of ts are in (pi target gap bytes on.0, on.1, ap (λ l. pi_token target gap bytes ∷ l) on.2)
    content_of other are = absurd are

    by : (c : Content) × IsMisc c × (ts ≡ tokens c) → all_in_order ts begin ≡ Some begin
    by (c, misc, is) = ap (λ l. all_in_order l begin) is ∙ misc_ordered c before_doctype misc

pub misc_are : (c : Content) → IsMisc c → AreMisc (tokens c)
misc_are done is = tt
misc_are (part (run bytes) more) is = (is.0, misc_are more is.1)
misc_are (comm bytes more) is = misc_are more is
misc_are (pi target gap bytes more) is = misc_are more is
misc_are other is = absurd is

-- ---- whole texts

whole_lexed : (p : Where) (ts : List Token) (bytes : List ℕ) → LexesTo p ts bytes [] → Lexes p ts bytes
whole_lexed p [] bytes l = l
whole_lexed p (t ∷ ts) bytes l = (l.0, l.1, whole_lexed (next p t) ts l.0 l.2)

lexed_whole : (p : Where) (ts : List Token) (bytes : List ℕ) → Lexes p ts bytes → LexesTo p ts bytes []
lexed_whole p [] bytes l = l
lexed_whole p (t ∷ ts) bytes l = (l.0, l.1, lexed_whole (next p t) ts l.0 l.2)

root_starts : (g : Content) (rest : List ℕ) → IsRoot g → first_is in_data (content_text g ++ rest) ≡ false
root_starts (element name attrs gap inside last done) rest root = refl
root_starts (empty name attrs gap done) rest root = refl
root_starts other rest root = absurd root

-- what stands behind the first comments, instructions and white space is no run
first_stops : (d : Option Doctype) (second root : Content) (rest : List ℕ) → IsBehind d second → IsRoot root → first_is in_data (if_text doctype_text d ++ (content_text second ++ (content_text root ++ rest))) ≡ false
first_stops (Some d) second root rest is one = refl
first_stops None done root rest is one = root_starts root rest one
first_stops None other root rest is one = absurd is

pub body_lexed : (b : Body) → IsBody b → Lexes content (body_tokens b) (body_text b)
body_lexed b is =
    let last : LexesTo content (tokens b.last) (content_text b.last) [] =
    subst (λ x. LexesTo content (tokens b.last) x []) (append-nil (content_text b.last))
    (subst (λ x. LexesTo content x (content_text b.last ++ []) []) (append-nil (tokens b.last)) (content_lexed [] b.last [] [] is.last_good refl refl)) in
    let root = root_lexed [] b.root (tokens b.last) (content_text b.last) is.root_good is.one_root last in
    let second = content_lexed [] b.second _ _ is.second_good (root_starts b.root (content_text b.last) is.one_root) root in
    let doctype = doctype_lexed [] b.doctype _ _ is.doctype second in
    whole_lexed content (body_tokens b) (body_text b) (content_lexed [] b.first _ _ is.first_good (first_stops b.doctype b.second b.root (content_text b.last) is.second_misc is.one_root) doctype)

-- the root and what stands behind it
record RootFound (root last : Content) (bytes : List ℕ) : Type 0 where
  root_good : IsGood root
  last_good : IsGood last
  spelled : bytes ≡ content_text root ++ content_text last

root_found : (root last : Content) (bytes : List ℕ) → Differ root → IsMisc last → LexesTo content (tokens root ++ tokens last) bytes [] → RootFound root last bytes
root_found root last bytes differ misc l =
    let one = content_found [] root (tokens last) bytes differ l in
    let l1 : LexesTo content (tokens last ++ []) one.0 [] = subst (λ x. LexesTo content x one.0 []) (sym (append-nil (tokens last))) one.3 in
    let two = content_found [] last [] one.0 (misc_differ last misc) l1 in
    record {
      root_good = one.2;
      last_good = two.2;
      spelled = one.1 ∙ ap (λ x. content_text root ++ x) (two.1 ∙ ap (λ x. content_text last ++ x) two.3 ∙ append-nil (content_text last));
    }

abbrev BodyFound : List Token → List ℕ → Type 0
BodyFound ts bytes = (b : Body) × IsBody b × (ts ≡ body_tokens b) × (bytes ≡ body_text b)

body_of_stage : (stage : Stage) (before ts : List Token) (root last : Content) (bytes : List ℕ) → Before stage before → IsRoot root → Differ root → IsMisc last → ts ≡ before ++ (tokens root ++ tokens last)
    → LexesTo content (before ++ (tokens root ++ tokens last)) bytes [] → BodyFound ts bytes
body_of_stage before_doctype before ts root last bytes (first, first_misc, is) one differ misc ts_are l =
    let l1 : LexesTo content (tokens first ++ (tokens root ++ tokens last)) bytes [] = subst (λ x. LexesTo content (x ++ (tokens root ++ tokens last)) bytes []) is l in
    let front = content_found [] first (tokens root ++ tokens last) bytes (misc_differ first first_misc) l1 in
    let found = root_found root last front.0 differ misc front.3 in
    let b : Body = record { first = first; doctype = None; second = done; root = root; last = last } in (
      b,
      record { first_misc = first_misc; first_good = front.2; doctype = tt; second_misc = tt; second_good = tt; one_root = one; root_good = found.root_good; last_misc = misc; last_good = found.last_good },
      ts_are ∙ ap (λ x. x ++ (tokens root ++ tokens last)) is,
      front.1 ∙ ap (λ x. content_text first ++ x) found.spelled,
    )
body_of_stage before_root before ts root last bytes (first, text, second, first_misc, second_misc, is) one differ misc ts_are l =
    let tokens_are : before ++ (tokens root ++ tokens last) ≡ tokens first ++ doctype_token text ∷ (tokens second ++ (tokens root ++ tokens last)) =
    ap (λ x. x ++ (tokens root ++ tokens last)) is ∙ append_assoc (tokens first) (doctype_token text ∷ tokens second) (tokens root ++ tokens last) in
    let front = content_found [] first _ bytes (misc_differ first first_misc) (subst (λ x. LexesTo content x bytes []) tokens_are l) in
    let l1 : LexesTo content (doctype_token text ∷ (tokens second ++ (tokens root ++ tokens last))) front.0 [] = front.3 in
    let doctype = item_sound content front.0 (doctype_token text) l1.0 l1.1 in
    let d : Doctype = doctype.1.0 in
    let then = content_found [] second _ l1.0 (misc_differ second second_misc) l1.2 in
    let found = root_found root last then.0 differ misc then.3 in
    let b : Body = record { first = first; doctype = Some d; second = second; root = root; last = last } in (
      b,
      record { first_misc = first_misc; first_good = front.2; doctype = doctype.1.1; second_misc = second_misc; second_good = then.2; one_root = one; root_good = found.root_good; last_misc = misc; last_good = found.last_good },
      ts_are ∙ tokens_are ∙ ap (λ x. tokens first ++ doctype_token x ∷ (tokens second ++ (tokens root ++ tokens last))) doctype.1.2,
      front.1 ∙ ap (λ x. content_text first ++ x) (doctype.0 ∙ ap (λ x. text ++ x) (then.1 ∙ ap (λ x. content_text second ++ x) found.spelled) ∙ ap (λ x. x ++ (content_text second ++ (content_text root ++ content_text last))) doctype.1.2),
    )
body_of_stage behind_root before ts root last bytes is one differ misc ts_are l = absurd is

pub body_found : (ts : List Token) (bytes : List ℕ) → Lexes content ts bytes → all_in_order ts begin ≡ Some end → (b : Body) × IsBody b × (ts ≡ body_tokens b) × (bytes ≡ body_text b)
body_found ts bytes l e = by (ordered_body ts e)
  where
    by : Outside behind_root ts → BodyFound ts bytes
    by (before, stage, root, last, is_before, one, differ, misc, is) = body_of_stage stage before ts root last bytes is_before one differ misc is (subst (λ x. LexesTo content x bytes []) is (lexed_whole content ts bytes l))

-- ---- one way to cut

none_read : (t : Token) (after : List ℕ) → ◌≡◌ {A = Option (Token × List ℕ)} None (Some (t, after)) → ⊥
none_read t after e = cc

-- two cuts of the same bytes that both end where no piece can be read are one
pub one_cut_to : (p : Where) (ts us : List Token) (bytes a b : List ℕ) → LexesTo p ts bytes a → LexesTo p us bytes b → item.item (behind p ts) a ≡ None → item.item (behind p us) b ≡ None → (ts ≡ us) × (a ≡ b)
one_cut_to p [] [] bytes a b l m no_more no_other = (refl, sym l ∙ m)
one_cut_to p [] (u ∷ us) bytes a b l m no_more no_other = absurd (none_read u m.0 (sym no_more ∙ ap (item.item p) (sym l) ∙ m.1))
one_cut_to p (t ∷ ts) [] bytes a b l m no_more no_other = absurd (none_read t l.0 (sym no_other ∙ ap (item.item p) (sym m) ∙ l.1))
one_cut_to p (t ∷ ts) (u ∷ us) bytes a b l m no_more no_other =
    let same = same_read t u l.0 m.0 (sym l.1 ∙ m.1) in
    let m1 : LexesTo (next p t) us m.0 b = subst (λ x. LexesTo (next p x) us m.0 b) (sym same.0) m.2 in
    let on = one_cut_to (next p t) ts us l.0 a b l.2 (subst (λ x. LexesTo (next p t) us x b) (sym same.1) m1) no_more (subst (λ x. item.item (behind (next p x) us) b ≡ None) (sym same.0) no_other) in
    (ap (λ x. x ∷ ts) same.0 ∙ ap (λ x. u ∷ x) on.0, on.1)

nothing_read : (p : Where) → item.item p [] ≡ None
nothing_read p = by (item.item p []) refl
  where
    by : (r : Option (Token × List ℕ)) → item.item p [] ≡ r → item.item p [] ≡ None
    by None e = e
    by (Some x) e = absurd (no_piece p x.0 x.1 e)

-- the pieces are a function of the bytes
pub one_cut : (p : Where) (ts us : List Token) (bytes : List ℕ) → Lexes p ts bytes → Lexes p us bytes → ts ≡ us
one_cut p ts us bytes a b = (one_cut_to p ts us bytes [] [] (lexed_whole p ts bytes a) (lexed_whole p us bytes b) (nothing_read (behind p ts)) (nothing_read (behind p us))).0
