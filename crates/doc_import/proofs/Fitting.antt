-- A piece of a text in UTF-8 fits the builder, and what is left is in UTF-8.
use Rattle.std.proofs.Common.{◌≡◌, ℕ, ◌<◌, Bool, true, false, not, ◌||◌, eqb, List, [], ◌∷◌, ◌++◌, Some, refl, sym, ap, ◌∙◌, subst, arith, append_assoc}
use Rattle.std.specs.Prelude.{codes, nat_le}
use Rattle.std.specs.Str.{IsUtf8}
use Rattle.std.specs.Char.{is_ascii}
use Rattle.std.proofs.lemmas.Bool.{false≢true, eqb-true, or_parts, leb-false, lt-ltb}
use Rattle.tree_model.specs.XmlChars.{first_is, is_name_byte}
use Rattle.tree_model.specs.XmlSource.{run, entity, decimal, hexadecimal, doctype_head}
use Rattle.tree_model.specs.XmlGood.{is_quote, in_data, in_value}
use Rattle.tree_model.proofs.XmlUtf8.{begins_ascii, utf8_cut, utf8_cut_behind}
use Rattle.xml_pieces.specs.Tokens.{Token, part_token, cdata_token, comm_token, pi_token, doctype_token, open_token, attr_token, quote_token, go_token, shut_token, close_token, token_text}
use Rattle.xml_pieces.specs.Item.{Where, content, a_tag, a_value, item, IsToken, Stops, next}
use Rattle.xml_pieces.proofs.ByteClasses.{quote_cases}
use Rattle.xml_pieces.proofs.Lexing.{IsPlace, item_sound}
use Rattle.xml_order.specs.Shape.{Shape, in_order, where_at}
use Rattle.xml_order.proofs.Ordered.{place_next}
use Rattle.xml_rows.specs.Fitting.{IsFit, IsTextRun}
use Rattle.xml_rows.proofs.Fits.{fit_token}

-- ---- where a value is read, its quote is one

next_place : (p : Where) (t : Token) → IsPlace p → IsToken p t → IsPlace (next p t)
next_place p (part_token q) place is = place
next_place p (cdata_token bytes) place is = tt
next_place p (comm_token bytes) place is = tt
next_place p (pi_token target gap bytes) place is = tt
next_place p (doctype_token bytes) place is = tt
next_place p (open_token name) place is = tt
next_place content (attr_token gap name before behind delim) place is = absurd is
next_place a_tag (attr_token gap name before behind delim) place is = is.4
next_place (a_value d) (attr_token gap name before behind delim) place is = absurd is
next_place p (quote_token delim) place is = tt
next_place p (go_token gap) place is = tt
next_place p (shut_token gap) place is = tt
next_place p (close_token name last) place is = tt

pub place_kept : (s m : Shape) (t : Token) → IsPlace (where_at s.mode) → IsToken (where_at s.mode) t → in_order s t ≡ Some m → IsPlace (where_at m.mode)
place_kept s m t place is e = subst IsPlace (place_next s t m e) (next_place (where_at s.mode) t place is)

-- ---- where a piece ends

-- it ends in an ASCII byte, or before one
abbrev EndsWell : Token → List ℕ → Type 0
EndsWell t rest = (IsUtf8 (token_text t ++ rest) → IsUtf8 (token_text t) × IsUtf8 rest)

behind_ascii : (t : Token) (rest x : List ℕ) (c : ℕ) → token_text t ≡ x ++ c ∷ [] → c < 128 → EndsWell t rest
behind_ascii t rest x c is low u =
    let cut = utf8_cut_behind x c rest low (subst (λ l. IsUtf8 (l ++ rest)) is u) in
    (subst IsUtf8 (sym is) cut.first, cut.second)

before_ascii : (t : Token) (rest : List ℕ) → begins_ascii rest ≡ true → EndsWell t rest
before_ascii t rest low u = let cut = utf8_cut (token_text t) rest low u in (cut.first, cut.second)

quote_ascii : (d : ℕ) → is_quote d ≡ true → d < 128
quote_ascii d is = quote_cases d is (λ c. c < 128) (omega arith) (omega arith)

-- a byte is one of those that stop a reader, all of them ASCII
ascii_of : (c d : ℕ) (b : Bool) → eqb c d ≡ b → not b ≡ false → is_ascii d ≡ true → is_ascii c ≡ true
ascii_of c d true e h low = ap is_ascii (eqb-true c d e) ∙ low
ascii_of c d false e h low = absurd (false≢true (sym h))

stop_ascii : (c : ℕ) (a b d : Bool) (q : ℕ) → eqb c 60 ≡ a → eqb c 38 ≡ b → eqb c q ≡ d → is_ascii q ≡ true → not (a || b || d) ≡ false → is_ascii c ≡ true
stop_ascii c true b d q e1 e2 e3 low h = ap is_ascii (eqb-true c 60 e1)
stop_ascii c false true d q e1 e2 e3 low h = ap is_ascii (eqb-true c 38 e2)
stop_ascii c false false true q e1 e2 e3 low h = ap is_ascii (eqb-true c q e3) ∙ low
stop_ascii c false false false q e1 e2 e3 low h = absurd (false≢true (sym h))

data_ascii : (c : ℕ) (a b : Bool) → eqb c 60 ≡ a → eqb c 38 ≡ b → not (a || b) ≡ false → is_ascii c ≡ true
data_ascii c true b e1 e2 h = ap is_ascii (eqb-true c 60 e1)
data_ascii c false true e1 e2 h = ap is_ascii (eqb-true c 38 e2)
data_ascii c false false e1 e2 h = absurd (false≢true (sym h))

before_data : (rest : List ℕ) → first_is in_data rest ≡ false → begins_ascii rest ≡ true
before_data [] stop = refl
before_data (c ∷ rest) stop = data_ascii c (eqb c 60) (eqb c 38) refl refl stop

before_value : (d : ℕ) (rest : List ℕ) → is_quote d ≡ true → first_is (in_value d) rest ≡ false → begins_ascii rest ≡ true
before_value d [] quote stop = refl
before_value d (c ∷ rest) quote stop = stop_ascii c (eqb c 60) (eqb c 38) (eqb c d) d refl refl refl (lt-ltb d 128 (quote_ascii d quote)) stop

before_name : (rest : List ℕ) → first_is is_name_byte rest ≡ false → begins_ascii rest ≡ true
before_name [] stop = refl
before_name (c ∷ rest) stop = lt-ltb c 128 (leb-false 128 c (or_parts _ (nat_le 128 c) stop).1)

ends_well : (p : Where) (t : Token) (rest : List ℕ) → IsPlace p → IsToken p t → Stops p t rest → EndsWell t rest
ends_well content (part_token (run bytes)) rest place is stop = before_ascii (part_token (run bytes)) rest (before_data rest stop)
ends_well (a_value d) (part_token (run bytes)) rest place is stop = before_ascii (part_token (run bytes)) rest (before_value d rest place stop)
ends_well a_tag (part_token (run bytes)) rest place is stop = absurd is
ends_well p (part_token (entity name)) rest place is stop = behind_ascii (part_token (entity name)) rest (38 ∷ name) 59 refl (omega arith)
ends_well p (part_token (decimal digits)) rest place is stop = behind_ascii (part_token (decimal digits)) rest (38 ∷ 35 ∷ digits) 59 refl (omega arith)
ends_well p (part_token (hexadecimal digits)) rest place is stop = behind_ascii (part_token (hexadecimal digits)) rest (38 ∷ 35 ∷ 120 ∷ digits) 59 refl (omega arith)
ends_well p (cdata_token bytes) rest place is stop =
    behind_ascii (cdata_token bytes) rest (codes "<![CDATA[" ++ (bytes ++ 93 ∷ 93 ∷ [])) 62 (ap (λ l. codes "<![CDATA[" ++ l) (sym (append_assoc bytes (93 ∷ 93 ∷ []) (62 ∷ [])))) (omega arith)
ends_well p (comm_token bytes) rest place is stop =
    behind_ascii (comm_token bytes) rest (codes "<!--" ++ (bytes ++ 45 ∷ 45 ∷ [])) 62 (ap (λ l. codes "<!--" ++ l) (sym (append_assoc bytes (45 ∷ 45 ∷ []) (62 ∷ [])))) (omega arith)
ends_well p (pi_token target gap bytes) rest place is stop =
    behind_ascii (pi_token target gap bytes) rest (codes "<?" ++ (target ++ (gap ++ (bytes ++ 63 ∷ [])))) 62 (simp append_assoc) (omega arith)
ends_well content (doctype_token bytes) rest place is stop = behind_ascii (doctype_token bytes) rest (doctype_head is.0) 62 is.2 (omega arith)
ends_well a_tag (doctype_token bytes) rest place is stop = absurd is
ends_well (a_value d) (doctype_token bytes) rest place is stop = absurd is
ends_well content (open_token name) rest place is stop = before_ascii (open_token name) rest (before_name rest stop)
ends_well a_tag (open_token name) rest place is stop = absurd is
ends_well (a_value d) (open_token name) rest place is stop = absurd is
ends_well a_tag (attr_token gap name before behind delim) rest place is stop =
    behind_ascii (attr_token gap name before behind delim) rest (gap ++ (name ++ (before ++ 61 ∷ behind))) delim (simp append_assoc) (quote_ascii delim is.4)
ends_well content (attr_token gap name before behind delim) rest place is stop = absurd is
ends_well (a_value d) (attr_token gap name before behind delim) rest place is stop = absurd is
ends_well (a_value d) (quote_token delim) rest place is stop = behind_ascii (quote_token delim) rest [] delim refl (subst (λ (q : ℕ). q < 128) is (quote_ascii d place))
ends_well content (quote_token delim) rest place is stop = absurd is
ends_well a_tag (quote_token delim) rest place is stop = absurd is
ends_well p (go_token gap) rest place is stop = behind_ascii (go_token gap) rest gap 62 refl (omega arith)
ends_well p (shut_token gap) rest place is stop = behind_ascii (shut_token gap) rest (gap ++ 47 ∷ []) 62 (sym (append_assoc gap (47 ∷ []) (62 ∷ []))) (omega arith)
ends_well p (close_token name last) rest place is stop = behind_ascii (close_token name last) rest (60 ∷ 47 ∷ (name ++ last)) 62 (ap (λ l. 60 ∷ 47 ∷ l) (sym (append_assoc name last (62 ∷ [])))) (omega arith)

-- ---- what the builder needs

text_run : (t : Token) → IsUtf8 (token_text t) → IsTextRun t
text_run (part_token (run bytes)) u = u
text_run (part_token (entity name)) u = tt
text_run (part_token (decimal digits)) u = tt
text_run (part_token (hexadecimal digits)) u = tt
text_run (cdata_token bytes) u = tt
text_run (comm_token bytes) u = tt
text_run (pi_token target gap bytes) u = tt
text_run (doctype_token bytes) u = tt
text_run (open_token name) u = tt
text_run (attr_token gap name before behind delim) u = tt
text_run (quote_token delim) u = tt
text_run (go_token gap) u = tt
text_run (shut_token gap) u = tt
text_run (close_token name last) u = tt

-- the next piece of a text
pub record IsNext (p : Where) (bytes : List ℕ) (t : Token) (rest : List ℕ) : Type 0 where
  pub fits : IsFit t
  pub text : IsUtf8 rest
  pub place : IsToken p t
  pub spelled : bytes ≡ token_text t ++ rest

pub next_fits : (p : Where) (bytes : List ℕ) (t : Token) (rest : List ℕ) → IsPlace p → IsUtf8 bytes → Some (t, rest) ≡ item p bytes → IsNext p bytes t rest
next_fits p bytes t rest place u e =
    let found = item_sound p bytes t rest (sym e) in
    let parts = ends_well p t rest place found.1 found.2 (subst IsUtf8 found.0 u) in
    record { fits = fit_token p t found.1 (text_run t parts.0); text = parts.1; place = found.1; spelled = found.0 }
