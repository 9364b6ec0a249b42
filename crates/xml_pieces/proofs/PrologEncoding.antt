-- The encoding that an XML declaration names.
use Rattle.std.proofs.Common.{◌≡◌, ◌↔◌, IsTrue, ℕ, ◌+◌, ◌≤◌, Bool, true, false, cond, List, [], ◌∷◌, ◌++◌, map, drop, length, length-append, ◌&&◌, ◌==◌, Option, Some, None, refl, sym, ap, ◌∙◌, subst, arith}
use Rattle.std.specs.Prelude.{codes}
use Rattle.std.specs.Option.{option_map, option_and_then}
use Rattle.std.specs.Char.{to_ascii_lowercase}
use Rattle.std.proofs.lemmas.Bool.{false≢true}
use Rattle.std.proofs.lemmas.Slice.Eq.{bytes_eq-Decides}
use Rattle.tree_model.specs.XmlChars.{begins_with, first_is}
use Rattle.tree_model.specs.XmlSource.{Setting, setting_text, Decl, decl_text, if_text, mark_text}
use Rattle.tree_model.specs.XmlReads.{before_encoding, HasOtherEncoding}
use Rattle.xml_pieces.specs.Prolog.{decl}
use Rattle.xml_pieces.specs.DeclarationView.{place_of, encoding_of, encoding_read, is_utf_8_name, behind_mark, other_at, other_encoding}
use Rattle.xml_pieces.proofs.Readers.{same_read, begins_split}
use Rattle.xml_pieces.proofs.PrologDecl.{decl_sound, decl_complete}

pub before_encoding_len : (d : Decl) (s : Setting)
    → length (before_encoding d s) ≡ (5 + (length d.version.gap + 7 + length d.version.before + length d.version.behind + 2) + length d.version.value + 1) + (length s.gap + 8 + length s.before + length s.behind + 2)
before_encoding_len d s = simp length-append (omega arith)

pub encoding_fits : (bytes rest : List ℕ) (d : Decl) (s : Setting) → Some (d, rest) ≡ decl bytes → d.encoding ≡ Some s → length (before_encoding d s) ≤ length bytes
encoding_fits bytes rest d s e is =
    let found = decl_sound bytes d rest (sym e) in
    let Text = λ (x : Option Setting).
    (codes "<?xml" ++ (setting_text (codes "version") d.version ++ (if_text (setting_text (codes "encoding")) x ++ (if_text (setting_text (codes "standalone")) d.standalone ++ (d.gap ++ codes "?>"))))) ++ rest in
    let whole : bytes ≡ Text (Some s) = found.0 ∙ ap Text is in
    omega (arith, simp length-append at (ap length whole), before_encoding_len d s)

pub utf_8_name : (name : List ℕ) (b : Bool) → (IsTrue b ↔ (map to_ascii_lowercase name ≡ map to_ascii_lowercase (codes "utf-8"))) → b ≡ is_utf_8_name name
utf_8_name name true is = sym ((bytes_eq-Decides (map to_ascii_lowercase name) (codes "utf-8")).1 (is.0 refl))
utf_8_name name false is = by (is_utf_8_name name) refl
  where
    by : (t : Bool) → is_utf_8_name name ≡ t → false ≡ t
    by true e = absurd (false≢true (is.1 ((bytes_eq-Decides (map to_ascii_lowercase name) (codes "utf-8")).0 e)))
    by false e = refl

name_in : (bytes : List ℕ) (r : Option (Decl × List ℕ)) → decl bytes ≡ r → (x : Option (ℕ × List ℕ)) (rest : List ℕ) → Some (x, rest) ≡ option_map encoding_read r → (e : ℕ × List ℕ) → x ≡ Some e → e.0 ≤ length bytes
name_in bytes None was x rest is e there = absurd cc
name_in bytes (Some y) was x rest is e there = by y.0.encoding refl named
  where
    named : encoding_of y.0 ≡ Some e
    named = sym (same_read x (encoding_of y.0) rest y.1 is).0 ∙ there

    by : (z : Option Setting) → y.0.encoding ≡ z → option_map (place_of y.0) z ≡ Some e → e.0 ≤ length bytes
    by None f g = absurd cc
    by (Some s) f g = let same : place_of y.0 s ≡ e = cc in subst (λ (p : ℕ × List ℕ). p.0 ≤ length bytes) same (encoding_fits bytes y.1 y.0 s (sym was) f)

-- the name of the encoding begins within the bytes
pub name_fits : (bytes : List ℕ) (x : Option (ℕ × List ℕ)) (rest : List ℕ) → Some (x, rest) ≡ option_map encoding_read (decl bytes) → (e : ℕ × List ℕ) → x ≡ Some e → e.0 ≤ length bytes
name_fits bytes x rest is e there = name_in bytes (decl bytes) refl x rest is e there

pub mark_spelled : (text : List ℕ) → text ≡ mark_text (behind_mark text).0 ++ (behind_mark text).1
mark_spelled text = by (begins_with (mark_text true) text) refl
  where
    by : (b : Bool) → begins_with (mark_text true) text ≡ b → text ≡ mark_text (cond {A = Bool × List ℕ} b (true, drop 3 text) (false, text)).0 ++ (cond {A = Bool × List ℕ} b (true, drop 3 text) (false, text)).1
    by true is = begins_split (mark_text true) text is
    by false is = refl

pub mark_len_fits : (text bytes : List ℕ) (mark : Bool) → (mark, bytes) ≡ behind_mark text → length (mark_text mark) + length bytes ≡ length text
mark_len_fits text bytes mark is =
    let whole : text ≡ mark_text mark ++ bytes = mark_spelled text ∙ ap (λ (x : Bool × List ℕ). mark_text x.0 ++ x.1) (sym is) in
    sym (ap length whole ∙ length-append (mark_text mark) bytes)

-- ---- the encoding of a whole text

pub mark_behind : (mark : Bool) (bytes : List ℕ) → first_is (λ c. c == 0xEF) bytes ≡ false → behind_mark (mark_text mark ++ bytes) ≡ (mark, bytes)
mark_behind true bytes apart = refl
mark_behind false [] apart = refl
mark_behind false (c ∷ bytes) apart = ap (λ b. cond (b && begins_with (0xBB ∷ 0xBF ∷ []) bytes) (true, drop 3 (c ∷ bytes)) (false, c ∷ bytes)) apart

abbrev second_of : Option (ℕ × List ℕ) × List ℕ → Option (ℕ × List ℕ)
second_of x = x.0

abbrev Other : ℕ → Option (Decl × List ℕ) → Option ℕ
Other n r = option_and_then (other_at n) (option_and_then second_of (option_map encoding_read r))

pub other_encoding_complete : (text : List ℕ) (at : ℕ) → HasOtherEncoding text at → other_encoding text ≡ Some at
unfolding other_encoding
other_encoding_complete text at h =
    let split : behind_mark text ≡ (h.mark, decl_text h.decl ++ h.rest) = ap behind_mark h.spelled ∙ mark_behind h.mark (decl_text h.decl ++ h.rest) refl in
    ap (λ (x : Bool × List ℕ). Other (length (mark_text x.0)) (decl x.1)) split ∙ ap (Other (length (mark_text h.mark))) (decl_complete h.decl h.rest h.good)
    ∙ ap (λ (x : Option Setting). option_and_then (other_at (length (mark_text h.mark))) (option_map (place_of h.decl) x)) h.is_there
    ∙ ap (λ b. cond b None (Some (length (mark_text h.mark) + length (before_encoding h.decl h.encoding)))) h.is_other
    ∙ ap Some (sym (length-append (mark_text h.mark) (before_encoding h.decl h.encoding)) ∙ sym h.at_is)

pub other_encoding_sound : (text : List ℕ) (at : ℕ) → other_encoding text ≡ Some at → HasOtherEncoding text at
unfolding other_encoding
other_encoding_sound text at e = by (decl (behind_mark text).1) refl e
  where
    tested : (d : Decl) (rest : List ℕ) (s : Setting) → decl (behind_mark text).1 ≡ Some (d, rest) → d.encoding ≡ Some s
        → (b : Bool) → is_utf_8_name s.value ≡ b → cond b None (Some (length (mark_text (behind_mark text).0) + length (before_encoding d s))) ≡ Some at → HasOtherEncoding text at
    tested d rest s was is true test f = absurd cc
    tested d rest s was is false test f =
        let found = decl_sound (behind_mark text).1 d rest was in
        let same : length (mark_text (behind_mark text).0) + length (before_encoding d s) ≡ at = cc in
        record {
          mark = (behind_mark text).0;
          decl = d;
          encoding = s;
          rest = rest;
          good = found.1;
          is_there = is;
          spelled = mark_spelled text ∙ ap (λ l. mark_text (behind_mark text).0 ++ l) found.0;
          at_is = sym same ∙ sym (length-append (mark_text (behind_mark text).0) (before_encoding d s));
          is_other = test;
        }

    named : (d : Decl) (rest : List ℕ) → decl (behind_mark text).1 ≡ Some (d, rest) → (x : Option Setting) → d.encoding ≡ x
        → option_and_then (other_at (length (mark_text (behind_mark text).0))) (option_map (place_of d) x) ≡ Some at → HasOtherEncoding text at
    named d rest was None is f = absurd cc
    named d rest was (Some s) is f = tested d rest s was is (is_utf_8_name s.value) refl f

    by : (r : Option (Decl × List ℕ)) → decl (behind_mark text).1 ≡ r → Other (length (mark_text (behind_mark text).0)) r ≡ Some at → HasOtherEncoding text at
    by None was f = absurd cc
    by (Some x) was f = named x.0 x.1 was x.0.encoding refl f
