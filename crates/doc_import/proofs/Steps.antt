-- A run goes on by a piece, or stops; and what runs to the end of a text.
use Rattle.std.proofs.Common.{◌≡◌, ℕ, Bool, true, false, List, [], ◌∷◌, Option, Some, None, refl, sym, ap, ◌∙◌, subst}
use Rattle.std.proofs.lemmas.Bool.{false≢true}
use Rattle.std.specs.Option.{option_and_then, option_map}
use Rattle.xml_pieces.specs.Tokens.{Token}
use Rattle.xml_pieces.specs.Item.{Where, content, a_tag, a_value, in_content, behind_gap, in_quotes, item, next, Lexes}
use Rattle.xml_order.specs.Gives.{Gives}
use Rattle.xml_order.specs.Cuts.{LexesTo}
use Rattle.xml_order.specs.Shape.{Shape, in_order, all_in_order, where_at}
use Rattle.xml_order.proofs.Ordered.{place_next}
use Rattle.xml_rows.specs.Work.{Work, works, all_works}
use Rattle.doc_import.specs.Machine.{Machine, machine, step, Runs, Leads, IsAsGood}

some_same : (a b : Machine) → Some a ≡ Some b → a ≡ b
some_same a b e = cc

none_some : (a : Machine) → None ≡ Some a → ⊥
none_some a e = cc

same_piece : (t u : Token) (a b : List ℕ) → ◌≡◌ {A = Option (Token × List ℕ)} (Some (t, a)) (Some (u, b)) → (t ≡ u) × (a ≡ b)
same_piece t u a b e =
    let pair : ◌≡◌ {A = Token × List ℕ} (t, a) (u, b) = cc in
    (ap (λ (p : Token × List ℕ). p.0) pair, ap (λ (p : Token × List ℕ). p.1) pair)

no_piece : (t : Token) (a : List ℕ) → ◌≡◌ {A = Option (Token × List ℕ)} None (Some (t, a)) → ⊥
no_piece t a e = cc

pub as_good_none : (strip : Bool) (m : Machine) (bytes : List ℕ) → IsAsGood strip m bytes m bytes
as_good_none strip m bytes = record { sound = λ f rest r. r; complete = λ f rest r. r }

-- where a piece can be read, each run begins with it
back : (strip : Bool) (m n : Machine) (bytes after : List ℕ) (t : Token) → item (where_at m.control.mode) bytes ≡ Some (t, after) → step strip m t ≡ Some n
    → (f : Machine) (rest : List ℕ) → Leads strip m bytes f rest → Leads strip n after f rest
back strip m n bytes after t is goes f rest ([], r) = absurd (no_piece t after (sym r.2 ∙ is))
back strip m n bytes after t is goes f rest (u ∷ us, r) =
    let same = same_piece u t r.0 after (sym r.2 ∙ is) in
    let next : r.1 ≡ n = some_same r.1 n (sym r.3 ∙ ap (step strip m) same.0 ∙ goes) in
    (us, subst (λ (x : Machine). Runs strip us x after f rest) next (subst (λ (l : List ℕ). Runs strip us r.1 l f rest) same.1 r.4))

-- the step of the code: first the order of the pieces, then what they make
stepped : (strip : Bool) (w w' : Work) (s s' : Shape) (t : Token) → in_order s t ≡ Some s' → w' ≡ works strip w t → step strip (machine w s) t ≡ Some (machine w' s')
stepped strip w w' s s' t order made = ap (option_map (machine (works strip w t))) order ∙ ap (λ x. Some (machine x s')) (sym made)

pub goes_on : (strip : Bool) (old : Machine) (w w' : Work) (s s' : Shape) (all bytes after : List ℕ) (t : Token) (b : Bool) → IsAsGood strip old all (machine w s) bytes → Some (t, after) ≡ item (where_at s.mode) bytes → b ≡ true
    → Gives b s' (in_order s t) → w' ≡ works strip w t → IsAsGood strip old all (machine w' s') after
goes_on strip old w w' s s' all bytes after t true h is e gives made = record {
  sound = λ f rest r. h.sound f rest (t ∷ r.0, (after, machine w' s', sym is, stepped strip w w' s s' t gives made, r.1));
  complete = λ f rest r. back strip (machine w s) (machine w' s') bytes after t (sym is) (stepped strip w w' s s' t gives made) f rest (h.complete f rest r);
}
goes_on strip old w w' s s' all bytes after t false h is e gives made = absurd (false≢true e)

pub stops : (strip : Bool) (old f : Machine) (w : Work) (s s' : Shape) (all bytes after rest : List ℕ) (t : Token) (b : Bool) → IsAsGood strip old all (machine w s) bytes → Some (t, after) ≡ item (where_at s.mode) bytes → b ≡ false
    → Gives b s' (in_order s t) → Leads strip old all f rest → ⊥
stops strip old f w s s' all bytes after rest t true h is e gives r = absurd (false≢true (sym e))
stops strip old f w s s' all bytes after rest t false h is e gives r = by (h.complete f rest r)
  where
    by : Leads strip (machine w s) bytes f rest → ⊥
    by ([], d) = no_piece t after (sym d.2 ∙ sym is)
    by (u ∷ us, d) =
        let same = same_piece u t d.0 after (sym d.2 ∙ sym is) in
        none_some d.1 (ap (option_map (machine (works strip w t))) (sym gives) ∙ ap (step strip (machine w s)) (sym same.0) ∙ d.3)

-- where no piece can be read, the run ends
pub led_to : (strip : Bool) (old m : Machine) (all bytes : List ℕ) → IsAsGood strip old all m bytes → item (where_at m.control.mode) bytes ≡ None → Leads strip old all m bytes
led_to strip old m all bytes h is = h.sound m bytes ([], (refl, refl, is))

pub nothing_at : (place : Where) → item place [] ≡ None
unfolding in_content behind_gap in_quotes
nothing_at content = refl
nothing_at a_tag = refl
nothing_at (a_value delim) = refl

-- all runs over a text come to the same end
pub runs_one : (strip : Bool) (m f g : Machine) (bytes a b : List ℕ) → Leads strip m bytes f a → Leads strip m bytes g b → (f ≡ g) × (a ≡ b)
runs_one strip m f g bytes a b ([], r) ([], q) = (sym r.1 ∙ q.1, sym r.0 ∙ q.0)
runs_one strip m f g bytes a b ([], r) (u ∷ us, q) = absurd (no_piece u q.0 (sym r.2 ∙ q.2))
runs_one strip m f g bytes a b (t ∷ ts, r) other =
    runs_one strip r.1 f g r.0 a b (ts, r.4) (back strip m r.1 bytes r.0 t r.2 r.3 g b other)

-- ---- runs are readings in order

some_is : (s m : Shape) → Some s ≡ Some m → s ≡ m
some_is s m e = cc

runs_from : (strip : Bool) (ts : List Token) (w : Work) (s f : Shape) (bytes rest : List ℕ) → LexesTo (where_at s.mode) ts bytes rest → all_in_order ts s ≡ Some f → item (where_at f.mode) rest ≡ None
    → Runs strip ts (machine w s) bytes (machine (all_works strip ts w) f) rest
runs_from strip [] w s f bytes rest l e stuck =
    let same = some_is s f e in
    (l, ap (machine w) same, subst (λ (x : Shape). item (where_at x.mode) bytes ≡ None) (sym same) (subst (λ (y : List ℕ). item (where_at f.mode) y ≡ None) (sym l) stuck))
runs_from strip (t ∷ ts) w s f bytes rest l e stuck = by (λ m k g. runs_from strip ts (works strip w t) m f l.0 rest k g stuck) (in_order s t) refl e
  where
    by : ((m : Shape) → LexesTo (where_at m.mode) ts l.0 rest → all_in_order ts m ≡ Some f → Runs strip ts (machine (works strip w t) m) l.0 (machine (all_works strip ts (works strip w t)) f) rest)
        → (r : Option Shape) → in_order s t ≡ r → option_and_then (all_in_order ts) r ≡ Some f
        → Runs strip (t ∷ ts) (machine w s) bytes (machine (all_works strip ts (works strip w t)) f) rest
    by on None g e = absurd cc
    by on (Some m) g e = (l.0, machine (works strip w t) m, l.1, ap (option_map (machine (works strip w t))) g, on m (subst (λ p. LexesTo p ts l.0 rest) (place_next s t m g) l.2) e)

pub leads_from : (strip : Bool) (ts : List Token) (w : Work) (s f : Shape) (bytes rest : List ℕ) → LexesTo (where_at s.mode) ts bytes rest → all_in_order ts s ≡ Some f → item (where_at f.mode) rest ≡ None
    → Leads strip (machine w s) bytes (machine (all_works strip ts w) f) rest
leads_from strip ts w s f bytes rest l e stuck = (ts, runs_from strip ts w s f bytes rest l e stuck)

pub runs_to : (strip : Bool) (ts : List Token) (w : Work) (s : Shape) (f : Machine) (bytes rest : List ℕ) → Runs strip ts (machine w s) bytes f rest
    → LexesTo (where_at s.mode) ts bytes rest × (all_in_order ts s ≡ Some f.control) × (f.made ≡ all_works strip ts w)
runs_to strip [] w s f bytes rest r = (r.0, ap (λ (m : Machine). Some m.control) r.1, ap (λ (m : Machine). m.made) (sym r.1))
runs_to strip (t ∷ ts) w s f bytes rest r = by (λ m k. runs_to strip ts (works strip w t) m f r.0 rest k) (in_order s t) refl r.3
  where
    by : ((m : Shape) → Runs strip ts (machine (works strip w t) m) r.0 f rest → LexesTo (where_at m.mode) ts r.0 rest × (all_in_order ts m ≡ Some f.control) × (f.made ≡ all_works strip ts (works strip w t)))
        → (o : Option Shape) → in_order s t ≡ o → option_map (machine (works strip w t)) o ≡ Some r.1
        → LexesTo (where_at s.mode) (t ∷ ts) bytes rest × (option_and_then (all_in_order ts) (in_order s t) ≡ Some f.control) × (f.made ≡ all_works strip ts (works strip w t))
    by to None g e = absurd (none_some r.1 e)
    by to (Some m) g e =
        let same : r.1 ≡ machine (works strip w t) m = sym (some_same (machine (works strip w t) m) r.1 e) in
        let on = to m (subst (λ (x : Machine). Runs strip ts x r.0 f rest) same r.4) in
        ((r.0, r.2, subst (λ p. LexesTo p ts r.0 rest) (sym (place_next s t m g)) on.0), ap (option_and_then (all_in_order ts)) g ∙ on.1, on.2)

-- to the end of the bytes
pub lexes_all : (place : Where) (ts : List Token) (bytes : List ℕ) → LexesTo place ts bytes [] → Lexes place ts bytes
lexes_all place [] bytes l = l
lexes_all place (t ∷ ts) bytes l = (l.0, l.1, lexes_all (next place t) ts l.0 l.2)

pub all_lexed : (place : Where) (ts : List Token) (bytes : List ℕ) → Lexes place ts bytes → LexesTo place ts bytes []
all_lexed place [] bytes l = l
all_lexed place (t ∷ ts) bytes l = (l.0, l.1, all_lexed (next place t) ts l.0 l.2)
