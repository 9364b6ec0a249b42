-- The loop over a text.
use Rattle.std.proofs.Common.{◌≡◌, ℕ, ◌+◌, ◌-◌, ◌<◌, ◌≤◌, Bool, true, false, List, [], ◌∷◌, length, Option, Some, None, sym, ap, ◌∙◌, subst, arith, length-append}
use Rattle.std.specs.Str.{IsUtf8}
use Rattle.std.proofs.lemmas.Bool.{false≢true}
use Rattle.xml_pieces.specs.Tokens.{Token, token_text}
use Rattle.xml_pieces.specs.Item.{Where, item}
use Rattle.xml_pieces.proofs.Lexing.{IsPlace}
use Rattle.xml_order.specs.Gives.{Gives}
use Rattle.xml_order.specs.Shape.{Shape, in_order, begin, end, where_at}
use Rattle.xml_rows.specs.Work.{Work, works}
use Rattle.xml_rows.proofs.Counting.{place_stays}
use Rattle.doc_import.specs.Machine.{machine, start, Leads, IsAsGood}
use Rattle.doc_import.specs.Stopping.{IsStop, IsStopped}
use Rattle.doc_import.specs.declared.reading.Stop.{Stop}
use Rattle.doc_import.specs.declared.reading.Stop.TheVariants.{Malformed, InternalSubset, NoMemory}
use Rattle.doc_import.proofs.Fitting.{IsNext, next_fits, place_kept}
use Rattle.doc_import.proofs.InternalSubset.{subset_leads, subset_found, no_subset}
use Rattle.doc_import.proofs.Steps.{goes_on, stops, led_to, nothing_at, runs_one}

-- what the loop keeps
pub record IsRead (strip : Bool) (at : ℕ) (body : List ℕ) (w : Work) (s : Shape) (rest : List ℕ) : Type 0 where
  pub same : IsAsGood strip (start at) body (machine w s) rest
  pub text : IsUtf8 rest
  pub place : IsPlace (where_at s.mode)
  pub left : w.at + length rest ≡ at + length body
  pub few : length rest ≤ length body

-- no piece can be read where something is left
pub stopped_here : (strip : Bool) (at : ℕ) (body rest : List ℕ) (w : Work) (s : Shape) (p : Where) (fault : Stop) → IsRead strip at body w s rest → 0 < length rest → p ≡ where_at s.mode → None ≡ item p rest
    → IsStop s rest (at + (length body - length rest)) fault → IsStopped strip at body fault
stopped_here strip at body rest w s p fault r some is none stop = by fault stop
  where
    led : Leads strip (start at) body (machine w s) rest
    led = led_to strip (start at) (machine w s) body rest r.same (ap (λ q. item q rest) (sym is) ∙ sym none)

    by : (fault : Stop) → IsStop s rest (at + (length body - length rest)) fault → IsStopped strip at body fault
    by Malformed h = (
      λ v other. let one = runs_one strip (start at) (machine w s) (machine v end) body rest [] led other in absurd (omega (arith, some, ap length one.1)),
      λ k has. no_subset strip at k body rest (machine w s) led h has,
    )
    by (InternalSubset n) h =
        let here : Leads strip (start at) body (machine w begin) rest = subst (λ x. Leads strip (start at) body (machine w x) rest) h.0 led in
        ((length body - length rest) + h.1, subset_found strip at h.1 body rest w here h.2, h.3 ∙ omega (arith, r.few))
    by NoMemory h = absurd h

-- a piece doesn't stand in order
pub stopped_by : (strip : Bool) (at : ℕ) (body rest after : List ℕ) (w : Work) (s m : Shape) (p : Where) (t : Token) (b : Bool) → IsRead strip at body w s rest → p ≡ where_at s.mode → Some (t, after) ≡ item p rest → b ≡ false → Gives b m (in_order s t)
    → IsStopped strip at body Malformed
stopped_by strip at body rest after w s m p t b r is found misses gives =
    let here : Some (t, after) ≡ item (where_at s.mode) rest = found ∙ ap (λ q. item q rest) is in (
      λ v other. stops strip (start at) (machine v end) w s m body rest after [] t b r.same here misses gives other,
      λ k has. let led = subset_leads strip at k body has in stops strip (start at) (machine led.0 begin) w s m body rest after _ t b r.same here misses gives led.1,
    )

pub next_here : (strip : Bool) (at : ℕ) (body rest after : List ℕ) (w : Work) (s : Shape) (p : Where) (t : Token) → IsRead strip at body w s rest → p ≡ where_at s.mode → Some (t, after) ≡ item p rest → IsNext (where_at s.mode) rest t after
next_here strip at body rest after w s p t r is found = next_fits (where_at s.mode) rest t after r.place r.text (found ∙ ap (λ q. item q rest) is)

pub next_few : (strip : Bool) (at : ℕ) (body rest after : List ℕ) (w : Work) (s : Shape) (t : Token) → IsRead strip at body w s rest → IsNext (where_at s.mode) rest t after → w.at + length (token_text t) ≤ at + length body
next_few strip at body rest after w s t r n = omega (arith, r.left, ap length n.spelled, length-append (token_text t) after)

given : (b : Bool) (m : Shape) (o : Option Shape) → b ≡ true → Gives b m o → o ≡ Some m
given true m o e g = g
given false m o e g = absurd (false≢true e)

works_place : (strip : Bool) (w : Work) (t : Token) → (works strip w t).at ≡ w.at + length (token_text t)
unfolding works
works_place strip w t = ap (λ (n : ℕ). n + length (token_text t)) (place_stays strip w.mode w t)

pub goes_here : (strip : Bool) (at : ℕ) (body rest after : List ℕ) (w v : Work) (s m : Shape) (p : Where) (t : Token) (b : Bool) → IsRead strip at body w s rest → p ≡ where_at s.mode → Some (t, after) ≡ item p rest → b ≡ true → Gives b m (in_order s t)
    → v ≡ works strip w t → IsRead strip at body v m after
goes_here strip at body rest after w v s m p t b r is found passes gives made =
    let here : Some (t, after) ≡ item (where_at s.mode) rest = found ∙ ap (λ q. item q rest) is in
    let n = next_here strip at body rest after w s p t r is found in
    let place : v.at ≡ w.at + length (token_text t) = ap (λ (x : Work). x.at) made ∙ works_place strip w t in
    record {
      same = goes_on strip (start at) w v s m body rest after t b r.same here passes gives made;
      text = n.text;
      place = place_kept s m t r.place n.place (given b m (in_order s t) passes gives);
      left = omega (arith, r.left, place, ap length n.spelled, length-append (token_text t) after);
      few = omega (arith, r.few, ap length n.spelled, length-append (token_text t) after);
    }

pub led_whole : (strip : Bool) (at : ℕ) (body rest : List ℕ) (w : Work) (s : Shape) → IsRead strip at body w s rest → length rest ≡ 0 → Leads strip (start at) body (machine w s) []
led_whole strip at body [] w s r e = led_to strip (start at) (machine w s) body [] r.same (nothing_at (where_at s.mode))
led_whole strip at body (c ∷ rest) w s r e = absurd (omega arith)
