-- What is no query, what is no path, and a path that has a fault are refused with their codes.
use Rattle.std.proofs.Common.{◌≡◌, ◌≢◌, inl, inr, ℕ, true, Option, Some, None, Ok, Err, ap, sym, ◌∙◌, subst, List}
use Rattle.std.specs.Prelude.{Result, codes}
use Rattle.tree_model.specs.CodeTexts.{text_of_code}
use Rattle.tree_model.specs.QueryCodes.{QueryCode, XPST0003, XKLM0004, query_code, is_query_code}
use Rattle.tree_model.specs.declared.axis.AxisStep.{AxisStep}
use Rattle.tree_model.specs.declared.code.Refusal.{Refusal}
use Rattle.tree_model.specs.declared.code.Refusal.TheVariants.{Code, NoMemory}
use Rattle.query_terms.specs.declared.stop.SyntaxFault.{SyntaxFault}
use Rattle.query_terms.specs.declared.stop.SyntaxFault.TheVariants as faults
use Rattle.query_terms.specs.declared.tree.QueryTree.{QueryTree}
use Rattle.query_terms.specs.Rule.{Text}
use Rattle.query_terms.specs.Parse.{parse}
use Rattle.query_terms.specs.Static.{Fault, first_fault}
use Rattle.query_paths.specs.Paths.{path_in}
use Rattle.query_paths.specs.Asked.{wrong, not_valued, asked, asked_by, answered, checked, IsRefusedAs, Refuses}
use Rattle.static_rules.specs.Checks.{Checks}
use Rattle.static_rules.specs.Codes.{HasCode}
use Rattle.static_rules.specs.Verdict.{Verdict}

pub no_query : (t : Text) (e : SyntaxFault) (number : ℕ) → (e ≢ faults.NoMemory → parse t ≡ Err e) → e ≡ faults.NoReading → XPST0003 ≡ query_code number → is_query_code number ≡ true → IsRefusedAs (asked t) number
unfolding asked
no_query t e number reads is code of_queries =
    let other : e ≢ faults.NoMemory = λ z. cc in
    inl (ap asked_by (reads other ∙ ap (λ (x : SyntaxFault). Err x) is) ∙ ap wrong code, of_queries)

pub too_deep : (t : Text) (e : SyntaxFault) (number : ℕ) → (e ≢ faults.NoMemory → parse t ≡ Err e) → e ≡ faults.TooDeep → XKLM0004 ≡ query_code number → is_query_code number ≡ true → IsRefusedAs (asked t) number
unfolding asked
too_deep t e number reads is code of_queries =
    let other : e ≢ faults.NoMemory = λ z. cc in
    inl (ap asked_by (reads other ∙ ap (λ (x : SyntaxFault). Err x) is) ∙ ap wrong code, of_queries)

pub no_path : (q : QueryTree) (number : ℕ) → None ≡ path_in q → text_of_code number ≡ codes "XKCM0002" → IsRefusedAs (answered q (path_in q)) number
no_path q number is text = inr (ap (answered q) (sym is), text)

code_or : QueryCode → Option QueryCode → QueryCode
code_or other None = other
code_or other (Some code) = code

fault_refuses : (path : List AxisStep) (first : Option Fault) (number : ℕ) → HasCode first number → IsRefusedAs (checked path first) number
unfolding HasCode code_or
fault_refuses path None number has = absurd (let same = has.0 in cc)
fault_refuses path (Some f) number has = inl (ap wrong (ap (code_or f.code) has.0), has.1)

pub refuses : (t : Text) (q : QueryTree) (path : List AxisStep) (refusal : Refusal) (checks : Result Verdict Refusal) → checks ≡ Err refusal → parse t ≡ Ok q → path_in q ≡ Some path → Checks q checks → Refuses (asked t) refusal
unfolding asked
refuses t q path refusal checks same read is check = by refusal (subst (Checks q) same check) where
  asks : asked t ≡ checked path (first_fault q)
  asks = ap asked_by read ∙ ap (answered q) is

  by : (r : Refusal) → Checks q (Err r) → Refuses (asked t) r
  by (Code number) has = subst (λ a. IsRefusedAs a number) (sym asks) (fault_refuses path (first_fault q) number has)
  by NoMemory has = tt
