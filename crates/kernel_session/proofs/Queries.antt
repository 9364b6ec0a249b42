-- What is answered to a query.
use Rattle.std.proofs.Common.{◌≡◌, inl, inr, List, ℕ, true, Result, Ok, Err, refl, sym, ap, ◌∙◌, subst}
use Rattle.std.specs.Prelude.{Some, None, OnOk, OnErr, codes}
use Rattle.std.specs.declared.alloc.AllocError.{AllocError}
use Rattle.frame_pool.specs.Meters.{HasRead}
use Rattle.frame_pool.specs.declared.meter.Meter.{Meter}
use Rattle.outer_io.specs.Files.{FilesSeen}
use Rattle.query_paths.specs.Asked.{Asked, steps, wrong, not_valued, asked, IsRefusedAs, Refuses}
use Rattle.query_paths.proofs.Codes.{text_is_of_code}
use Rattle.tree_model.specs.Axes.{path_value}
use Rattle.tree_model.specs.CodeTexts.{text_of_code}
use Rattle.tree_model.specs.Printing.{answer_text}
use Rattle.tree_model.specs.QueryCodes.{query_code, query_code_text}
use Rattle.tree_model.specs.States.{State, Base}
use Rattle.tree_model.specs.declared.axis.AxisStep.{AxisStep}
use Rattle.tree_model.specs.declared.code.Refusal.{Refusal}
use Rattle.tree_model.specs.declared.code.Refusal.TheVariants.{Code, NoMemory}
use Rattle.commands.specs.declared.options.Options.{Options}
use Rattle.commands.specs.Commands.{query}
use Rattle.kernel_session.specs.Replies.{Answer, accepted, refused, refusal_text}
use Rattle.kernel_session.specs.Steps.{Step, IsQueryRefusal, open_base}
use Rattle.kernel_session.specs.Workspaces.{workspace}
use Rattle.kernel_session.proofs.Meters.{read_none}
use Rattle.kernel_session.proofs.Reading.{as_before}

-- the text of the nodes, or that memory was wanting for it
pub query_step : (options : Options) (state : State) (files : FilesSeen) (old new : Meter) (words : List ℕ) (path : List AxisStep) (base : Base) (answer : Answer) (r : Result (Unit {0}) AllocError) (text : List ℕ)
    → asked words ≡ steps path → open_base state ≡ Some base → OnOk r (text ≡ answer_text (path_value base.documents path)) → HasRead old new
    → OnOk r (answer ≡ accepted text) → OnErr r (answer ≡ refused (codes "XKMEM")) → Step options (workspace state files old) (query words) answer (workspace state files new)
query_step options state files old new words path base answer (Ok x) text read opened written rows accept want =
    subst (λ a. Step options (workspace state files old) (query words) a (workspace state files new)) (sym accept) (path, read, base, opened, written, (refl, refl, rows))
query_step options state files old new words path base answer (Err e) text read opened written rows accept want =
    subst (λ a. Step options (workspace state files old) (query words) a (workspace state files new)) (sym want)
    (inr (record { takes = refl; code_is = refl; state = refl; files = as_before files; meter = rows }))

refusal_by : (answer : Asked) (number : ℕ) → IsRefusedAs answer number → IsQueryRefusal answer (text_of_code number)
refusal_by answer number (inl h) = subst (λ a. IsQueryRefusal a (text_of_code number)) (sym h.0) (text_is_of_code number h.1)
refusal_by answer number (inr h) = subst (λ a. IsQueryRefusal a (text_of_code number)) (sym h.0) h.1

-- a query that is refused, or for which memory was wanting
pub query_refused : (options : Options) (state : State) (files : FilesSeen) (meter : Meter) (words : List ℕ) (refusal : Refusal)
    → Refuses (asked words) refusal → Step options (workspace state files meter) (query words) (refused (refusal_text refusal)) (workspace state files meter)
query_refused options state files meter words (Code number) h = inl (inl (refusal_by (asked words) number h), refl)
query_refused options state files meter words NoMemory h = inr (record { takes = refl; code_is = refl; state = refl; files = as_before files; meter = read_none meter })
