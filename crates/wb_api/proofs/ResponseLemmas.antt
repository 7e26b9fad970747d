-- Lemmas on what is answered in place of a refusal, in each form.
use Rattle.std.proofs.Common.{◌≡◌, inl, inr, ap, subst, ◌∙◌}
use Rattle.wb_states.specs.Machine.{Machine}
use Rattle.wb_states.specs.declared.refusal.Refusal.{Refusal}
use Rattle.wb_states.specs.declared.refusal.Refusal.TheVariants.{Memory}
use Rattle.wb_api.proofs.PlainLemmas.{refusal_text-Memory}
use Rattle.wb_api.specs.Responses.{Form, IsRefusal, Response, memory_response}

-- a response to a refusal is one to the same refusal
pub said-as : (form : Form) (machine : Machine) (response : Response) {refusal same : Refusal} → refusal ≡ same
    → IsRefusal form machine refusal response → IsRefusal form machine same response
said-as form machine response is = subst (λ refusal. IsRefusal form machine refusal response) is

-- the text of the refusal that memory ran out is a constant
pub memory-refusal : (form : Form) (machine : Machine) (response : Response) → IsRefusal form machine Memory response
    → response ≡ memory_response form machine
memory-refusal form machine response (inl same) =
    same ∙ ap (λ t. record { status = form.refused Memory; text = form.written t; machine = machine }) refusal_text-Memory
memory-refusal form machine response (inr (long, same)) = same
