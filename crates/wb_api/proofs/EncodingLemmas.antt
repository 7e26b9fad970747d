use Rattle.std.proofs.Common.{◌≡◌, ℕ, List, [], ◌∷◌, ◌++◌, false, refl, sym, ap, ◌∙◌, append_assoc}
use Rattle.std.specs.Prelude.{codes, decimal}
use Rattle.std.specs.Fmt.{digits}
use Rattle.serde_json.specs.Written.{compact_text, items_text, has_float, items_have_float}
use Rattle.serde_json.proofs.OnLiterals.{serde_json_on_literals}
use Rattle.wb_states.specs.declared.refusal.ListingFault.TheVariants.{Control, Missing, BadValue}
use Rattle.wb_states.specs.declared.refusal.Refusal.{Refusal}
use Rattle.wb_states.specs.declared.refusal.Refusal.TheVariants.{UnknownArch, UnknownBuilder, WrongArch, UnknownSource, OtherVersion, WrongState, QueueEmpty, NotHeld, AfterAhead, AlreadyThere, BadName, BadVersion, BadRelations, BadNumber, BadListing, BadReport, TextTooLong, Spent, RepeatedArch, StillHeld, Closed, Store, Memory}
use Rattle.wb_states.specs.declared.reply.PartEnd.{PartEnd}
use Rattle.wb_states.specs.declared.reply.PartEnd.TheVariants.{Merged as part_Merged, Refused}
use Rattle.wb_states.specs.declared.reply.PartReply.{PartReply}
use Rattle.wb_states.specs.declared.reply.Reply.{Reply}
use Rattle.wb_states.specs.declared.reply.Reply.TheVariants.{Done, Job, Again, Reported, Merged}
use Rattle.wb_api.specs.Encoding.{reply_text, assignment_text, refusal_members, refusal_text, end_text, part_text, parts_text}
use Rattle.wb_api.specs.Values.{value_of_reply, value_of_refusal, value_of_end, values_of_parts}

-- no number of a refusal is a float
pub has_float-value_of_refusal : (refusal : Refusal) → has_float (value_of_refusal refusal) ≡ false
has_float-value_of_refusal UnknownArch = refl
has_float-value_of_refusal UnknownBuilder = refl
has_float-value_of_refusal WrongArch = refl
has_float-value_of_refusal UnknownSource = refl
has_float-value_of_refusal (OtherVersion have) = refl
has_float-value_of_refusal (WrongState state) = refl
has_float-value_of_refusal QueueEmpty = refl
has_float-value_of_refusal NotHeld = refl
has_float-value_of_refusal (AfterAhead handed) = refl
has_float-value_of_refusal AlreadyThere = refl
has_float-value_of_refusal BadName = refl
has_float-value_of_refusal (BadVersion fault) = refl
has_float-value_of_refusal (BadRelations fault) = refl
has_float-value_of_refusal BadNumber = refl
has_float-value_of_refusal (BadListing which paragraph (Control kind)) = refl
has_float-value_of_refusal (BadListing which paragraph (Missing field)) = refl
has_float-value_of_refusal (BadListing which paragraph (BadValue field)) = refl
has_float-value_of_refusal (BadReport line) = refl
has_float-value_of_refusal TextTooLong = refl
has_float-value_of_refusal Spent = refl
has_float-value_of_refusal RepeatedArch = refl
has_float-value_of_refusal StillHeld = refl
has_float-value_of_refusal Closed = refl
has_float-value_of_refusal (Store fault) = refl
has_float-value_of_refusal Memory = refl

-- what a refusal's object is printed as
pub compact_text-value_of_refusal : (refusal : Refusal)
    → compact_text (value_of_refusal refusal) ≡ refusal_text refusal
unfolding digits serde_json_on_literals refusal_text refusal_members
compact_text-value_of_refusal UnknownArch = refl
compact_text-value_of_refusal UnknownBuilder = refl
compact_text-value_of_refusal WrongArch = refl
compact_text-value_of_refusal UnknownSource = refl
compact_text-value_of_refusal (OtherVersion have) = refl
compact_text-value_of_refusal (WrongState state) = refl
compact_text-value_of_refusal QueueEmpty = refl
compact_text-value_of_refusal NotHeld = refl
compact_text-value_of_refusal (AfterAhead handed) = refl
compact_text-value_of_refusal AlreadyThere = refl
compact_text-value_of_refusal BadName = refl
compact_text-value_of_refusal (BadVersion fault) = refl
compact_text-value_of_refusal (BadRelations fault) = refl
compact_text-value_of_refusal BadNumber = refl
compact_text-value_of_refusal (BadListing which paragraph (Control kind)) = refl
compact_text-value_of_refusal (BadListing which paragraph (Missing field)) = refl
compact_text-value_of_refusal (BadListing which paragraph (BadValue field)) = refl
compact_text-value_of_refusal (BadReport line) = refl
compact_text-value_of_refusal TextTooLong = refl
compact_text-value_of_refusal Spent = refl
compact_text-value_of_refusal RepeatedArch = refl
compact_text-value_of_refusal StillHeld = refl
compact_text-value_of_refusal Closed = refl
compact_text-value_of_refusal (Store fault) = refl
compact_text-value_of_refusal Memory = refl

-- no number of a part is a float
has_float-value_of_end : (arch : List ℕ) (end : PartEnd) → has_float (value_of_end arch end) ≡ false
has_float-value_of_end arch (part_Merged counts) = refl
has_float-value_of_end arch (Refused UnknownArch) = refl
has_float-value_of_end arch (Refused UnknownBuilder) = refl
has_float-value_of_end arch (Refused WrongArch) = refl
has_float-value_of_end arch (Refused UnknownSource) = refl
has_float-value_of_end arch (Refused (OtherVersion have)) = refl
has_float-value_of_end arch (Refused (WrongState state)) = refl
has_float-value_of_end arch (Refused QueueEmpty) = refl
has_float-value_of_end arch (Refused NotHeld) = refl
has_float-value_of_end arch (Refused (AfterAhead handed)) = refl
has_float-value_of_end arch (Refused AlreadyThere) = refl
has_float-value_of_end arch (Refused BadName) = refl
has_float-value_of_end arch (Refused (BadVersion fault)) = refl
has_float-value_of_end arch (Refused (BadRelations fault)) = refl
has_float-value_of_end arch (Refused BadNumber) = refl
has_float-value_of_end arch (Refused (BadListing which paragraph (Control kind))) = refl
has_float-value_of_end arch (Refused (BadListing which paragraph (Missing field))) = refl
has_float-value_of_end arch (Refused (BadListing which paragraph (BadValue field))) = refl
has_float-value_of_end arch (Refused (BadReport line)) = refl
has_float-value_of_end arch (Refused TextTooLong) = refl
has_float-value_of_end arch (Refused Spent) = refl
has_float-value_of_end arch (Refused RepeatedArch) = refl
has_float-value_of_end arch (Refused StillHeld) = refl
has_float-value_of_end arch (Refused Closed) = refl
has_float-value_of_end arch (Refused (Store fault)) = refl
has_float-value_of_end arch (Refused Memory) = refl

-- what a part's object is printed as
compact_text-value_of_end : (arch : List ℕ) (end : PartEnd)
    → compact_text (value_of_end arch end) ≡ end_text arch end
unfolding digits serde_json_on_literals end_text refusal_members
compact_text-value_of_end arch (part_Merged counts) = refl
compact_text-value_of_end arch (Refused UnknownArch) = refl
compact_text-value_of_end arch (Refused UnknownBuilder) = refl
compact_text-value_of_end arch (Refused WrongArch) = refl
compact_text-value_of_end arch (Refused UnknownSource) = refl
compact_text-value_of_end arch (Refused (OtherVersion have)) = refl
compact_text-value_of_end arch (Refused (WrongState state)) = refl
compact_text-value_of_end arch (Refused QueueEmpty) = refl
compact_text-value_of_end arch (Refused NotHeld) = refl
compact_text-value_of_end arch (Refused (AfterAhead handed)) = refl
compact_text-value_of_end arch (Refused AlreadyThere) = refl
compact_text-value_of_end arch (Refused BadName) = refl
compact_text-value_of_end arch (Refused (BadVersion fault)) = refl
compact_text-value_of_end arch (Refused (BadRelations fault)) = refl
compact_text-value_of_end arch (Refused BadNumber) = refl
compact_text-value_of_end arch (Refused (BadListing which paragraph (Control kind))) = refl
compact_text-value_of_end arch (Refused (BadListing which paragraph (Missing field))) = refl
compact_text-value_of_end arch (Refused (BadListing which paragraph (BadValue field))) = refl
compact_text-value_of_end arch (Refused (BadReport line)) = refl
compact_text-value_of_end arch (Refused TextTooLong) = refl
compact_text-value_of_end arch (Refused Spent) = refl
compact_text-value_of_end arch (Refused RepeatedArch) = refl
compact_text-value_of_end arch (Refused StillHeld) = refl
compact_text-value_of_end arch (Refused Closed) = refl
compact_text-value_of_end arch (Refused (Store fault)) = refl
compact_text-value_of_end arch (Refused Memory) = refl

-- no number of the parts is a float
items_have_float-values_of_parts : (parts : List PartReply) → items_have_float (values_of_parts parts) ≡ false
items_have_float-values_of_parts [] = refl
items_have_float-values_of_parts (part ∷ parts) =
    rw (has_float-value_of_end part.arch part.end) (items_have_float-values_of_parts parts)

-- what the parts' objects are printed as, with the closing bracket
items_text-values_of_parts : (parts : List PartReply)
    → items_text false (values_of_parts parts) ≡ parts_text parts ++ 93 ∷ []
items_text-values_of_parts [] = refl
items_text-values_of_parts (part ∷ []) =
    ap (λ text. text ++ 93 ∷ []) (compact_text-value_of_end part.arch part.end)
items_text-values_of_parts (part ∷ next ∷ parts) =
    ap (λ text. text ++ 44 ∷ items_text false (values_of_parts (next ∷ parts))) (compact_text-value_of_end part.arch part.end)
    ∙ ap (λ text. part_text part ++ 44 ∷ text) (items_text-values_of_parts (next ∷ parts))
    ∙ sym (append_assoc (part_text part) (44 ∷ parts_text (next ∷ parts)) (93 ∷ []))

-- no number of a reply is a float
pub has_float-value_of_reply : (name : List ℕ) (reply : Reply) → has_float (value_of_reply name reply) ≡ false
has_float-value_of_reply name (Done accepted) = refl
has_float-value_of_reply name (Job accepted assignment) = refl
has_float-value_of_reply name (Again accepted assignment) = refl
has_float-value_of_reply name (Reported accepted changed) = refl
has_float-value_of_reply name (Merged accepted parts) = rw (items_have_float-values_of_parts parts) refl

-- what a reply's object is printed as
pub compact_text-value_of_reply : (name : List ℕ) (reply : Reply)
    → compact_text (value_of_reply name reply) ≡ reply_text name reply
unfolding serde_json_on_literals reply_text assignment_text
compact_text-value_of_reply name (Done accepted) = refl
compact_text-value_of_reply name (Job accepted assignment) = refl
compact_text-value_of_reply name (Again accepted assignment) = refl
compact_text-value_of_reply name (Reported accepted changed) = refl
compact_text-value_of_reply name (Merged accepted parts) =
    ap (λ text. codes "{\"accepted\":" ++ (decimal accepted ++ (codes ",\"ok\":\"merge\",\"parts\":[" ++ (text ++ 125 ∷ []))))
    (items_text-values_of_parts parts)
    ∙ ap (λ text. codes "{\"accepted\":" ++ (decimal accepted ++ (codes ",\"ok\":\"merge\",\"parts\":[" ++ text)))
    (append_assoc (parts_text parts) (93 ∷ []) (125 ∷ []))

-- what is printed for the answers
pub ruleset printing = (has_float-value_of_reply, compact_text-value_of_reply, has_float-value_of_refusal, compact_text-value_of_refusal)
