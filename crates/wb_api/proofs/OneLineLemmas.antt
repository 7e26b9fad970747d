-- No answer has a line feed.
use Rattle.std.proofs.Common.{rules, ◌≡◌, ◌∙◌, ap, ap₂, refl, ℕ, zero, suc, ◌+◌, ◌/◌, ◌%◌, true, false, ◌||◌, ◌==◌, if◌then◌else◌, nat_lt, List, [], ◌∷◌, ◌++◌, codes, decimal, arith}
use Rattle.std.proofs.lemmas.Bool.{ne_eqb}
use Rattle.std.proofs.lemmas.List.Folds.{list_any-append}
use Rattle.std.specs.List.{list_any}
use Rattle.std.specs.Fmt.{digits, digits_onto, digit_glyph}
use Rattle.json.specs.Print.{quoted, escape, escape_byte}
use Rattle.deb_control.specs.Faults.{fault_name}
use Rattle.deb_text.specs.Lines.{is_line_feed, IsOneLine}
use Rattle.deb_version.specs.Faults.{fault_name as name_of_fault}
use Rattle.wb_states.specs.Refusals.{name_of_list, name_of_field}
use Rattle.wb_states.specs.State.{name_of}
use Rattle.wb_states.specs.StoreFaults.{name_of_store_fault}
use Rattle.wb_states.specs.declared.refusal.ListingFault.TheVariants.{Control, Missing, BadValue}
use Rattle.wb_states.specs.declared.refusal.Refusal.{Refusal}
use Rattle.wb_states.specs.declared.refusal.Refusal.TheVariants.{UnknownArch, UnknownBuilder, WrongArch, UnknownSource, OtherVersion, WrongState, QueueEmpty, NotHeld, AfterAhead, AlreadyThere, BadName, BadVersion, BadRelations, BadNumber, BadListing, BadReport, TextTooLong, Spent, RepeatedArch, StillHeld, Closed, Store, Memory}
use Rattle.wb_states.specs.declared.reply.PartEnd.{PartEnd}
use Rattle.wb_states.specs.declared.reply.PartEnd.TheVariants.{Merged as part_Merged, Refused}
use Rattle.wb_states.specs.declared.reply.PartReply.{PartReply}
use Rattle.wb_states.specs.declared.reply.Reply.{Reply}
use Rattle.wb_states.specs.declared.reply.Reply.TheVariants.{Done, Job, Again, Reported, Merged}
use Rattle.wb_states.specs.declared.reply.Assignment.{Assignment}
use Rattle.wb_api.specs.Encoding.{name_of_relations_fault, reply_text, assignment_text, refusal_members, refusal_text, end_text, part_text, parts_text}
use Rattle.deb_text.proofs.ListLemmas.{IsOneLine-append}

-- what stands behind a text of one line
pub behind : (xs ys : List ℕ) → IsOneLine xs → list_any is_line_feed (xs ++ ys) ≡ list_any is_line_feed ys
behind xs ys h = list_any-append is_line_feed xs ys ∙ ap (λ a. a || list_any is_line_feed ys) h

-- a digit of a number
digit-one : (d : ℕ) → (digit_glyph false d == 10) ≡ false
digit-one d = elim (nat_lt d 10) as (λ b. ((if b then 48 + d else 87 + d) == 10) ≡ false) [
  | true ↦ ne_eqb (48 + d) 10 (λ h. omega (arith, h))
  | false ↦ ne_eqb (87 + d) 10 (λ h. omega (arith, h))
]

-- the digits of a number
digits_onto-one : (k n : ℕ) (text : List ℕ) → IsOneLine text → IsOneLine (digits_onto k 10 false n text)
digits_onto-one zero n text h = h
digits_onto-one (suc k) n text h =
    let more : IsOneLine (digit_glyph false (n % 10) ∷ text) = ap₂ (λ a b. a || b) (digit-one (n % 10)) h in
    elim (n / 10 == 0) as (λ b. IsOneLine (if b then digit_glyph false (n % 10) ∷ text else digits_onto k 10 false (n / 10) (digit_glyph false (n % 10) ∷ text))) [
      | true ↦ more
      | false ↦ digits_onto-one k (n / 10) (digit_glyph false (n % 10) ∷ text) more
    ]

pub decimal-one : (n : ℕ) → IsOneLine (decimal n)
unfolding digits
decimal-one n = digits_onto-one 64 n [] refl

-- a byte that is written as itself, or behind a backslash
escape_byte-one : (x : ℕ) → IsOneLine (escape_byte x)
unfolding escape_byte
escape_byte-one x = search rules

escape-one : (text : List ℕ) → IsOneLine (escape text)
escape-one [] = refl
escape-one (x ∷ text) = IsOneLine-append (escape_byte x) (escape text) (escape_byte-one x) (escape-one text)

-- a text between quotation marks
pub quoted-one : (text : List ℕ) → IsOneLine (quoted text)
quoted-one text = IsOneLine-append (escape text) (34 ∷ []) (escape-one text) refl

assignment_text-one : (name : List ℕ) (accepted : ℕ) (given : Assignment) → IsOneLine (assignment_text name accepted given)
unfolding assignment_text
assignment_text-one name accepted given =
    behind (decimal accepted) _ (decimal-one accepted) ∙ behind (quoted given.arch) _ (quoted-one given.arch)
    ∙ behind (quoted given.build) _ (quoted-one given.build) ∙ behind (quoted given.message) _ (quoted-one given.message)
    ∙ behind (decimal given.number) _ (decimal-one given.number) ∙ behind (quoted name) _ (quoted-one name)
    ∙ behind (quoted given.source) _ (quoted-one given.source) ∙ behind (decimal given.take) _ (decimal-one given.take)
    ∙ behind (quoted given.version) _ (quoted-one given.version)

members-one : (refusal : Refusal) → IsOneLine (refusal_members refusal)
unfolding digits refusal_members escape_byte
members-one (OtherVersion have) = behind (quoted have) _ (quoted-one have)
members-one (WrongState state) = behind (quoted (name_of state)) _ (quoted-one (name_of state))
members-one (AfterAhead handed) = behind (decimal handed) _ (decimal-one handed)
members-one (BadVersion fault) = behind (quoted (name_of_fault fault)) _ (quoted-one (name_of_fault fault))
members-one (BadRelations fault) = behind (quoted (name_of_relations_fault fault)) _ (quoted-one (name_of_relations_fault fault))
members-one (BadListing which paragraph (Control kind)) =
    behind (quoted (fault_name kind)) _ (quoted-one (fault_name kind)) ∙ behind (decimal paragraph) _ (decimal-one paragraph)
    ∙ behind (quoted (name_of_list which)) _ (quoted-one (name_of_list which))
members-one (BadListing which paragraph (Missing field)) =
    behind (quoted (name_of_field field)) _ (quoted-one (name_of_field field)) ∙ behind (decimal paragraph) _ (decimal-one paragraph)
    ∙ behind (quoted (name_of_list which)) _ (quoted-one (name_of_list which))
members-one (BadListing which paragraph (BadValue field)) =
    behind (quoted (name_of_field field)) _ (quoted-one (name_of_field field)) ∙ behind (decimal paragraph) _ (decimal-one paragraph)
    ∙ behind (quoted (name_of_list which)) _ (quoted-one (name_of_list which))
members-one (BadReport line) = behind (decimal line) _ (decimal-one line)
members-one UnknownArch = refl
members-one UnknownBuilder = refl
members-one WrongArch = refl
members-one UnknownSource = refl
members-one QueueEmpty = refl
members-one NotHeld = refl
members-one AlreadyThere = refl
members-one BadName = refl
members-one BadNumber = refl
members-one TextTooLong = refl
members-one Spent = refl
members-one RepeatedArch = refl
members-one StillHeld = refl
members-one Closed = refl
members-one (Store fault) = behind (quoted (name_of_store_fault fault)) _ (quoted-one (name_of_store_fault fault))
members-one Memory = refl

pub refusal_text-one : (refusal : Refusal) → IsOneLine (refusal_text refusal)
unfolding refusal_text
refusal_text-one refusal = members-one refusal

end_text-one : (arch : List ℕ) (end : PartEnd) → IsOneLine (end_text arch end)
unfolding end_text
end_text-one arch (part_Merged counts) =
    behind (decimal counts.added) _ (decimal-one counts.added) ∙ behind (quoted arch) _ (quoted-one arch)
    ∙ behind (decimal counts.changed) _ (decimal-one counts.changed) ∙ behind (decimal counts.kept) _ (decimal-one counts.kept)
    ∙ behind (decimal counts.removed) _ (decimal-one counts.removed)
end_text-one arch (Refused refusal) = behind (quoted arch) _ (quoted-one arch) ∙ members-one refusal

parts_text-one : (parts : List PartReply) → IsOneLine (parts_text parts)
parts_text-one [] = refl
parts_text-one (part ∷ []) = end_text-one part.arch part.end
parts_text-one (part ∷ next ∷ parts) =
    behind (part_text part) _ (end_text-one part.arch part.end) ∙ parts_text-one (next ∷ parts)

pub reply_text-one : (name : List ℕ) (reply : Reply) → IsOneLine (reply_text name reply)
unfolding reply_text
reply_text-one name (Done accepted) = behind (decimal accepted) _ (decimal-one accepted) ∙ behind (quoted name) _ (quoted-one name)
reply_text-one name (Job accepted given) = assignment_text-one name accepted given
reply_text-one name (Again accepted given) = assignment_text-one (codes "again") accepted given
reply_text-one name (Reported accepted changed) =
    behind (decimal accepted) _ (decimal-one accepted) ∙ behind (decimal changed) _ (decimal-one changed)
    ∙ behind (quoted name) _ (quoted-one name)
reply_text-one name (Merged accepted parts) =
    behind (decimal accepted) _ (decimal-one accepted) ∙ behind (parts_text parts) _ (parts_text-one parts)
