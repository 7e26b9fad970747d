-- The JSON texts of what the office answers (RFC 8259), with their keys in byte order and no space. A text is written
-- here piece by piece, as it stands in the output: `decimal` gives a number's digits, `quoted` a text between quotation
-- marks with JSON's shortest escapes, and `concat` the pieces one after the other.
use Rattle.std.specs.Prelude.{◌≡◌, ℕ, Bool, true, false, List, [], ◌∷◌, ◌++◌, map, Option, None, Some, codes, decimal}
use Prim.Native.Char.{code}
use Rattle.std.specs.List.{concat, join_with_byte}
use Rattle.std.specs.Cow.{cow_str_bytes, IsBorrowedStr}
use Rattle.std.specs.declared.alloc.Global.{Global}
use Rattle.std.specs.declared.borrow.CowStr.{CowStr}
use Rattle.json.specs.Print.{quoted}
use Rattle.deb_version.specs.Faults.{fault_name as name_of_fault}
use Rattle.deb_control.specs.Faults.{fault_name}
use Rattle.deb_relations.specs.Faults.{fault_name as name_of_relation_fault}
use Rattle.deb_relations.specs.declared.fault.RelationFault.{RelationFault}
use Rattle.wb_states.specs.State.{name_of}
use Rattle.wb_states.specs.StoreFaults.{name_of_store_fault}
use Rattle.wb_states.specs.Refusals.{code_of_refusal, name_of_refusal, name_of_list, name_of_field}
use Rattle.wb_states.specs.declared.refusal.ListField.{ListField}
use Rattle.wb_states.specs.declared.refusal.ListKind.{ListKind}
use Rattle.wb_states.specs.declared.refusal.ListingFault.{ListingFault}
use Rattle.wb_states.specs.declared.refusal.ListingFault.TheVariants.{Control, Missing, BadValue}
use Rattle.wb_states.specs.declared.refusal.Refusal.{Refusal}
use Rattle.wb_states.specs.declared.refusal.Refusal.TheVariants.{OtherVersion, WrongState, AfterAhead, BadVersion, BadRelations, BadListing, BadReport, Store}
use Rattle.wb_states.specs.declared.reply.Assignment.{Assignment}
use Rattle.wb_states.specs.declared.reply.PartEnd.{PartEnd}
use Rattle.wb_states.specs.declared.reply.PartEnd.TheVariants.{Merged as part_Merged, Refused}
use Rattle.wb_states.specs.declared.reply.PartReply.{PartReply}
use Rattle.wb_states.specs.declared.reply.Reply.{Reply}
use Rattle.wb_states.specs.declared.reply.Reply.TheVariants.{Done, Job, Again, Reported, Merged}

-- the text of an assignment, with this value of `ok`
unfoldable pub assignment_text : List ℕ → ℕ → Assignment → List ℕ
assignment_text ok accepted assignment = concat
    (codes "{\"accepted\":" ∷ decimal accepted ∷
    codes ",\"arch\":" ∷ quoted assignment.arch ∷
    codes ",\"build\":" ∷ quoted assignment.build ∷
    codes ",\"message\":" ∷ quoted assignment.message ∷
    codes ",\"number\":" ∷ decimal assignment.number ∷
    codes ",\"ok\":" ∷ quoted ok ∷
    codes ",\"source\":" ∷ quoted assignment.source ∷
    codes ",\"take\":" ∷ decimal assignment.take ∷
    codes ",\"version\":" ∷ quoted assignment.version ∷ codes "}" ∷ [])

-- the name of what is wrong with relations, of which nothing may be left
abbrev pub name_of_relations_fault : Option RelationFault → List ℕ
name_of_relations_fault None = codes "Nothing"
name_of_relations_fault (Some fault) = name_of_relation_fault fault

-- the text of the refusal of a list after its opening brace, for this fault of a field in a paragraph
abbrev pub field_fault_members : ListKind → ℕ → List ℕ → ListField → List ℕ
field_fault_members which paragraph fault field = concat
    (codes "\"code\":15,\"fault\":" ∷ quoted fault ∷
    codes ",\"field\":" ∷ quoted (name_of_field field) ∷
    codes ",\"paragraph\":" ∷ decimal paragraph ∷
    codes ",\"refused\":\"BadListing\",\"which\":" ∷ quoted (name_of_list which) ∷ codes "}" ∷ [])

-- the text of the refusal of a list after its opening brace, for this fault in a paragraph
abbrev pub listing_fault_members : ListKind → ℕ → ListingFault → List ℕ
listing_fault_members which paragraph (Control kind) = concat
    (codes "\"code\":15,\"fault\":" ∷ quoted (fault_name kind) ∷
    codes ",\"paragraph\":" ∷ decimal paragraph ∷
    codes ",\"refused\":\"BadListing\",\"which\":" ∷ quoted (name_of_list which) ∷ codes "}" ∷ [])
listing_fault_members which paragraph (Missing field) = field_fault_members which paragraph (codes "Missing") field
listing_fault_members which paragraph (BadValue field) = field_fault_members which paragraph (codes "BadValue") field

-- the text of a refusal after its opening brace: its number, its name, and what else some have
unfoldable pub refusal_members : Refusal → List ℕ
refusal_members (OtherVersion have) = concat (codes "\"code\":5,\"have\":" ∷ quoted have ∷ codes ",\"refused\":\"OtherVersion\"}" ∷ [])
refusal_members (WrongState state) = concat (codes "\"code\":6,\"refused\":\"WrongState\",\"state\":" ∷ quoted (name_of state) ∷ codes "}" ∷ [])
refusal_members (AfterAhead handed) = concat (codes "\"code\":9,\"handed\":" ∷ decimal handed ∷ codes ",\"refused\":\"AfterAhead\"}" ∷ [])
refusal_members (BadVersion fault) = concat (codes "\"code\":12,\"fault\":" ∷ quoted (name_of_fault fault) ∷ codes ",\"refused\":\"BadVersion\"}" ∷ [])
refusal_members (BadRelations fault) =
    concat (codes "\"code\":13,\"fault\":" ∷ quoted (name_of_relations_fault fault) ∷ codes ",\"refused\":\"BadRelations\"}" ∷ [])
refusal_members (BadListing which paragraph fault) = listing_fault_members which paragraph fault
refusal_members (BadReport line) = concat (codes "\"code\":16,\"line\":" ∷ decimal line ∷ codes ",\"refused\":\"BadReport\"}" ∷ [])
refusal_members (Store fault) = concat (codes "\"code\":21,\"refused\":\"Store\",\"store\":" ∷ quoted (name_of_store_fault fault) ∷ codes "}" ∷ [])
refusal_members refusal = concat
    (codes "\"code\":" ∷ decimal (code_of_refusal refusal) ∷
    codes ",\"refused\":" ∷ quoted (name_of_refusal refusal) ∷ codes "}" ∷ [])

-- the text of a refusal
unfoldable pub refusal_text : Refusal → List ℕ
refusal_text refusal = codes "{" ++ refusal_members refusal

-- the text of the end of a part on this architecture: what the merge did to its records, or its refusal
unfoldable pub end_text : List ℕ → PartEnd → List ℕ
end_text arch (part_Merged counts) = concat
    (codes "{\"added\":" ∷ decimal counts.added ∷
    codes ",\"arch\":" ∷ quoted arch ∷
    codes ",\"changed\":" ∷ decimal counts.changed ∷
    codes ",\"kept\":" ∷ decimal counts.kept ∷
    codes ",\"removed\":" ∷ decimal counts.removed ∷ codes "}" ∷ [])
end_text arch (Refused refusal) = codes "{\"arch\":" ++ (quoted arch ++ (codes "," ++ refusal_members refusal))

-- the text of a part of a merge
abbrev pub part_text : PartReply → List ℕ
part_text part = end_text part.arch part.end

-- the texts of the parts of a merge, with a comma between each two
abbrev pub parts_text : List PartReply → List ℕ
parts_text parts = join_with_byte (code ",") (map part_text parts)

-- the text of a reply to the command of this name, which is the value of `ok` unless the reply repeats what the builder
-- has
unfoldable pub reply_text : List ℕ → Reply → List ℕ
reply_text name (Done accepted) = concat
    (codes "{\"accepted\":" ∷ decimal accepted ∷
    codes ",\"ok\":" ∷ quoted name ∷ codes "}" ∷ [])
reply_text name (Job accepted assignment) = assignment_text name accepted assignment
reply_text name (Again accepted assignment) = assignment_text (codes "again") accepted assignment
reply_text name (Reported accepted changed) = concat
    (codes "{\"accepted\":" ∷ decimal accepted ∷
    codes ",\"changed\":" ∷ decimal changed ∷
    codes ",\"ok\":" ∷ quoted name ∷ codes "}" ∷ [])
reply_text name (Merged accepted parts) = concat
    (codes "{\"accepted\":" ∷ decimal accepted ∷
    codes ",\"ok\":\"merge\",\"parts\":[" ∷ parts_text parts ∷ codes "]}" ∷ [])

-- the text of the refusal `Memory`
abbrev pub memory_text : List ℕ
memory_text = codes "{\"code\":20,\"refused\":\"Memory\"}"

-- whether a refusal has no more than its number and its name, so that its text is a constant
abbrev pub is_plain : Refusal → Bool
is_plain (OtherVersion have) = false
is_plain (WrongState state) = false
is_plain (AfterAhead handed) = false
is_plain (BadVersion fault) = false
is_plain (BadRelations fault) = false
is_plain (BadListing which paragraph fault) = false
is_plain (BadReport line) = false
is_plain (Store fault) = false
is_plain refusal = true

-- the text of the refusal `Memory` as a borrowed constant, which takes no memory
abbrev pub IsMemoryText : CowStr Global → Type 0
IsMemoryText text = IsBorrowedStr text × (cow_str_bytes text ≡ memory_text)

-- the text in answer to a line that holds no command
abbrev pub line_fault_text : List ℕ
line_fault_text = codes "{\"fault\":\"line\"}"

-- the text in answer to a line that names a file which cannot be read
abbrev pub file_fault_text : List ℕ
file_fault_text = codes "{\"fault\":\"file\"}"
