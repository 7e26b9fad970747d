-- The JSON values whose text the office answers (RFC 8259), before they are printed.
use Rattle.std.specs.Prelude.{ℕ, List, map, codes}
use Rattle.serde_json.specs.Data.{Data, Items, null, boolean, number, unsigned, string, array, object, member, no_members, put}
use Rattle.serde_json.specs.View.{items_of}
use Rattle.deb_version.specs.Faults.{fault_name as name_of_fault}
use Rattle.wb_states.specs.State.{name_of}
use Rattle.wb_states.specs.StoreFaults.{name_of_store_fault}
use Rattle.wb_states.specs.Refusals.{code_of_refusal, name_of_refusal, name_of_list, name_of_field, name_of_listing_fault}
use Rattle.wb_states.specs.declared.refusal.ListField.{ListField}
use Rattle.wb_states.specs.declared.refusal.ListKind.{ListKind}
use Rattle.wb_states.specs.declared.refusal.ListingFault.{ListingFault}
use Rattle.wb_states.specs.declared.refusal.ListingFault.TheVariants.{Control, Missing, BadValue}
use Rattle.wb_states.specs.declared.refusal.Refusal.{Refusal}
use Rattle.wb_states.specs.declared.refusal.Refusal.TheVariants.{OtherVersion, WrongState, AfterAhead, BadVersion, BadRelations, BadListing, BadReport, Store}
use Rattle.wb_states.specs.declared.reply.Assignment.{Assignment}
use Rattle.wb_states.specs.declared.reply.MergeCounts.{MergeCounts}
use Rattle.wb_states.specs.declared.reply.PartEnd.{PartEnd}
use Rattle.wb_states.specs.declared.reply.PartEnd.TheVariants.{Merged as part_Merged, Refused}
use Rattle.wb_states.specs.declared.reply.PartReply.{PartReply}
use Rattle.wb_states.specs.declared.reply.Reply.{Reply}
use Rattle.wb_states.specs.declared.reply.Reply.TheVariants.{Done, Job, Again, Reported, Merged}
use Rattle.wb_api.specs.Encoding.{name_of_relations_fault}

-- the object of an assignment, with this value of `ok`
abbrev pub value_of_assignment : List ℕ → ℕ → Assignment → Data
value_of_assignment ok accepted assignment = object
    (member (codes "accepted") (number (unsigned accepted))
    (member (codes "arch") (string assignment.arch)
    (member (codes "build") (string assignment.build)
    (member (codes "message") (string assignment.message)
    (member (codes "number") (number (unsigned assignment.number))
    (member (codes "ok") (string ok)
    (member (codes "source") (string assignment.source)
    (member (codes "take") (number (unsigned assignment.take))
    (member (codes "version") (string assignment.version) no_members)))))))))

-- the object of the refusal of a list, for this fault of a field in a paragraph
abbrev pub value_of_field_fault : ListKind → ℕ → List ℕ → ListField → Data
value_of_field_fault which paragraph fault field = object
    (member (codes "code") (number (unsigned 15))
    (member (codes "fault") (string fault)
    (member (codes "field") (string (name_of_field field))
    (member (codes "paragraph") (number (unsigned paragraph))
    (member (codes "refused") (string (codes "BadListing"))
    (member (codes "which") (string (name_of_list which)) no_members))))))

-- the object of the refusal of a list, for this fault in a paragraph
abbrev pub value_of_listing_fault : ListKind → ℕ → ListingFault → Data
value_of_listing_fault which paragraph (Control kind) = object
    (member (codes "code") (number (unsigned 15))
    (member (codes "fault") (string (name_of_listing_fault (Control kind)))
    (member (codes "paragraph") (number (unsigned paragraph))
    (member (codes "refused") (string (codes "BadListing"))
    (member (codes "which") (string (name_of_list which)) no_members)))))
value_of_listing_fault which paragraph (Missing field) = value_of_field_fault which paragraph (codes "Missing") field
value_of_listing_fault which paragraph (BadValue field) = value_of_field_fault which paragraph (codes "BadValue") field

-- the object of a refusal with one more value, under a key between `code` and `refused`
abbrev pub value_with_member : Refusal → List ℕ → Data → Data
value_with_member refusal key told = object
    (member (codes "code") (number (unsigned (code_of_refusal refusal)))
    (member key told
    (member (codes "refused") (string (name_of_refusal refusal)) no_members)))

-- the object of a refusal that has no more than its number and its name
abbrev pub value_of_plain : Refusal → Data
value_of_plain refusal = object
    (member (codes "code") (number (unsigned (code_of_refusal refusal)))
    (member (codes "refused") (string (name_of_refusal refusal)) no_members))

-- the object of a refusal
abbrev pub value_of_refusal : Refusal → Data
value_of_refusal (OtherVersion have) = value_with_member (OtherVersion have) (codes "have") (string have)
value_of_refusal (WrongState state) = object
    (member (codes "code") (number (unsigned 6))
    (member (codes "refused") (string (codes "WrongState"))
    (member (codes "state") (string (name_of state)) no_members)))
value_of_refusal (AfterAhead handed) = value_with_member (AfterAhead handed) (codes "handed") (number (unsigned handed))
value_of_refusal (BadVersion fault) = value_with_member (BadVersion fault) (codes "fault") (string (name_of_fault fault))
value_of_refusal (BadRelations fault) = value_with_member (BadRelations fault) (codes "fault") (string (name_of_relations_fault fault))
value_of_refusal (BadListing which paragraph fault) = value_of_listing_fault which paragraph fault
value_of_refusal (BadReport line) = value_with_member (BadReport line) (codes "line") (number (unsigned line))
value_of_refusal (Store fault) = object
    (member (codes "code") (number (unsigned 21))
    (member (codes "refused") (string (codes "Store"))
    (member (codes "store") (string (name_of_store_fault fault)) no_members)))
value_of_refusal refusal = value_of_plain refusal

-- an object with this architecture among its members; a value of another kind is left as it is
abbrev pub with_arch : List ℕ → Data → Data
with_arch arch (object members) = object (put (codes "arch") (string arch) members)
with_arch arch (array items) = array items
with_arch arch (string text) = string text
with_arch arch (number of) = number of
with_arch arch (boolean of) = boolean of
with_arch arch null = null

-- the object of what a merge did to the records of an architecture
abbrev pub value_of_counts : List ℕ → MergeCounts → Data
value_of_counts arch counts = object
    (member (codes "added") (number (unsigned counts.added))
    (member (codes "arch") (string arch)
    (member (codes "changed") (number (unsigned counts.changed))
    (member (codes "kept") (number (unsigned counts.kept))
    (member (codes "removed") (number (unsigned counts.removed)) no_members)))))

-- the object of the end of a part on this architecture
abbrev pub value_of_end : List ℕ → PartEnd → Data
value_of_end arch (part_Merged counts) = value_of_counts arch counts
value_of_end arch (Refused refusal) = with_arch arch (value_of_refusal refusal)

-- the object of a part of a merge
abbrev pub value_of_part : PartReply → Data
value_of_part part = value_of_end part.arch part.end

-- the objects of the parts of a merge, in their order
abbrev pub values_of_parts : List PartReply → Items
values_of_parts parts = items_of (map value_of_part parts)

-- the object of a reply to the command of this name
abbrev pub value_of_reply : List ℕ → Reply → Data
value_of_reply name (Done accepted) = object
    (member (codes "accepted") (number (unsigned accepted))
    (member (codes "ok") (string name) no_members))
value_of_reply name (Job accepted assignment) = value_of_assignment name accepted assignment
value_of_reply name (Again accepted assignment) = value_of_assignment (codes "again") accepted assignment
value_of_reply name (Reported accepted changed) = object
    (member (codes "accepted") (number (unsigned accepted))
    (member (codes "changed") (number (unsigned changed))
    (member (codes "ok") (string name) no_members)))
value_of_reply name (Merged accepted parts) = object
    (member (codes "accepted") (number (unsigned accepted))
    (member (codes "ok") (string (codes "merge"))
    (member (codes "parts") (array (values_of_parts parts)) no_members)))
