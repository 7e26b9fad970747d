-- The merges that bodies name: JSON objects (RFC 8259). Further keys are ignored.
use Rattle.std.specs.Prelude.{ℕ, Bool, not, ◌==◌, ◌&&◌, List, [], ◌++◌, codes, if◌then◌else◌, Result}
use Rattle.std.specs.Prelude.{Option, None, Some, option_and_then, option_map}
use Prim.Native.Char.{code}
use Rattle.std.specs.List.{list_all}
use Rattle.serde_json.specs.Data.{Data, Items, no_items, item}
use Rattle.serde_json.specs.Find.{as_array, get}
use Rattle.deb_text.specs.Lists.{begins}
use Rattle.deb_text.specs.Options.{both}
use Rattle.wb_states.specs.Names.{has_length}
use Rattle.wb_lists.specs.declared.names.MergeNames.{MergeNames}
use Rattle.wb_lists.specs.declared.names.PartNames.{PartNames}
use Rattle.wb_streams.specs.declared.fault.Fault.{Fault}
use Rattle.wb_api.specs.declared.merge.PartTexts.{PartTexts}
use Rattle.wb_api.specs.Commands.{json_of, or_bad_body, text_in}
use Rattle.wb_api.specs.Routes.{is_slash}

-- a part of a merge, for this architecture and this Packages list
abbrev pub part : List ℕ → List ℕ → PartNames
part arch packages = record { arch = arch; packages = packages }

-- what stands in a body, as texts
abbrev pub part_of : PartTexts → PartNames
part_of texts = part texts.arch.now texts.packages.now

-- a merge of these parts and this Sources list
abbrev pub merge : List PartNames → List ℕ → MergeNames
merge parts sources = record { sources = sources; parts = parts }

-- a dot
abbrev pub is_dot : ℕ → Bool
is_dot byte = byte == code "."

-- the name of a list: 1 to 255 bytes, none of them a slash, and the first no dot (this project's own)
unfoldable pub is_list_name : List ℕ → Bool
is_list_name text = has_length 1 255 text && (not (begins is_dot text) && list_all (λ byte. not (is_slash byte)) text)

-- a text that is the name of a list
abbrev pub list_name : List ℕ → Option (List ℕ)
list_name text = if is_list_name text then Some text else None

-- the name of a list under a key
abbrev pub list_name_in : List ℕ → Data → Option (List ℕ)
list_name_in key body = option_and_then list_name (text_in key body)

-- a part of a merge: an architecture, and the name of its Packages list
unfoldable pub part_in : Data → Option PartNames
part_in value = option_and_then (λ arch. option_map (λ packages. part arch packages)
    (list_name_in (codes "packages") value)) (text_in (codes "arch") value)

-- the parts that values name, in their order, if each of them names one
abbrev pub all_parts : Items → Option (List PartNames)
all_parts no_items = Some []
all_parts (item value values) = both (part_in value) (all_parts values)

-- one part or more
abbrev pub some_parts : Items → Option (List PartNames)
some_parts no_items = None
some_parts (item value values) = all_parts (item value values)

-- the array under a key
abbrev pub array_in : List ℕ → Data → Option Items
array_in key body = option_and_then as_array (get key body)

-- the parts that a body names
abbrev pub parts_in : Data → Option (List PartNames)
parts_in body = option_and_then some_parts (array_in (codes "parts") body)

-- the merge that a body names: one part or more, and the name of the Sources list
unfoldable pub merge_in : Data → Option MergeNames
merge_in body = option_and_then (λ sources. option_map (λ parts. merge parts sources)
    (parts_in body)) (list_name_in (codes "sources") body)

-- the body of a merge for `amd64`, with these names of its Packages and its Sources list
abbrev pub merge_body : List ℕ → List ℕ → List ℕ
merge_body packages sources = codes "{\"parts\":[{\"arch\":\"amd64\",\"packages\":\"" ++ packages
    ++ codes "\"}],\"sources\":\"" ++ sources ++ codes "\"}"

-- the merge that the bytes of a body name
unfoldable pub merge_of : List ℕ → Result MergeNames Fault
merge_of bytes = or_bad_body (option_and_then merge_in (json_of bytes))
