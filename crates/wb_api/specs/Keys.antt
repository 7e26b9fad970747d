-- The keys of the objects of commands (RFC 8259): one table for the body of a request, which is read by it, and for the
-- line of a journal, which has these and the name of the command.
use Rattle.std.specs.Prelude.{ℕ, List, [], ◌∷◌, ◌++◌, Bool, true, ◌&&◌, is_some, codes}
use Rattle.serde_json.specs.Data.{Data, Members, member, no_members, null, object, put, array, boolean, number, string}
use Rattle.wb_api.specs.Commands.{integer_in, number_in, number_or_none_in, text_in}
use Rattle.wb_api.specs.declared.route.CommandKind.{CommandKind}
use Rattle.wb_api.specs.declared.route.CommandKind.TheVariants.{AddArch, AddBuilder, RemoveArch, RemoveBuilder, Enter}
use Rattle.wb_api.specs.declared.route.CommandKind.TheVariants.{Next, Take, Built, Uploaded, Waits, PutBack, Attempted}
use Rattle.wb_api.specs.declared.route.CommandKind.TheVariants.{GiveBack, DepWait, Fail, NotForUs, Rebuild}
use Rattle.wb_api.specs.declared.route.CommandKind.TheVariants.{BuildPriority, Forget, Report}

-- what a key has: a text, a whole number, a whole number that may be null or missing, or an integer
pub data Shape : Type 0 where
  Text : Shape
  Number : Shape
  NumberOrNull : Shape
  Integer : Shape

-- a key of the object of a command, with what it has
pub record Key : Type 0 where
  pub name : List ℕ
  pub shape : Shape

-- a key that has a text
abbrev pub text : List ℕ → Key
text name = record { name = name; shape = Text }

-- a key that has a whole number
abbrev pub whole : List ℕ → Key
whole name = record { name = name; shape = Number }

-- the keys that name a source package on an architecture, in this version
abbrev pub named : List Key
named = text (codes "arch") ∷ text (codes "source") ∷ text (codes "version") ∷ []

-- the table: the keys of each command, in the order in which they are read
abbrev pub keys_of : CommandKind → List Key
keys_of AddArch = text (codes "name") ∷ text (codes "os") ∷ text (codes "cpu") ∷ []
keys_of AddBuilder = text (codes "name") ∷ text (codes "arch") ∷ []
keys_of RemoveArch = text (codes "name") ∷ []
keys_of RemoveBuilder = text (codes "name") ∷ text (codes "arch") ∷ []
keys_of Enter = named ++ text (codes "priority") ∷ text (codes "section") ∷ []
keys_of Next = text (codes "arch") ∷ text (codes "builder") ∷ record { name = codes "after"; shape = NumberOrNull } ∷ []
keys_of Take = named ++ text (codes "builder") ∷ []
keys_of Built = whole (codes "take") ∷ []
keys_of Uploaded = whole (codes "take") ∷ []
keys_of Waits = whole (codes "take") ∷ text (codes "relations") ∷ []
keys_of PutBack = whole (codes "take") ∷ []
keys_of Attempted = whole (codes "take") ∷ text (codes "reason") ∷ []
keys_of GiveBack = named
keys_of DepWait = named ++ text (codes "relations") ∷ []
keys_of Fail = named ++ text (codes "note") ∷ []
keys_of NotForUs = named ++ text (codes "note") ∷ []
keys_of Rebuild = named ++ whole (codes "number") ∷ text (codes "message") ∷ []
keys_of BuildPriority = named ++ record { name = codes "value"; shape = Integer } ∷ []
keys_of Forget = named
keys_of Report = text (codes "arch") ∷ text (codes "text") ∷ []

-- whether a body has under a key of this name what it has to have
abbrev pub has_shape : Shape → List ℕ → Data → Bool
has_shape Text name body = is_some (text_in name body)
has_shape Number name body = is_some (number_in name body)
has_shape NumberOrNull name body = is_some (number_or_none_in name body)
has_shape Integer name body = is_some (integer_in name body)

-- whether a body has all keys, each with what it has to have
abbrev pub has_keys : List Key → Data → Bool
has_keys [] body = true
has_keys (key ∷ keys) body = has_shape key.shape key.name body && has_keys keys body

-- members with these keys and nothing under them, each at its place
abbrev pub places : List Key → Members
places [] = no_members
places (key ∷ keys) = put key.name null (places keys)

-- the names of members, in their order
abbrev pub names_of_members : Members → List (List ℕ)
names_of_members no_members = []
names_of_members (member name value members) = name ∷ names_of_members members

-- the names of the keys of an object, in their order
abbrev pub names_in : Data → List (List ℕ)
names_in null = []
names_in (boolean b) = []
names_in (number n) = []
names_in (string s) = []
names_in (array items) = []
names_in (object members) = names_of_members members

-- the names of the keys of the line of a command: those of the table, and that of the command, in byte order
abbrev pub names_of_entry : CommandKind → List (List ℕ)
names_of_entry kind = names_of_members (put (codes "command") null (places (keys_of kind)))
