-- Who may ask an office for what, by the rights of a line of its key file.
use Rattle.std.specs.Prelude.{ℕ, Bool, true, false, not, ◌&&◌, List, [], ◌∷◌, bytes_eq, Option, Some, None}
use Rattle.std.specs.Prelude.{if◌then◌else◌}
use Rattle.std.specs.List.{list_any}
use Rattle.std.specs.Option.{option_and_then}
use Rattle.deb_text.specs.Lists.{is_nonempty}
use Rattle.wb_states.specs.declared.command.Command.{Command}
use Rattle.wb_states.specs.declared.command.Command.TheVariants as of
use Rattle.wb_states.specs.declared.query.Query.{Query}
use Rattle.wb_states.specs.Holds.{holder_of}
use Rattle.wb_states.specs.Machine.{Machine}
use Rattle.wb_keys.specs.declared.right.Kind.{Kind}
use Rattle.wb_keys.specs.declared.right.Kind.TheVariants as kind
use Rattle.wb_keys.specs.declared.right.Right.{Right}
use Rattle.wb_keys.specs.declared.right.Right.TheVariants.{Read, Build, Port, Operate}
use Rattle.wb_keys.specs.declared.right.Rights.{Rights}
use Rattle.wb_keys.specs.declared.right.Rights.TheVariants as rights

-- ---- the rights of a request

-- the rights by what a program refers to: those to everything are `operate` alone
abbrev pub rights_named : Rights → List Right
rights_named rights.Everything = Operate ∷ []
rights_named (rights.These listed) = listed.now

-- ---- what a command needs

-- what a command needs, where its line has not the right to everything
pub data Need : Type 0 where
  -- the right to everything, and no other
  Everything : Need
  -- the right of a builder: the command takes a source package in its name
  InNameOf : List ℕ → Need
  -- the right of the builder that holds this take number, or of any builder if nobody holds it
  UnderTake : ℕ → Need
  -- the right to move the source packages of an architecture
  OnArch : List ℕ → Need

-- what each command needs
abbrev pub need_of : Command → Need
need_of (of.AddArch fields) = Everything
need_of (of.AddBuilder fields) = Everything
need_of (of.RemoveArch fields) = Everything
need_of (of.RemoveBuilder fields) = Everything
need_of (of.Enter fields) = Everything
need_of (of.Next fields) = InNameOf fields.builder
need_of (of.Take fields) = InNameOf fields.builder
need_of (of.Built fields) = UnderTake fields.take_number
need_of (of.Uploaded fields) = UnderTake fields.take_number
need_of (of.Waits fields) = UnderTake fields.take_number
need_of (of.PutBack fields) = UnderTake fields.take_number
need_of (of.Attempted fields) = UnderTake fields.take_number
need_of (of.GiveBack fields) = OnArch fields.arch
need_of (of.DepWait fields) = OnArch fields.arch
need_of (of.Fail fields) = OnArch fields.arch
need_of (of.NotForUs fields) = OnArch fields.arch
need_of (of.Rebuild fields) = OnArch fields.arch
need_of (of.BuildPriority fields) = OnArch fields.arch
need_of (of.Forget fields) = Everything
need_of (of.Merge fields) = Everything
need_of (of.Report fields) = OnArch fields.arch

-- ---- what a right allows

-- nobody holds a take number, or this builder does
abbrev pub is_own : List ℕ → Option (List ℕ) → Bool
is_own builder None = true
is_own builder (Some holder) = bytes_eq holder builder

-- `build=BUILDER`: to take source packages in the name of this builder, and to report under the take numbers that it
-- holds or nobody holds
abbrev pub builder_meets : List ℕ → Option (List ℕ) → Need → Bool
builder_meets builder holder Everything = false
builder_meets builder holder (InNameOf name) = bytes_eq name builder
builder_meets builder holder (UnderTake take_number) = is_own builder holder
builder_meets builder holder (OnArch name) = false

-- `port=ARCH`: to move the source packages of this architecture
abbrev pub porter_meets : List ℕ → Need → Bool
porter_meets arch Everything = false
porter_meets arch (InNameOf name) = false
porter_meets arch (UnderTake take_number) = false
porter_meets arch (OnArch name) = bytes_eq name arch

-- a right meets what a command needs, where this builder, or nobody, holds the take number that the command reports
-- under
abbrev pub meets : Right → Option (List ℕ) → Need → Bool
meets Read holder need = false
meets (Build builder) holder need = builder_meets builder holder need
meets (Port arch) holder need = porter_meets arch need
meets Operate holder need = true

-- a line with these rights may give a command, where this builder, or nobody, holds the take number that it reports
-- under
abbrev pub allows : List Right → Option (List ℕ) → Command → Bool
allows rights holder command = list_any (λ right. meets right holder (need_of command)) rights

-- ---- who holds a take number

-- the take number of a need
abbrev pub number_in : Need → Option ℕ
number_in Everything = None
number_in (InNameOf name) = None
number_in (UnderTake take_number) = Some take_number
number_in (OnArch name) = None

-- the take number that a command reports under, if it reports under one
abbrev pub number_of : Command → Option ℕ
number_of command = number_in (need_of command)

-- who holds the take number that a command reports under, or nobody
abbrev pub holder_for : Machine → Command → Option (List ℕ)
holder_for machine command = option_and_then (holder_of machine) (number_of command)

-- ---- whose holder has to be known

-- the right of a builder
abbrev pub is_build : Right → Bool
is_build Read = false
is_build (Build builder) = true
is_build (Port arch) = false
is_build Operate = false

-- the right to everything
abbrev pub is_operate : Right → Bool
is_operate Read = false
is_operate (Build builder) = false
is_operate (Port arch) = false
is_operate Operate = true

-- for these rights it counts who holds a take number: one is that of a builder, and none is that to everything
abbrev pub asks_holder : List Right → Bool
asks_holder rights = list_any is_build rights && not (list_any is_operate rights)

-- the take number whose holder has to be known before a line with these rights may give a command or not: the one that
-- the command reports under, if it counts for the rights who holds it
abbrev pub holder_needed : List Right → Command → Option ℕ
holder_needed rights command = if asks_holder rights then number_of command else None

-- who holds the take number whose holder has to be known, or nobody
abbrev pub needed_holder : List Right → Machine → Command → Option (List ℕ)
needed_holder rights machine command = option_and_then (holder_of machine) (holder_needed rights command)

-- ---- what may be asked of an office

-- a line with these rights may give this command to the office
abbrev pub may_command : List Right → Machine → Command → Bool
may_command rights machine command = allows rights (holder_for machine command) command

-- a line with a right may ask every query
abbrev pub may_query : List Right → Query → Bool
may_query rights query = is_nonempty rights

-- ---- what may be asked, as far as the path of a request says

-- the kind of a command by what it needs
abbrev pub kind_for : Need → Kind
kind_for Everything = kind.Operator
kind_for (InNameOf name) = kind.Builder
kind_for (UnderTake take_number) = kind.Builder
kind_for (OnArch name) = kind.Porter

-- the kind of a command
abbrev pub kind_of : Command → Kind
kind_of command = kind_for (need_of command)

-- a builder may ask for commands of builders
abbrev pub builder_asks : Kind → Bool
builder_asks kind.Query = true
builder_asks kind.Builder = true
builder_asks kind.Porter = false
builder_asks kind.Operator = false

-- a porter may ask for commands for an architecture
abbrev pub porter_asks : Kind → Bool
porter_asks kind.Query = true
porter_asks kind.Builder = false
porter_asks kind.Porter = true
porter_asks kind.Operator = false

-- who may only read may ask queries
abbrev pub reader_asks : Kind → Bool
reader_asks kind.Query = true
reader_asks kind.Builder = false
reader_asks kind.Porter = false
reader_asks kind.Operator = false

-- a right is for requests of a kind
abbrev pub is_for : Kind → Right → Bool
is_for asked Read = reader_asks asked
is_for asked (Build builder) = builder_asks asked
is_for asked (Port arch) = porter_asks asked
is_for asked Operate = true

-- a line with these rights may ask for something of this kind
abbrev pub may_ask_for : List Right → Kind → Bool
may_ask_for rights asked = list_any (is_for asked) rights
