-- A command is refused by its texts or by what the office has: never because of its store, nor for want of memory.
use Rattle.std.proofs.Common.{◌≡◌, ℕ, ◌+◌, Bool, true, false, nat_le, nat_lt, length, List, [], ◌∷◌, Option, Some, None, IfSome, Result, Ok, Err, IfErr, refl, option_map, option_and_then, if◌then◌else◌}
use Rattle.std.specs.List.{AllByRecursion, list_any}
use Rattle.std.specs.Option.{option_or}
use Rattle.std.specs.Ordering.{is_eq}
use Rattle.std.specs.Result.{result_err}
use Rattle.std.specs.FinMap as map
use Rattle.deb_text.specs.Options.{first_some}
use Rattle.deb_text.specs.Text.{is_empty_text}
use Rattle.deb_relations.specs.declared.fault.RelationFault.TheVariants.{TooLong}
use Rattle.deb_version.specs.Order.{version_cmp}
use Rattle.deb_relations.specs.declared.arch.ArchWords.{ArchWords}
use Rattle.wb_states.specs.declared.arch.OsCpu.{OsCpu}
use Rattle.wb_states.specs.declared.command.Command.{Command}
use Rattle.wb_states.specs.declared.command.Part.{Part}
use Rattle.wb_states.specs.declared.moves.Move.{Move}
use Rattle.wb_states.specs.declared.moves.Move.TheVariants as to
use Rattle.wb_states.specs.declared.record.Record.{Record}
use Rattle.wb_states.specs.declared.refusal.ListKind.{ListKind}
use Rattle.wb_states.specs.declared.refusal.ListingFault.{ListingFault}
use Rattle.wb_states.specs.declared.refusal.ListKind.TheVariants.{Packages, Sources}
use Rattle.wb_states.specs.declared.refusal.Refusal.{Refusal}
use Rattle.wb_states.specs.declared.refusal.Refusal.TheVariants.{AfterAhead, AlreadyThere, BadName, BadNumber}
use Rattle.wb_states.specs.declared.refusal.Refusal.TheVariants.{BadRelations, BadReport, BadVersion, NotHeld}
use Rattle.wb_states.specs.declared.refusal.Refusal.TheVariants.{OtherVersion, QueueEmpty, RepeatedArch, Spent}
use Rattle.wb_states.specs.declared.refusal.Refusal.TheVariants.{StillHeld, TextTooLong, UnknownArch, UnknownBuilder}
use Rattle.wb_states.specs.declared.refusal.Refusal.TheVariants.{UnknownSource, WrongArch, WrongState}
use Rattle.wb_states.specs.Machine.{Machine}
use Rattle.wb_states.specs.Limits.{relations_limit}
use Rattle.wb_states.specs.Moves.{may_go, move_refusal, value_refusal, waits_for, waits_refusal}
use Rattle.wb_states.specs.Queue.{Entry}
use Rattle.wb_states.specs.Refusals.{IsOfMachine, is_of_store}
use Rattle.wb_merge.specs.Listing.{listing_in, listing_of}
use Rattle.wb_merge.specs.Rows.{BinaryParagraph, SourceParagraph, binary_paragraph, binary_rows, onto_rows, refused_at}
use Rattle.wb_merge.specs.Rows.{rows_behind, source_paragraph, source_rows}
use Rattle.deb_control.specs.Lines.{lines_of, paragraphs_in}
use Rattle.wb_merge.specs.Report.{first_bad_line, lines_in}
use Rattle.wb_step.specs.Arguments.{Import, Lists, Lines, arguments_of}
use Rattle.wb_step.specs.Checks.{differing, first_refusal, has_bad_name, has_bad_number, has_empty_queue, has_long_text}
use Rattle.wb_step.specs.Checks.{is_ahead, is_for_other_archs, is_not_held, is_spent, is_still_held, is_there_already}
use Rattle.wb_step.specs.Checks.{lacks_arch, lacks_builder, lacks_source, lines_refusal, lists_refusal}
use Rattle.wb_step.specs.Checks.{other_version_at, relation_fault, repeats_arch, source_named, state_checks}
use Rattle.wb_step.specs.Checks.{state_refusal, text_checks, text_refusal, version_fault, when}
use Rattle.wb_step.specs.Parts.{listing_for, part_listing, parts_refusal, is_good}
use Rattle.wb_step.specs.Step.{outcome, step}
use Rattle.wb_step.specs.Targets.{again_of, transition_of}

-- a refusal that neither the store nor memory gives
abbrev pub IsOfState : Refusal → Type 0
IsOfState refusal = (is_of_store refusal ≡ false) × IsOfMachine refusal

-- a refusal that was found, if one was, is such a refusal
abbrev OfState : Option Refusal → Type 0
OfState found = IfSome found IsOfState

-- and so is the one that a reading answers
abbrev Reads : {X : Type 0} → Result X Refusal → Type 0
Reads result = IfErr result IsOfState

or-state : (a b : Option Refusal) → OfState a → OfState b → OfState (option_or a b)
or-state None b one two = two
or-state (Some refusal) b one two = one

all-state : (checks : List (Option Refusal)) → AllByRecursion OfState checks → OfState (first_some checks)
all-state [] all = tt
all-state (check ∷ checks) all = or-state check (first_some checks) all.0 (all-state checks all.1)

when-state : (b : Bool) (refusal : Refusal) → IsOfState refusal → OfState (when b refusal)
when-state true refusal is = is
when-state false refusal is = tt

map-state : {X : Type 0} (f : X → Refusal) → ((x : X) → IsOfState (f x)) → (found : Option X) → OfState (option_map f found)
map-state f is None = tt
map-state f is (Some x) = is x

then-state : {X : Type 0} (f : X → Option Refusal) → ((x : X) → OfState (f x)) → (found : Option X) → OfState (option_and_then f found)
then-state f is None = tt
then-state f is (Some x) = is x

if-state : (b : Bool) (one other : Option Refusal) → OfState one → OfState other → OfState (if b then one else other)
if-state true one other is_one is_other = is_one
if-state false one other is_one is_other = is_other

-- ---- the texts

lines-state : (imported : Import) → OfState (lines_refusal imported)
lines-state (Lists merge) = tt
lines-state (Lines report) = map-state BadReport (λ _. (refl, λ e. cc)) (first_bad_line [] (lines_in report.text))

text-state : (command : Command) → OfState (text_refusal command)
unfolding text_refusal
text-state command = all-state (text_checks command) (
  when-state (has_bad_name command) BadName (refl, λ e. cc),
  (
    map-state BadVersion (λ _. (refl, λ e. cc)) (version_fault command),
    (
      map-state (λ fault. BadRelations (Some fault)) (λ _. (refl, λ e. cc)) (relation_fault command),
      (
        when-state (has_bad_number command) BadNumber (refl, λ e. cc),
        (
          when-state (has_long_text command) TextTooLong (refl, λ e. cc),
          (
            then-state lines_refusal lines-state (arguments_of command).imports,
            (
              when-state (repeats_arch command) RepeatedArch (refl, λ e. cc),
              tt,
            ),
          ),
        ),
      ),
    ),
  ),
)

-- ---- the lists of a merge

refused-state : {X : Type 0} (which : ListKind) (number : ℕ) (row : Result X ListingFault) → Reads (refused_at which number row)
refused-state which number (Ok row) = tt
refused-state which number (Err fault) = (refl, λ e. cc)

onto-state : {X : Type 0} (row : Result X Refusal) (rows : Result (List X) Refusal) → Reads row → Reads rows → Reads (onto_rows row rows)
onto-state (Err refusal) rows one others = one
onto-state (Ok row) (Err refusal) one others = others
onto-state (Ok row) (Ok rows) one others = tt

rows-state : {X : Type 0} (row_of : List (List ℕ) → Result X ListingFault) (which : ListKind) (passed : ℕ) (paragraphs : List (List (List ℕ))) → Reads (rows_behind row_of which passed paragraphs)
rows-state row_of which passed [] = tt
rows-state row_of which passed (lines ∷ later) =
    onto-state (refused_at which (passed + 1) (row_of lines)) (rows_behind row_of which (passed + 1) later) (refused-state which (passed + 1) (row_of lines)) (rows-state row_of which (passed + 1) later)

sources-state : (text : List ℕ) → Reads (source_rows text)
unfolding source_rows
sources-state text = rows-state source_paragraph Sources 0 (paragraphs_in (lines_of text))

binaries-state : (text : List ℕ) → Reads (binary_rows text)
unfolding binary_rows
binaries-state text = rows-state binary_paragraph Packages 0 (paragraphs_in (lines_of text))

in-state : (arch : ArchWords) (sources : Result (List SourceParagraph) Refusal) (packages : Result (List BinaryParagraph) Refusal) → Reads sources → Reads packages → Reads (listing_in arch sources packages)
in-state arch (Err refusal) packages one other = one
in-state arch (Ok rows) (Err refusal) one other = other
in-state arch (Ok rows) (Ok others) one other = tt

listing-state : (sources packages : List ℕ) (arch : ArchWords) → Reads (listing_of sources packages arch)
unfolding listing_of
listing-state sources packages arch = in-state arch (source_rows sources) (binary_rows packages) (sources-state sources) (binaries-state packages)

for-state : (sources : List ℕ) (part : Part) (words : Option OsCpu) → Reads (listing_for sources part words)
for-state sources part None = (refl, λ e. cc)
for-state sources part (Some words) = listing-state sources part.packages _

part-state : (machine : Machine) (sources : List ℕ) (part : Part) → Reads (part_listing machine sources part)
unfolding part_listing
part-state machine sources part = for-state sources part (map.get machine.archs part.arch)

err-state : {X : Type 0} (result : Result X Refusal) → Reads result → OfState (result_err result)
err-state (Ok x) is = tt
err-state (Err refusal) is = is

parts-state : (machine : Machine) (sources : List ℕ) (parts : List Part) → OfState (parts_refusal machine sources parts)
parts-state machine sources [] = (refl, λ e. cc)
parts-state machine sources (part ∷ parts) =
    if-state (list_any (is_good machine sources) (part ∷ parts)) None (result_err (part_listing machine sources part)) tt (err-state (part_listing machine sources part) (part-state machine sources part))

lists-state : (machine : Machine) (imported : Import) → OfState (lists_refusal machine imported)
lists-state machine (Lists merge) = parts-state machine merge.sources merge.parts
lists-state machine (Lines report) = tt

-- ---- a move

waits-state : (waits : List ℕ) → OfState (waits_refusal waits)
waits-state waits =
    if-state (is_empty_text waits) (Some (BadRelations None)) (if nat_lt relations_limit (length waits) then Some (BadRelations (Some TooLong)) else None) (refl, λ e. cc)
    (if-state (nat_lt relations_limit (length waits)) (Some (BadRelations (Some TooLong))) None (refl, λ e. cc) tt)

value-state : (move : Move) (current : Record) → OfState (value_refusal move current)
value-state (to.Waits relations arch) current = waits-state (waits_for relations arch)
value-state (to.DepWait relations arch) current = waits-state (waits_for relations arch)
value-state (to.Rebuild number message) current = if-state (nat_le number current.number) (Some BadNumber) None (refl, λ e. cc) tt
value-state (to.Take holder take_number) current = tt
value-state to.Built current = tt
value-state to.Uploaded current = tt
value-state to.PutBack current = tt
value-state (to.Attempted reason) current = tt
value-state to.GiveBack current = tt
value-state (to.Fail note) current = tt
value-state (to.NotForUs note) current = tt

move-state : (move : Move) (current : Record) → OfState (move_refusal move current)
unfolding move_refusal
move-state move current = if-state (may_go move current.state) (value_refusal move current) (Some (WrongState current.state)) (value-state move current) (refl, λ e. cc)

-- ---- what the office has

differing-state : (version : List ℕ) (current : Record) → OfState (differing version current)
differing-state version current = if-state (is_eq (version_cmp version current.version)) None (Some (OtherVersion current.version)) tt (refl, λ e. cc)

state-state : (machine : Machine) (command : Command) → OfState (state_refusal machine command)
unfolding state_refusal
state-state machine command = all-state (state_checks machine command) (
  when-state (lacks_arch machine command) UnknownArch (refl, λ e. cc),
  (
    then-state (lists_refusal machine) (lists-state machine) (arguments_of command).imports,
    (
      when-state (lacks_builder machine command) UnknownBuilder (refl, λ e. cc),
      (
        when-state (is_for_other_archs machine command) WrongArch (refl, λ e. cc),
        (
          when-state (is_ahead machine command) (AfterAhead machine.handed) (refl, λ e. cc),
          (
            when-state (is_not_held machine command) NotHeld (refl, λ e. cc),
            (
              when-state (lacks_source machine command) UnknownSource (refl, λ e. cc),
              (
                then-state (λ version. option_and_then (λ key. other_version_at machine key version) (source_named command)) (λ version. then-state (λ key. other_version_at machine key version) (λ key. then-state (differing version) (differing-state version) (map.get machine.records key)) (source_named command)) (arguments_of command).version,
                (
                  then-state (λ asked. move_refusal asked.1 asked.0.1) (λ asked. move-state asked.1 asked.0.1) (transition_of machine command),
                  (
                    when-state (has_empty_queue machine command) QueueEmpty (refl, λ e. cc),
                    (
                      when-state (is_there_already machine command) AlreadyThere (refl, λ e. cc),
                      (
                        when-state (is_still_held machine command) StillHeld (refl, λ e. cc),
                        (
                          when-state (is_spent machine command) Spent (refl, λ e. cc),
                          tt,
                        ),
                      ),
                    ),
                  ),
                ),
              ),
            ),
          ),
        ),
      ),
    ),
  ),
)

first-state : (machine : Machine) (command : Command) → OfState (first_refusal machine command)
unfolding first_refusal
first-state machine command = or-state (text_refusal command) (state_refusal machine command) (text-state command) (state-state machine command)

outcome-state : (first : Option Refusal) (again : Option Entry) (machine : Machine) (command : Command) → OfState first → IfErr (outcome first again machine command).0 IsOfState
outcome-state (Some refusal) again machine command is = is
outcome-state None (Some entry) machine command is = tt
outcome-state None None machine command is = tt

-- no step refuses a command because of a store, nor for want of memory
pub step-of-state : (machine : Machine) (command : Command) → IfErr (step machine command).0 IsOfState
unfolding step
step-of-state machine command = outcome-state (first_refusal machine command) (again_of machine command) machine command (first-state machine command)
