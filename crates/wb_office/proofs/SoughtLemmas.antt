-- What an office is made of that has some architectures, pairs and records, one after another.
use Rattle.std.proofs.Common.{◌≡◌, refl, sym, ap, ◌∙◌, ℕ, List, [], ◌∷◌, ◌++◌, Option, Some, None, map as each, true}
use Rattle.std.proofs.Common.{is_some, option_map}
use Rattle.std.specs.FinMap as map
use Rattle.std.specs.FinSet as set
use Rattle.deb_text.specs.Text.{pair_cmp}
use Rattle.deb_text.proofs.KeyLemmas.{text_cmp_total, text_cmp-same}
use Rattle.wb_states.specs.declared.command.Command.{Command}
use Rattle.wb_states.specs.declared.arch.OsCpu.{OsCpu}
use Rattle.wb_states.specs.declared.subject.Subject.{Subject}
use Rattle.wb_states.specs.Holds.{held_of}
use Rattle.wb_states.specs.Machine.{Machine, Key, empty_office}
use Rattle.wb_states.specs.Queue.{Entry}
use Rattle.wb_states.specs.Subject.{subject_named, subject_of}
use Rattle.wb_step.specs.Named.{entries_named, held_again, holder_pairs, listed, others_named as others_of, part_named}
use Rattle.wb_step.specs.Targets.{record_named, first_named as first_of}
use Rattle.wb_office.specs.declared.named.found.FoundPart.{FoundPart}
use Rattle.wb_office.specs.Sought.{HasFound, entries_found, office_of}
use Rattle.wb_office.specs.Sought.{with_archs, with_entries, with_entry, with_holder, with_pairs}

-- ---- the last one is added first, and then those before it

pub with_archs-push : (machine : Machine) (archs : List (List ℕ × OsCpu)) (arch : List ℕ × OsCpu)
    → with_archs machine (archs ++ arch ∷ []) ≡ with_archs (with_archs machine (arch ∷ [])) archs
with_archs-push machine [] arch = refl
with_archs-push machine (first ∷ archs) arch =
    ap (λ (m : Machine). record m { archs = map.insert m.archs first.0 first.1 }) (with_archs-push machine archs arch)

pub with_pairs-push : (machine : Machine) (pairs : List Key) (pair : Key)
    → with_pairs machine (pairs ++ pair ∷ []) ≡ with_pairs (with_pairs machine (pair ∷ [])) pairs
with_pairs-push machine [] pair = refl
with_pairs-push machine (first ∷ pairs) pair =
    ap (λ (m : Machine). record m { builders = set.insert m.builders first }) (with_pairs-push machine pairs pair)

pub with_entries-push : (machine : Machine) (entries : List Entry) (entry : Entry)
    → with_entries machine (entries ++ entry ∷ []) ≡ with_entries (with_entry machine entry) entries
with_entries-push machine [] entry = refl
with_entries-push machine (first ∷ entries) entry = ap (λ m. with_entry m first) (with_entries-push machine entries entry)

-- a record before others is added after them
pub with_entries-joined : (machine : Machine) (first : Option Entry) (others : List Entry)
    → with_entries machine (listed first ++ others) ≡ with_entries (with_entries machine others) (listed first)
with_entries-joined machine None others = refl
with_entries-joined machine (Some entry) others = refl

-- ---- all of them

with_archs-made : (machine : Machine) (archs : List (List ℕ × OsCpu)) → machine.archs ≡ map.empty
    → with_archs machine archs ≡ record machine { archs = map.from_entries archs }
with_archs-made machine [] none = λ i. record machine { archs = none i }
with_archs-made machine (arch ∷ archs) none =
    ap (λ (m : Machine). record m { archs = map.insert m.archs arch.0 arch.1 }) (with_archs-made machine archs none)

with_pairs-made : (machine : Machine) (pairs : List Key) → machine.builders ≡ set.empty
    → with_pairs machine pairs ≡ record machine { builders = set.from_list pairs }
with_pairs-made machine [] none = λ i. record machine { builders = none i }
with_pairs-made machine (pair ∷ pairs) none =
    ap (λ (m : Machine). record m { builders = set.insert m.builders pair }) (with_pairs-made machine pairs none)

-- the pair of a holder stands before those of the records that follow
with_holder-made : (builders : set.FinSet pair_cmp) (holder : Option (List ℕ)) (arch : List ℕ) (after pairs : List Key)
    → builders ≡ set.from_list (after ++ pairs)
    → with_holder builders holder arch ≡ set.from_list {R = pair_cmp} ((each (λ (name : List ℕ). (name, arch)) (listed holder) ++ after) ++ pairs)
with_holder-made builders None arch after pairs is = is
with_holder-made builders (Some holder) arch after pairs is = ap (λ (b : set.FinSet pair_cmp). set.insert b (holder, arch)) is

with_entries-made : (machine : Machine) (entries : List Entry) (pairs : List Key)
    → machine.records ≡ map.empty → machine.builders ≡ set.from_list pairs
    → with_entries machine entries ≡ record machine { records = map.from_entries entries; builders = set.from_list (holder_pairs entries ++ pairs) }
with_entries-made machine [] pairs none few = λ i. record machine { records = none i; builders = few i }
with_entries-made machine (entry ∷ entries) pairs none few =
    let rest = with_entries-made machine entries pairs none few in
    ap (λ m. with_entry m entry) rest
    ∙ (λ i. record machine {
      records = map.from_entries (entry ∷ entries);
      builders = with_holder-made (set.from_list (holder_pairs entries ++ pairs)) entry.1.holder entry.0.0 (holder_pairs entries) pairs refl i;
    })

-- the office that is made of counts, architectures, pairs and records
pub office_made : (found : FoundPart) (counted : Machine)
    → counted ≡ record empty_office { handed = found.counts.handed; accepted = found.counts.accepted }
    → with_entries (with_pairs (with_archs counted found.archs.items) found.pairs.items) (entries_found found) ≡ office_of found
unfolding empty_office office_of
office_made found counted is =
    let archs = found.archs.items in
    let pairs = found.pairs.items in
    let entries = entries_found found in
    let start : Machine = record empty_office { handed = found.counts.handed; accepted = found.counts.accepted } in
    let second : Machine = record start { archs = map.from_entries archs } in
    let third : Machine = record second { builders = set.from_list pairs } in
    ap (λ m. with_entries (with_pairs (with_archs m archs) pairs) entries) is
    ∙ ap (λ m. with_entries (with_pairs m pairs) entries) (with_archs-made start archs refl)
    ∙ ap (λ m. with_entries m entries) (with_pairs-made second pairs refl)
    ∙ with_entries-made third entries pairs refl refl

-- ---- what is found, as what is named

-- what is found at a key, as the record that is named
pub found_named : (machine : Machine) (arch source : List ℕ)
    → option_map (λ current. ((arch, source), current)) (map.get machine.records (arch, source)) ≡ record_named machine arch source
unfolding record_named
found_named machine arch source = refl

-- a builder that asks again
pub held_again-some : (machine : Machine) (builder : List ℕ) (after : Option ℕ)
    → is_some after ≡ true → held_of machine builder ≡ held_again machine builder after
held_again-some machine builder None is = absurd (cc)
held_again-some machine builder (Some number) is = refl

-- a map is that of its entries
archs_kept : (machine : Machine) → map.from_entries (map.entries machine.archs) ≡ machine.archs
archs_kept machine =
    map.same_map text_cmp_total text_cmp-same _ _
    (λ q. map.get-from_entries text_cmp_total (map.entries machine.archs) q ∙ sym (map.get-entries machine.archs q))

-- the office that has what was found is the part that the command names
pub part_found : (machine : Machine) (command : Command) (names : Subject) (found : FoundPart) → HasFound machine command names found
    → subject_named names ≡ subject_of command → office_of found ≡ part_named machine command
unfolding office_of part_named
part_found machine command names found h named =
    let entries : entries_found found ≡ entries_named machine command = (λ i. listed (h.first i) ++ h.others i) ∙ (λ i. listed (first_of machine (named i)) ++ others_of machine (named i)) in
    λ i. record {
      records = map.from_entries (entries i);
      archs = (ap map.from_entries h.archs ∙ archs_kept machine) i;
      builders = set.from_list (holder_pairs (entries i) ++ h.pairs i);
      handed = h.handed i;
      accepted = h.accepted i;
    }
