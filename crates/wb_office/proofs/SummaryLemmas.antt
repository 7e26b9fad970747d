-- How many records of an architecture are in each state, before a command and after it.
use Rattle.std.proofs.Common.{◌≡◌, ◌∙◌, refl, sym, ap, ap₂, subst, ℕ, Bool, true, false, cond, not, ◌&&◌, List, [], ◌∷◌}
use Rattle.std.proofs.Common.{Option, Some, None, IfSome, length}
use Rattle.std.specs.Prelude.{filter}
use Rattle.std.specs.BTreeMap as tree
use Rattle.std.specs.BTreeMap.{is_at}
use Rattle.std.specs.FinMap as map
use Rattle.std.specs.FinMap.{IsAntisymmetric, put}
use Rattle.std.specs.FinMap.Entries.{by_order}
use Rattle.std.proofs.lemmas.Bool.{both_ways}
use Rattle.std.proofs.lemmas.Slice.Eq.{bytes_eq-Decides}
use Rattle.std.specs.Cmp.{eq_by_cmp_equiv}
use Rattle.std.specs.Ordering.{eq_by_cmp}
use Rattle.std.specs.Map.{lookup}
use Rattle.std.specs.Option.{option_map}
use Rattle.std.specs.Str.{bytes_eq}
use Rattle.std.specs.declared.cmp.Ordering.{Ordering}
use Rattle.std.specs.declared.cmp.Ordering.TheVariants.{Less, Equal, Greater}
use Rattle.deb_text.specs.Text.{text_cmp, pair_cmp}
use Rattle.deb_text.proofs.KeyLemmas.{eq_by_cmp-same, pair_cmp-same, pair_cmp_total, text_cmp-same, text_cmp_total}
use Rattle.wb_states.specs.declared.command.Command.{Command}
use Rattle.wb_states.specs.declared.command.Command.TheVariants as of
use Rattle.wb_states.specs.declared.counts.StateCounts.{StateCounts}
use Rattle.wb_states.specs.declared.record.Record.{Record}
use Rattle.wb_states.specs.declared.refusal.Refusal.{Refusal}
use Rattle.wb_states.specs.declared.state.State.{State}
use Rattle.wb_states.specs.declared.state.State.TheVariants.{NeedsBuild, Building, Built, Uploaded, Installed, DepWait}
use Rattle.wb_states.specs.declared.state.State.TheVariants.{BdUninstallable, Failed, NotForUs, BuildAttempted}
use Rattle.wb_states.specs.Lookups.{counts_of, is_in, number_in}
use Rattle.wb_states.specs.Machine.{Key, Machine}
use Rattle.wb_states.specs.Queue.{Entry, head_of}
use Rattle.wb_states.specs.Subject.{Subject, Nothing, Source, Taken, Head, Held, subject_of}
use Rattle.wb_states.proofs.QueueLemmas.{head_of-waits}
use Rattle.wb_step.specs.Checks.{first_refusal}
use Rattle.wb_step.specs.Locality.{IsSingle, changed, entry_put, key_gone, with_entry, without_entry}
use Rattle.wb_step.specs.Step.{outcome, step}
use Rattle.wb_step.specs.Targets.{again_of, first_named}
use Rattle.wb_step.proofs.LocalityLemmas.{steps_change}
use Rattle.wb_office.specs.Keys.{key_at, key_of}
use Rattle.wb_office.specs.Standing.{AreSummaries}
use Rattle.wb_store.proofs.MapLemmas.{entries-remove}
use Rattle.wb_office.proofs.StepOfLemmas.{put_key}

-- ---- names

same_some : {X : Type 0} {x y : X} → Some x ≡ Some y → x ≡ y
same_some is = cc

-- a test of another name fails
is_no_other : (name arch : List ℕ) (rest : Bool) → ¬ (name ≡ arch) → (bytes_eq name arch && rest) ≡ false
is_no_other name arch rest other =
    (elim (bytes_eq name arch) as (λ b. bytes_eq name arch ≡ b → (b && rest) ≡ false) [
      | true ↦ λ is. absurd (other ((bytes_eq-Decides name arch).0 is))
      | false ↦ λ _. refl
    ]) refl

-- a name is at itself alone
at_same : (name q : List ℕ) → is_at (text_cmp name) q ≡ true → name ≡ q
at_same name q is = eq_by_cmp-same text_cmp-same name q is

is_not_at : (name q : List ℕ) → is_at (text_cmp name) q ≡ false → ¬ (name ≡ q)
is_not_at name q other same = both_ways (is_at (text_cmp name) q) other
    (ap (is_at (text_cmp name)) (sym same) ∙ (eq_by_cmp_equiv text_cmp_total).refl name)

-- ---- a record is put

-- what is put at a key that does not pass leaves those that pass
passes-put : {K X : Type 0} {R : K → K → Ordering} → IsAntisymmetric R → (p : K × X → Bool) (k : K) (v : X)
    → ((x : X) → p (k, x) ≡ false)
    → (entries : List (K × X)) → filter p (put R k v entries) ≡ filter p entries
passes-put {X = X} same p k v none [] = ap (λ b. cond b ((k, v) ∷ []) []) (none v)
passes-put {X = X} {R = R} same p k v none (e ∷ es) =
    (elim (R k e.0) as (λ r. R k e.0 ≡ r
    → filter p (by_order r ((k, v) ∷ e ∷ es) ((e.0, v) ∷ es) (e ∷ put R k v es)) ≡ filter p (e ∷ es)) [
      | Less ↦ λ at. ap (λ b. cond b ((k, v) ∷ filter p (e ∷ es)) (filter p (e ∷ es))) (none v)
      | Equal ↦ λ at.
          let is : k ≡ e.0 = same k e.0 at in
          let at_key = λ (x : X). sym (ap (λ key. p (key, x)) is) ∙ none x in
          ap (λ b. cond b ((e.0, v) ∷ filter p es) (filter p es)) (at_key v)
          ∙ sym (ap (λ b. cond b (e ∷ filter p es) (filter p es)) (at_key e.1))
      | Greater ↦ λ at. ap (λ rest. cond (p e) (e ∷ rest) rest) (passes-put same p k v none es)
    ]) refl

-- the numbers are those of the records
number-of : (machine after : Machine) (arch : List ℕ) (state : State) → after.records ≡ machine.records
    → number_in after arch state ≡ number_in machine arch state
unfolding number_in
number-of machine after arch state same =
    ap (λ (records : map.FinMap pair_cmp Record). length (filter (is_in arch state) (map.entries records))) same

number-put : (machine after : Machine) (key : Key) (current : Record) (arch : List ℕ) (state : State)
    → after.records ≡ map.insert machine.records key current → ¬ (key.0 ≡ arch)
    → number_in after arch state ≡ number_in machine arch state
unfolding number_in
number-put machine after key current arch state is other =
    ap (λ (records : map.FinMap pair_cmp Record). length (filter (is_in arch state) (map.entries records))) is
    ∙ ap (λ entries. length (filter (is_in arch state) entries))
    (map.entries-insert pair_cmp_total machine.records key current)
    ∙ ap length (passes-put pair_cmp-same (is_in arch state) key current (λ x. is_no_other key.0 arch _ other)
    (map.entries machine.records))

-- all numbers of an architecture
counts_by : (machine after : Machine) (arch : List ℕ)
    → ((state : State) → number_in after arch state ≡ number_in machine arch state)
    → counts_of after arch ≡ counts_of machine arch
unfolding counts_of
counts_by machine after arch same = λ i. record {
  needs_build = same NeedsBuild i;
  building = same Building i;
  built = same Built i;
  uploaded = same Uploaded i;
  installed = same Installed i;
  dep_wait = same DepWait i;
  bd_uninstallable = same BdUninstallable i;
  failed = same Failed i;
  not_for_us = same NotForUs i;
  build_attempted = same BuildAttempted i;
}

-- the records of an architecture are as many in each state after one of another is put, or none
counts-put : (machine after : Machine) (put : Option Entry) (arch : List ℕ)
    → after.records ≡ with_entry put machine.records
    → IfSome put (λ entry. ¬ (entry.0.0 ≡ arch)) → counts_of after arch ≡ counts_of machine arch
counts-put machine after None arch is other = counts_by machine after arch
    (λ state. number-of machine after arch state is)
counts-put machine after (Some entry) arch is other = counts_by machine after arch
    (λ state. number-put machine after entry.0 entry.1 arch state is other)

-- ---- a record is taken away

-- entries of a key that does not pass are none of those that pass
passes-left : (p : Entry → Bool) (k : Key) → ((x : Record) → p (k, x) ≡ false)
    → (entries : List Entry) → filter p (filter (λ e. not (eq_by_cmp pair_cmp k e.0)) entries) ≡ filter p entries
passes-left p k none [] = refl
passes-left p k none (e ∷ es) =
    let rest = passes-left p k none es in
    let left = filter (λ (x : Entry). not (eq_by_cmp pair_cmp k x.0)) es in
    (elim (eq_by_cmp pair_cmp k e.0) as (λ b. eq_by_cmp pair_cmp k e.0 ≡ b
    → filter p (cond (not b) (e ∷ left) left) ≡ cond (p e) (e ∷ filter p es) (filter p es)) [
      | true ↦ λ tie.
          let at : p e ≡ false = ap (λ key. p (key, e.1)) (sym (eq_by_cmp-same pair_cmp-same k e.0 tie)) ∙ none e.1 in
          rest ∙ sym (ap (λ b. cond b (e ∷ filter p es) (filter p es)) at)
      | false ↦ λ _. ap (λ those. cond (p e) (e ∷ those) those) rest
    ]) refl

number-left : (machine after : Machine) (key : Key) (arch : List ℕ) (state : State)
    → after.records ≡ map.remove machine.records key → ¬ (key.0 ≡ arch)
    → number_in after arch state ≡ number_in machine arch state
unfolding number_in
number-left machine after key arch state is other =
    ap (λ (records : map.FinMap pair_cmp Record). length (filter (is_in arch state) (map.entries records))) is
    ∙ ap (λ entries. length (filter (is_in arch state) entries))
    (entries-remove pair_cmp_total pair_cmp-same machine.records key)
    ∙ ap length (passes-left (is_in arch state) key (λ x. is_no_other key.0 arch _ other) (map.entries machine.records))

-- as many after one of another is taken away too, or none
counts-changed : (machine after : Machine) (put : Option Entry) (gone : Option Key) (arch : List ℕ)
    → after.records ≡ without_entry gone (with_entry put machine.records)
    → IfSome put (λ entry. ¬ (entry.0.0 ≡ arch)) → IfSome gone (λ key. ¬ (key.0 ≡ arch))
    → counts_of after arch ≡ counts_of machine arch
counts-changed machine after put None arch is other left = counts-put machine after put arch is other
counts-changed machine after put (Some key) arch is other left =
    let between : Machine = record machine { records = with_entry put machine.records } in
    counts_by between after arch (λ state. number-left between after key arch state is left)
    ∙ counts-put machine between put arch refl other

-- ---- a command that names an architecture

-- the architecture that is named
abbrev pub arch_named : Subject → Option (List ℕ)
arch_named Nothing = None
arch_named (Source arch source) = Some arch
arch_named (Taken take_number) = None
arch_named (Head next) = Some next.arch
arch_named (Held builder) = None

-- the architecture of a key
abbrev pub arch_of : Option Key → Option (List ℕ)
arch_of = option_map (λ (key : Key). key.0)

-- the record that is put is of that architecture
key-arch : (machine : Machine) (subject : Subject) (name : List ℕ) (key : Key) → arch_named subject ≡ Some name
    → key_at subject (first_named machine subject) ≡ Some key → key.0 ≡ name
key-arch machine Nothing name key named is = cc
key-arch machine (Taken take_number) name key named is = cc
key-arch machine (Held builder) name key named is = cc
key-arch machine (Source arch source) name key named is =
    sym (same_some (sym named ∙ ap arch_of is))
key-arch machine (Head next) name key named is = by_head (head_of machine next.arch) refl is
  where
    by_head : (head : Option Entry) → head_of machine next.arch ≡ head → key_of head ≡ Some key → key.0 ≡ name
    by_head None head_is none = cc
    by_head (Some entry) head_is some =
        same_some (sym (ap arch_of some) ∙ ap Some (head_of-waits machine next.arch entry head_is).1 ∙ named)

-- a command that names one imports nothing, and takes no architecture away
single-named : (command : Command) (name : List ℕ) → arch_named (subject_of command) ≡ Some name → IsSingle command
single-named (of.RemoveArch fields) name named = cc
single-named (of.Merge fields) name named = cc
single-named (of.Report fields) name named = cc
single-named command name named = record { imports = refl; keeps = refl }

-- the record that it takes away is of that architecture
gone-arch : (command : Command) (name : List ℕ) (key : Key) → arch_named (subject_of command) ≡ Some name
    → key_gone command ≡ Some key → key.0 ≡ name
gone-arch (of.Forget fields) name key named is = sym (same_some (sym named ∙ ap arch_of is))
gone-arch _ name key named is = cc

-- a command leaves how many records of another architecture than it names are in each state
counts_stay : (command : Command) (machine : Machine) (name arch : List ℕ)
    → arch_named (subject_of command) ≡ Some name → ¬ (name ≡ arch)
    → counts_of (step machine command).1 arch ≡ counts_of machine arch
unfolding step
counts_stay command machine name arch named other = by_answer (first_refusal machine command)
    (again_of machine command) refl refl
  where
    put_elsewhere : (put : Option Entry) → entry_put machine command ≡ put → IfSome put (λ entry. ¬ (entry.0.0 ≡ arch))
    put_elsewhere None is = tt
    put_elsewhere (Some entry) is = λ here. other
        (sym (key-arch machine (subject_of command) name entry.0 named (put_key command machine entry is)) ∙ here)

    gone_elsewhere : (gone : Option Key) → key_gone command ≡ gone → IfSome gone (λ key. ¬ (key.0 ≡ arch))
    gone_elsewhere None is = tt
    gone_elsewhere (Some key) is = λ here. other (sym (gone-arch command name key named is) ∙ here)

    by_answer : (refused : Option Refusal) (again : Option Entry) → first_refusal machine command ≡ refused
        → again_of machine command ≡ again
        → counts_of (outcome (first_refusal machine command) (again_of machine command) machine command).1 arch
        ≡ counts_of machine arch
    by_answer (Some refusal) again is told = ap₂ (λ r a. counts_of (outcome r a machine command).1 arch) is told
    by_answer None (Some entry) is told = ap₂ (λ r a. counts_of (outcome r a machine command).1 arch) is told
    by_answer None None is told =
        ap (λ m. counts_of m arch) (steps_change command machine (single-named command name named) is told)
        ∙ counts-changed machine (changed machine command) (entry_put machine command) (key_gone command) arch refl
        (put_elsewhere (entry_put machine command) refl) (gone_elsewhere (key_gone command) refl)

-- ---- what is known

-- nothing is known of numbers that are forgotten
pub none_known : (machine : Machine) (summaries : tree.BTreeMap (List ℕ) StateCounts) → summaries.entries ≡ []
    → AreSummaries machine summaries
none_known machine summaries empty = λ arch.
    subst (λ found. IfSome found (λ counts. counts ≡ counts_of machine arch))
    (sym (ap (lookup (is_at (text_cmp arch))) empty)) tt

-- what is known after a command, if what it may have changed is forgotten
pub known_after : (command : Command) (machine : Machine) (name : List ℕ) (old new : tree.BTreeMap (List ℕ) StateCounts)
    → arch_named (subject_of command) ≡ Some name
    → ((q : List ℕ) → tree.get text_cmp new q ≡ cond (is_at (text_cmp name) q) None (tree.get text_cmp old q))
    → AreSummaries machine old → AreSummaries (step machine command).1 new
known_after command machine name old new named removed are = λ arch.
    subst (λ found. IfSome found (λ counts. counts ≡ counts_of (step machine command).1 arch)) (sym (removed arch))
    (by_test arch (is_at (text_cmp name) arch) refl)
  where
    by_found : (arch : List ℕ) (found : Option StateCounts)
        → counts_of (step machine command).1 arch ≡ counts_of machine arch
        → IfSome found (λ counts. counts ≡ counts_of machine arch)
        → IfSome found (λ counts. counts ≡ counts_of (step machine command).1 arch)
    by_found arch None stay is = tt
    by_found arch (Some counts) stay is = is ∙ sym stay

    by_test : (arch : List ℕ) (here : Bool) → is_at (text_cmp name) arch ≡ here
        → IfSome (cond here None (tree.get text_cmp old arch))
        (λ counts. counts ≡ counts_of (step machine command).1 arch)
    by_test arch true is = tt
    by_test arch false is = by_found arch (tree.get text_cmp old arch)
        (counts_stay command machine name arch named (λ same. is_not_at name arch is same)) (are arch)

-- what is known with an architecture that was counted
pub known_with : (machine : Machine) (arch : List ℕ) (counts : StateCounts)
    (old new : tree.BTreeMap (List ℕ) StateCounts) → counts ≡ counts_of machine arch
    → ((q : List ℕ) → tree.get text_cmp new q ≡ cond (is_at (text_cmp arch) q) (Some counts) (tree.get text_cmp old q))
    → AreSummaries machine old → AreSummaries machine new
known_with machine arch counts old new counted inserted are = λ q.
    subst (λ found. IfSome found (λ those. those ≡ counts_of machine q)) (sym (inserted q))
    (by_test q (is_at (text_cmp arch) q) refl)
  where
    by_test : (q : List ℕ) (here : Bool) → is_at (text_cmp arch) q ≡ here
        → IfSome (cond here (Some counts) (tree.get text_cmp old q)) (λ those. those ≡ counts_of machine q)
    by_test q true is = counted ∙ ap (counts_of machine) (at_same arch q is)
    by_test q false is = are q
