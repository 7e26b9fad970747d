-- What an office keeps can be read again.
use Rattle.std.proofs.Common.{◌≡◌, ◌↔◌, Bool, ◌&&◌, ℕ, ◌≤◌, List, Option, Some, None, refl, arith}
use Rattle.std.specs.FinMap as map
use Rattle.std.specs.FinSet as set
use Rattle.std.proofs.lemmas.Option.{MatchOption-at_some}
use Rattle.std.specs.Prelude.{ℤ, is_some, IsOk, IsUtf8, IsTrue, IfSome, FitsSigned}
use Rattle.std.specs.Int.{w16}
use Rattle.std.proofs.lemmas.Bool.{and_from, and_parts}
use Rattle.std.proofs.lemmas.Int.{ints}
use Rattle.deb_relations.specs.Grammar.{relations_limit}
use Rattle.deb_text.specs.Text.{IsTextWithin}
use Rattle.deb_version.specs.Syntax.{reading_of}
use Rattle.wb_states.specs.declared.arch.OsCpu.{OsCpu}
use Rattle.wb_states.specs.declared.record.Record.{Record}
use Rattle.wb_states.specs.Limits.{count_limit, is_build_priority}
use Rattle.wb_states.specs.Machine.{IsArch, IsConsistent, IsRecord, Machine}
use Rattle.wb_states.specs.Names.{is_builder_name}
use Rattle.wb_states.specs.Queue.{Entry}
use Rattle.wb_states.specs.Record.{FitsState, IsWellFormed}
use Rattle.wb_rows.specs.Forms.{HasLabels, HasNumbers, HasTexts}
use Rattle.wb_rows.specs.Reading.{IsReadable}
use Rattle.wb_rows.proofs.TextLemmas.{arch-utf8, builder-utf8, label-utf8, package-utf8, word-utf8}

holder-utf8 : (holder : Option (List ℕ)) → IfSome holder (λ builder. IsTrue (is_builder_name builder)) → IfSome holder IsUtf8
holder-utf8 None h = tt
holder-utf8 (Some builder) h = builder-utf8 builder h

depends-utf8 : (depends : Option (List ℕ)) → IfSome depends (IsTextWithin relations_limit) → IfSome depends IsUtf8
depends-utf8 None h = tt
depends-utf8 (Some text) h = h.utf8

build_priority-fits : (value : ℤ) → IsTrue (is_build_priority value) → FitsSigned w16 value
build_priority-fits value h = grind (arith, ints)

-- a record whose fields have their forms is read, if its key is UTF-8
pub readable : (entry : Entry) → IsUtf8 entry.0.0 → IsUtf8 entry.0.1 → IsWellFormed entry.1 → IsReadable entry
readable entry arch source well =
    let small : entry.1.number ≤ 999 = well.number in
    record {
      arch = arch;
      source = source;
      version = well.version;
      priority = label-utf8 entry.1.priority well.priority;
      section = label-utf8 entry.1.section well.section;
      number = omega arith;
      holder = holder-utf8 entry.1.holder well.builder;
      waits = well.waits.utf8;
      depends = depends-utf8 entry.1.depends well.depends;
      note = well.note.utf8;
      message = well.message.utf8;
      build_priority = build_priority-fits entry.1.build_priority well.build_priority;
    }

-- ---- what an office keeps

module _ (machine : Machine) (sound : IsConsistent machine) where
  arch-known : (arch : List ℕ) (found : Option OsCpu) → map.get machine.archs arch ≡ found → IsTrue (is_some found) → IsUtf8 arch
  arch-known arch None e h = absurd (cc)
  arch-known arch (Some words) e h = arch-utf8 arch (MatchOption-at_some _ (IsArch arch) words e (sound.archs arch)).name

  pub of_record : (arch source : List ℕ) (current : Record) → map.get machine.records (arch, source) ≡ Some current → IsReadable ((arch, source), current)
  of_record arch source current e =
      let kept = MatchOption-at_some _ (IsRecord machine arch source) current e (sound.records arch source) in
      readable ((arch, source), current) (arch-known arch (map.get machine.archs arch) refl kept.known) (package-utf8 source kept.name) kept.fields

  pub of_take : (arch source : List ℕ) (current : Record) → map.get machine.records (arch, source) ≡ Some current → IfSome current.take (λ take_number. take_number ≤ count_limit)
  of_take arch source current e =
      let kept = MatchOption-at_some _ (IsRecord machine arch source) current e (sound.records arch source) in
      given current.take kept.given
    where
      given : (take : Option ℕ) → IfSome take (λ take_number. (1 ≤ take_number) × (take_number ≤ machine.handed)) → IfSome take (λ take_number. take_number ≤ count_limit)
      given None h = tt
      given (Some take_number) h = let most = sound.handed in omega (arith, h.1)

  pub of_arch : (name : List ℕ) (words : OsCpu) → map.get machine.archs name ≡ Some words → IsUtf8 name × IsUtf8 words.os × IsUtf8 words.cpu
  of_arch name words e =
      let kept = MatchOption-at_some _ (IsArch name) words e (sound.archs name) in
      (arch-utf8 name kept.name, word-utf8 words.os kept.os, word-utf8 words.cpu kept.cpu)

  pub of_builder : (builder arch : List ℕ) → IsTrue (set.contains machine.builders (builder, arch)) → IsUtf8 builder × IsUtf8 arch
  of_builder builder arch h =
      let kept = sound.builders builder arch h in
      (builder-utf8 builder kept.name, arch-known arch (map.get machine.archs arch) refl kept.known)

-- ---- the form, part by part

pub well-formed : (current : Record) (labels numbers texts state : Bool) → IsOk (reading_of current.version)
    → (IsTrue labels ↔ HasLabels current) → (IsTrue numbers ↔ HasNumbers current) → (IsTrue texts ↔ HasTexts current) → (IsTrue state ↔ FitsState current)
    → IsTrue (labels && numbers && texts && state) ↔ IsWellFormed current
well-formed current labels numbers texts state version l n t s = (
  λ all.
      let three = and_parts (labels && numbers && texts) state all in
      let two = and_parts (labels && numbers) texts three.0 in
      let one = and_parts labels numbers two.0 in
      let has = l.0 one.0 in
      let within = n.0 one.1 in
      let text = t.0 two.1 in
      record {
        version = version;
        priority = has.priority;
        section = has.section;
        number = within.number;
        state = s.0 three.1;
        builder = has.builder;
        waits = text.waits;
        depends = text.depends;
        note = text.note;
        message = text.message;
        build_priority = within.build_priority;
      },
  λ well.
      and_from (labels && numbers && texts) state
      (and_from (labels && numbers) texts
      (and_from labels numbers
      (l.1 (record { priority = well.priority; section = well.section; builder = well.builder }))
      (n.1 (record { number = well.number; build_priority = well.build_priority })))
      (t.1 (record { waits = well.waits; depends = well.depends; note = well.note; message = well.message })))
      (s.1 well.state),
)
