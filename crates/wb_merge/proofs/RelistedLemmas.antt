-- A record after a merge has its form, and keeps its holder, its take number and its waits or loses them.
use Rattle.std.proofs.Common.{ℕ, ◌≤◌, Bool, true, false, cond, List, [], Option, Some, None, IfSome, refl, arith}
use Rattle.std.specs.declared.cmp.Ordering.{Ordering}
use Rattle.std.specs.declared.cmp.Ordering.TheVariants.{Less, Equal, Greater}
use Rattle.std.specs.Ordering.{match_ordering}
use Rattle.deb_version.specs.Order.{version_cmp}
use Rattle.deb_relations.specs.Satisfaction.{Pairs}
use Rattle.wb_states.specs.declared.record.Record.{Record}
use Rattle.wb_states.specs.declared.state.State.{State}
use Rattle.wb_states.specs.declared.state.State.TheVariants.{NeedsBuild, Installed, NotForUs}
use Rattle.wb_states.specs.Limits.{rebuild_limit, note_limit, relations_limit}
use Rattle.wb_states.specs.Moves.{note_after}
use Rattle.wb_states.specs.Record.{IsWellFormed}
use Rattle.deb_text.specs.Text.{IsTextWithin}
use Rattle.wb_states.specs.State.{is_held, is_dep_wait, is_not_for_us}
use Rattle.wb_merge.specs.declared.listing.Listed.{Listed}
use Rattle.wb_merge.specs.declared.listing.Built.{Built}
use Rattle.wb_merge.specs.Merge.{covers, built_number, relisted, blank_record, new_state, new_number, new_record, newer_state, newer_number, newer_record, same_state, same_number, same_record, listed_record}
use Rattle.wb_merge.proofs.ChosenLemmas.{new-chosen, newer-chosen, same-chosen}
use Rattle.wb_merge.proofs.ListedLemmas.{IsGoodListed, IsSmallBuilt}
use Rattle.wb_states.proofs.InStateLemmas.{HasFields, MayStand, empty_within, fields-of, if-kept, stands-free, stands-well, settled-well, kept-note}

-- ---- numbers

chosen-small : (test : Bool) (one other : ℕ) → one ≤ rebuild_limit → other ≤ rebuild_limit → cond test one other ≤ rebuild_limit
chosen-small true one other first second = first
chosen-small false one other first second = second

built-small : (built : Option Built) (version : List ℕ) (other : ℕ) → IfSome built IsSmallBuilt → other ≤ rebuild_limit → built_number built version other ≤ rebuild_limit
built-small None version other small is = is
built-small (Some built) version other small is = at (version_cmp built.version version) where
  at : (order : Ordering) → match_ordering order other built.number other ≤ rebuild_limit
  at Less = is
  at Equal = small
  at Greater = is

new-small : (listed : Listed) (built : Option Built) → IfSome built IsSmallBuilt → new_number listed built ≤ rebuild_limit
new-small listed built small =
    let zero : 0 ≤ rebuild_limit = omega arith in
    chosen-small (covers built listed.version 0) (built_number built listed.version 0) 0 (built-small built listed.version 0 small zero) zero

newer-small : (listed : Listed) (built : Option Built) (current : Record) → IfSome built IsSmallBuilt → newer_number listed built current ≤ rebuild_limit
newer-small listed built current small =
    let zero : 0 ≤ rebuild_limit = omega arith in
    chosen-small (is_not_for_us current.state) 0 (new_number listed built) zero (new-small listed built small)

same-small : (listed : Listed) (built : Option Built) (current : Record) → IfSome built IsSmallBuilt → current.number ≤ rebuild_limit
    → same_number listed built current ≤ rebuild_limit
same-small listed built current small is =
    let covered = cond (covers built listed.version current.number) (built_number built listed.version current.number) current.number in
    chosen-small (is_not_for_us current.state) current.number covered is
    (chosen-small (covers built listed.version current.number) (built_number built listed.version current.number) current.number
    (built-small built listed.version current.number small is) is)

-- ---- forms

relisted-well : (source : List ℕ) (state : State) (number : ℕ) (listed : Listed) (built : Option Built) (current : Record)
    → IsGoodListed source listed → number ≤ rebuild_limit → HasFields current → IsTextWithin note_limit current.note → MayStand current state
    → IsWellFormed (relisted state number listed built current)
unfolding relisted
relisted-well source state number listed built current good small fields note stands =
    let put : Record = record current { number = number; priority = listed.priority; section = listed.section; depends = listed.depends } in
    let well = settled-well state put (note_after None state current)
    (record {
      version = fields.version;
      priority = good.priority;
      section = good.section;
      number = small;
      builder = fields.builder;
      waits = fields.waits;
      depends = good.depends;
      message = fields.message;
      build_priority = fields.build_priority;
    })
    (kept-note state current note)
    (record { held = stands.held; taken = stands.taken; waiting = stands.waiting }) in
    record {
      version = well.version;
      priority = well.priority;
      section = well.section;
      number = well.number;
      state = record { held = well.state.held; taken = well.state.taken; waiting = well.state.waiting };
      builder = well.builder;
      waits = well.waits;
      depends = well.depends;
      note = well.note;
      message = well.message;
      build_priority = well.build_priority;
    }

new-well : (source : List ℕ) (listed : Listed) (built : Option Built) → IsGoodListed source listed → IfSome built IsSmallBuilt → IsWellFormed (new_record listed built)
unfolding new_record
new-well source listed built good small =
    let blank : Record = blank_record listed.version in
    relisted-well source (new_state listed built) (new_number listed built) listed built blank good (new-small listed built small)
    (record {
      version = good.version;
      priority = refl;
      section = refl;
      number = omega arith;
      builder = tt;
      waits = empty_within relations_limit;
      depends = tt;
      message = empty_within note_limit;
      build_priority = refl;
    })
    (empty_within note_limit)
    (new-chosen (MayStand blank) listed built (stands-free blank Installed refl refl) (stands-free blank NeedsBuild refl refl))

newer-well : (source : List ℕ) (listed : Listed) (built : Option Built) (current : Record) → IsGoodListed source listed → IfSome built IsSmallBuilt → IsWellFormed current
    → IsWellFormed (newer_record listed built current)
unfolding newer_record
newer-well source listed built current good small old =
    let bare : Record = record current { version = listed.version; message = []; holder = None; take = None } in
    relisted-well source (newer_state listed built current) (newer_number listed built current) listed built bare good (newer-small listed built current small)
    (record {
      version = good.version;
      priority = old.priority;
      section = old.section;
      number = old.number;
      builder = tt;
      waits = old.waits;
      depends = old.depends;
      message = empty_within note_limit;
      build_priority = old.build_priority;
    })
    old.note
    (newer-chosen (MayStand bare) listed built current (stands-free bare NotForUs refl refl) (stands-free bare Installed refl refl) (stands-free bare NeedsBuild refl refl))

same-well : (source : List ℕ) (listed : Listed) (built : Option Built) (available : Pairs) (current : Record) → IsGoodListed source listed → IfSome built IsSmallBuilt
    → IsWellFormed current → IsWellFormed (same_record listed built available current)
unfolding same_record
same-well source listed built available current good small old =
    relisted-well source (same_state listed built available current) (same_number listed built current) listed built current good (same-small listed built current small old.number)
    (fields-of current old) old.note
    (same-chosen (MayStand current) listed built available current (stands-free current NotForUs refl refl) (stands-free current Installed refl refl)
    (stands-free current NeedsBuild refl refl) (stands-well current old))

pub listed-well : (source : List ℕ) (listed : Listed) (built : Option Built) (available : Pairs) (current : Record) → IsGoodListed source listed → IfSome built IsSmallBuilt
    → IsWellFormed current → IsWellFormed (listed_record listed built available current)
unfolding listed_record
listed-well source listed built available current good small old = at (version_cmp current.version listed.version) where
  at : (order : Ordering) → IsWellFormed (match_ordering order (newer_record listed built current) (same_record listed built available current) current)
  at Less = newer-well source listed built current good small old
  at Equal = same-well source listed built available current good small old
  at Greater = old

pub new_record-well : (source : List ℕ) (listed : Listed) (built : Option Built) → IsGoodListed source listed → IfSome built IsSmallBuilt → IsWellFormed (new_record listed built)
new_record-well = new-well

-- ---- what is kept or lost

-- a record has the holder, the take number and the waits of another, or lost them
pub record HasLeft (old new : Record) : Type 1 where
  pub holder : (P : List ℕ → Type 0) → IfSome old.holder P → IfSome new.holder P
  pub take : (P : ℕ → Type 0) → IfSome old.take P → IfSome new.take P
  pub waits : (P : List ℕ → Type 0) → P [] → P old.waits → P new.waits

kept-text : (P : List ℕ → Type 0) (test : Bool) (text : List ℕ) → P [] → P text → P (cond test text [])
kept-text P true text none is = is
kept-text P false text none is = none

relisted-left : (state : State) (number : ℕ) (listed : Listed) (built : Option Built) (current : Record) → HasLeft current (relisted state number listed built current)
unfolding relisted
relisted-left state number listed built current = record {
  holder = λ P. if-kept P (is_held state) current.holder;
  take = λ P. if-kept P (is_held state) current.take;
  waits = λ P. kept-text P (is_dep_wait state) current.waits;
}

pub new-left : (listed : Listed) (built : Option Built) → HasLeft (blank_record listed.version) (new_record listed built)
unfolding new_record
new-left listed built = relisted-left (new_state listed built) (new_number listed built) listed built (blank_record listed.version)

-- a newer version has a new holder
newer-left : (listed : Listed) (built : Option Built) (current : Record) → HasLeft current (newer_record listed built current)
unfolding newer_record
newer-left listed built current =
    let bare : Record = record current { version = listed.version; message = []; holder = None; take = None } in
    let left = relisted-left (newer_state listed built current) (newer_number listed built current) listed built bare in
    record {
      holder = λ P _. left.holder P tt;
      take = λ P _. left.take P tt;
      waits = left.waits;
    }

same-left : (listed : Listed) (built : Option Built) (available : Pairs) (current : Record) → HasLeft current (same_record listed built available current)
unfolding same_record
same-left listed built available current =
    relisted-left (same_state listed built available current) (same_number listed built current) listed built current

pub listed-left : (listed : Listed) (built : Option Built) (available : Pairs) (current : Record) → HasLeft current (listed_record listed built available current)
unfolding listed_record
listed-left listed built available current = at (version_cmp current.version listed.version) where
  at : (order : Ordering) → HasLeft current (match_ordering order (newer_record listed built current) (same_record listed built available current) current)
  at Less = newer-left listed built current
  at Equal = same-left listed built available current
  at Greater = record { holder = λ P is. is; take = λ P is. is; waits = λ P none is. is }
