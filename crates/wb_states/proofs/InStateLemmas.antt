-- A record that is settled in a state has its form, and has its holder, its take number and its waits or none.
use Rattle.std.proofs.Common.{◌≡◌, ℕ, ◌≤◌, Bool, true, false, not, ◌||◌, cond, nat_eq, List, [], Option, None, IsOk, IsTrue, IfSome, is_some, refl, sym, ap, ◌∙◌, arith}
use Rattle.std.proofs.lemmas.Str.{IsUtf8-nil}
use Rattle.deb_version.specs.Syntax.{reading_of}
use Rattle.wb_states.specs.declared.record.Record.{Record}
use Rattle.wb_states.specs.declared.state.State.{State}
use Rattle.wb_states.specs.Limits.{rebuild_limit, note_limit, relations_limit, is_build_priority}
use Rattle.wb_states.specs.Moves.{in_state, note_after}
use Rattle.wb_states.specs.Names.{is_builder_name, is_label_text}
use Rattle.wb_states.specs.Record.{IsWellFormed}
use Rattle.deb_text.specs.Text.{IsTextWithin, is_empty_text}
use Rattle.wb_states.specs.State.{is_held, is_dep_wait, code_of}

pub empty_within : (limit : ℕ) → IsTextWithin limit []
empty_within limit = record { utf8 = IsUtf8-nil; within = omega arith }

-- the fields of a record but its state and its note have their forms
pub record HasFields (current : Record) : Type 0 where
  pub version : IsOk (reading_of current.version)
  pub priority : IsTrue (is_empty_text current.priority || is_label_text current.priority)
  pub section : IsTrue (is_empty_text current.section || is_label_text current.section)
  pub number : current.number ≤ rebuild_limit
  pub builder : IfSome current.holder (λ builder. IsTrue (is_builder_name builder))
  pub waits : IsTextWithin relations_limit current.waits
  pub depends : IfSome current.depends (IsTextWithin relations_limit)
  pub message : IsTextWithin note_limit current.message
  pub build_priority : IsTrue (is_build_priority current.build_priority)

pub fields-of : (current : Record) → IsWellFormed current → HasFields current
fields-of current is = record {
  version = is.version;
  priority = is.priority;
  section = is.section;
  number = is.number;
  builder = is.builder;
  waits = is.waits;
  depends = is.depends;
  message = is.message;
  build_priority = is.build_priority;
}

-- a record has what a state asks for: a held one its holder and its take number, and Dep-Wait its waits
pub record MayStand (current : Record) (state : State) : Type 0 where
  pub held : is_held state ≡ true → is_some current.holder ≡ true
  pub taken : is_held state ≡ true → is_some current.take ≡ true
  pub waiting : is_dep_wait state ≡ true → is_empty_text current.waits ≡ false

pub clash : {X : Type 0} (test : Bool) → test ≡ true → test ≡ false → X
clash test is other = absurd (apart (sym is ∙ other)) where
  apart : true ≡ false → ⊥
  apart e = cc

-- a state in which nothing is held and nothing is waited for
pub stands-free : (current : Record) (state : State) → is_held state ≡ false → is_dep_wait state ≡ false → MayStand current state
stands-free current state not_held not_waiting = record {
  held = λ h. clash (is_held state) h not_held;
  taken = λ h. clash (is_held state) h not_held;
  waiting = λ h. clash (is_dep_wait state) h not_waiting;
}

-- the state that it is in
pub stands-well : (current : Record) → IsWellFormed current → MayStand current current.state
stands-well current is = record {
  held = λ h. is.state.held ∙ h;
  taken = λ h. is.state.taken ∙ h;
  waiting = λ h. not-true (is_empty_text current.waits) (is.state.waiting ∙ h);
}
  where
    not-true : (b : Bool) → not b ≡ true → b ≡ false
    not-true true e = cc
    not-true false e = refl

-- what holds of a value that may be missing holds where it is dropped
pub if-kept : {X : Type 0} (P : X → Type 0) (test : Bool) (found : Option X) → IfSome found P → IfSome (cond test found None) P
if-kept P true found is = is
if-kept P false found is = tt

there : {X : Type 0} (test : Bool) (found : Option X) → (test ≡ true → is_some found ≡ true) → is_some (cond test found None) ≡ test
there true found is = is refl
there false found is = refl

text-kept : (limit : ℕ) (test : Bool) (text : List ℕ) → IsTextWithin limit text → IsTextWithin limit (cond test text [])
text-kept limit true text is = is
text-kept limit false text is = empty_within limit

filled : (test : Bool) (text : List ℕ) → (test ≡ true → is_empty_text text ≡ false) → not (is_empty_text (cond test text [])) ≡ test
filled true text is = ap not (is refl)
filled false text is = refl

pub settled-well : (state : State) (current : Record) (note : List ℕ) → HasFields current → IsTextWithin note_limit note → MayStand current state
    → IsWellFormed (record (in_state state current) { note = note })
settled-well state current note fields short stands = record {
  version = fields.version;
  priority = fields.priority;
  section = fields.section;
  number = fields.number;
  state = record {
    held = there (is_held state) current.holder stands.held;
    taken = there (is_held state) current.take stands.taken;
    waiting = filled (is_dep_wait state) current.waits stands.waiting;
  };
  builder = if-kept (λ builder. IsTrue (is_builder_name builder)) (is_held state) current.holder fields.builder;
  waits = text-kept relations_limit (is_dep_wait state) current.waits fields.waits;
  depends = fields.depends;
  note = short;
  message = fields.message;
  build_priority = fields.build_priority;
}

-- a note that is kept or dropped
pub kept-note : (state : State) (current : Record) → IsTextWithin note_limit current.note → IsTextWithin note_limit (note_after None state current)
kept-note state current is = text-kept note_limit (nat_eq (code_of state) (code_of current.state)) current.note is
