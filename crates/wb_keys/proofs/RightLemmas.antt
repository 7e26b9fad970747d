-- What rights allow: what may be asked by its kind, and what the rights of builders and of architectures reach.
use Rattle.std.proofs.Common.{◌≡◌, ℕ, Bool, true, false, not, ◌&&◌, ◌||◌, ◌⊎◌, inl, inr, List, [], ◌∷◌, Option, Some}
use Rattle.std.proofs.Common.{None, refl, sym, ap, ◌∙◌}
use Rattle.std.specs.Prelude.{bytes_eq, if◌then◌else◌}
use Rattle.std.specs.List.{list_any}
use Rattle.std.specs.Option.{option_and_then}
use Rattle.std.proofs.lemmas.Slice.Eq.{bytes_eq-Decides}
use Rattle.deb_text.specs.Lists.{IsIn, is_nonempty}
use Rattle.wb_states.specs.declared.command.Command.{Command}
use Rattle.wb_states.specs.declared.command.Command.TheVariants as of
use Rattle.wb_states.specs.declared.query.Query.{Query}
use Rattle.wb_states.specs.Holds.{holder_of}
use Rattle.wb_states.specs.Machine.{Machine}
use Rattle.wb_states.specs.Subject.{Source}
use Rattle.wb_keys.specs.declared.right.Kind.TheVariants as kind
use Rattle.wb_keys.specs.declared.right.Right.{Right}
use Rattle.wb_keys.specs.declared.right.Right.TheVariants.{Read, Build, Port, Operate}
use Rattle.wb_keys.specs.Own.{IsForArch, IsOfBuilder}
use Rattle.wb_keys.specs.Rights.{Need, Everything, InNameOf, UnderTake, OnArch, allows, asks_holder, holder_for}
use Rattle.wb_keys.specs.Rights.{holder_needed, is_build, is_for, is_operate, is_own, kind_for, kind_of, may_ask_for}
use Rattle.wb_keys.specs.Rights.{may_command, may_query, meets, need_of, needed_holder, number_in, number_of}
use Rattle.wb_keys.specs.Rights.{porter_meets}

either-true : (a b : Bool) → (a || b) ≡ true → (a ≡ true) ⊎ (b ≡ true)
either-true true b h = inl refl
either-true false b h = inr h

or-true : (a b : Bool) → b ≡ true → (a || b) ≡ true
or-true true b h = refl
or-true false b h = h

-- ---- a list of rights

-- where each item that passes one test passes another, a list that has one of the first has one of the second
pub list_any-more : {X : Type 0} (p q : X → Bool) → ((x : X) → p x ≡ true → q x ≡ true) → (xs : List X)
    → list_any p xs ≡ true → list_any q xs ≡ true
list_any-more p q more [] h = h
list_any-more p q more (x ∷ xs) h = elim (either-true (p x) (list_any p xs) h) [
  | inl here ↦ ap (λ b. b || list_any q xs) (more x here)
  | inr later ↦ or-true (q x) (list_any q xs) (list_any-more p q more xs later)
]

-- an item that passes a test
pub list_any-IsIn : {X : Type 0} (p : X → Bool) (x : X) (xs : List X) → IsIn x xs → p x ≡ true → list_any p xs ≡ true
list_any-IsIn p x [] h pass = absurd h
list_any-IsIn p x (y ∷ ys) (inl same) pass = ap (λ b. b || list_any p ys) (ap p (sym same) ∙ pass)
list_any-IsIn p x (y ∷ ys) (inr later) pass = or-true (p y) (list_any p ys) (list_any-IsIn p x ys later pass)

pub is_nonempty-IsIn : {X : Type 0} (x : X) (xs : List X) → IsIn x xs → is_nonempty xs ≡ true
is_nonempty-IsIn x [] h = absurd h
is_nonempty-IsIn x (y ∷ ys) h = refl

-- ---- what may be given may be asked for

pub asked-by-kind : (holder : Option (List ℕ)) (need : Need) (right : Right) → meets right holder need ≡ true
    → is_for (kind_for need) right ≡ true
asked-by-kind holder need Read h = cc
asked-by-kind holder Everything (Build builder) h = cc
asked-by-kind holder (InNameOf name) (Build builder) h = refl
asked-by-kind holder (UnderTake take_number) (Build builder) h = refl
asked-by-kind holder (OnArch name) (Build builder) h = cc
asked-by-kind holder Everything (Port arch) h = cc
asked-by-kind holder (InNameOf name) (Port arch) h = cc
asked-by-kind holder (UnderTake take_number) (Port arch) h = cc
asked-by-kind holder (OnArch name) (Port arch) h = refl
asked-by-kind holder need Operate h = refl

-- ---- what the kind alone decides

-- two tests that agree on each item agree on a list
pub list_any-same : {X : Type 0} (p q : X → Bool) → ((x : X) → p x ≡ q x) → (xs : List X)
    → list_any p xs ≡ list_any q xs
list_any-same p q same [] = refl
list_any-same p q same (x ∷ xs) =
    ap (λ b. b || list_any p xs) (same x) ∙ ap (λ b. q x || b) (list_any-same p q same xs)

query-asks : (right : Right) → is_for kind.Query right ≡ true
query-asks Read = refl
query-asks (Build builder) = refl
query-asks (Port arch) = refl
query-asks Operate = refl

pub queries : (rights : List Right) (query : Query) → may_query rights query ≡ may_ask_for rights kind.Query
queries [] query = refl
queries (right ∷ rights) query = sym (ap (λ b. b || list_any (is_for kind.Query) rights) (query-asks right))

needs-everything : (need : Need) → kind_for need ≡ kind.Operator → need ≡ Everything
needs-everything Everything h = refl
needs-everything (InNameOf name) h = cc
needs-everything (UnderTake take_number) h = cc
needs-everything (OnArch name) h = cc

everything-asks : (holder : Option (List ℕ)) (right : Right)
    → meets right holder Everything ≡ is_for kind.Operator right
everything-asks holder Read = refl
everything-asks holder (Build builder) = refl
everything-asks holder (Port arch) = refl
everything-asks holder Operate = refl

pub of-operator : (rights : List Right) (machine : Machine) (command : Command) → kind_of command ≡ kind.Operator
    → may_command rights machine command ≡ may_ask_for rights kind.Operator
of-operator rights machine command h =
    let holder = holder_for machine command in
    let same : (right : Right) → meets right holder (need_of command) ≡ is_for kind.Operator right =
    λ right. ap (meets right holder) (needs-everything (need_of command) h) ∙ everything-asks holder right in
    list_any-same (λ right. meets right holder (need_of command)) (is_for kind.Operator) same rights

-- ---- one right alone

alone : (b : Bool) → (b || false) ≡ true → b ≡ true
alone true h = refl
alone false h = h

pub same-text : (one other : List ℕ) → (bytes_eq one other || false) ≡ true → one ≡ other
same-text one other h = (bytes_eq-Decides one other).0 (alone (bytes_eq one other) h)

pub own-holder : (builder : List ℕ) (holder : Option (List ℕ)) → (is_own builder holder || false) ≡ true
    → (holder ≡ None) ⊎ (holder ≡ Some builder)
own-holder builder None h = inl refl
own-holder builder (Some holder) h = inr (ap Some (same-text holder builder h))

pub of-builder : (builder : List ℕ) (machine : Machine) (command : Command)
    → may_command (Build builder ∷ []) machine command ≡ true
    → IsOfBuilder builder machine command
of-builder builder machine (of.AddArch fields) h = cc
of-builder builder machine (of.AddBuilder fields) h = cc
of-builder builder machine (of.RemoveArch fields) h = cc
of-builder builder machine (of.RemoveBuilder fields) h = cc
of-builder builder machine (of.Enter fields) h = cc
of-builder builder machine (of.Next fields) h = inl (fields, refl, same-text fields.builder builder h)
of-builder builder machine (of.Take fields) h = inr (inl (fields, refl, same-text fields.builder builder h))
of-builder builder machine (of.Built fields) h = inr
    (inr (fields.take_number, refl, own-holder builder (holder_of machine fields.take_number) h))
of-builder builder machine (of.Uploaded fields) h = inr
    (inr (fields.take_number, refl, own-holder builder (holder_of machine fields.take_number) h))
of-builder builder machine (of.Waits fields) h = inr
    (inr (fields.take_number, refl, own-holder builder (holder_of machine fields.take_number) h))
of-builder builder machine (of.PutBack fields) h = inr
    (inr (fields.take_number, refl, own-holder builder (holder_of machine fields.take_number) h))
of-builder builder machine (of.Attempted fields) h = inr
    (inr (fields.take_number, refl, own-holder builder (holder_of machine fields.take_number) h))
of-builder builder machine (of.GiveBack fields) h = cc
of-builder builder machine (of.DepWait fields) h = cc
of-builder builder machine (of.Fail fields) h = cc
of-builder builder machine (of.NotForUs fields) h = cc
of-builder builder machine (of.Rebuild fields) h = cc
of-builder builder machine (of.BuildPriority fields) h = cc
of-builder builder machine (of.Forget fields) h = cc
of-builder builder machine (of.Merge fields) h = cc
of-builder builder machine (of.Report fields) h = cc

at : (arch name source : List ℕ) → (bytes_eq name arch || false) ≡ true → Source name source ≡ Source arch source
at arch name source h = ap (λ n. Source n source) (same-text name arch h)

pub of-porter : (arch : List ℕ) (machine : Machine) (command : Command) → may_command (Port arch ∷ []) machine command
    ≡ true
    → IsForArch arch command
of-porter arch machine (of.AddArch fields) h = cc
of-porter arch machine (of.AddBuilder fields) h = cc
of-porter arch machine (of.RemoveArch fields) h = cc
of-porter arch machine (of.RemoveBuilder fields) h = cc
of-porter arch machine (of.Enter fields) h = cc
of-porter arch machine (of.Next fields) h = cc
of-porter arch machine (of.Take fields) h = cc
of-porter arch machine (of.Built fields) h = cc
of-porter arch machine (of.Uploaded fields) h = cc
of-porter arch machine (of.Waits fields) h = cc
of-porter arch machine (of.PutBack fields) h = cc
of-porter arch machine (of.Attempted fields) h = cc
of-porter arch machine (of.GiveBack fields) h = inr (fields.source, at arch fields.arch fields.source h, refl)
of-porter arch machine (of.DepWait fields) h = inr (fields.source, at arch fields.arch fields.source h, refl)
of-porter arch machine (of.Fail fields) h = inr (fields.source, at arch fields.arch fields.source h, refl)
of-porter arch machine (of.NotForUs fields) h = inr (fields.source, at arch fields.arch fields.source h, refl)
of-porter arch machine (of.Rebuild fields) h = inr (fields.source, at arch fields.arch fields.source h, refl)
of-porter arch machine (of.BuildPriority fields) h = inr (fields.source, at arch fields.arch fields.source h, refl)
of-porter arch machine (of.Forget fields) h = cc
of-porter arch machine (of.Merge fields) h = cc
of-porter arch machine (of.Report fields) h = inl (fields, refl, same-text fields.arch arch h)

-- ---- whose holder has to be known

-- a need that names no take number is met whoever holds one
met-without_number : (one other : Option (List ℕ)) (need : Need) → number_in need ≡ None → (right : Right)
    → meets right one need ≡ meets right other need
met-without_number one other Everything h Read = refl
met-without_number one other Everything h (Build builder) = refl
met-without_number one other Everything h (Port arch) = refl
met-without_number one other Everything h Operate = refl
met-without_number one other (InNameOf name) h Read = refl
met-without_number one other (InNameOf name) h (Build builder) = refl
met-without_number one other (InNameOf name) h (Port arch) = refl
met-without_number one other (InNameOf name) h Operate = refl
met-without_number one other (UnderTake take_number) h right = cc
met-without_number one other (OnArch name) h Read = refl
met-without_number one other (OnArch name) h (Build builder) = refl
met-without_number one other (OnArch name) h (Port arch) = refl
met-without_number one other (OnArch name) h Operate = refl

-- the right to everything meets each need
operate-meets : (holder : Option (List ℕ)) (need : Need) (right : Right) → is_operate right ≡ true
    → meets right holder need ≡ true
operate-meets holder need Read h = cc
operate-meets holder need (Build builder) h = cc
operate-meets holder need (Port arch) h = cc
operate-meets holder need Operate h = refl

-- rights of which none is that of a builder meet a need whoever holds a take number
met-without_build : (one other : Option (List ℕ)) (need : Need) (rights : List Right)
    → list_any is_build rights ≡ false
    → list_any (λ right. meets right one need) rights ≡ list_any (λ right. meets right other need) rights
met-without_build one other need [] h = refl
met-without_build one other need (Read ∷ rights) h = met-without_build one other need rights h
met-without_build one other need (Build builder ∷ rights) h = cc
met-without_build one other need (Port arch ∷ rights) h =
    ap (λ b. porter_meets arch need || b) (met-without_build one other need rights h)
met-without_build one other need (Operate ∷ rights) h = refl

-- no right of a builder, or one to everything
asks_holder-cases : (build operate : Bool) → (build && not operate) ≡ false → (build ≡ false) ⊎ (operate ≡ true)
asks_holder-cases false operate h = inl refl
asks_holder-cases true true h = inr refl
asks_holder-cases true false h = cc

met-without_asking : (one other : Option (List ℕ)) (need : Need) (rights : List Right) → asks_holder rights ≡ false
    → list_any (λ right. meets right one need) rights ≡ list_any (λ right. meets right other need) rights
met-without_asking one other need rights h =
    let met : (holder : Option (List ℕ)) → list_any is_operate rights ≡ true
    → list_any (λ right. meets right holder need) rights ≡ true
    = λ holder. list_any-more is_operate (λ right. meets right holder need) (operate-meets holder need) rights in
    elim (asks_holder-cases (list_any is_build rights) (list_any is_operate rights) h) [
      | inl none ↦ met-without_build one other need rights none
      | inr any ↦ met one any ∙ sym (met other any)
    ]

pub decided : (rights : List Right) (command : Command) (one other : Option (List ℕ))
    → holder_needed rights command ≡ None → allows rights one command ≡ allows rights other command
decided rights command one other = by (asks_holder rights) refl
  where
    by : (b : Bool) → asks_holder rights ≡ b → (if b then number_of command else None) ≡ None
        → allows rights one command ≡ allows rights other command
    by true e none = list_any-same _ _ (met-without_number one other (need_of command) none) rights
    by false e none = met-without_asking one other (need_of command) rights e

pub needed-number : (rights : List Right) (command : Command) (take_number : ℕ)
    → holder_needed rights command ≡ Some take_number → number_of command ≡ Some take_number
needed-number rights command take_number = by (asks_holder rights)
  where
    by : (b : Bool) → (if b then number_of command else None) ≡ Some take_number → number_of command ≡ Some take_number
    by true h = h
    by false h = cc

pub needed-operate : (rights : List Right) (command : Command) → IsIn Operate rights
    → holder_needed rights command ≡ None
needed-operate rights command h =
    by (list_any is_build rights) (list_any is_operate rights) (list_any-IsIn is_operate Operate rights h refl)
  where
    by : (build operate : Bool) → operate ≡ true → (if (build && not operate) then number_of command else None) ≡ None
    by true true e = refl
    by true false e = cc
    by false operate e = refl

pub needed-machine : (rights : List Right) (machine : Machine) (command : Command)
    → allows rights (needed_holder rights machine command) command ≡ may_command rights machine command
needed-machine rights machine command = by (asks_holder rights) refl
  where
    by : (b : Bool) → asks_holder rights ≡ b
        → allows rights (option_and_then (holder_of machine) (if b then number_of command else None)) command
        ≡ may_command rights machine command
    by true e = refl
    by false e = met-without_asking None (holder_for machine command) (need_of command) rights e
