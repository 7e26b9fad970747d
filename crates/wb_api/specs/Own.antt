-- What a builder changes by the rights of a key.
use Rattle.std.specs.Prelude.{◌≡◌, ◌⊎◌, ⊤, ℕ, List, [], ◌∷◌, Some}
use Rattle.std.specs.FinMap as map
use Rattle.deb_text.specs.Lists.{IsIn}
use Rattle.wb_states.specs.Machine.{Key, Machine}
use Rattle.wb_states.specs.declared.record.Record.{Record}
use Rattle.wb_keys.specs.Access.{rights_of}
use Rattle.wb_keys.specs.declared.access.Access.{Access}
use Rattle.wb_keys.specs.declared.right.Right.TheVariants.{Build}
use Rattle.wb_api.specs.Runs.{Exchange}
use Rattle.wb_api.specs.declared.request.Received.{Received}
use Rattle.wb_api.specs.declared.request.Received.TheVariants as received

-- ---- what a builder changes

-- a builder holds the record at a key
abbrev pub Holds : List ℕ → Machine → Key → Type 0
Holds builder machine key =
    (current : Record) × (map.get machine.records key ≡ Some current) × (current.holder ≡ Some builder)

-- a builder holds the record at a key at one of these states
abbrev pub HoldsAtOne : List ℕ → List Machine → Key → Type 0
HoldsAtOne builder states key = (state : Machine) × IsIn state states × Holds builder state key

-- from one state to another the record at a key stays as it was, or the builder held it before, or holds it after
abbrev pub ChangesOwn : List ℕ → Machine → Machine → Key → Type 0
ChangesOwn builder before after key = (map.get after.records key ≡ map.get before.records key)
    ⊎ (Holds builder before key ⊎ Holds builder after key)

-- so it is from one state to the first of others, and from each of these to the next
abbrev pub ChangesOwnInTurn : List ℕ → Machine → List Machine → Key → Type 0
ChangesOwnInTurn builder before [] key = ⊤
ChangesOwnInTurn builder before (after ∷ later) key =
    ChangesOwn builder before after key × ChangesOwnInTurn builder after later key

-- from one state to another the record at a key stays as it was, or the builder held it at one of these states
abbrev pub ChangesHeld : List ℕ → List Machine → Machine → Machine → Key → Type 0
ChangesHeld builder states before after key =
    (map.get after.records key ≡ map.get before.records key) ⊎ HoldsAtOne builder states key

-- ---- who asks

-- what was received is by a builder: if it is a request, the line of the key that it shows has the right of this
-- builder and no other
abbrev pub IsByBuilder : Access → List ℕ → Received → Type 0
IsByBuilder access builder (received.Asked shown asked) = rights_of access shown ≡ Some (Build builder ∷ [])
IsByBuilder access builder came = ⊤

-- each request of a run is by the builder
abbrev pub AreByBuilder : Access → List ℕ → List Exchange → Type 0
AreByBuilder access builder [] = ⊤
AreByBuilder access builder (one ∷ others) =
    IsByBuilder access builder one.received × AreByBuilder access builder others
