-- The refusals of the texts of commands.
use Rattle.std.proofs.Common.{◌≡◌, ◌≢◌, ◌<◌, Bool, true, false, nat_lt, length, List, ℕ, Some, None, Err, refl, sym, ◌∙◌, ap, option_map, IsOk}
use Rattle.std.specs.Result.{result_err}
use Rattle.std.proofs.lemmas.Bool.{ltb-true}
use Rattle.deb_version.specs.declared.fault.VersionFault.{VersionFault}
use Rattle.deb_version.specs.declared.fault.VersionFault.TheVariants.{Empty, EpochEmpty, EpochNotNumber, EpochTooLarge, UpstreamEmpty, UpstreamBad, RevisionEmpty, RevisionBad, TooLong, Memory as NoMemory}
use Rattle.deb_version.specs.Syntax.{fault_of, reading_of}
use Rattle.deb_relations.specs.declared.fault.RelationFault.{RelationFault}
use Rattle.deb_relations.specs.declared.fault.RelationFault.TheVariants.{Memory as NoRelationMemory, TooLong as RelationsTooLong}
use Rattle.deb_relations.specs.Reading.{reading_of as relations_of}
use Rattle.wb_states.specs.declared.refusal.Refusal.{Refusal}
use Rattle.wb_states.specs.declared.refusal.Refusal.TheVariants.{Memory, BadVersion, BadRelations}
use Rattle.wb_states.specs.Limits.{relations_limit}
use Rattle.wb_step.specs.Checks.{refusal_of_fault, relations_refusal}
use Rattle.deb_version.proofs.ReadingLemmas.{fault_of-Err, fault_of-IsOk}

-- the refusal of a text that is no version is that of its fault
pub read-refused : (text : List ℕ) (fault : VersionFault) → (fault ≢ NoMemory → reading_of text ≡ Err fault) → refusal_of_fault fault ≢ Memory
    → option_map BadVersion (fault_of text) ≡ Some (refusal_of_fault fault)
read-refused text Empty reads differs = ap (option_map BadVersion) (fault_of-Err text Empty (reads (λ e. cc)))
read-refused text EpochEmpty reads differs = ap (option_map BadVersion) (fault_of-Err text EpochEmpty (reads (λ e. cc)))
read-refused text EpochNotNumber reads differs = ap (option_map BadVersion) (fault_of-Err text EpochNotNumber (reads (λ e. cc)))
read-refused text EpochTooLarge reads differs = ap (option_map BadVersion) (fault_of-Err text EpochTooLarge (reads (λ e. cc)))
read-refused text UpstreamEmpty reads differs = ap (option_map BadVersion) (fault_of-Err text UpstreamEmpty (reads (λ e. cc)))
read-refused text (UpstreamBad place) reads differs = ap (option_map BadVersion) (fault_of-Err text (UpstreamBad place) (reads (λ e. cc)))
read-refused text RevisionEmpty reads differs = ap (option_map BadVersion) (fault_of-Err text RevisionEmpty (reads (λ e. cc)))
read-refused text (RevisionBad place) reads differs = ap (option_map BadVersion) (fault_of-Err text (RevisionBad place) (reads (λ e. cc)))
read-refused text TooLong reads differs = ap (option_map BadVersion) (fault_of-Err text TooLong (reads (λ e. cc)))
read-refused text NoMemory reads differs = absurd (differs refl)

pub relations-refused : (text : List ℕ) (fault : RelationFault) (refusal : Refusal)
    → (fault ≡ NoRelationMemory → refusal ≡ Memory) → (fault ≢ NoRelationMemory → refusal ≡ BadRelations (Some fault))
    → (fault ≢ NoRelationMemory → relations_of text ≡ Err fault) → refusal ≢ Memory → relations_refusal text ≡ Some refusal
relations-refused text fault refusal memory others reads differs =
    let no : fault ≢ NoRelationMemory = λ e. differs (memory e) in
    ap (λ reading. option_map (λ one. BadRelations (Some one)) (result_err reading)) (reads no) ∙ ap Some (sym (others no))

-- where no memory was left for a version, it has no fault
pub version-memory : (text : List ℕ) (fault : VersionFault) → (fault ≡ NoMemory → IsOk (reading_of text)) → refusal_of_fault fault ≡ Memory
    → fault_of text ≡ None
version-memory text Empty reads is = cc
version-memory text EpochEmpty reads is = cc
version-memory text EpochNotNumber reads is = cc
version-memory text EpochTooLarge reads is = cc
version-memory text UpstreamEmpty reads is = cc
version-memory text (UpstreamBad place) reads is = cc
version-memory text RevisionEmpty reads is = cc
version-memory text (RevisionBad place) reads is = cc
version-memory text TooLong reads is = cc
version-memory text NoMemory reads is = fault_of-IsOk text (reads refl)

-- a text that would be refused for its length, and is not, is not too long
pub relations-short : (text : List ℕ) → (65536 < length text → ⊥) → nat_lt relations_limit (length text) ≡ false
relations-short text within = either (nat_lt relations_limit (length text)) refl where
  either : (b : Bool) → nat_lt relations_limit (length text) ≡ b → b ≡ false
  either false e = refl
  either true e = absurd (within (ltb-true relations_limit (length text) e))

-- where no memory was left for relations, they are not too long
pub relations-memory : (text : List ℕ) (fault : RelationFault) (refusal : Refusal)
    → (fault ≢ NoRelationMemory → refusal ≡ BadRelations (Some fault)) → (65536 < length text → fault ≡ RelationsTooLong) → refusal ≡ Memory
    → nat_lt relations_limit (length text) ≡ false
relations-memory text fault refusal others first is = relations-short text (λ long. clash (first long)) where
  refused : fault ≡ RelationsTooLong → fault ≢ NoRelationMemory
  refused long none = cc

  clash : fault ≡ RelationsTooLong → ⊥
  clash long = let bad = others (refused long) in cc
