-- Why words are not read.
use Rattle.std.specs.Prelude.{◌≡◌, ◌≢◌, MatchResult, None, Option, Result, Some}
use Rattle.wb_words.specs.declared.fault.WordsFault.{WordsFault}
use Rattle.wb_words.specs.declared.fault.WordsFault.TheVariants.{Memory}

-- a reading of words: its value, or a fault that is out of memory or says that there is no value
abbrev pub Reads : {X : Type 0} → Option X → Result X WordsFault → Type 0
Reads value result = MatchResult result (λ read. value ≡ Some read)
    (λ fault. fault ≢ Memory → value ≡ None)
